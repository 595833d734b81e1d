-- Laws of the alternatives of a disjunction that are settled, from the last to the first.
-- Assumes nothing.
use Prim.Native.Nat.{ℕ, suc, ◌+◌, ◌<◌, ◌≤◌}
use native.Mathlib.Omega.{arith}
use mathlib.Core.Path.{◌≡◌, refl, ap, sym, ◌∙◌, subst}
use mathlib.Core.Logic.{◌⊎◌, inl, inr, ◌≢◌, ⊎_elim}
use mathlib.Core.Option.{Option, none, some}
use mathlib.Core.List.{List, [], ◌∷◌, ◌++◌, append_assoc}
use lib.ListN.{length}
use Rattle.theory.specs.Descr.{disjs}
use Rattle.theory.specs.Layout.{words, disjs_words, alts_words}
use Rattle.formulas.specs.Sheet.{Sheet, Laid, laid, Cells, gone, ◌against◌}
use Rattle.formulas.specs.Flat.{Item, wide, wide_cells}
use Rattle.formulas.specs.Homes.{Home, home_desc, home_alts, home_before, house, house_left}
use Rattle.formulas.specs.Tables.{Tables, Lies, LiesCells, SoundLaid, SoundCells, NestsLaid, NestsCells, TablesFit}
use Rattle.folding.specs.Buffer.{WordsEnd, Grows}
use Rattle.folding.specs.Homing.{Untouched, WithinHomes, NamedCome}
use Rattle.folding.specs.Settled.{Settling, SettledBy, SettlesAs, AlternativeSettles, BranchSettling}
use Rattle.folding.specs.declared.settle.Settled.{Settled}
use Rattle.std.specs.Prelude as rust
use Rattle.std.specs.Prelude.{Some, None}
use Rattle.folding.proofs.Ending.{ends_kept}
use Rattle.folding.proofs.Moving.{within_none, within_more, come_kept, come_alone, fresh_next}
use Rattle.folding.proofs.Tails.{◌joined◌, joined_none, joined_on, joined_wide, sound_middle, nests_middle}
use Rattle.folding.proofs.Tails.{LastCell, last_cell, cell_end, cell_place}
use Rattle.folding.proofs.Houses.{left_few, left_none, left_more}

-- of the alternatives from h up to m only x is left, and it is `sole`
pub record Only (b₀ : List ℕ) (len : ℕ) (hm b : List ℕ) (h m at sole count inner : ℕ) (x : Home) : Type 0 where
  pub count_is : count ≡ disjs x.rest
  pub small : h + count ≤ m
  pub low : h ≤ sole
  pub high : sole < m
  pub come : NamedCome hm h m sole x.names
  pub further : len ≤ inner
  pub most : inner ≤ at
  pub inner_is : (ws : List ℕ) → WordsEnd b₀ len ws → WordsEnd b inner (disjs_words x.rest ++ ws)

abbrev pub Alone : (b₀ : List ℕ) (len : ℕ) (hm b : List ℕ) (h m at sole count inner : ℕ) → List Home → Type 0
Alone b₀ len hm b h m at sole count inner [] = Unit {0}
Alone b₀ len hm b h m at sole count inner (x ∷ []) = Only b₀ len hm b h m at sole count inner x
Alone b₀ len hm b h m at sole count inner (x ∷ (y ∷ l)) = Unit {0}

-- the alternatives `later`, from h on, are settled, and hs is left of them; `pointer` is the last of the others
pub record Between (T : Tables) (hm₀ b₀ : List ℕ) (len k last left : ℕ) (c : BranchSettling T hm₀ k last left) (hm b : List ℕ)
    (at pointer kept sole count inner : ℕ) : Type 0 where
  pub first : Cells
  pub later : Cells
  pub h : ℕ
  pub hs : List Home
  pub split : c.a ≡ first joined later
  pub lies : LiesCells T c.L c.g c.g c.z c.O first pointer
  pub place : h ≡ c.g + wide_cells first
  pub left_is : hs ≡ house_left c.L h later
  pub homes : WithinHomes hm₀ hm h (c.g + wide_cells c.a)
  pub kept_is : kept ≡ length hs
  pub ends : (ws : List ℕ) → WordsEnd b₀ len ws → WordsEnd b at (alts_words (home_alts hs) ++ ws)
  pub alone : Alone b₀ len hm b h (c.g + wide_cells c.a) at sole count inner hs

-- ---- an alternative that is settled
module _ (T : Tables) (L : List Item) (O : Sheet) (hm : List ℕ) (p left : ℕ) where
  -- what is asked of an alternative that lies from p up to h
  record Cell (d : Laid) (h : ℕ) : Type 0 where
    size : h ≡ suc p + wide d
    fit : TablesFit T L (length hm)
    lies : Lies T L p O d
    sound : SoundLaid d
    nests : NestsLaid d left
    few : h ≤ length hm
    fresh : Untouched hm p h

  cell_asked : (d : Laid) (h : ℕ) → Cell d h → Settling T hm p left
  cell_asked (laid A ds) h u = record {
    L = L;
    O = O;
    A = A;
    ds = ds;
    fit = u.fit;
    lies = u.lies;
    sound = u.sound;
    nests = u.nests;
    few = let e = u.size in let l = u.few in omega arith;
    fresh = subst (λ (z : ℕ). Untouched hm p z) u.size u.fresh;
  }

  cell_told : (d : Laid) (h : ℕ) → Cell d h → (b : List ℕ) (at : ℕ) (r : rust.Option Settled) (hm' b' : List ℕ) →
      AlternativeSettles T hm b at p left r hm' b' →
      WithinHomes hm hm' p h × SettledBy hm' b b' at p h (house L p d) r
  unfolding cell_asked
  cell_told (laid A ds) h u b at r hm' b' s =
      let c : Settling T hm p left = cell_asked (laid A ds) h u in
      subst (λ (z : ℕ). WithinHomes hm hm' p z × SettledBy hm' b b' at p z (house L p (laid A ds)) r) (sym u.size)
      (s.homes c, s.answer c)

module _ (hm' b b' : List ℕ) (at p h : ℕ) where
  told_clash : (o : Option Home) (r : rust.Option Settled) → SettledBy hm' b b' at p h o r → r ≡ None → o ≡ none
  told_clash none r s e = refl
  told_clash (some x) r (y, i, s) e = let z : ◌≡◌ {A = ℕ} 0 1 = cc in absurd (omega arith)

  told_fine : (o : Option Home) (r : rust.Option Settled) (y : Settled) → SettledBy hm' b b' at p h o r → r ≡ Some y →
      (x : Home) × (o ≡ some x) × SettlesAs hm' b b' at p h x y.count y.inner y.whole
  told_fine none r y s e = let z : ◌≡◌ {A = ℕ} 0 1 = cc in absurd (omega arith)
  told_fine (some x) r y (z, i, s) e =
      let same : z ≡ y = cc in
      (x, refl, subst (λ (v : Settled). SettlesAs hm' b b' at p h x v.count v.inner v.whole) same s)

-- what is alone stays so beside a clash
alone_kept : (b₀ : List ℕ) (len : ℕ) (hm₀ hm hm' b b' : List ℕ) (p h m at sole count inner : ℕ) → p ≤ h → h ≤ m → WithinHomes hm₀ hm h m →
    WithinHomes hm hm' p h → Grows b at b' at → (hs : List Home) → Alone b₀ len hm b h m at sole count inner hs →
    Alone b₀ len hm' b' p m at sole count inner hs
alone_kept b₀ len hm₀ hm hm' b b' p h m at sole count inner low high u v g [] a = tt
alone_kept b₀ len hm₀ hm hm' b b' p h m at sole count inner low high u v g (x ∷ []) a =
    let few = a.small in
    let from = a.low in
    let most = a.most in
    let on : Grows b inner b' at = record { same = g.same; rest = λ j l. g.rest j (omega arith); more = most; most = g.most } in
    record {
      count_is = a.count_is;
      small = omega arith;
      low = omega arith;
      high = a.high;
      come = come_kept hm₀ hm hm' p h m low high u v sole x.names from a.come;
      further = a.further;
      most = most;
      inner_is = λ ws e. ends_kept b b' inner at (disjs_words x.rest ++ ws) on (a.inner_is ws e);
    }
alone_kept b₀ len hm₀ hm hm' b b' p h m at sole count inner low high u v g (x ∷ (y ∷ l)) a = tt

-- and one that is left is alone if no other is
alone_new : (b₀ : List ℕ) (len : ℕ) (hm₀ hm hm' b b' : List ℕ) (p h m at more from whole : ℕ) → p < h → h ≤ m → len ≤ at →
    WithinHomes hm₀ hm h m → WithinHomes hm hm' p h → (x : Home) → SettlesAs hm' b b' at p h x more from whole →
    (hs : List Home) → ((ws : List ℕ) → WordsEnd b₀ len ws → WordsEnd b at (alts_words (home_alts hs) ++ ws)) →
    Alone b₀ len hm' b' p m whole p more from (x ∷ hs)
alone_new b₀ len hm₀ hm hm' b b' p h m at more from whole low high far u v x s [] ends =
    let few = s.small in
    let (on, most) = s.more in
    record {
      count_is = s.count_is;
      small = omega arith;
      low = omega arith;
      high = omega arith;
      come = come_alone hm₀ hm hm' p h m (omega arith) high u v x.names low s.come;
      further = omega arith;
      most = most;
      inner_is = λ ws e. s.inner_is ws (ends ws e);
    }
alone_new b₀ len hm₀ hm hm' b b' p h m at more from whole low high far u v x s (y ∷ l) ends = tt

module _ (T : Tables) (hm₀ b₀ : List ℕ) (len k last left : ℕ) (c : BranchSettling T hm₀ k last left) where
  -- its last alternative, and the number of the first
  pub branch_last : (last < length hm₀) × (T.group last ≡ c.g)
  branch_last =
      let few = c.few in
      let (low, high, group) = cell_end T c.L c.O c.g c.g c.z c.a last c.some_left c.lies in
      (omega arith, group)

  pub between_start : Between T hm₀ b₀ len k last left c hm₀ b₀ len last 0 0 0 0
  between_start = record {
    first = c.a;
    later = gone;
    h = c.g + wide_cells c.a;
    hs = [];
    split = sym (joined_none c.a);
    lies = c.lies;
    place = refl;
    left_is = sym (left_none c.L (c.g + wide_cells c.a));
    homes = within_none hm₀ (c.g + wide_cells c.a);
    kept_is = refl;
    ends = λ ws e. e;
    alone = tt;
  }

  module _ (hm b : List ℕ) (at pointer kept sole count inner : ℕ)
      (u : Between T hm₀ b₀ len k last left c hm b at pointer kept sole count inner) where
    sizes : wide_cells c.a ≡ wide_cells u.first + wide_cells u.later
    sizes = ap wide_cells u.split ∙ joined_wide u.first u.later

    pub pointer_low : pointer < length hm₀
    pointer_low =
        let few = c.few in
        let s = c.some_left in
        let e = sizes in
        ⊎_elim (λ (q : pointer ≡ c.z). ⊎_elim (λ (o : c.z ≡ 0). omega arith) (λ (o : (c.z < c.g) × (T.group c.z < c.g)).
        let l = o.0 in omega arith) c.others)
        (λ (q : (c.g ≤ pointer) × (pointer < c.g + wide_cells u.first) × (T.group pointer ≡ c.g)). let l = q.1 in omega arith)
        (cell_place T c.L c.O c.g c.g c.z u.first pointer u.lies)

    pub kept_few : kept ≤ length hm₀
    kept_few =
        let few = c.few in
        let e = sizes in
        let n = u.kept_is in
        let s = ap length u.left_is in
        let l = left_few c.L u.h u.later in
        omega arith

    -- where the pointer is of this disjunction, an alternative is to be settled, and else none
    pub cell_last : pointer ≢ 0 → T.group pointer ≡ c.g → LastCell T c.L c.O c.g c.g c.z u.first pointer
    cell_last n e = go (last_cell T c.L c.O c.g c.g c.z u.first pointer u.lies)
      where
        go : ((u.first ≡ gone) × (pointer ≡ c.z)) ⊎ LastCell T c.L c.O c.g c.g c.z u.first pointer →
            LastCell T c.L c.O c.g c.g c.z u.first pointer
        go (inl (q, i)) = ⊎_elim (λ (o : c.z ≡ 0). absurd (n (i ∙ o)))
            (λ (o : (c.z < c.g) × (T.group c.z < c.g)). let s = ap T.group i in let l = o.1 in absurd (omega arith)) c.others
        go (inr w) = w

    pub cell_none : (pointer ≡ 0) ⊎ (T.group pointer ≢ c.g) → (u.first ≡ gone) × (pointer ≡ c.z)
    cell_none o = go (last_cell T c.L c.O c.g c.g c.z u.first pointer u.lies) o
      where
        go : ((u.first ≡ gone) × (pointer ≡ c.z)) ⊎ LastCell T c.L c.O c.g c.g c.z u.first pointer →
            (pointer ≡ 0) ⊎ (T.group pointer ≢ c.g) → (u.first ≡ gone) × (pointer ≡ c.z)
        go (inl q) o = q
        go (inr w) (inl e) = let l = c.after in let s = w.place in absurd (omega arith)
        go (inr w) (inr n) = absurd (n w.group)

    module _ (w : LastCell T c.L c.O c.g c.g c.z u.first pointer) where
      size : u.h ≡ suc pointer + wide w.d
      size =
          let e = u.place in
          let s = w.place in
          let i : wide_cells u.first ≡ wide_cells w.first + (suc (wide w.d) + 0) =
          ap wide_cells w.is ∙ joined_wide w.first (w.d against gone) in
          omega arith

      whole_is : c.a ≡ w.first joined (w.d against u.later)
      whole_is = u.split ∙ ap {B = Cells} (λ (z : Cells). z joined u.later) w.is ∙ joined_on w.first (w.d against gone) u.later

      below : u.h ≤ c.g + wide_cells c.a
      below = let e = sizes in let s = u.place in omega arith

      pub pointer_falls : T.before pointer < pointer
      pointer_falls =
          let l = c.after in
          let s = w.place in
          ⊎_elim (λ (q : T.before pointer ≡ c.z). ⊎_elim (λ (o : c.z ≡ 0). omega arith)
          (λ (o : (c.z < c.g) × (T.group c.z < c.g)). let r = o.0 in omega arith) c.others)
          (λ (q : (c.g ≤ T.before pointer) × (T.before pointer < c.g + wide_cells w.first) × (T.group (T.before pointer) ≡ c.g)).
          let r = q.1 in omega arith)
          (cell_place T c.L c.O c.g c.g c.z w.first (T.before pointer) w.firsts)

      cell : Cell T c.L c.O hm pointer left w.d u.h
      cell =
          let same = u.homes.same in
          let few = c.few in
          let l = below in
          let e = size in
          let s = w.place in
          record {
            size = size;
            fit = subst (λ (z : ℕ). TablesFit T c.L z) (sym same) c.fit;
            lies = w.lies;
            sound = sound_middle w.first w.d u.later (subst (λ (z : Cells). SoundCells z) whole_is c.sound);
            nests = nests_middle w.first w.d u.later left (subst (λ (z : Cells). NestsCells z left) whole_is c.nests);
            few = omega arith;
            fresh = fresh_next hm₀ hm c.g pointer u.h (c.g + wide_cells c.a) (omega arith) (omega arith) below c.fresh
                u.homes;
          }

      pub cell_asking : Settling T hm pointer left
      cell_asking = cell_asked T c.L c.O hm pointer left w.d u.h cell

      module _ (r : rust.Option Settled) (hm' b' : List ℕ) (s : AlternativeSettles T hm b at pointer left r hm' b') where
        told : WithinHomes hm hm' pointer u.h × SettledBy hm' b b' at pointer u.h (house c.L pointer w.d) r
        told = cell_told T c.L c.O hm pointer left w.d u.h cell b at r hm' b' s

        more_homes : WithinHomes hm₀ hm' pointer (c.g + wide_cells c.a)
        more_homes =
            let e = size in
            within_more hm₀ hm hm' pointer u.h (c.g + wide_cells c.a) (omega arith) below u.homes told.0

        left_by : (o : Option Home) → house c.L pointer w.d ≡ o →
            house_left c.L pointer (w.d against u.later) ≡ home_before o u.hs
        left_by o e = left_more c.L pointer u.h w.d u.later size
            ∙ ap (λ (z : Option Home). home_before z (house_left c.L u.h u.later)) e
            ∙ ap (λ (z : List Home). home_before o z) (sym u.left_is)

        pub between_clash : r ≡ None → Between T hm₀ b₀ len k last left c hm' b' at (T.before pointer) kept sole count inner
        between_clash e = record {
          first = w.first;
          later = w.d against u.later;
          h = pointer;
          hs = u.hs;
          split = whole_is;
          lies = w.firsts;
          place = w.place;
          left_is = sym (left_by none (told_clash hm' b b' at pointer u.h (house c.L pointer w.d) r told.1 e));
          homes = more_homes;
          kept_is = u.kept_is;
          ends = λ ws i. ends_kept b b' at at (alts_words (home_alts u.hs) ++ ws) s.kept (u.ends ws i);
          alone = let i = size in alone_kept b₀ len hm₀ hm hm' b b' pointer u.h (c.g + wide_cells c.a) at sole count inner
              (omega arith) below u.homes told.0 s.kept u.hs u.alone;
        }

        module _ (y : Settled) (e : r ≡ Some y) where
          fine : (x : Home) × (house c.L pointer w.d ≡ some x) × SettlesAs hm' b b' at pointer u.h x y.count y.inner y.whole
          fine = told_fine hm' b b' at pointer u.h (house c.L pointer w.d) r y told.1 e

          pub fine_grows : (at ≤ y.whole) × (y.whole ≤ suc (length b))
          fine_grows = let (on, most) = fine.2.more in (omega arith, fine.2.most)

          pub between_fine : len ≤ at → Between T hm₀ b₀ len k last left c hm' b' y.whole (T.before pointer) (kept + 1) pointer y.count y.inner
          between_fine far = record {
            first = w.first;
            later = w.d against u.later;
            h = pointer;
            hs = fine.0 ∷ u.hs;
            split = whole_is;
            lies = w.firsts;
            place = w.place;
            left_is = sym (left_by (some fine.0) fine.1);
            homes = more_homes;
            kept_is = let n = u.kept_is in omega arith;
            ends = λ ws i. subst (λ (z : List ℕ). WordsEnd b' y.whole z)
                (sym (append_assoc (words (home_desc fine.0)) (alts_words (home_alts u.hs)) ws))
                (fine.2.whole_is (alts_words (home_alts u.hs) ++ ws) (u.ends ws i));
            alone = let i = size in alone_new b₀ len hm₀ hm hm' b b' pointer u.h (c.g + wide_cells c.a) at y.count y.inner y.whole
                (omega arith) below far u.homes told.0 fine.0 fine.2 u.hs u.ends;
          }
