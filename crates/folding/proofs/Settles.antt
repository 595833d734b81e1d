-- Laws of settling an alternative, from its last disjunction to its first.
-- Assumes nothing.
use Prim.Native.Nat.{ℕ, suc, ◌+◌, ◌-◌, ◌<◌, ◌≤◌}
use native.Mathlib.Omega.{arith}
use mathlib.Core.Path.{◌≡◌, refl, ap, sym, ◌∙◌, subst}
use mathlib.Core.Logic.{◌⊎◌, inl, inr, ◌≢◌, ⊎_elim}
use mathlib.Core.Option.{Option, none, some}
use mathlib.Core.List.{List, [], ◌∷◌, ◌++◌, append_assoc}
use lib.ListN.{length}
use Rattle.theory.specs.Net.{Graph}
use Rattle.theory.specs.Descr.{Disjs, desc, end, disjs}
use Rattle.theory.specs.Layout.{words, disjs_words}
use Rattle.layout.specs.Standing.{graph_words}
use Rattle.formulas.specs.Sheet.{Sheet, Sound, ◌plus◌, laid, Rows, over, ◌besides◌, ◌next◌, sheet_graph}
use Rattle.formulas.specs.Flat.{wide_rows, wide_cells}
use Rattle.formulas.specs.Homes.{all_picked, HandedOver, handed_over, home_closed, house, house_all, house_left}
use Rattle.formulas.specs.Tables.{Tables, LiesRows, SoundRows, NestsRows, NestsCells, TablesFit}
use Rattle.formulas.proofs.Flat.{rows_next}
use Rattle.formulas.proofs.Homes.{house_sound, rows_named}
use Rattle.folding.specs.Buffer.{WordsEnd, Grows}
use Rattle.parting.specs.Parted.{Part, Parting}
use Rattle.folding.specs.Homing.{Untouched, WithinHomes, BranchHomes, NamedCome}
use Rattle.folding.specs.Settled.{Settling, ClosedBy, AlternativeCloses, SettledBy, AlternativeSettles, BranchSettling, BranchesAs}
use Rattle.folding.specs.Settled.{BranchedBy, BranchSettles}
use Rattle.folding.specs.declared.settle.Settled.{Settled}
use Rattle.std.specs.Prelude as rust
use Rattle.std.specs.Prelude.{Some, None}
use Rattle.folding.specs.declared.settle.Branch.{Branch}
use Rattle.folding.proofs.Ending.{ends_kept, grows_none, grows_less, grows_on}
use Rattle.folding.proofs.Moving.{branch_none, nothing_come, fresh_branch, branch_more, come_more}
use Rattle.folding.proofs.Moving.{within_owner, come_owner, all_come}
use Rattle.folding.proofs.Tails.{next_none, next_on, sound_row, nests_row, LastRow, last_row, cell_end, row_place}
use Rattle.folding.proofs.Houses.{house_over, house_more, house_next_none, house_none, house_some}
use Rattle.folding.proofs.Gathering.{part_is}

-- the disjunctions `later`, from g on, are settled, and `old` is left of them; `last` is where the others end
pub record Under (T : Tables) (hm₀ b₀ : List ℕ) (len k left : ℕ) (c : Settling T hm₀ k left) (hm b : List ℕ)
    (at last count : ℕ) : Type 0 where
  pub first : Rows
  pub later : Rows
  pub g : ℕ
  pub old : HandedOver
  pub split : c.ds ≡ first next later
  pub lies : LiesRows T c.L (suc k) 0 c.A first last
  pub place : g ≡ suc k + wide_rows first
  pub houses : house_all c.L g later ≡ some old
  pub counts : count ≡ disjs old.left
  pub small : g + count ≤ suc k + wide_rows c.ds
  pub homes : BranchHomes hm₀ hm k g (suc k + wide_rows c.ds)
  pub come : NamedCome hm g (suc k + wide_rows c.ds) k old.names
  pub ends : (ws : List ℕ) → WordsEnd b₀ len ws → WordsEnd b at (disjs_words old.left ++ ws)

module _ (hm' b b' : List ℕ) (len k g m z : ℕ) (old : HandedOver) where
  told_dead : (o : Option HandedOver) (r : rust.Option Branch) → BranchedBy hm' b b' len k g m z old o r → r ≡ None → o ≡ none
  told_dead none r s e = refl
  told_dead (some x) r (v, i, w, s) e = let y : ◌≡◌ {A = ℕ} 0 1 = cc in absurd (omega arith)

  told_left : (o : Option HandedOver) (r : rust.Option Branch) (y : Branch) → BranchedBy hm' b b' len k g m z old o r → r ≡ Some y →
      (y.before ≡ z) × ((new : HandedOver) × (o ≡ some new) × BranchesAs hm' b b' len k g m old new y.count y.inner)
  told_left none r y s e = let v : ◌≡◌ {A = ℕ} 0 1 = cc in absurd (omega arith)
  told_left (some x) r y (v, i, w, s) e =
      let same : v ≡ y = cc in (
        subst (λ (u : Branch). u.before ≡ z) same w,
        (x, refl, subst (λ (u : Branch). BranchesAs hm' b b' len k g m old x u.count u.inner) same s),
      )

words_are : (G : Graph) (ds : Disjs) (count : ℕ) → count ≡ disjs ds → (ws : List ℕ) →
    (graph_words G ++ count ∷ []) ++ (disjs_words ds ++ ws) ≡ words (desc G ds) ++ ws
words_are G ds count n ws = append_assoc (graph_words G) (count ∷ []) (disjs_words ds ++ ws)
    ∙ ap (λ (z : ℕ). graph_words G ++ z ∷ (disjs_words ds ++ ws)) n
    ∙ sym (append_assoc (graph_words G) (disjs ds ∷ disjs_words ds) ws)

module _ (T : Tables) (hm₀ b₀ : List ℕ) (len k left : ℕ) (c : Settling T hm₀ k left) where
  abbrev m : ℕ
  m = suc k + wide_rows c.ds

  under_start : Under T hm₀ b₀ len k left c hm₀ b₀ len (T.last k) 0
  under_start = record {
    first = c.ds;
    later = over;
    g = m;
    old = record { names = []; left = end };
    split = sym (next_none c.ds);
    lies = c.lies.1;
    place = refl;
    houses = house_over c.L m;
    counts = refl;
    small = omega arith;
    homes = branch_none hm₀ k m;
    come = nothing_come hm₀ k m;
    ends = λ ws e. e;
  }

  module _ (hm b : List ℕ) (at last count : ℕ) (u : Under T hm₀ b₀ len k left c hm b at last count) where
    sizes : wide_rows c.ds ≡ wide_rows u.first + wide_rows u.later
    sizes = ap wide_rows u.split ∙ rows_next u.first u.later

    below : u.g ≤ m
    below = let e = sizes in let s = u.place in omega arith

    fit : TablesFit T c.L (length hm)
    fit = subst (λ (z : ℕ). TablesFit T c.L z) (sym u.homes.same) c.fit

    -- where `last` is an alternative, a disjunction is to be settled, and else none
    row_last : last ≢ 0 → LastRow T c.L c.A (suc k) 0 u.first last
    row_last n = ⊎_elim (λ (q : (u.first ≡ over) × (last ≡ 0)). absurd (n q.1))
        (λ (w : LastRow T c.L c.A (suc k) 0 u.first last). w) (last_row T c.L c.A (suc k) 0 u.first last u.lies)

    module _ (w : LastRow T c.L c.A (suc k) 0 u.first last) where
      size : u.g ≡ w.g + wide_cells w.a
      size =
          let e = u.place in
          let s = w.place in
          let i : wide_rows u.first ≡ wide_rows w.first + (wide_cells w.a + 0) =
          ap wide_rows w.is ∙ rows_next w.first (w.a besides over) in
          omega arith

      whole_is : c.ds ≡ w.first next (w.a besides u.later)
      whole_is = u.split ∙ ap {B = Rows} (λ (z : Rows). z next u.later) w.is ∙ next_on w.first (w.a besides over) u.later

      nests : (0 < left) × NestsCells w.a (left - 1)
      nests = nests_row w.first w.a u.later left (subst (λ (z : Rows). NestsRows z left) whole_is c.nests)

      end_in : (w.g ≤ last) × (last < w.g + wide_cells w.a) × (T.group last ≡ w.g)
      end_in = cell_end T c.L c.A w.g w.g w.y w.a last w.some_left w.lies

      others : (w.y ≡ 0) ⊎ ((w.y < w.g) × (T.group w.y < w.g))
      others =
          let s = w.place in
          ⊎_elim (λ (e : w.y ≡ 0). inl e)
          (λ (q : (suc k ≤ w.y) × (w.y < suc k + wide_rows w.first) × (T.group w.y < suc k + wide_rows w.first)).
          let l = q.1 in let h = q.2 in inr (omega arith, omega arith))
          (row_place T c.L c.A (suc k) 0 w.first w.y w.firsts)

      left_some : 0 < left
      left_some = nests.0

      last_falls : w.y < last
      last_falls =
          let l = end_in.0 in
          let s = w.place in
          ⊎_elim (λ (e : w.y ≡ 0). omega arith) (λ (q : (w.y < w.g) × (T.group w.y < w.g)). let h = q.0 in omega arith) others

      row_asking : BranchSettling T hm k last (left - 1)
      row_asking =
          let e = size in
          let s = w.place in
          let same = u.homes.same in
          let few = c.few in
          let l = below in
          record {
            L = c.L;
            O = c.A;
            a = w.a;
            g = w.g;
            z = w.y;
            fit = fit;
            after = omega arith;
            some_left = w.some_left;
            lies = w.lies;
            others = others;
            sound = sound_row w.first w.a u.later (subst (λ (z : Rows). SoundRows z) whole_is c.sound.1);
            nests = nests.1;
            few = omega arith;
            fresh = subst (λ (z : ℕ). Untouched hm w.g z) size
                (fresh_branch hm₀ hm k w.g u.g m (omega arith) (omega arith) below u.homes c.fresh);
            owner = u.homes.rest k (inl (omega arith)) ∙ c.fresh.own k (omega arith) (omega arith);
          }

      module _ (r : rust.Option Branch) (hm' b' : List ℕ) (s : BranchSettles T hm b at k last (left - 1) r hm' b') where
        abbrev joint : Option HandedOver
        joint = handed_over (house_left c.L w.g w.a) u.old

        homes_told : BranchHomes hm hm' k w.g u.g
        unfolding row_asking
        homes_told = subst (λ (z : ℕ). BranchHomes hm hm' k w.g z) (sym size) (s.homes row_asking)

        answer_told : BranchedBy hm' b b' at k w.g u.g w.y u.old joint r
        unfolding row_asking
        answer_told = subst (λ (z : ℕ). BranchedBy hm' b b' at k w.g z w.y u.old joint r)
            (sym size) (s.answer row_asking u.old)

        more_homes : BranchHomes hm₀ hm' k w.g m
        more_homes = let e = size in let i = w.place in
            branch_more hm₀ hm k w.g u.g m (omega arith) (omega arith) below u.homes hm' homes_told

        house_is : house_all c.L w.g (w.a besides u.later) ≡ joint
        house_is = house_more c.L w.g u.g w.a u.later u.old size u.houses

        dead_homes : WithinHomes hm₀ hm' k m
        dead_homes = let e = size in let i = w.place in let l = below in
            within_owner hm₀ hm' k w.g m (omega arith) (omega arith) c.fresh more_homes

        dead_house : r ≡ None → house c.L k (laid c.A c.ds) ≡ none
        dead_house e = house_none c.L k c.A c.ds (subst (λ (z : Rows). house_all c.L (suc k) z ≡ none) (sym whole_is)
            (house_next_none c.L (suc k) w.g w.first (w.a besides u.later) w.place
            (house_is ∙ told_dead hm' b b' at k w.g u.g w.y u.old joint r answer_told e)))

        module _ (y : Branch) (e : r ≡ Some y) where
          left_told : (y.before ≡ w.y) × ((new : HandedOver) × (joint ≡ some new)
              × BranchesAs hm' b b' at k w.g u.g u.old new y.count y.inner)
          left_told = told_left hm' b b' at k w.g u.g w.y u.old joint r y answer_told e

          left_grows : (y.before < last) × (at ≤ y.inner) × (y.inner ≤ suc (length b)) × (count + y.count ≤ length hm₀)
          left_grows =
              let q = left_told.0 in
              let x = left_told.1.2 in
              let l = last_falls in
              let far = x.further in
              let top = x.most in
              let few = c.few in
              let room = u.small in
              let less = x.small in
              (omega arith, far, top, omega arith)

          under_more : Under T hm₀ b₀ len k left c hm' b' y.inner y.before (count + y.count)
          under_more =
              let q = left_told.0 in
              let new = left_told.1.0 in
              let x = left_told.1.2 in
              let i = w.place in
              let room = u.small in
              let less = x.small in
              let n = u.counts in
              let total = x.more_is in
              let (names, is, come) = x.come in
              let same = size in
              record {
                first = w.first;
                later = w.a besides u.later;
                g = w.g;
                old = new;
                split = whole_is;
                lies = subst (λ (z : ℕ). LiesRows T c.L (suc k) 0 c.A w.first z) (sym q) w.firsts;
                place = w.place;
                houses = house_is ∙ left_told.1.1;
                counts = omega arith;
                small = omega arith;
                homes = more_homes;
                come = subst (λ (z : List ℕ). NamedCome hm' w.g m k z) (sym is)
                    (come_more hm₀ hm k w.g u.g m (omega arith) (omega arith) below u.homes hm' homes_told names u.old.names
                    come u.come);
                ends = λ ws h. x.inner_is ws (u.ends ws h);
              }

    -- ---- all its disjunctions are settled
    module _ (done : last ≡ 0) where
      empty : u.first ≡ over
      empty = ⊎_elim (λ (q : (u.first ≡ over) × (last ≡ 0)). q.0)
          (λ (w : LastRow T c.L c.A (suc k) 0 u.first last). let l = (end_in w).0 in let s = w.place in absurd (omega arith))
          (last_row T c.L c.A (suc k) 0 u.first last u.lies)

      at_k : u.g ≡ suc k
      at_k = let e = ap wide_rows empty in let s = u.place in omega arith

      rows_are : c.ds ≡ u.later
      rows_are = u.split ∙ ap {B = Rows} (λ (z : Rows). z next u.later) empty

      all_settled : house_all c.L (suc k) c.ds ≡ some u.old
      all_settled = subst (λ (z : Rows). house_all c.L (suc k) z ≡ some u.old) (sym rows_are)
          (subst (λ (z : ℕ). house_all c.L z u.later ≡ some u.old) at_k u.houses)

      homes_are : BranchHomes hm₀ hm k (suc k) m
      homes_are = subst (λ (z : ℕ). BranchHomes hm₀ hm k z m) at_k u.homes

      come_are : NamedCome hm (suc k) m k u.old.names
      come_are = subst (λ (z : ℕ). NamedCome hm z m k u.old.names) at_k u.come

      abbrev sheet : Sheet
      sheet = c.A plus all_picked u.old.names c.L

      sound_is : Sound sheet
      sound_is = house_sound c.L c.ds c.A (suc k) u.old (rows_named T c.L c.ds (suc k) 0 c.A (T.last k) c.lies.1)
          c.sound.1 c.sound.0 all_settled

      come_to_k : NamedCome hm k m k (k ∷ u.old.names)
      come_to_k = come_owner hm₀ hm k m (omega arith) c.fresh homes_are u.old.names come_are

      part_of_k : Part T hm k sheet
      part_of_k = part_is hm k u.old.names (λ j i. (come_to_k.named j i).2)
          (all_come hm₀ hm k m (omega arith) c.fresh homes_are u.old.names come_are)
          T c.L fit c.lies.0.0 c.lies.0.1 c.A c.lies.0.2

      parting : Parting T hm k
      parting = record { L = c.L; fit = fit; A = sheet; sound = sound_is; part = part_of_k }

      done_homes : WithinHomes hm₀ hm k m
      done_homes = within_owner hm₀ hm k (suc k) m (omega arith) (omega arith) c.fresh homes_are

      module _ (grown : Grows b₀ len b at) (r : rust.Option Settled) (b' : List ℕ) (s : AlternativeCloses T hm b at count k r b') where
        closed : (o : Option Graph) → ClosedBy b b' at count o r →
            SettledBy hm b₀ b' len k m (home_closed (k ∷ u.old.names) u.old.left o) r
        closed none e = e
        closed (some G) (whole, e, puts) =
            let far = grown.more in
            let size = grown.same in
            let on = puts.grows.more in
            let most = puts.grows.most in
            let room = u.small in
            let i = at_k in (
              record { count = count; inner = at; whole = whole },
              e,
              record {
                count_is = u.counts;
                small = omega arith;
                come = come_to_k;
                more = (far, on);
                most = omega arith;
                inner_is = λ ws h. ends_kept b b' at whole (disjs_words u.old.left ++ ws) puts.grows (u.ends ws h);
                whole_is = λ ws h. subst (λ (z : List ℕ). WordsEnd b' whole z) (words_are G u.old.left count u.counts ws)
                    (puts.before (disjs_words u.old.left ++ ws) (u.ends ws h));
              },
            )

        done_answer : SettledBy hm b₀ b' len k m (house c.L k (laid c.A c.ds)) r
        done_answer = rw (house_some c.L k c.A c.ds u.old all_settled)
            (closed (sheet_graph sheet) (s.answer sheet sound_is part_of_k))

-- ---- the loop over the disjunctions
pub record Rising (T : Tables) (hm₀ b₀ : List ℕ) (len k left : ℕ) (hm b : List ℕ) (at last count : ℕ) : Type 0 where
  pub size : length hm ≡ length hm₀
  pub grown : Grows b₀ len b at
  pub under : (c : Settling T hm₀ k left) → Under T hm₀ b₀ len k left c hm b at last count

pub rising_start : (T : Tables) (hm b : List ℕ) (len k left last : ℕ) → len ≤ suc (length b) → last ≡ T.last k →
    Rising T hm b len k left hm b len last 0
rising_start T hm b len k left last l e = record {
  size = refl;
  grown = grows_none b len l;
  under = λ c. subst (λ (z : ℕ). Under T hm b len k left c hm b len z 0) (sym e) (under_start T hm b len k left c);
}

module _ {T : Tables} {hm₀ b₀ : List ℕ} {len k left : ℕ} {hm b : List ℕ} {at last count : ℕ}
    (v : Rising T hm₀ b₀ len k left hm b at last count) where
  module _ (n : last ≢ 0) where
    here : (c : Settling T hm₀ k left) → LastRow T c.L c.A (suc k) 0 (v.under c).first last
    here c = row_last T hm₀ b₀ len k left c hm b at last count (v.under c) n

    pub rising_asks : Settling T hm₀ k left → (0 < left) × BranchSettling T hm k last (left - 1)
    rising_asks c = (
      left_some T hm₀ b₀ len k left c hm b at last count (v.under c) (here c),
      row_asking T hm₀ b₀ len k left c hm b at last count (v.under c) (here c),
    )

    module _ {r : rust.Option Branch} {hm' b' : List ℕ} (s : BranchSettles T hm b at k last (left - 1) r hm' b') where
      pub rising_dead : r ≡ None → AlternativeSettles T hm₀ b₀ len k left None hm' b'
      rising_dead e = record {
        size = s.size ∙ v.size;
        kept = grows_less b₀ b' len at (grows_on b₀ b b' len at at v.grown s.kept);
        homes = λ c. dead_homes T hm₀ b₀ len k left c hm b at last count (v.under c) (here c) r hm' b' s;
        answer = λ c. rw (dead_house T hm₀ b₀ len k left c hm b at last count (v.under c) (here c) r hm' b' s e) refl;
      }

      module _ (asked : Settling T hm₀ k left) (y : Branch) (e : r ≡ Some y) where
        pub rising_less : (y.before < last) × (count + y.count ≤ length hm₀)
        rising_less =
            let x = left_grows T hm₀ b₀ len k left asked hm b at last count (v.under asked) (here asked) r hm' b' s y e in
            (x.0, x.3)

        pub rising_more : Rising T hm₀ b₀ len k left hm' b' y.inner y.before (count + y.count)
        rising_more =
            let x = left_grows T hm₀ b₀ len k left asked hm b at last count (v.under asked) (here asked) r hm' b' s y e in
            let further : Grows b at b' y.inner = record { same = s.kept.same; rest = s.kept.rest; more = x.1; most = x.2 } in
            record {
              size = s.size ∙ v.size;
              grown = grows_on b₀ b b' len at y.inner v.grown further;
              under = λ c. under_more T hm₀ b₀ len k left c hm b at last count (v.under c) (here c) r hm' b' s y e;
            }

  module _ (done : last ≡ 0) where
    pub rising_parts : Settling T hm₀ k left → Parting T hm k
    rising_parts c = parting T hm₀ b₀ len k left c hm b at last count (v.under c) done

    pub rising_done : {r : rust.Option Settled} {b' : List ℕ} → AlternativeCloses T hm b at count k r b' →
        AlternativeSettles T hm₀ b₀ len k left r hm b'
    rising_done {r} {b'} s = record {
      size = v.size;
      kept = grows_less b₀ b' len at (grows_on b₀ b b' len at at v.grown s.kept);
      homes = λ c. done_homes T hm₀ b₀ len k left c hm b at last count (v.under c) done;
      answer = λ c. done_answer T hm₀ b₀ len k left c hm b at last count (v.under c) done v.grown r b' s;
    }
