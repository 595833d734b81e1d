-- Laws of settling a disjunction: what becomes of it, and the loop over its alternatives.
-- Assumes nothing.
use Prim.Native.Nat.{ℕ, suc, ◌+◌, ◌<◌, ◌≤◌}
use native.Mathlib.Omega.{arith}
use mathlib.Core.Path.{◌≡◌, refl, ap, ap₂, sym, ◌∙◌, subst}
use mathlib.Core.Logic.{◌⊎◌, inl, inr, ◌≢◌}
use mathlib.Core.List.{List, [], ◌∷◌, ◌++◌, append_assoc}
use lib.ListN.{length}
use Rattle.theory.specs.Descr.{◌and◌, ◌then◌}
use Rattle.theory.specs.Layout.{disjs_words, alts_words}
use Rattle.formulas.specs.Sheet.{Cells, gone}
use Rattle.formulas.specs.Flat.{wide_cells}
use Rattle.formulas.specs.Homes.{Home, home_alts, HandedOver, handed_over, house_left}
use Rattle.formulas.specs.Tables.{Tables}
use Rattle.folding.specs.Buffer.{WordsEnd, Grows}
use Rattle.folding.specs.Homing.{Untouched, WithinHomes, BranchHomes, NamedCome}
use Rattle.folding.specs.Settled.{Settling, AlternativeSettles, BranchSettling, Concludes, BranchedBy, BranchSettles}
use Rattle.folding.specs.Settled.{KeptFirst, alternative_of, count_of, inner_of}
use Rattle.folding.specs.declared.settle.Settled.{Settled}
use Rattle.folding.specs.declared.settle.Kept.{Kept}
use Rattle.std.specs.Prelude as rust
use Rattle.std.specs.Prelude.{Some, None}
use Rattle.folding.specs.declared.settle.Branch.{Branch}
use Rattle.folding.proofs.Ending.{grows_none, grows_less, grows_on}
use Rattle.folding.proofs.Moving.{branch_same, come_none, branch_folded, come_folded}
use Rattle.folding.proofs.Tails.{◌joined◌, LastCell}
use Rattle.folding.proofs.Houses.{disjs_then, words_then, alts_many}
use Rattle.folding.proofs.Cells.{Alone, Between, branch_last, between_start, pointer_low, kept_few, cell_last, cell_none}
use Rattle.folding.proofs.Cells.{pointer_falls, cell_asking, between_clash, fine_grows, between_fine}

-- ---- what becomes of a disjunction
folded_words : (x : Home) (old : HandedOver) (ws : List ℕ) →
    disjs_words (x.rest then old.left) ++ ws ≡ disjs_words x.rest ++ (disjs_words old.left ++ ws)
folded_words x old ws = ap (λ (z : List ℕ). z ++ ws) (words_then x.rest old.left)
    ∙ append_assoc (disjs_words x.rest) (disjs_words old.left) ws

several_words : (hs : List Home) (kept : ℕ) → kept ≡ length hs → (old : HandedOver) (ws : List ℕ) →
    kept ∷ (alts_words (home_alts hs) ++ (disjs_words old.left ++ ws)) ≡ disjs_words (home_alts hs and old.left) ++ ws
several_words hs kept n old ws = ap₂ {C = List ℕ} ◌∷◌ (n ∙ sym (alts_many hs))
    (sym (append_assoc (alts_words (home_alts hs)) (disjs_words old.left) ws))

module _ (hm₀ b₀ : List ℕ) (len k g m z : ℕ) (after : k < g) (some_left : g < m) (few : m ≤ length hm₀) (f : Untouched hm₀ g m)
    (hm b : List ℕ) (at kept sole count inner : ℕ) (u : WithinHomes hm₀ hm g m) (grown : Grows b₀ len b at)
    (r : rust.Option Branch) (hm' b' : List ℕ) (t : Concludes hm b at k kept sole count inner z r hm' b') where
  concluded : (hs : List Home) → kept ≡ length hs → ((ws : List ℕ) → WordsEnd b₀ len ws → WordsEnd b at (alts_words (home_alts hs) ++ ws)) →
      Alone b₀ len hm b g m at sole count inner hs →
      BranchHomes hm₀ hm' k g m × ((old : HandedOver) → BranchedBy hm' b₀ b' len k g m z old (handed_over hs old) r)
  concluded [] n ends a =
      let (e, same, kept) = t.none_left n in
      (subst (λ (y : List ℕ). BranchHomes hm₀ y k g m) (sym same) (branch_same hm₀ hm hm k g m 0 after f u), λ old. e)
  concluded (x ∷ []) n ends a =
      let (e, moves, kept) = t.one_left n in
      let most = a.most in
      let room = grown.most in
      let size = grown.same in (
        branch_folded hm₀ hm hm' k g m sole after f u a.low a.high few moves,
        λ old. (
          record { count = count; inner = inner; before = z },
          e,
          refl,
          record {
            more_is = let s = disjs_then x.rest old.left in let i = a.count_is in omega arith;
            small = a.small;
            further = a.further;
            most = omega arith;
            inner_is = λ ws i. subst (λ (y : List ℕ). WordsEnd y inner (disjs_words (x.rest then old.left) ++ ws)) (sym kept)
                (subst (λ (y : List ℕ). WordsEnd b inner y) (sym (folded_words x old ws)) (a.inner_is (disjs_words old.left ++ ws) i));
            come = (x.names, refl, come_folded hm₀ hm hm' k g m sole after f u a.low a.high few moves x.names a.come);
          },
        ),
      )
  concluded (x ∷ (y ∷ l)) n ends a =
      let (from, e, same, puts) = t.several_left (omega arith) in
      let far = grown.more in
      let size = grown.same in
      let on = puts.grows.more in
      let most = puts.grows.most in (
        subst (λ (v : List ℕ). BranchHomes hm₀ v k g m) (sym same) (branch_same hm₀ hm hm k g m 0 after f u),
        λ old. (
          record { count = 1; inner = from; before = z },
          e,
          refl,
          record {
            more_is = omega arith;
            small = omega arith;
            further = omega arith;
            most = omega arith;
            inner_is = λ ws i. subst (λ (v : List ℕ). WordsEnd b' from v) (several_words (x ∷ y ∷ l) kept n old ws)
                (puts.before (alts_words (home_alts (x ∷ y ∷ l)) ++ (disjs_words old.left ++ ws))
                (ends (disjs_words old.left ++ ws) i));
            come = ([], refl, subst (λ (v : List ℕ). NamedCome v g m k []) (sym same) (come_none hm₀ hm hm k g m 0 after f u));
          },
        ),
      )

-- ---- the loop over the alternatives
pub record Going (T : Tables) (hm₀ b₀ : List ℕ) (len k last left : ℕ) (hm b : List ℕ) (at pointer kept sole count inner : ℕ) : Type 0 where
  pub size : length hm ≡ length hm₀
  pub grown : Grows b₀ len b at
  pub low : sole < length hm₀
  pub between : (c : BranchSettling T hm₀ k last left) → Between T hm₀ b₀ len k last left c hm b at pointer kept sole count inner

pub last_low : (T : Tables) (hm : List ℕ) (k last left : ℕ) → BranchSettling T hm k last left → (last < length hm) × (k < length hm)
last_low T hm k last left c =
    let few = c.few in
    let on = c.after in
    ((branch_last T hm [] 0 k last left c).0, omega arith)

pub going_start : (T : Tables) (hm b : List ℕ) (len k last left : ℕ) → BranchSettling T hm k last left → len ≤ suc (length b) →
    Going T hm b len k last left hm b len last 0 0 0 0
going_start T hm b len k last left c l = record {
  size = refl;
  grown = grows_none b len l;
  low = let s = (last_low T hm k last left c).0 in omega arith;
  between = between_start T hm b len k last left;
}

module _ {T : Tables} {hm₀ b₀ : List ℕ} {len k last left : ℕ} {hm b : List ℕ} {at pointer kept sole count inner : ℕ}
    (v : Going T hm₀ b₀ len k last left hm b at pointer kept sole count inner) where
  pub going_low : BranchSettling T hm₀ k last left → (pointer < length hm₀) × (kept ≤ length hm₀)
  going_low c = (
    pointer_low T hm₀ b₀ len k last left c hm b at pointer kept sole count inner (v.between c),
    kept_few T hm₀ b₀ len k last left c hm b at pointer kept sole count inner (v.between c),
  )

  module _ (n : pointer ≢ 0) (e : T.group pointer ≡ T.group last) where
    here : (c : BranchSettling T hm₀ k last left) → LastCell T c.L c.O c.g c.g c.z (v.between c).first pointer
    here c = cell_last T hm₀ b₀ len k last left c hm b at pointer kept sole count inner (v.between c) n
        (e ∙ (branch_last T hm₀ b₀ len k last left c).1)

    pub going_asks : BranchSettling T hm₀ k last left → (T.before pointer < pointer) × Settling T hm pointer left
    going_asks c = (
      pointer_falls T hm₀ b₀ len k last left c hm b at pointer kept sole count inner (v.between c) (here c),
      cell_asking T hm₀ b₀ len k last left c hm b at pointer kept sole count inner (v.between c) (here c),
    )

    module _ {r : rust.Option Settled} {hm' b' : List ℕ} (s : AlternativeSettles T hm b at pointer left r hm' b') where
      pub going_clash : r ≡ None → Going T hm₀ b₀ len k last left hm' b' at (T.before pointer) kept sole count inner
      going_clash i = record {
        size = s.size ∙ v.size;
        grown = grows_on b₀ b b' len at at v.grown s.kept;
        low = v.low;
        between = λ c. between_clash T hm₀ b₀ len k last left c hm b at pointer kept sole count inner (v.between c) (here c) r hm' b' s i;
      }

      pub going_fine : BranchSettling T hm₀ k last left → (y : Settled) → r ≡ Some y →
          Going T hm₀ b₀ len k last left hm' b' y.whole (T.before pointer) (kept + 1) pointer y.count y.inner
      going_fine asked y i =
          let far = v.grown.more in
          let (on, most) = fine_grows T hm₀ b₀ len k last left asked hm b at pointer kept sole count inner (v.between asked) (here asked)
          r hm' b' s y i in
          let further : Grows b at b' y.whole = record { same = s.kept.same; rest = s.kept.rest; more = on; most = most } in
          record {
            size = s.size ∙ v.size;
            grown = grows_on b₀ b b' len at y.whole v.grown further;
            low = (going_low asked).0;
            between = λ c. between_fine T hm₀ b₀ len k last left c hm b at pointer kept sole count inner (v.between c) (here c) r hm' b' s
                y i far;
          }

  module _ (o : (pointer ≡ 0) ⊎ (T.group pointer ≢ T.group last)) {r : rust.Option Branch} {hm' b' : List ℕ}
      (s : Concludes hm b at k kept sole count inner pointer r hm' b') where
    module _ (c : BranchSettling T hm₀ k last left) where
      abbrev u : Between T hm₀ b₀ len k last left c hm b at pointer kept sole count inner
      u = v.between c

      past : (u.first ≡ gone) × (pointer ≡ c.z)
      past = cell_none T hm₀ b₀ len k last left c hm b at pointer kept sole count inner u (go o)
        where
          go : (pointer ≡ 0) ⊎ (T.group pointer ≢ T.group last) → (pointer ≡ 0) ⊎ (T.group pointer ≢ c.g)
          go (inl e) = inl e
          go (inr n) = inr (λ e. n (e ∙ sym (branch_last T hm₀ b₀ len k last left c).1))

      at_g : u.h ≡ c.g
      at_g = let e = ap wide_cells past.0 in let i = u.place in omega arith

      cells_are : c.a ≡ u.later
      cells_are = u.split ∙ ap {B = Cells} (λ (y : Cells). y joined u.later) past.0

      left_are : u.hs ≡ house_left c.L c.g c.a
      left_are = u.left_is ∙ ap (λ (y : ℕ). house_left c.L y u.later) at_g
          ∙ ap (λ (y : Cells). house_left c.L c.g y) (sym cells_are)

      whole : BranchHomes hm₀ hm' k c.g (c.g + wide_cells c.a)
          × ((old : HandedOver) → BranchedBy hm' b₀ b' len k c.g (c.g + wide_cells c.a) c.z old (handed_over u.hs old) r)
      whole =
          let some_left = c.some_left in
          concluded hm₀ b₀ len k c.g (c.g + wide_cells c.a) c.z c.after (omega arith) c.few c.fresh
          hm b at kept sole count inner
          (subst (λ (y : ℕ). WithinHomes hm₀ hm y (c.g + wide_cells c.a)) at_g u.homes) v.grown r hm' b'
          (subst (λ (y : ℕ). Concludes hm b at k kept sole count inner y r hm' b') past.1 s) u.hs u.kept_is u.ends
          (subst (λ (y : ℕ). Alone b₀ len hm b y (c.g + wide_cells c.a) at sole count inner u.hs) at_g u.alone)

    pub going_done : BranchSettles T hm₀ b₀ len k last left r hm' b'
    going_done = record {
      size = s.size ∙ v.size;
      kept = grows_less b₀ b' len at (grows_on b₀ b b' len at at v.grown s.grows);
      homes = λ c. (whole c).0;
      answer = λ c old. subst (λ (y : List Home). BranchedBy hm' b₀ b' len k c.g (c.g + wide_cells c.a) c.z old
          (handed_over y old) r)
          (left_are c) ((whole c).1 old);
    }

-- the same by other names
pub going_as : {T : Tables} {hm₀ b₀ hm b : List ℕ} {len k last left at pointer kept at' pointer' kept' : ℕ} {first first' : rust.Option Kept} →
    at' ≡ at → pointer' ≡ pointer → kept' ≡ kept → first' ≡ first →
    Going T hm₀ b₀ len k last left hm b at pointer kept (alternative_of first) (count_of first) (inner_of first) × KeptFirst kept first →
    Going T hm₀ b₀ len k last left hm b at' pointer' kept' (alternative_of first') (count_of first') (inner_of first')
    × KeptFirst kept' first'
going_as a p n f v = rw (a, p, n, f) v
