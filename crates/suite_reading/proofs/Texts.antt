-- A text without its names, and the name in a run of bytes: one law for each way that they go on or end.
-- Assumes nothing.
use Prim.Native.Nat.{ℕ, suc, ◌+◌, ◌-◌, ◌≤◌, ◌<◌}
use native.Mathlib.Omega.{arith}
use native.Mathlib.Numerals.{add-one}
use borrow.Author.Tests.{lt-ltb, le-ltb, eq-eqb, ne_eqb}
use mathlib.Core.Path.{◌≡◌, refl, sym, ap, ap₂, ◌∙◌}
use mathlib.Core.Bool.{Bool, true, false, not}
use mathlib.Core.List.{List, [], ◌∷◌, ◌++◌, append_assoc, append-nil}
use lib.ListN.{length, get_or, take, drop, set, length-set, length-drop, drop_of_length-le}
use lib.Seq.{drop-cons, take_all, take-suc, take-suc-set, get_or-drop}
use lib.Dec.{eqb}
use Rattle.suite_reading.specs.Text.{next_named, name_byte, blank_byte, blanked, from_hash, spaces_off, to_newline, name_in}
use Rattle.suite_reading.specs.Text.{FindsName}

-- ---- a byte
module _ (named : Bool) (c : ℕ) where
  pub on_in_name : named ≡ true → not (eqb c 10) ≡ next_named named c
  unfolding next_named
  on_in_name e = rw e refl

  pub on_outside : named ≡ false → eqb c 35 ≡ next_named named c
  unfolding next_named
  on_outside e = rw e refl

  pub blank_in_name : named ≡ true → name_byte c ≡ blank_byte named c
  unfolding blank_byte
  blank_in_name e = rw e refl

  pub blank_hash : named ≡ false → c ≡ 35 → 32 ≡ blank_byte named c
  unfolding blank_byte
  blank_hash e h = rw (e, eq-eqb c 35 h, blank_byte)

  pub blank_other : named ≡ false → (c ≡ 35 → ⊥) → c ≡ blank_byte named c
  unfolding blank_byte
  blank_other e h = rw (e, ne_eqb c 35 h, blank_byte)

module _ (c : ℕ) where
  pub name_control : c < 32 → c ≡ name_byte c
  unfolding name_byte
  name_control h = rw (lt-ltb c 32 h, name_byte)

  module _ (high : 32 ≤ c) where
    pub name_delete : c ≡ 127 → c ≡ name_byte c
    unfolding name_byte
    name_delete h = rw (le-ltb c 32 high, eq-eqb c 127 h, name_byte)

    pub name_shown : (c ≡ 127 → ⊥) → 32 ≡ name_byte c
    unfolding name_byte
    name_shown h = rw (le-ltb c 32 high, ne_eqb c 127 h, name_byte)

-- ---- runs of bytes
module _ (run : List ℕ) (at : ℕ) where
  abbrev c : ℕ
  c = get_or run at 0

  module _ (end : length run ≤ at) where
    pub hash_end : drop at run ≡ from_hash (drop at run)
    unfolding from_hash
    hash_end = rw (drop_of_length-le run end)

    pub spaces_end : drop at run ≡ spaces_off (drop at run)
    unfolding spaces_off
    spaces_end = rw (drop_of_length-le run end)

    newline_end : [] ≡ to_newline (drop at run)
    unfolding to_newline
    newline_end = rw (drop_of_length-le run end)

    blank_end : (named : Bool) → [] ≡ blanked named (drop at run)
    unfolding blanked
    blank_end named = rw (drop_of_length-le run end)

  module _ (here : at < length run) where
    next : drop at run ≡ c ∷ drop (at + 1) run
    next = drop-cons run at 0 here ∙ ap (λ (k : ℕ). c ∷ drop k run) (sym (add-one at))

    pub hash_here : c ≡ 35 → drop (at + 1) run ≡ from_hash (drop at run)
    unfolding from_hash
    hash_here h = rw (next, eq-eqb c 35 h, from_hash)

    pub hash_later : (c ≡ 35 → ⊥) → from_hash (drop (at + 1) run) ≡ from_hash (drop at run)
    unfolding from_hash
    hash_later h = rw (next, ne_eqb c 35 h, from_hash)

    pub spaces_later : c ≡ 32 → spaces_off (drop (at + 1) run) ≡ spaces_off (drop at run)
    unfolding spaces_off
    spaces_later h = rw (next, eq-eqb c 32 h, spaces_off)

    pub spaces_here : (c ≡ 32 → ⊥) → drop at run ≡ spaces_off (drop at run)
    unfolding spaces_off
    spaces_here h = rw (next, ne_eqb c 32 h, spaces_off)

    newline_here : c ≡ 10 → [] ≡ to_newline (drop at run)
    unfolding to_newline
    newline_here h = rw (next, eq-eqb c 10 h, to_newline)

    newline_later : (c ≡ 10 → ⊥) → c ∷ to_newline (drop (at + 1) run) ≡ to_newline (drop at run)
    unfolding to_newline
    newline_later h = rw (next, ne_eqb c 10 h, to_newline)

    blank_next : (named : Bool) → blank_byte named c ∷ blanked (next_named named c) (drop (at + 1) run) ≡ blanked named (drop at run)
    unfolding blanked
    blank_next named = rw (next, blanked)

-- ---- taking the names out: what is written so far and what the rest gives are the whole
pub record Blanking (text out : List ℕ) (named : Bool) (i : ℕ) : Type 0 where
  pub goes : take i out ++ blanked named (drop i text) ≡ blanked false text
  pub size : length out ≡ length text

pub blank_begins : (text out : List ℕ) → length out ≡ length text → Blanking text out false 0
blank_begins text out h = record { goes = refl; size = h }

module _ (text out : List ℕ) (named : Bool) (i : ℕ) (g : Blanking text out named i) where
  pub blank_ends : length text ≤ i → out ≡ blanked false text
  blank_ends h =
      let size = g.size in
      sym (take_all i out (omega arith))
      ∙ sym (append-nil (take i out))
      ∙ ap (λ (l : List ℕ). take i out ++ l) (blank_end text i h named)
      ∙ g.goes

  pub blank_goes : i < length text → (x : ℕ) (on : Bool) → x ≡ blank_byte named (get_or text i 0)
      → on ≡ next_named named (get_or text i 0) → Blanking text (set out i x) on (i + 1)
  blank_goes h x on e f =
      let size = g.size in
      let rest : List ℕ = drop (i + 1) text in
      let front : take (i + 1) (set out i x) ≡ take i out ++ (x ∷ []) =
      ap (λ (n : ℕ). take n (set out i x)) (add-one i) ∙ take-suc-set out i x (omega arith) in
      let one : x ∷ blanked on rest ≡ blanked named (drop i text) =
      ap₂ {C = List ℕ} (λ (y : ℕ) (b : Bool). y ∷ blanked b rest) e f ∙ blank_next text i h named in
      record {
        goes = ap (λ (l : List ℕ). l ++ blanked on rest) front
            ∙ append_assoc (take i out) (x ∷ []) (blanked on rest)
            ∙ ap (λ (l : List ℕ). take i out ++ l) one
            ∙ g.goes;
        size = length-set out i x ∙ size;
      }

-- ---- finding a name: what is passed and what is left up to the newline are the whole
pub record Naming (run : List ℕ) (from to : ℕ) : Type 0 where
  pub order : from ≤ to
  pub inside : to ≤ length run
  pub goes : take (to - from) (drop from run) ++ to_newline (drop to run) ≡ name_in run

pub name_begins : (run : List ℕ) (hash from : ℕ) → drop hash run ≡ from_hash run → from ≤ length run
    → drop from run ≡ spaces_off (drop hash run) → Naming run from from
unfolding name_in
name_begins run hash from e h f =
    let z : from - from ≡ 0 = omega arith in
    let rest : List ℕ = to_newline (drop from run) in
    record {
      order = omega arith;
      inside = h;
      goes = ap (λ (n : ℕ). take n (drop from run) ++ rest) z ∙ ap to_newline (f ∙ ap spaces_off e);
    }

module _ (run : List ℕ) (from to : ℕ) (g : Naming run from to) where
  abbrev passed : List ℕ
  passed = take (to - from) (drop from run)

  named_by : [] ≡ to_newline (drop to run) → FindsName run (name_in run) from to
  named_by e = record {
    order = g.order;
    inside = g.inside;
    is = sym (append-nil passed) ∙ ap (λ (l : List ℕ). passed ++ l) e ∙ g.goes;
  }

  pub name_ends : length run ≤ to → FindsName run (name_in run) from to
  name_ends h = named_by (newline_end run to h)

  module _ (here : to < length run) where
    pub name_stops : get_or run to 0 ≡ 10 → FindsName run (name_in run) from to
    name_stops h = named_by (newline_here run to here h)

    pub name_goes : (get_or run to 0 ≡ 10 → ⊥) → Naming run from (to + 1)
    name_goes h =
        let order = g.order in
        let size = length-drop from run in
        let byte : ℕ = get_or run to 0 in
        let rest : List ℕ = to_newline (drop (to + 1) run) in
        let more : to + 1 - from ≡ suc (to - from) = omega arith in
        let back : from + (to - from) ≡ to = omega arith in
        let last : get_or (drop from run) (to - from) 0 ≡ byte = get_or-drop from run (to - from) 0 ∙ ap (λ (k : ℕ). get_or run k 0) back in
        let front : take (to + 1 - from) (drop from run) ≡ passed ++ (byte ∷ []) =
        ap (λ (n : ℕ). take n (drop from run)) more
        ∙ take-suc (drop from run) (to - from) 0 (omega arith)
        ∙ ap (λ (y : ℕ). passed ++ (y ∷ [])) last in
        record {
          order = omega arith;
          inside = omega arith;
          goes = ap (λ (l : List ℕ). l ++ rest) front
              ∙ append_assoc passed (byte ∷ []) rest
              ∙ ap (λ (l : List ℕ). passed ++ l) (newline_later run to here h)
              ∙ g.goes;
        }
