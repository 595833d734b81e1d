-- Numbers in decimal: the last digit stands after the others, and what is written reads back as the number.
-- Assumes nothing.
use Prim.Native.Nat.{ℕ, zero, suc, ◌+◌, ◌*◌, ◌-◌, ◌/◌, ◌%◌, ◌^◌, ◌≤◌, ◌<◌}
use native.Mathlib.Omega.{arith}
use native.Mathlib.Nat.{pow-succ'}
use mathlib.Core.Path.{◌≡◌, refl, sym, ap, subst, ◌∙◌}
use mathlib.Core.Bool.{Bool, true, false}
use mathlib.Core.List.{List, [], ◌∷◌, ◌++◌, append_assoc}
use lib.ListN.{length, length-append}
use lib.Dec.{eqb, ltb}
use borrow.Author.Tests.{ltb-true, ltb-false, lt-ltb, le-ltb, eqb-true, ne_eqb}
use Rattle.call_text.specs.Token.{space_or_newline, digit, largest, Start, is, bad, more, token}
use Rattle.answer_text.specs.Answer.{digits, decimal}

-- ---- the digits of a number
digits_one : (k v : ℕ) → v < 10 → digits (suc k) v ≡ (48 + v) ∷ []
unfolding digits
digits_one k v h = ap {B = List ℕ} (λ (t : Bool). elim t [ true ↦ (48 + v) ∷ [] | false ↦ digits k (v / 10) ++ ((48 + v % 10) ∷ []) ])
    (lt-ltb v 10 h)

digits_more : (k v : ℕ) → 10 ≤ v → digits (suc k) v ≡ digits k (v / 10) ++ ((48 + v % 10) ∷ [])
unfolding digits
digits_more k v h = ap {B = List ℕ} (λ (t : Bool). elim t [ true ↦ (48 + v) ∷ [] | false ↦ digits k (v / 10) ++ ((48 + v % 10) ∷ []) ])
    (le-ltb v 10 h)

-- what is so below ten, and from ten on, is so
by_ten : (P : Type 0) (v : ℕ) → (v < 10 → P) → (10 ≤ v → P) → P
by_ten P v f g = go (ltb v 10) refl
  where
    go : (t : Bool) → ltb v 10 ≡ t → P
    go true e = f (ltb-true v 10 e)
    go false e = g (ltb-false v 10 e)

digits_enough : (k j v : ℕ) → v < k → v < j → digits k v ≡ digits j v
digits_enough zero j v h i = absurd (omega arith)
digits_enough (suc k) zero v h i = absurd (omega arith)
digits_enough (suc k) (suc j) v h i =
    by_ten (digits (suc k) v ≡ digits (suc j) v) v (λ s. digits_one k v s ∙ sym (digits_one j v s)) (λ b. digits_more k v b
    ∙ ap (λ (l : List ℕ). l ++ ((48 + v % 10) ∷ [])) (digits_enough k j (v / 10) (omega arith) (omega arith)) ∙ sym (digits_more j v b))

pub decimal_one : (v : ℕ) → v < 10 → (48 + v) ∷ [] ≡ decimal v
unfolding decimal
decimal_one v h = sym (digits_one v v h)

pub decimal_more : (v : ℕ) → 10 ≤ v → decimal (v / 10) ++ ((48 + v % 10) ∷ []) ≡ decimal v
unfolding decimal
decimal_more v h = ap (λ (l : List ℕ). l ++ ((48 + v % 10) ∷ [])) (digits_enough (suc (v / 10)) v (v / 10) (omega arith) (omega arith))
    ∙ sym (digits_more v v h)

-- what is so of a number of one digit, and of a number where it is so of the number without its last digit
module _ (P : ℕ → Type 0) (one : (v : ℕ) → v < 10 → P v) (more-so : (v : ℕ) → 10 ≤ v → P (v / 10) → P v) where
  below : (k v : ℕ) → v < k → P v
  below zero v h = absurd (omega arith)
  below (suc k) v h = by_ten (P v) v (one v) (λ b. more-so v b (below k (v / 10) (omega arith)))

  digit_by_digit : (v : ℕ) → P v
  digit_by_digit v = below (suc v) v (omega arith)

-- ---- how many digits
pub decimal_most : (k v : ℕ) → v < 10 ^ suc k → length (decimal v) ≤ suc k
decimal_most zero v h = let e : length (decimal v) ≡ 1 = ap length (sym (decimal_one v (omega arith))) in omega arith
decimal_most (suc k) v h =
    by_ten (length (decimal v) ≤ suc (suc k)) v
    (λ s. let e : length (decimal v) ≡ 1 = ap length (sym (decimal_one v s)) in omega arith)
    (λ b.
    let p : 10 ^ suc (suc k) ≡ 10 * 10 ^ suc k = pow-succ' 10 (suc k) in
    let i : length (decimal (v / 10)) ≤ suc k = decimal_most k (v / 10) (omega arith) in
    let e : length (decimal v) ≡ length (decimal (v / 10)) + 1 = ap length (sym (decimal_more v b))
    ∙ length-append (decimal (v / 10)) ((48 + v % 10) ∷ []) in
    omega arith)

-- ---- reading back
digit_is : (d : ℕ) → d < 10 → digit (48 + d) ≡ true
unfolding digit
digit_is d h = ap {B = Bool} (λ (t : Bool). elim t [ true ↦ false | false ↦ ltb (48 + d) 58 ]) (le-ltb (48 + d) 48 (omega arith))
    ∙ lt-ltb (48 + d) 58 (omega arith)

digit_filled : (d : ℕ) → d < 10 → space_or_newline (48 + d) ≡ false
unfolding space_or_newline
digit_filled d h = ap {B = Bool} (λ (t : Bool). elim t [ true ↦ true | false ↦ eqb (48 + d) 10 ]) (ne_eqb (48 + d) 32 (λ e. omega arith))
    ∙ ne_eqb (48 + d) 10 (λ e. omega arith)

blank_other : (c : ℕ) → space_or_newline c ≡ true → digit c ≡ false
unfolding space_or_newline digit
blank_other c b = ap {B = Bool} (λ (t : Bool). elim t [ true ↦ false | false ↦ ltb c 58 ]) (lt-ltb c 48 (low (eqb c 32) refl b))
  where
    low : (t : Bool) → eqb c 32 ≡ t → elim t [ true ↦ true | false ↦ eqb c 10 ] ≡ true → c < 48
    low true e h = let z : c ≡ 32 = eqb-true c 32 e in omega arith
    low false e h = let z : c ≡ 10 = eqb-true c 10 h in omega arith

module _ (d : ℕ) (h : d < 10) (rest : List ℕ) where
  more_on : (u : ℕ) → u * 10 + d ≤ largest → more u ((48 + d) ∷ rest) ≡ more (u * 10 + d) rest
  unfolding more
  more_on u f =
      let s : u * 10 + (48 + d - 48) ≡ u * 10 + d = omega arith in
      ap {B = Start} (λ (t : Bool). elim t [
        | true ↦ elim (ltb largest (u * 10 + (48 + d - 48))) [ true ↦ bad | false ↦ more (u * 10 + (48 + d - 48)) rest ]
        | false ↦ elim (space_or_newline (48 + d)) [ true ↦ is u ((48 + d) ∷ rest) | false ↦ bad ]
      ]) (digit_is d h)
      ∙ ap {B = Start} (λ (n : ℕ). elim (ltb largest n) [ true ↦ bad | false ↦ more n rest ]) s
      ∙ ap {B = Start} (λ (t : Bool). elim t [ true ↦ bad | false ↦ more (u * 10 + d) rest ]) (le-ltb largest (u * 10 + d) f)

  token_on : token ((48 + d) ∷ rest) ≡ more 0 ((48 + d) ∷ rest)
  unfolding token
  token_on =
      ap {B = Start} (λ (t : Bool). elim t [
        | true ↦ token rest
        | false ↦ elim (digit (48 + d)) [ true ↦ more 0 ((48 + d) ∷ rest) | false ↦ bad ]
      ]) (digit_filled d h)
      ∙ ap {B = Start} (λ (t : Bool). elim t [ true ↦ more 0 ((48 + d) ∷ rest) | false ↦ bad ]) (digit_is d h)

-- a number with a digit after it
last : (v : ℕ) (rest : List ℕ) → 10 ≤ v → decimal v ++ rest ≡ decimal (v / 10) ++ ((48 + v % 10) ∷ rest)
last v rest b = ap (λ (l : List ℕ). l ++ rest) (sym (decimal_more v b)) ∙ append_assoc (decimal (v / 10)) ((48 + v % 10) ∷ []) rest

decimal_token : (v : ℕ) (rest : List ℕ) → token (decimal v ++ rest) ≡ more 0 (decimal v ++ rest)
decimal_token =
    digit_by_digit (λ (v : ℕ). (rest : List ℕ) → token (decimal v ++ rest) ≡ more 0 (decimal v ++ rest))
    (λ v s rest. subst (λ (l : List ℕ). token (l ++ rest) ≡ more 0 (l ++ rest)) (decimal_one v s) (token_on v s rest))
    (λ v b so rest. subst (λ (l : List ℕ). token l ≡ more 0 l) (sym (last v rest b)) (so ((48 + v % 10) ∷ rest)))

decimal_read : (v : ℕ) → v ≤ largest → (rest : List ℕ) → more 0 (decimal v ++ rest) ≡ more v rest
decimal_read =
    digit_by_digit (λ (v : ℕ). v ≤ largest → (rest : List ℕ) → more 0 (decimal v ++ rest) ≡ more v rest)
    (λ v s f rest. let e : 0 * 10 + v ≡ v = omega arith in
    subst (λ (l : List ℕ). more 0 (l ++ rest) ≡ more v rest) (decimal_one v s) (more_on v s rest 0 (omega arith)
    ∙ ap (λ (n : ℕ). more n rest) e))
    (λ v b so f rest.
    let e : v / 10 * 10 + v % 10 ≡ v = omega arith in
    let m : v % 10 < 10 = omega arith in
    ap (more 0) (last v rest b) ∙ so (omega arith) ((48 + v % 10) ∷ rest) ∙ more_on (v % 10) m rest (v / 10) (omega arith)
    ∙ ap (λ (n : ℕ). more n rest) e)

-- no byte that could go on a number stands at the start
abbrev pub Parted : List ℕ → Type 0
Parted [] = Unit {0}
Parted (c ∷ cs) = space_or_newline c ≡ true

more_over : (v : ℕ) (rest : List ℕ) → Parted rest → more v rest ≡ is v rest
unfolding more
more_over v [] p = refl
more_over v (c ∷ cs) p =
    ap {B = Start} (λ (t : Bool). elim t [
      | true ↦ elim (ltb largest (v * 10 + (c - 48))) [ true ↦ bad | false ↦ more (v * 10 + (c - 48)) cs ]
      | false ↦ elim (space_or_newline c) [ true ↦ is v (c ∷ cs) | false ↦ bad ]
    ]) (blank_other c p)
    ∙ ap {B = Start} (λ (t : Bool). elim t [ true ↦ is v (c ∷ cs) | false ↦ bad ]) p

-- a number that is written reads back as itself
pub reads_back : (v : ℕ) (rest : List ℕ) → v ≤ largest → Parted rest → token (decimal v ++ rest) ≡ is v rest
reads_back v rest f p = decimal_token v rest ∙ decimal_read v f rest ∙ more_over v rest p
