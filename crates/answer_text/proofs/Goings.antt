-- Writing a text piece by piece: one law for each way that it goes on or ends.
-- Assumes nothing.
use Prim.Native.Nat.{ℕ, suc, ◌+◌, ◌≤◌, ◌<◌}
use native.Mathlib.Omega.{arith}
use native.Mathlib.Numerals.{add-one}
use mathlib.Core.Path.{◌≡◌, refl, sym, ap, subst, ◌∙◌}
use mathlib.Core.List.{List, [], ◌∷◌, ◌++◌, append_assoc, append-nil}
use lib.ListN.{length, get_or, drop, set, length-append, length-drop}
use lib.Seq.{drop-cons, set_at}
use Rattle.std.specs.Prelude.{Option, Some, None}
use Rattle.answer_text.specs.Answer.{Wrote}
use Rattle.answer_text.specs.Going.{Going, Gone, Appends}

-- ---- one byte
module _ (old whole dst : List ℕ) (at : ℕ) (left : List ℕ) (g : Going old whole dst at left) where
  same_size : length dst ≡ length old
  same_size =
      let e : length dst ≡ length g.written + (length (drop at old)) = ap length g.holds ∙ length-append g.written (drop at old) in
      let d = length-drop at old in
      let p = g.place in
      let r = g.room in
      omega arith

  size : length whole ≡ at + length left
  size = ap length g.splits ∙ length-append g.written left ∙ ap (λ (n : ℕ). n + length left) g.place

module _ (dst : List ℕ) (at b : ℕ) where
  pub put_fits : at < length dst → Appends (b ∷ []) dst at (set dst at b) (Some (at + 1))
  put_fits h old whole left g =
      let s : length dst ≡ length old = same_size old whole dst at (b ∷ left) g in
      let here : at < length old = omega arith in
      let rest : drop at old ≡ get_or old at 0 ∷ drop (at + 1) old = drop-cons old at 0 here
      ∙ ap (λ (k : ℕ). get_or old at 0 ∷ drop k old) (sym (add-one at)) in
      record {
        written = g.written ++ (b ∷ []);
        splits = g.splits ∙ sym (append_assoc g.written (b ∷ []) left);
        place = length-append g.written (b ∷ []) ∙ ap (λ (n : ℕ). n + 1) g.place;
        holds = ap (λ (l : List ℕ). set l at b) (g.holds ∙ ap (λ (l : List ℕ). g.written ++ l) rest)
            ∙ set_at g.written (get_or old at 0) (drop (at + 1) old) b at g.place
            ∙ sym (append_assoc g.written (b ∷ []) (drop (at + 1) old));
        room = omega arith;
      }

  pub put_stops : length dst ≤ at → Appends (b ∷ []) dst at dst None
  put_stops h old whole left g =
      let s : length dst ≡ length old = same_size old whole dst at (b ∷ left) g in
      let n : length whole ≡ at + suc (length left) = size old whole dst at (b ∷ left) g in
      omega arith

-- ---- a piece after a piece
pub named : (xs ys dst : List ℕ) (at : ℕ) (end : List ℕ) (r : Option ℕ) → xs ≡ ys → Appends xs dst at end r → Appends ys dst at end r
named xs ys dst at end r e f old whole left g = f old whole left (subst (λ (l : List ℕ). Going old whole dst at (l ++ left)) (sym e) g)

pub nothing : (dst : List ℕ) (at : ℕ) → Appends [] dst at dst (Some at)
nothing dst at old whole left g = g

module _ (xs ys dst mid : List ℕ) (at : ℕ) (q : Option ℕ) (f : Appends xs dst at mid q) where
  parted : (old whole left : List ℕ) → Going old whole dst at ((xs ++ ys) ++ left) → Gone old whole (ys ++ left) mid q
  parted old whole left g = f old whole (ys ++ left) (subst (λ (l : List ℕ). Going old whole dst at l) (append_assoc xs ys left) g)

  pub both : (n : ℕ) → q ≡ Some n → (end : List ℕ) (r : Option ℕ) → Appends ys mid n end r → Appends (xs ++ ys) dst at end r
  both n e end r h old whole left g =
      h old whole left (subst (λ (w : Option ℕ). Gone old whole (ys ++ left) mid w) e (parted old whole left g))

  pub first_stops : None ≡ q → Appends (xs ++ ys) dst at mid None
  first_stops e old whole left g = subst (λ (w : Option ℕ). Gone old whole (ys ++ left) mid w) (sym e) (parted old whole left g)

-- ---- piece after piece: xs was to be written from the place `at` of dst on, and ys is left to be written from `end` on
abbrev pub Turned : List ℕ → ℕ → List ℕ → List ℕ → ℕ → List ℕ → Type 0
Turned dst₀ at xs dst end ys = (old whole left : List ℕ) → Going old whole dst₀ at (xs ++ left) → Going old whole dst end (ys ++ left)

pub turns_begin : (dst : List ℕ) (at : ℕ) (xs ys : List ℕ) → xs ≡ ys → Turned dst at xs dst at ys
turns_begin dst at xs ys e old whole left g = subst (λ (l : List ℕ). Going old whole dst at (l ++ left)) e g

module _ (dst₀ : List ℕ) (at : ℕ) (xs dst : List ℕ) (end : ℕ) (ys : List ℕ) (t : Turned dst₀ at xs dst end ys) where
  pub turns_end : ys ≡ [] → Appends xs dst₀ at dst (Some end)
  turns_end e old whole left g = subst (λ (l : List ℕ). Going old whole dst end (l ++ left)) e (t old whole left g)

  module _ (piece zs mid : List ℕ) (q : Option ℕ) (e : ys ≡ piece ++ zs) (f : Appends piece dst end mid q) where
    turned : (old whole left : List ℕ) → Going old whole dst₀ at (xs ++ left) → Gone old whole (zs ++ left) mid q
    turned old whole left g = f old whole (zs ++ left)
        (subst (λ (l : List ℕ). Going old whole dst end l) (ap (λ (l : List ℕ). l ++ left) e
        ∙ append_assoc piece zs left) (t old whole left g))

    pub turns_go : (n : ℕ) → q ≡ Some n → Turned dst₀ at xs mid n zs
    turns_go n b old whole left g = subst (λ (w : Option ℕ). Gone old whole (zs ++ left) mid w) b (turned old whole left g)

    pub turns_stop : None ≡ q → Appends xs dst₀ at mid None
    turns_stop b old whole left g = subst (λ (w : Option ℕ). Gone old whole (zs ++ left) mid w) (sym b) (turned old whole left g)

-- ---- a text from the start on
-- where nothing is left, the whole is written
all_written : (text dst dst' : List ℕ) (r : Option ℕ) → Gone dst text [] dst' r → Wrote text dst dst' r
all_written text dst dst' (Some n) g =
    let e : text ≡ g.written = g.splits ∙ append-nil g.written in
    (sym g.place ∙ ap length (sym e), g.room, g.holds ∙ ap (λ (l : List ℕ). l ++ drop n dst) (sym e))
all_written text dst dst' None g = g

module _ (text dst dst' : List ℕ) where
  starts : Going dst text dst 0 (text ++ [])
  starts = record { written = []; splits = sym (append-nil text); place = refl; holds = refl; room = omega arith }

  pub wrote : (r : Option ℕ) → Appends text dst 0 dst' r → Wrote text dst dst' r
  wrote r f = all_written text dst dst' r (f dst text [] starts)

-- ---- a piece after a text
module _ (text piece dst mid : List ℕ) (q : Option ℕ) (w : Wrote text dst mid q) where
  pub text_then : (n : ℕ) → q ≡ Some n → (end : List ℕ) (r : Option ℕ) → Appends piece mid n end r → Wrote (text ++ piece) dst end r
  text_then n e end r f =
      let there : Wrote text dst mid (Some n) = subst (Wrote text dst mid) e w in
      let goes : Going dst (text ++ piece) mid n (piece ++ []) = record {
        written = text;
        splits = ap (λ (l : List ℕ). text ++ l) (sym (append-nil piece));
        place = sym there.0;
        holds = there.2;
        room = there.1;
      } in
      all_written (text ++ piece) dst end r (f dst (text ++ piece) [] goes)

  pub text_stops : None ≡ q → (end : List ℕ) → Wrote (text ++ piece) dst end None
  text_stops e end =
      let short : length dst < length text = subst (Wrote text dst mid) (sym e) w in
      let s = length-append text piece in
      omega arith
