-- What is printed for the text of a formula: the words of an answer are there, one text only is printed, and 16,384 bytes of room are
-- always enough for it.
-- Assumes nothing.
use Prim.Native.Nat.{ℕ, ◌+◌, ◌≤◌, ◌<◌}
use native.Mathlib.Omega.{arith}
use Rattle.std.specs.Prelude.{Ok, Err, Option, Some}
use mathlib.Core.Path.{◌≡◌, refl, sym, ap, ap₂, subst, ◌∙◌}
use mathlib.Core.List.{List, [], ◌++◌}
use lib.ListN.{length, get_or, take, drop, length-append, length-take}
use lib.Seq.{take_at, take-append_seam}
use Rattle.theory.specs.Limits.{input_limit, depth_limit}
use Rattle.theory.specs.Descr.{Desc}
use Rattle.theory.specs.Layout.{words, WellFormed}
use Rattle.theory.proofs.Small.{below_at, words_below}
use Rattle.translate.specs.Row.{number_in, length_in}
use Rattle.translate.specs.Translated.{Translated}
use Rattle.translate.specs.Answer.{Answer}
use Rattle.translate.specs.declared.answer.Refusal.TheVariants.{BadText, TooDeep, Clash, TooLong, NoRoom, LongText}
use Rattle.translate.proofs.Outcome.{one_translation}
use Rattle.translate.proofs.Means.{done_means}
use Rattle.call_text.specs.Token.{largest}
use Rattle.answer_text.specs.Answer.{newline, answer_label, words_label, labelled, second_line, Wrote}
use Rattle.answer_text.proofs.Answers.{labelled-most, second-most, wrote-fits}
use Rattle.formula_text.specs.Printed.{byte_label, after_number, told_line, formula_text, Prints, Replied}

-- ---- the words of an answer
-- where the area has 1,024 words they are there, and 24 does not come
pub words_there : (t area : List ℕ) (r : Answer) (out : List ℕ) → Translated t area r out → length area ≡ input_limit →
    length_in r ≤ length out
words_there t area (Err LongText) out h s = omega arith
words_there t area (Err (BadText i)) out h s = omega arith
words_there t area (Err TooDeep) out h s = omega arith
words_there t area (Err Clash) out h s = omega arith
words_there t area (Err TooLong) out h s = omega arith
words_there t area (Err (NoRoom n)) out ((φ, d, c, h, i, l), e) s = absurd (omega arith)
words_there t area (Ok n) out (φ, d, c, h, i, l, e) s =
    let k : length out ≡ length (words d) + length (drop n area) = ap length e ∙ length-append (words d) (drop n area) in
    omega arith

-- what is written of an answer is what is printed
pub replied : (t area : List ℕ) → length area ≡ input_limit → (r : Answer) (out : List ℕ) → Translated t area r out → (n : ℕ)
    → n ≡ length_in r → (dst dst' : List ℕ) (q : Option ℕ) → Wrote (formula_text r (take n out)) dst dst' q → Replied t dst dst' q
replied t area s r out h n e dst dst' q w = record {
  text = formula_text r (take n out);
  prints = record {
    area = area;
    size = s;
    answer = r;
    result = out;
    translated = h;
    is = ap (λ (k : ℕ). formula_text r (take k out)) e;
  };
  wrote = w;
}

-- ---- one text only
-- the same answer is allowed in another area of 1,024 words, and gives the same words
module _ (t area other : List ℕ) (s : length area ≡ input_limit) (e : length area ≡ length other) where
  moved : (r : Answer) (out : List ℕ) → Translated t area r out →
      (end : List ℕ) × Translated t other r end × (take (length_in r) out ≡ take (length_in r) end)
  moved (Err LongText) out (h, q) = (other, (h, refl), refl)
  moved (Err (BadText i)) out (h, b, q) = (other, (h, b, refl), refl)
  moved (Err TooDeep) out (h, x, q) = (other, (h, x, refl), refl)
  moved (Err Clash) out (x, q) = (other, (x, refl), refl)
  moved (Err TooLong) out (x, q) = (other, (x, refl), refl)
  moved (Err (NoRoom n)) out ((φ, d, c, h, i, l), q) = absurd (omega arith)
  moved (Ok n) out (φ, d, c, h, i, l, q) = (
    words d ++ drop n other,
    (φ, d, c, h, i, omega arith, refl),
    ap (take n) q ∙ take_at (words d) (drop n area) n (sym i) ∙ sym (take_at (words d) (drop n other) n (sym i)),
  )

pub prints_one : (t a b : List ℕ) → Prints t a → Prints t b → a ≡ b
prints_one t a b p q =
    let m = moved t p.area q.area p.size (p.size ∙ sym q.size) p.answer p.result p.translated in
    let o = one_translation t q.area p.answer q.answer m.0 q.result m.1 q.translated in
    p.is ∙ ap (formula_text p.answer) m.2
    ∙ ap₂ {C = List ℕ} (λ (r : Answer) (l : List ℕ). formula_text r (take (length_in r) l)) o.0 o.1 ∙ sym q.is

-- ---- how long it is
-- what is told and the words are short
record Brief (r : Answer) (ws : List ℕ) : Type 0 where
  few : number_in r ≤ largest
  short : length (after_number r) ≤ 17
  count : length ws ≤ 1024
  fits : (i : ℕ) → i < length ws → get_or ws i 0 ≤ largest

bare : (r : Answer) → number_in r ≤ largest → length (after_number r) ≤ 17 → Brief r []
bare r h k = record { few = h; short = k; count = omega arith; fits = λ i l. absurd (omega arith) }

done_brief : (n : ℕ) (d : Desc) (ws : List ℕ) → n ≤ 1024 → WellFormed d depth_limit → ws ≡ words d → length ws ≤ 1024 → Brief (Ok n) ws
done_brief n d ws h w e l =
    let m = labelled-most words_label n (omega arith) in
    let q = ap length e in
    let b = words_below d depth_limit w (omega arith) in
    record {
      few = omega arith;
      short = omega arith;
      count = l;
      fits = subst (λ (v : List ℕ). (i : ℕ) → i < length v → get_or v i 0 ≤ largest) (sym e)
          (λ i j. let z = below_at (words d) b i j in omega arith);
    }

brief : (t area : List ℕ) (r : Answer) (out : List ℕ) → Translated t area r out → length area ≡ input_limit →
    Brief r (take (length_in r) out)
brief t area (Err LongText) out h s = bare (Err LongText) (omega arith) (omega arith)
brief t area (Err (BadText i)) out (h, b, e) s =
    let k = b.inside in
    let m = labelled-most byte_label i (omega arith) in
    bare (Err (BadText i)) (omega arith) (omega arith)
brief t area (Err TooDeep) out h s = bare (Err TooDeep) (omega arith) (omega arith)
brief t area (Err Clash) out h s = bare (Err Clash) (omega arith) (omega arith)
brief t area (Err TooLong) out h s = bare (Err TooLong) (omega arith) (omega arith)
brief t area (Err (NoRoom n)) out ((φ, d, c, h, i, l), e) s = absurd (omega arith)
brief t area (Ok n) out x s =
    let l = x.5 in
    let k = length-take n out in
    let (φ, d, f) = done_means t area out n x in
    done_brief n d (take n out) (omega arith) f.well f.result (omega arith)

printed_most : (r : Answer) (ws : List ℕ) → Brief r ws → length (formula_text r ws) ≤ 11400
unfolding formula_text told_line
printed_most r ws b =
    let n = number_in r in
    let f = b.few in
    let s = b.short in
    let k = b.count in
    let x = labelled-most answer_label n f in
    let y = second-most n ws b.fits in
    let p = length-append (labelled answer_label n ++ (after_number r ++ newline)) (second_line n ws) in
    let q = length-append (labelled answer_label n) (after_number r ++ newline) in
    let z = length-append (after_number r) newline in
    omega arith

-- whatever the text is, what is printed for it is short
pub prints_small : (t text : List ℕ) → Prints t text → length text ≤ 11400
prints_small t text p =
    let r = p.answer in
    let ws = take (length_in r) p.result in
    let k = printed_most r ws (brief t p.area r p.result p.translated p.size) in
    let e = ap length p.is in
    omega arith

-- in 16,384 bytes there is always room, and what is written there is what is printed
pub always_printed : (t out out' : List ℕ) (r : Option ℕ) → 16384 ≤ length out → (k : Replied t out out' r)
    → (r ≡ Some (length k.text)) × (take (length k.text) out' ≡ k.text)
always_printed t out out' r h k =
    let s = prints_small t k.text k.prints in
    let e = wrote-fits k.text out out' r k.wrote (omega arith) in
    (e.0, ap (take (length k.text)) e.1 ∙ take-append_seam k.text (drop (length k.text) out))
