-- What stays as it is while the result is written. Assumes nothing.
use mathlib.Core.Path.{◌≡◌, refl, sym, ◌∙◌, subst}
use mathlib.Core.List.{List}
use Prim.Native.Nat.{ℕ, ◌+◌, ◌≤◌, ◌<◌}
use native.Mathlib.Omega.{arith}
use lib.ListN.{length, get_or, set, length-set}
use lib.Seq.{get_or-set_other}
use Rattle.theory.specs.Net.{Graph}
use Rattle.layout.specs.Standing.{Stands}
use Rattle.area.specs.Map.{PARENT, NEXT, LOG, STACK, WORDS, RESULT}
use Rattle.area.specs.Region.{loaded_words}
use Rattle.area.proofs.Region.{words_same}
use Rattle.forest.specs.Forest.{parents}
use Rattle.forest.proofs.Parents.{parents_ext, root_on}
use Rattle.forest.specs.Held.{ChainCode}
use Rattle.forest.specs.State.{targets, Chain}
use Rattle.forest.proofs.Words.{targets_same}
use Rattle.forest.proofs.Links.{chain_same}
use Rattle.forest.proofs.Places.{chain_low}
use Rattle.writing.specs.Classes.{Fan, Classes, Met}
use Rattle.writing.specs.Writing.{Kept}
use Rattle.layout.proofs.Standing.{stands_frame}

pub kept_refl : (k at : ℕ) (w : List ℕ) → Kept k at at w w
kept_refl k at w = record { len = refl; more = omega arith; low = λ j h. refl; mid = λ j h l. refl; high = λ j h. refl }

pub kept_trans : (k a b c : ℕ) (u v w : List ℕ) → Kept k a b u v → Kept k b c v w → Kept k a c u w
kept_trans k a b c u v w p q =
    let x = p.more in let y = q.more in
    record {
      len = q.len ∙ p.len;
      more = omega arith;
      low = λ j h. q.low j h ∙ p.low j h;
      mid = λ j h l. q.mid j h (omega arith) ∙ p.mid j h l;
      high = λ j h. q.high j h ∙ p.high j (omega arith);
    }

pub kept_both : (k a b : ℕ) (u v w : List ℕ) → Kept k a b u v → Kept k a b v w → Kept k a b u w
kept_both k a b u v w p q = record {
  len = q.len ∙ p.len;
  more = p.more;
  low = λ j h. q.low j h
      ∙ p.low j h;
  mid = λ j h l. q.mid j h l ∙ p.mid j h l;
  high = λ j h. q.high j h ∙ p.high j h;
}

pub kept_wider : (k a b a' : ℕ) (v w : List ℕ) → Kept k a b v w → a' ≤ a → Kept k a' b v w
kept_wider k a b a' v w p h =
    let x = p.more in
    record { len = p.len; more = omega arith; low = p.low; mid = λ j g l. p.mid j g (omega arith); high = p.high }

-- a store into the result
pub kept_put : (k at at' p v : ℕ) (w : List ℕ) → k ≤ 4096 → at ≤ p → p < at' → Kept k at at' w (set w (RESULT + p) v)
kept_put k at at' p v w h a b = record {
  len = simp length-set;
  more = omega arith;
  low = λ j l. get_or-set_other w (RESULT + p) j v 0 (λ e. omega arith);
  mid = λ j g l. get_or-set_other w (RESULT + p) j v 0 (λ e. omega arith);
  high = λ j l. get_or-set_other w (RESULT + p) j v 0 (λ e. omega arith);
}

-- words that stand there still do
pub kept_stands : (k at at' : ℕ) (w w' : List ℕ) → Kept k at at' w w' → (xs : List ℕ) (p q : ℕ) → WORDS ≤ p → q ≤ RESULT + at →
    Stands w p xs q → Stands w' p xs q
kept_stands k at at' w w' r xs p q a b =
    stands_frame w w' xs p q (λ j g h l. (let e = r.len in omega arith, r.mid j (omega arith) (omega arith)))

-- a chain of then is one of before
pub kept_chain : (k at at' : ℕ) (w w' : List ℕ) → Kept k at at' w w' → (x : ℕ) (xs : List ℕ) → Chain w' x xs → Chain w x xs
kept_chain k at at' w w' r x xs c = chain_same w' w x xs (λ q m. sym (r.low (NEXT + q) (let i = chain_low w' x xs q c m in omega arith))) c

module _ (n k at at' : ℕ) (w w' : List ℕ) (r : Kept k at at' w w') (lab : ℕ → ℕ) (ord : List ℕ) where
  module _ (G : Graph) (c : Classes n k w G lab ord) where
    pub kept_words : loaded_words w' ≡ loaded_words w
    kept_words = words_same w w' c.long r.len (λ j a b. r.mid j a (omega arith))

    et : targets w' ≡ targets w
    et = targets_same w w' c.long r.len (λ j a b. r.mid j a (omega arith))

    pub kept_fan : (x low : ℕ) (l : List (ℕ × ℕ)) → Fan n w lab ord x low l → Fan n w' lab ord x low l
    kept_fan x low l f = record {
      chain = f.chain;
      linked = chain_same w w' x f.chain (λ q m. r.low (NEXT + q) (let i = (f.inside q m).0 in omega arith)) f.linked;
      short = f.short;
      inside = rw et f.inside;
      from = rw (kept_words, et) f.from;
      to = rw kept_words f.to;
    }

    pub kept_classes : Classes n k w' G lab ord
    kept_classes =
        let b = c.below in let h = c.long in let l = r.len in
        let par : parents n w' ≡ parents n w =
        parents_ext n w' w (omega arith) l (λ j h. r.low (PARENT + j) (omega arith)) in
        record {
          long = omega arith;
          below = b;
          shape = rw par c.shape;
          label = λ x t l y. c.label x t l (root_on n w' w x t par y);
          many = c.many;
          room = c.room;
          own = c.own;
          low = c.low;
          some = c.some;
          first = c.first;
          atoms = λ i a h e. word i h ∙ c.atoms i a h e;
          fans = λ i l h e. let s = c.fans i l h e in (
            subst ChainCode (sym (word i h)) s.0,
            kept_fan (get_or w' (get_or ord i 0) 0) 0 l (subst (λ (z : ℕ). Fan n w lab ord z 0 l) (sym (word i h)) s.1),
          );
        }
      where
        word : (i : ℕ) → i < length ord → get_or w' (get_or ord i 0) 0 ≡ get_or w (get_or ord i 0) 0
        word i h = r.low (get_or ord i 0) (let a = c.low i h in let b = c.below in omega arith)

-- numbers are below the result
pub met_kept : (n k m : ℕ) (w w' : List ℕ) (G : Graph) (lab : ℕ → ℕ) (ord : List ℕ) → Classes n k w G lab ord →
    ((j : ℕ) → j < WORDS → get_or w' j 0 ≡ get_or w j 0) → Met k m ord w → Met k m ord w'
met_kept n k m w w' G lab ord c f s =
    let b = c.below in let r = c.room in let l = s.few in
    record {
      few = s.few;
      new = λ i h g. f (STACK + get_or ord i 0) (let a = c.low i g in omega arith) ∙ s.new i h g;
      old = λ i h. f (STACK + get_or ord i 0) (let a = c.low i (omega arith) in omega arith) ∙ s.old i h;
      order = λ i h. f (LOG + k + i) (omega arith) ∙ s.order i h;
    }
