-- Laws of words that are written from the end of a slice.
-- Assumes nothing.
use Prim.Native.Nat.{ℕ, suc, ◌+◌, ◌-◌, ◌≤◌, ◌<◌}
use native.Mathlib.Omega.{arith}
use mathlib.Core.Path.{◌≡◌, refl, ap, sym, subst, ◌∙◌}
use mathlib.Core.List.{List, [], ◌∷◌, ◌++◌, append_assoc, append-nil}
use lib.ListN.{length, get_or, set, take, drop, length-set}
use lib.Seq.{get_or-set_same, get_or-set_other, drop-cons, get_or-take, length-take-le}
use Rattle.layout.specs.Standing.{Stands}
use Rattle.layout.proofs.Standing.{stands_cons, stands_frame}
use Rattle.folding.specs.Buffer.{WordsEnd, Grows, PutsBefore}
use Rattle.folding.specs.Settled.{SettlingRoom}

pub grows_none : (b : List ℕ) (len : ℕ) → len ≤ suc (length b) → Grows b len b len
grows_none b len h = record { same = refl; rest = λ j l. refl; more = omega arith; most = h }

pub grows_on : (b c d : List ℕ) (l m n : ℕ) → Grows b l c m → Grows c m d n → Grows b l d n
grows_on b c d l m n u v =
    let size = u.same in
    let far = u.more in
    let on = v.more in
    let most = v.most in
    record {
      same = v.same ∙ size;
      rest = λ j h. v.rest j (omega arith) ∙ u.rest j h;
      more = omega arith;
      most = omega arith;
    }

pub grows_less : (b c : List ℕ) (l m : ℕ) → Grows b l c m → Grows b l c l
grows_less b c l m u =
    let on = u.more in
    let most = u.most in
    record { same = u.same; rest = u.rest; more = omega arith; most = omega arith }

-- what was there ends the slice still
pub ends_kept : (b b' : List ℕ) (len r : ℕ) (ws : List ℕ) → Grows b len b' r → WordsEnd b len ws → WordsEnd b' len ws
ends_kept b b' len r ws g e =
    let size = g.same in
    let many = e.many in
    record {
      many = many ∙ (rw size refl);
      words = λ h. rw size (stands_frame b b' ws (length b - length ws) (length b)
          (λ j l u t. (omega arith, g.rest j (omega arith))) (e.words (omega arith)));
    }

pub puts_on : (b c d : List ℕ) (l m n : ℕ) (xs ys : List ℕ) → PutsBefore b l xs c m → PutsBefore c m ys d n → PutsBefore b l (ys ++ xs) d n
puts_on b c d l m n xs ys u v = record {
  grows = grows_on b c d l m n u.grows v.grows;
  before = λ ws e. subst (λ (z : List ℕ). WordsEnd d n z) (sym (append_assoc ys xs ws)) (v.before (xs ++ ws) (u.before ws e));
}

-- a word that fits among the n, and one that does not
pub put_in : (b : List ℕ) (n len x : ℕ) → length b ≡ n → len < n → PutsBefore b len (x ∷ []) (set b (n - 1 - len) x) (len + 1)
put_in b n len x s h = record {
  grows = record {
    same = size;
    rest = λ j l. get_or-set_other b at j x 0 (λ e. omega arith);
    more = omega arith;
    most = omega arith;
  };
  before = λ ws e.
      let many = e.many in
      let fits : length ws ≡ len = omega arith in
      record {
        many = omega (arith, size);
        words = λ l.
            let from : at ≡ length b' - length (x ∷ ws) = omega (arith, size) in
            let on : length b - length ws ≡ at + 1 = omega arith in
            let rest : Stands b' (length b - length ws) ws (length b) = stands_frame b b' ws (length b - length ws) (length b)
            (λ j u v t. (omega (arith, size), get_or-set_other b at j x 0 (λ e. omega arith))) (e.words (omega arith)) in
            subst (λ (k : ℕ). Stands b' k (x ∷ ws) (length b')) from ((stands_cons b' x ws at (length b')).1 (
              omega (arith, size),
              get_or-set_same b at x 0 (omega arith),
              rw size (subst (λ (k : ℕ). Stands b' k ws (length b)) on rest),
            ));
      };
}
  where
    at : ℕ
    at = n - 1 - len

    b' : List ℕ
    b' = set b at x

    size : length b' ≡ length b
    size = length-set b at x

pub put_out : (b : List ℕ) (n len x : ℕ) → length b ≡ n → n ≤ len → len ≤ suc n → PutsBefore b len (x ∷ []) b (n + 1)
put_out b n len x s h l = record {
  grows = record { same = refl; rest = λ j k. refl; more = omega arith; most = omega arith };
  before = λ ws e. let many = e.many in record { many = omega arith; words = λ k. absurd (omega arith) };
}

-- while the words xs are written, the last of them first: those of `rest` are not
pub record Backwards (b : List ℕ) (len : ℕ) (xs rest c : List ℕ) (at : ℕ) : Type 0 where
  pub written : List ℕ
  pub whole : rest ++ written ≡ xs
  pub puts : PutsBefore b len written c at

module _ (b : List ℕ) (len : ℕ) (xs rest : List ℕ) where
  pub backwards_start : len ≤ suc (length b) → rest ≡ xs → Backwards b len xs rest b len
  backwards_start h e = record {
    written = [];
    whole = append-nil rest ∙ e;
    puts = record { grows = grows_none b len h; before = λ ws u. u };
  }

  module _ (c : List ℕ) (at : ℕ) (v : Backwards b len xs rest c at) where
    pub backwards_more : (x : ℕ) (rest' c' : List ℕ) (at' : ℕ) → rest ≡ rest' ++ x ∷ [] → PutsBefore c at (x ∷ []) c' at' →
        Backwards b len xs rest' c' at'
    backwards_more x rest' c' at' e u = record {
      written = x ∷ v.written;
      whole = sym (append_assoc rest' (x ∷ []) v.written) ∙ ap (λ (z : List ℕ). z ++ v.written) (sym e) ∙ v.whole;
      puts = puts_on b c c' len at at' v.written (x ∷ []) v.puts u;
    }

    pub backwards_done : length rest ≡ 0 → PutsBefore b len xs c at
    backwards_done z = subst (λ (y : List ℕ). PutsBefore b len y c at) (go rest z v.whole) v.puts
      where
        go : (l : List ℕ) → length l ≡ 0 → l ++ v.written ≡ xs → v.written ≡ xs
        go [] e w = w
        go (y ∷ l) e w = absurd (omega arith)

-- of the first `count` words of xs those from `left` on are written, the last of them first
abbrev pub Back : (b : List ℕ) (len : ℕ) (xs : List ℕ) (count left : ℕ) (c : List ℕ) (at : ℕ) → Type 0
Back b len xs count left c at = PutsBefore b len (drop left (take count xs)) c at

-- one word more is written before them
module _ (b : List ℕ) (len : ℕ) (xs : List ℕ) (count : ℕ) (few : count ≤ length xs) where
  pub back_more : (left at at' : ℕ) (c c' : List ℕ) → left < count → Back b len xs count (suc left) c at →
      PutsBefore c at (get_or xs left 0 ∷ []) c' at' → Back b len xs count left c' at'
  back_more left at at' c c' l u v =
      let size : length (take count xs) ≡ count = length-take-le count xs few in
      rw (drop-cons (take count xs) left 0 (omega (arith, size)))
      (rw (get_or-take count xs left 0 l) (puts_on b c c' len at at' (drop (suc left) (take count xs)) (get_or xs left 0 ∷ []) u v))

-- what goes on writing has the room that was there
pub room_on : {hm₀ alts b₀ hm b : List ℕ} {len at : ℕ} → SettlingRoom hm₀ alts b₀ len → length hm ≡ length hm₀ → Grows b₀ len b at →
    SettlingRoom hm alts b at
room_on room size grown =
    let rows = room.rows in
    let few = room.few in
    let words = room.words in
    let same = grown.same in
    let most = grown.most in
    record { rows = omega arith; few = omega arith; words = omega arith; fits = omega arith }
