-- Laws of the bytes that are written, in the form in which the functions' returns ask them.
-- Assumes nothing.
use Prim.Native.Nat.{ℕ, suc, ◌+◌, ◌*◌, ◌-◌, ◌≤◌, ◌<◌}
use native.Mathlib.Omega.{arith}
use native.Mathlib.Numerals.{add-one}
use mathlib.Core.Path.{◌≡◌, refl, sym, ap, ◌∙◌}
use mathlib.Core.Bool.{Bool, true, false}
use mathlib.Core.List.{List, [], ◌∷◌, ◌++◌, append_assoc, append-nil}
use lib.ListN.{length, get_or, take, drop, length-append, length-drop, drop_of_length-le}
use lib.Seq.{drop-drop, sets-eq, sets, sets-eq, length-sets, take_at, take_all, take-suc, length-take-le, take-length}
use lib.Dec.{leb}
use borrow.Author.Tests.{leb-true, leb-false}
use Rattle.blocks.specs.Block.{pair, block, filled}
use Rattle.library.specs.Index.{room_of, first_part}
use Rattle.library.specs.File.{LibraryEntry, quad, word_bytes, description_blocks, bodies}
use Rattle.library_writing.specs.Write.{split, blocks_asked, index_asked, InPairs}
use Rattle.library_writing.proofs.Asked.{tail_of, tail_is, tail_length, split_first, index_first, none_pairs, none_index, none_split, none_blocks}

-- the bytes up to those that were just stored
take_sets : (b vs : List ℕ) (i n : ℕ) → n ≡ i + length vs → n ≤ length b → take n (sets b i vs) ≡ take i b ++ vs
take_sets b vs i n e h =
    let size = length-take-le i b (omega arith) in
    ap (take n) (sets-eq vs b i (omega arith))
    ∙ take_at (take i b ++ vs) (drop (i + length vs) b) n (length-append (take i b) vs ∙ (omega arith))

-- ---- words
word_bytes_more : (xs : List ℕ) (w : ℕ) → word_bytes (xs ++ (w ∷ [])) ≡ word_bytes xs ++ quad w
unfolding word_bytes
word_bytes_more [] w = refl
word_bytes_more (x ∷ xs) w = ap (λ (l : List ℕ). quad x ++ l) (word_bytes_more xs w)

pub no_words : (b ws : List ℕ) → take (4 * 0) b ≡ word_bytes (take 0 ws)
unfolding word_bytes
no_words b ws = refl

pub one_word : (b b' ws : List ℕ) (i : ℕ) → i < length ws → 4 * length ws ≤ length b → take (4 * i) b ≡ word_bytes (take i ws)
    → b' ≡ sets b (4 * i) (quad (get_or ws i 0)) → take (4 * (i + 1)) b' ≡ word_bytes (take (i + 1) ws)
one_word b b' ws i h room e s =
    ap (take (4 * (i + 1))) s ∙ take_sets b (quad (get_or ws i 0)) (4 * i) (4 * (i + 1)) (omega arith) (omega arith)
    ∙ ap (λ (l : List ℕ). l ++ quad (get_or ws i 0)) e ∙ sym (word_bytes_more (take i ws) (get_or ws i 0))
    ∙ ap word_bytes (sym (take-suc ws i 0 h) ∙ ap (λ (k : ℕ). take k ws) (sym (add-one i)))

pub all_words : (b ws : List ℕ) (i : ℕ) → i ≡ length ws → take (4 * i) b ≡ word_bytes (take i ws)
    → take (4 * length ws) b ≡ word_bytes ws
all_words b ws i n e =
    ap (λ (k : ℕ). take (4 * k) b) (sym n) ∙ e ∙ ap (λ (k : ℕ). word_bytes (take k ws)) n ∙ ap word_bytes (take-length ws)

-- a word that was stored
pub stored : (b : List ℕ) (i w : ℕ) → i + 3 < length b → take i b ++ (quad w ++ drop 4 (drop i b)) ≡ sets b i (quad w)
stored b i w h = rw (drop-drop 4 i b) (sym (sets-eq (quad w) b i (omega arith) ∙ append_assoc (take i b) (quad w) (drop (i + 4) b)))

-- ---- index entries
pub four_pairs : (b₀ b₁ b₂ b₃ b₄ : List ℕ) (i p q r s : ℕ) → i + 7 < length b₀ → b₁ ≡ sets b₀ i (pair p) → b₂ ≡ sets b₁ (i + 2) (pair q)
    → b₃ ≡ sets b₂ (i + 4) (pair r) → b₄ ≡ sets b₃ (i + 6) (pair s)
    → take (i + 8) b₄ ≡ take i b₀ ++ (pair p ++ (pair q ++ (pair r ++ pair s)))
four_pairs b₀ b₁ b₂ b₃ b₄ i p q r s h e₁ e₂ e₃ e₄ =
    let n₁ = ap length e₁ ∙ length-sets b₀ i (pair p) in
    let n₂ = ap length e₂ ∙ length-sets b₁ (i + 2) (pair q) in
    let n₃ = ap length e₃ ∙ length-sets b₂ (i + 4) (pair r) in
    let t₁ : take (i + 2) b₁ ≡ take i b₀ ++ pair p =
    ap (take (i + 2)) e₁ ∙ take_sets b₀ (pair p) i (i + 2) (omega arith) (omega arith) in
    let t₂ : take (i + 4) b₂ ≡ take (i + 2) b₁ ++ pair q =
    ap (take (i + 4)) e₂ ∙ take_sets b₁ (pair q) (i + 2) (i + 4) (omega arith) (omega arith) in
    let t₃ : take (i + 6) b₃ ≡ take (i + 4) b₂ ++ pair r =
    ap (take (i + 6)) e₃ ∙ take_sets b₂ (pair r) (i + 4) (i + 6) (omega arith) (omega arith) in
    let t₄ : take (i + 8) b₄ ≡ take (i + 6) b₃ ++ pair s =
    ap (take (i + 8)) e₄ ∙ take_sets b₃ (pair s) (i + 6) (i + 8) (omega arith) (omega arith) in
    t₄ ∙ ap (λ (l : List ℕ). l ++ pair s) (t₃ ∙ ap (λ (l : List ℕ). l ++ pair r) (t₂ ∙ ap (λ (l : List ℕ). l ++ pair q) t₁))
    ∙ append_assoc ((take i b₀ ++ pair p) ++ pair q) (pair r) (pair s) ∙ append_assoc (take i b₀ ++ pair p) (pair q) (pair r ++ pair s)
    ∙ append_assoc (take i b₀) (pair p) (pair q ++ (pair r ++ pair s))

-- an entry, and those after it
pub one_entry : (b mid out es : List ℕ) (i k : ℕ) → 2 ≤ length es
    → take (i + 8) mid ≡ take i b ++ (pair (get_or es 0 0) ++ (pair k ++ (pair (get_or es 1 0) ++ pair 0)))
    → take (i + 8 + 4 * length (tail_of 2 es)) out ≡ take (i + 8) mid ++ index_asked (k + room_of (get_or es 1 0)) (tail_of 2 es)
    → take (i + 4 * length es) out ≡ take i b ++ index_asked k es
one_entry b mid out es i k two e more =
    let n = tail_length 2 es in
    let entry = pair (get_or es 0 0) ++ (pair k ++ (pair (get_or es 1 0) ++ pair 0)) in
    let rest = index_asked (k + room_of (get_or es 1 0)) (tail_of 2 es) in
    let size : i + 4 * length es ≡ i + 8 + 4 * length (tail_of 2 es) = omega arith in
    ap (λ (m : ℕ). take m out) size ∙ more ∙ ap (λ (l : List ℕ). l ++ rest) e ∙ append_assoc (take i b) entry rest
    ∙ ap (λ (l : List ℕ). take i b ++ l) (sym (index_first k es two))

pub no_entry : (b es : List ℕ) (i k : ℕ) → length es < 2 → InPairs es → take (i + 4 * length es) b ≡ take i b ++ index_asked k es
no_entry b es i k few p =
    let n = none_pairs es few p in
    let size : i + 4 * length es ≡ i = omega arith in
    ap (λ (m : ℕ). take m b) size ∙ sym (append-nil (take i b)) ∙ ap (λ (l : List ℕ). take i b ++ l) (none_index k es few)

-- the count that was stored at the start
pub count_put : (b b' : List ℕ) (n : ℕ) → 2 ≤ length b → b' ≡ sets b 0 (pair n) → take 2 b' ≡ pair n
count_put b b' n h e = ap (take 2) e ∙ take_sets b (pair n) 0 2 refl h

-- ---- two parts, one behind the other
pub both_parts : (out x y : List ℕ) (k : ℕ) → length x ≡ k
    → take k (x ++ drop k out) ++ (y ++ drop (length (x ++ drop k out) - k) (drop k (x ++ drop k out))) ≡ x ++ y
both_parts out x y k h =
    let mid = x ++ drop k out in
    let size = length-drop k mid in
    let front : take k mid ≡ x = take_at x (drop k out) k h in
    let none : drop (length mid - k) (drop k mid) ≡ [] = drop_of_length-le (drop k mid) {i = length mid - k} (omega arith) in
    rw none (rw front (ap (λ (l : List ℕ). x ++ l) (append-nil y)))

-- ---- the blocks of a description
part_take : (ws : List ℕ) → take (first_part (length ws)) ws ≡ take 126 ws
part_take ws = go (leb (length ws) 126) refl
  where
    go : (t : Bool) → leb (length ws) 126 ≡ t → take (first_part (length ws)) ws ≡ take 126 ws
    go true e =
        let h = leb-true (length ws) 126 e in
        take_all (first_part (length ws)) ws (omega arith) ∙ sym (take_all 126 ws h)
    go false e =
        let h = leb-false (length ws) 126 e in
        let n : first_part (length ws) ≡ 126 = omega arith in
        ap (λ (k : ℕ). take k ws) n

part_drop : (ws : List ℕ) → drop (first_part (length ws)) ws ≡ drop 126 ws
part_drop ws = go (leb (length ws) 126) refl
  where
    go : (t : Bool) → leb (length ws) 126 ≡ t → drop (first_part (length ws)) ws ≡ drop 126 ws
    go true e =
        let h = leb-true (length ws) 126 e in
        drop_of_length-le ws {i = first_part (length ws)} (omega arith) ∙ sym (drop_of_length-le ws {i = 126} h)
    go false e =
        let h = leb-false (length ws) 126 e in
        let n : first_part (length ws) ≡ 126 = omega arith in
        ap (λ (k : ℕ). drop k ws) n

pub room_first : (n : ℕ) → 0 < n → room_of n ≡ suc (room_of (n - first_part n))
room_first n h = omega arith

more_blocks : (c k : ℕ) (ws : List ℕ)
    → description_blocks (suc c) k ws ≡ block (filled (word_bytes (take 126 ws))) k ++ description_blocks c (k + 1) (drop 126 ws)
unfolding description_blocks
more_blocks c k ws = refl

pub one_block : (x y ws : List ℕ) (k here : ℕ) → here ≡ first_part (length ws) → 0 < here
    → x ≡ block (filled (word_bytes (take here ws))) k
    → y ≡ description_blocks (room_of (length (tail_of here ws))) (k + 1) (tail_of here ws)
    → x ++ y ≡ description_blocks (room_of (length ws)) k ws
one_block x y ws k here e h first others =
    let n = length ws in
    let left : length (tail_of here ws) ≡ n - first_part n = tail_length here ws ∙ ap (λ (j : ℕ). n - j) e in
    let head : take here ws ≡ take 126 ws = ap (λ (j : ℕ). take j ws) e ∙ part_take ws in
    let rest : tail_of here ws ≡ drop 126 ws = tail_is here ws ∙ ap (λ (j : ℕ). drop j ws) e ∙ part_drop ws in
    let c = room_of (n - first_part n) in
    let y_is : y ≡ description_blocks c (k + 1) (drop 126 ws) =
    others ∙ ap (λ (j : ℕ). description_blocks (room_of j) (k + 1) (tail_of here ws)) left ∙ ap (description_blocks c (k + 1)) rest in
    let x_is : x ≡ block (filled (word_bytes (take 126 ws))) k = first ∙ ap (λ (l : List ℕ). block (filled (word_bytes l)) k) head in
    let some : 0 < n = omega arith in
    ap (λ (l : List ℕ). l ++ y) x_is
    ∙ ap (λ (l : List ℕ). block (filled (word_bytes (take 126 ws))) k ++ l) y_is
    ∙ sym (ap (λ (j : ℕ). description_blocks j k ws) (room_first n some) ∙ more_blocks c k ws)

pub no_block : (out ws : List ℕ) (k : ℕ) → length ws ≡ 0 → length out ≡ 512 * room_of (length ws)
    → out ≡ description_blocks (room_of (length ws)) k ws
unfolding description_blocks
no_block [] [] k h e = refl
no_block (x ∷ out) [] k h e = absurd (omega arith)
no_block out (w ∷ ws) k h e = absurd (omega arith)

-- ---- the blocks of all descriptions
pub one_body : (out x y es ws : List ℕ) (k here count size : ℕ) → 2 ≤ length es → count ≡ get_or es 1 0 → here ≡ room_of count
    → count ≤ length ws → length x ≡ size → x ≡ description_blocks (room_of (length (take count ws))) k (take count ws)
    → y ≡ bodies (k + here) (split (tail_of 2 es) (tail_of count ws))
    → take size (x ++ drop size out) ++ (y ++ drop (length (x ++ drop size out) - size) (drop size (x ++ drop size out)))
    ≡ bodies k (split es ws)
unfolding bodies
one_body out x y es ws k here count size two n r there long first others =
    let words = length-take-le count ws there in
    let entry : LibraryEntry = (get_or es 0 0, take count ws) in
    let rest = split (tail_of 2 es) (tail_of count ws) in
    let entries : split es ws ≡ entry ∷ rest =
    split_first es ws two
    ∙ ap (λ (j : ℕ). (get_or es 0 0, take j ws) ∷ split (drop 2 es) (drop j ws)) (sym n)
    ∙ ap (λ (l : List ℕ). entry ∷ split l (drop count ws)) (sym (tail_is 2 es))
    ∙ ap (λ (l : List ℕ). entry ∷ split (tail_of 2 es) l) (sym (tail_is count ws)) in
    let room : room_of (length (take count ws)) ≡ here = ap room_of words ∙ sym r in
    both_parts out x y size long ∙ ap (λ (l : List ℕ). l ++ y) first
    ∙ ap (λ (l : List ℕ). description_blocks (room_of (length (take count ws))) k (take count ws) ++ l)
    (others ∙ ap (λ (j : ℕ). bodies (k + j) rest) (sym room))
    ∙ sym (ap (bodies k) entries)

pub no_body : (out es ws : List ℕ) (k : ℕ) → length es < 2 → length out ≡ 512 * blocks_asked es → out ≡ bodies k (split es ws)
unfolding bodies
no_body [] es ws k few e = sym (ap (bodies k) (none_split es ws few))
no_body (x ∷ out) es ws k few e = absurd (let n = none_blocks es few in omega arith)
