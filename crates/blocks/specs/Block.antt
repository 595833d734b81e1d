-- House blocks, as document 01's section of that name has them.
-- Assumes nothing: these are definitions.
use Rattle.std.specs.Prelude.{ℕ, ◌+◌, ◌*◌, ◌-◌, ◌/◌, ◌%◌, Bool, true, false, List, [], ◌∷◌, ◌++◌, length, get_or, take, drop, replicate, eqb}

-- "A block has 512 bytes: 506 of content", "the first 508 bytes"
abbrev pub block_size : ℕ
block_size = 512

abbrev pub content_size : ℕ
content_size = 506

abbrev pub checked_size : ℕ
checked_size = 508

-- "modulo 65,535"
abbrev pub sum_limit : ℕ
sum_limit = 65535

-- a choice by a test
abbrev pub whichever : {A : Type 0} → Bool → A → A → A
whichever true a b = a
whichever false a b = b

-- "all numbers little-endian": a number in 16 bits
abbrev pub pair : ℕ → List ℕ
pair n = (n % 256) ∷ (n / 256 % 256) ∷ []

-- the number that stands in the two bytes from i on
abbrev pub pair_at : List ℕ → ℕ → ℕ
pair_at b i = get_or b i 0 + 256 * get_or b (i + 1) 0

-- "both starting at 0: first the sum of the bytes, then the sum of the first sum's values after each byte"; here from any values
-- on
unfoldable pub sums : ℕ → ℕ → List ℕ → ℕ × ℕ
sums a b [] = (a, b)
sums a b (x ∷ xs) = sums ((a + x) % sum_limit) ((b + (a + x) % sum_limit) % sum_limit) xs

-- "The check is two 16-bit sums modulo 65,535"
unfoldable pub check : List ℕ → List ℕ
check bs = pair (sums 0 0 bs).0 ++ pair (sums 0 0 bs).1

-- "506 of content, its number (from 0) in 16 bits, its check"
unfoldable pub block : List ℕ → ℕ → List ℕ
block content number = (content ++ pair number) ++ check (content ++ pair number)

-- content of which some is used: "unused content zero"
unfoldable pub filled : List ℕ → List ℕ
filled bs = bs ++ replicate (content_size - length bs) 0

unfoldable pub zeros : List ℕ → Bool
zeros [] = true
zeros (x ∷ xs) = whichever (eqb x 0) (zeros xs) false

-- "A block is damaged when its check or its number is wrong or its unused content isn't zero": the first `used` bytes of its
-- content are used
unfoldable pub intact : ℕ → ℕ → List ℕ → Bool
intact used number b =
    whichever (eqb (length b) block_size)
    (whichever (eqb (pair_at b 508) (sums 0 0 (take checked_size b)).0)
    (whichever (eqb (pair_at b 510) (sums 0 0 (take checked_size b)).1)
    (whichever (eqb (pair_at b 506) number) (zeros (take (content_size - used) (drop used b))) false)
    false)
    false)
    false

-- block k of a file
abbrev pub block_of : ℕ → List ℕ → List ℕ
block_of k file = take block_size (drop (block_size * k) file)

-- the bytes with number and check written behind the content; bytes that are no block stay
unfoldable pub sealed : ℕ → List ℕ → List ℕ
sealed number b = whichever (eqb (length b) block_size) (block (take content_size b) number) b
