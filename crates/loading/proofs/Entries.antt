-- The graphs of a loaded description in the order of the words: where each lies and from which number on its nodes are numbered, none
-- reaching into another.
-- Assumes nothing.
use Prim.Native.Nat.{ℕ, suc, ◌+◌, ◌≤◌, ◌<◌}
use native.Mathlib.Omega.{arith}
use mathlib.Core.Path.{◌≡◌, refl, sym, ap, subst, ◌∙◌}
use mathlib.Core.Logic.{⊎_elim}
use mathlib.Core.List.Memᴰ
use mathlib.Core.List.{List, [], ◌∷◌, ◌++◌, Memᴰ}
use lib.ListN.{length, length-append}
use Rattle.theory.specs.Net.{Graph}
use Rattle.theory.specs.Descr.{Desc, desc, Disjs, end, ◌and◌, Alts, fail, ◌or◌, disjs, alts}
use Rattle.theory.specs.Layout.{nodes_words, words, disjs_words, alts_words}
use Rattle.layout.specs.Standing.{Stands}
use Rattle.layout.proofs.Standing.{stands_append, stands_cons, stands_length}
use Rattle.loading.specs.Entry.{Entry, entry}
use Rattle.packing.specs.Packed.{tail_word}
use Rattle.loading.specs.Loaded.{extent, header, located, nodes_in, nodes_all, nodes_any, alts_in, alts_any, loaded, loaded_all}
use Rattle.loading.specs.Loaded.{loaded_any}
use Rattle.loading.proofs.Sizes.{located_length, loaded_length, any_length}

abbrev mutual
  pub entries : ℕ → ℕ → Desc → List Entry
  entries p n (desc g ds) = entry p n g ∷ entries_all (p + extent g + 1) (n + length g) ds

  pub entries_all : ℕ → ℕ → Disjs → List Entry
  entries_all p n end = []
  entries_all p n (a and ds) = entries_any (p + 1) n a ++ entries_all (p + suc (length (alts_words a))) (n + nodes_any a) ds

  pub entries_any : ℕ → ℕ → Alts → List Entry
  entries_any p n fail = []
  entries_any p n (d or a) = entries p n d ++ entries_any (p + length (words d)) (n + nodes_in d) a

-- each lies from p up to q, with numbers from n up to m
abbrev pub Inside : ℕ → ℕ → ℕ → ℕ → List Entry → Type 0
Inside p q n m es = (e : Entry) → Memᴰ e es →
    (p ≤ e.at) × (e.at + extent e.graph < q) × (n ≤ e.number) × (e.number + length e.graph ≤ m)

pub inside_append : (p r q n l m : ℕ) (xs ys : List Entry) → p ≤ r → r ≤ q → n ≤ l → l ≤ m → Inside p r n l xs → Inside r q l m ys →
    Inside p q n m (xs ++ ys)
inside_append p r q n l m xs ys h h' k k' a b e i = ⊎_elim
    (λ j. let u = a e j in let v = u.1 in let w = u.3 in (u.0, omega arith, u.2, omega arith))
    (λ j. let u = b e j in let v = u.0 in let w = u.2 in (omega arith, u.1, omega arith, u.3))
    (Memᴰ.append_cases xs i)

pub inside_wide : (p p' q q' n n' m m' : ℕ) (es : List Entry) → p' ≤ p → q ≤ q' → n' ≤ n → m ≤ m' → Inside p q n m es →
    Inside p' q' n' m' es
inside_wide p p' q q' n n' m m' es h h' k k' a e i = let u = a e i in let v = u.0 in let w = u.1 in let x = u.2 in let y = u.3 in
    (omega arith, omega arith, omega arith, omega arith)

inside_one : (p n : ℕ) (g : Graph) → Inside p (p + extent g + 1) n (n + length g) (entry p n g ∷ [])
inside_one p n g e i = ⊎_elim (λ s. subst (λ (f : Entry). (p ≤ f.at) × (f.at + extent f.graph < p + extent g + 1) × (n ≤ f.number)
    × (f.number + length f.graph ≤ n + length g)) (sym s) (omega arith, omega arith, omega arith, omega arith))
    (λ j. absurd (Memᴰ.not-nil j)) (Memᴰ.cases_cons i)

mutual
  pub entries_inside : (p n : ℕ) (d : Desc) → Inside p (p + length (words d)) n (n + nodes_in d) (entries p n d)
  entries_inside p n (desc g ds) =
      let size = length-append (nodes_words g) (disjs ds ∷ disjs_words ds) in
      inside_append p (p + extent g + 1) (p + length (words (desc g ds))) n (n + length g) (n + nodes_in (desc g ds)) (entry p n g ∷ []) _
      (omega arith) (omega arith) (omega arith) (omega arith) (inside_one p n g)
      (inside_wide (p + extent g + 1) (p + extent g + 1) (p + extent g + 1 + length (disjs_words ds)) (p + length (words (desc g ds)))
      (n + length g) (n + length g) (n + length g + nodes_all ds) (n + nodes_in (desc g ds)) _ (omega arith) (omega arith) (omega arith)
      (omega arith) (all_inside (p + extent g + 1) (n + length g) ds))

  all_inside : (p n : ℕ) (ds : Disjs) → Inside p (p + length (disjs_words ds)) n (n + nodes_all ds) (entries_all p n ds)
  all_inside p n end = λ e i. absurd (Memᴰ.not-nil i)
  all_inside p n (a and ds) =
      let r = p + suc (length (alts_words a)) in
      let l = n + nodes_any a in
      let size = length-append (alts_words a) (disjs_words ds) in
      inside_append p r (p + length (disjs_words (a and ds))) n l (n + nodes_all (a and ds)) (entries_any (p + 1) n a) _ (omega arith)
      (omega arith) (omega arith) (omega arith)
      (inside_wide (p + 1) p (p + 1 + length (alts_words a)) r n n l l _ (omega arith) (omega arith) (omega arith) (omega arith)
      (any_inside (p + 1) n a))
      (inside_wide r r (r + length (disjs_words ds)) (p + length (disjs_words (a and ds))) l l (l + nodes_all ds)
      (n + nodes_all (a and ds)) _ (omega arith) (omega arith) (omega arith) (omega arith) (all_inside r l ds))

  any_inside : (p n : ℕ) (a : Alts) → Inside p (p + length (alts_words a)) n (n + nodes_any a) (entries_any p n a)
  any_inside p n fail = λ e i. absurd (Memᴰ.not-nil i)
  any_inside p n (d or a) =
      let r = p + length (words d) in
      let l = n + nodes_in d in
      let size = length-append (words d) (alts_words a) in
      inside_append p r (p + length (alts_words (d or a))) n l (n + nodes_any (d or a)) (entries p n d) _ (omega arith) (omega arith)
      (omega arith) (omega arith) (entries_inside p n d)
      (inside_wide r r (r + length (alts_words a)) (p + length (alts_words (d or a))) l l (l + nodes_any a) (n + nodes_any (d or a)) _
      (omega arith) (omega arith) (omega arith) (omega arith) (any_inside r l a))

-- each entry's words and numbers end before those of the entries after it begin
abbrev pub Ordered : List Entry → Type 0
Ordered [] = Unit {0}
Ordered (e ∷ es) = ((f : Entry) → Memᴰ f es → (e.at + extent e.graph < f.at) × (e.number + length e.graph ≤ f.number))
    × Ordered es

pub ordered_append : (p r q n l m : ℕ) (xs ys : List Entry) → Inside p r n l xs → Inside r q l m ys → Ordered xs → Ordered ys →
    Ordered (xs ++ ys)
ordered_append p r q n l m [] ys a b x y = y
ordered_append p r q n l m (e ∷ xs) ys a b x y = (
  λ f i. ⊎_elim (x.0 f) (λ j. let u = a e (Memᴰ.head refl) in let v = b f j in let s = u.1 in let w = u.3 in let z = v.0 in
      let o = v.2 in (omega arith, omega arith)) (Memᴰ.append_cases xs i),
  ordered_append p r q n l m xs ys (λ f i. a f (Memᴰ.tail i)) b x.1 y,
)

mutual
  pub entries_ordered : (p n : ℕ) (d : Desc) → Ordered (entries p n d)
  entries_ordered p n (desc g ds) =
      let r = p + extent g + 1 in
      let l = n + length g in
      ordered_append p r (r + length (disjs_words ds)) n l (l + nodes_all ds) (entry p n g ∷ []) _ (inside_one p n g) (all_inside r l ds)
      ((λ f i. absurd (Memᴰ.not-nil i)), tt) (all_ordered r l ds)

  all_ordered : (p n : ℕ) (ds : Disjs) → Ordered (entries_all p n ds)
  all_ordered p n end = tt
  all_ordered p n (a and ds) =
      let r = p + suc (length (alts_words a)) in
      let l = n + nodes_any a in
      ordered_append (p + 1) r (r + length (disjs_words ds)) n l (l + nodes_all ds) (entries_any (p + 1) n a) _
      (inside_wide (p + 1) (p + 1) (p + 1 + length (alts_words a)) r n n l l _ (omega arith) (omega arith) (omega arith) (omega arith)
      (any_inside (p + 1) n a)) (all_inside r l ds) (any_ordered (p + 1) n a) (all_ordered r l ds)

  any_ordered : (p n : ℕ) (a : Alts) → Ordered (entries_any p n a)
  any_ordered p n fail = tt
  any_ordered p n (d or a) =
      let r = p + length (words d) in
      let l = n + nodes_in d in
      ordered_append p r (r + length (alts_words a)) n l (l + nodes_any a) (entries p n d) _ (entries_inside p n d) (any_inside r l a)
      (entries_ordered p n d) (any_ordered r l a)

-- an entry's graph lies at its place, with its numbers
abbrev pub Lies : List ℕ → Entry → Type 0
Lies t e = Stands t e.at (header e.number e.graph ∷ located e.number e.graph) (e.at + extent e.graph)

module _ (t : List ℕ) where
  abbrev Lie : List Entry → Type 0
  Lie es = (e : Entry) → Memᴰ e es → Lies t e

  lie_append : (xs ys : List Entry) → Lie xs → Lie ys → Lie (xs ++ ys)
  lie_append xs ys a b e i = ⊎_elim (a e) (b e) (Memᴰ.append_cases xs i)

  mutual
    pub entries_lie : (p n x y q : ℕ) (d : Desc) → Stands t p (loaded p n x y d) q → Lie (entries p n d)
    entries_lie p n x y q (desc g ds) s =
        let word = tail_word (disjs ds) x (p + length (words (desc g ds))) in
        let inner = loaded_all (p + extent g + 1) (n + length g) y ds in
        let parts = (stands_append t (header n g ∷ located n g) (word ∷ inner) p q).0 s in
        let far : parts.0 ≡ p + extent g = stands_length t (header n g ∷ located n g) p parts.0 parts.1
        ∙ ap (λ (k : ℕ). p + suc k) (located_length n g) in
        let rest = (stands_cons t word inner (p + extent g) q).0 (subst (λ (k : ℕ). Stands t k (word ∷ inner) q) far parts.2) in
        let own : Lies t (entry p n g) = subst (λ (k : ℕ). Stands t p (header n g ∷ located n g) k) far parts.1 in
        lie_append (entry p n g ∷ []) _
        (λ e i. ⊎_elim (λ h. subst (λ (f : Entry). Lies t f) (sym h) own) (λ j. absurd (Memᴰ.not-nil j)) (Memᴰ.cases_cons i))
        (all_lie (p + extent g + 1) (n + length g) y q ds rest.2)

    all_lie : (p n y q : ℕ) (ds : Disjs) → Stands t p (loaded_all p n y ds) q → Lie (entries_all p n ds)
    all_lie p n y q end s = λ e i. absurd (Memᴰ.not-nil i)
    all_lie p n y q (a and ds) s =
        let r = p + suc (length (alts_words a)) in
        let first = loaded_any (p + 1) n y (y + alts a) a in
        let inner = loaded_all r (n + nodes_any a) (y + (alts a + alts_any a)) ds in
        let parts = (stands_append t (alts a ∷ first) inner p q).0 s in
        let far : parts.0 ≡ r = stands_length t (alts a ∷ first) p parts.0 parts.1
        ∙ ap (λ (k : ℕ). p + suc k) (any_length (p + 1) n y (y + alts a) a) in
        lie_append (entries_any (p + 1) n a) _
        (any_lie (p + 1) n y (y + alts a) parts.0 a ((stands_cons t (alts a) first p parts.0).0 parts.1).2)
        (all_lie r (n + nodes_any a) _ q ds (subst (λ (k : ℕ). Stands t k inner q) far parts.2))

    any_lie : (p n x y q : ℕ) (a : Alts) → Stands t p (loaded_any p n x y a) q → Lie (entries_any p n a)
    any_lie p n x y q fail s = λ e i. absurd (Memᴰ.not-nil i)
    any_lie p n x y q (d or a) s =
        let r = p + length (words d) in
        let inner = loaded_any r (n + nodes_in d) (x + 1) (y + alts_in d) a in
        let parts = (stands_append t (loaded p n x y d) inner p q).0 s in
        let far : parts.0 ≡ r = stands_length t (loaded p n x y d) p parts.0 parts.1
        ∙ ap (λ (k : ℕ). p + k) (loaded_length p n x y d) in
        lie_append (entries p n d) _ (entries_lie p n x y parts.0 d parts.1)
        (any_lie r (n + nodes_in d) _ _ q a (subst (λ (k : ℕ). Stands t k inner q) far parts.2))
