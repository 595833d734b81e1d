-- What is loaded stands so that code can walk it.
-- Assumes nothing.
use Prim.Native.Nat.{ℕ, suc, ◌+◌, ◌≤◌, ◌<◌}
use native.Mathlib.Omega.{arith}
use native.Mathlib.Nat.{add_assoc}
use mathlib.Core.Path.{◌≡◌, sym, subst, ap, ◌∙◌}
use mathlib.Core.List.{List, ◌∷◌}
use lib.ListN.{length, length-append}
use Rattle.theory.specs.Limits.{input_limit}
use Rattle.theory.specs.Descr.{Desc, desc, Disjs, end, ◌and◌, Alts, fail, ◌or◌, disjs, alts}
use Rattle.theory.specs.Layout.{nodes_words, words, disjs_words, alts_words}
use Rattle.theory.proofs.Meaning.{canonical_some}
use Rattle.theory.specs.Canonical.{Can, CanAll, CanAny}
use Rattle.layout.specs.Standing.{Stands}
use Rattle.layout.proofs.Standing.{stands_append, stands_nil, stands_cons, stands_length}
use Rattle.modes_by_marks.specs.Names.{Distinct, DistinctAll, DistinctAny}
use Rattle.packing.specs.Packed.{mark_step, tail_word, word_disjunctions, word_mark, word_end}
use Rattle.packing.proofs.Packed.{count_back, mark_back, end_back}
use Rattle.loading.specs.Loaded.{extent, header, located, nodes_in, nodes_all, nodes_any, alts_in, alts_all, alts_any, loaded}
use Rattle.loading.specs.Loaded.{loaded_all, loaded_any, input_loaded}
use Rattle.loading.specs.Numbered.{numbered, numbered_all, numbered_any, input_numbered}
use Rattle.loading.specs.At.{marked, At, AtAll, AtAny}
use Rattle.loading.proofs.Sizes.{located_length, loaded_length, any_length, weights_fit_all}
use Rattle.loading.proofs.Names.{numbered_places, numbered_options, numbered_distinct, alts_few}

module _ (t : List ℕ) where
  mutual
    -- where words and marks are as few as an input has
    pub loaded_at : (d : Desc) (p n x y q : ℕ) → Can d → length (words d) ≤ input_limit → x < mark_step → y + alts_in d ≤ mark_step →
        Distinct (numbered y d) → Stands t p (loaded p n x y d) q →
        At t p n (numbered y d) q (n + nodes_in d) × (marked t p (numbered y d) ≡ x)
    loaded_at (desc g ds) p n x y q c few own free distinct s =
        let whole = stands_length t (loaded p n x y (desc g ds)) p q s ∙ ap (λ (k : ℕ). p + k) (loaded_length p n x y (desc g ds)) in
        let parts = (stands_append t (header n g ∷ located n g) _ p q).0 s in
        let far : parts.0 ≡ p + extent g = stands_length t (header n g ∷ located n g) p parts.0 parts.1
        ∙ ap (λ (k : ℕ). p + suc k) (located_length n g) in
        let graph = (stands_cons t (header n g) (located n g) p parts.0).0 parts.1 in
        let end = p + length (words (desc g ds)) in
        let word = tail_word (disjs ds) x end in
        let inner = loaded_all (p + extent g + 1) (n + length g) y ds in
        let rest = (stands_cons t word inner (p + extent g) q).0 (subst (λ (k : ℕ). Stands t k (word ∷ inner) q) far parts.2) in
        let size = length-append (nodes_words g) (disjs ds ∷ disjs_words ds) in
        let many : disjs ds < mark_step = omega (arith, weights_fit_all ds) in (
          (
            canonical_some g c.0,
            graph.0,
            graph.1,
            subst (λ (k : ℕ). Stands t (p + 1) (located n g) k) far graph.2,
            rest.0,
            (
              ap word_disjunctions rest.1 ∙ count_back (disjs ds) x end many ∙ sym (numbered_places y ds),
              ap word_end rest.1 ∙ end_back (disjs ds) x end many own ∙ sym whole,
            ),
            subst (λ (k : ℕ). AtAll t (p + extent g + 1) (n + length g) (numbered_all y ds) q k) (add_assoc n (length g) (nodes_all ds))
                (all_at ds (p + extent g + 1) (n + length g) y q c.1 (omega arith) free distinct rest.2),
          ),
          ap word_mark rest.1 ∙ mark_back (disjs ds) x end many own,
        )

    all_at : (ds : Disjs) (p n y q : ℕ) → CanAll ds → length (disjs_words ds) ≤ input_limit → y + alts_all ds ≤ mark_step →
        DistinctAll (numbered_all y ds) → Stands t p (loaded_all p n y ds) q → AtAll t p n (numbered_all y ds) q (n + nodes_all ds)
    all_at end p n y q c few free distinct s = ((stands_nil t p q).0 s, omega arith)
    all_at (a and ds) p n y q c few free distinct s =
        let first = loaded_any (p + 1) n y (y + alts a) a in
        let later = y + (alts a + alts_any a) in
        let parts = (stands_append t (alts a ∷ first) _ p q).0 s in
        let far : p + suc (length (alts_words a)) ≡ parts.0 = sym (stands_length t (alts a ∷ first) p parts.0 parts.1
        ∙ ap (λ (k : ℕ). p + suc k) (any_length (p + 1) n y (y + alts a) a)) in
        let here = (stands_cons t (alts a) first p parts.0).0 parts.1 in
        let size = length-append (alts_words a) (disjs_words ds) in
        let rest = all_at ds parts.0 (n + nodes_any a) later q c.1 (omega arith) (omega arith) distinct.1
        (subst (λ (k : ℕ). Stands t parts.0 (loaded_all k (n + nodes_any a) later ds) q) far parts.2) in (
          parts.0,
          n + nodes_any a,
          here.0,
          here.1 ∙ sym (numbered_options y (y + alts a) a),
          any_at a (p + 1) n y (y + alts a) parts.0 c.0 (omega arith) (omega arith) (omega arith) distinct.0 here.2,
          subst (λ (k : ℕ). AtAll t parts.0 (n + nodes_any a) (numbered_all later ds) q k)
              (add_assoc n (nodes_any a) (nodes_all ds)) rest,
          distinct.2,
        )

    any_at : (a : Alts) (p n x y q : ℕ) → CanAny a → length (alts_words a) ≤ input_limit → x + alts a ≤ mark_step →
        y + alts_any a ≤ mark_step → DistinctAny (numbered_any x y a) → Stands t p (loaded_any p n x y a) q →
        AtAny t p n (numbered_any x y a) q (n + nodes_any a)
    any_at fail p n x y q c few own free distinct s = ((stands_nil t p q).0 s, omega arith)
    any_at (d or a) p n x y q c few own free distinct s =
        let later = y + alts_in d in
        let parts = (stands_append t (loaded p n x y d) _ p q).0 s in
        let far : p + length (words d) ≡ parts.0 =
        sym (stands_length t (loaded p n x y d) p parts.0 parts.1 ∙ ap (λ (k : ℕ). p + k) (loaded_length p n x y d)) in
        let size = length-append (words d) (alts_words a) in
        let first = loaded_at d p n x y parts.0 c.0 (omega arith) (omega arith) (omega arith) distinct.0 parts.1 in
        let rest = any_at a parts.0 (n + nodes_in d) (x + 1) later q c.1 (omega arith) (omega arith) (omega arith) distinct.1
        (subst (λ (k : ℕ). Stands t parts.0 (loaded_any k (n + nodes_in d) (x + 1) later a) q) far parts.2) in (
          parts.0,
          n + nodes_in d,
          first.1,
          first.0,
          subst (λ (k : ℕ). AtAny t parts.0 (n + nodes_in d) (numbered_any (x + 1) later a) q k)
              (add_assoc n (nodes_in d) (nodes_any a)) rest,
          distinct.2,
          distinct.3,
          distinct.4,
        )

  -- an input, its nodes numbered from n on
  pub input_at : (d : Desc) (p n q : ℕ) → Can d → length (words d) ≤ input_limit → n + nodes_in d ≤ input_limit →
      Stands t p (input_loaded p n d) q → At t p n (input_numbered n d) q (n + nodes_in d)
  input_at d p n q c few low s = let marks = alts_few d c in
      (loaded_at d p n n (n + 1) q c few (omega arith) (omega arith) (numbered_distinct (n + 1) d) s).0
