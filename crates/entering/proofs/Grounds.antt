-- The graphs of both inputs are a ground, and those of each input are among them.
-- Assumes nothing.
use Prim.Native.Nat.{ℕ, suc, ◌+◌, ◌≤◌}
use native.Mathlib.Omega.{arith}
use mathlib.Core.Path.{◌≡◌, sym, ap, subst}
use mathlib.Core.List.Memᴰ
use mathlib.Core.List.{List, ◌∷◌, Memᴰ}
use lib.ListN.{length, length-append}
use Rattle.theory.specs.Limits.{input_limit, depth_limit}
use Rattle.theory.specs.Descr.{Desc, desc, Disjs, end, ◌and◌, Alts, fail, ◌or◌, disjs, alts}
use Rattle.theory.specs.Layout.{nodes_words, disjs_words, alts_words, WellFormed}
use Rattle.theory.specs.Layout as layout
use Rattle.area.specs.Map.{SIZE}
use Rattle.area.specs.Region.{loaded_words}
use Rattle.loading.specs.Entry.{Entry, entry}
use Rattle.loading.specs.Loaded.{extent, nodes_in, nodes_all, nodes_any, alts_in, alts_any}
use Rattle.loading.specs.Numbered.{numbered, numbered_all, numbered_any}
use Rattle.loading.specs.At.{At, AtAll, AtAny}
use Rattle.loading.proofs.Entries.{entries, entries_all, entries_any}
use Rattle.opening.specs.Opening.{Stand}
use Rattle.opening.proofs.Universe.{universe, good, comes, nodes_room}
use Rattle.entering.specs.Taken.{Among, AmongAll, AmongAny}
use Rattle.entering.specs.Ground.{Ground}

pub ground : (w : List ℕ) (d e : Desc) (n : ℕ) → SIZE ≤ length w → WellFormed d depth_limit → WellFormed e depth_limit →
    length (layout.words d) ≤ input_limit → length (layout.words e) ≤ input_limit → Stand (loaded_words w) d e n →
    Ground n (loaded_words w) (universe d e)
unfolding loaded_words
ground w d e n long wd we fd fe s = record {
  few = omega (arith, nodes_room w d e n long wd we fd fe s);
  canonical = λ x i. (good w d e n long wd we fd fe s x i).0;
  comes = λ v es k same h all x i new. comes v d e n h.long wd we fd fe (subst (λ (t : List ℕ). Stand t d e n) (sym same) s) es k h all x
      i new;
}

-- ---- where what is numbered ends
module _ (t : List ℕ) where
  mutual
    pub numbered_end : (d : Desc) (p l n y q m : ℕ) → l ≡ n → At t p l (numbered y d) q m →
        (q ≡ p + length (layout.words d)) × (m ≡ n + nodes_in d)
    numbered_end (desc g ds) p l n y q m e at =
        let size = length-append (nodes_words g) (disjs ds ∷ disjs_words ds) in
        let r = all_end ds (p + extent g + 1) (l + length g) (n + length g) y q m (omega arith) at.6 in
        let u = r.0 in
        let v = r.1 in
        (omega arith, omega arith)

    all_end : (ds : Disjs) (p l n y q m : ℕ) → l ≡ n → AtAll t p l (numbered_all y ds) q m →
        (q ≡ p + length (disjs_words ds)) × (m ≡ n + nodes_all ds)
    all_end end p l n y q m e at = let u = at.0 in let v = at.1 in (omega arith, omega arith)
    all_end (a and ds) p l n y q m e at =
        let size = length-append (alts_words a) (disjs_words ds) in
        let f = any_end a (p + 1) l n y (y + alts a) at.0 at.1 e at.4 in
        let r = all_end ds at.0 at.1 (n + nodes_any a) (y + (alts a + alts_any a)) q m f.1 at.5 in
        let u = f.0 in
        let v = r.0 in
        let x = r.1 in
        (omega arith, omega arith)

    any_end : (a : Alts) (p l n x y q m : ℕ) → l ≡ n → AtAny t p l (numbered_any x y a) q m →
        (q ≡ p + length (alts_words a)) × (m ≡ n + nodes_any a)
    any_end fail p l n x y q m e at = let u = at.0 in let v = at.1 in (omega arith, omega arith)
    any_end (d or a) p l n x y q m e at =
        let size = length-append (layout.words d) (alts_words a) in
        let f = numbered_end d p l n y at.0 at.1 e at.3 in
        let r = any_end a at.0 at.1 (n + nodes_in d) (x + 1) (y + alts_in d) q m f.1 at.4 in
        let u = f.0 in
        let v = r.0 in
        let z = r.1 in
        (omega arith, omega arith)

  -- ---- and where its graphs lie
  module _ (U : List Entry) where
    abbrev All : List Entry → Type 0
    All es = (x : Entry) → Memᴰ x es → Memᴰ x U

    mutual
      pub numbered_among : (d : Desc) (p l n y q m : ℕ) → l ≡ n → (at : At t p l (numbered y d) q m) → All (entries p n d) →
          Among U t p l (numbered y d) q m at
      numbered_among (desc g ds) p l n y q m e at u = (
        u (entry p l g) (Memᴰ.head (ap (λ (k : ℕ). entry p k g) e)),
        all_among ds (p + extent g + 1) (l + length g) (n + length g) y q m (omega arith) at.6 (λ x i. u x (Memᴰ.tail i)),
      )

      all_among : (ds : Disjs) (p l n y q m : ℕ) → l ≡ n → (at : AtAll t p l (numbered_all y ds) q m) → All (entries_all p n ds) →
          AmongAll U t p l (numbered_all y ds) q m at
      all_among end p l n y q m e at u = tt
      all_among (a and ds) p l n y q m e at u =
          let f = any_end a (p + 1) l n y (y + alts a) at.0 at.1 e at.4 in
          let r = f.0 in
          let z : p + suc (length (alts_words a)) ≡ at.0 = omega arith in (
            any_among a (p + 1) l n y (y + alts a) at.0 at.1 e at.4
                (λ x i. u x (Memᴰ.append_left (entries_all (p + suc (length (alts_words a))) (n + nodes_any a) ds) i)),
            all_among ds at.0 at.1 (n + nodes_any a) (y + (alts a + alts_any a)) q m f.1 at.5
                (λ x i. u x (Memᴰ.append_right (entries_any (p + 1) n a)
                (subst (λ (k : ℕ). Memᴰ x (entries_all k (n + nodes_any a) ds)) (sym z) i))),
          )

      any_among : (a : Alts) (p l n x y q m : ℕ) → l ≡ n → (at : AtAny t p l (numbered_any x y a) q m) → All (entries_any p n a) →
          AmongAny U t p l (numbered_any x y a) q m at
      any_among fail p l n x y q m e at u = tt
      any_among (d or a) p l n x y q m e at u =
          let f = numbered_end d p l n y at.0 at.1 e at.3 in
          let z : p + length (layout.words d) ≡ at.0 = sym f.0 in (
            numbered_among d p l n y at.0 at.1 e at.3
                (λ o i. u o (Memᴰ.append_left (entries_any (p + length (layout.words d)) (n + nodes_in d) a) i)),
            any_among a at.0 at.1 (n + nodes_in d) (x + 1) (y + alts_in d) q m f.1 at.4
                (λ o i. u o (Memᴰ.append_right (entries p n d)
                (subst (λ (k : ℕ). Memᴰ o (entries_any k (n + nodes_in d) a)) (sym z) i))),
          )
