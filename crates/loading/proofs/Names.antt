-- The names that numbering gives: they belong to the description as it was, those of a disjunction stand together, and no two are the
-- same.
-- Assumes nothing.
use Prim.Native.Nat.{ℕ, zero, suc, ◌+◌, ◌≤◌, ◌<◌}
use native.Mathlib.Omega.{arith}
use mathlib.Core.Path.{◌≡◌, refl, ap, ap₂}
use mathlib.Core.Logic.{◌⊎◌, inl, inr, ⊎_elim}
use mathlib.Core.List.Memᴰ
use mathlib.Core.List.{List, [], ◌∷◌, Memᴰ}
use Rattle.theory.specs.Descr.{Desc, desc, Disjs, end, ◌and◌, Alts, fail, ◌or◌, disjs, alts}
use Rattle.theory.proofs.Meaning.{canonical_some}
use Rattle.theory.specs.Canonical.{Can, CanAll, CanAny}
use Rattle.engine.specs.Placed.{Options, no_more, option, strip, strip_all, strip_any}
use Rattle.modes_by_marks.specs.Names.{names, names_all, names_any, Distinct, DistinctAll, DistinctAny}
use Rattle.loading.specs.Loaded.{nodes_in, nodes_all, nodes_any, alts_in, alts_all, alts_any}
use Rattle.loading.specs.Numbered.{numbered, numbered_all, numbered_any, input_numbered, places, options, Between}

mutual
  pub numbered_strip : (y : ℕ) (d : Desc) → strip (numbered y d) ≡ d
  numbered_strip y (desc g ds) = ap (desc g) (numbered_strip_all y ds)

  numbered_strip_all : (y : ℕ) (ds : Disjs) → strip_all (numbered_all y ds) ≡ ds
  numbered_strip_all y end = refl
  numbered_strip_all y (a and ds) = ap₂ ◌and◌ (numbered_strip_any y (y + alts a) a) (numbered_strip_all (y + (alts a + alts_any a)) ds)

  numbered_strip_any : (x y : ℕ) (a : Alts) → strip_any (numbered_any x y a) ≡ a
  numbered_strip_any x y fail = refl
  numbered_strip_any x y (d or a) = ap₂ ◌or◌ (numbered_strip y d) (numbered_strip_any (x + 1) (y + alts_in d) a)

pub numbered_places : (y : ℕ) (ds : Disjs) → places (numbered_all y ds) ≡ disjs ds
numbered_places y end = refl
numbered_places y (a and ds) = let h = numbered_places (y + (alts a + alts_any a)) ds in omega arith

pub numbered_options : (x y : ℕ) (a : Alts) → options (numbered_any x y a) ≡ alts a
numbered_options x y fail = refl
numbered_options x y (d or a) = let h = numbered_options (x + 1) (y + alts_in d) a in omega arith

-- the names of some alternatives, without those inside of them
abbrev pub own_names : Options → List ℕ
own_names no_more = []
own_names (option x d a) = x ∷ own_names a

-- k numbers, from x on
abbrev pub run : ℕ → ℕ → List ℕ
run x zero = []
run x (suc k) = x ∷ run (x + 1) k

-- the alternatives of a disjunction have names one after the other
pub names_together : (x y : ℕ) (a : Alts) → own_names (numbered_any x y a) ≡ run x (alts a)
names_together x y fail = refl
names_together x y (d or a) = ap (λ (l : List ℕ). x ∷ l) (names_together (x + 1) (y + alts_in d) a)

mutual
  names_between : (y : ℕ) (d : Desc) → Between y (y + alts_in d) (names (numbered y d))
  names_between y (desc g ds) z i = names_all_between y ds z i

  names_all_between : (y : ℕ) (ds : Disjs) → Between y (y + alts_all ds) (names_all (numbered_all y ds))
  names_all_between y end z i = absurd (Memᴰ.not-nil i)
  names_all_between y (a and ds) z i =
      ⊎_elim (λ j. ⊎_elim (λ b. let u = b.0 in let v = b.1 in (omega arith, omega arith))
      (λ b. let u = b.0 in let v = b.1 in (omega arith, omega arith)) (names_any_between y (y + alts a) a z j))
      (λ j. let b = names_all_between (y + (alts a + alts_any a)) ds z j in let u = b.0 in let v = b.1 in (omega arith, omega arith))
      (Memᴰ.append_cases (names_any (numbered_any y (y + alts a) a)) i)

  names_any_between : (x y : ℕ) (a : Alts) (z : ℕ) → Memᴰ z (names_any (numbered_any x y a)) →
      ((x ≤ z) × (z < x + alts a)) ⊎ ((y ≤ z) × (z < y + alts_any a))
  names_any_between x y fail z i = absurd (Memᴰ.not-nil i)
  names_any_between x y (d or a) z i =
      ⊎_elim (λ e. inl (omega arith, omega arith)) (λ j. ⊎_elim
      (λ k. let b = names_between y d z k in let u = b.0 in let v = b.1 in inr (omega arith, omega arith))
      (λ k. ⊎_elim (λ b. let u = b.0 in let v = b.1 in inl (omega arith, omega arith))
      (λ b. let u = b.0 in let v = b.1 in inr (omega arith, omega arith)) (names_any_between (x + 1) (y + alts_in d) a z k))
      (Memᴰ.append_cases (names (numbered y d)) j)) (Memᴰ.cases_cons i)

mutual
  pub numbered_distinct : (y : ℕ) (d : Desc) → Distinct (numbered y d)
  numbered_distinct y (desc g ds) = distinct_all y ds

  distinct_all : (y : ℕ) (ds : Disjs) → DistinctAll (numbered_all y ds)
  distinct_all y end = tt
  distinct_all y (a and ds) = let m = y + (alts a + alts_any a) in (
    distinct_any y (y + alts a) a (omega arith),
    distinct_all m ds,
    λ z i j. let b = (names_all_between m ds z j).0 in
        ⊎_elim (λ u. let v = u.1 in omega arith) (λ u. let v = u.1 in omega arith) (names_any_between y (y + alts a) a z i),
  )

  distinct_any : (x y : ℕ) (a : Alts) → x + alts a ≤ y → DistinctAny (numbered_any x y a)
  distinct_any x y fail h = tt
  distinct_any x y (d or a) h =
      let m = y + alts_in d in (
        numbered_distinct y d,
        distinct_any (x + 1) m a (omega arith),
        (λ z i j. let e = Memᴰ.eq_of_singleton i in let b = (names_between y d z j).0 in omega arith),
        (λ z i j. let e = Memᴰ.eq_of_singleton i in
            ⊎_elim (λ u. let v = u.0 in omega arith) (λ u. let v = u.0 in omega arith) (names_any_between (x + 1) m a z j)),
        λ z i j. let b = names_between y d z i in let b0 = b.0 in let b1 = b.1 in
            ⊎_elim (λ u. let v = u.1 in omega arith) (λ u. let v = u.0 in omega arith) (names_any_between (x + 1) m a z j),
      )

mutual
  -- each alternative has a node, and so has the description itself
  pub alts_few : (d : Desc) → Can d → alts_in d < nodes_in d
  alts_few (desc g ds) c = omega (arith, canonical_some g c.0, alts_few_all ds c.1)

  alts_few_all : (ds : Disjs) → CanAll ds → alts_all ds ≤ nodes_all ds
  alts_few_all end c = omega arith
  alts_few_all (a and ds) c = omega (arith, alts_few_any a c.0, alts_few_all ds c.1)

  alts_few_any : (a : Alts) → CanAny a → alts a + alts_any a ≤ nodes_any a
  alts_few_any fail c = omega arith
  alts_few_any (d or a) c = omega (arith, alts_few d c.0, alts_few_any a c.1)

-- of an input whose nodes are numbered from n on the names are numbers of nodes, but not of the first
pub input_between : (n : ℕ) (d : Desc) → Can d → Between (n + 1) (n + nodes_in d) (names (input_numbered n d))
input_between n d c z i = let b = names_between (n + 1) d z i in (b.0, omega (arith, b.1, alts_few d c))
