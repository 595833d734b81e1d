-- The first rows of tables hold what was laid out in them.
-- Assumes nothing.
use Prim.Native.Nat.{ℕ, suc, ◌+◌, ◌*◌, ◌<◌, ◌≤◌}
use mathlib.Core.Path.{◌≡◌, refl, sym, ap, subst, ◌∙◌}
use mathlib.Core.Bool.{Bool, true, false}
use mathlib.Core.List.{List, [], ◌∷◌}
use native.Mathlib.Omega.{arith}
use lib.ListN.{length, get_or, take, length-take}
use lib.Seq.{get_or-take}
use lib.Dec.{ltb}
use borrow.Author.Tests.{ltb-true, ltb-false, lt-ltb}
use Rattle.formulas.specs.Formula.{Formula}
use Rattle.formulas.specs.Flat.{flattened, width}
use Rattle.formulas.specs.Tables.{tables, TablesFit}
use Rattle.signs.specs.Machine.{if_so}
use Rattle.rows.specs.Machine.{Out}
use Rattle.rows.specs.Given.{given}
use Rattle.rows.specs.Memory.{Memory, TablesHold, ListedFrom}
use Rattle.rows.specs.Laid.{mapped, arc_word, home_of_arc, pair_word, pair_home}
use Rattle.rows.specs.Held.{Held}
use Rattle.rows.proofs.Holding.{mapped_long, held_laid}
use Rattle.rows.proofs.Lies.{alts_width}
use Rattle.rows.proofs.Numbered.{arcs_count, bears_count, shares_count}
use Rattle.rows.proofs.Tabled.{laid_fit}
use Rattle.rows.proofs.Placed.{laid_lies}
use Rattle.folding.proofs.Moving.{get_d_past}
use Rattle.translate.specs.Stages.{TreeTabled, TreeLaid}

-- of each kind so many rows
abbrev cut : ℕ → ℕ → ℕ → Memory → Memory
cut a b t M r j =
    if_so (ltb r 2) (if_so (ltb j a) (M r j) 0)
    (if_so (ltb r 4) (if_so (ltb j b) (M r j) 0) (if_so (ltb r 6) (if_so (ltb j t) (M r j) 0) (M r j)))

-- a word of the first n
taken_word : (w : List ℕ) (n i j a : ℕ) → (j < a → i < n) → (a ≤ j → n ≤ i) → get_or (take n w) i 0 ≡ if_so (ltb j a) (get_or w i 0) 0
taken_word w n i j a low high = go (ltb j a) refl where
  go : (b : Bool) → ltb j a ≡ b → get_or (take n w) i 0 ≡ if_so b (get_or w i 0) 0
  go true e = get_or-take n w i 0 (low (ltb-true j a e))
  go false e =
      let long = length-take n w in
      let past = high (ltb-false j a e) in
      get_d_past (take n w) i (omega (arith, long, past))

-- rows of two words
taken_row : (w : List ℕ) (a j : ℕ) → get_or (take (2 * a) w) (2 * j) 0 ≡ if_so (ltb j a) (get_or w (2 * j) 0) 0
taken_row w a j = taken_word w (2 * a) (2 * j) j a (λ l. omega (arith, l)) (λ l. omega (arith, l))

taken_home : (w : List ℕ) (a j : ℕ) → get_or (take (2 * a) w) (2 * j + 1) 0 ≡ if_so (ltb j a) (get_or w (2 * j + 1) 0) 0
taken_home w a j = taken_word w (2 * a) (2 * j + 1) j a (λ l. omega (arith, l)) (λ l. omega (arith, l))

cut_holds : (rs bs ts ks fs : List ℕ) (M : Memory) (a b t : ℕ) → TablesHold rs bs ts ks fs M →
    TablesHold (take (2 * a) rs) (take (2 * b) bs) (take (2 * t) ts) ks fs (cut a b t M)
cut_holds rs bs ts ks fs M a b t h = record {
  arcs = λ j. taken_row rs a j ∙ ap (λ (x : ℕ). if_so (ltb j a) x 0) (h.arcs j);
  arc_homes = λ j. taken_home rs a j ∙ ap (λ (x : ℕ). if_so (ltb j a) x 0) (h.arc_homes j);
  atoms = λ j. taken_row bs b j ∙ ap (λ (x : ℕ). if_so (ltb j b) x 0) (h.atoms j);
  atom_homes = λ j. taken_home bs b j ∙ ap (λ (x : ℕ). if_so (ltb j b) x 0) (h.atom_homes j);
  ties = λ j. taken_row ts t j ∙ ap (λ (x : ℕ). if_so (ltb j t) x 0) (h.ties j);
  tie_homes = λ j. taken_home ts t j ∙ ap (λ (x : ℕ). if_so (ltb j t) x 0) (h.tie_homes j);
  groups = h.groups;
  befores = h.befores;
  lasts = h.lasts;
  spots = h.spots;
  bases = h.bases;
  homes = h.homes;
  open_groups = h.open_groups;
  depths = h.depths;
}

-- a list that lies in the first rows stays
listed_cut : (g : ℕ → ℕ) (a m : ℕ) (l : List ℕ) → m + length l ≤ a → ListedFrom g m l → ListedFrom (λ j. if_so (ltb j a) (g j) 0) m l
listed_cut g a m [] low p = tt
listed_cut g a m (x ∷ l) low p =
    (ap (λ (b : Bool). if_so b (g m) 0) (lt-ltb m a (omega arith)) ∙ p.0, listed_cut g a (suc m) l (omega arith) p.1)

mapped_cut : {A : Type 0} (f : A → ℕ) (g : ℕ → ℕ) (a : ℕ) (l : List A) → a ≡ length l → ListedFrom g 0 (mapped f l) →
    ListedFrom (λ j. if_so (ltb j a) (g j) 0) 0 (mapped f l)
mapped_cut f g a l e p = let long = mapped_long f l in listed_cut g a 0 (mapped f l) (omega (arith, long, e)) p

held_cut : (M : Memory) (x : Out) (a b t k : ℕ) → a ≡ length x.arcs → b ≡ length x.bears → t ≡ length x.shares → Held M x k →
    Held (cut a b t M) x k
held_cut M x a b t k ea eb et h = record {
  arcs = mapped_cut arc_word (M 0) a x.arcs ea h.arcs;
  homes = mapped_cut home_of_arc (M 1) a x.arcs ea h.homes;
  atoms = mapped_cut pair_word (M 2) b x.bears eb h.atoms;
  atom_homes = mapped_cut pair_home (M 3) b x.bears eb h.atom_homes;
  ties = mapped_cut pair_word (M 4) t x.shares et h.ties;
  tie_homes = mapped_cut pair_home (M 5) t x.shares et h.tie_homes;
  groups = h.groups;
  before = h.before;
  spots = h.spots;
  root = h.root;
  last = h.last;
}

pub long_taken : (w : List ℕ) (n m : ℕ) → n ≤ length w → n ≡ m → length (take n w) ≡ m
long_taken w n m l e = let long = length-take n w in omega (arith, long, l, e)

-- the formula lies in the first rows
tabled_of : (φ : Formula) (rs bs ts ks : List ℕ) (a b t k : ℕ) → TreeLaid φ rs bs ts ks a b t k →
    TreeTabled φ (take (2 * a) rs) (take (2 * b) bs) (take (2 * t) ts) ks k
tabled_of φ rs bs ts ks a b t k c =
    let x = given 1 1 0 0 0 φ in
    let M = cut a b t c.memory in
    let holds = cut_holds rs bs ts ks c.frames c.memory a b t c.holds in
    let wide = alts_width 1 1 0 0 0 φ in
    let alts = c.alts in
    let count : k ≡ suc (width φ) = omega (arith, wide, alts) in
    let held = subst (Held M x) count (held_cut c.memory x a b t k c.arcs c.atoms c.ties c.held) in
    let laid = held_laid c.text c.signs φ M c.short c.spelt c.formula held in
    let arcs = c.arcs ∙ arcs_count 1 1 0 0 0 φ in
    let atoms = c.atoms ∙ bears_count 1 1 0 0 0 φ in
    let ties = c.ties ∙ shares_count 1 1 0 0 0 φ in
    let arcs_long = long_taken rs (2 * a) _ c.arc_room (ap (λ (n : ℕ). 2 * n) arcs) in
    let atoms_long = long_taken bs (2 * b) _ c.atom_room (ap (λ (n : ℕ). 2 * n) atoms) in
    let ties_long = long_taken ts (2 * t) _ c.tie_room (ap (λ (n : ℕ). 2 * n) ties) in
    let fit = laid_fit (take (2 * a) rs) (take (2 * b) bs) (take (2 * t) ts) ks c.frames M φ holds laid arcs_long atoms_long ties_long in
    record {
      fit = subst (TablesFit (tables (take (2 * a) rs) (take (2 * b) bs) (take (2 * t) ts) ks) (flattened φ)) (sym count) fit;
      lies = laid_lies (take (2 * a) rs) (take (2 * b) bs) (take (2 * t) ts) ks c.frames M φ holds laid arcs_long;
      flat = c.flat;
      count = count;
      few = c.few;
      room = c.alt_room;
    }

-- by other names of the numbers
pub tabled_at : (φ : Formula) (rs bs ts ks : List ℕ) (a b t k : ℕ) → TreeLaid φ rs bs ts ks a b t k → (a' b' t' k' : ℕ) → a' ≡ a → b' ≡ b →
    t' ≡ t → k' ≡ k → TreeTabled φ (take (2 * a') rs) (take (2 * b') bs) (take (2 * t') ts) ks k'
tabled_at φ rs bs ts ks a b t k c a' b' t' k' ea eb et ek =
    subst (λ (n : ℕ). TreeTabled φ (take (2 * n) rs) (take (2 * b') bs) (take (2 * t') ts) ks k') (sym ea)
    (subst (λ (n : ℕ). TreeTabled φ (take (2 * a) rs) (take (2 * n) bs) (take (2 * t') ts) ks k') (sym eb)
    (subst (λ (n : ℕ). TreeTabled φ (take (2 * a) rs) (take (2 * b) bs) (take (2 * n) ts) ks k') (sym et)
    (subst (TreeTabled φ (take (2 * a) rs) (take (2 * b) bs) (take (2 * t) ts) ks) (sym ek) (tabled_of φ rs bs ts ks a b t k c))))
