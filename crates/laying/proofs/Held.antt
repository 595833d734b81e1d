-- What was stored is what the memory holds.
-- Assumes nothing.
use Prim.Native.Nat.{ℕ, ◌+◌, ◌*◌}
use mathlib.Core.Path.{◌≡◌, refl, ap, ap₂, subst, ◌∙◌}
use mathlib.Core.List.{List}
use lib.Dec.{eqb}
use lib.ListN.{get_or}
use Rattle.signs.specs.Machine.{if_so}
use Rattle.rows.specs.Machine.{OpenFrame}
use Rattle.rows.specs.Memory.{Memory, stored}
use Rattle.rows.specs.Held.{with_row, with_alternative, with_frame}
use Rattle.laying.specs.Table.{RowPut, FourPut, AlternativePut}
use Rattle.laying.specs.Laying.{Tabs, Hold}

-- the tables
abbrev pub tabs : (rs bs ts ks fs : List ℕ) → Tabs
tabs rs bs ts ks fs = record { arcs = rs; atoms = bs; ties = ts; alts = ks; frames = fs }

-- with one of them changed
abbrev pub with_arcs : Tabs → List ℕ → Tabs
with_arcs T w = record { arcs = w; atoms = T.atoms; ties = T.ties; alts = T.alts; frames = T.frames }

abbrev pub with_atoms : Tabs → List ℕ → Tabs
with_atoms T w = record { arcs = T.arcs; atoms = w; ties = T.ties; alts = T.alts; frames = T.frames }

abbrev pub with_ties : Tabs → List ℕ → Tabs
with_ties T w = record { arcs = T.arcs; atoms = T.atoms; ties = w; alts = T.alts; frames = T.frames }

abbrev pub with_alts : Tabs → List ℕ → Tabs
with_alts T w = record { arcs = T.arcs; atoms = T.atoms; ties = T.ties; alts = w; frames = T.frames }

abbrev pub with_frames : Tabs → List ℕ → Tabs
with_frames T w = record { arcs = T.arcs; atoms = T.atoms; ties = T.ties; alts = T.alts; frames = w }

-- a row by other names of its numbers
pub row_as : (w : List ℕ) (i x h : ℕ) (w' : List ℕ) (i' x' h' : ℕ) → i ≡ i' → x ≡ x' → h ≡ h' → RowPut w i x h w' → RowPut w i' x' h' w'
row_as w i x h w' i' x' h' a b c p =
    subst (λ (k : ℕ). RowPut w k x' h' w') a (subst (λ (k : ℕ). RowPut w i k h' w') b (subst (λ (k : ℕ). RowPut w i x k w') c p))

module _ (T : Tabs) (M : Memory) (e : Hold T M) where
  pub hold_arc : (i x h : ℕ) (w' : List ℕ) → RowPut T.arcs i x h w' → Hold (with_arcs T w') (with_row M 0 i x h)
  hold_arc i x h w' p = record {
    arcs = λ j. p.row j ∙ ap (if_so (eqb j i) x) (e.arcs j);
    arc_homes = λ j. p.home j ∙ ap (if_so (eqb j i) h) (e.arc_homes j);
    atoms = e.atoms;
    atom_homes = e.atom_homes;
    ties = e.ties;
    tie_homes = e.tie_homes;
    groups = e.groups;
    befores = e.befores;
    lasts = e.lasts;
    spots = e.spots;
    bases = e.bases;
    homes = e.homes;
    open_groups = e.open_groups;
    depths = e.depths;
  }

  pub hold_atom : (i x h : ℕ) (w' : List ℕ) → RowPut T.atoms i x h w' → Hold (with_atoms T w') (with_row M 2 i x h)
  hold_atom i x h w' p = record {
    arcs = e.arcs;
    arc_homes = e.arc_homes;
    atoms = λ j. p.row j ∙ ap (if_so (eqb j i) x) (e.atoms j);
    atom_homes = λ j. p.home j ∙ ap (if_so (eqb j i) h) (e.atom_homes j);
    ties = e.ties;
    tie_homes = e.tie_homes;
    groups = e.groups;
    befores = e.befores;
    lasts = e.lasts;
    spots = e.spots;
    bases = e.bases;
    homes = e.homes;
    open_groups = e.open_groups;
    depths = e.depths;
  }

  pub hold_tie : (i x h : ℕ) (w' : List ℕ) → RowPut T.ties i x h w' → Hold (with_ties T w') (with_row M 4 i x h)
  hold_tie i x h w' p = record {
    arcs = e.arcs;
    arc_homes = e.arc_homes;
    atoms = e.atoms;
    atom_homes = e.atom_homes;
    ties = λ j. p.row j ∙ ap (if_so (eqb j i) x) (e.ties j);
    tie_homes = λ j. p.home j ∙ ap (if_so (eqb j i) h) (e.tie_homes j);
    groups = e.groups;
    befores = e.befores;
    lasts = e.lasts;
    spots = e.spots;
    bases = e.bases;
    homes = e.homes;
    open_groups = e.open_groups;
    depths = e.depths;
  }

  pub hold_alternative : (k o g s : ℕ) (w' : List ℕ) → AlternativePut T.alts k o g s w' →
      Hold (with_alts T w') (with_alternative M k o g s)
  hold_alternative k o g s w' p = record {
    arcs = e.arcs;
    arc_homes = e.arc_homes;
    atoms = e.atoms;
    atom_homes = e.atom_homes;
    ties = e.ties;
    tie_homes = e.tie_homes;
    groups = λ j. p.groups j ∙ ap (if_so (eqb j k) g) (e.groups j);
    befores = λ j. p.befores j ∙ ap₂ {C = ℕ} (λ (x y : ℕ). if_so (eqb j k) x y) (e.lasts o) (e.befores j);
    lasts = λ j. p.lasts j ∙ ap (λ (x : ℕ). if_so (eqb j k) 0 (if_so (eqb j o) k x)) (e.lasts j);
    spots = λ j. p.spots j ∙ ap (if_so (eqb j k) s) (e.spots j);
    bases = e.bases;
    homes = e.homes;
    open_groups = e.open_groups;
    depths = e.depths;
  }

  pub hold_frame : (i : ℕ) (f : OpenFrame) (w' : List ℕ) → FourPut T.frames i f.base f.home f.group f.depth w' →
      Hold (with_frames T w') (with_frame M i f)
  hold_frame i f w' p = record {
    arcs = e.arcs;
    arc_homes = e.arc_homes;
    atoms = e.atoms;
    atom_homes = e.atom_homes;
    ties = e.ties;
    tie_homes = e.tie_homes;
    groups = e.groups;
    befores = e.befores;
    lasts = e.lasts;
    spots = e.spots;
    bases = λ j. p.first j ∙ ap (if_so (eqb j i) f.base) (e.bases j);
    homes = λ j. p.second j ∙ ap (if_so (eqb j i) f.home) (e.homes j);
    open_groups = λ j. p.third j ∙ ap (if_so (eqb j i) f.group) (e.open_groups j);
    depths = λ j. p.fourth j ∙ ap (if_so (eqb j i) f.depth) (e.depths j);
  }

  -- the whole stands at the root, and nothing in it
  pub hold_root : (w' : List ℕ) → FourPut T.alts 0 0 0 0 0 w' →
      Hold (with_alts T w') (stored (stored (stored (stored M 6 0 0) 7 0 0) 9 0 0) 8 0 0)
  hold_root w' p = record {
    arcs = e.arcs;
    arc_homes = e.arc_homes;
    atoms = e.atoms;
    atom_homes = e.atom_homes;
    ties = e.ties;
    tie_homes = e.tie_homes;
    groups = λ j. p.first j ∙ ap (if_so (eqb j 0) 0) (e.groups j);
    befores = λ j. p.second j ∙ ap (if_so (eqb j 0) 0) (e.befores j);
    lasts = λ j. p.third j ∙ ap (if_so (eqb j 0) 0) (e.lasts j);
    spots = λ j. p.fourth j ∙ ap (if_so (eqb j 0) 0) (e.spots j);
    bases = e.bases;
    homes = e.homes;
    open_groups = e.open_groups;
    depths = e.depths;
  }

-- any tables hold something
abbrev pub memory_of : Tabs → Memory
memory_of T r j =
    if_so (eqb r 0) (get_or T.arcs (2 * j) 0)
    (if_so (eqb r 1) (get_or T.arcs (2 * j + 1) 0)
    (if_so (eqb r 2) (get_or T.atoms (2 * j) 0)
    (if_so (eqb r 3) (get_or T.atoms (2 * j + 1) 0)
    (if_so (eqb r 4) (get_or T.ties (2 * j) 0)
    (if_so (eqb r 5) (get_or T.ties (2 * j + 1) 0)
    (if_so (eqb r 6) (get_or T.alts (4 * j) 0)
    (if_so (eqb r 7) (get_or T.alts (4 * j + 1) 0)
    (if_so (eqb r 8) (get_or T.alts (4 * j + 2) 0)
    (if_so (eqb r 9) (get_or T.alts (4 * j + 3) 0)
    (if_so (eqb r 10) (get_or T.frames (4 * j) 0)
    (if_so (eqb r 11) (get_or T.frames (4 * j + 1) 0)
    (if_so (eqb r 12) (get_or T.frames (4 * j + 2) 0) (get_or T.frames (4 * j + 3) 0)))))))))))))

pub memory_held : (T : Tabs) → Hold T (memory_of T)
memory_held T = record {
  arcs = λ j. refl;
  arc_homes = λ j. refl;
  atoms = λ j. refl;
  atom_homes = λ j. refl;
  ties = λ j. refl;
  tie_homes = λ j. refl;
  groups = λ j. refl;
  befores = λ j. refl;
  lasts = λ j. refl;
  spots = λ j. refl;
  bases = λ j. refl;
  homes = λ j. refl;
  open_groups = λ j. refl;
  depths = λ j. refl;
}
