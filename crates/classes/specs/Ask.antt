-- What may be asked of the classes of the graphs that are pushed. Assumes nothing.
use Rattle.std.specs.Prelude.{◌≡◌, List, ℕ, Option, Some}
use Rattle.theory.specs.Net.{beside}
use Rattle.loading.specs.Entry.{Entry, graphs}
use Rattle.classes.specs.Entry.{Spots, spot_number}
use Rattle.classes.specs.Holds.{Holds, class}

-- the atom of the class of x: a node of the class bears it, and it is told where one does
pub record AtomOf (n : ℕ) (w : List ℕ) (x : ℕ) (r : Option ℕ) : Type 0 where
  pub is : (es : List Entry) (k : ℕ) (h : Holds n es k w) (a : ℕ) → r ≡ Some a →
      (s : Spots es) × ((class h (spot_number es s) ≡ class h x) × (beside (graphs es)).Atom s a)
  pub told : (es : List Entry) (k : ℕ) (h : Holds n es k w) (s : Spots es) (a : ℕ) → (beside (graphs es)).Atom s a →
      class h (spot_number es s) ≡ class h x → r ≡ Some a

-- the class under the feature f from the class of x: an arc of a node of the class leads there, and it is told where one does
pub record TargetOf (n : ℕ) (w : List ℕ) (x f : ℕ) (r : Option ℕ) : Type 0 where
  pub is : (es : List Entry) (k : ℕ) (h : Holds n es k w) (d : ℕ) → r ≡ Some d
      → (s : Spots es) × ((t : Spots es)
      × ((class h (spot_number es s) ≡ class h x) × ((class h (spot_number es t) ≡ d) × (beside (graphs es)).Arc s f t)))
  pub told : (es : List Entry) (k : ℕ) (h : Holds n es k w) (s t : Spots es) → (beside (graphs es)).Arc s f t →
      class h (spot_number es s) ≡ class h x → r ≡ Some (class h (spot_number es t))
