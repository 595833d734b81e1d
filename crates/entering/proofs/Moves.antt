-- What stays where the area moved.
-- Assumes nothing.
use Prim.Native.Nat.{ℕ, ◌≤◌}
use mathlib.Core.Path.{◌≡◌, refl, ◌∙◌}
use mathlib.Core.List.{List}
use lib.ListN.{length}
use Rattle.area.specs.Region.{loaded_words}
use Rattle.area.proofs.Region.{words_same}
use Rattle.marks.specs.Marked.{marking}
use Rattle.classes.specs.Holds.{Holds}
use Rattle.classes.proofs.Laws.{since_trans}
use Rattle.loading.specs.Entry.{Entry}
use Rattle.entering.specs.Footing.{Footing}
use Rattle.entering.specs.Inputs.{Inputs, Ready}
use Rattle.entering.specs.Moved.{Moved}

pub moved_trans : (a : ℕ) (u : List ℕ) (b : ℕ) (v : List ℕ) (c : ℕ) (w : List ℕ) → Moved a u b v → Moved b v c w → Moved a u c w
moved_trans a u b v c w p q = record {
  len = q.len ∙ p.len;
  rest = λ j h. q.rest j h
      ∙ p.rest j h;
  since = since_trans a u b v c w p.since q.since;
}

pub moved_words : (k : ℕ) (w : List ℕ) (k' : ℕ) (w' : List ℕ) → 16384 ≤ length w → Moved k w k' w' → loaded_words w' ≡ loaded_words w
moved_words k w k' w' room m = words_same w w' room m.len (λ j a b. m.since.same j a b)

-- the same graphs are pushed over the same words
abbrev pub footing_as : {n k k' : ℕ} {w : List ℕ} {es : List Entry} → Footing n k w es → (v : List ℕ) → loaded_words v ≡ loaded_words w →
    Holds n es k' v → Footing n k' v es
footing_as s v e h = record {
  t = s.t;
  loaded = e ∙ s.loaded;
  m = marking v;
  marks = refl;
  U = s.U;
  ground = s.ground;
  holds = h;
  inside = s.inside;
}

-- where both inputs stand loaded and what is certain in them is pushed
abbrev pub stands_on : {n k : ℕ} {t w : List ℕ} {es : List Entry} (i : Inputs n t) → Ready n t i k w es → Footing n k w es
stands_on {n} {k} {t} {w} {es} i r = record {
  t = t;
  loaded = r.loaded;
  m = marking w;
  marks = refl;
  U = i.U;
  ground = i.ground;
  holds = r.holds;
  inside = r.inside;
}
