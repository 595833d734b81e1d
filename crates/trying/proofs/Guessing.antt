-- What is told of a graph, put together. Assumes nothing.
use mathlib.Core.Path.{◌≡◌, sym, ap, ◌∙◌, subst}
use mathlib.Core.Logic.{inl, inr, ⊎_elim}
use mathlib.Core.List.{List}
use Prim.Native.Nat.{ℕ, suc, ◌+◌, ◌*◌, ◌≤◌, ◌<◌}
use native.Mathlib.Omega.{arith}
use lib.ListN.{length, get_or}
use Rattle.packing.specs.Packed.{word_nodes, word_number}
use Rattle.area.specs.Region.{loaded_words}
use Rattle.loading.specs.Entry.{Entry}
use Rattle.forest.specs.Held.{ChainCode, AtomCode}
use Rattle.forest.specs.State.{targets}
use Rattle.classes.specs.Entry.{Comes}
use Rattle.classes.specs.Holds.{Holds, Pushing, Labelled, class}
use Rattle.classes.proofs.Answers.{root-classed}
use Rattle.classes.proofs.Added.{weight_spans}
use Rattle.classes.proofs.Comings.{lie, some'}
use Rattle.classes.proofs.Pushings.{parts}
use Rattle.sieving.specs.Sieved.{OfRoots}
use Rattle.trying.specs.Leaf.{Anchored, FirstLeaves, Torn, LeavesTold}
use Rattle.trying.specs.Guessed.{Guesses}
use Rattle.trying.specs.declared.told.Guess.{Guess}
use Rattle.trying.specs.declared.told.Guess.TheVariants.{Clashes, Unsure}
use Rattle.trying.proofs.Flatness.{spans_least, Flat, flat}
use Rattle.trying.proofs.Agreeing.{flat_agrees}
use Rattle.trying.proofs.Clashing.{root_clash, leaf_clash}

pub guesses_unsure : (n k : ℕ) (w : List ℕ) (g : ℕ) → Guesses n k w g Unsure
guesses_unsure n k w g = record {
  agrees = λ y. let i : ◌≡◌ {A = ℕ} 0 1 = cc in absurd (omega arith);
  clashes = λ y. let i : ◌≡◌ {A = ℕ} 0 1 = cc in absurd (omega arith);
}

-- there is a root
pub guess_low : (n k : ℕ) (w : List ℕ) (g : ℕ) → Pushing n k w g → (g + 1 < 2048) × ((0 < n) × Labelled n w)
guess_low n k w g p =
    let f = p.comes.lies.fits in let i = p.is in let j = p.comes.inside in
    let s = some' n p.es k w p.e p.holds p.comes in
    let l = spans_least p.e.graph in
    let m = weight_spans p.e.graph in
    (omega arith, (omega arith, record { k = k; es = p.es; holds = p.holds }))

-- the header, and the root's head: it has an arc to each other node
module _ (n k : ℕ) (w : List ℕ) (g head base count d : ℕ) (is : head ≡ get_or (loaded_words w) g 0) (first : base ≡ word_number head)
    (nodes : count ≡ word_nodes head) (root : d ≡ get_or (loaded_words w) (g + 1) 0) (one : d + 1 ≡ count) where
  module _ (es : List Entry) (e : Entry) (i : e.at ≡ g) (h : Holds n es k w) (c : Comes n es e w) where
    number : e.number ≡ base
    number = (parts n k w g head base count is first nodes es e i c).0

    many : length e.graph ≡ suc d
    many = let m = (parts n k w g head base count is first nodes es e i c).1 in omega arith

    level : Flat (loaded_words w) (targets w) e.number (e.at + 1) d e.graph
    level =
        let m = many in let l = c.lies.few in
        flat (loaded_words w) (targets w) e.number e.graph (e.at + 1) d (lie n es k w e h c) c.fits many (omega arith)
        (ap (λ (z : ℕ). get_or (loaded_words w) (z + 1) 0) i ∙ sym root)

  -- the words of its arcs and leaves
  pub guess_room : Pushing n k w g → g + 2 + 3 * d ≤ 2048
  guess_room p =
      let f = p.comes.lies.fits in let i = p.is in
      let r = (level p.es p.e p.is p.holds p.comes).room in
      let m = weight_spans p.e.graph in
      omega arith

  module _ (a : ℕ) (all : OfRoots n w a) where
    pub guess_anchored : Pushing n k w g → (x : ℕ) → x ≡ get_or w a 0 → ChainCode (get_or w a 0) → Anchored n w x
    guess_anchored p x z l = let b = guess_low n k w g p in
        record { labelled = b.1.1; some = b.1.0; c = a; root = all; is = z; low = omega arith }

    held : (es : List Entry) (h : Holds n es k w) → get_or w a 0 ≡ get_or w (class h 0) 0
    held es h = ap (λ (z : ℕ). get_or w z 0) ((root-classed n w 0 a all).is es k h)

    -- the roots bear an atom
    pub guesses_root : 0 < d → AtomCode (get_or w a 0) → Guesses n k w g Clashes
    guesses_root some l = record {
      agrees = λ y. let i : ◌≡◌ {A = ℕ} 0 1 = cc in absurd (omega arith);
      clashes = λ y es e i h c. root_clash n es k w e h c d (level es e i h c) some (subst AtomCode (held es h) l);
    }

    -- what is told of all arcs
    pub guesses_arcs : ChainCode (get_or w a 0) → (r : Guess) → LeavesTold n w g base d r → Guesses n k w g r
    guesses_arcs l r s = record {
      agrees = λ y es e i h c. flat_agrees n es k w e h c d (level es e i h c) (many es e i h c) (leaves es e i h c d (s.agrees y))
          (low es h);
      clashes = λ y es e i h c.
          let t = s.clashes y in
          let o = leaves es e i h c t.0 t.1.1.0 in
          let u : Torn n w e.at e.number d t.0 = (rw (i, number es e i h c) t.1.1.1) in
          let f = u.foul es k h in
          leaf_clash n es k w e h c d (level es e i h c) t.0 t.1.0 (many es e i h c)
          (λ j q. ⊎_elim (λ z. inl z) (λ z. inr z.0) (o j q).says) u.next u.atom f.0 f.1.0 f.1.1.0 f.1.1.1
          (low es h);
    }
      where
        low : (es : List Entry) (h : Holds n es k w) → ChainCode (get_or w (class h 0) 0)
        low es h = subst ChainCode (held es h) l

        leaves : (es : List Entry) (e : Entry) (i : e.at ≡ g) (h : Holds n es k w) (c : Comes n es e w) (j : ℕ) →
            FirstLeaves n w g base d j → FirstLeaves n w e.at e.number d j
        leaves es e i h c j o = rw (i, number es e i h c) o
