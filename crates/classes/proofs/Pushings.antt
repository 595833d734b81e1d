-- A push, put together. Assumes nothing.
use mathlib.Core.Path.{◌≡◌, refl, sym, ap, subst, ◌∙◌}
use mathlib.Core.Bool.{Bool, true, false}
use mathlib.Core.List.{List, [], ◌∷◌, ◌++◌}
use Prim.Native.Nat.{ℕ, suc, ◌+◌, ◌≤◌, ◌<◌}
use native.Mathlib.Omega.{arith}
use lib.ListN.{length, get_or}
use Rattle.theory.specs.Weight.{weight}
use Rattle.packing.specs.Packed.{graph_word, word_nodes, word_number}
use Rattle.packing.proofs.Packed.{nodes_back, number_back}
use Rattle.area.specs.Map.{SIZE}
use Rattle.area.specs.Log.{body, Later, Undone}
use Rattle.area.proofs.Undo.{later_trans, word, undone_is, undone_later}
use Rattle.std.specs.Prelude.{Some, None}
use Rattle.area.specs.Region.{loaded_words}
use Rattle.forest.specs.State.{targets, State, Uniting, United, withPair}
use Rattle.classes.specs.Nodes.{Listing, Listed}
use Rattle.loading.specs.Entry.{Entry}
use Rattle.classes.specs.Entry.{Comes}
use Rattle.classes.specs.Holds.{Holds, Adding, Adds, Pushing, Pushes}
use Rattle.area.proofs.Region.{word_at}
use Rattle.classes.proofs.Comings.{pile, state', same', some', nodes', ahead', holds', clash'}
use Rattle.classes.proofs.Laws.{holds_few, holds_again, since_later}

module _ (n k : ℕ) (w : List ℕ) (g base c : ℕ) where
  pub add_asked : Adding n k w g base c → Uniting (loaded_words w) (targets w) n k w 0 base
  add_asked a = subst (λ (z : ℕ). Uniting (loaded_words w) (targets w) n k w 0 z) a.number
      (record {
        G = pile n a.es k w a.e a.holds a.comes;
        H = a.holds.H;
        state =
            state' n a.es k w a.e a.holds a.comes;
        same = same' n a.es k w a.e a.holds a.comes;
      })

  -- the numbers are below n
  pub add_low : Adding n k w g base c → (base < n) × ((n ≤ 1024) × ((SIZE ≤ length w) × (g < 2048)))
  add_low a =
      let x = a.comes.inside in let y = some' n a.es k w a.e a.holds a.comes in let z = a.number in
      let f = a.comes.lies.fits in let i = a.is in
      (omega arith, (a.holds.below, (a.holds.long, omega arith)))

  module _ (k1 : ℕ) (b1 : Bool) (w1 : List ℕ) (p1 : United (loaded_words w) (targets w) n k w 0 base k1 b1 w1) where
    pub adds_bad : b1 ≡ true → Adds n k w g base c k1 true w1
    adds_bad z = record {
      later = p1.later;
      fine = λ y. let x : ◌≡◌ {A = ℕ} 0 1 = cc in absurd (omega arith);
      clash = λ y es e i j l h d.
          let p : United (loaded_words w) (targets w) n k w 0 e.number k1 b1 w1 = rw j p1 in
          clash' n es k w e h d (p.clash z (pile n es k w e h d) h.H (state' n es k w e h d) (same' n es k w e h d));
    }

    module _ (z1 : b1 ≡ false) where
      state1 : (es : List Entry) (e : Entry) → e.number ≡ base → (h : Holds n es k w) (d : Comes n es e w) →
          State (pile n es k w e h d) (withPair h.H 0 e.number) (loaded_words w) (targets w) n k1 0 [] w1
      state1 es e j h d =
          let p : United (loaded_words w) (targets w) n k w 0 e.number k1 b1 w1 = rw j p1 in
          p.fine z1 (pile n es k w e h d) h.H (state' n es k w e h d) (same' n es k w e h d)

      pub add_listing : Adding n k w g base c → Listing (loaded_words w) (targets w) n k1 w1 base (g + 1) c
      add_listing a = rw (← a.number, ← a.is, ← a.many)
          (record {
            G = pile n a.es k w a.e a.holds a.comes;
            H = withPair a.holds.H 0 a.e.number;
            vs = a.e.graph;
            many = refl;
            state = state1 a.es a.e a.number a.holds a.comes;
            nodes = nodes' n a.es k w a.e a.holds a.comes;
            ahead = ahead' n a.es k w a.e a.holds a.comes;
          })

      pub adds : (k2 : ℕ) (b2 : Bool) (w2 : List ℕ) → Listed (loaded_words w) (targets w) n k1 w1 base (g + 1) c k2 b2 w2 →
          Adds n k w g base c k2 b2 w2
      adds k2 b2 w2 p2 =
          let l : Later k w k2 w2 = later_trans k w k1 w1 k2 w2 p1.later p2.later in
          record {
            later = l;
            fine = λ z es e i j m h d. holds' n es k w e h d k2 w2 l.len (λ j x y. l.rest j x)
                ((listed es e i j m).fine z (pile n es k w e h d) (withPair h.H 0 e.number) e.graph refl (state1 es e j h d)
                (nodes' n es k w e h d) (ahead' n es k w e h d));
            clash = λ z es e i j m h d. clash' n es k w e h d
                ((listed es e i j m).clash z (pile n es k w e h d) (withPair h.H 0 e.number) e.graph refl (state1 es e j h d)
                (nodes' n es k w e h d) (ahead' n es k w e h d));
          }
        where
          listed : (es : List Entry) (e : Entry) → e.at ≡ g → e.number ≡ base → length e.graph ≡ c →
              Listed (loaded_words w) (targets w) n k1 w1 e.number (e.at + 1) (length e.graph) k2 b2 w2
          listed es e i j m = rw (i, j, m) p2

-- the parts of a header
module _ (n k : ℕ) (w : List ℕ) (g head base count : ℕ) (is : head ≡ get_or (loaded_words w) g 0) (first : base ≡ word_number head)
    (many : count ≡ word_nodes head) where
  pub parts : (es : List Entry) (e : Entry) → e.at ≡ g → Comes n es e w → (e.number ≡ base) × (length e.graph ≡ count)
  parts es e i d =
      let l = d.lies in
      let word : head ≡ graph_word (length e.graph) e.number (suc (weight e.graph)) =
      is ∙ ap (λ (z : ℕ). get_or (loaded_words w) z 0) (sym i) ∙ word_at w e.at (omega (arith, l.fits)) ∙ l.head in (
        sym (first ∙ ap word_number word ∙ number_back (length e.graph) e.number (suc (weight e.graph)) l.few l.low),
        sym (many ∙ ap word_nodes word ∙ nodes_back (length e.graph) e.number (suc (weight e.graph)) l.few),
      )

  pub push_adding : Pushing n k w g → Adding n k w g base count
  push_adding p = let q = parts p.es p.e p.is p.comes in
      record { es = p.es; e = p.e; is = p.is; number = q.0; many = q.1; holds = p.holds; comes = p.comes }

  module _ (p : Pushing n k w g) (k' : ℕ) (bad : Bool) (w' : List ℕ) (a : Adds n k w g base count k' bad w') where
    fine : bad ≡ false → (es : List Entry) (e : Entry) → e.at ≡ g → Holds n es k w → Comes n es e w → Holds n (es ++ e ∷ []) k' w'
    fine z es e i h d = let q = parts es e i d in a.fine z es e i q.0 q.1 h d

    pub pushes_in : bad ≡ false → Pushes n k w g (Some k') w'
    pushes_in z = record {
      len = a.later.len;
      rest = a.later.rest;
      inside = λ r q.
          let e : r ≡ k' = cc in
          rw e (
            since_later k w k' w' (holds_few n (p.es ++ p.e ∷ []) k' w' (fine z p.es p.e p.is p.holds p.comes))
                p.holds.state.logged a.later,
            fine z,
          );
      clashed = λ q. let x : ◌≡◌ {A = ℕ} 0 1 = cc in absurd (omega arith);
    }

    pub pushes_clashed : (w'' : List ℕ) → bad ≡ true → Undone k k' w' w'' → Pushes n k w g None w''
    pushes_clashed w'' z u =
        let b : body w'' ≡ body w = undone_is k w k' w' w'' a.later.more a.later.keeps u in
        let l : Later k w k w'' = undone_later k w k' w' w'' p.holds.state.logged a.later u in
        record {
          len = l.len;
          rest = l.rest;
          inside = λ r q. let x : ◌≡◌ {A = ℕ} 0 1 = cc in absurd (omega arith);
          clashed = λ q. (
            (since_later k w k w'' (holds_few n p.es k w p.holds) p.holds.state.logged l, b),
            λ es e i h d. let q = parts es e i d in
                (a.clash z es e i q.0 q.1 h d, holds_again n es k w h w'' l.len (word w w'' b) (λ j x y. l.rest j x)),
          );
        }
