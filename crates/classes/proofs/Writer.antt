-- What a writer of the joined graph may use: the classes are those of theory, and what each of them holds. Assumes nothing.
use mathlib.Core.Path.{◌≡◌, refl, sym, ap, ◌∙◌, subst}
use mathlib.Core.List.Memᴰ
use mathlib.Core.List.{List, [], Memᴰ}
use mathlib.Core.Logic.{inl}
use Prim.Native.Nat.{ℕ, ◌+◌, ◌*◌, ◌≤◌, ◌<◌}
use native.Mathlib.Omega.{arith}
use native.Mathlib.Decide.{dec_lt}
use lib.ListN.{get_or}
use Rattle.theory.specs.Limits.{code_limit}
use Rattle.theory.specs.Net.{beside, Same, roots}
use Rattle.theory.proofs.Meaning.{some_root}
use Rattle.area.specs.Region.{loaded_words}
use Rattle.forest.specs.Forest.{parents, tops}
use Rattle.forest.specs.Held.{last_arc, ChainCode, AtomCode}
use Rattle.forest.specs.State.{targets, First}
use Rattle.loading.specs.Entry.{Entry, graphs}
use Rattle.classes.specs.Entry.{Spots, spot_number}
use Rattle.classes.specs.Holds.{Holds, class}
use Rattle.classes.proofs.Content.{Content}
use Rattle.forest.proofs.Fuse.{low, top, short}
use Rattle.forest.proofs.Links.{first_mem}
use Rattle.classes.proofs.Visits.{near_none}
use Rattle.classes.proofs.Result.{complete}
use Rattle.classes.proofs.Bridge.{spot_node, root_down, atom_down, arc_down, same_down, same_up, atom_up, ends}

module _ (n : ℕ) (es : List Entry) (k : ℕ) (w : List ℕ) (h : Holds n es k w) where
  -- the log and the classes together have room
  pub holds_room : k + 3 * tops 0 (parents n w) ≤ 4096
  holds_room = let a = h.state.room in let b = h.state.few in omega arith

  pub spot_low : (s : Spots es) → spot_number es s < n
  spot_low s = let r = spot_node es s in let i = (h.each r.e r.one).inside in let b = r.below in let d = r.is in omega arith

  -- ---- classes
  pub class_low : (x : ℕ) → x < n → class h x < n
  class_low x l = low h.G h.H (loaded_words w) (targets w) n k 0 [] w h.below h.long h.state x l

  pub class_top : (x : ℕ) → x < n → class h (class h x) ≡ class h x
  class_top x l = top h.G h.H (loaded_words w) (targets w) n k 0 [] w h.below h.long h.state x l

  pub class_root : (s : Spots es) → (beside (graphs es)).Root s → class h (spot_number es s) ≡ class h 0
  class_root s r =
      let m = h.full.roots (spot_number es s) (root_down (loaded_words w) (targets w) es h.G h.tied es (λ e i. i) s r) in
      sym (h.state.held h.full.root (spot_number es s) m).1 ∙ ap (class h) h.top

  pub same_class : (s t : Spots es) → Same (beside (graphs es)) (roots (beside (graphs es))) s t →
      class h (spot_number es s) ≡ class h (spot_number es t)
  same_class s t p = complete h.G h.H (loaded_words w) (targets w) n k 0 w h.below h.long h.state h.full
      (same_down (loaded_words w) (targets w) es h.G h.tied p)

  pub class_same : (s t : Spots es) → class h (spot_number es s) ≡ class h (spot_number es t) →
      Same (beside (graphs es)) (roots (beside (graphs es))) s t
  class_same s t e =
      let r = some_root (graphs es) s in
      same_up (loaded_words w) (targets w) es h.G h.tied h.apart r.0 r.1
      (h.state.sound (spot_number es s) (spot_number es t) (spot_low s) (spot_low t) e) s t (inl refl) (inl refl)

  -- ---- what a class holds
  module _ (c : ℕ) (hc : c < n) (own : class h c ≡ c) where
    arc_in : (s : Spots es) (f : ℕ) (t : Spots es) → (beside (graphs es)).Arc s f t → class h (spot_number es s) ≡ c
        → ChainCode (get_or w c 0) × ((q : ℕ)
        × (First (loaded_words w) f (get_or h.state.C c []) q × (class h (get_or (targets w) q 0) ≡ class h (spot_number es t))))
    arc_in s f t a e =
        let r = arc_down (loaded_words w) (targets w) es h.G h.tied es (λ e i. i) s f t a in
        let o = h.state.cover r.0 (h.full.arcs r.0 r.1.0) in
        let z : class h (h.G.S r.0) ≡ c = ap (class h) r.1.1.0 ∙ e in
        let x : First (loaded_words w) f (get_or h.state.C c []) o.0 =
        subst (λ (i : ℕ). First (loaded_words w) f (get_or h.state.C i []) o.0) z
        (subst (λ (i : ℕ). First (loaded_words w) i (get_or h.state.C (class h (h.G.S r.0)) []) o.0) r.1.1.1.0
        o.1.0) in (
          small o.0 x (dec_lt last_arc (get_or w c 0)),
          (o.0, (x, (near_none (loaded_words w) (targets w) h.state.M w o.1.1).1 ∙ ap (class h) r.1.1.1.1)),
        )
      where
        small : (q : ℕ) → First (loaded_words w) f (get_or h.state.C c []) q → Dec (AtomCode (get_or w c 0)) → ChainCode (get_or w c 0)
        small q x (yes l) = absurd (Memᴰ.not-nil
            (subst (Memᴰ q) (h.state.bare c hc own l).0 (first_mem (loaded_words w) f (get_or h.state.C c []) q x)))
        small q x (no l) = omega arith

    pub content : Content es (class h) w c
    content = record {
      atom_in = λ s a u e.
          let r = atom_down (loaded_words w) (targets w) es h.G h.tied es (λ e i. i) s a u in
          let z : h.G.A (spot_number es s) ≡ code_limit + a = r.1 in
          let nz : h.G.A (spot_number es s) ≡ 0 → ⊥ = λ y. omega arith in
          ap (λ (i : ℕ). get_or w i 0) (sym e) ∙ h.state.met (spot_number es s) (h.full.atoms (spot_number es s) r.0 nz) nz ∙ z;
      atom_from = λ l.
          let b = (h.state.bare c hc own l).1 in
          let v : h.G.A b.i ≡ get_or w c 0 = b.is in
          let r = atom_up (loaded_words w) (targets w) es h.G h.tied b.i b.node (λ y. omega arith) in
          (r.0, (ap (class h) r.1.0 ∙ b.class, (r.1.1.0, (r.1.1.1.0, sym v ∙ r.1.1.1.1))));
      chain = get_or h.state.C c [];
      short = short h.G h.H (loaded_words w) (targets w) n k 0 [] w h.below h.long h.state c;
      linked = λ l. h.state.chain c hc own l;
      arc_in = arc_in;
      arc_from = λ q m.
          let o = h.state.home c q hc m in
          let b = h.state.known q o.0 in
          let r = ends (loaded_words w) (targets w) es h.G h.tied q b in
          ((h.state.arcs q b).0, (r.0, (r.1.0, (ap (class h) r.1.1.0 ∙ o.1, (r.1.1.1.0, r.1.1.1.1)))));
    }
