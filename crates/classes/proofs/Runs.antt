-- Many arcs, and many nodes. Assumes nothing.
use mathlib.Core.Path.{◌≡◌, refl, sym, ap, ◌∙◌, subst}
use mathlib.Core.Bool.{Bool, true, false}
use mathlib.Core.List.Memᴰ
use mathlib.Core.List.{List, [], ◌∷◌, Memᴰ}
use mathlib.Core.Logic.{◌⊎◌, inl, inr, ⊎_elim}
use Prim.Native.Nat.{ℕ, zero, suc, ◌+◌, ◌*◌, ◌-◌, ◌≤◌, ◌<◌}
use native.Mathlib.Omega.{arith}
use native.Mathlib.Numerals.{add-one}
use native.Mathlib.Decide.{ℕ_discrete}
use lib.ListN.{length, get_or}
use Rattle.theory.specs.Net.{Node, atom, arcs, Graph}
use Rattle.area.specs.Log.{Logged, Later}
use Rattle.area.proofs.Undo.{later_refl, later_trans}
use Rattle.forest.specs.State.{Pile, Done, ClashIn, State, Fresh, Coming, Bearing, Heading, Headed}
use Rattle.forest.specs.Order.{Ordered, VisitedInOrder}
use Rattle.classes.specs.Nodes.{strung, grown, Batch, Batched, Run, span, AtomAt, ArcsAt, NodeAt, Ahead, noded, Noding, Noded, spans}
use Rattle.classes.specs.Nodes.{NodesAt, listed, Listing, Listed}

-- ---- the list that grows
pub strung_length : (l : List ℕ) (t d : ℕ) → length (strung l t d) ≡ length l + d
strung_length l t zero = omega arith
strung_length l t (suc d) = let r = strung_length l t d in omega arith

pub strung_cases : (l : List ℕ) (t d q : ℕ) → Memᴰ q (strung l t d) → Memᴰ q l ⊎ ((i : ℕ) × ((i < d) × (q ≡ t + 2 * i)))
strung_cases l t zero q m = inl m
strung_cases l t (suc d) q m = ⊎_elim
    (λ e. inr (d, (omega arith, e)))
    (λ z. ⊎_elim (λ a. inl a) (λ a. let i = a.0 in let h : i < d = a.1.0 in inr (i, (omega arith, a.1.1))) (strung_cases l t d q z))
    (Memᴰ.cases_cons m)

pub strung_old : (l : List ℕ) (t d q : ℕ) → Memᴰ q l → Memᴰ q (strung l t d)
strung_old l t zero q m = m
strung_old l t (suc d) q m = Memᴰ.tail (strung_old l t d q m)

pub strung_new : (l : List ℕ) (t d i : ℕ) → i < d → Memᴰ (t + 2 * i) (strung l t d)
strung_new l t zero i h = absurd (omega arith)
strung_new l t (suc d) i h = go (strung_new l t d i) (ℕ_discrete i d)
  where
    go : (i < d → Memᴰ (t + 2 * i) (strung l t d)) → Dec (i ≡ d) → Memᴰ (t + 2 * i) (strung l t (suc d))
    go r (yes e) = Memᴰ.head (ap (λ (z : ℕ). t + 2 * z) e)
    go r (no n) = Memᴰ.tail (r (omega arith))

-- ---- the first `done` arcs are visited
pub record Stringing (F T : List ℕ) (n k : ℕ) (w : List ℕ) (x from d done e at : ℕ) (w' : List ℕ) : Type 0 where
  pub below : done ≤ d
  pub later : Later k w e w'
  pub order : Ordered F n w' x at
  pub go : (G : Pile) (H : Done) → State G H F T n k 0 [] w → Batch G H n x from d → State G (grown H from done) F T n e 0 [] w'

pub stringing_start : (F T : List ℕ) (n k : ℕ) (w : List ℕ) (x from d at : ℕ) → Logged k w → Ordered F n w x at →
    Stringing F T n k w x from d 0 k at w
stringing_start F T n k w x from d at g o = record { below = omega arith; later = later_refl k w g; order = o; go = λ G H u b. u }

module _ (F T : List ℕ) (n k : ℕ) (w : List ℕ) (x from d done e at : ℕ) (w' : List ℕ) (p : Stringing F T n k w x from d done e at w')
    (h : done < d) where
  abbrev here : ℕ
  here = from + 2 * done

  fresh : (G : Pile) (H : Done) → Batch G H n x from d → Fresh G (grown H from done) n x here
  fresh G H b =
      let l : length (strung H.K from done) ≡ length H.K + done = strung_length H.K from done in
      let r = b.room in
      record {
        arc = (b.arcs done h).0;
        new = λ m. ⊎_elim (λ a. b.new done h a) (λ a. let i = a.0 in let y : i < done = a.1.0 in
            let q : here ≡ from + 2 * i = a.1.1 in omega arith) (strung_cases H.K from done here m);
        is = (b.arcs done h).1;
        room = omega arith;
      }

  pub stringing_coming : Batched F T n k w x from d → Coming F T n e w' x here
  stringing_coming g = record {
    G = g.G;
    H = grown g.H from done;
    state = p.go g.G g.H g.state g.batch;
    fresh =
        fresh g.G g.H g.batch;
  }

  module _ (e2 at2 : ℕ) (bad : Bool) (w2 : List ℕ) (v : VisitedInOrder F T n e w' x here e2 at2 bad w2) where
    pub stringing_turn : bad ≡ false → Stringing F T n k w x from d (done + 1) e2 at2 w2
    stringing_turn z = record {
      below = omega arith;
      later = later_trans k w e w' e2 w2 p.later v.visited.later;
      order = v.next z;
      go = λ G H u b. rw (add-one done) (v.visited.fine z G (grown H from done) (p.go G H u b) (fresh G H b));
    }

    pub run_bad : bad ≡ true → Run F T n k w x from d e2 true w2
    run_bad z = record {
      later = later_trans k w e w' e2 w2 p.later v.visited.later;
      fine = λ y. let x : ◌≡◌ {A = ℕ} 0 1 = cc in absurd (omega arith);
      clash = λ y G H u b. v.visited.clash z G (grown H from done) (p.go G H u b) (fresh G H b);
    }

pub run_end : (F T : List ℕ) (n k : ℕ) (w : List ℕ) (x from d done e at : ℕ) (w' : List ℕ) → Stringing F T n k w x from d done e at w' →
    d ≤ done → Run F T n k w x from d e false w'
run_end F T n k w x from d done e at w' p z =
    let b : done ≡ d = let l = p.below in omega arith in
    record {
      later = p.later;
      fine = λ y G H u c. rw b at (p.go G H u c);
      clash = λ y. let x : ◌≡◌ {A = ℕ} 0 1 = cc in absurd (omega arith);
    }

-- ---- one node
pub node_low : (F : List ℕ) (G : Pile) (n x p : ℕ) (v : Node) → NodeAt F G n x p v → (p < 2048) × (x < n)
node_low F G n x p (atom a) s = (s.low, s.inside)
node_low F G n x p (arcs l) s = let h = s.low in (omega arith, s.inside)

-- the words that a node takes, by its head
pub node_span : (F : List ℕ) (G : Pile) (n x p : ℕ) (v : Node) → NodeAt F G n x p v → (r : ℕ) → (65536 ≤ get_or F p 0 → r ≡ 1) →
    (get_or F p 0 < 65536 → r ≡ 1 + 2 * get_or F p 0) → r ≡ span v
node_span F G n x p (atom a) s r f g = let h = s.head in f (omega arith)
node_span F G n x p (arcs l) s r f g = let h = s.head in let b = s.low in g (omega arith) ∙ omega arith

module _ (F T : List ℕ) (n k : ℕ) (w : List ℕ) (x p : ℕ) where
  bearing : (G : Pile) (H : Done) (a : ℕ) → AtomAt F G n x p a → Ahead H n p 1 → Bearing G H n x (get_or F p 0)
  bearing G H a s r = let m = r.room in record { node = s.node; small = s.inside; is = s.is ∙ sym s.head; room = omega arith }

  batch : (G : Pile) (H : Done) (l : List (ℕ × ℕ)) → ArcsAt F G n x p (length l) → Ahead H n p (1 + 2 * length l) →
      Batch G H n x (p + 1) (length l)
  batch G H l s r = let m = r.room in
      record { arcs = s.arcs; new = λ i h. r.new (p + 1 + 2 * i) (omega arith) (omega arith); room = omega arith }

  pub node_marking : Noding F T n k w x p → 65536 ≤ get_or F p 0 → Heading F T n k w x (get_or F p 0) × (get_or F p 0 < 131072)
  node_marking g h = go g.v g.node g.ahead
    where
      go : (v : Node) → NodeAt F g.G n x p v → Ahead g.H n p (span v) → Heading F T n k w x (get_or F p 0) × (get_or F p 0 < 131072)
      go (atom a) s r = let e = s.head in let b = s.small in
          (record { G = g.G; H = g.H; state = g.state; bears = bearing g.G g.H a s r }, omega arith)
      go (arcs l) s r = let e = s.head in let b = s.low in absurd (omega arith)

  pub node_batched : Noding F T n k w x p → get_or F p 0 < 65536 → Batched F T n k w x (p + 1) (get_or F p 0) × (p + 1 + 2 * get_or F p 0 ≤ 2048)
  node_batched g h = go g.v g.node g.ahead
    where
      go : (v : Node) → NodeAt F g.G n x p v → Ahead g.H n p (span v) →
          Batched F T n k w x (p + 1) (get_or F p 0) × (p + 1 + 2 * get_or F p 0 ≤ 2048)
      go (atom a) s r = let e = s.head in absurd (omega arith)
      go (arcs l) s r = let e : get_or F p 0 ≡ length l = s.head in let b = s.low in
          (rw e (record { G = g.G; H = g.H; state = g.state; batch = batch g.G g.H l s r }), omega arith)

  pub noded_mark : (k' : ℕ) (bad : Bool) (w' : List ℕ) → 65536 ≤ get_or F p 0 → Headed F T n k w x (get_or F p 0) k' bad w' →
      Noded F T n k w x p k' bad w'
  noded_mark k' bad w' h m = record {
    later = m.later;
    fine = λ z G H v u s r. fine z G H v u s r;
    clash =
        λ z G H v u s r. clash z G H v u s r;
  }
    where
      fine : bad ≡ false → (G : Pile) (H : Done) (v : Node) → State G H F T n k 0 [] w → NodeAt F G n x p v → Ahead H n p (span v) →
          State G (noded H x p v) F T n k' 0 [] w'
      fine z G H (atom a) u s r = m.fine z G H u (bearing G H a s r)
      fine z G H (arcs l) u s r = let e = s.head in let b = s.low in absurd (omega arith)

      clash : bad ≡ true → (G : Pile) (H : Done) (v : Node) → State G H F T n k 0 [] w → NodeAt F G n x p v → Ahead H n p (span v) →
          ClashIn G F T
      clash z G H (atom a) u s r = m.clash z G H u (bearing G H a s r)
      clash z G H (arcs l) u s r = let e = s.head in let b = s.low in absurd (omega arith)

  pub noded_run : (k' : ℕ) (bad : Bool) (w' : List ℕ) → get_or F p 0 < 65536 → Run F T n k w x (p + 1) (get_or F p 0) k' bad w' →
      Noded F T n k w x p k' bad w'
  noded_run k' bad w' h m = record {
    later = m.later;
    fine = λ z G H v u s r. fine z G H v u s r;
    clash =
        λ z G H v u s r. clash z G H v u s r;
  }
    where
      fine : bad ≡ false → (G : Pile) (H : Done) (v : Node) → State G H F T n k 0 [] w → NodeAt F G n x p v → Ahead H n p (span v) →
          State G (noded H x p v) F T n k' 0 [] w'
      fine z G H (atom a) u s r = let e = s.head in absurd (omega arith)
      fine z G H (arcs l) u s r = let m' : Run F T n k w x (p + 1) (length l) k' bad w' = rw s.head at m in
          m'.fine z G H u (batch G H l s r)

      clash : bad ≡ true → (G : Pile) (H : Done) (v : Node) → State G H F T n k 0 [] w → NodeAt F G n x p v → Ahead H n p (span v) →
          ClashIn G F T
      clash z G H (atom a) u s r = let e = s.head in absurd (omega arith)
      clash z G H (arcs l) u s r = let m' : Run F T n k w x (p + 1) (length l) k' bad w' = rw s.head at m in
          m'.clash z G H u (batch G H l s r)

-- ---- the nodes that are left
ahead_first : (H : Done) (n p c d : ℕ) → Ahead H n p (c + d) → Ahead H n p c
ahead_first H n p c d r = let m = r.room in record { new = λ q a b. r.new q a (omega arith); room = omega arith }

ahead_rest : (H : Done) (n x p : ℕ) (v : Node) (d : ℕ) → Ahead H n p (span v + d) → Ahead (noded H x p v) n (p + span v) d
ahead_rest H n x p (atom a) d r = let m = r.room in record { new = λ q a b. r.new q (omega arith) (omega arith); room = omega arith }
ahead_rest H n x p (arcs l) d r =
    let m = r.room in
    let e = strung_length H.K (p + 1) (length l) in
    record {
      new = λ q a b i. ⊎_elim (λ o. r.new q (omega arith) (omega arith) o) (λ o. let j = o.0 in let y : j < length l = o.1.0 in
          let z : q ≡ p + 1 + 2 * j = o.1.1 in omega arith) (strung_cases H.K (p + 1) (length l) q i);
      room = omega arith;
    }

-- the numbers of nodes that are there are below n
pub nodes_low : (F : List ℕ) (G : Pile) (n x p : ℕ) (vs : Graph) → NodesAt F G n x p vs → (length vs ≡ 0) ⊎ (x + length vs ≤ n)
nodes_low F G n x p [] s = inl refl
nodes_low F G n x p (v ∷ vs) s =
    let l = (node_low F G n x p v s.0).1 in
    inr (⊎_elim (λ e. omega arith) (λ h. omega arith) (nodes_low F G n (suc x) (p + span v) vs s.1))

-- the nodes us are left, from the number y and the position `at` on; at the end D is done
pub record Reached (F T : List ℕ) (G : Pile) (D : Done) (n e : ℕ) (w' : List ℕ) (y at left : ℕ) : Type 0 where
  pub H : Done
  pub us : Graph
  pub many : length us ≡ left
  pub state : State G H F T n e 0 [] w'
  pub nodes : NodesAt F G n y at us
  pub ahead : Ahead H n at (spans us)
  pub done : listed H y at us ≡ D

pub record Marching (F T : List ℕ) (n k : ℕ) (w : List ℕ) (x p c : ℕ) (e y at left : ℕ) (w' : List ℕ) : Type 0 where
  pub later : Later k w e w'
  pub go : (G : Pile) (H : Done) (vs : Graph) → length vs ≡ c → State G H F T n k 0 [] w → NodesAt F G n x p vs → Ahead H n p (spans vs) →
      Reached F T G (listed H x p vs) n e w' y at left

module _ (F T : List ℕ) (n k : ℕ) (w : List ℕ) (x p c : ℕ) where
  pub marching_start : Logged k w → Marching F T n k w x p c k x p c w
  marching_start g = record {
    later = later_refl k w g;
    go =
        λ G H vs l u s r. record { H = H; us = vs; many = l; state = u; nodes = s; ahead = r; done = refl };
  }

  module _ (e y at left : ℕ) (w' : List ℕ) (m : Marching F T n k w x p c e y at left w') where
    pub marching_reached : (g : Listing F T n k w x p c) → Reached F T g.G (listed g.H x p g.vs) n e w' y at left
    marching_reached g = m.go g.G g.H g.vs g.many g.state g.nodes g.ahead

    -- the next node
    pub marching_noding : Listing F T n k w x p c → 0 < left → Noding F T n e w' y at
    marching_noding g h = let r = marching_reached g in go r r.us r.many r.nodes r.ahead
      where
        go : Reached F T g.G (listed g.H x p g.vs) n e w' y at left → (us : Graph) → length us ≡ left →
            NodesAt F g.G n y at us → Ahead (marching_reached g).H n at (spans us) → Noding F T n e w' y at
        go r [] l s a = absurd (omega arith)
        go r (v ∷ us) l s a = record {
          G = g.G;
          H = (marching_reached g).H;
          v = v;
          state = (marching_reached g).state;
          node = s.0;
          ahead =
              ahead_first (marching_reached g).H n at (span v) (spans us) a;
        }

    module _ (h : 0 < left) (e2 : ℕ) (bad : Bool) (w2 : List ℕ) (v : Noded F T n e w' y at e2 bad w2) where
      pub listed_bad : bad ≡ true → Listed F T n k w x p c e2 true w2
      listed_bad z = record {
        later = later_trans k w e w' e2 w2 m.later v.later;
        fine = λ q. let t : ◌≡◌ {A = ℕ} 0 1 = cc in absurd (omega arith);
        clash = λ q G H vs l u s r. let o = m.go G H vs l u s r in told G (listed H x p vs) o o.us o.many o.nodes o.ahead;
      }
        where
          told : (G : Pile) (D : Done) (o : Reached F T G D n e w' y at left) (us : Graph) → length us ≡ left → NodesAt F G n y at us →
              Ahead o.H n at (spans us) → ClashIn G F T
          told G D o [] l s r = absurd (omega arith)
          told G D o (u ∷ us) l s r = v.clash z G o.H u o.state s.0 (ahead_first o.H n at (span u) (spans us) r)

      pub marching_turn : bad ≡ false → (d : ℕ) → (65536 ≤ get_or F at 0 → d ≡ 1) → (get_or F at 0 < 65536 → d ≡ 1 + 2 * get_or F at 0) →
          Marching F T n k w x p c e2 (y + 1) (at + d) (left - 1) w2
      marching_turn z d f g = record {
        later = later_trans k w e w' e2 w2 m.later v.later;
        go = λ G H vs l u s r. let o = m.go G H vs l u s r in next G (listed H x p vs) o o.us o.many o.nodes o.ahead o.done;
      }
        where
          next : (G : Pile) (D : Done) (o : Reached F T G D n e w' y at left) (us : Graph) → length us ≡ left → NodesAt F G n y at us →
              Ahead o.H n at (spans us) → listed o.H y at us ≡ D → Reached F T G D n e2 w2 (y + 1) (at + d) (left - 1)
          next G D o [] l s r q = absurd (omega arith)
          next G D o (u ∷ us) l s r q =
              let a : d ≡ span u = node_span F G n y at u s.0 d f g in
              rw (add-one y, a)
              (record {
                H = noded o.H y at u;
                us = us;
                many = omega arith;
                state = v.fine z G o.H u o.state s.0 (ahead_first o.H n at (span u) (spans us) r);
                nodes = s.1;
                ahead = ahead_rest o.H n y at u (spans us) r;
                done = q;
              })

    pub listed_end : left ≡ 0 → Listed F T n k w x p c e false w'
    listed_end z = record {
      later = m.later;
      fine = λ q G H vs l u s r. let o = m.go G H vs l u s r in end G (listed H x p vs) o o.us o.many o.done;
      clash = λ q. let t : ◌≡◌ {A = ℕ} 0 1 = cc in absurd (omega arith);
    }
      where
        end : (G : Pile) (D : Done) (o : Reached F T G D n e w' y at left) (us : Graph) → length us ≡ left → listed o.H y at us ≡ D →
            State G D F T n e 0 [] w'
        end G D o [] l q = subst (λ (K : Done). State G K F T n e 0 [] w') q o.state
        end G D o (u ∷ us) l q = absurd (omega arith)

-- ---- one node by itself
module _ (F T : List ℕ) (n k : ℕ) (w : List ℕ) (x p : ℕ) where
  -- its words are all
  ahead_alone : (H : Done) (d : ℕ) → Ahead H n p d → Ahead H n p (d + 0)
  ahead_alone H d a = let e : d + 0 ≡ d = omega arith in rw e a

  pub listing_one : Noding F T n k w x p → Listing F T n k w x p 1
  listing_one g = record {
    G = g.G;
    H = g.H;
    vs = g.v ∷ [];
    many = refl;
    state = g.state;
    nodes = (g.node, tt);
    ahead = ahead_alone g.H (span g.v) g.ahead;
  }

  pub noded_one : (k' : ℕ) (bad : Bool) (w' : List ℕ) → Listed F T n k w x p 1 k' bad w' → Noded F T n k w x p k' bad w'
  noded_one k' bad w' l = record {
    later = l.later;
    fine = λ z G H v u s a. l.fine z G H (v ∷ []) refl u (s, tt) (ahead_alone H (span v) a);
    clash = λ z G H v u s a. l.clash z G H (v ∷ []) refl u (s, tt) (ahead_alone H (span v) a);
  }
