-- An arc, or an atom, meets its class. Assumes nothing.
use mathlib.Core.Path.{◌≡◌, refl, sym, ap, ◌∙◌, subst}
use mathlib.Core.Bool.{Bool, true, false}
use mathlib.Core.List.Memᴰ
use mathlib.Core.List.{List, [], ◌∷◌, Memᴰ}
use mathlib.Core.Logic.{◌⊎◌, inl, inr, ⊎_elim}
use Prim.Native.Nat.{ℕ, suc, ◌+◌, ◌*◌, ◌-◌, ◌≤◌, ◌<◌}
use native.Mathlib.Numerals.{add-one}
use native.Mathlib.Omega.{arith}
use native.Mathlib.Decide.{ℕ_discrete, dec_lt}
use lib.ListN.{length, set, get_or, length-set}
use lib.Seq.{get_or-set_same, get_or-set_other}
use Rattle.area.specs.Map.{PARENT, NEXT, LOG, SIZE}
use Rattle.forest.specs.Labels.{Eq, Together}
use Rattle.area.specs.Log.{Logged, Stores}
use Rattle.forest.specs.Forest.{size_of, parents, Root, tops}
use Rattle.forest.specs.Held.{last_arc, ChainCode, AtomCode}
use Rattle.forest.specs.State.{Pile, Done, Equal, ClashIn, Chain, First, None, Near, Bears, State, Runs, Calm, Looked, withPair, withArc}
use Rattle.classes.specs.Nodes.{Follows}
use Rattle.forest.specs.State.{one_of, chained, withNode, Fresh, Visited, United, Bearing, Headed}
use Rattle.forest.specs.Order.{FeaturesRise, Risen, FallsBetween, Hint, Ordered, Located, Steady}
use Rattle.forest.proofs.Parents.{length_parents, parents_ext}
use Rattle.forest.proofs.Wood.{shape_on}
use Rattle.forest.proofs.Kernel.{together_back, together_on}
use Rattle.area.proofs.Undo.{later_refl, later_trans, put_at, put_off}
use Rattle.forest.proofs.Links.{chain_same, chain_zero, first_mem, first_feature, none_first, total_set, chained_set}
use Rattle.forest.proofs.Links.{one_most, one_some}
use Rattle.forest.proofs.Places.{chain_det, chain_low, between_where}
use Rattle.classes.proofs.Splice.{Grows, lodge, lodge_grows, lodge_rising, lodge_chain}
use Rattle.forest.proofs.Fuse.{low, length_M, short}
use Rattle.forest.proofs.Turns.{hold_pair}

-- where no frame is left, near is in one class
pub near_none : (F T M w : List ℕ) → {i j : ℕ} → Near F T M w [] i j → Together M i j
near_none F T M w (Near.old e) = e
near_none F T M w (Near.owe {x} {y} {q} q' zs js m sg mq wy) = absurd (Memᴰ.not-nil m)
near_none F T M w (Near.sym r) = together_back M _ _ (near_none F T M w r)
near_none F T M w (Near.trans r t) = together_on M _ _ _ (near_none F T M w r) (near_none F T M w t)

-- ---- what is known of the chain of x's class
pub ordered_none : (F : List ℕ) (n : ℕ) (w : List ℕ) (x : ℕ) → Ordered F n w x 0
ordered_none F n w x = record { hint = λ z. absurd (omega arith) }

pub ordered_hint : (F : List ℕ) (n k : ℕ) (w : List ℕ) (x c at : ℕ) → Steady n k w → Root n w x c → Hint F w c at →
    Ordered F n w x at
ordered_hint F n k w x c at g r t = record {
  hint = λ z d q. subst (λ (v : ℕ). Hint F w v at) (sym (r.is g.state.M g.state.forest)
      ∙ q.is g.state.M g.state.forest) t;
}

pub hint_first : (F w : List ℕ) (c : ℕ) (r : Bool) → Risen F w (get_or w c 0) r → r ≡ true → Hint F w c 1
hint_first F w c r u e = record { low = omega arith; up = u.up e; on = λ z. absurd (omega arith) }

-- no arcs rise
pub hint_none : (F w : List ℕ) (c : ℕ) → get_or w c 0 ≡ 0 → Hint F w c 1
hint_none F w c e = record {
  low = omega arith;
  up = λ xs d. subst (FeaturesRise F 0) (sym (chain_zero w (get_or w c 0) xs e d)) tt;
  on = λ z. absurd (omega arith);
}

-- a union that leaves the chains as they are
pub hint_calm : (F w w' : List ℕ) (f c at r : ℕ) → c < 1024 → r < 2048 → Looked F w f (get_or w c 0) (suc r) → Hint F w c at → Calm w w' →
    Hint F w' c (NEXT + r)
hint_calm F w w' f c at r hc lr k t m =
    let q : NEXT + r - NEXT ≡ r = omega arith in
    let e : get_or w' c 0 ≡ get_or w c 0 = m.firsts c hc (λ z. k.hit r refl [] z) in
    let was : (xs : List ℕ) → Chain w' (get_or w' c 0) xs →
    Chain w (get_or w c 0) xs = λ xs d. subst (λ (z : ℕ). Chain w z xs) e
    (chain_same w' w (get_or w' c 0) xs (λ i b. sym (m.nexts i (chain_low w' (get_or w' c 0) xs i d b))) d) in
    record {
      low = omega arith;
      up = λ xs d. t.up xs (was xs d);
      on = λ b xs d. rw q (first_mem F f xs r (k.hit r refl xs (was xs d)));
    }

-- ---- the class c of the node x
module _ (F T : List ℕ) (n k : ℕ) (w : List ℕ) (hn : n ≤ 1024) (hw : SIZE ≤ length w) (x : ℕ) (hx : x < n) (c : ℕ)
    (root : Root n w x c) where
  length_P : length (parents n w) ≡ n
  length_P = length_parents n w (omega arith)

  c_in : c < n
  c_in = root.low

  module _ (G : Pile) (H : Done) (u : State G H F T n k 0 [] w) where
    Mx : get_or u.M x 0 ≡ c
    Mx = root.is u.M u.forest

    Mc : get_or u.M c 0 ≡ c
    Mc = let l = length_P in let h = c_in in u.forest.tops c (omega arith) root.top

    chain_c : ChainCode (get_or w c 0) → Chain w (get_or w c 0) (get_or u.C c [])
    chain_c l = u.chain c c_in Mc l

    pub class_runs : ChainCode (get_or w c 0) → Runs w (get_or w c 0)
    class_runs l = record { xs = get_or u.C c []; chain = chain_c l; short = short G H F T n k 0 [] w (omega arith) hw u c }

    -- an arc of the class
    arc_of : (i : ℕ) → Memᴰ i (get_or u.C c []) → Memᴰ i G.B × (Equal G F T x (G.S i) × ((get_or T i 0 < n) × (i < 2047)))
    arc_of i m =
        let h = u.home c i c_in m in
        let b = u.known i h.0 in
        let a = u.arcs i b in
        (b, (u.sound x (G.S i) hx a.1.0 (Mx ∙ sym h.1), (a.1.1, a.0)))

    -- the first arc of the class
    head_of : (l : List ℕ) → (get_or w c 0 ≡ 0 → ⊥) → Chain w (get_or w c 0) l → (i : ℕ) × Memᴰ i l
    head_of [] d e = absurd (d e)
    head_of (j ∷ l) d e = (j, Memᴰ.head refl)

    bearer : (g : AtomCode (get_or w c 0)) → Equal G F T (u.bare c c_in Mc g).1.i x
    bearer g = let r = (u.bare c c_in Mc g).1 in u.sound r.i x r.small hx (r.class ∙ sym Mx)

  -- ---- an arc and an atom
  pub visit_clash : (t : ℕ) → Logged k w → AtomCode (get_or w c 0) → Visited F T n k w x t k true w
  visit_clash t g h = record {
    later = later_refl k w g;
    fine = λ z. let y : ◌≡◌ {A = ℕ} 0 1 = cc in absurd (omega arith);
    clash = λ z G H u f.
        let r = (u.bare c c_in (Mc G H u) h).1 in
        ClashIn.mixed r.node (λ e. let d : G.A r.i ≡ get_or w c 0 = r.is in
        omega arith) f.arc (subst (λ (v : ℕ). Equal G F T r.i v) (sym f.is) (bearer G H u h));
  }

  -- ---- the feature is there: the targets are equal
  module _ (t r i : ℕ) (lc : ChainCode (get_or w c 0)) (look : Looked F w (get_or F t 0) (get_or w c 0) r) (ri : r ≡ suc i) where
    found : (G : Pile) (H : Done) (u : State G H F T n k 0 [] w) → First F (get_or F t 0) (get_or u.C c []) i
    found G H u = look.hit i ri (get_or u.C c []) (chain_c G H u lc)

    pub found_arc : (G : Pile) (H : Done) (u : State G H F T n k 0 [] w) → (get_or T i 0 < n) × (i < 2047)
    found_arc G H u = (arc_of G H u i (first_mem F (get_or F t 0) (get_or u.C c []) i (found G H u))).1.1

    pub found_same : (G : Pile) (H : Done) (u : State G H F T n k 0 [] w) → Fresh G H n x t → Equal G F T (get_or T t 0) (get_or T i 0)
    found_same G H u f =
        let p = found G H u in
        let a = arc_of G H u i (first_mem F (get_or F t 0) (get_or u.C c []) i p) in
        Equal.along f.arc a.0 (sym (first_feature F (get_or F t 0) (get_or u.C c []) i p))
        (subst (λ (v : ℕ). Equal G F T v (G.S i)) (sym f.is) a.1.0)

    pub visit_found : (k' : ℕ) (bad : Bool) (w' : List ℕ) → United F T n k w (get_or T t 0) (get_or T i 0) k' bad w' →
        Visited F T n k w x t k' bad w'
    visit_found k' bad w' m = record {
      later = m.later;
      fine = λ z G H u f.
          let p = found G H u in
          let mi = first_mem F (get_or F t 0) (get_or u.C c []) i p in
          let l = length_M G H F T n k 0 [] w hn hw u in
          let si = (u.arcs i (u.known i (u.home c i c_in mi).0)).1.0 in
          let st = (u.arcs t f.arc).1.0 in
          let e : Together u.M (G.S i) (G.S t) =
          (inr (omega arith, omega arith), (u.home c i c_in mi).1 ∙ sym (Mx G H u) ∙ ap (λ (v : ℕ). get_or u.M v 0) (sym f.is)) in
          let H1 = withPair H (G.S i) (G.S t) in
          covered G H f (first_feature F (get_or F t 0) (get_or u.C c []) i p) (u.home c i c_in mi).0
          (m.fine z G H1 (hold_pair G H F T n k 0 [] w u (G.S i) (G.S t) e) (found_same G H u f));
      clash = λ z G H u f. m.clash z G H u (found_same G H u f);
    }
      where
        covered : (G : Pile) (H : Done) → Fresh G H n x t → get_or F i 0 ≡ get_or F t 0 → Memᴰ i H.K →
            State G (withPair (withPair H (G.S i) (G.S t)) (get_or T t 0) (get_or T i 0)) F T n k' 0 [] w' →
            State G (withArc H t) F T n k' 0 [] w'
        covered G H f ef mk v =
            let r1 = v.room in let r2 = v.all in let r3 = f.room in
            record {
              logged = v.logged;
              shape = v.shape;
              room = omega arith;
              few = f.room;
              stack = v.stack;
              arcs = v.arcs;
              atoms = v.atoms;
              M = v.M;
              forest = v.forest;
              size = v.size;
              heavy = v.heavy;
              C = v.C;
              wide = v.wide;
              all = omega arith;
              chain = v.chain;
              bare = v.bare;
              home = λ d q h m. let o = v.home d q h m in (Memᴰ.tail o.0, o.1);
              blank = λ j h m. v.blank j h (λ i. m (Memᴰ.tail i));
              known = λ j m. ⊎_elim (λ e. subst (λ (a : ℕ). Memᴰ a G.B) (sym e) f.arc) (λ a. v.known j a)
                  (Memᴰ.cases_cons m);
              cover = λ j m. ⊎_elim (λ e. subst
                  (λ (a : ℕ). (b : ℕ) × (First F (get_or F a 0) (get_or v.C (get_or v.M (G.S a) 0) []) b
                  × Near F T v.M w' [] (get_or T b 0) (get_or T a 0))) (sym e) here) (λ a. v.cover j a) (Memᴰ.cases_cons m);
              nodes = v.nodes;
              met = v.met;
              held = λ a b m. v.held a b (Memᴰ.tail (Memᴰ.tail m));
              sound = v.sound;
              frame = v.frame;
            }
          where
            here : (b : ℕ) × (First F (get_or F t 0) (get_or v.C (get_or v.M (G.S t) 0) []) b
                × Near F T v.M w' [] (get_or T b 0) (get_or T t 0))
            here =
                let o = v.cover i mk in
                let e : Eq v.M (G.S i) (G.S t) = (v.held (G.S i) (G.S t) (Memᴰ.tail (Memᴰ.head refl))).1 in
                let d = v.held (get_or T t 0) (get_or T i 0) (Memᴰ.head refl) in (
                  o.0,
                  (
                    subst (λ (a : ℕ). First F (get_or F t 0) (get_or v.C a []) o.0) e
                        (subst (λ (a : ℕ). First F a (get_or v.C (get_or v.M (G.S i) 0) []) o.0) ef o.1.0),
                    Near.trans o.1.1 (Near.old (together_back v.M (get_or T t 0) (get_or T i 0) d)),
                  ),
                )

  -- ---- the feature is not there: the arc goes onto the chain, after the link l
  module _ (t : ℕ) (ht : t < 2048) (lc : ChainCode (get_or w c 0)) (at l : ℕ) (hint : 0 < at →
      Hint F w c at) (loc : Located F w (get_or F t 0) c l 0) (h : ℕ) (eh : h ≡ get_or w l 0) (hk : k + 2 ≤ 4096)
      (k1 k2 : ℕ) (w1 w2 : List ℕ) (p1 : Follows k w t h k1 w1) (p2 : Stores k1 w1 l (t + 1) k2 w2) where
    off : (j : ℕ) → (j ≡ NEXT + t → ⊥) → (j ≡ l → ⊥) → j < LOG → get_or w2 j 0 ≡ get_or w j 0
    off j a b i = let e = p1.few in put_off k1 w1 l (t + 1) k2 w2 p2 (omega arith) j b (inl i) ∙ p1.rest j i a

    len : length w2 ≡ length w
    len = p2.later.len ∙ p1.later.len

    at_l : get_or w2 l 0 ≡ suc t
    at_l = let i = loc.low in put_at k1 w1 l (t + 1) k2 w2 p2 (omega arith) (omega (arith, p1.later.len)) ∙ add-one t

    module _ (G : Pile) (H : Done) (u : State G H F T n k 0 [] w) (f : Fresh G H n x t) where
      abbrev xs : List ℕ
      xs = get_or u.C c []

      cx : Chain w (get_or w c 0) xs
      cx = chain_c G H u lc

      gap : FallsBetween F (get_or F t 0) c l xs
      gap = loc.place refl xs cx

      -- the link is that of the class, or of an arc on its chain
      on : (l ≡ c) ⊎ ((q : ℕ) × (Memᴰ q xs × (l ≡ NEXT + q)))
      on = between_where F (get_or F t 0) c l xs gap

      -- an arc of some chain is not the one that comes
      other : (d q : ℕ) → d < n → Memᴰ q (get_or u.C d []) → (q < 2047) × (q ≡ t → ⊥)
      other d q a m = let o = (u.home d q a m).0 in ((u.arcs q (u.known q o)).0, λ e. f.new (subst (λ (v : ℕ). Memᴰ v H.K) e o))

      apart : NEXT + t ≡ l → ⊥
      apart e = let i = c_in in ⊎_elim (λ o. omega arith) (λ o. let g : l ≡ NEXT + o.0 = o.1.1 in
          (other c o.0 c_in o.1.0).1 (omega arith)) on

      -- a class, or a parent, is not the link of an arc
      aside : (j : ℕ) → j < NEXT → (j ≡ c → ⊥) → j ≡ l → ⊥
      aside j i d e = ⊎_elim (λ o. d (e ∙ o)) (λ o. let g : l ≡ NEXT + o.0 = o.1.1 in omega arith) on

      at_t : get_or w2 (NEXT + t) 0 ≡ get_or w l 0
      at_t = let e = p1.few in put_off k1 w1 l (t + 1) k2 w2 p2 (omega arith) (NEXT + t) apart (inl (omega arith)) ∙ p1.at ∙ eh

      par : parents n w2 ≡ parents n w
      par = let i = c_in in parents_ext n w2 w (omega (arith, len)) len
          (λ j b. off (PARENT + j) (λ e. omega arith) (aside (PARENT + j) (omega arith) (λ e. omega arith)) (omega arith))

      keep : (q : ℕ) → Memᴰ q xs → (NEXT + q ≡ l → ⊥) → get_or w2 (NEXT + q) 0 ≡ get_or w (NEXT + q) 0
      keep q m z = let o = other c q c_in m in let i = o.0 in off (NEXT + q) (λ e. o.1 (omega arith)) z (omega arith)

      lodged : Chain w2 (get_or w2 c 0) (lodge F t c l xs gap)
      lodged = let i = c_in in lodge_chain F t w w2 l at_l ht at_t c xs gap cx (λ j m e. omega arith)
          (λ e. off c (λ y. omega arith) e (omega arith)) keep

      spliced : (L : List ℕ) × (Grows F t xs L × Chain w2 (get_or w2 c 0) L)
      spliced = (lodge F t c l xs gap, (lodge_grows F t c l xs gap, lodged))

      c_small : ChainCode (get_or w2 c 0)
      c_small = go spliced.0 spliced.1.1
        where
          go : (L : List ℕ) → Chain w2 (get_or w2 c 0) L → ChainCode (get_or w2 c 0)
          go [] e = omega arith
          go (j ∷ L) e = let a = e.0 in let b = e.1.0 in omega arith

      module _ (L : List ℕ) (g : Grows F t xs L) (cL : Chain w2 (get_or w2 c 0) L) where
        C' : get_or (set u.C c L) c [] ≡ L
        C' = let i = u.wide in let ci = c_in in get_or-set_same u.C c L [] (omega arith)

        Co : (d : ℕ) → (d ≡ c → ⊥) → get_or (set u.C c L) d [] ≡ get_or u.C d []
        Co d a = get_or-set_other u.C c d L [] a

        -- an arc of another chain
        keeps : (d q : ℕ) → d < n → (d ≡ c → ⊥) → Memᴰ q (get_or u.C d []) → get_or w2 (NEXT + q) 0 ≡ get_or w (NEXT + q) 0
        keeps d q a z m =
            let o = other d q a m in let b = o.0 in let ci = c_in in
            off (NEXT + q) (λ e. o.1 (omega arith))
            (λ e. ⊎_elim (λ i. omega arith) (λ i. let y : l ≡ NEXT + i.0 = i.1.1 in let s : i.0 ≡ q = omega arith in
            z (sym (u.home d q a m).1 ∙ (u.home c q c_in (subst (λ (v : ℕ). Memᴰ v xs) s i.1.0)).1)) on)
            (omega arith)

        first : (d : ℕ) → d < n → (d ≡ c → ⊥) → get_or w2 d 0 ≡ get_or w d 0
        first d a z = off d (λ i. omega arith) (aside d (omega arith) z) (omega arith)

        chains : (d : ℕ) → d < n → get_or u.M d 0 ≡ d → ChainCode (get_or w2 d 0) → Dec (d ≡ c) →
            Chain w2 (get_or w2 d 0) (get_or (set u.C c L) d [])
        chains d a b e (yes z) = subst (λ (v : ℕ). Chain w2 (get_or w2 v 0) (get_or (set u.C c L) v [])) (sym z)
            (subst (Chain w2 (get_or w2 c 0)) (sym C') cL)
        chains d a b e (no z) =
            let o : get_or w2 d 0 ≡ get_or w d 0 = first d a z in
            subst (Chain w2 (get_or w2 d 0)) (sym (Co d z))
            (subst (λ (v : ℕ). Chain w2 v (get_or u.C d [])) (sym o)
            (chain_same w w2 (get_or w d 0) (get_or u.C d []) (λ q m. keeps d q a z m) (u.chain d a b (omega arith))))

        bares : (d : ℕ) → d < n → get_or u.M d 0 ≡ d → AtomCode (get_or w2 d 0) → Dec (d ≡ c) →
            (get_or (set u.C c L) d [] ≡ []) × Bears G n u.M d (get_or w2 d 0)
        bares d a b e (yes z) = let o : get_or w2 d 0 ≡ get_or w2 c 0 = ap (λ (v : ℕ). get_or w2 v 0) z in let i = c_small in absurd (omega arith)
        bares d a b e (no z) =
            let o : get_or w2 d 0 ≡ get_or w d 0 = first d a z in
            let r = u.bare d a b (omega arith) in
            (Co d z ∙ r.0, subst (λ (v : ℕ). Bears G n u.M d v) (sym o) r.1)

        homes : (d q : ℕ) → d < n → Memᴰ q (get_or (set u.C c L) d []) → Dec (d ≡ c) →
            Memᴰ q (t ∷ H.K) × (get_or u.M (G.S q) 0 ≡ d)
        homes d q a m (yes z) = ⊎_elim
            (λ e. (Memᴰ.head e, ap (λ (v : ℕ). get_or u.M (G.S v) 0) e ∙ ap (λ (v : ℕ). get_or u.M v 0) f.is ∙ Mx G H u ∙ sym z))
            (λ b. let o = u.home c q c_in b in (Memᴰ.tail o.0, o.1 ∙ sym z))
            (g.cases q (subst (Memᴰ q) (ap (λ (v : ℕ). get_or (set u.C c L) v []) z ∙ C') m))
        homes d q a m (no z) = let o = u.home d q a (subst (Memᴰ q) (Co d z) m) in (Memᴰ.tail o.0, o.1)

        none : None F (get_or F t 0) xs
        none = loc.looked.miss refl xs cx

        here : (b : ℕ) × (First F (get_or F t 0) (get_or (set u.C c L) (get_or u.M (G.S t) 0) []) b
            × Near F T u.M w2 [] (get_or T b 0) (get_or T t 0))
        here = (
          t,
          (
            subst (λ (v : ℕ). First F (get_or F t 0) (get_or (set u.C c L) v []) t)
                (sym (ap (λ (v : ℕ). get_or u.M v 0) f.is ∙ Mx G H u))
                (subst (λ (y : List ℕ). First F (get_or F t 0) y t) (sym C') g.mine),
            Near.old (inl refl, refl),
          ),
        )

        covers : (j : ℕ) → Memᴰ j H.K → Dec (get_or u.M (G.S j) 0 ≡ c) →
            (b : ℕ) × (First F (get_or F j 0) (get_or (set u.C c L) (get_or u.M (G.S j) 0) []) b
            × Near F T u.M w2 [] (get_or T b 0) (get_or T j 0))
        covers j m (yes z) =
            let o = u.cover j m in
            let p : First F (get_or F j 0) xs o.0 = subst (λ (v : ℕ). First F (get_or F j 0) (get_or u.C v []) o.0) z o.1.0 in (
              o.0,
              (
                subst (λ (v : ℕ). First F (get_or F j 0) (get_or (set u.C c L) v []) o.0) (sym z)
                    (subst (λ (y : List ℕ). First F (get_or F j 0) y o.0) (sym C')
                    (g.old (get_or F j 0) o.0 (λ e. none_first F (get_or F t 0) xs o.0 none
                    (subst (λ (v : ℕ). First F v xs o.0) (sym e) p)) p)),
                Near.old (near_none F T u.M w o.1.1),
              ),
            )
        covers j m (no z) =
            let o = u.cover j m in (
              o.0,
              (
                subst (λ (y : List ℕ). First F (get_or F j 0) y o.0) (sym (Co (get_or u.M (G.S j) 0) z)) o.1.0,
                Near.old (near_none F T u.M w o.1.1),
              ),
            )

        -- the words of the nodes
        parent_same : (d : ℕ) → d < n → get_or w2 (PARENT + d) 0 ≡ get_or w (PARENT + d) 0
        parent_same d a = let i = c_in in
            off (PARENT + d) (λ e. omega arith) (aside (PARENT + d) (omega arith) (λ e. omega arith)) (omega arith)

        -- the link had nothing after it, or the chain had an arc
        first_or_more : (get_or w l 0 ≡ 0) ⊎ (one_of xs ≡ 1)
        first_or_more = ⊎_elim (λ o. go o xs cx) (λ o. inr (one_some xs o.0 o.1.0)) on
          where
            go : l ≡ c → (ys : List ℕ) → Chain w (get_or w c 0) ys → (get_or w l 0 ≡ 0) ⊎ (one_of ys ≡ 1)
            go e [] d = inl (ap (λ (v : ℕ). get_or w v 0) e ∙ d)
            go e (j ∷ ys) d = inr refl

        -- an arc that is not done
        blanks : (j : ℕ) → j < 2048 → (Memᴰ j (t ∷ H.K) → ⊥) → get_or w2 (NEXT + j) 0 ≡ 0
        blanks j h m = off (NEXT + j) (λ e. m (Memᴰ.head (omega arith)))
            (λ e. ⊎_elim (λ o. let i = c_in in omega arith) (λ o. let y : l ≡ NEXT + o.0 = o.1.1 in let z : o.0 ≡ j = omega arith in
            m (Memᴰ.tail (subst (λ (v : ℕ). Memᴰ v H.K) z (u.home c o.0 c_in o.1.0).0))) on) (omega arith)
            ∙ u.blank j h (λ i. m (Memᴰ.tail i))

        -- the first arc of a chain takes one entry
        fits : k2 + (3 * tops 0 (parents n w) + chained (set u.C c L)) ≤ 3 * n + (2 * length (t ∷ H.K) + length H.U)
        fits =
            let i = u.wide in let ci = c_in in
            let cs = chained_set u.C c L (omega arith) in
            let om = one_most L in
            let ur = u.room in let n1 = p1.few in let n2 = p2.next in
            ⊎_elim (λ e. let z = p1.none (eh ∙ e) in omega arith) (λ e. omega arith) first_or_more

        hung : State G (withArc H t) F T n k2 0 [] w2
        hung =
            let i = u.wide in let ci = c_in in
            let ts = total_set u.C c L (omega arith) in
            let gs = g.size in
            let ua = u.all in
            record {
              logged = p2.later.logged;
              shape = shape_on par u.shape;
              few = f.room;
              stack = rw par u.stack;
              arcs = u.arcs;
              atoms = u.atoms;
              M = u.M;
              forest = rw par u.forest;
              size = λ d a e. ap size_of (parent_same d a) ∙ u.size d a e;
              heavy = u.heavy;
              C = set u.C c L;
              wide = simp length-set u.wide;
              all = omega arith;
              room = rw par fits;
              chain = λ d a b e. chains d a b e (ℕ_discrete d c);
              bare = λ d a b e. bares d a b e (ℕ_discrete d c);
              home = λ d q a m. homes d q a m (ℕ_discrete d c);
              known = λ j m. ⊎_elim (λ e. subst (λ (a : ℕ). Memᴰ a G.B) (sym e) f.arc) (λ a. u.known j a)
                  (Memᴰ.cases_cons m);
              blank = λ j h m. blanks j h m;
              cover = λ j m. ⊎_elim (λ e. subst
                  (λ (a : ℕ). (b : ℕ) × (First F (get_or F a 0) (get_or (set u.C c L) (get_or u.M (G.S a) 0) []) b
                  × Near F T u.M w2 [] (get_or T b 0) (get_or T a 0))) (sym e) here)
                  (λ a. covers j a (ℕ_discrete (get_or u.M (G.S j) 0) c)) (Memᴰ.cases_cons m);
              nodes = u.nodes;
              met = λ i m a.
                  let b = low G H F T n k 0 [] w (omega arith) hw u i (u.nodes i m).0 in
                  first (get_or u.M i 0) (omega arith) (λ e. let b : get_or w (get_or u.M i 0) 0 ≡ G.A i = u.met i m a in
                  let d : get_or w (get_or u.M i 0) 0 ≡ get_or w c 0 = ap (λ (v : ℕ). get_or w v 0) e in
                  let g = u.atoms i (u.nodes i m).1 a in omega arith) ∙ u.met i m a;
              held = u.held;
              sound = u.sound;
              frame = λ a b m. absurd (Memᴰ.not-nil m);
            }

      -- the chain still rises, where it did
      hung_hint : 0 < at → Hint F w2 c (NEXT + t)
      hung_hint z =
          let q : NEXT + t - NEXT ≡ t = omega arith in
          let r = (hint z).up xs cx in
          let is : (ys : List ℕ) → Chain w2 (get_or w2 c 0) ys →
          lodge F t c l xs gap ≡ ys = λ ys d. chain_det w2 (get_or w2 c 0) (lodge F t c l xs gap) ys lodged d in
          record {
            low = omega arith;
            up = λ ys d. subst (FeaturesRise F 0) (is ys d) (lodge_rising F t c l 0 xs gap (omega arith) r);
            on = λ e ys d. rw q (subst (Memᴰ t) (is ys d)
                (first_mem F (get_or F t 0) (lodge F t c l xs gap) t (lodge_grows F t c l xs gap).mine));
          }

      pub hung_ordered : 0 < at → Ordered F n w2 x (NEXT + t)
      hung_ordered z = record {
        hint = λ y d r. let e : c ≡ d = sym (Mx G H u) ∙ r.is u.M (rw par u.forest) in
            subst (λ (v : ℕ). Hint F w2 v (NEXT + t)) e (hung_hint z);
      }

    pub visit_hung : Visited F T n k w x t k2 false w2
    visit_hung = record {
      later = later_trans k w k1 w1 k2 w2 p1.later p2.later;
      fine = λ z G H u f. let s = spliced G H u f in hung G H u f s.0 s.1.0 s.1.1;
      clash = λ z. let y : ◌≡◌ {A = ℕ} 0 1 = cc in absurd (omega arith);
    }

  -- ---- an atom
  module _ (v : ℕ) (hv : AtomCode v) where
    pub mark_clash : Logged k w → (get_or w c 0 ≡ 0 → ⊥) → (get_or w c 0 ≡ v → ⊥) → Headed F T n k w x v k true w
    mark_clash g d e = record {
      later = later_refl k w g;
      fine = λ z. let y : ◌≡◌ {A = ℕ} 0 1 = cc in absurd (omega arith);
      clash = λ z G H u b. go G H u b (dec_lt last_arc (get_or w c 0));
    }
      where
        go : (G : Pile) (H : Done) (u : State G H F T n k 0 [] w) → Bearing G H n x v → Dec (AtomCode (get_or w c 0)) → ClashIn G F T
        go G H u b (yes l) =
            let r = (u.bare c c_in (Mc G H u) l).1 in
            let q : G.A r.i ≡ get_or w c 0 = r.is in
            let q' : G.A x ≡ v = b.is in
            ClashIn.atoms r.node b.node (bearer G H u l) (λ o. omega arith) (λ o. omega arith) (λ o. e (sym q ∙ o ∙ q'))
        go G H u b (no l) =
            let t = head_of G H u (get_or u.C c []) d (chain_c G H u (omega arith)) in
            let a = arc_of G H u t.0 t.1 in
            let q' : G.A x ≡ v = b.is in
            ClashIn.mixed b.node (λ o. omega arith) a.0 a.1.0

    pub mark_same : Logged k w → get_or w c 0 ≡ v → Headed F T n k w x v k false w
    mark_same g e = record {
      later = later_refl k w g;
      fine = λ z G H u b.
          let ur = u.room in
          record {
            logged = u.logged;
            shape = u.shape;
            room = omega arith;
            few = b.room;
            stack = u.stack;
            arcs = u.arcs;
            atoms = u.atoms;
            M = u.M;
            forest = u.forest;
            size = u.size;
            heavy = u.heavy;
            C = u.C;
            wide = u.wide;
            all = u.all;
            chain = u.chain;
            bare = u.bare;
            home = u.home;
            known = u.known;
            blank = u.blank;
            cover = u.cover;
            nodes = λ i m. ⊎_elim (λ o. subst (λ (a : ℕ). (a < n) × Memᴰ a G.N) (sym o) (b.small, b.node)) (λ o. u.nodes i o)
                (Memᴰ.cases_cons m);
            met = λ i m a. ⊎_elim (λ o. subst (λ (j : ℕ). get_or w (get_or u.M j 0) 0 ≡ G.A j) (sym o)
                (ap (λ (j : ℕ). get_or w j 0) (Mx G H u) ∙ e ∙ sym b.is)) (λ o. u.met i o a) (Memᴰ.cases_cons m);
            held = u.held;
            sound = u.sound;
            frame = u.frame;
          };
      clash = λ z. let y : ◌≡◌ {A = ℕ} 0 1 = cc in absurd (omega arith);
    }

    module _ (e0 : get_or w c 0 ≡ 0) (hk : k + 1 ≤ 4096) (k1 : ℕ) (w1 : List ℕ) (p1 : Stores k w c v k1 w1) where
      off1 : (j : ℕ) → (j ≡ c → ⊥) → j < LOG → get_or w1 j 0 ≡ get_or w j 0
      off1 j a l = put_off k w c v k1 w1 p1 (omega arith) j a (inl l)

      at1 : get_or w1 c 0 ≡ v
      at1 = let l = c_in in put_at k w c v k1 w1 p1 (omega arith) (omega arith)

      word1 : (j : ℕ) → j < n → get_or w1 (PARENT + j) 0 ≡ get_or w (PARENT + j) 0
      word1 j b = let l = c_in in off1 (PARENT + j) (λ e. omega arith) (omega arith)

      par1 : parents n w1 ≡ parents n w
      par1 = parents_ext n w1 w (omega (arith, p1.later.len)) p1.later.len word1

      next1 : (q : ℕ) → q < 2048 → get_or w1 (NEXT + q) 0 ≡ get_or w (NEXT + q) 0
      next1 q h = let l = c_in in off1 (NEXT + q) (λ e. omega arith) (omega arith)

      noted : (G : Pile) (H : Done) → State G H F T n k 0 [] w → Bearing G H n x v → State G (withNode H x) F T n k1 0 [] w1
      noted G H u b =
          let ur = u.room in let n1 = p1.next in
          record {
            logged = p1.later.logged;
            shape = shape_on par1 u.shape;
            few = b.room;
            stack = rw par1 u.stack;
            arcs = u.arcs;
            atoms = u.atoms;
            M = u.M;
            forest = rw par1 u.forest;
            size = λ d a e. ap size_of (word1 d a) ∙ u.size d a e;
            heavy = u.heavy;
            C = u.C;
            wide = u.wide;
            all = u.all;
            room = rw par1 (omega arith);
            chain = λ d a m l. chains d a m l (ℕ_discrete d c);
            bare = λ d a m l. bares d a m l (ℕ_discrete d c);
            home = u.home;
            known = u.known;
            blank = λ j h m. next1 j h ∙ u.blank j h m;
            cover = λ j m. let o = u.cover j m in (o.0, (o.1.0, Near.old (near_none F T u.M w o.1.1)));
            nodes = λ i m. ⊎_elim (λ o. subst (λ (a : ℕ). (a < n) × Memᴰ a G.N) (sym o) (b.small, b.node)) (λ o. u.nodes i o)
                (Memᴰ.cases_cons m);
            met = λ i m a. ⊎_elim (λ o. subst (λ (j : ℕ). get_or w1 (get_or u.M j 0) 0 ≡ G.A j) (sym o)
                (ap (λ (j : ℕ). get_or w1 j 0) (Mx G H u) ∙ at1 ∙ sym b.is)) (λ o. old i o a) (Memᴰ.cases_cons m);
            held = u.held;
            sound = u.sound;
            frame = λ a d m. absurd (Memᴰ.not-nil m);
          }
        where
          old : (i : ℕ) → Memᴰ i H.U → (G.A i ≡ 0 → ⊥) → get_or w1 (get_or u.M i 0) 0 ≡ G.A i
          old i m a =
              let l = low G H F T n k 0 [] w (omega arith) hw u i (u.nodes i m).0 in
              off1 (get_or u.M i 0) (λ e. a (sym (u.met i m a) ∙ ap (λ (j : ℕ). get_or w j 0) e ∙ e0)) (omega arith) ∙ u.met i m a

          chains : (d : ℕ) → d < n → get_or u.M d 0 ≡ d → ChainCode (get_or w1 d 0) → Dec (d ≡ c) → Chain w1 (get_or w1 d 0) (get_or u.C d [])
          chains d a m l (yes z) = let o : get_or w1 d 0 ≡ v = ap (λ (j : ℕ). get_or w1 j 0) z ∙ at1 in absurd (omega arith)
          chains d a m l (no z) =
              let o : get_or w1 d 0 ≡ get_or w d 0 = off1 d z (omega arith) in
              subst (λ (j : ℕ). Chain w1 j (get_or u.C d [])) (sym o)
              (chain_same w w1 (get_or w d 0) (get_or u.C d []) (λ q r. let b = (u.arcs q (u.known q (u.home d q a r).0)).0 in
              next1 q (omega arith)) (u.chain d a m (omega arith)))

          bares : (d : ℕ) → d < n → get_or u.M d 0 ≡ d → AtomCode (get_or w1 d 0) → Dec (d ≡ c) →
              (get_or u.C d [] ≡ []) × Bears G n u.M d (get_or w1 d 0)
          bares d a m l (yes z) =
              subst (λ (j : ℕ). (get_or u.C j [] ≡ []) × Bears G n u.M j (get_or w1 j 0)) (sym z) (
                chain_zero w (get_or w c 0) (get_or u.C c []) e0 (chain_c G H u (omega arith)),
                record { i = x; small = hx; node = b.node; is = b.is ∙ sym at1; class = Mx G H u },
              )
          bares d a m l (no z) =
              let o : get_or w1 d 0 ≡ get_or w d 0 = off1 d z (omega arith) in
              let r = u.bare d a m (omega arith) in
              (r.0, subst (λ (j : ℕ). Bears G n u.M d j) (sym o) r.1)

      pub mark_new : Headed F T n k w x v k1 false w1
      mark_new = record {
        later = p1.later;
        fine = λ z G H u b. noted G H u b;
        clash = λ z. let y : ◌≡◌ {A = ℕ} 0 1 = cc in absurd (omega arith);
      }
