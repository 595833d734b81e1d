-- Merges of the classes of two nodes, frames that are worked off, and the stack of frames. Assumes nothing.
use mathlib.Core.Path.{◌≡◌, refl, sym, ap, ◌∙◌, subst}
use mathlib.Core.Bool.{Bool, false}
use mathlib.Core.List.Memᴰ
use mathlib.Core.List.{List, [], ◌∷◌, ◌++◌, Memᴰ}
use mathlib.Core.Logic.{◌⊎◌, inl, inr, ⊎_elim}
use Prim.Native.Nat.{ℕ, suc, ◌+◌, ◌-◌, ◌≤◌, ◌<◌}
use native.Mathlib.Omega.{arith}
use lib.ListN.{length, get_or}
use Rattle.area.specs.Map.{NEXT, SIZE}
use Rattle.forest.specs.Labels.{Together}
use Rattle.forest.specs.Forest.{parents, Root}
use Rattle.forest.specs.State.{Pile, Done, Equal, Chain, Seg, First, Way, Near, Framed, State, Merged, Grow, Looked, Runs, hops}
use Rattle.forest.specs.State.{SomeState}
use Rattle.forest.specs.State.{withPair}
use Rattle.forest.specs.State.{Working, Turned}
use Rattle.forest.proofs.Parents.{length_parents}
use Rattle.forest.proofs.Kernel.{together_back, together_on}
use Rattle.area.proofs.Undo.{later_refl}
use Rattle.forest.proofs.Links.{calm_refl, chain_from, first_mem, first_feature, none_first, way_first, way_grow, seg_grow, hops_is}
use Rattle.forest.proofs.Links.{first_way}
use Rattle.forest.proofs.Fuse.{under_same, low, top, length_M, chain_of, short}

-- ---- the same state with other pairs
pub hold : (G : Pile) (H : Done) (F T : List ℕ) (n k s : ℕ) (fs : List (ℕ × ℕ)) (w : List ℕ) (u : State G H F T n k s fs w)
    (E : List (ℕ × ℕ)) → ((x y : ℕ) → Memᴰ (x, y) E → Together u.M x y) →
    State G (record { K = H.K; U = H.U; E = E }) F T n k s fs w
hold G H F T n k s fs w u E f = record {
  logged = u.logged;
  shape = u.shape;
  room = u.room;
  few = u.few;
  stack = u.stack;
  arcs = u.arcs;
  atoms = u.atoms;
  M = u.M;
  forest = u.forest;
  size = u.size;
  heavy = u.heavy;
  C = u.C;
  wide = u.wide;
  all = u.all;
  chain = u.chain;
  bare = u.bare;
  home = u.home;
  known = u.known;
  blank = u.blank;
  cover = u.cover;
  nodes = u.nodes;
  met = u.met;
  held = f;
  sound = u.sound;
  frame = u.frame;
}

-- one pair more
pub hold_pair : (G : Pile) (H : Done) (F T : List ℕ) (n k s : ℕ) (fs : List (ℕ × ℕ)) (w : List ℕ) (u : State G H F T n k s fs w) (x y : ℕ) →
    Together u.M x y → State G (withPair H x y) F T n k s fs w
hold_pair G H F T n k s fs w u x y e =
    hold G H F T n k s fs w u ((x, y) ∷ H.E)
    (λ i j m. ⊎_elim (λ p. subst (λ (v : ℕ × ℕ). Together u.M v.0 v.1) (sym p) e) (λ q. u.held i j q) (Memᴰ.cases_cons m))

-- without the last
pub forget : (G : Pile) (H : Done) (F T : List ℕ) (n k s : ℕ) (fs : List (ℕ × ℕ)) (w : List ℕ) (x y : ℕ) →
    State G (withPair H x y) F T n k s fs w → State G H F T n k s fs w
forget G H F T n k s fs w x y u = hold G (withPair H x y) F T n k s fs w u H.E (λ i j m. u.held i j (Memᴰ.tail m))

-- ---- the same state with other frames
pub near_frames : (F T M w : List ℕ) (fs gs : List (ℕ × ℕ)) → ((p : ℕ × ℕ) → Memᴰ p fs → Memᴰ p gs) → {i j : ℕ} →
    Near F T M w fs i j → Near F T M w gs i j
near_frames F T M w fs gs f (Near.old e) = Near.old e
near_frames F T M w fs gs f (Near.owe {x} {y} {q} q' zs js m sg mq wy) = Near.owe q' zs js (f (x, y) m) sg mq wy
near_frames F T M w fs gs f (Near.sym r) = Near.sym (near_frames F T M w fs gs f r)
near_frames F T M w fs gs f (Near.trans r t) = Near.trans (near_frames F T M w fs gs f r) (near_frames F T M w fs gs f t)

pub reframe : (G : Pile) (H : Done) (F T : List ℕ) (n k s : ℕ) (fs gs : List (ℕ × ℕ)) (w : List ℕ) →
    ((p : ℕ × ℕ) → Memᴰ p fs → Memᴰ p gs) → ((p : ℕ × ℕ) → Memᴰ p gs → Memᴰ p fs) → State G H F T n k s fs w →
    State G H F T n k s gs w
reframe G H F T n k s fs gs w f g u = record {
  logged = u.logged;
  shape = u.shape;
  room = u.room;
  few = u.few;
  stack = u.stack;
  arcs = u.arcs;
  atoms = u.atoms;
  M = u.M;
  forest = u.forest;
  size = u.size;
  heavy = u.heavy;
  C = u.C;
  wide = u.wide;
  all = u.all;
  chain = u.chain;
  bare = u.bare;
  home = u.home;
  known = u.known;
  blank = u.blank;
  cover = λ j m. let o = u.cover j m in (o.0, (o.1.0, near_frames F T u.M w fs gs f o.1.1));
  nodes = u.nodes;
  met = u.met;
  held = u.held;
  sound = u.sound;
  frame = λ a b m. u.frame a b (g (a, b) m);
}

-- a frame in the middle goes to the front
pub front : (G : Pile) (H : Done) (F T : List ℕ) (n k s : ℕ) (new fs : List (ℕ × ℕ)) (p : ℕ × ℕ) (w : List ℕ) →
    State G H F T n k s (new ++ (p ∷ fs)) w → State G H F T n k s (p ∷ (new ++ fs)) w
front G H F T n k s new fs p w = reframe G H F T n k s (new ++ (p ∷ fs)) (p ∷ (new ++ fs)) w
    (λ q m. ⊎_elim (λ a. Memᴰ.tail (Memᴰ.append_left fs a))
    (λ a. ⊎_elim (λ e. Memᴰ.head e) (λ b. Memᴰ.tail (Memᴰ.append_right new b)) (Memᴰ.cases_cons a))
    (Memᴰ.append_cases new m))
    (λ q m. ⊎_elim (λ e. Memᴰ.append_right new (Memᴰ.head e))
    (λ a. ⊎_elim (λ b. Memᴰ.append_left (p ∷ fs) b) (λ b. Memᴰ.append_right new (Memᴰ.tail b)) (Memᴰ.append_cases new a))
    (Memᴰ.cases_cons m))

-- ---- the classes of x and y, whose roots are a and b
module _ (n k s : ℕ) (w : List ℕ) (x y : ℕ) (hx : x < n) (hy : y < n) (hn : n ≤ 1024) (hw : SIZE ≤ length w) (a b : ℕ)
    (p : Root n w x a) (q : Root n w y b) where
  length_P : length (parents n w) ≡ n
  length_P = length_parents n w (omega arith)

  module _ (G : Pile) (H : Done) (F T : List ℕ) (fs : List (ℕ × ℕ)) (u : State G H F T n k s fs w) where
    length_L : length u.M ≡ n
    length_L = length_M G H F T n k s fs w hn hw u

    x_a : Together u.M x a
    x_a = let l = length_P in let m = length_L in let i = p.low in
        (inr (omega arith, omega arith), p.is u.M u.forest ∙ sym (u.forest.tops a (omega arith) p.top))

    y_b : Together u.M y b
    y_b = let l = length_P in let m = length_L in let i = q.low in
        (inr (omega arith, omega arith), q.is u.M u.forest ∙ sym (u.forest.tops b (omega arith) q.top))

    pub same_roots : Equal G F T x y → Equal G F T a b
    same_roots r = Equal.on (Equal.back (u.sound x a hx p.low x_a.1))
        (Equal.on r (u.sound y b hy q.low y_b.1))

    pub noted : State G (withPair (withPair H x a) y b) F T n k s fs w
    noted = hold G H F T n k s fs w u ((y, b) ∷ ((x, a) ∷ H.E))
        (λ i j m. ⊎_elim (λ e. pair i j y b e y_b) (λ t. ⊎_elim (λ e. pair i j x a e x_a) (λ z. u.held i j z) (Memᴰ.cases_cons t))
        (Memᴰ.cases_cons m))
      where
        pair : (i j c d : ℕ) → ◌≡◌ {A = ℕ × ℕ} (i, j) (c, d) → Together u.M c d → Together u.M i j
        pair i j c d e f = subst (λ (v : ℕ × ℕ). Together u.M v.0 v.1) (sym e) f

  pub joined_same : a ≡ b → SomeState n k s w → Merged n k s w x y k s false w
  joined_same e g = record {
    later = later_refl k w g.state.logged;
    new = [];
    stack = refl;
    count = omega arith;
    grow = λ j h z. refl;
    calm = λ h. (refl, calm_refl w);
    under = under_same n k s w g;
    fine = λ z G H F T fs u r.
        let l = length_L G H F T fs u in
        hold_pair G H F T n k s fs w u x y (inr (omega arith, omega arith), p.is u.M u.forest ∙ e ∙ sym (q.is u.M u.forest));
    clash = λ z. let y : ◌≡◌ {A = ℕ} 0 1 = cc in absurd (omega arith);
  }

  module _ (k' s' : ℕ) (bad : Bool) (w' : List ℕ) where
    -- from the pairs x a, y b, a b to the pair x y
    drawn : (G : Pile) (H : Done) (F T : List ℕ) (fs : List (ℕ × ℕ)) (c d : ℕ) → ((c ≡ a) × (d ≡ b)) ⊎ ((c ≡ b) × (d ≡ a)) →
        State G (withPair (withPair (withPair H x a) y b) c d) F T n k' s' fs w' → State G (withPair H x y) F T n k' s' fs w'
    drawn G H F T fs c d o v =
        let J = withPair (withPair (withPair H x a) y b) c d in
        let h1 = v.held y b (Memᴰ.tail (Memᴰ.head refl)) in
        let h2 = v.held x a (Memᴰ.tail (Memᴰ.tail (Memᴰ.head refl))) in
        let h3 = v.held c d (Memᴰ.head refl) in
        let h4 : Together v.M a b = ⊎_elim (λ z. rw (z.0, z.1) at h3) (λ z. together_back v.M b a (rw (z.0, z.1) at h3)) o in
        let h5 = together_on v.M x a y h2 (together_on v.M a b y h4 (together_back v.M y b h1)) in
        hold G J F T n k' s' fs w' v ((x, y) ∷ H.E)
        (λ i j m. ⊎_elim
        (λ r. subst (λ (t : ℕ × ℕ). Together v.M t.0 t.1) (sym r) h5)
        (λ r. v.held i j (Memᴰ.tail (Memᴰ.tail (Memᴰ.tail r)))) (Memᴰ.cases_cons m))

    pub joined_up : Merged n k s w a b k' s' bad w' → Merged n k s w x y k' s' bad w'
    joined_up m = record {
      later = m.later;
      new = m.new;
      stack = m.stack;
      count = m.count;
      grow = m.grow;
      calm = m.calm;
      under = m.under;
      fine = λ z G H F T fs u r. drawn G H F T (m.new ++ fs) a b (inl (refl, refl))
          (m.fine z G (withPair (withPair H x a) y b) F T fs (noted G H F T fs u) (same_roots G H F T fs u r));
      clash = λ z G H F T fs u r. m.clash z G H F T fs u (same_roots G H F T fs u r);
    }

    pub joined_down : Merged n k s w b a k' s' bad w' → Merged n k s w x y k' s' bad w'
    joined_down m = record {
      later = m.later;
      new = m.new;
      stack = m.stack;
      count = m.count;
      grow = m.grow;
      calm = m.calm;
      under = m.under;
      fine = λ z G H F T fs u r. drawn G H F T (m.new ++ fs) b a (inr (refl, refl))
          (m.fine z G (withPair (withPair H x a) y b) F T fs (noted G H F T fs u) (Equal.back (same_roots G H F T fs u r)));
      clash = λ z G H F T fs u r. m.clash z G H F T fs u (Equal.back (same_roots G H F T fs u r));
    }

-- ---- a frame, and its first arc
part : (w : List ℕ) (to x : ℕ) (zs : List ℕ) → Seg w to x zs → (x ≡ to → ⊥) →
    (l : List ℕ) × ((zs ≡ (x - 1) ∷ l) × ((0 < x) × ((x - 1 < 2048) × Seg w to (get_or w (NEXT + (x - 1)) 0) l)))
part w to x [] s n = absurd (n s)
part w to x (j ∷ zs) s n =
    let e : x - 1 ≡ j = let d = s.0 in omega arith in (
      zs,
      (
        ap (λ (i : ℕ). i ∷ zs) (sym e),
        (
          let d = s.0 in omega arith,
          (
            let d = s.1.0 in
                omega arith,
            subst (λ (i : ℕ). Seg w to (get_or w (NEXT + i) 0) zs) (sym e) s.1.1.1,
          ),
        ),
      ),
    )

module _ (G : Pile) (H : Done) (F T : List ℕ) (n k s x to : ℕ) (fs : List (ℕ × ℕ)) (w : List ℕ) (hn : n ≤ 1024) (hw : SIZE ≤ length w)
    (u : State G H F T n k s ((x, to) ∷ fs) w) where
  abbrev fr : Framed n u.M u.C w x to
  fr = u.frame x to (Memᴰ.head refl)

  abbrev cl : ℕ
  cl = get_or u.M fr.c 0

  cl_in : cl < n
  cl_in = low G H F T n k s ((x, to) ∷ fs) w (omega arith) hw u fr.c fr.c_in

  cl_top : get_or u.M cl 0 ≡ cl
  cl_top = top G H F T n k s ((x, to) ∷ fs) w (omega arith) hw u fr.c fr.c_in

  -- the chain from the frame's end on
  after : (ys : List ℕ) × (Chain w to ys × ((length ys ≤ 2048) × ((q : ℕ) → Memᴰ q ys → Memᴰ q (get_or u.C cl []))))
  after =
      let r = chain_from w (get_or w cl 0) (get_or u.C cl []) fr.e
      (chain_of G H F T n k s ((x, to) ∷ fs) w (omega arith) hw u cl fr.e cl_in cl_top fr.stop) fr.stop in
      let l : length r.0 ≤ length (get_or u.C cl []) = r.1.1.0 in
      let m = short G H F T n k s ((x, to) ∷ fs) w (omega arith) hw u cl in
      (r.0, (subst (λ (v : ℕ). Chain w v r.0) (sym fr.is) r.1.0, (omega arith, r.1.1.1)))

  pub after_runs : Runs w to
  after_runs = record { xs = after.0; chain = after.1.0; short = after.1.1.0 }

  -- an arc of the frame's class
  here : (q : ℕ) → Memᴰ q (get_or u.C cl []) →
      Memᴰ q G.B × ((get_or u.M (G.S q) 0 ≡ cl) × ((G.S q < n) × ((get_or T q 0 < n) × (q < 2047))))
  here q m =
      let h = u.home cl q cl_in m in
      let b = u.known q h.0 in
      let a = u.arcs q b in
      (b, (h.1, (a.1.0, (a.1.1, a.0))))

  module _ (ne : x ≡ to → ⊥) where
    pt : (l : List ℕ) × ((fr.zs ≡ (x - 1) ∷ l) × ((0 < x) × ((x - 1 < 2048) × Seg w to (get_or w (NEXT + (x - 1)) 0) l)))
    pt = part w to x fr.zs fr.seg ne

    mine : Memᴰ (x - 1) (get_or u.C cl [])
    mine = fr.own (x - 1) (subst (Memᴰ (x - 1)) (sym pt.1.0) (Memᴰ.head refl))

    pub arc_pos : 0 < x
    arc_pos = pt.1.1.0

    pub arc_low : x - 1 < 2047
    arc_low = (here (x - 1) mine).1.1.1.1

    pub arc_target : get_or T (x - 1) 0 < n
    arc_target = (here (x - 1) mine).1.1.1.0

    -- the match
    match_in : (r i : ℕ) → Looked F w (get_or F (x - 1) 0) to r → r ≡ suc i → First F (get_or F (x - 1) 0) after.0 i
    match_in r i l e = l.hit i e after.0 after.1.0

    pub match_target : (r i : ℕ) → Looked F w (get_or F (x - 1) 0) to r → r ≡ suc i → (get_or T i 0 < n) × (i < 2047)
    match_target r i l e = let h = here i (after.1.1.1 i (first_mem F (get_or F (x - 1) 0) after.0 i (match_in r i l e))) in
        (h.1.1.1.0, h.1.1.1.1)

    pub match_same : (r i : ℕ) → Looked F w (get_or F (x - 1) 0) to r → r ≡ suc i → Equal G F T (get_or T (x - 1) 0) (get_or T i 0)
    match_same r i l e =
        let a = here (x - 1) mine in
        let f = match_in r i l e in
        let b = here i (after.1.1.1 i (first_mem F (get_or F (x - 1) 0) after.0 i f)) in
        Equal.along a.0 b.0 (sym (first_feature F (get_or F (x - 1) 0) after.0 i f))
        (u.sound (G.S (x - 1)) (G.S i) a.1.1.0 b.1.1.0 (a.1.0 ∙ sym b.1.0))

    -- the first arc is paid for
    module _ (paid : (i : ℕ) (js : List ℕ) → Way w F (get_or F (x - 1) 0) to js i → Together u.M (get_or T (x - 1) 0) (get_or T i 0)) where
      near : {i j : ℕ} → Near F T u.M w ((x, to) ∷ fs) i j → Near F T u.M w ((get_or w (NEXT + (x - 1)) 0, to) ∷ fs) i j
      near (Near.old e) = Near.old e
      near (Near.owe {x = a} {y = b} {q = q} q' zs js m sg mq wy) =
          ⊎_elim (λ e. owed a b q q' zs js e sg mq wy) (λ m'. Near.owe q' zs js (Memᴰ.tail m') sg mq wy) (Memᴰ.cases_cons m)
        where
          owed : (a b q q' : ℕ) (zs js : List ℕ) → ◌≡◌ {A = ℕ × ℕ} (a, b) (x, to) → Seg w b a zs → Memᴰ q zs →
              Way w F (get_or F q 0) b js q' → Near F T u.M w ((get_or w (NEXT + (x - 1)) 0, to) ∷ fs) (get_or T q 0) (get_or T q' 0)
          owed a b q q' zs js e sg mq wy =
              let ea : a ≡ x = ap (λ (v : ℕ × ℕ). v.0) e in
              let eb : b ≡ to = ap (λ (v : ℕ × ℕ). v.1) e in
              let sg' : Seg w to x zs = subst (λ (v : ℕ). Seg w v x zs) eb (subst (λ (v : ℕ). Seg w b v zs) ea sg) in
              let wy' : Way w F (get_or F q 0) to js q' = subst (λ (v : ℕ). Way w F (get_or F q 0) v js q') eb wy in
              let t = part w to x zs sg' ne in
              ⊎_elim
              (λ d. Near.old (subst (λ (v : ℕ). Together u.M (get_or T v 0) (get_or T q' 0)) (sym d)
              (paid q' js (subst (λ (v : ℕ). Way w F (get_or F v 0) to js q') d wy'))))
              (λ d. Near.owe q' t.0 js (Memᴰ.head refl) t.1.1.1.1 d wy')
              (Memᴰ.cases_cons (subst (Memᴰ q) t.1.0 mq))
      near (Near.sym r) = Near.sym (near r)
      near (Near.trans r t) = Near.trans (near r) (near t)

      pub advance : State G H F T n k s ((get_or w (NEXT + (x - 1)) 0, to) ∷ fs) w
      advance = record {
        logged = u.logged;
        shape = u.shape;
        room = u.room;
        few = u.few;
        stack = u.stack;
        arcs = u.arcs;
        atoms = u.atoms;
        M = u.M;
        forest = u.forest;
        size = u.size;
        heavy = u.heavy;
        C = u.C;
        wide = u.wide;
        all = u.all;
        chain = u.chain;
        bare = u.bare;
        home = u.home;
        known = u.known;
        blank = u.blank;
        cover = λ j m. let o = u.cover j m in (o.0, (o.1.0, near o.1.1));
        nodes = u.nodes;
        met = u.met;
        held = u.held;
        sound = u.sound;
        frame = λ a b m. ⊎_elim (λ e. subst (λ (v : ℕ × ℕ). Framed n u.M u.C w v.0 v.1) (sym e) rest)
            (λ z. u.frame a b (Memᴰ.tail z)) (Memᴰ.cases_cons m);
      }
        where
          rest : Framed n u.M u.C w (get_or w (NEXT + (x - 1)) 0) to
          rest =
              let l : length fr.zs ≡ suc (length pt.0) = ap length pt.1.0 in
              let h = fr.short in
              record {
                zs = pt.0;
                seg = pt.1.1.1.1;
                short = omega arith;
                c = fr.c;
                c_in = fr.c_in;
                own = λ q m. fr.own q (subst (Memᴰ q) (sym pt.1.0) (Memᴰ.tail m));
                e = fr.e;
                is = fr.is;
                stop = fr.stop;
              }

    -- the way that is left is shorter
    pub nearer : (w' : List ℕ) → Grow w w' → hops 2048 w' to (get_or w' (NEXT + (x - 1)) 0) < hops 2048 w to x
    nearer w' g =
        let h = fr.short in
        let l : length fr.zs ≡ suc (length pt.0) = ap length pt.1.0 in
        let sg : Seg w' to x fr.zs = seg_grow w w' to x fr.zs (λ e. let i = fr.is in omega arith) g fr.seg in
        let t = part w' to x fr.zs sg ne in
        let l' : length fr.zs ≡ suc (length t.0) = ap length t.1.0 in
        let a : hops 2048 w to x ≡ length fr.zs = hops_is w 2048 to x fr.zs fr.seg h in
        let b : hops 2048 w' to (get_or w' (NEXT + (x - 1)) 0) ≡ length t.0 =
        hops_is w' 2048 to (get_or w' (NEXT + (x - 1)) 0) t.0 t.1.1.1.1 (omega arith) in
        omega arith

    pub way_is : (r i : ℕ) → Looked F w (get_or F (x - 1) 0) to r → r ≡ suc i → (js : List ℕ) × Way w F (get_or F (x - 1) 0) to js i
    way_is r i l e = first_way w F (get_or F (x - 1) 0) to after.0 i after.1.0 (match_in r i l e)

    pub no_way : Looked F w (get_or F (x - 1) 0) to 0 → (i : ℕ) (js : List ℕ) → Way w F (get_or F (x - 1) 0) to js i → ⊥
    no_way l i js y = none_first F (get_or F (x - 1) 0) after.0 i (l.miss refl after.0 after.1.0)
        (way_first w F (get_or F (x - 1) 0) to js i after.0 y after.1.0)

-- ways are unique
way_det : (w F : List ℕ) (f x : ℕ) (js ls : List ℕ) (i j : ℕ) → Way w F f x js i → Way w F f x ls j → i ≡ j
way_det w F f x [] [] i j p q = let a = p.0 in let b = q.0 in omega arith
way_det w F f x [] (l ∷ ls) i j p q = let e : i ≡ l = let a = p.0 in let b = q.0 in omega arith in
    absurd (q.1.1.0 (ap (λ (v : ℕ). get_or F v 0) (sym e) ∙ p.1))
way_det w F f x (l ∷ ls) [] i j p q = let e : j ≡ l = let a = p.0 in let b = q.0 in omega arith in
    absurd (p.1.1.0 (ap (λ (v : ℕ). get_or F v 0) (sym e) ∙ q.1))
way_det w F f x (l ∷ ls) (m ∷ ms) i j p q =
    let e : l ≡ m = let a = p.0 in let b = q.0 in omega arith in
    way_det w F f (get_or w (NEXT + l) 0) ls ms i j p.1.1.1
    (subst (λ (v : ℕ). Way w F f (get_or w (NEXT + v) 0) ms j) (sym e) q.1.1.1)

-- ---- the two ends of `step`
module _ (F T : List ℕ) (n k s x to : ℕ) (w : List ℕ) (hn : n ≤ 1024) (hw : SIZE ≤ length w) (ne : x ≡ to →
    ⊥) (wk : Working F T n k s x to w) where
  pub turned_miss : Looked F w (get_or F (x - 1) 0) to 0 → Turned F T n k s w x to k s false w
  turned_miss l = record {
    later = later_refl k w wk.state.logged;
    fine = λ z. record {
      later = later_refl k w wk.state.logged;
      new = [];
      stack = refl;
      count = omega arith;
      go = λ G H fs u. advance G H F T n k s x to fs w hn hw u ne (λ i js y. absurd (no_way G H F T n k s x to fs w hn hw u ne l i js y));
    };
    less = λ z. nearer wk.G wk.H F T n k s x to wk.fs w hn hw wk.state ne w (λ j h d. refl);
    clash = λ z. let y : ◌≡◌ {A = ℕ} 0 1 = cc in absurd (omega arith);
  }

  pub turned_hit : (r i k' s' : ℕ) (bad : Bool) (w' : List ℕ) → Looked F w (get_or F (x - 1) 0) to r → r ≡ suc i →
      Merged n k s w (get_or T (x - 1) 0) (get_or T i 0) k' s' bad w' → Turned F T n k s w x to k' s' bad w'
  turned_hit r i k' s' bad w' l e m = record {
    later = m.later;
    fine = λ z. record {
      later = m.later;
      new = m.new;
      stack = m.stack;
      count = m.count;
      go = λ G H fs u.
          let v : State G (withPair H (get_or T (x - 1) 0) (get_or T i 0)) F T n k' s' (m.new ++ ((x, to) ∷ fs)) w' =
          m.fine z G H F T ((x, to) ∷ fs) u (match_same G H F T n k s x to fs w hn hw u ne r i l e) in
          let v' : State G (withPair H (get_or T (x - 1) 0) (get_or T i 0)) F T n k' s' ((x, to) ∷ (m.new ++ fs)) w' =
          front G (withPair H (get_or T (x - 1) 0) (get_or T i 0)) F T n k' s' m.new fs (x, to) w' v in
          let y = way_is G H F T n k s x to fs w hn hw u ne r i l e in
          let y' : Way w' F (get_or F (x - 1) 0) to y.0 i = way_grow w w' F (get_or F (x - 1) 0) to y.0 i m.grow y.1 in
          let len : SIZE ≤ length w' = omega (arith, m.later.len) in
          forget G H F T n k' s' ((get_or w' (NEXT + (x - 1)) 0, to) ∷ (m.new ++ fs)) w' (get_or T (x - 1) 0) (get_or T i 0)
          (advance G (withPair H (get_or T (x - 1) 0) (get_or T i 0)) F T n k' s' x to (m.new ++ fs) w' hn len v' ne
          (λ j js t. subst (λ (c : ℕ). Together v'.M (get_or T (x - 1) 0) (get_or T c 0))
          (way_det w' F (get_or F (x - 1) 0) to y.0 js i j y' t)
          (v'.held (get_or T (x - 1) 0) (get_or T i 0) (Memᴰ.head refl))));
    };
    less = λ z. nearer wk.G wk.H F T n k s x to wk.fs w hn hw wk.state ne w' m.grow;
    clash = λ z G H fs u. m.clash z G H F T ((x, to) ∷ fs) u (match_same G H F T n k s x to fs w hn hw u ne r i l e);
  }
