-- Frames to their ends, and the stack to its bottom. Assumes nothing.
use mathlib.Core.Path.{◌≡◌, refl, sym, ap, ◌∙◌, subst}
use mathlib.Core.Bool.{Bool, true, false}
use mathlib.Core.List.Memᴰ
use mathlib.Core.List.{List, [], ◌∷◌, ◌++◌, append_assoc, Memᴰ}
use mathlib.Core.Logic.{⊎_elim}
use Prim.Native.Nat.{ℕ, zero, suc, ◌+◌, ◌-◌, ◌/◌, ◌%◌, ◌≤◌, ◌<◌}
use native.Mathlib.Nat.{le_trans}
use native.Mathlib.Omega.{arith}
use lib.ListN.{get_or, length}
use Rattle.area.specs.Map.{NEXT, STACK, SIZE}
use Rattle.area.specs.Region.{loaded_words}
use Rattle.area.specs.Log.{Logged, Later}
use Rattle.forest.specs.Forest.{parents, tops}
use Rattle.forest.specs.State.{Pile, Done, Equal, Seg, Near, State, Calm, Merged, frames, withPair, FrameWalk, Working, ClashTold}
use Rattle.forest.specs.State.{Turned}
use Rattle.forest.specs.State.{Drained, Stacked, Settled, United, targets}
use Rattle.forest.proofs.Words.{words_later, targets_later}
use Rattle.area.proofs.Undo.{later_refl, later_trans}

pub walk_refl : (F T : List ℕ) (n k s : ℕ) (w : List ℕ) (x to : ℕ) → Logged k w → FrameWalk F T n k s w x to k s w x
walk_refl F T n k s w x to g = record { later = later_refl k w g; new = []; stack = refl; count = omega arith; go = λ G H fs u. u }

pub walk_trans : (F T : List ℕ) (n k s : ℕ) (w : List ℕ) (x to k1 s1 : ℕ) (w1 : List ℕ) (x1 k2 s2 : ℕ) (w2 : List ℕ) (x2 : ℕ) →
    FrameWalk F T n k s w x to k1 s1 w1 x1 → FrameWalk F T n k1 s1 w1 x1 to k2 s2 w2 x2 → FrameWalk F T n k s w x to k2 s2 w2 x2
walk_trans F T n k s w x to k1 s1 w1 x1 k2 s2 w2 x2 p q = record {
  later = later_trans k w k1 w1 k2 w2 p.later q.later;
  new = q.new ++ p.new;
  stack = q.stack ∙ ap (λ (l : List (ℕ × ℕ)). q.new ++ l) p.stack ∙ sym (append_assoc q.new p.new (frames w s));
  count = le_trans q.count p.count;
  go = λ G H fs u. subst (λ (l : List (ℕ × ℕ)). State G H F T n k2 s2 ((x2, to) ∷ l) w2) (sym (append_assoc q.new p.new fs))
      (q.go G H (p.new ++ fs) (p.go G H fs u));
}

pub walk_working : (F T : List ℕ) (n k s : ℕ) (w : List ℕ) (x to k1 s1 : ℕ) (w1 : List ℕ) (x1 : ℕ) → Working F T n k s x to w →
    FrameWalk F T n k s w x to k1 s1 w1 x1 → Working F T n k1 s1 x1 to w1
walk_working F T n k s w x to k1 s1 w1 x1 g p =
    record { G = g.G; H = g.H; fs = p.new ++ g.fs; state = p.go g.G g.H g.fs g.state }

pub walk_told : (F T : List ℕ) (n k s : ℕ) (w : List ℕ) (x to k1 s1 : ℕ) (w1 : List ℕ) (x1 : ℕ) → FrameWalk F T n k s w x to k1 s1 w1 x1 →
    ClashTold F T n k1 s1 w1 x1 to → ClashTold F T n k s w x to
walk_told F T n k s w x to k1 s1 w1 x1 p t = λ G H fs u. t G H (p.new ++ fs) (p.go G H fs u)

-- ---- as `drain` has it
pub drain_turn : (F T : List ℕ) (n k s : ℕ) (w : List ℕ) (x to k1 s1 : ℕ) (w1 : List ℕ) (x1 k2 s2 : ℕ) (bad : Bool) (w2 : List ℕ) (x2 : ℕ) →
    FrameWalk F T n k s w x to k1 s1 w1 x1 → Turned F T n k1 s1 w1 x1 to k2 s2 bad w2 → bad ≡ false → x2 ≡ get_or w2 (NEXT + (x1 - 1)) 0 →
    FrameWalk F T n k s w x to k2 s2 w2 x2
drain_turn F T n k s w x to k1 s1 w1 x1 k2 s2 bad w2 x2 p q b e =
    rw e (walk_trans F T n k s w x to k1 s1 w1 x1 k2 s2 w2 (get_or w2 (NEXT + (x1 - 1)) 0) p (q.fine b))

pub drained_bad : (F T : List ℕ) (n k s : ℕ) (w : List ℕ) (x to k1 s1 : ℕ) (w1 : List ℕ) (x1 k2 s2 s3 : ℕ) (w2 : List ℕ) →
    FrameWalk F T n k s w x to k1 s1 w1 x1 → Turned F T n k1 s1 w1 x1 to k2 s2 true w2 → Drained F T n k s w x to k2 s3 true w2
drained_bad F T n k s w x to k1 s1 w1 x1 k2 s2 s3 w2 p q = record {
  later = later_trans k w k1 w1 k2 w2 p.later q.later;
  fine = λ z. let y : ◌≡◌ {A = ℕ} 0 1 = cc in absurd (omega arith);
  clash = λ z. walk_told F T n k s w x to k1 s1 w1 x1 p (q.clash refl);
}

pub drained_end : (F T : List ℕ) (n k s : ℕ) (w : List ℕ) (x to k1 s1 : ℕ) (w1 : List ℕ) (x1 : ℕ) → FrameWalk F T n k s w x to k1 s1 w1 x1 →
    x1 ≡ to → Drained F T n k s w x to k1 s1 false w1
drained_end F T n k s w x to k1 s1 w1 x1 p e = record {
  later = p.later;
  fine = λ z. subst (λ (v : ℕ). FrameWalk F T n k s w x to k1 s1 w1 v) e p;
  clash = λ z. let y : ◌≡◌ {A = ℕ} 0 1 = cc in absurd (omega arith);
}

-- ---- a frame that is worked off goes
finish : (G : Pile) (H : Done) (F T : List ℕ) (n k s to : ℕ) (fs : List (ℕ × ℕ)) (w : List ℕ) → State G H F T n k s ((to, to) ∷ fs) w →
    State G H F T n k s fs w
finish G H F T n k s to fs w u = record {
  logged = u.logged;
  shape = u.shape;
  room = u.room;
  few = u.few;
  stack = u.stack;
  arcs = u.arcs;
  atoms = u.atoms;
  M = u.M;
  forest = u.forest;
  size = u.size;
  heavy = u.heavy;
  C = u.C;
  wide = u.wide;
  all = u.all;
  chain = u.chain;
  bare = u.bare;
  home = u.home;
  known = u.known;
  blank = u.blank;
  cover = λ j m. let o = u.cover j m in (o.0, (o.1.0, near o.1.1));
  nodes = u.nodes;
  met = u.met;
  held = u.held;
  sound = u.sound;
  frame = λ a b m. u.frame a b (Memᴰ.tail m);
}
  where
    none : (zs : List ℕ) (a b q : ℕ) → ◌≡◌ {A = ℕ × ℕ} (a, b) (to, to) → Seg w b a zs → Memᴰ q zs → ⊥
    none [] a b q e sg m = Memᴰ.not-nil m
    none (j ∷ zs) a b q e sg m = sg.1.1.0 (sym sg.0 ∙ ap (λ (v : ℕ × ℕ). v.0) e ∙ sym (ap (λ (v : ℕ × ℕ). v.1) e))

    near : {i j : ℕ} → Near F T u.M w ((to, to) ∷ fs) i j → Near F T u.M w fs i j
    near (Near.old e) = Near.old e
    near (Near.owe {x} {y} {q} q' zs js m sg mq wy) =
        ⊎_elim (λ e. absurd (none zs x y q e sg mq)) (λ m'. Near.owe q' zs js m' sg mq wy) (Memᴰ.cases_cons m)
    near (Near.sym r) = Near.sym (near r)
    near (Near.trans r t) = Near.trans (near r) (near t)

-- fewer frames are counted
lower : (G : Pile) (H : Done) (F T : List ℕ) (n k s s' : ℕ) (fs : List (ℕ × ℕ)) (w : List ℕ) → s' ≤ s → State G H F T n k s fs w →
    State G H F T n k s' fs w
lower G H F T n k s s' fs w h u = record {
  logged = u.logged;
  shape = u.shape;
  room = u.room;
  few = u.few;
  stack = let t = u.stack in omega arith;
  arcs = u.arcs;
  atoms = u.atoms;
  M = u.M;
  forest = u.forest;
  size = u.size;
  heavy = u.heavy;
  C = u.C;
  wide = u.wide;
  all = u.all;
  chain = u.chain;
  bare = u.bare;
  home = u.home;
  known = u.known;
  blank = u.blank;
  cover = u.cover;
  nodes = u.nodes;
  met = u.met;
  held = u.held;
  sound = u.sound;
  frame = u.frame;
}

-- ---- the stack
pub record Settling (F T : List ℕ) (n k s : ℕ) (w : List ℕ) (e h : ℕ) (w' : List ℕ) : Type 0 where
  pub later : Later k w e w'
  pub count : h + tops 0 (parents n w') ≤ s + tops 0 (parents n w)
  pub still : s ≡ 0 → (h ≡ 0) × (w' ≡ w)
  pub go : (G : Pile) (H : Done) → State G H F T n k s (frames w s) w → State G H F T n e h (frames w' h) w'

pub settle_start : (F T : List ℕ) (n k s : ℕ) (w : List ℕ) → Logged k w → Settling F T n k s w k s w
settle_start F T n k s w g = record { later = later_refl k w g; count = omega arith; still = λ z. (z, refl); go = λ G H u. u }

-- the frame on top
pop : (G : Pile) (H : Done) (F T : List ℕ) (n k h : ℕ) (w : List ℕ) (from to : ℕ) → 0 < h → from ≡ get_or w (STACK + (h - 1)) 0 % 4096 →
    to ≡ get_or w (STACK + (h - 1)) 0 / 4096 → State G H F T n k h (frames w h) w →
    State G H F T n k (h - 1) ((from, to) ∷ frames w (h - 1)) w
unfolding frames
pop G H F T n k zero w from to p a b u = absurd (omega arith)
pop G H F T n k (suc h) w from to p a b u =
    let d : suc h - 1 ≡ h = omega arith in
    let a' : get_or w (STACK + h) 0 % 4096 ≡ from = sym (rw d at a) in
    let b' : get_or w (STACK + h) 0 / 4096 ≡ to = sym (rw d at b) in
    rw d (rw (a', b') at (lower G H F T n k (suc h) h (frames w (suc h)) w (omega arith) u))

pub settle_working : (F T : List ℕ) (n k s : ℕ) (w : List ℕ) (e h : ℕ) (w' : List ℕ) (from to : ℕ) → Stacked F T n k s w →
    Settling F T n k s w e h w' → 0 < h → from ≡ get_or w' (STACK + (h - 1)) 0 % 4096 → to ≡ get_or w' (STACK + (h - 1)) 0 / 4096 →
    Working F T n e (h - 1) from to w'
settle_working F T n k s w e h w' from to g p l a b =
    record {
      G = g.G;
      H = g.H;
      fs = frames w' (h - 1);
      state =
          pop g.G g.H F T n e h w' from to l a b (p.go g.G g.H g.state);
    }

pub settle_stack : (F T : List ℕ) (n k s : ℕ) (w : List ℕ) (e h : ℕ) (w' : List ℕ) → Stacked F T n k s w → Settling F T n k s w e h w' →
    h + tops 0 (parents n w') ≤ n
settle_stack F T n k s w e h w' g p = (p.go g.G g.H g.state).stack

pub settle_turn : (F T : List ℕ) (n k s : ℕ) (w : List ℕ) (e h : ℕ) (w' : List ℕ) (from to e2 h2 : ℕ) (bad : Bool) (w2 : List ℕ) →
    Settling F T n k s w e h w' → 0 < h → from ≡ get_or w' (STACK + (h - 1)) 0 % 4096 → to ≡ get_or w' (STACK + (h - 1)) 0 / 4096
    → Drained F T n e (h - 1) w' from to e2 h2 bad w2 → bad ≡ false → Settling F T n k s w e2 h2 w2
settle_turn F T n k s w e h w' from to e2 h2 bad w2 p l a b q z =
    let y = q.fine z in
    let c : h2 + tops 0 (parents n w2) ≤ (h - 1) + tops 0 (parents n w') = y.count in
    let d : h + tops 0 (parents n w') ≤ s + tops 0 (parents n w) = p.count in
    record {
      later = later_trans k w e w' e2 w2 p.later y.later;
      count = omega arith;
      still = λ i. let j = (p.still i).0 in absurd (omega arith);
      go = λ G H u. subst (λ (f : List (ℕ × ℕ)). State G H F T n e2 h2 f w2) (sym y.stack)
          (finish G H F T n e2 h2 to (y.new ++ frames w' (h - 1)) w2
          (y.go G H (frames w' (h - 1)) (pop G H F T n e h w' from to l a b (p.go G H u))));
    }

-- what is drained after some frames, by the words as they were at first
pub drained_here : {n k s e h : ℕ} {w w' : List ℕ} {i from to e2 h2 : ℕ} {bad : Bool} {w2 : List ℕ} → SIZE ≤ length w →
    Settling (loaded_words w) (targets w) n k s w e h w' → Drained (loaded_words w') (targets w') n e i w' from to e2 h2 bad w2 →
    Drained (loaded_words w) (targets w) n e i w' from to e2 h2 bad w2
drained_here {k = k} {e = e} {w = w} {w' = w'} hw p d =
    rw (words_later k w e w' hw p.later, targets_later k w e w' hw p.later) at d

pub settle_less : (F T : List ℕ) (n : ℕ) (e h : ℕ) (w' : List ℕ) (from to e2 h2 : ℕ) (bad : Bool) (w2 : List ℕ) → 0 < h →
    Drained F T n e (h - 1) w' from to e2 h2 bad w2 → bad ≡ false → h2 + tops 0 (parents n w2) < h + tops 0 (parents n w')
settle_less F T n e h w' from to e2 h2 bad w2 l q z = let c : h2 + tops 0 (parents n w2) ≤ (h - 1) + tops 0 (parents n w') =
    (q.fine z).count in omega arith

pub settled_bad : (F T : List ℕ) (n k s : ℕ) (w : List ℕ) (e h : ℕ) (w' : List ℕ) (from to e2 h2 : ℕ) (w2 : List ℕ) →
    Settling F T n k s w e h w' → 0 < h → from ≡ get_or w' (STACK + (h - 1)) 0 % 4096 → to ≡ get_or w' (STACK + (h - 1)) 0 / 4096
    → Drained F T n e (h - 1) w' from to e2 h2 true w2 → Settled F T n k s w e2 true w2
settled_bad F T n k s w e h w' from to e2 h2 w2 p l a b q = record {
  later = later_trans k w e w' e2 w2 p.later q.later;
  still = λ i. let j = (p.still i).0 in absurd (omega arith);
  fine = λ y. let x : ◌≡◌ {A = ℕ} 0 1 = cc in absurd (omega arith);
  clash = λ y G H u. q.clash refl G H (frames w' (h - 1)) (pop G H F T n e h w' from to l a b (p.go G H u));
}

pub settled_end : (F T : List ℕ) (n k s : ℕ) (w : List ℕ) (e h : ℕ) (w' : List ℕ) → Settling F T n k s w e h w' → h ≡ 0 →
    Settled F T n k s w e false w'
unfolding frames
settled_end F T n k s w e h w' p z = record {
  later = p.later;
  still = λ i. (p.still i).1;
  fine = λ y G H u. rw z at (p.go G H u);
  clash = λ y. let x : ◌≡◌ {A = ℕ} 0 1 = cc in absurd (omega arith);
}

-- ---- a union
pub united : (F T : List ℕ) (n k : ℕ) (w : List ℕ) (x y k1 s1 : ℕ) (b1 : Bool) (w1 : List ℕ) (k2 : ℕ) (b2 : Bool) (w2 : List ℕ) →
    Merged n k 0 w x y k1 s1 b1 w1 → b1 ≡ false → Settled F T n k1 s1 w1 k2 b2 w2 → United F T n k w x y k2 b2 w2
unfolding frames
united F T n k w x y k1 s1 b1 w1 k2 b2 w2 m z q = record {
  later = later_trans k w k1 w1 k2 w2 m.later q.later;
  calm = λ h. let l = q.later.more in let c = m.calm (omega arith) in subst (Calm w) (sym (q.still c.0)) c.1;
  fine = λ v G H u r. q.fine v G (withPair H x y) (on G H u r);
  clash = λ v G H u r. q.clash v G (withPair H x y) (on G H u r);
}
  where
    on : (G : Pile) (H : Done) → State G H F T n k 0 [] w → Equal G F T x y → State G (withPair H x y) F T n k1 s1 (frames w1 s1) w1
    on G H u r = subst (λ (f : List (ℕ × ℕ)). State G (withPair H x y) F T n k1 s1 f w1) (sym m.stack) (m.fine z G H F T [] u r)

pub united_bad : (F T : List ℕ) (n k : ℕ) (w : List ℕ) (x y k1 s1 : ℕ) (w1 : List ℕ) → Merged n k 0 w x y k1 s1 true w1 →
    United F T n k w x y k1 true w1
united_bad F T n k w x y k1 s1 w1 m = record {
  later = m.later;
  calm = λ h. (m.calm h).1;
  fine = λ y. let x : ◌≡◌ {A = ℕ} 0 1 = cc in absurd (omega arith);
  clash = λ v G H u r. m.clash refl G H F T [] u r;
}

-- what `settle` asks
pub united_stacked : (F T : List ℕ) (n k : ℕ) (w : List ℕ) (x y k1 s1 : ℕ) (b1 : Bool) (w1 : List ℕ) (G : Pile) (H : Done) →
    State G H F T n k 0 [] w → Equal G F T x y → Merged n k 0 w x y k1 s1 b1 w1 → b1 ≡ false → Stacked F T n k1 s1 w1
unfolding frames
united_stacked F T n k w x y k1 s1 b1 w1 G H u r m z =
    record {
      G = G;
      H = withPair H x y;
      state =
          subst (λ (f : List (ℕ × ℕ)). State G (withPair H x y) F T n k1 s1 f w1) (sym m.stack) (m.fine z G H F T [] u r);
    }
