-- Sign by sign, the memory holds what is given.
-- Assumes nothing.
use Prim.Native.Nat.{ℕ, zero, suc, ◌+◌, ◌*◌, ◌<◌, ◌≤◌}
use mathlib.Core.Path.{◌≡◌, refl, sym, ap, subst, ◌∙◌}
use mathlib.Core.Bool.{true, false}
use mathlib.Core.List.{List, [], ◌∷◌, append-nil}
use native.Mathlib.Omega.{arith}
use lib.ListN.{length, length-append}
use Rattle.theory.specs.Join.{Edge}
use Rattle.formulas.specs.Sheet.{Sheet, of_edges, of_atom, of_tie}
use Rattle.rows.specs.Machine.{Alt, Out, no_rows, ◌then◌, homed, begins, OpenFrame, framed, Core, cored, Pen, penned}
use Rattle.rows.specs.Machine.{sign_gives, sign_moves, sign_turns, first_given, first_core, first_pen}
use Rattle.rows.specs.Plan.{lasts, none_yet}
use Rattle.rows.specs.Memory.{Memory, stored}
use Rattle.rows.specs.Laid.{arc_word, pair_word}
use Rattle.rows.specs.Held.{FramesStand, with_row, with_alternative, with_frame, Held}
use Rattle.rows.specs.Standing.{FramesInside, Standing}
use Rattle.rows.proofs.Lies.{lasts_both, renewed_else}
use Rattle.rows.proofs.Adding.{held_arc, held_atom, held_tie, held_begun, frames_more}

inside_more : (n m k l : ℕ) (fs : List OpenFrame) → n ≤ m → k ≤ l → FramesInside n k fs → FramesInside m l fs
inside_more n m k l [] a b p = tt
inside_more n m k l (f ∷ fs) a b p = let (x, y, z) = p in (omega arith, omega arith, inside_more n m k l fs a b z)

-- rows without alternatives
module _ (M M' : Memory) (c c' : Core) (p p' : Pen) (x : Out) (h : ℕ) (A : Sheet) (s : Standing M c p x) where
  same_alts : (x then homed h A).alts ≡ x.alts
  same_alts = append-nil x.alts

  -- another row: the numbers of alternatives stay
  stand_row : Held M' (x then homed h A) c.alt → FramesStand (M' 10) (M' 11) (M' 12) (M' 13) c.around → c'.alt ≡ c.alt →
      c'.frame ≡ c.frame →
      c'.around ≡ c.around → c.spot ≤ c'.spot → c'.spot ≡ suc (length (x then homed h A).arcs) → p'.cur < c'.spot →
      p'.start < c'.spot →
      p'.end < c'.spot → Standing M' c' p' (x then homed h A)
  stand_row held frames k f o l n cur start end =
      let alts = s.alts in
      let base = s.base in
      let home = s.home in
      let fb = ap (λ (z : OpenFrame). z.base) f in
      let fh = ap (λ (z : OpenFrame). z.home) f in
      let la = ap (λ (z : List Alt). length z) same_alts in
      record {
        held = subst (Held M' (x then homed h A)) (sym k) held;
        frames = subst (FramesStand (M' 10) (M' 11) (M' 12) (M' 13)) (sym o) frames;
        spots = n;
        alts = omega (arith, alts, k, la);
        fresh = λ j q. ap (λ (z : List Alt). lasts none_yet 1 z j) same_alts ∙ s.fresh j (omega (arith, q, k));
        cur = cur;
        start = start;
        end = end;
        base = omega (arith, base, fb, l);
        home = omega (arith, home, fh, k);
        around = subst (FramesInside c'.spot c'.alt) (sym o)
            (inside_more c.spot c'.spot c.alt c'.alt c.around l (omega (arith, k)) s.around);
      }

module _ (M : Memory) (c : Core) (p : Pen) (x : Out) (s : Standing M c p x) where
  -- `fN`
  pub stand_arc : (f : ℕ) → Standing (with_row M 0 (length x.arcs) (p.cur + 2048 * f) c.frame.home) (sign_moves (102, f) c p)
      (sign_turns (102, f) c p)
      (x then sign_gives (102, f) c p)
  stand_arc f =
      let h = c.frame.home in
      let e : Edge = (p.cur, f, c.spot) in
      let long = length-append x.arcs ((h, e) ∷ []) in
      let n = s.spots in
      let a = s.start in
      let b = s.end in
      stand_row M (with_row M 0 (length x.arcs) (arc_word (h, e)) h) c (sign_moves (102, f) c p) p (sign_turns (102, f) c p) x h
      (of_edges (e ∷ [])) s
      (held_arc M x c.alt h (length x.arcs) e refl s.held) s.frames refl refl refl (omega arith) (omega (arith, long, n))
      (omega arith)
      (omega (arith, a)) (omega (arith, b))

  -- `aN`
  pub stand_atom : (a : ℕ) → Standing (with_row M 2 (length x.bears) (p.cur + 2048 * a) c.frame.home) c p
      (x then homed c.frame.home (of_atom p.cur a))
  stand_atom a =
      let h = c.frame.home in
      let m = s.spots in
      let l = ap (λ (z : List (ℕ × Edge)). length z) (append-nil x.arcs) in
      stand_row M (with_row M 2 (length x.bears) (pair_word (h, (p.cur, a))) h) c c p p x h (of_atom p.cur a) s
      (held_atom M x c.alt h (length x.bears) p.cur a refl s.held) s.frames refl refl refl (omega arith)
      (omega (arith, m, l)) s.cur
      s.start s.end

  -- `>` after the first path of a list
  pub stand_tie : p.first ≡ false →
      Standing (with_row M 4 (length x.shares) (p.end + 2048 * p.cur) c.frame.home) c (penned p.start p.start p.end false)
      (x then homed c.frame.home (of_tie [] p.end p.cur))
  stand_tie e =
      let h = c.frame.home in
      let m = s.spots in
      let l = ap (λ (z : List (ℕ × Edge)). length z) (append-nil x.arcs) in
      stand_row M (with_row M 4 (length x.shares) (pair_word (h, (p.end, p.cur))) h) c c p
      (penned p.start p.start p.end false) x h
      (of_tie [] p.end p.cur) s (held_tie M x c.alt h (length x.shares) p.end p.cur refl s.held)
      s.frames refl refl refl (omega arith)
      (omega (arith, m, l)) s.start s.start s.end

  -- nothing is given, and the pen moves
  pub stand_moved : (q : Pen) → q.cur < c.spot → q.start < c.spot → q.end < c.spot → Standing M c q x
  stand_moved q a b d = record {
    held = s.held;
    frames = s.frames;
    spots = s.spots;
    alts = s.alts;
    fresh = s.fresh;
    cur = a;
    start = b;
    end = d;
    base = s.base;
    home = s.home;
    around = s.around;
  }

  -- a group opens
  pub stand_open : (f : OpenFrame) → f.base < c.spot → f.home < c.alt →
      Standing (with_frame M (length c.around) c.frame) (cored c.spot c.alt f (c.frame ∷ c.around)) p x
  stand_open f a b =
      let h = s.held in
      record {
        held = record {
          arcs = h.arcs;
          homes = h.homes;
          atoms = h.atoms;
          atom_homes = h.atom_homes;
          ties = h.ties;
          tie_homes = h.tie_homes;
          groups = h.groups;
          before = h.before;
          spots = h.spots;
          root = h.root;
          last = h.last;
        };
        frames = frames_more M (length c.around) c.frame c.around refl s.frames;
        spots = s.spots;
        alts = s.alts;
        fresh = s.fresh;
        cur = s.cur;
        start = s.start;
        end = s.end;
        base = a;
        home = b;
        around = (s.base, s.home, s.around);
      }

  -- it ends
  -- an alternative of o begins at the spot t, and the conjunction goes on in it
  pub stand_begun : (o g t d b : ℕ) → o < c.alt → b < c.spot →
      Standing (with_alternative M c.alt o g t) (cored c.spot (suc c.alt) (framed b c.alt g d) c.around) p
      (x then begins o g t d)
  stand_begun o g t d b l m =
      let k = c.alt in
      let a : Alt = record { owner = o; group = g; spot = t; depth = d } in
      let n = s.spots in
      let i = s.alts in
      let la = ap (λ (z : List (ℕ × Edge)). length z) (append-nil x.arcs) in
      let lk = length-append x.alts (a ∷ []) in
      record {
        held = held_begun M x k o g t d s.alts l (s.fresh k (omega arith)) s.held;
        frames = s.frames;
        spots = omega (arith, n, la);
        alts = omega (arith, i, lk);
        fresh = λ j q. lasts_both none_yet 1 x.alts (a ∷ []) j
            ∙ renewed_else (lasts none_yet 1 x.alts) o (1 + length x.alts) j (λ z. omega (arith, z, q, l))
            ∙ s.fresh j (omega (arith, q));
        cur = s.cur;
        start = s.start;
        end = s.end;
        base = m;
        home = omega arith;
        around = inside_more c.spot c.spot k (suc k) c.around (omega arith) (omega arith) s.around;
      }

-- before the first sign
pub stand_first : (M : Memory) → Standing (stored (stored M 9 0 0) 8 0 0) (first_core false) first_pen no_rows
stand_first M = record {
  held = record {
    arcs = tt;
    homes = tt;
    atoms = tt;
    atom_homes = tt;
    ties = tt;
    tie_homes = tt;
    groups = tt;
    before = tt;
    spots = tt;
    root = refl;
    last = only;
  };
  frames = tt;
  spots = refl;
  alts = refl;
  fresh = λ j q. refl;
  cur = omega arith;
  start = omega arith;
  end = omega arith;
  base = omega arith;
  home = omega arith;
  around = tt;
}
  where
    only : (j : ℕ) → j < 1 → stored (stored M 9 0 0) 8 0 0 8 j ≡ 0
    only zero l = refl
    only (suc j) l = absurd (omega arith)

-- a whole that has alternatives begins the first of them
pub stand_flagged : (M : Memory) →
    Standing (with_alternative (stored (stored M 9 0 0) 8 0 0) 1 0 1 0) (first_core true) first_pen (no_rows then first_given true)
stand_flagged M =
    stand_begun (stored (stored M 9 0 0) 8 0 0) (first_core false) first_pen no_rows (stand_first M) 0 1 0 1 0 (omega arith) (omega arith)
