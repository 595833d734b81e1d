-- Each sign is gone through: what it gives is added to what the tables hold.
-- Assumes nothing.
use Prim.Native.Nat.{ℕ, suc, ◌+◌, ◌*◌, ◌-◌, ◌<◌, ◌≤◌}
use mathlib.Core.Path.{◌≡◌, refl, sym, ap, ap₂, subst, ◌∙◌}
use mathlib.Core.Bool.{false}
use mathlib.Core.List.{List, [], ◌∷◌, ◌++◌, append-nil}
use native.Mathlib.Omega.{arith}
use lib.ListN.{length, length-append}
use Rattle.std.specs.Prelude.{Option, Some}
use Rattle.theory.specs.Limits.{depth_limit}
use Rattle.formulas.specs.Sheet.{of_atom, of_tie}
use Rattle.rows.specs.Machine.{Alt, ShallowAlts, Out, ◌then◌, homed, begins, OpenFrame, framed, Core, cored, Pen, penned, outer}
use Rattle.rows.specs.Machine.{further_out, sign_gives, sign_moves, sign_turns}
use Rattle.rows.specs.Memory.{Memory}
use Rattle.rows.specs.Laid.{spot_unit}
use Rattle.rows.specs.Held.{FramesStand, with_row, with_alternative, with_frame}
use Rattle.rows.proofs.Depth.{shallow_both}
use Rattle.rows.proofs.Steps.{stand_arc, stand_atom, stand_tie, stand_moved, stand_open, stand_begun}
use Rattle.laying.specs.Table.{RowPut, FourPut, AlternativePut}
use Rattle.laying.specs.Step.{after_arc, after_atom, after_pen, after_frame, after_opening, closed_to, owner_of}
use Rattle.laying.specs.Laying.{Tabs, Hold, path_end, LaidSoFar}
use Rattle.laying.specs.declared.sign.At.{At}
use Rattle.laying.proofs.Held.{with_arcs, with_atoms, with_ties, with_alts, with_frames, row_as, hold_arc, hold_atom, hold_tie}
use Rattle.laying.proofs.Held.{hold_alternative, hold_frame}

-- nothing comes after a list
none_more : {A : Type 0} (l : List A) → length l ≡ length (l ++ [])
none_more l = sym (ap length (append-nil l))

one_more : {A : Type 0} (l : List A) (x : A) → length l + 1 ≡ length (l ++ (x ∷ []))
one_more l x = let e = length-append l (x ∷ []) in omega (arith, e)

none_deeper : (m : ℕ) (A : List Alt) → ShallowAlts m A → ShallowAlts m (A ++ [])
none_deeper m A s = subst (ShallowAlts m) (sym (append-nil A)) s

module _ (T : Tabs) (at : At) (c : Core) (p : Pen) (x : Out) (s : LaidSoFar T at c p x) where
  -- `fN`
  pub arc_laid : (f : ℕ) (w' : List ℕ) → RowPut T.arcs (at.spots - 1) (at.cur + spot_unit * f) at.home w' →
      LaidSoFar (with_arcs T w') (after_arc at) (sign_moves (102, f) c p) (sign_turns (102, f) c p) (x then sign_gives (102, f) c p)
  arc_laid f w' put =
      let v = s.views in
      let spots = v.spots in
      let count = s.stands.spots in
      let row = row_as T.arcs (at.spots - 1) (at.cur + spot_unit * f) at.home w' (length x.arcs) (p.cur + spot_unit * f)
      c.frame.home (omega (arith, spots, count)) (ap (λ (k : ℕ). k + spot_unit * f) v.cur) v.home put in
      record {
        memory = with_row s.memory 0 (length x.arcs) (p.cur + spot_unit * f) c.frame.home;
        holds = hold_arc T s.memory s.holds (length x.arcs) (p.cur + spot_unit * f) c.frame.home w' row;
        stands = stand_arc s.memory c p x s.stands f;
        views = record {
          spots = omega (arith, spots);
          alts = v.alts;
          base = v.base;
          home = v.home;
          group = v.group;
          depth = v.depth;
          cur = spots;
          start = v.start;
          end = v.end;
          bears = v.bears ∙ none_more x.bears;
          ties = v.ties ∙ none_more x.shares;
          height = v.height;
        };
        frames = s.frames;
        shallow = none_deeper depth_limit x.alts s.shallow;
      }

  -- `aN`
  pub atom_laid : (a : ℕ) (w' : List ℕ) → RowPut T.atoms at.bears (at.cur + spot_unit * a) at.home w' →
      LaidSoFar (with_atoms T w') (after_atom at) c p (x then homed c.frame.home (of_atom p.cur a))
  atom_laid a w' put =
      let v = s.views in
      let bears = v.bears in
      let more = one_more x.bears (c.frame.home, (p.cur, a)) in
      let row = row_as T.atoms at.bears (at.cur + spot_unit * a) at.home w' (length x.bears) (p.cur + spot_unit * a)
      c.frame.home bears (ap (λ (k : ℕ). k + spot_unit * a) v.cur) v.home put in
      record {
        memory = with_row s.memory 2 (length x.bears) (p.cur + spot_unit * a) c.frame.home;
        holds = hold_atom T s.memory s.holds (length x.bears) (p.cur + spot_unit * a) c.frame.home w' row;
        stands = stand_atom s.memory c p x s.stands a;
        views = record {
          spots = v.spots;
          alts = v.alts;
          base = v.base;
          home = v.home;
          group = v.group;
          depth = v.depth;
          cur = v.cur;
          start = v.start;
          end = v.end;
          bears = omega (arith, bears, more);
          ties = v.ties ∙ none_more x.shares;
          height = v.height;
        };
        frames = s.frames;
        shallow = none_deeper depth_limit x.alts s.shallow;
      }

  -- `>` after the first path
  pub tie_laid : p.first ≡ false → (e : ℕ) → at.end ≡ Some e → e ≡ p.end → (w' : List ℕ) →
      RowPut T.ties at.ties (e + spot_unit * at.cur) at.home w' →
      LaidSoFar (with_ties T w') (after_pen at at.start at.start at.end (at.ties + 1)) c
      (penned p.start p.start p.end false) (x then homed c.frame.home (of_tie [] p.end p.cur))
  tie_laid first e is same w' put =
      let v = s.views in
      let ties = v.ties in
      let more = one_more x.shares (c.frame.home, (p.end, p.cur)) in
      let row = row_as T.ties at.ties (e + spot_unit * at.cur) at.home w' (length x.shares) (p.end + spot_unit * p.cur)
      c.frame.home ties (ap₂ {C = ℕ} (λ (k l : ℕ). k + spot_unit * l) same v.cur) v.home put in
      record {
        memory = with_row s.memory 4 (length x.shares) (p.end + spot_unit * p.cur) c.frame.home;
        holds = hold_tie T s.memory s.holds (length x.shares) (p.end + spot_unit * p.cur) c.frame.home w' row;
        stands = stand_tie s.memory c p x s.stands first;
        views = record {
          spots = v.spots;
          alts = v.alts;
          base = v.base;
          home = v.home;
          group = v.group;
          depth = v.depth;
          cur = v.start;
          start = v.start;
          end = is ∙ ap Some same;
          bears = v.bears ∙ none_more x.bears;
          ties = omega (arith, ties, more);
          height = v.height;
        };
        frames = s.frames;
        shallow = none_deeper depth_limit x.alts s.shallow;
      }

  -- nothing is given, and the pen moves
  pub pen_laid : (q : Pen) (cur start : ℕ) (end : Option ℕ) → cur ≡ q.cur → start ≡ q.start → end ≡ path_end q →
      q.cur < c.spot → q.start < c.spot → q.end < c.spot → LaidSoFar T (after_pen at cur start end at.ties) c q x
  pen_laid q cur start end a b d f g h =
      let v = s.views in
      record {
        memory = s.memory;
        holds = s.holds;
        stands = stand_moved s.memory c p x s.stands q f g h;
        views = record {
          spots = v.spots;
          alts = v.alts;
          base = v.base;
          home = v.home;
          group = v.group;
          depth = v.depth;
          cur = a;
          start = b;
          end = d;
          bears = v.bears;
          ties = v.ties;
          height = v.height;
        };
        frames = s.frames;
        shallow = s.shallow;
      }

  -- `(`
  pub open_laid : (w' : List ℕ) → FourPut T.frames at.height at.base at.home at.group at.depth w' →
      LaidSoFar (with_frames T w') (after_opening at)
      (cored c.spot c.alt (framed p.cur c.frame.home c.frame.group c.frame.depth) (c.frame ∷ c.around)) p x
  open_laid w' put =
      let v = s.views in
      let height = v.height in
      let frame : FourPut T.frames (length c.around) c.frame.base c.frame.home c.frame.group c.frame.depth w' =
      four_as v.height v.base v.home v.group v.depth put in
      record {
        memory = with_frame s.memory (length c.around) c.frame;
        holds = hold_frame T s.memory s.holds (length c.around) c.frame w' frame;
        stands = stand_open s.memory c p x s.stands (framed p.cur c.frame.home c.frame.group c.frame.depth)
            s.stands.cur s.stands.home;
        views = record {
          spots = v.spots;
          alts = v.alts;
          base = v.cur;
          home = v.home;
          group = v.group;
          depth = v.depth;
          cur = v.cur;
          start = v.start;
          end = v.end;
          bears = v.bears;
          ties = v.ties;
          height = omega (arith, height);
        };
        frames = (s.frames.0, s.frames);
        shallow = s.shallow;
      }
    where
      four_as : {i i' a a' b b' d d' e e' : ℕ} → i ≡ i' → a ≡ a' → b ≡ b' → d ≡ d' → e ≡ e' → FourPut T.frames i a b d e w' →
          FourPut T.frames i' a' b' d' e' w'
      four_as {i} {i'} {a} {a'} {b} {b'} {d} {d'} {e} {e'} h k l m n q =
          subst (λ (z : ℕ). FourPut T.frames z a' b' d' e' w') h
          (subst (λ (z : ℕ). FourPut T.frames i z b' d' e' w') k
          (subst (λ (z : ℕ). FourPut T.frames i a z d' e' w') l
          (subst (λ (z : ℕ). FourPut T.frames i a b z e' w') m (subst (λ (z : ℕ). FourPut T.frames i a b d z w') n q))))

  -- an alternative of o begins at the spot t, beside g, and the conjunction goes on in it at the spot b
  pub begun_laid : (o g t d b cur : ℕ) (q : Pen) (w' : List ℕ) → o < c.alt → b ≡ c.frame.base → d ≤ depth_limit →
      AlternativePut T.alts at.alts o g t w' → q.cur < c.spot → cur ≡ q.cur → at.start ≡ q.start → at.end ≡ path_end q →
      q.end ≡ p.end → (n : ℕ) → n ≡ d → (l : ℕ) → l ≡ g →
      LaidSoFar (with_alts T w') (after_frame at (at.alts + 1) at.base at.alts l n cur at.height)
      (cored c.spot (suc c.alt) (framed b c.alt g d) c.around) q (x then begins o g t d)
  begun_laid o g t d b cur q w' low base deep put qcur ecur estart eend same n en l el =
      let v = s.views in
      let alts = v.alts in
      let stands = s.stands in
      let qstart = s.stands.start in
      let qend = s.stands.end in
      let vstart = v.start in
      let a : Alt = record { owner = o; group = g; spot = t; depth = d } in
      let new = subst (λ (k : ℕ). AlternativePut T.alts k o g t w') alts put in
      let bound = stands.base in
      let begun = stand_begun s.memory c p x stands o g t d b low (omega (arith, base, bound)) in
      record {
        memory = with_alternative s.memory c.alt o g t;
        holds = hold_alternative T s.memory s.holds c.alt o g t w' new;
        stands = stand_moved (with_alternative s.memory c.alt o g t)
            (cored c.spot (suc c.alt) (framed b c.alt g d) c.around) p (x then begins o g t d) begun q qcur
            (omega (arith, qstart, vstart, estart)) (omega (arith, qend, same));
        views = record {
          spots = v.spots;
          alts = omega (arith, alts);
          base = v.base ∙ sym base;
          home = alts;
          group = el;
          depth = en;
          cur = ecur;
          start = estart;
          end = eend;
          bears = v.bears ∙ none_more x.bears;
          ties = v.ties ∙ none_more x.shares;
          height = v.height;
        };
        frames = (deep, s.frames.1);
        shallow = shallow_both depth_limit x.alts (a ∷ []) s.shallow (deep, tt);
      }

-- what stood open last, as it is stored
pub record OuterRead (w : List ℕ) (at : At) (h : ℕ) (fs : List OpenFrame) : Type 0 where
  pub base : (closed_to w at h).base ≡ (outer fs).base
  pub home : (closed_to w at h).home ≡ (outer fs).home
  pub group : (closed_to w at h).group ≡ (outer fs).group
  pub depth : (closed_to w at h).depth ≡ (outer fs).depth
  pub cur : (closed_to w at h).cur ≡ (outer fs).base
  pub height : (closed_to w at h).height ≡ length (further_out fs)
  pub owner : owner_of w h ≡ (outer fs).home
  pub same : ((closed_to w at h).spots ≡ at.spots) × ((closed_to w at h).alts ≡ at.alts) × ((closed_to w at h).start ≡ at.start)
      × ((closed_to w at h).end ≡ at.end) × ((closed_to w at h).bears ≡ at.bears)
      × ((closed_to w at h).ties ≡ at.ties)

outer_read : (T : Tabs) (M : Memory) (at : At) (h : ℕ) (fs : List OpenFrame) → Hold T M → FramesStand (M 10) (M 11) (M 12) (M 13) fs →
    h ≡ length fs → OuterRead T.frames at h fs
outer_read T M at h [] e f l =
    subst (λ (k : ℕ). OuterRead T.frames at k []) (sym l)
    (record {
      base = refl;
      home = refl;
      group = refl;
      depth = refl;
      cur = refl;
      height = refl;
      owner = refl;
      same = (refl, refl, refl, refl, refl, refl);
    })
outer_read T M at h (g ∷ gs) e f l =
    subst (λ (k : ℕ). OuterRead T.frames at k (g ∷ gs)) (sym l)
    (record {
      base = e.bases (length gs) ∙ f.0;
      home = e.homes (length gs) ∙ f.1;
      group = e.open_groups (length gs) ∙ f.2;
      depth = e.depths (length gs) ∙ f.3;
      cur = e.bases (length gs) ∙ f.0;
      height = refl;
      owner = e.homes (length gs) ∙ f.1;
      same = (refl, refl, refl, refl, refl, refl);
    })

module _ (T : Tabs) (at : At) (c : Core) (p : Pen) (x : Out) (s : LaidSoFar T at c p x) where
  pub outer_is : OuterRead T.frames at at.height c.around
  outer_is = outer_read T s.memory at at.height c.around s.holds s.stands.frames s.views.height
