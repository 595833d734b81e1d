-- A sign comes, there is room for what it gives, and it is gone through.
-- Assumes nothing.
use Prim.Native.Nat.{ℕ, suc, ◌+◌, ◌*◌, ◌-◌, ◌<◌, ◌≤◌}
use mathlib.Core.Path.{◌≡◌, refl, sym, ap, subst, ◌∙◌}
use mathlib.Core.Logic.{◌≢◌}
use mathlib.Core.Bool.{Bool, true, false}
use mathlib.Core.List.{List, [], ◌∷◌}
use native.Mathlib.Omega.{arith}
use lib.ListN.{length, length-append}
use lib.Dec.{eqb, ltb}
use borrow.Author.Tests.{eq-eqb, ne_eqb, eqb-true, eqb-false, ltb-true, ltb-false}
use Rattle.theory.specs.Limits.{depth_limit}
use Rattle.formulas.specs.Sheet.{of_atom, of_tie}
use Rattle.signs.specs.Machine.{if_so}
use Rattle.rows.specs.Tokens.{Token}
use Rattle.rows.specs.Machine.{ShallowAlts, Out, no_rows, ◌then◌, homed, begins, OpenFrame, framed, Core, cored, Pen, penned, outer}
use Rattle.rows.specs.Machine.{sign_gives, sign_moves, sign_turns}
use Rattle.rows.specs.Memory.{row_limit}
use Rattle.rows.specs.Laid.{spot_unit}
use Rattle.rows.specs.Standing.{FramesInside}
use Rattle.rows.proofs.Depth.{shallow_right}
use Rattle.rows.proofs.Given.{then_nothing, then_assoc}
use Rattle.laying.specs.Table.{RowPut, FourPut, AlternativePut}
use Rattle.laying.specs.Step.{after_arc, after_atom, after_pen, Shares, after_opening, after_deeper, owner_of, after_beside}
use Rattle.laying.specs.Step.{GroupOpening, GroupOpens, after_moving}
use Rattle.laying.specs.Laying.{Tabs, path_end, LaidSoFar, SignComing, SignPassed}
use Rattle.laying.specs.declared.sign.At.{At}
use Rattle.std.specs.Prelude.{Option, Some, None}
use Rattle.std.proofs.lemmas.Option.{same_Some}
use Rattle.laying.proofs.States.{if_is, if_not}
use Rattle.laying.proofs.Held.{with_arcs, with_atoms, with_ties, with_alts, with_frames}
use Rattle.laying.proofs.Signs.{arc_laid, atom_laid, tie_laid, pen_laid, open_laid, begun_laid, outer_is}

-- nothing was given
none_given : (T : Tabs) (at : At) (c : Core) (p : Pen) (x : Out) → LaidSoFar T at c p x → LaidSoFar T at c p (x then no_rows)
none_given T at c p x s = subst (LaidSoFar T at c p) (sym (then_nothing x)) s

-- the first shared path is still to end, or it has ended there
no_end : (p : Pen) → None ≡ path_end p → true ≡ p.first
no_end p q = go p.first q where
  go : (b : Bool) → None ≡ if_so b None (Some p.end) → true ≡ b
  go true q = refl
  go false q = let z : ◌≡◌ {A = ℕ} 0 1 = cc in absurd (omega arith)

an_end : (e : ℕ) (p : Pen) → Some e ≡ path_end p → (false ≡ p.first) × (e ≡ p.end)
an_end e p q = go p.first q where
  go : (b : Bool) → Some e ≡ if_so b None (Some p.end) → (false ≡ b) × (e ≡ p.end)
  go true q = let z : ◌≡◌ {A = ℕ} 0 1 = cc in absurd (omega arith)
  go false q = (refl, same_Some _ _ q)

-- a state by another name
next_as : (T : Tabs) (at : At) (t : Token) (T' : Tabs) (next r : At) → r ≡ next → SignPassed T at t (Some next) T' → SignPassed T at t (Some r) T'
next_as T at t T' next r e p = subst (λ (y : At). SignPassed T at t (Some y) T') (sym e) p

-- the alternative that all this stands in is an earlier one
owner_low : (fs : List OpenFrame) (n k : ℕ) → 0 < k → FramesInside n k fs → (outer fs).home < k
owner_low [] n k l p = l
owner_low (f ∷ fs) n k l p = p.1

module _ (T : Tabs) (at : At) where
  -- ---- `fN`
  pub arc_passed : (k f : ℕ) (w' : List ℕ) (r : At) → k ≡ 102 → r ≡ after_arc at →
      RowPut T.arcs (at.spots - 1) (at.cur + spot_unit * f) at.home w' → SignPassed T at (k, f) (Some r) (with_arcs T w')
  arc_passed k f w' r e q put =
      next_as T at (k, f) (with_arcs T w') (after_arc at) r q
      (subst (λ (n : ℕ). SignPassed T at (n, f) (Some (after_arc at)) (with_arcs T w')) (sym e)
      (λ c. arc_laid T at c.core c.pen c.done c.so_far f w' put))

  -- ---- `aN`
  pub atom_passed : (k a : ℕ) (w' : List ℕ) (r : At) → k ≡ 97 → r ≡ after_atom at →
      RowPut T.atoms at.bears (at.cur + spot_unit * a) at.home w' → SignPassed T at (k, a) (Some r) (with_atoms T w')
  atom_passed k a w' r e q put =
      next_as T at (k, a) (with_atoms T w') (after_atom at) r q
      (subst (λ (n : ℕ). SignPassed T at (n, a) (Some (after_atom at)) (with_atoms T w')) (sym e)
      (λ c. atom_laid T at c.core c.pen c.done c.so_far a w' put))

  -- ---- `TOP`: two atoms
  pub top_passed : (k n : ℕ) (one r : At) (w w' : List ℕ) → k ≡ 80 → one ≡ after_atom at → r ≡ after_atom one →
      RowPut T.atoms at.bears (at.cur + spot_unit * 0) at.home w →
      RowPut w one.bears (one.cur + spot_unit * 1) one.home w' → SignPassed T at (k, n) (Some r) (with_atoms T w')
  top_passed k n one r w w' e q q' put put' =
      next_as T at (k, n) (with_atoms T w') (after_atom (after_atom at)) r (q' ∙ ap after_atom q)
      (subst (λ (m : ℕ). SignPassed T at (m, n) (Some (after_atom (after_atom at))) (with_atoms T w')) (sym e)
      (λ c.
      let core = c.core in
      let pen = c.pen in
      let A = homed core.frame.home (of_atom pen.cur 0) in
      let B = homed core.frame.home (of_atom pen.cur 1) in
      let second = subst (λ (y : At). RowPut w y.bears (y.cur + spot_unit * 1) y.home w') q put' in
      let first = atom_laid T at core pen c.done c.so_far 0 w put in
      let both = atom_laid (with_atoms T w) (after_atom at) core pen (c.done then A) first 1 w' second in
      subst (LaidSoFar (with_atoms T w') (after_atom (after_atom at)) core pen) (then_assoc c.done A B) both))

  -- ---- `>`
  pub share_passed : (k n : ℕ) (r : At) (w' : List ℕ) → k ≡ 62 → Shares T.ties at r w' → SignPassed T at (k, n) (Some r) (with_ties T w')
  share_passed k n r w' e h = go at.end refl where
    go : (b : Option ℕ) → at.end ≡ b → SignPassed T at (k, n) (Some r) (with_ties T w')
    go None f =
        let (q, w) = h.kept f in
        next_as T at (k, n) (with_ties T w') (after_pen at at.start at.start (Some at.cur) at.ties) r q
        (subst (λ (l : List ℕ). SignPassed T at (k, n) (Some (after_pen at at.start at.start (Some at.cur) at.ties)) (with_ties T l))
        (sym w)
        (subst (λ (m : ℕ). SignPassed T at (m, n) (Some (after_pen at at.start at.start (Some at.cur) at.ties)) T) (sym e)
        (λ c.
        let core = c.core in
        let pen = c.pen in
        let s = c.so_far in
        let v = s.views in
        let first = no_end pen (sym f ∙ v.end) in
        let laid = pen_laid T at core pen c.done s (penned pen.start pen.start pen.cur false) at.start at.start (Some at.cur)
        v.start v.start (ap Some v.cur) s.stands.start s.stands.start s.stands.cur in
        let tie = homed core.frame.home (of_tie [] pen.end pen.cur) in
        subst (λ (b : Bool). LaidSoFar T (after_pen at at.start at.start (Some at.cur) at.ties) core
        (penned pen.start pen.start (if_so b pen.cur pen.end) false) (c.done then if_so b no_rows tie)) first
        (none_given T (after_pen at at.start at.start (Some at.cur) at.ties) core
        (penned pen.start pen.start pen.cur false) c.done laid))))
    go (Some end) f =
        let (q, put) = h.tied end f in
        let next = after_pen at at.start at.start at.end (at.ties + 1) in
        next_as T at (k, n) (with_ties T w') next r q
        (subst (λ (m : ℕ). SignPassed T at (m, n) (Some next) (with_ties T w')) (sym e)
        (λ c.
        let core = c.core in
        let pen = c.pen in
        let known = an_end end pen (sym f ∙ c.so_far.views.end) in
        let tie = homed core.frame.home (of_tie [] pen.end pen.cur) in
        subst (λ (b : Bool). LaidSoFar (with_ties T w') next core
        (penned pen.start pen.start (if_so b pen.cur pen.end) false) (c.done then if_so b no_rows tie)) known.0
        (tie_laid T at core pen c.done c.so_far (sym known.0) end f known.1 w' put)))

  -- ---- `(`
  pub open_asks : (k n : ℕ) → k ≡ 40 → SignComing T at (k, n) →
      ((at.height < row_limit) × (4 * at.height + 3 < length T.frames)) × GroupOpening T.alts at n
  open_asks k n e c₀ =
      let c = subst (λ (m : ℕ). SignComing T at (m, n)) e c₀ in
      let height = c.so_far.views.height in
      let high = c.high in
      let frames = c.room.frames in
      let alts = c.so_far.views.alts in
      let home = c.so_far.views.home in
      let count = c.so_far.stands.alts in
      let low = c.so_far.stands.home in
      let room = c.room.alts in
      let few : n ≡ 1 → at.alts < spot_unit = λ f.
      let few_alts = c.few.alts in
      let one : sign_gives (40, n) c.core c.pen ≡ begins c.core.frame.home c.core.alt c.pen.cur
      (suc c.core.frame.depth) = if_is n 1 _ _ f in
      let long = length-append c.done.alts (sign_gives (40, n) c.core c.pen).alts in
      let one-long = ap (λ (y : Out). length y.alts) one in
      omega (arith, few_alts, long, one-long, alts, count) in (
        (omega (arith, height, high), omega (arith, height, high, frames)),
        record {
          few = few;
          room = λ f. let l = few f in omega (arith, l, room);
          owner = λ f. let l = few f in omega (arith, l, room, home, low, alts);
        },
      )

  -- a group without alternatives
  open_plain : (n : ℕ) (w' : List ℕ) → n ≢ 1 → FourPut T.frames at.height at.base at.home at.group at.depth w' →
      SignPassed T at (40, n) (Some (after_opening at)) (with_frames T w')
  open_plain n w' d put c =
      let core = c.core in
      let pen = c.pen in
      let f = core.frame in
      let k = core.alt in
      let deeper = cored core.spot (suc k) (framed pen.cur k k (suc f.depth)) (f ∷ core.around) in
      let same = cored core.spot k (framed pen.cur f.home f.group f.depth) (f ∷ core.around) in
      let begun = begins f.home k pen.cur (suc f.depth) in
      let laid = open_laid T at core pen c.done c.so_far w' put in
      subst (λ (b : Bool). LaidSoFar (with_frames T w') (after_opening at) (if_so b deeper same) pen (c.done then if_so b begun no_rows))
      (sym (ne_eqb n 1 d)) (none_given (with_frames T w') (after_opening at) same pen c.done laid)

  -- a group whose alternatives are nested too deep
  open_deep : (n : ℕ) (T' : Tabs) → n ≡ 1 → depth_limit ≤ at.depth → SignPassed T at (40, n) None T'
  open_deep n T' e l c shallow =
      let core = c.core in
      let begun = begins core.frame.home core.alt c.pen.cur (suc core.frame.depth) in
      let given = subst (λ (b : Bool). ShallowAlts depth_limit (c.done then if_so b begun no_rows).alts) (eq-eqb n 1 e) shallow in
      let low = (shallow_right depth_limit c.done.alts begun.alts given).0 in
      let depth = c.so_far.views.depth in
      omega (arith, low, depth, l)

  -- a group whose first alternative begins
  open_begun : (n : ℕ) (ks' fs' : List ℕ) → n ≡ 1 → at.depth < depth_limit →
      FourPut T.frames at.height at.base at.home at.group at.depth fs' →
      AlternativePut T.alts at.alts at.home at.alts at.cur ks' →
      SignPassed T at (40, n) (Some (after_deeper (after_opening at))) (with_alts (with_frames T fs') ks')
  open_begun n ks' fs' e l put alt c =
      let core = c.core in
      let pen = c.pen in
      let f = core.frame in
      let k = core.alt in
      let s = c.so_far in
      let v = s.views in
      let depth = v.depth in
      let deeper = cored core.spot (suc k) (framed pen.cur k k (suc f.depth)) (f ∷ core.around) in
      let same = cored core.spot k (framed pen.cur f.home f.group f.depth) (f ∷ core.around) in
      let begun = begins f.home k pen.cur (suc f.depth) in
      let new : AlternativePut T.alts at.alts f.home k pen.cur ks' =
      subst (λ (z : ℕ). AlternativePut T.alts at.alts z k pen.cur ks') v.home
      (subst (λ (z : ℕ). AlternativePut T.alts at.alts at.home z pen.cur ks') v.alts
      (subst (λ (z : ℕ). AlternativePut T.alts at.alts at.home at.alts z ks') v.cur alt)) in
      let laid = open_laid T at core pen c.done s fs' put in
      let all = begun_laid (with_frames T fs') (after_opening at) same pen c.done laid f.home k pen.cur (suc f.depth) pen.cur
      at.cur pen ks' s.stands.home refl (omega (arith, depth, l)) new s.stands.cur v.cur v.start v.end refl
      (at.depth + 1) (omega (arith, depth)) at.alts v.alts in
      subst (λ (b : Bool). LaidSoFar (with_alts (with_frames T fs') ks') (after_deeper (after_opening at)) (if_so b deeper same) pen
      (c.done then if_so b begun no_rows))
      (sym (eq-eqb n 1 e)) all

  pub open_passed : (k n : ℕ) (r : Option At) (ks' fs' : List ℕ) → k ≡ 40 → GroupOpens T.alts T.frames at n r ks' fs' →
      SignPassed T at (k, n) r (with_alts (with_frames T fs') ks')
  open_passed k n r ks' fs' e o =
      subst (λ (m : ℕ). SignPassed T at (m, n) r (with_alts (with_frames T fs') ks')) (sym e) (by_flag (eqb n 1) refl)
    where
      by_depth : n ≡ 1 → (b : Bool) → ltb at.depth depth_limit ≡ b → SignPassed T at (40, n) r (with_alts (with_frames T fs') ks')
      by_depth f true l =
          let less = ltb-true at.depth depth_limit l in
          let (q, alt) = o.begun f less in
          subst (λ (y : Option At). SignPassed T at (40, n) y (with_alts (with_frames T fs') ks')) (sym q)
          (open_begun n ks' fs' f less o.frame alt)
      by_depth f false l =
          let most = ltb-false at.depth depth_limit l in
          subst (λ (y : Option At). SignPassed T at (40, n) y (with_alts (with_frames T fs') ks')) (sym (o.deep f (omega (arith, most))))
          (open_deep n (with_alts (with_frames T fs') ks') f (omega (arith, most)))

      by_flag : (b : Bool) → eqb n 1 ≡ b → SignPassed T at (40, n) r (with_alts (with_frames T fs') ks')
      by_flag true f = by_depth (eqb-true n 1 f) (ltb at.depth depth_limit) refl
      by_flag false f =
          let d = eqb-false n 1 f in
          let (q, w) = o.plain d in
          subst (λ (y : Option At). SignPassed T at (40, n) y (with_alts (with_frames T fs') ks')) (sym q)
          (subst (λ (l : List ℕ). SignPassed T at (40, n) (Some (after_opening at)) (with_alts (with_frames T fs') l)) (sym w)
          (open_plain n fs' d o.frame))

  -- ---- `|`
  -- what is begun stands in the alternative that all this stands in
  pub beside_passed : (k n of : ℕ) (r : At) (w' : List ℕ) → k ≡ 124 → of ≡ owner_of T.frames at.height → r ≡ after_beside at →
      AlternativePut T.alts at.alts of at.group at.base w' → SignPassed T at (k, n) (Some r) (with_alts T w')
  beside_passed k n of r w' e o q put =
      next_as T at (k, n) (with_alts T w') (after_beside at) r q
      (subst (λ (m : ℕ). SignPassed T at (m, n) (Some (after_beside at)) (with_alts T w')) (sym e)
      (λ c.
      let core = c.core in
      let pen = c.pen in
      let f = core.frame in
      let s = c.so_far in
      let v = s.views in
      let count = s.stands.alts in
      let owner = o ∙ (outer_is T at core pen c.done s).owner in
      let low = owner_low core.around core.spot core.alt (omega (arith, count)) s.stands.around in
      let new : AlternativePut T.alts at.alts (outer core.around).home f.group f.base w' =
      subst (λ (z : ℕ). AlternativePut T.alts at.alts z f.group f.base w') owner
      (subst (λ (z : ℕ). AlternativePut T.alts at.alts of z f.base w') v.group
      (subst (λ (z : ℕ). AlternativePut T.alts at.alts of at.group z w') v.base put)) in
      begun_laid T at core pen c.done s (outer core.around).home f.group f.base f.depth f.base at.base
      (penned f.base pen.start pen.end pen.first) w' low refl s.frames.0 new s.stands.base v.base v.start
      v.end refl at.depth v.depth at.group v.group))

  -- ---- `[`, `&`, and the signs that do nothing
  pub moved_passed : (k n : ℕ) (r : At) → k ≢ 102 → k ≢ 97 → k ≢ 80 → k ≢ 62 → k ≢ 40 → k ≢ 41 → k ≢ 124 → r ≡ after_moving k at →
      SignPassed T at (k, n) (Some r) T
  moved_passed k n r d₁ d₂ d₃ d₄ d₅ d₆ d₇ q =
      next_as T at (k, n) T (after_moving k at) r q
      (λ c.
      let core = c.core in
      let pen = c.pen in
      let f = core.frame in
      let s = c.so_far in
      let v = s.views in
      let gives : no_rows ≡ sign_gives (k, n) core pen =
      sym (if_not k 102 _ _ d₁ ∙ if_not k 97 _ _ d₂ ∙ if_not k 80 _ _ d₃ ∙ if_not k 62 _ _ d₄ ∙ if_not k 40 _ _ d₅ ∙ if_not k 124 _ _ d₇) in
      let moves : core ≡ sign_moves (k, n) core pen =
      sym (if_not k 102 _ _ d₁ ∙ if_not k 40 _ _ d₅ ∙ if_not k 41 _ _ d₆ ∙ if_not k 124 _ _ d₇) in
      let begins-paths = penned pen.cur pen.cur pen.end true in
      let goes_Back = penned f.base pen.start pen.end pen.first in
      let turns : if_so (eqb k 91) begins-paths (if_so (eqb k 38) goes_Back pen) ≡ sign_turns (k, n) core pen =
      sym (if_not k 102 _ _ d₁ ∙ ap (λ (z : Pen). if_so (eqb k 91) begins-paths z)
      (if_not k 62 _ _ d₄ ∙ if_not k 41 _ _ d₆ ∙ if_not k 124 _ _ d₇)) in
      let laid : LaidSoFar T (after_moving k at) core (if_so (eqb k 91) begins-paths (if_so (eqb k 38) goes_Back pen)) c.done =
      by_kind (eqb k 91) (eqb k 38) core pen c.done s in
      subst (λ (y : Core). LaidSoFar T (after_moving k at) y (sign_turns (k, n) core pen) (c.done then sign_gives (k, n) core pen)) moves
      (subst (λ (y : Pen). LaidSoFar T (after_moving k at) core y (c.done then sign_gives (k, n) core pen)) turns
      (subst (λ (y : Out). LaidSoFar T (after_moving k at) core (if_so (eqb k 91) begins-paths (if_so (eqb k 38) goes_Back pen))
      (c.done then y)) gives
      (none_given T (after_moving k at) core (if_so (eqb k 91) begins-paths (if_so (eqb k 38) goes_Back pen)) c.done laid))))
    where
      by_kind : (a b : Bool) (core : Core) (pen : Pen) (x : Out) → LaidSoFar T at core pen x →
          LaidSoFar T (if_so a (after_pen at at.cur at.cur None at.ties) (if_so b (after_pen at at.base at.start at.end at.ties) at)) core
          (if_so a (penned pen.cur pen.cur pen.end true)
          (if_so b (penned core.frame.base pen.start pen.end pen.first) pen)) x
      by_kind true b core pen x s =
          let v = s.views in
          pen_laid T at core pen x s (penned pen.cur pen.cur pen.end true) at.cur at.cur None v.cur v.cur refl
          s.stands.cur s.stands.cur s.stands.end
      by_kind false true core pen x s =
          let v = s.views in
          pen_laid T at core pen x s (penned core.frame.base pen.start pen.end pen.first) at.base at.start at.end
          v.base v.start v.end s.stands.base s.stands.start s.stands.end
      by_kind false false core pen x s = s
