-- The state after each sign, by what it was.
-- Assumes nothing: these are definitions.
use Rattle.std.specs.Prelude.{ℕ, zero, suc, ◌+◌, ◌*◌, ◌<◌, ◌≤◌, ◌≡◌, ◌≢◌, List, eqb, length, get_or, Option, Some, None}
use Rattle.theory.specs.Limits.{depth_limit}
use Rattle.signs.specs.Machine.{if_so}
use Rattle.rows.specs.Laid.{spot_unit}
use Rattle.laying.specs.Table.{RowPut, FourPut, AlternativePut}
use Rattle.laying.specs.declared.sign.At.{At}

-- `fN`
abbrev pub after_arc : At → At
after_arc at = record {
  spots = at.spots + 1;
  alts = at.alts;
  base = at.base;
  home = at.home;
  group = at.group;
  depth = at.depth;
  cur = at.spots;
  start = at.start;
  end = at.end;
  bears = at.bears;
  ties = at.ties;
  height = at.height;
}

-- `aN`
abbrev pub after_atom : At → At
after_atom at = record {
  spots = at.spots;
  alts = at.alts;
  base = at.base;
  home = at.home;
  group = at.group;
  depth = at.depth;
  cur = at.cur;
  start = at.start;
  end = at.end;
  bears = at.bears + 1;
  ties = at.ties;
  height = at.height;
}

-- a pen that moved: the present spot, where shared paths begin, and where they end, if the first has ended; and the rows of ties
abbrev pub after_pen : At → ℕ → ℕ → Option ℕ → ℕ → At
after_pen at cur start end ties = record {
  spots = at.spots;
  alts = at.alts;
  base = at.base;
  home = at.home;
  group = at.group;
  depth = at.depth;
  cur = cur;
  start = start;
  end = end;
  bears = at.bears;
  ties = ties;
  height = at.height;
}

-- `>`: the first path's end is kept, each other is tied to it
pub record Shares (w : List ℕ) (at r : At) (w' : List ℕ) : Type 0 where
  pub kept : at.end ≡ None → (r ≡ after_pen at at.start at.start (Some at.cur) at.ties) × (w' ≡ w)
  pub tied : (e : ℕ) → at.end ≡ Some e → (r ≡ after_pen at at.start at.start at.end (at.ties + 1))
      × RowPut w at.ties (e + spot_unit * at.cur) at.home w'

-- a frame: what is open, and the conjunction
abbrev pub after_frame : At → ℕ → ℕ → ℕ → ℕ → ℕ → ℕ → ℕ → At
after_frame at alts base home group depth cur height = record {
  spots = at.spots;
  alts = alts;
  base = base;
  home = home;
  group = group;
  depth = depth;
  cur = cur;
  start = at.start;
  end = at.end;
  bears = at.bears;
  ties = at.ties;
  height = height;
}

-- `(`
abbrev pub after_opening : At → At
after_opening at = after_frame at at.alts at.cur at.home at.group at.depth at.cur (at.height + 1)

-- and the first alternative of its group
abbrev pub after_deeper : At → At
after_deeper at = after_frame at (at.alts + 1) at.base at.alts at.alts (at.depth + 1) at.cur at.height

-- `)`: what stood open last goes on
abbrev pub closed_to : List ℕ → At → ℕ → At
closed_to w at zero = after_frame at at.alts 0 0 0 0 0 0
closed_to w at (suc i) =
    after_frame at at.alts (get_or w (4 * i) 0) (get_or w (4 * i + 1) 0) (get_or w (4 * i + 2) 0) (get_or w (4 * i + 3) 0)
    (get_or w (4 * i) 0) i

abbrev pub after_close : List ℕ → At → At
after_close w at = closed_to w at at.height

-- the alternative that all this stands in
abbrev pub owner_of : List ℕ → ℕ → ℕ
owner_of w zero = 0
owner_of w (suc i) = get_or w (4 * i + 1) 0

-- `|`
abbrev pub after_beside : At → At
after_beside at = after_frame at (at.alts + 1) at.base at.alts at.group at.depth at.base at.height

-- there is room for the first alternative of a group
pub record GroupOpening (ks : List ℕ) (at : At) (flag : ℕ) : Type 0 where
  pub few : flag ≡ 1 → at.alts < spot_unit
  pub room : flag ≡ 1 → 4 * at.alts + 3 < length ks
  pub owner : flag ≡ 1 → 4 * at.home + 3 < length ks

-- `(`: of a group without alternatives, of one that is nested too deep, and of any other
pub record GroupOpens (ks fs : List ℕ) (at : At) (flag : ℕ) (r : Option At) (ks' fs' : List ℕ) : Type 0 where
  pub frame : FourPut fs at.height at.base at.home at.group at.depth fs'
  pub plain : flag ≢ 1 → (r ≡ Some (after_opening at)) × (ks' ≡ ks)
  pub deep : flag ≡ 1 → depth_limit ≤ at.depth → r ≡ None
  pub begun : flag ≡ 1 → at.depth < depth_limit → (r ≡ Some (after_deeper (after_opening at)))
      × AlternativePut ks at.alts at.home at.alts at.cur ks'

-- `[` begins shared paths, `&` goes back to the conjunction's spot, other signs do nothing
abbrev pub after_moving : ℕ → At → At
after_moving k at = if_so (eqb k 91) (after_pen at at.cur at.cur None at.ties)
    (if_so (eqb k 38) (after_pen at at.base at.start at.end at.ties) at)
