-- The machine that goes over the signs from the first to the last: what each gives, and what stands open.
-- Assumes nothing: these are definitions.
use Rattle.std.specs.Prelude.{ℕ, suc, ◌≤◌, Bool, true, false, List, [], ◌∷◌, ◌++◌, eqb}
use Rattle.theory.specs.Join.{Edge}
use Rattle.formulas.specs.Sheet.{Sheet, ◌plus◌, of_edges, of_atom, of_tie}
use Rattle.formulas.specs.Flat.{Item}
use Rattle.signs.specs.Machine.{if_so}
use Rattle.rows.specs.Tokens.{Token}

-- an alternative: the one that it stands in, the first one beside it, its spot, how deep it is nested
pub record Alt : Type 0 where
  pub owner : ℕ
  pub group : ℕ
  pub spot : ℕ
  pub depth : ℕ

-- none is nested deeper than m
abbrev pub ShallowAlts : ℕ → List Alt → Type 0
ShallowAlts m [] = Unit {0}
ShallowAlts m (a ∷ A) = (a.depth ≤ m) × ShallowAlts m A

-- rows with the number of their alternative, and alternatives
pub record Out : Type 0 where
  pub arcs : List (ℕ × Edge)
  pub bears : List (ℕ × (ℕ × ℕ))
  pub shares : List (ℕ × (ℕ × ℕ))
  pub alts : List Alt

abbrev pub no_rows : Out
no_rows = record { arcs = []; bears = []; shares = []; alts = [] }

infixr 5 ◌then◌
abbrev pub ◌then◌ : Out → Out → Out
x then y = record { arcs = x.arcs ++ y.arcs; bears = x.bears ++ y.bears; shares = x.shares ++ y.shares; alts = x.alts ++ y.alts }

abbrev pub in_home : {A : Type 0} → ℕ → List A → List (ℕ × A)
in_home h [] = []
in_home h (x ∷ l) = (h, x) ∷ in_home h l

-- a sheet's rows, in the alternative h
abbrev pub homed : ℕ → Sheet → Out
homed h A = record { arcs = in_home h A.edges; bears = in_home h A.atoms; shares = in_home h A.ties; alts = [] }

abbrev pub begins : ℕ → ℕ → ℕ → ℕ → Out
begins o g s d = record { arcs = []; bears = []; shares = []; alts = record { owner = o; group = g; spot = s; depth = d } ∷ [] }

-- the rows of all items
abbrev pub rows_of : List Item → Out
rows_of [] = no_rows
rows_of (x ∷ l) = homed x.0 x.1 then rows_of l

-- the spot of a conjunction, the alternative that it stands in, the first one beside that, how deep that is nested
pub record OpenFrame : Type 0 where
  pub base : ℕ
  pub home : ℕ
  pub group : ℕ
  pub depth : ℕ

abbrev pub framed : ℕ → ℕ → ℕ → ℕ → OpenFrame
framed b h g d = record { base = b; home = h; group = g; depth = d }

-- the next spot and the next alternative, the conjunction and those that it stands in
pub record Core : Type 0 where
  pub spot : ℕ
  pub alt : ℕ
  pub frame : OpenFrame
  pub around : List OpenFrame

abbrev pub cored : ℕ → ℕ → OpenFrame → List OpenFrame → Core
cored n k f fs = record { spot = n; alt = k; frame = f; around = fs }

-- the present spot; of shared paths where they begin, where they end, and whether the first is still to end
pub record Pen : Type 0 where
  pub cur : ℕ
  pub start : ℕ
  pub end : ℕ
  pub first : Bool

abbrev pub penned : ℕ → ℕ → ℕ → Bool → Pen
penned c u e b = record { cur = c; start = u; end = e; first = b }

abbrev pub outer : List OpenFrame → OpenFrame
outer [] = framed 0 0 0 0
outer (f ∷ fs) = f

abbrev pub further_out : List OpenFrame → List OpenFrame
further_out [] = []
further_out (f ∷ fs) = fs

-- what a sign gives
abbrev pub sign_gives : Token → Core → Pen → Out
sign_gives t c p =
    let h = c.frame.home in
    let d = c.frame.depth in
    if_so (eqb t.0 102) (homed h (of_edges ((p.cur, t.1, c.spot) ∷ [])))
    (if_so (eqb t.0 97) (homed h (of_atom p.cur t.1))
    (if_so (eqb t.0 80) (homed h (of_atom p.cur 0 plus of_atom p.cur 1))
    (if_so (eqb t.0 62) (if_so p.first no_rows (homed h (of_tie [] p.end p.cur)))
    (if_so (eqb t.0 40) (if_so (eqb t.1 1) (begins h c.alt p.cur (suc d)) no_rows)
    (if_so (eqb t.0 124) (begins (outer c.around).home c.frame.group c.frame.base d) no_rows)))))

-- what stands open after it
abbrev pub sign_moves : Token → Core → Pen → Core
sign_moves t c p =
    let n = c.spot in
    let k = c.alt in
    let f = c.frame in
    let deeper = cored n (suc k) (framed p.cur k k (suc f.depth)) (f ∷ c.around) in
    let same = cored n k (framed p.cur f.home f.group f.depth) (f ∷ c.around) in
    if_so (eqb t.0 102) (cored (suc n) k f c.around)
    (if_so (eqb t.0 40) (if_so (eqb t.1 1) deeper same)
    (if_so (eqb t.0 41) (cored n k (outer c.around) (further_out c.around))
    (if_so (eqb t.0 124) (cored n (suc k) (framed f.base k f.group f.depth) c.around) c)))

-- the spot after it
abbrev pub sign_turns : Token → Core → Pen → Pen
sign_turns t c p =
    if_so (eqb t.0 102) (penned c.spot p.start p.end p.first)
    (if_so (eqb t.0 91) (penned p.cur p.cur p.end true)
    (if_so (eqb t.0 62) (penned p.start p.start (if_so p.first p.cur p.end) false)
    (if_so (eqb t.0 41) (penned (outer c.around).base p.start p.end p.first)
    (if_so (eqb t.0 124) (penned c.frame.base p.start p.end p.first)
    (if_so (eqb t.0 38) (penned c.frame.base p.start p.end p.first) p)))))

-- all that signs give
abbrev pub emit : List Token → Core → Pen → Out
emit [] c p = no_rows
emit (t ∷ ts) c p = sign_gives t c p then emit ts (sign_moves t c p) (sign_turns t c p)

-- before the first sign: a whole that has alternatives begins the first
abbrev pub first_given : Bool → Out
first_given true = begins 0 1 0 1
first_given false = no_rows

abbrev pub first_core : Bool → Core
first_core true = cored 1 2 (framed 0 1 1 1) []
first_core false = cored 1 1 (framed 0 0 0 0) []

abbrev pub first_pen : Pen
first_pen = penned 0 0 0 false
