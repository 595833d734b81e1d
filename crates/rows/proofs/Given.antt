-- Over the signs of a formula, marked from right to left, the machine gives what the formula does.
-- Assumes nothing.
use Prim.Native.Nat.{ℕ, suc, ◌+◌}
use mathlib.Core.Path.{◌≡◌, refl, sym, ap, ap₂, subst, ◌∙◌}
use mathlib.Core.Bool.{Bool, true, false}
use mathlib.Core.List.{List, [], ◌∷◌, ◌++◌, append_assoc, append-nil}
use native.Mathlib.Omega.{arith}
use lib.ListN.{length}
use Rattle.theory.specs.Join.{Edge}
use Rattle.formulas.specs.Formula.{Path, Formula, nil, top, atom, at, same, all, any, Formulas, one, ◌also◌}
use Rattle.formulas.specs.Sheet.{Sheet, ◌plus◌, of_edges, of_atom, of_tie, way, way_end, tied, count, counts, lengths}
use Rattle.formulas.specs.Flat.{Item, width, widths, ranks, flat_items, flat_all, flat_any}
use Rattle.signs.specs.Machine.{if_so}
use Rattle.signs.specs.Signs.{Sign, nil_sign, top_sign, atom_sign, feature_sign, colon, bracket, greater, and, or, left, right}
use Rattle.signs.specs.Grammar.{conjunction, disjunction, features, path_rest, path_list, Unit_is, is_nil, is_top, is_atom, is_at, is_same}
use Rattle.signs.specs.Grammar.{is_group, Units, one_unit, more_units, Parts, one_part, more_parts, Whole, whole}
use Rattle.rows.specs.Tokens.{Token, sign_token, tokens, MarkedSigns, flag_bit, flag, flagging, unmarked}
use Rattle.rows.specs.Machine.{Out, no_rows, ◌then◌, in_home, homed, begins, rows_of, OpenFrame, framed, Core, cored, Pen, penned}
use Rattle.rows.specs.Machine.{outer, emit, first_given, first_core, first_pen}
use Rattle.rows.specs.Given.{given, given_all, given_any, many}

pub then_nothing : (x : Out) → x then no_rows ≡ x
then_nothing x = λ i. record {
  arcs = append-nil x.arcs i;
  bears = append-nil x.bears i;
  shares = append-nil x.shares i;
  alts = append-nil x.alts i;
}

pub then_assoc : (x y z : Out) → (x then y) then z ≡ x then y then z
then_assoc x y z = λ i. record {
  arcs = append_assoc x.arcs y.arcs z.arcs i;
  bears = append_assoc x.bears y.bears z.bears i;
  shares = append_assoc x.shares y.shares z.shares i;
  alts = append_assoc x.alts y.alts z.alts i;
}

pub in_both : {A : Type 0} (h : ℕ) (l m : List A) → in_home h (l ++ m) ≡ in_home h l ++ in_home h m
in_both h [] m = refl
in_both {A} h (x ∷ l) m = ap (λ (z : List (ℕ × A)). (h, x) ∷ z) (in_both h l m)

homed_both : (h : ℕ) (A B : Sheet) → homed h (A plus B) ≡ homed h A then homed h B
homed_both h A B = λ i. record {
  arcs = in_both h A.edges B.edges i;
  bears = in_both h A.atoms B.atoms i;
  shares = in_both h A.ties B.ties i;
  alts = [];
}

tokens_both : (σ τ : List Sign) → tokens (σ ++ τ) ≡ tokens σ ++ tokens τ
tokens_both [] τ = refl
tokens_both (s ∷ σ) τ = ap (λ (l : List Token). sign_token s ∷ l) (tokens_both σ τ)

flagging_both : (a b : List Token) (y : MarkedSigns) → flagging (a ++ b) y ≡ flagging a (flagging b y)
flagging_both [] b y = refl
flagging_both (t ∷ a) b y = ap (λ (z : MarkedSigns). flag t z) (flagging_both a b y)

-- the signs of one list, before what was read
abbrev before : List Token → MarkedSigns → MarkedSigns
before l y = record { done = l ++ y.done; flags = y.flags }

before_both : (a b : List Token) (y : MarkedSigns) → before a (before b y) ≡ before (a ++ b) y
before_both a b y = ap (λ (l : List Token). record { done = l; flags = y.flags }) (sym (append_assoc a b y.done))

abbrev Plain : List Token → Type 0
Plain l = (y : MarkedSigns) → flagging l y ≡ before l y

plain_both : (a b : List Token) → Plain a → Plain b → Plain (a ++ b)
plain_both a b p q y = flagging_both a b y ∙ ap (flagging a) (q y) ∙ p (before b y) ∙ before_both a b y

-- ---- shared paths
steps_plain : (p : Path) → Plain (tokens (features p))
steps_plain [] y = refl
steps_plain (f ∷ p) y = ap (flag (102, f)) (steps_plain p y)

path_tokens : (p : Path) (l : List Sign) → tokens (features p ++ (greater ∷ l)) ≡ tokens (features p) ++ ((62, 0) ∷ tokens l)
path_tokens p l = tokens_both (features p) (greater ∷ l)

path_plain : (p : Path) (l : List Sign) → Plain (tokens l) → Plain (tokens (features p ++ (greater ∷ l)))
path_plain p l h = subst Plain (sym (path_tokens p l))
    (plain_both (tokens (features p)) ((62, 0) ∷ tokens l) (steps_plain p) (λ y. ap (flag (62, 0)) (h y)))

rest_plain : (ps : List Path) → Plain (tokens (path_rest ps))
rest_plain [] y = refl
rest_plain (p ∷ ps) y = ap (λ (z : MarkedSigns). flag (44, 0) (flag (60, 0) z)) (path_plain p (path_rest ps) (rest_plain ps) y)

-- spots and alternatives more
abbrev grown : Core → ℕ → ℕ → Core
grown c a b = cored (c.spot + a) (c.alt + b) c.frame c.around

core_as : {n n' k k' : ℕ} (f : OpenFrame) (fs : List OpenFrame) → n ≡ n' → k ≡ k' → cored n k f fs ≡ cored n' k' f fs
core_as f fs p q = ap₂ {C = Core} (λ (n k : ℕ). cored n k f fs) p q

-- what is given by signs, and then by those after them
pub record Gives (x : Out) (l ts : List Token) (c c' : Core) (p : Pen) : Type 0 where
  pub pen : Pen
  pub is : emit (l ++ ts) c p ≡ x then emit ts c' pen

gives_as : {x x' : Out} {l l' ts : List Token} {c c' c'' : Core} {p : Pen} → x ≡ x' → l ≡ l' → c' ≡ c'' → Gives x l ts c c' p →
    Gives x' l' ts c c'' p
gives_as {ts = ts} {c = c} {p = p} e f g w = record {
  pen = w.pen;
  is = ap (λ (l : List Token). emit (l ++ ts) c p) (sym f) ∙ w.is ∙ ap₂ {C = Out} (λ (x : Out) (c : Core). x then emit ts c w.pen) e g;
}

steps_given : (p : Path) (ts : List Token) (c : Core) (s u e : ℕ) (b : Bool) →
    emit (tokens (features p) ++ ts) c (penned s u e b)
    ≡ homed c.frame.home (of_edges (way c.spot s p)) then emit ts (grown c (length p) 0) (penned (way_end c.spot s p) u e b)
steps_given [] ts c s u e b =
    let x : c.spot ≡ c.spot + 0 = omega arith in
    let y : c.alt ≡ c.alt + 0 = omega arith in
    ap (λ (z : Core). emit ts z (penned s u e b)) (core_as c.frame c.around x y)
steps_given (f ∷ p) ts c s u e b =
    let n = c.spot in
    let c' = cored (suc n) c.alt c.frame c.around in
    let y = homed c.frame.home (of_edges ((s, f, n) ∷ way (suc n) n p)) in
    let x : suc n + length p ≡ n + length (f ∷ p) = omega arith in
    ap (λ (z : Out). homed c.frame.home (of_edges ((s, f, n) ∷ [])) then z) (steps_given p ts c' n u e b)
    ∙ ap (λ (z : Core). y then emit ts z (penned (way_end (suc n) n p) u e b)) (core_as c.frame c.around x refl)

tie_joined : (h : ℕ) (es : List Edge) (s t : ℕ) (x : Out) →
    homed h (of_edges es) then homed h (of_tie [] s t) then x ≡ homed h (of_tie es s t) then x
tie_joined h es s t x = refl

-- a path, its bracket, and what follows
path_given : (p : Path) (l : List Sign) (ts : List Token) (c : Core) (s u e : ℕ) (b : Bool) →
    emit (tokens (features p ++ (greater ∷ l)) ++ ts) c (penned s u e b)
    ≡ homed c.frame.home (of_edges (way c.spot s p))
    then emit ((62, 0) ∷ tokens l ++ ts) (grown c (length p) 0) (penned (way_end c.spot s p) u e b)
path_given p l ts c s u e b =
    ap (λ (m : List Token). emit m c (penned s u e b))
    (ap (λ (m : List Token). m ++ ts) (path_tokens p l) ∙ append_assoc (tokens (features p)) ((62, 0) ∷ tokens l) ts)
    ∙ steps_given p ((62, 0) ∷ tokens l ++ ts) c s u e b

rest_given : (ps : List Path) (ts : List Token) (c : Core) (s e : ℕ) →
    Gives (homed c.frame.home (tied c.spot s e ps)) (tokens (path_rest ps)) ts c (grown c (lengths ps) 0) (penned s s e false)
rest_given [] ts c s e =
    let x : c.spot ≡ c.spot + 0 = omega arith in
    let y : c.alt ≡ c.alt + 0 = omega arith in
    record { pen = penned s s e false; is = ap (λ (z : Core). emit ts z (penned s s e false)) (core_as c.frame c.around x y) }
rest_given (q ∷ ps) ts c s e =
    let n = c.spot in
    let h = c.frame.home in
    let t = way_end n s q in
    let w = rest_given ps ts (grown c (length q) 0) s e in
    let x : n + length q + lengths ps ≡ n + lengths (q ∷ ps) = omega arith in
    let y : c.alt + 0 + 0 ≡ c.alt + 0 = omega arith in
    let A = of_tie (way n s q) e t in
    let B = tied (n + length q) s e ps in
    record {
      pen = w.pen;
      is = path_given q (path_rest ps) ts c s s e false
          ∙ ap (λ (z : Out). homed h (of_edges (way n s q)) then homed h (of_tie [] e t) then z) w.is
          ∙ tie_joined h (way n s q) e t (homed h B then emit ts (grown (grown c (length q) 0) (lengths ps) 0) w.pen)
          ∙ sym (then_assoc (homed h A) (homed h B) (emit ts (grown (grown c (length q) 0) (lengths ps) 0) w.pen))
          ∙ ap₂ {C = Out} (λ (z : Out) (c' : Core). z then emit ts c' w.pen) (sym (homed_both h A B))
          (core_as c.frame c.around x y);
    }

same_given : (p : Path) (ps : List Path) (ts : List Token) (c : Core) (q : Pen) →
    Gives (homed c.frame.home (of_edges (way c.spot q.cur p) plus tied (c.spot + length p) q.cur
    (way_end c.spot q.cur p) ps))
    ((91, 0) ∷ tokens (path_list p ps)) ts c (grown c (length p + lengths ps) 0) q
same_given p ps ts c q =
    let n = c.spot in
    let h = c.frame.home in
    let s = q.cur in
    let e = way_end n s p in
    let w = rest_given ps ts (grown c (length p) 0) s e in
    let x : n + length p + lengths ps ≡ n + (length p + lengths ps) = omega arith in
    let y : c.alt + 0 + 0 ≡ c.alt + 0 = omega arith in
    let A = of_edges (way n s p) in
    let B = tied (n + length p) s e ps in
    record {
      pen = w.pen;
      is = path_given p (path_rest ps) ts c s s q.end true
          ∙ ap (λ (z : Out). homed h A then z) w.is
          ∙ sym (then_assoc (homed h A) (homed h B) (emit ts (grown (grown c (length p) 0) (lengths ps) 0) w.pen))
          ∙ ap₂ {C = Out} (λ (z : Out) (c' : Core). z then emit ts c' w.pen) (sym (homed_both h A B))
          (core_as c.frame c.around x y);
    }

-- ---- the grammar
abbrev pub here : Core → Pen → Formula → Out
here c p φ = given c.spot c.alt p.cur c.frame.home c.frame.depth φ

record UnitGiven (σ : List Sign) (φ : Formula) : Type 0 where
  marks : List Token
  flags : (y : MarkedSigns) → flagging (tokens σ) y ≡ before marks y
  gives : (ts : List Token) (c : Core) (p : Pen) → Gives (here c p φ) marks ts c (grown c (count φ) (width φ)) p

-- units begin at the spot of their conjunction
abbrev at_base : Core → ℕ → ℕ → Bool → Pen
at_base c u e b = penned c.frame.base u e b

record UnitsGiven (σ : List Sign) (us : Formulas) : Type 0 where
  marks : List Token
  flags : (y : MarkedSigns) → flagging (tokens σ) y ≡ before marks y
  gives : (ts : List Token) (c : Core) (u e : ℕ) (b : Bool) →
      Gives (given_all c.spot c.alt c.frame.base c.frame.home c.frame.depth us) marks ts c
      (grown c (counts us) (widths us)) (at_base c u e b)

-- of parts the first has begun: it is the alternative j of o, and g is the first one of them
abbrev begun : ℕ → ℕ → ℕ → ℕ → ℕ → ℕ → ℕ → Formulas → Out
begun n k s o g d j (one φ) = given n k s j (suc d) φ
begun n k s o g d j (φ also φs) = given n k s j (suc d) φ then given_any (n + count φ) (k + width φ) s o g d φs

-- the alternatives after the first has begun
abbrev later : Formulas → ℕ
later (one φ) = width φ
later (φ also φs) = width φ + ranks φs

later_ranks : (φs : Formulas) → ranks φs ≡ suc (later φs)
later_ranks (one φ) = refl
later_ranks (φ also φs) = omega arith

begun_any : (n k s o g d : ℕ) (φs : Formulas) → begins o g s (suc d) then begun n (suc k) s o g d k φs ≡ given_any n k s o g d φs
begun_any n k s o g d (one φ) = refl
begun_any n k s o g d (φ also φs) = refl

-- the machine within alternatives
abbrev inside : ℕ → ℕ → ℕ → ℕ → ℕ → ℕ → List OpenFrame → Core
inside n k s j g d fs = cored n k (framed s j g (suc d)) fs

record PartsGiven (σ : List Sign) (φs : Formulas) : Type 0 where
  marks : List Token
  flags : (l : List Token) (b : Bool) (bs : List Bool) →
      flagging (tokens σ) (record { done = l; flags = b ∷ bs }) ≡ record { done = marks ++ l; flags = if_so (many φs) true b ∷ bs }
  alone : (φ : Formula) → φs ≡ one φ → (ts : List Token) (c : Core) (u e : ℕ) (b : Bool) →
      Gives (here c (at_base c u e b) φ) marks ts c (grown c (count φ) (width φ)) (at_base c u e b)
  several : (ts : List Token) (n k s j g d : ℕ) (fs : List OpenFrame) (u e : ℕ) (b : Bool) →
      (j' : ℕ) × Gives (begun n k s (outer fs).home g d j φs) marks ts (inside n k s j g d fs)
      (inside (n + counts φs) (k + later φs) s j' g d fs) (penned s u e b)

conjunction_given : (n k s h d : ℕ) (us : Formulas) → given n k s h d (conjunction us) ≡ given_all n k s h d us
conjunction_given n k s h d (one φ) = refl
conjunction_given n k s h d (φ also φs) = refl

conjunction_count : (us : Formulas) → count (conjunction us) ≡ counts us
conjunction_count (one φ) = refl
conjunction_count (φ also φs) = refl

conjunction_width : (us : Formulas) → width (conjunction us) ≡ widths us
conjunction_width (one φ) = refl
conjunction_width (φ also φs) = refl

-- ---- units
stays : (c : Core) → c ≡ grown c 0 0
stays c = let x : c.spot ≡ c.spot + 0 = omega arith in let y : c.alt ≡ c.alt + 0 = omega arith in core_as c.frame c.around x y

leaf : (x : Out) (ts : List Token) (c : Core) (p : Pen) → x then emit ts c p ≡ x then emit ts (grown c 0 0) p
leaf x ts c p = ap (λ (z : Core). x then emit ts z p) (stays c)

nil_given : UnitGiven (nil_sign ∷ []) nil
nil_given = record { marks = (76, 0) ∷ []; flags = λ y. refl; gives = λ ts c p. record { pen = p; is = leaf no_rows ts c p } }

top_given : UnitGiven (top_sign ∷ []) top
top_given = record {
  marks = (80, 0) ∷ [];
  flags = λ y. refl;
  gives = λ ts c p. record { pen = p; is = leaf (homed c.frame.home (of_atom p.cur 0 plus of_atom p.cur 1)) ts c p };
}

atom_given : (a : ℕ) → UnitGiven (atom_sign a ∷ []) (atom a)
atom_given a = record {
  marks = (97, a) ∷ [];
  flags = λ y. refl;
  gives = λ ts c p. record { pen = p; is = leaf (homed c.frame.home (of_atom p.cur a)) ts c p };
}

at_given : (f : ℕ) (τ : List Sign) (ψ : Formula) → UnitGiven τ ψ → UnitGiven (feature_sign f ∷ colon ∷ τ) (at f ψ)
at_given f τ ψ w = record {
  marks = (102, f) ∷ (58, 0) ∷ w.marks;
  flags = λ y. ap (λ (z : MarkedSigns). flag (102, f) (flag (58, 0) z)) (w.flags y);
  gives = λ ts c p.
      let n = c.spot in
      let v = w.gives ts (cored (suc n) c.alt c.frame c.around) (penned n p.start p.end p.first) in
      let arc = homed c.frame.home (of_edges ((p.cur, f, n) ∷ [])) in
      let rest = given (suc n) c.alt n c.frame.home c.frame.depth ψ in
      let x : suc n + count ψ ≡ n + suc (count ψ) = omega arith in
      record {
        pen = v.pen;
        is = ap (λ (z : Out). arc then z) v.is
            ∙ sym (then_assoc arc rest (emit ts (cored (suc n + count ψ) (c.alt + width ψ) c.frame c.around) v.pen))
            ∙ ap (λ (z : Core). (arc then rest) then emit ts z v.pen) (core_as c.frame c.around x refl);
      };
}

same_unit : (p : Path) (ps : List Path) → UnitGiven (bracket ∷ path_list p ps) (same p ps)
same_unit p ps = record {
  marks = (91, 0) ∷ tokens (path_list p ps);
  flags = λ y. ap (λ (z : MarkedSigns). flag (91, 0) (flag (60, 0) z)) (path_plain p (path_rest ps) (rest_plain ps) y);
  gives = λ ts c q. same_given p ps ts c q;
}

module _ (τ : List Sign) (φs : Formulas) (w : PartsGiven τ φs) where
  abbrev group_marks : Bool → List Token
  group_marks b = (40, flag_bit b) ∷ (w.marks ++ ((41, 0) ∷ []))

  group_flags : (y : MarkedSigns) → flagging (tokens (left ∷ (τ ++ (right ∷ [])))) y ≡ before (group_marks (if_so (many φs) true false)) y
  group_flags y =
      ap (λ (l : List Token). flag (40, 0) (flagging l y)) (tokens_both τ (right ∷ []))
      ∙ ap (flag (40, 0)) (flagging_both (tokens τ) ((41, 0) ∷ []) y ∙ w.flags ((41, 0) ∷ y.done) false y.flags)
      ∙ ap (λ (l : List Token). record { done = (40, flag_bit (if_so (many φs) true false)) ∷ l; flags = y.flags })
      (sym (append_assoc w.marks ((41, 0) ∷ []) y.done))

  group_tokens : (ts : List Token) → (w.marks ++ ((41, 0) ∷ [])) ++ ts ≡ w.marks ++ ((41, 0) ∷ ts)
  group_tokens ts = append_assoc w.marks ((41, 0) ∷ []) ts

group_given : (τ : List Sign) (φs : Formulas) → PartsGiven τ φs → UnitGiven (left ∷ (τ ++ (right ∷ []))) (disjunction φs)
group_given τ (one φ) w = record {
  marks = group_marks τ (one φ) w false;
  flags = group_flags τ (one φ) w;
  gives = λ ts c p.
      let f = c.frame in
      let c' = cored c.spot c.alt (framed p.cur f.home f.group f.depth) (f ∷ c.around) in
      let v = w.alone φ refl ((41, 0) ∷ ts) c' p.start p.end p.first in
      record {
        pen = penned f.base v.pen.start v.pen.end v.pen.first;
        is = ap (λ (l : List Token). emit l c' p) (group_tokens τ (one φ) w ts) ∙ v.is;
      };
}
group_given τ (φ also φs) w = record {
  marks = group_marks τ (φ also φs) w true;
  flags = group_flags τ (φ also φs) w;
  gives = λ ts c p.
      let f = c.frame in
      let n = c.spot in
      let k = c.alt in
      let s = p.cur in
      let h = f.home in
      let d = f.depth in
      let v = w.several ((41, 0) ∷ ts) n (suc k) s k k d (f ∷ c.around) p.start p.end p.first in
      let pen' = penned f.base v.1.pen.start v.1.pen.end v.1.pen.first in
      let x : suc k + (width φ + ranks φs) ≡ k + (suc (width φ) + ranks φs) = omega arith in
      let a = begins h k s (suc d) in
      let b = begun n (suc k) s h k d k (φ also φs) in
      record {
        pen = pen';
        is = ap (λ (l : List Token). a then emit l (inside n (suc k) s k k d (f ∷ c.around)) p) (group_tokens τ (φ also φs) w ts)
            ∙ ap (λ (z : Out). a then z) v.1.is
            ∙ sym (then_assoc a b (emit ts (cored (n + counts (φ also φs)) (suc k + (width φ + ranks φs)) f c.around) pen'))
            ∙ ap (λ (z : Core). (a then b) then emit ts z pen') (core_as f c.around refl x);
      };
}

-- ---- units and parts
pair_given : (τ ρ : List Sign) (φ : Formula) (ψs : Formulas) → UnitGiven τ φ → UnitsGiven ρ ψs → UnitsGiven (τ ++ (and ∷ ρ)) (φ also ψs)
pair_given τ ρ φ ψs a b = record {
  marks = a.marks ++ ((38, 0) ∷ b.marks);
  flags = λ y.
      ap (λ (l : List Token). flagging l y) (tokens_both τ (and ∷ ρ))
      ∙ flagging_both (tokens τ) ((38, 0) ∷ tokens ρ) y
      ∙ ap (λ (z : MarkedSigns). flagging (tokens τ) (flag (38, 0) z)) (b.flags y)
      ∙ a.flags (before ((38, 0) ∷ b.marks) y)
      ∙ before_both a.marks ((38, 0) ∷ b.marks) y;
  gives = λ ts c u e t.
      let n = c.spot in
      let k = c.alt in
      let s = c.frame.base in
      let c' = grown c (count φ) (width φ) in
      let v = a.gives ((38, 0) ∷ (b.marks ++ ts)) c (penned s u e t) in
      let w = b.gives ts c' v.pen.start v.pen.end v.pen.first in
      let g = given n k s c.frame.home c.frame.depth φ in
      let gs = given_all (n + count φ) (k + width φ) s c.frame.home c.frame.depth ψs in
      let x : n + count φ + counts ψs ≡ n + (count φ + counts ψs) = omega arith in
      let y : k + width φ + widths ψs ≡ k + (width φ + widths ψs) = omega arith in
      record {
        pen = w.pen;
        is = ap (λ (l : List Token). emit l c (penned s u e t)) (append_assoc a.marks ((38, 0) ∷ b.marks) ts)
            ∙ v.is
            ∙ ap (λ (z : Out). g then z) w.is
            ∙ sym (then_assoc g gs (emit ts (grown c' (counts ψs) (widths ψs)) w.pen))
            ∙ ap (λ (z : Core). (g then gs) then emit ts z w.pen) (core_as c.frame c.around x y);
      };
}

module _ {σ : List Sign} (us : Formulas) (w : UnitsGiven σ us) where
  conjoined : (ts : List Token) (c : Core) (u e : ℕ) (b : Bool) →
      Gives (here c (at_base c u e b) (conjunction us)) w.marks ts c (grown c (count (conjunction us)) (width (conjunction us)))
      (at_base c u e b)
  conjoined ts c u e b =
      let n = c.spot in
      let k = c.alt in
      gives_as (sym (conjunction_given n k c.frame.base c.frame.home c.frame.depth us)) refl
      (core_as c.frame c.around (ap (λ (z : ℕ). n + z) (sym (conjunction_count us)))
      (ap (λ (z : ℕ). k + z) (sym (conjunction_width us))))
      (w.gives ts c u e b)

  part_given : PartsGiven σ (one (conjunction us))
  part_given = record {
    marks = w.marks;
    flags = λ l b bs. w.flags (record { done = l; flags = b ∷ bs });
    alone = λ φ e ts c u t b.
        let q : conjunction us ≡ φ = cc in
        subst (λ (ψ : Formula). Gives (here c (at_base c u t b) ψ) w.marks ts c (grown c (count ψ) (width ψ)) (at_base c u t b)) q
        (conjoined ts c u t b);
    several = λ ts n k s j g d fs u t b. (j, conjoined ts (inside n k s j g d fs) u t b);
  }

not_one : (φ ψ : Formula) (φs : Formulas) → φ also φs ≡ one ψ → ⊥
not_one φ ψ φs e = let z : ◌≡◌ {A = ℕ} 0 1 = cc in absurd (omega arith)

join_given : (τ ρ : List Sign) (us ψs : Formulas) → UnitsGiven τ us → PartsGiven ρ ψs → PartsGiven (τ ++ (or ∷ ρ)) (conjunction us also ψs)
join_given τ ρ us ψs a b = record {
  marks = a.marks ++ ((124, 0) ∷ b.marks);
  flags = λ l t bs.
      ap (λ (m : List Token). flagging m (record { done = l; flags = t ∷ bs })) (tokens_both τ (or ∷ ρ))
      ∙ flagging_both (tokens τ) ((124, 0) ∷ tokens ρ) (record { done = l; flags = t ∷ bs })
      ∙ ap (λ (z : MarkedSigns). flagging (tokens τ) (flag (124, 0) z)) (b.flags l t bs)
      ∙ a.flags (record { done = (124, 0) ∷ (b.marks ++ l); flags = true ∷ bs })
      ∙ ap (λ (m : List Token). record { done = m; flags = true ∷ bs }) (sym (append_assoc a.marks ((124, 0) ∷ b.marks) l));
  alone = λ φ e. absurd (not_one (conjunction us) φ ψs e);
  several = λ ts n k s j g d fs u e t.
      let φ = conjunction us in
      let o = (outer fs).home in
      let n' = n + count φ in
      let k' = k + width φ in
      let v = conjoined us a ((124, 0) ∷ (b.marks ++ ts)) (inside n k s j g d fs) u e t in
      let w = b.several ts n' (suc k') s k' g d fs v.pen.start v.pen.end v.pen.first in
      let c' = inside (n' + counts ψs) (suc k' + later ψs) s w.0 g d fs in
      let first = given n k s j (suc d) φ in
      let rest = given_any n' k' s o g d ψs in
      let r = later_ranks ψs in
      let x : n' + counts ψs ≡ n + (count φ + counts ψs) = omega arith in
      let y : suc k' + later ψs ≡ k + (width φ + ranks ψs) = omega (arith, r) in (
        w.0,
        record {
          pen = w.1.pen;
          is = ap (λ (l : List Token). emit l (inside n k s j g d fs) (penned s u e t)) (append_assoc a.marks ((124, 0) ∷ b.marks) ts)
              ∙ v.is
              ∙ ap (λ (z : Out). first then begins o g s (suc d) then z) w.1.is
              ∙ ap (λ (z : Out). first then z)
              (sym (then_assoc (begins o g s (suc d)) (begun n' (suc k') s o g d k' ψs) (emit ts c' w.1.pen))
              ∙ ap (λ (z : Out). z then emit ts c' w.1.pen) (begun_any n' k' s o g d ψs))
              ∙ sym (then_assoc first rest (emit ts c' w.1.pen))
              ∙ ap (λ (z : Core). (first then rest) then emit ts z w.1.pen) (core_as (framed s w.0 g (suc d)) fs x y);
        },
      );
}

unit_as : {σ ρ : List Sign} {φ ψ : Formula} → σ ≡ ρ → φ ≡ ψ → UnitGiven ρ ψ → UnitGiven σ φ
unit_as {ρ = ρ} {φ = φ} e q g = subst (λ (l : List Sign). UnitGiven l φ) (sym e) (subst (UnitGiven ρ) (sym q) g)

mutual
  unit_given : {σ : List Sign} {φ : Formula} → Unit_is σ φ → UnitGiven σ φ
  unit_given (is_nil e q) = unit_as e q nil_given
  unit_given (is_top e q) = unit_as e q top_given
  unit_given (is_atom a e q) = unit_as e q (atom_given a)
  unit_given (is_at f τ ψ u e q) = unit_as e q (at_given f τ ψ (unit_given u))
  unit_given (is_same p ps e q) = unit_as e q (same_unit p ps)
  unit_given (is_group τ φs p e q) = unit_as e q (group_given τ φs (parts_given p))

  units_given : {σ : List Sign} {us : Formulas} → Units σ us → UnitsGiven σ us
  units_given {σ} (one_unit φ u e) =
      let w = unit_given u in
      subst (UnitsGiven σ) (sym e) (record { marks = w.marks; flags = w.flags; gives = λ ts c u e b. w.gives ts c (at_base c u e b) })
  units_given {σ} {us} (more_units τ ρ φ ψs u vs e q) =
      subst (λ (l : List Sign). UnitsGiven l us) (sym e)
      (subst (UnitsGiven (τ ++ (and ∷ ρ))) (sym q) (pair_given τ ρ φ ψs (unit_given u) (units_given vs)))

  parts_given : {σ : List Sign} {φs : Formulas} → Parts σ φs → PartsGiven σ φs
  parts_given {σ} (one_part us u e) = subst (PartsGiven σ) (sym e) (part_given us (units_given u))
  parts_given {σ} {φs} (more_parts τ ρ us ψs u p e q) =
      subst (λ (l : List Sign). PartsGiven l φs) (sym e)
      (subst (PartsGiven (τ ++ (or ∷ ρ))) (sym q) (join_given τ ρ us ψs (units_given u) (parts_given p)))

-- ---- the whole
pub record WholeGiven (σ : List Sign) (φ : Formula) : Type 0 where
  pub marks : List Token
  pub flag : Bool
  pub flags : flagging (tokens σ) unmarked ≡ record { done = marks; flags = flag ∷ [] }
  pub is : first_given flag then emit marks (first_core flag) first_pen ≡ given 1 1 0 0 0 φ

whole_from : (σ : List Sign) (φs : Formulas) → PartsGiven σ φs → WholeGiven σ (disjunction φs)
whole_from σ (one φ) w =
    let m = w.marks in
    record {
      marks = m;
      flag = false;
      flags = w.flags [] false [] ∙ ap (λ (l : List Token). record { done = l; flags = false ∷ [] }) (append-nil m);
      is = ap (λ (l : List Token). emit l (first_core false) first_pen) (sym (append-nil m))
          ∙ (w.alone φ refl [] (first_core false) 0 0 false).is
          ∙ then_nothing (given 1 1 0 0 0 φ);
    }
whole_from σ (φ also φs) w =
    let m = w.marks in
    let v = w.several [] 1 2 0 1 1 0 [] 0 0 false in
    record {
      marks = m;
      flag = true;
      flags = w.flags [] false [] ∙ ap (λ (l : List Token). record { done = l; flags = true ∷ [] }) (append-nil m);
      is = ap (λ (l : List Token). begins 0 1 0 1 then emit l (first_core true) first_pen) (sym (append-nil m))
          ∙ ap (λ (z : Out). begins 0 1 0 1 then z) (v.1.is ∙ then_nothing (begun 1 2 0 0 1 0 1 (φ also φs)));
    }

pub whole_given : {σ : List Sign} {φ : Formula} → Whole σ φ → WholeGiven σ φ
whole_given {σ} (whole φs p e) = subst (WholeGiven σ) (sym e) (whole_from σ φs (parts_given p))

-- ---- its rows are those of the one list
rows_both : (a b : List Item) → rows_of (a ++ b) ≡ rows_of a then rows_of b
rows_both [] b = refl
rows_both (x ∷ a) b = ap (λ (z : Out). homed x.0 x.1 then z) (rows_both a b)
    ∙ sym (then_assoc (homed x.0 x.1) (rows_of a) (rows_of b))

abbrev pub bare : Out → Out
bare x = record { arcs = x.arcs; bears = x.bears; shares = x.shares; alts = [] }

one_row : (h : ℕ) (A : Sheet) → homed h A ≡ rows_of ((h, A) ∷ [])
one_row h A = sym (then_nothing (homed h A))

both_rows : (x y : Out) (a b : List Item) → bare x ≡ rows_of a → bare y ≡ rows_of b → bare x then bare y ≡ rows_of (a ++ b)
both_rows x y a b p q = ap₂ {C = Out} ◌then◌ p q ∙ sym (rows_both a b)

mutual
  pub given_rows : (n k s h d : ℕ) (φ : Formula) → bare (given n k s h d φ) ≡ rows_of (flat_items n k s h φ)
  given_rows n k s h d nil = refl
  given_rows n k s h d top = one_row h (of_atom s 0 plus of_atom s 1)
  given_rows n k s h d (atom a) = one_row h (of_atom s a)
  given_rows n k s h d (at f φ) = ap (λ (z : Out). homed h (of_edges ((s, f, n) ∷ [])) then z) (given_rows (suc n) k n h d φ)
  given_rows n k s h d (same p ps) = one_row h (of_edges (way n s p) plus tied (n + length p) s (way_end n s p) ps)
  given_rows n k s h d (all φ φs) = both_rows (given n k s h d φ) (given_all (n + count φ) (k + width φ) s h d φs)
      (flat_items n k s h φ) (flat_all (n + count φ) (k + width φ) s h φs) (given_rows n k s h d φ)
      (all_rows (n + count φ) (k + width φ) s h d φs)
  given_rows n k s h d (any φ φs) = both_rows (given n (suc k) s k (suc d) φ) (given_any (n + count φ) (suc k + width φ) s h k d φs)
      (flat_items n (suc k) s k φ) (flat_any (n + count φ) (suc k + width φ) s φs)
      (given_rows n (suc k) s k (suc d) φ) (any_rows (n + count φ) (suc k + width φ) s h k d φs)

  all_rows : (n k s h d : ℕ) (φs : Formulas) → bare (given_all n k s h d φs) ≡ rows_of (flat_all n k s h φs)
  all_rows n k s h d (one φ) = given_rows n k s h d φ
  all_rows n k s h d (φ also φs) = both_rows (given n k s h d φ) (given_all (n + count φ) (k + width φ) s h d φs)
      (flat_items n k s h φ) (flat_all (n + count φ) (k + width φ) s h φs) (given_rows n k s h d φ)
      (all_rows (n + count φ) (k + width φ) s h d φs)

  any_rows : (n k s h g d : ℕ) (φs : Formulas) → bare (given_any n k s h g d φs) ≡ rows_of (flat_any n k s φs)
  any_rows n k s h g d (one φ) = given_rows n (suc k) s k (suc d) φ
  any_rows n k s h g d (φ also φs) = both_rows (given n (suc k) s k (suc d) φ) (given_any (n + count φ) (suc k + width φ) s h g d φs)
      (flat_items n (suc k) s k φ) (flat_any (n + count φ) (suc k + width φ) s φs)
      (given_rows n (suc k) s k (suc d) φ) (any_rows (n + count φ) (suc k + width φ) s h g d φs)
