-- Settling a disjunction: engine's `settle_at`, return by return.
-- Assumes nothing.
use Prim.Native.Nat.{ℕ, suc, ◌<◌}
use native.Mathlib.Omega.{arith}
use mathlib.Core.Path.{◌≡◌, refl, sym, ap, subst, ◌∙◌}
use mathlib.Core.Bool.{Bool, true, false}
use mathlib.Core.List.{List, [], ◌∷◌, ◌++◌, append-nil}
use lib.ListN.{length, length-append}
use Rattle.descriptions.specs.Remnant.{remnant, nothing, alone, several}
use Rattle.theory.specs.Net.{Graph, Clash, Agree}
use Rattle.theory.specs.Descr.{agree}
use Rattle.theory.proofs.Instance.{AllCanonical, join_none}
use Rattle.theory.specs.Canonical.{Ctx, Fine}
use Rattle.theory.proofs.Model.{agree_iff}
use Rattle.engine.specs.Placed.{Placed, place, Options}
use Rattle.engine.specs.Marks.{Marking, kept_of}
use Rattle.engine.specs.Certain.{certain_any}
use Rattle.engine.specs.Quickly.{Step, fails, stands, settle_at}
use Rattle.loading.specs.Entry.{Entry, graphs}
use Rattle.loading.specs.At.{At}
use Rattle.loading.specs.Lying.{Lying}
use Rattle.marks.specs.Marked.{marking}
use Rattle.marks.specs.Readable.{Alternatives}
use Rattle.marks.specs.Tallied.{Tallied}
use Rattle.marks.specs.declared.tally.Remnant.{Remnant}
use Rattle.marks.specs.declared.tally.Remnant.TheVariants.{Nothing, One, Several}
use Rattle.marks.proofs.Remnant.{kept_none, kept_alone, kept_several}
use Rattle.classes.specs.Holds.{Holds, Since}
use Rattle.std.specs.Prelude.{Some, None}
use Rattle.classes.proofs.Comings.{graphs_append}
use Rattle.classes.proofs.Laws.{holds_agree, since_refl}
use Rattle.entering.specs.Taken.{taken, taken_of, taken_any_of, Inside}
use Rattle.entering.specs.Entered.{Entering, entered, Enters}
use Rattle.entering.specs.Settled.{Alternating, settled, Settles}
use Rattle.entering.proofs.Certain.{lone_of, none_of, any_inside_of}
use Rattle.entering.proofs.Alone.{counted, inner, inner_entered, inner_es}
use Rattle.entering.proofs.Entering.{inside_append, canonical_all}
use mathlib.Core.Option.{Option, none, some}
use Rattle.theory.specs.Join.{join}
use Rattle.theory.proofs.Live.{Agrees}

-- ---- engine's settling, by the number that is kept
settling : List Graph → Marking → Options → ℕ → Bool → Step
settling S m a c b = elim (remnant c) [
  | nothing ↦ fails m
  | alone ↦ elim b [ false ↦ fails m | true ↦ stands (S ++ certain_any m a) m ]
  | several ↦ stands S m
]

module _ (S : List Graph) (m : Marking) (a : Options) where
  settle_none : kept_of m a ≡ 0 → settle_at S m a ≡ fails m
  unfolding settling
  settle_none e = ap (λ (c : ℕ). settling S m a c (agree (S ++ certain_any m a))) e

  settle_one : (b : Bool) → kept_of m a ≡ 1 → agree (S ++ certain_any m a) ≡ b →
      settle_at S m a ≡ elim b [ false ↦ fails m | true ↦ stands (S ++ certain_any m a) m ]
  unfolding settling
  settle_one b e f = ap (λ (c : ℕ). settling S m a c (agree (S ++ certain_any m a))) e ∙ ap (λ (b : Bool). settling S m a 1 b) f

  pub settle_several : (l : ℕ) → kept_of m a ≡ suc (suc l) → settle_at S m a ≡ stands S m
  unfolding settling
  settle_several l e = ap (λ (c : ℕ). settling S m a c (agree (S ++ certain_any m a))) e

-- ---- a stack agrees, or clashes
pub agrees_true : (gs : Ctx) → Fine gs → Agree gs → agree gs ≡ true
agrees_true gs f a = (agree_iff gs f).1 a

pub clash_false : (gs : Ctx) → Fine gs → Clash gs → agree gs ≡ false
clash_false gs f k = go (agree gs) refl
  where
    go : (b : Bool) → agree gs ≡ b → b ≡ false
    go true e = absurd ((agree_iff gs f).0 e k)
    go false e = refl

-- graphs that do not clash have a joined graph
pub agree_joins : (gs : Ctx) → Fine gs → Agree gs → Agrees gs
agree_joins [] f a = absurd (omega arith)
agree_joins (g ∷ gs) f a = go (join (g ∷ gs)) refl
  where
    go : (o : Option Graph) → join (g ∷ gs) ≡ o → Agrees (g ∷ gs)
    go (some G) q = (G, q)
    go none q = absurd (a (join_none g gs f.1 q))

some_taken : (t : List ℕ) (k : Marking) (p n : ℕ) (d : Placed) (q m : ℕ) (at : At t p n d q m) →
    0 < length (graphs (taken t k p n d q m at))
some_taken t k p n (place g ds) q m at = omega arith

-- of a description something is taken
pub some_of : {n : ℕ} {t : List ℕ} {g left : ℕ} (k : Marking) (l : Lying n t g left) → 0 < length (graphs (taken_of k l))
some_of {n} {t} {g} {left} k l = some_taken t k g l.from l.d l.end l.to l.at

module _ (n k : ℕ) (w : List ℕ) (p count left : ℕ) where
  module _ (c : Alternating n k w p count left) where
    settled_graphs : graphs (settled c) ≡ graphs c.es ++ certain_any (marking w) c.lies.a
    settled_graphs = graphs_append c.es (taken_any_of (marking w) c.lies)
        ∙ ap (λ (l : List Graph). graphs c.es ++ l) (lone_of (marking w) c.lies)

    pub settled_inside : Inside c.s.U (settled c)
    settled_inside = inside_append c.s.U c.es (taken_any_of (marking w) c.lies) c.s.inside
        (any_inside_of (marking w) c.lies c.s.U c.among)

  module _ (which : Remnant) (after : ℕ) (tally : (s : Alternatives w p count) → Tallied w s which after) where
    pub settles_none : Alternating n k w p count left → which ≡ Nothing → Settles n k w p count left None w
    settles_none c₀ z = record {
      len = refl;
      rest = λ j h. refl;
      pushed = λ i y. let x : ◌≡◌ {A = ℕ} 0 1 = cc in absurd (omega arith);
      clashed = λ y. (
        since_refl n c₀.es k w c₀.s.holds,
        λ c. (
          c.s.holds,
          let s = counted n k w p count left c in
              settle_none (graphs c.es) (marking w) c.lies.a (kept_none w s which after (tally s) z),
        ),
      );
    }

    pub settles_several : Alternating n k w p count left → (many : ℕ) → which ≡ Several many → Settles n k w p count left (Some k) w
    settles_several c₀ many z = record {
      len = refl;
      rest = λ j h. refl;
      pushed = λ i y. let x : k ≡ i = cc in
          subst (λ (i : ℕ). Since k w i w
          × ((c : Alternating n k w p count left) →
          Holds n (settled c) i w × (settle_at (graphs c.es) (marking w) c.lies.a ≡ stands (graphs (settled c)) (marking w)))) x
          (since_refl n c₀.es k w c₀.s.holds, several);
      clashed = λ y. let x : ◌≡◌ {A = ℕ} 0 1 = cc in absurd (omega arith);
    }
      where
        several : (c : Alternating n k w p count left) →
            Holds n (settled c) k w × (settle_at (graphs c.es) (marking w) c.lies.a ≡ stands (graphs (settled c)) (marking w))
        several c =
            let s = counted n k w p count left c in
            let more = kept_several w s which after (tally s) many z in
            let none = none_of (marking w) c.lies (λ f. let g = more.1 in omega arith) in
            let same : settled c ≡ c.es = ap (λ (l : List Entry). c.es ++ l) none ∙ append-nil c.es in (
              subst (λ (l : List Entry). Holds n l k w) (sym same) c.s.holds,
              settle_several (graphs c.es) (marking w) c.lies.a more.0 more.1
                  ∙ ap (λ (l : List Entry). stands (graphs l) (marking w)) (sym same),
            )

    module _ (first : ℕ) (one : which ≡ One first) where
      -- the one that is kept
      pub asks_inner : Alternating n k w p count left → Entering n k w first left
      asks_inner c = inner n k w p count left c which after (tally (counted n k w p count left c)) first one

      same_entered : (c : Alternating n k w p count left) → entered (asks_inner c) ≡ settled c
      unfolding asks_inner
      same_entered c = inner_entered n k w p count left c which after (tally (counted n k w p count left c)) first one

      same_es : (c : Alternating n k w p count left) → (asks_inner c).es ≡ c.es
      unfolding asks_inner
      same_es c = inner_es n k w p count left c which after (tally (counted n k w p count left c)) first one

      fine : (c : Alternating n k w p count left) → Fine (graphs c.es ++ certain_any (marking w) c.lies.a)
      fine c =
          let d = asks_inner c in
          let list = taken_of (marking w) d.lies in
          let some = some_of (marking w) d.lies in
          subst Fine (ap graphs (same_entered c) ∙ settled_graphs c) (
            (rw (graphs_append d.es list) (simp length-append (omega arith))),
            subst (λ (l : List Entry). AllCanonical (graphs l)) (sym (same_entered c))
                (canonical_all n c.s.t c.s.U (settled c) c.s.ground (settled_inside c)),
          )

      module _ (r : Rattle.std.specs.Prelude.Option ℕ) (w' : List ℕ) (u : Enters n k w first left r w') where
        pub settles_one : Settles n k w p count left r w'
        settles_one = record {
          len = u.len;
          rest = u.rest;
          pushed = λ i y. (
            (u.pushed i y).0,
            λ c.
                let held = subst (λ (l : List Entry). Holds n l i w') (same_entered c) ((u.pushed i y).1 (asks_inner c)) in
                let good = agrees_true (graphs c.es ++ certain_any (marking w) c.lies.a) (fine c)
                (subst Agree (settled_graphs c) (holds_agree n (settled c) i w' held)) in (
                  held,
                  settle_one (graphs c.es) (marking w) c.lies.a true (kept_one c) good
                      ∙ ap (λ (l : List Graph). stands l (marking w)) (sym (settled_graphs c)),
                ),
          );
          clashed = λ y. (
            (u.clashed y).0,
            λ c.
                let told = (u.clashed y).1 (asks_inner c) in
                let bad = clash_false (graphs c.es ++ certain_any (marking w) c.lies.a) (fine c)
                (subst Clash (ap graphs (same_entered c) ∙ settled_graphs c) told.0) in (
                  subst (λ (l : List Entry). Holds n l k w') (same_es c) told.1,
                  settle_one (graphs c.es) (marking w) c.lies.a false (kept_one c) bad,
                ),
          );
        }
          where
            kept_one : (c : Alternating n k w p count left) → kept_of (marking w) c.lies.a ≡ 1
            kept_one c = let s = counted n k w p count left c in kept_alone w s which after (tally s) first one
