-- The kept alternatives are put out in order: what is still to be put out goes on to the whole.
-- Assumes nothing.
use Prim.Native.Nat.{ℕ, ◌+◌, ◌-◌, ◌≤◌, ◌<◌}
use native.Mathlib.Omega.{arith}
use mathlib.Core.Path.{◌≡◌, refl, sym, ap, subst, ◌∙◌}
use mathlib.Core.Bool.{Bool, true, false}
use mathlib.Core.List.{List, [], ◌++◌, append-nil, append_assoc}
use lib.ListN.{length, length-append}
use Rattle.theory.specs.Descr.{Alts, ◌or◌}
use Rattle.theory.specs.Layout.{alts_words}
use Rattle.theory.specs.Layout as layout
use Rattle.theory.specs.Canonical.{CanAny}
use Rattle.area.specs.Region.{loaded_words}
use Rattle.engine.specs.Placed.{Placed, Options, no_more, option, strip, strip_any}
use Rattle.engine.specs.Marks.{Marking, keep, keep_any}
use Rattle.engine.specs.Shown.{shown, shown_any}
use Rattle.modes_by_marks.proofs.Marks.{keep_true, keep_false}
use Rattle.engine.specs.Sane.{SaneAny}
use Rattle.packing.specs.Packed.{number_step}
use Rattle.loading.specs.Numbered.{options}
use Rattle.loading.specs.At.{AtAny}
use Rattle.loading.specs.Lying.{RestAny}
use Rattle.loading.proofs.Walking.{at_bounds, any_bounds}
use Rattle.marks.specs.Positions.{tail_at, mark_at, after_at}
use Rattle.marks.specs.Marked.{marking}
use Rattle.marks.proofs.Reading.{Read, read_option}
use Rattle.loading.specs.Nesting.{NestsAny}
use Rattle.entering.specs.Taken.{AmongRestAny}
use Rattle.showing.specs.Putting.{Written, Base, Describing, Describes, Offering}
use Rattle.showing.proofs.Written.{written_none, written_order, written_append, based}
use Rattle.showing.proofs.Leaving.{any_words, no_words}

-- what a turn does at the alternative x
pub data Turn (n : ℕ) (w₁ : List ℕ) (at x left out out' : ℕ) (w₂ : List ℕ) : Type 0 where
  skipped : marking w₁ x ≡ false → w₂ ≡ w₁ → out' ≡ out → Turn n w₁ at x left out out' w₂
  taken : (r : ℕ) (w' : List ℕ) → marking w₁ x ≡ true → Describes n w₁ at left out r w' → w₂ ≡ w' → out' ≡ r →
      Turn n w₁ at x left out out' w₂

module _ (n : ℕ) (w : List ℕ) (p of left o : ℕ) (c : Offering n w p of left o) where
  abbrev m : Marking
  m = c.base.m

  abbrev t : List ℕ
  t = c.base.t

  abbrev rest_of : Options → List ℕ
  rest_of a = alts_words (shown_any (strip_any (keep_any m a)))

  -- `rest` alternatives are left, from `at` on; those before them stand in the result up to `out`
  pub record Going (rest at out : ℕ) (w₁ : List ℕ) : Type 0 where
    pub b : Options
    pub l : ℕ
    pub stand : RestAny c.lies at l b
    pub within : at ≤ length t
    pub many : options b ≡ rest
    pub nests : NestsAny b left
    pub among : AmongRestAny c.base.U c.lies at l b stand
    pub can : CanAny (strip_any (keep_any m b))
    pub sane : SaneAny (strip_any (keep_any m b))
    pub done : List ℕ
    pub written : Written n w o done out w₁
    pub words_are : rest_of c.lies.a ≡ done ++ rest_of b

  pub offer_start : Going of p o w
  offer_start = record {
    b = c.lies.a;
    l = c.lies.from;
    stand = c.lies.at;
    within = c.lies.within;
    many = c.lies.many;
    nests = c.lies.nests;
    among = c.among;
    can = c.can;
    sane = c.sane;
    done = [];
    written = written_none n w o c.base.holds;
    words_are = refl;
  }

  low : c.lies.to < number_step
  low = omega (arith, c.lies.low, c.base.ground.few)

  module _ (rest at out : ℕ) (w₁ : List ℕ) (v : Going rest at out w₁) where
    pub offer_done : rest ≤ 0 → Written n w o (rest_of c.lies.a) out w₁
    offer_done h = go v.b v.many v.words_are
      where
        go : (b : Options) → options b ≡ rest → rest_of c.lies.a ≡ v.done ++ rest_of b → Written n w o (rest_of c.lies.a) out w₁
        go no_more e f = subst (λ (xs : List ℕ). Written n w o xs out w₁)
            (sym (f ∙ ap (λ (x : List ℕ). v.done ++ x) no_words ∙ append-nil v.done)) v.written
        go (option x d b) e f = absurd (omega arith)

    abbrev base₁ : Base n w₁
    base₁ = based n w c.base o v.done out w₁ v.written

    pub offer_same : length w₁ ≡ length w
    offer_same = v.written.len

    pub offer_long : 16384 ≤ length w₁
    offer_long = v.written.holds.long

    -- the next alternative
    record Next : Type 0 where
      x : ℕ
      d : Placed
      a : Options
      stand : RestAny c.lies at v.l (option x d a)
      nests : NestsAny (option x d a) left
      among : AmongRestAny c.base.U c.lies at v.l (option x d a) stand
      later : options a + 1 ≡ rest
      can : CanAny (strip_any (keep_any m (option x d a)))
      sane : SaneAny (strip_any (keep_any m (option x d a)))
      whole : rest_of c.lies.a ≡ v.done ++ rest_of (option x d a)

    module _ (h : 0 < rest) where
      next : Next
      next = go v.b v.stand v.many v.nests v.among v.can v.sane v.words_are
        where
          go : (b : Options) (s : RestAny c.lies at v.l b) → options b ≡ rest → NestsAny b left →
              AmongRestAny c.base.U c.lies at v.l b s → CanAny (strip_any (keep_any m b)) →
              SaneAny (strip_any (keep_any m b)) → rest_of c.lies.a ≡ v.done ++ rest_of b → Next
          go no_more s e f u k l q = absurd (omega arith)
          go (option x d a) s e f u k l q =
              record { x = x; d = d; a = a; stand = s; nests = f; among = u; later = omega arith; can = k; sane = l; whole = q }

      read : (w₂ : List ℕ) → 16384 ≤ length w₂ → loaded_words w₂ ≡ t → Read w₂ at next.x next.stand.0
      read w₂ room e = (read_option w₂ room next.x next.d next.a at v.l c.lies.end c.lies.to
          (subst (λ (s : List ℕ). AtAny s at v.l (option next.x next.d next.a) c.lies.end c.lies.to) (sym e)
          next.stand) low).0

      pub offer_here : ((at < 2048) × (16384 ≤ length w₁)) × (tail_at w₁ at < 2048)
      offer_here = let r = read w₁ offer_long base₁.loaded in ((r.here, offer_long), r.inside)

      first : (at < next.stand.0) × (next.stand.0 ≤ length t) × (v.l < next.stand.1)
      first = at_bounds t next.d at v.l next.stand.0 next.stand.1 next.stand.3

      last : next.stand.1 ≤ c.lies.to
      last = (any_bounds t next.a next.stand.0 next.stand.1 c.lies.end c.lies.to first.1 next.stand.4).2

      module _ (x : ℕ) (is_x : (x ≡ mark_at w₁ at) × (x < 1024)) where
        own : (b : Bool) → marking w₁ x ≡ b → m next.x ≡ b
        own b e = ap m (sym (is_x.0 ∙ (read w₁ offer_long base₁.loaded).mark)) ∙ ap (λ (k : Marking). k x) (sym base₁.marks) ∙ e

        module _ (e : marking w₁ x ≡ true) where
          kept_are : strip_any (keep_any m (option next.x next.d next.a))
              ≡ strip (keep m next.d) or strip_any (keep_any m next.a)
          kept_are = ap strip_any (keep_true m next.x next.d next.a (own true e))

          words_next : rest_of c.lies.a ≡ (v.done ++ layout.words (shown (strip (keep m next.d)))) ++ rest_of next.a
          words_next = next.whole ∙ ap (λ (z : Alts). v.done ++ alts_words (shown_any z)) kept_are
              ∙ ap (λ (l : List ℕ). v.done ++ l) (any_words (strip (keep m next.d)) (strip_any (keep_any m next.a)))
              ∙ sym (append_assoc v.done (layout.words (shown (strip (keep m next.d)))) (rest_of next.a))

          pub offer_asks : Describing n w₁ at left out
          offer_asks =
              let z = next in
              let size = length-append (v.done ++ layout.words (shown (strip (keep m z.d)))) (rest_of z.a) in
              let part = length-append v.done (layout.words (shown (strip (keep m z.d)))) in
              let all = ap length words_next in
              record {
                base = base₁;
                lies = record {
                  d = z.d;
                  from = v.l;
                  end = z.stand.0;
                  to = z.stand.1;
                  at = z.stand.3;
                  low = omega (arith, last, c.lies.low);
                  nests = z.nests.0;
                };
                among = z.among.0;
                can = (subst CanAny kept_are z.can).0;
                sane = (subst SaneAny kept_are z.sane).0;
                room = omega (arith, c.room, written_order n w o v.done out w₁ v.written);
              }

          offer_told : (r : ℕ) (w' : List ℕ) → Describes n w₁ at left out r w' →
              Written n w o (v.done ++ layout.words (shown (strip (keep m next.d)))) r w'
          unfolding offer_asks
          offer_told r w' u = written_append n w o v.done out w₁ (layout.words (shown (strip (keep m next.d)))) r w' v.written
              (u offer_asks)

        -- past the alternative
        past : (w₂ : List ℕ) (done : List ℕ) (out' at' : ℕ) → Written n w o done out' w₂ → at' ≡ after_at w₂ at →
            CanAny (strip_any (keep_any m next.a)) → SaneAny (strip_any (keep_any m next.a)) →
            rest_of c.lies.a ≡ done ++ rest_of next.a → Going (rest - 1) at' out' w₂
        past w₂ done out' at' a e k l q =
            let r = read w₂ a.holds.long (based n w c.base o done out' w₂ a).loaded in
            let z = next.later in
            subst (λ (j : ℕ). Going (rest - 1) j out' w₂) (sym (e ∙ r.after)) (record {
              b = next.a;
              l = next.stand.1;
              stand = next.stand.4;
              within = first.1;
              many = omega arith;
              nests = next.nests.1;
              among = next.among.1;
              can = k;
              sane = l;
              done = done;
              written = a;
              words_are = q;
            })

        module _ (out' : ℕ) (w₂ : List ℕ) (turn : Turn n w₁ at x left out out' w₂) where
          turn_done : (xs : List ℕ) × Written n w o xs out' w₂
          turn_done = go turn
            where
              go : Turn n w₁ at x left out out' w₂ → (xs : List ℕ) × Written n w o xs out' w₂
              go (skipped e f q) = (
                v.done,
                subst (λ (z : List ℕ). Written n w o v.done out' z) (sym f)
                    (subst (λ (j : ℕ). Written n w o v.done j w₁) (sym q) v.written),
              )
              go (taken r w' e u f q) = (
                v.done ++ layout.words (shown (strip (keep m next.d))),
                subst (λ (z : List ℕ). Written n w o (v.done ++ layout.words (shown (strip (keep m next.d)))) out' z) (sym f)
                    (subst (λ (j : ℕ). Written n w o (v.done ++ layout.words (shown (strip (keep m next.d)))) j w') (sym q)
                    (offer_told e r w' u)),
              )

          pub turn_inside : ((at < 2048) × (16384 ≤ length w₂)) × (tail_at w₂ at < 2048)
          turn_inside =
              let a = turn_done in
              let long = a.1.holds.long in
              let r = read w₂ long (based n w c.base o a.0 out' w₂ a.1).loaded in
              ((r.here, long), r.inside)

          pub turn_on : (at' : ℕ) → at' ≡ after_at w₂ at → Going (rest - 1) at' out' w₂
          turn_on at' z = go turn
            where
              go : Turn n w₁ at x left out out' w₂ → Going (rest - 1) at' out' w₂
              go (skipped e f q) =
                  let gone = ap strip_any (keep_false m next.x next.d next.a (own false e)) in
                  past w₂ v.done out' at' (subst (λ (z : List ℕ). Written n w o v.done out' z) (sym f)
                  (subst (λ (j : ℕ). Written n w o v.done j w₁) (sym q) v.written)) z (subst CanAny gone next.can)
                  (subst SaneAny gone next.sane) (next.whole ∙ ap (λ (b : Alts). v.done ++ alts_words (shown_any b)) gone)
              go (taken r w' e u f q) =
                  past w₂ (v.done ++ layout.words (shown (strip (keep m next.d)))) out' at'
                  (subst (λ (z : List ℕ). Written n w o (v.done ++ layout.words (shown (strip (keep m next.d)))) out' z) (sym f)
                  (subst (λ (j : ℕ). Written n w o (v.done ++ layout.words (shown (strip (keep m next.d)))) j w') (sym q)
                  (offer_told e r w' u))) z
                  (subst CanAny (kept_are e) next.can).1 (subst SaneAny (kept_are e) next.sane).1 (words_next e)
