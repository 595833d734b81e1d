-- Each return of a call is the table's. Assumes nothing.
use mathlib.Core.Path.{◌≡◌, refl, sym, ap, ◌∙◌, subst}
use mathlib.Core.Logic.{◌⊎◌, inl, inr}
use mathlib.Core.List.{List, [], ◌++◌}
use Prim.Native.Nat.{ℕ, ◌+◌, ◌≤◌, ◌<◌}
use native.Mathlib.Omega.{arith}
use lib.ListN.{length, take, drop, replicate, length-append, length-take}
use Rattle.std.specs.Array.{IsFirstChunk}
use lib.Seq.{drop_at}
use Rattle.std.proofs.Math.ListN.{drop_of_length-le}
use Rattle.std.proofs.lemmas.List.{append-nil, take-append-drop}
use Rattle.theory.specs.Limits.{input_limit, working_size}
use Rattle.theory.specs.Descr.{Desc}
use Rattle.theory.specs.Layout.{words}
use Rattle.theory.specs.LayoutOne.{Image}
use Rattle.theory.specs.Answer.{Answer, Call, clash_at, no_room, refuse, success}
use Rattle.theory.specs.Rules.{mode_readings, Accepted, Given, one, two, three, four, five, six, ten, seven, eleven, eight, done}
use Rattle.theory.specs.Outcome.{Areas, Outcome, Row, wiped}
use Rattle.descriptions.proofs.Areas.{worked_same, worked_zero, worked_more}
use Rattle.layout.specs.Standing.{Stands}
use Rattle.layout.specs.Judged.{Judged}
use Rattle.std.specs.Prelude.{Bool, true, false, Ok, Err}
use Rattle.layout.proofs.Standing.{stands_within, stands_taken}
use Rattle.area.specs.Map.{RESULT}
use Rattle.area.specs.Region.{region}
use Rattle.opening.specs.Opening.{Read, Opening}
use Rattle.answering.specs.declared.hand.Failure.TheVariants as failure
use Rattle.answering.specs.declared.answer.Refusal.TheVariants.{Clash, TooMany, NoRoom, QuickFails, NoChoice}
use Rattle.answering.specs.Answer.{Made, Answer as Reply}
use Rattle.answering.specs.Number.{row_of}
use Rattle.unify.specs.Making.{Makes, Meant}
use Rattle.unify.proofs.Made as inputs
use Rattle.answering.specs.Handing.{ResultInside, Handed}

-- words that stand at a place are the region there
stands_region : (ws xs : List ℕ) (p q : ℕ) → Stands ws p xs q → region p (length xs) ws ≡ xs
unfolding region
stands_region ws xs p q h = stands_taken ws xs p q h

-- n words are wiped, with what stands behind them and without
wiped_all : (n : ℕ) (w : List ℕ) → length w ≡ n → wiped n w ≡ replicate n 0
unfolding wiped
wiped_all n w e = ap (λ (l : List ℕ). replicate n 0 ++ l) (drop_of_length-le w {i = n} (omega arith)) ∙ append-nil (replicate n 0)

wiped_front : (n : ℕ) (w rest : List ℕ) → length w ≡ n → wiped n (w ++ rest) ≡ replicate n 0 ++ rest
unfolding wiped
wiped_front n w rest e = ap (λ (l : List ℕ). replicate n 0 ++ l) (drop_at w rest n e)

-- the row of a refusal
abbrev told : ℕ → Row
told n = record { number = n; extent = 0; readings = 0; node = 0 }

-- ---- numbers 1 to 5
module _ (c : Call) (s w : List ℕ) where
  abbrev areas : Areas
  areas = record { result = s; working = w }

  refused : (n : ℕ) → 1 ≤ n → n ≤ 5 → Given c (length s) (length w) (refuse n) → Outcome c areas (told n) areas
  refused n l h g = record {
    answer = refuse n;
    given = g;
    the_number = refl;
    the_extent = refl;
    the_readings = refl;
    the_node = refl;
    the_result = refl;
    the_working = sym (worked_same n w l h);
  }

  pub bad_mode : 2 < c.mode → Outcome c areas (told 1) areas
  bad_mode h = refused 1 (omega arith) (omega arith) (one h)

  module _ (m : c.mode ≤ 2) where
    pub small_area : length w < working_size → Outcome c areas (told 2) areas
    small_area h = refused 2 (omega arith) (omega arith) (two m h)

    module _ (l : working_size ≤ length w) where
      pub too_long : (input_limit < length c.first) ⊎ (input_limit < length c.second) → Outcome c areas (told 3) areas
      too_long h = refused 3 (omega arith) (omega arith) (three m l h)

      module _ (fa : length c.first ≤ input_limit) (fb : length c.second ≤ input_limit) where
        pub bad_first : ¬ (Image c.first) → Outcome c areas (told 4) areas
        bad_first h = refused 4 (omega arith) (omega arith) (four m l fa fb h)

        pub bad_second : Image c.first → ¬ (Image c.second) → Outcome c areas (told 5) areas
        bad_second i h = refused 5 (omega arith) (omega arith) (five m l fa fb i h)

-- ---- the area v is lent as the first words of w, and given back
module _ (c : Call) (s v w : List ℕ) (k : IsFirstChunk w v working_size) where
  abbrev behind : List ℕ
  behind = drop working_size w

  lent_back : v ++ behind ≡ w
  lent_back = ap (λ (l : List ℕ). l ++ behind) k.same ∙ take-append-drop working_size w

  pub lent_long : working_size ≤ length v
  lent_long = let e : length v ≡ length (take working_size w) = ap length k.same in omega (arith, e, k.enough, length-take working_size w)

  -- as it was
  pub lent_kept : (r : Row) → Outcome c (record { result = s; working = w }) r (record { result = s; working = w }) →
      Outcome c (record { result = s; working = w }) r (record { result = s; working = v ++ behind })
  lent_kept r o =
      subst (λ (z : List ℕ). Outcome c (record { result = s; working = w }) r (record { result = s; working = z })) (sym lent_back) o

  -- as v' with what stands behind
  pub lent_changed : (r : Row) (s' v' : List ℕ) →
      Outcome c (record { result = s; working = v ++ behind }) r (record { result = s'; working = v' ++ behind }) →
      Outcome c (record { result = s; working = w }) r (record { result = s'; working = v' ++ behind })
  lent_changed r s' v' o =
      subst (λ (z : List ℕ). Outcome c (record { result = s; working = z }) r (record { result = s'; working = v' ++ behind })) lent_back o

-- a judgement that is not "accepted"
pub no_image : (ws : List ℕ) (r : Bool) → r ≡ false → Judged ws r → ¬ (Image ws)
no_image ws r e j i = let f : r ≡ true = j.complete i in let z : ◌≡◌ {A = ℕ} 0 1 = cc in absurd (omega arith)

pub opening : (a b w : List ℕ) → working_size ≤ length w → length a ≤ input_limit → length b ≤ input_limit → Image a → Image b →
    Opening w a b
opening a b w l fa fb ia ib = record { long = l; inputs = record { first = ia; second = ib; first_few = fa; second_few = fb } }

-- ---- the other numbers
module _ (mode : ℕ) (a b w : List ℕ) (m : mode ≤ 2) (o : Opening w a b) where
  abbrev d : Desc
  d = inputs.one o

  abbrev e : Desc
  e = inputs.two o

  read : Read a b d e
  read = inputs.reads o

  abbrev asked : Call
  asked = record { mode = mode; first = a; second = b }

  accepted : (words : ℕ) → working_size ≤ words → Accepted asked words d e
  accepted words fine = record {
    mode_fine = m;
    area_fine = fine;
    first_short = o.inputs.first_few;
    second_short = o.inputs.second_few;
    first_well = read.first_well;
    second_well = read.second_well;
    first_is = read.first_is;
    second_is = read.second_is;
  }

  module _ (r : Made) (w₁ : List ℕ) (k : Makes mode w a b r w₁) where
    within : RESULT ≤ length w₁
    within = let l = k.len in let h = o.long in omega arith

    pub made_room : ResultInside w₁ r
    made_room = go r (k.told d e read)
      where
        go : (r : Made) → Meant mode d e w₁ r → ResultInside w₁ r
        go (Err (failure.Clash i)) h = tt
        go (Err failure.QuickFails) h = tt
        go (Err failure.TooMany) h = tt
        go (Err failure.NoChoice) h = tt
        go (Ok u) (c, t, x, q, l, v, h) = stands_within w₁ (words x) RESULT (RESULT + u.length) within h

    -- the area is the first words of those that were lent
    module _ (s w₂ : List ℕ) (z : w₂ ≡ wiped working_size w₁) (size : length w ≡ working_size) (rest : List ℕ) where
      abbrev whole : List ℕ
      whole = w ++ rest

      abbrev whole₂ : List ℕ
      whole₂ = w₂ ++ rest

      fine : Accepted asked (length whole) d e
      fine = accepted (length whole) (omega (arith, length-append w rest, size))

      zeros : whole₂ ≡ wiped working_size whole
      zeros = ap (λ (l : List ℕ). l ++ rest) (z ∙ wiped_all working_size w₁ (k.len ∙ size)) ∙ sym (wiped_front working_size w rest size)

      abbrev Comes : Reply → List ℕ → Type 0
      Comes y s₁ = Outcome asked (record { result = s; working = whole }) (row_of y) (record { result = s₁; working = whole₂ })

      pub concluded : (y : Reply) (s₁ : List ℕ) → Handed w₁ s r y s₁ →
          Outcome asked (record { result = s; working = whole }) (row_of y) (record { result = s₁; working = whole₂ })
      concluded y s₁ = go r (k.told d e read)
        where
          at : (y' : Reply) (s' : List ℕ) → Comes y' s' → y ≡ y' → s₁ ≡ s' → Comes y s₁
          at y' s' h p q = subst (λ (z : Reply). Comes z s₁) (sym p) (subst (Comes y') (sym q) h)

          -- an answer that writes nothing and has no length, and what is told of it
          nothing_told : ℕ → ℕ → Row
          nothing_told n i = record { number = n; extent = 0; readings = 0; node = i }

          nothing_given : ℕ → ℕ → Answer
          nothing_given n i = record { number = n; extent = 0; readings = 0; node = i; result = [] }

          refusal : (n i : ℕ) → 6 ≤ n → Given asked (length s) (length whole) (nothing_given n i) →
              Outcome asked (record { result = s; working = whole }) (nothing_told n i) (record { result = s; working = whole₂ })
          refusal n i h g = record {
            answer = nothing_given n i;
            given = g;
            the_number = refl;
            the_extent = refl;
            the_readings = refl;
            the_node = refl;
            the_result = refl;
            the_working = zeros ∙ sym (worked_more n whole h);
          }

          go : (r : Made) → Meant mode d e w₁ r → Handed w₁ s r y s₁ → Comes y s₁
          go (Err (failure.Clash i)) (h, n) (p, q) = at (Err (Clash i)) s (refusal 6 i (omega arith) (six d e i fine h n)) p q
          go (Err failure.QuickFails) (j, h, f) (p, q) = at (Err QuickFails) s (refusal 10 0 (omega arith) (ten d e fine j h f)) p q
          go (Err failure.TooMany) (c, t) (p, q) = at (Err TooMany) s (refusal 7 0 (omega arith) (seven d e fine c t)) p q
          go (Err failure.NoChoice) (c, t, h, z) (p, q) = at (Err NoChoice) s (refusal 11 0 (omega arith) (eleven d e fine c t h z)) p q
          go (Ok u) (c, t, x, f, l, v, h) (inl (short, p, q)) =
              at (Err (NoRoom u.length)) s (record {
                answer = no_room (length (words x));
                given = eight d e x fine c t f (omega arith);
                the_number = refl;
                the_extent = l;
                the_readings = refl;
                the_node = refl;
                the_result = refl;
                the_working = zeros ∙ sym (worked_more 8 whole (omega arith));
              }) p q
          go (Ok u) (c, t, x, f, l, v, h) (inr (fits, p, q)) =
              at (Ok u) (region RESULT u.length w₁ ++ drop u.length s) (record {
                answer = success (mode_readings mode d e) (words x);
                given = done d e x fine c t f (omega arith);
                the_number = refl;
                the_extent = l;
                the_readings = v;
                the_node = refl;
                the_result =
                    ap (λ (i : ℕ). region RESULT i w₁ ++ drop i s) l
                    ∙ ap (λ (z : List ℕ). z ++ drop (length (words x)) s) (stands_region w₁ (words x) RESULT (RESULT + u.length) h);
                the_working = zeros ∙ sym (worked_zero whole);
              }) p q
