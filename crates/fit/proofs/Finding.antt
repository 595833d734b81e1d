-- Looking for a feature along arcs that rise, and what arcs of a node go to.
-- Assumes nothing.
use Prim.Native.Nat.{ℕ, suc, ◌+◌, ◌-◌, ◌*◌, ◌≤◌, ◌<◌}
use native.Mathlib.Omega.{arith}
use mathlib.Core.Path.{◌≡◌, refl, sym, ap, subst, ◌∙◌}
use mathlib.Core.Logic.{◌⊎◌, inl, inr, ◌↔◌}
use mathlib.Core.List.Memᴰ
use mathlib.Core.List.{List, [], ◌∷◌}
use lib.ListN.{get_or}
use Rattle.theory.specs.Net.{Rising}
use Rattle.theory.proofs.Unique.{rising_above, Arcs, In}
use Rattle.fit.specs.Parts.{lastArcs}
use Rattle.fit.specs.Sending.{SentArcs, Findable, Beyond, FindsTarget, hit}
use Rattle.std.specs.Prelude.{None}
use Rattle.fit.proofs.Parts.{arcs_none, last_step}

-- C has the arcs of B from feature f on
pub record Behind (B : Arcs) (f : ℕ) (C : Arcs) : Type 0 where
  pub kept : (g t : ℕ) → f ≤ g → In g t B → In g t C
  pub among : (g t : ℕ) → In g t C → In g t B

feature : {f t g u : ℕ} → ◌≡◌ {A = ℕ × ℕ} (f, t) (g, u) → f ≡ g
feature e = ap (λ (z : ℕ × ℕ). z.0) e

target : {f t g u : ℕ} → ◌≡◌ {A = ℕ × ℕ} (f, t) (g, u) → t ≡ u
target e = ap (λ (z : ℕ × ℕ). z.1) e

pub rising_all : (b : ℕ) (l : Arcs) → Rising b l → Rising 0 l
rising_all b [] r = tt
rising_all b (e ∷ l) r = (omega arith, r.1)

module _ (B : Arcs) (f : ℕ) where
  behind_none : (C : Arcs) → C ≡ [] → Behind B f C → (t : ℕ) → In f t B → ⊥
  behind_none C e b t i = Memᴰ.not-nil (subst (In f t) e (b.kept f t (omega arith) i))

  module _ (g u : ℕ) (D : Arcs) where
    -- an arc of a lower feature is passed
    behind_step : (C : Arcs) → C ≡ (g, u) ∷ D → g < f → Behind B f C → Behind B f D
    behind_step C e h b = record {
      kept = λ k t l i. go k t l (Memᴰ.cases_cons (subst (In k t) e (b.kept k t l i)));
      among = λ k t i. b.among k t (subst (In k t) (sym e) (Memᴰ.tail i));
    }
      where
        go : (k t : ℕ) → f ≤ k → (◌≡◌ {A = ℕ × ℕ} (k, t) (g, u)) ⊎ In k t D → In k t D
        go k t l (inl d) = absurd (omega (arith, feature d))
        go k t l (inr i) = i

    -- an arc of a higher feature comes first
    behind_high : (C : Arcs) → C ≡ (g, u) ∷ D → f < g → Rising 0 C → Behind B f C → (t : ℕ) → In f t B → ⊥
    behind_high C e h r b t i = go (Memᴰ.cases_cons (subst (In f t) e (b.kept f t (omega arith) i)))
      where
        go : (◌≡◌ {A = ℕ × ℕ} (f, t) (g, u)) ⊎ In f t D → ⊥
        go (inl d) = omega (arith, feature d)
        go (inr j) = omega (arith, rising_above (suc g) D (subst (Rising 0) e r).1 f t j)

  behind_hit : (C : Arcs) (u : ℕ) (D : Arcs) → C ≡ (f, u) ∷ D → Rising 0 C → Behind B f C → Beyond B f u D
  behind_hit C u D e r b = record {
    here = b.among f u (subst (In f u) (sym e) (Memᴰ.head refl));
    one = λ t i. same t (Memᴰ.cases_cons (subst (In f t) e (b.kept f t (omega arith) i)));
    later = λ g t h i. go g t h (Memᴰ.cases_cons (subst (In g t) e (b.kept g t (omega arith) i)));
    among = λ g t i. b.among g t (subst (In g t) (sym e) (Memᴰ.tail i));
  }
    where
      same : (t : ℕ) → (◌≡◌ {A = ℕ × ℕ} (f, t) (f, u)) ⊎ In f t D → t ≡ u
      same t (inl d) = target d
      same t (inr j) = absurd (omega (arith, rising_above (suc f) D (subst (Rising 0) e r).1 f t j))

      go : (g t : ℕ) → f < g → (◌≡◌ {A = ℕ × ℕ} (g, t) (f, u)) ⊎ In g t D → In g t D
      go g t h (inl d) = absurd (omega (arith, feature d))
      go g t h (inr j) = j

-- the loop that looks: the last `left` of the `count` arcs before e are behind
abbrev pub Looking : List ℕ → ℕ → ℕ → ℕ → ℕ → Type 0
Looking s e count f left = Findable s e left × Behind (lastArcs s e count) f (lastArcs s e left)

module _ (s : List ℕ) (e count f left : ℕ) (b : Looking s e count f left) where
  pub look_none : left ≤ 0 → FindsTarget s e count f None
  look_none h = behind_none (lastArcs s e count) f (lastArcs s e left) (arcs_none s (e - 2 * left) left h) b.1

  module _ (at : ℕ) (is : at ≡ e - 2 * left) (some : 0 < left) where
    split : lastArcs s e left ≡ (get_or s at 0, get_or s (at + 1) 0) ∷ lastArcs s e (left - 1)
    split = last_step s e left some b.0.room ∙ rw (← is)

    less : Findable s e (left - 1)
    less =
        let r = b.0.room in
        record {
          room = omega arith;
          inside = b.0.inside;
          rising =
              rising_all (suc (get_or s at 0)) (lastArcs s e (left - 1)) (subst (Rising 0) split b.0.rising).1;
        }

    pub look_high : f < get_or s at 0 → FindsTarget s e count f None
    look_high h = behind_high (lastArcs s e count) f (get_or s at 0) (get_or s (at + 1) 0) (lastArcs s e (left - 1)) (lastArcs s e left) split h
        b.0.rising b.1

    pub look_hit : f ≡ get_or s at 0 → FindsTarget s e count f (hit (get_or s (at + 1) 0) (left - 1))
    look_hit h = (
      less,
      behind_hit (lastArcs s e count) f (lastArcs s e left) (get_or s (at + 1) 0) (lastArcs s e (left - 1)) (split
          ∙ rw (← h)) b.0.rising b.1,
    )

    pub look_on : get_or s at 0 < f → Looking s e count f (left - 1)
    look_on h = (
      less,
      behind_step (lastArcs s e count) f (get_or s at 0) (get_or s (at + 1) 0) (lastArcs s e (left - 1))
          (lastArcs s e left) split h b.1,
    )

-- the rest of the rising arcs goes where the rest of B is
module _ (B C : Arcs) (f u : ℕ) (b : Beyond B f u C) (m : ℕ → ℕ) where
  rest_on : (l : Arcs) (k : ℕ) → f < k → Rising k l → SentArcs B m l → SentArcs C m l
  rest_on [] k h r s = tt
  rest_on (e ∷ l) k h r s = let q = r.0 in
      (b.later e.0 (m e.1) (omega arith) s.0, rest_on l (suc e.0) (omega arith) r.1 s.1)

  rest_back : (l : Arcs) → SentArcs C m l → SentArcs B m l
  rest_back [] s = tt
  rest_back (e ∷ l) s = (b.among e.0 (m e.1) s.0, rest_back l s.1)

  pub sent_first : (t : ℕ) (l : Arcs) → Rising 0 ((f, t) ∷ l) → SentArcs B m ((f, t) ∷ l) ↔ ((m t ≡ u) × SentArcs C m l)
  sent_first t l r = (
    λ s. (b.one (m t) s.0, rest_on l (suc f) (omega arith) r.1 s.1),
    λ s. (Memᴰ.cast (ap (λ (x : ℕ). (f, x)) s.0) b.here, rest_back l s.1),
  )
