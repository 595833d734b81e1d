-- The limits of a well-formed description, but for the number of arcs of a node, and the number of its words: joining and tidying keep
-- them.
-- Assumes nothing.
use mathlib.Core.Path.{◌≡◌, refl, subst}
use mathlib.Core.Option.{Option, none, some}
use mathlib.Core.List.{List, [], ◌∷◌}
use Prim.Native.Nat.{ℕ, zero, suc, ◌+◌, ◌≤◌}
use native.Mathlib.Omega.{arith}
use lib.ListN.{length}
use Rattle.descriptions.specs.Descr.{Alts, Desc, Disjs, ◌and◌, ◌or◌, ◌then◌, alts, desc, end, fail}
use Rattle.descriptions.specs.Modes.{Round, after, finish, glue, joined, kept, quick, round, size, tidy}
use Rattle.descriptions.proofs.Laws.{Laws}
use Rattle.descriptions.proofs.Mean.{Can, CanAll, CanAny}
use Rattle.descriptions.proofs.Weights.{Weights, total}
use Rattle.descriptions.specs.Joining.{Joining}
use Rattle.descriptions.specs.Canonical.{All}

module _ {Graph : Type 0} {J : Joining Graph} {𝓛 : Laws J} (𝓦 : Weights 𝓛) where
  open J use {join, nil}
  open 𝓛 use {Canonical, nil_canonical}
  open 𝓦 use {SoftGraph, weight}

  -- so does what is folded in
  pub glue_kept : (g : Graph) (hs : List Graph) → Canonical g → All Canonical hs → SoftGraph g → All SoftGraph hs → (k : Graph) →
      glue J g hs ≡ some k → Canonical k × SoftGraph k × (weight k + length (g ∷ hs) ≤ suc (total weight (g ∷ hs)))
  glue_kept g [] c f s t k e = let i : g ≡ k = cc in
      subst (λ (z : Graph). Canonical z × SoftGraph z × (weight z + length (g ∷ []) ≤ suc (total weight (g ∷ [])))) i (c, s, omega arith)
  glue_kept g (h ∷ hs) c f s t k e =
      let gs : List Graph = g ∷ h ∷ hs in
      let cs : All Canonical gs = (c, f) in
      (𝓛.fits gs (omega arith) cs k e, 𝓦.soft_join gs (omega arith) cs (s, t) k e, 𝓦.weight_join gs (omega arith) cs k e)

  -- at least m alternatives, nested at most n deep
  abbrev mutual
    pub Soft : ℕ → Desc Graph → ℕ → Type 0
    Soft m (desc g ds) n = Canonical g × SoftGraph g × SoftAll m ds n

    pub SoftAll : ℕ → Disjs Graph → ℕ → Type 0
    SoftAll m end n = Unit {0}
    SoftAll m (a and ds) zero = ⊥
    SoftAll m (a and ds) (suc n) = (m ≤ alts a) × SoftAny m a n × SoftAll m ds (suc n)

    pub SoftAny : ℕ → Alts Graph → ℕ → Type 0
    SoftAny m fail n = Unit {0}
    SoftAny m (d or a) n = Soft m d n × SoftAny m a n

  mutual
    pub soft_can : (m : ℕ) (d : Desc Graph) (n : ℕ) → Soft m d n → Can 𝓛 d
    soft_can m (desc g ds) n p = (p.0, soft_all_can m ds n p.2)

    pub soft_all_can : (m : ℕ) (ds : Disjs Graph) (n : ℕ) → SoftAll m ds n → CanAll 𝓛 ds
    soft_all_can m end n p = tt
    soft_all_can m (a and ds) zero p = absurd p
    soft_all_can m (a and ds) (suc n) p = (soft_any_can m a n p.1, soft_all_can m ds (suc n) p.2)

    soft_any_can : (m : ℕ) (a : Alts Graph) (n : ℕ) → SoftAny m a n → CanAny 𝓛 a
    soft_any_can m fail n p = tt
    soft_any_can m (d or a) n p = (soft_can m d n p.0, soft_any_can m a n p.1)

  mutual
    pub soft_up : (m : ℕ) (d : Desc Graph) (n : ℕ) → Soft m d n → Soft m d (suc n)
    soft_up m (desc g ds) n p = (p.0, p.1, soft_all_up m ds n p.2)

    pub soft_all_up : (m : ℕ) (ds : Disjs Graph) (n : ℕ) → SoftAll m ds n → SoftAll m ds (suc n)
    soft_all_up m end n p = tt
    soft_all_up m (a and ds) zero p = absurd p
    soft_all_up m (a and ds) (suc n) p = (p.0, soft_any_up m a n p.1, soft_all_up m ds (suc n) p.2)

    soft_any_up : (m : ℕ) (a : Alts Graph) (n : ℕ) → SoftAny m a n → SoftAny m a (suc n)
    soft_any_up m fail n p = tt
    soft_any_up m (d or a) n p = (soft_up m d n p.0, soft_any_up m a n p.1)

  -- the number of words
  unfoldable mutual
    pub len : Desc Graph → ℕ
    len (desc g ds) = 2 + (weight g + len_all ds)

    pub len_all : Disjs Graph → ℕ
    len_all end = 0
    len_all (a and ds) = 1 + (len_any a + len_all ds)

    pub len_any : Alts Graph → ℕ
    len_any fail = 0
    len_any (d or a) = len d + len_any a

  -- disjunctions one after the other
  pub soft_then : (m : ℕ) (ds es : Disjs Graph) (n : ℕ) → SoftAll m ds n → SoftAll m es n → SoftAll m (ds then es) n
  soft_then m end es n p q = q
  soft_then m (a and ds) es zero p q = absurd p
  soft_then m (a and ds) es (suc n) p q = (p.0, p.1, soft_then m ds es (suc n) p.2 q)

  pub len_then : (ds es : Disjs Graph) → len_all (ds then es) ≡ len_all ds + len_all es
  unfolding len
  len_then end es = omega arith
  len_then (a and ds) es = let e = len_then ds es in omega (arith, e)

  -- mode 0
  abbrev pub JoinKept : Desc Graph → Desc Graph → ℕ → Option (Desc Graph) → Type 0
  JoinKept a b n none = Unit {0}
  JoinKept a b n (some d) = Soft 2 d n × (len d + 3 ≤ len a + len b)

  pub joined_kept : (a b : Desc Graph) (n : ℕ) → Soft 2 a n → Soft 2 b n → JoinKept a b n (joined J a b)
  unfolding joined len
  joined_kept (desc g ds) (desc h es) n p q = go (join (g ∷ h ∷ [])) refl
    where
      go : (o : Option Graph) → join (g ∷ h ∷ []) ≡ o →
          JoinKept (desc g ds) (desc h es) n (elim o [ none ↦ none | some k ↦ some (desc k (ds then es)) ])
      go none e = tt
      go (some k) e =
          let c : All Canonical (g ∷ h ∷ []) = (p.0, (q.0, tt)) in
          let w = 𝓦.weight_join (g ∷ h ∷ []) (omega arith) c k e in
          let l = len_then ds es in (
            (
              𝓛.fits (g ∷ h ∷ []) (omega arith) c k e,
              𝓦.soft_join (g ∷ h ∷ []) (omega arith) c (p.1, (q.1, tt)) k e,
              soft_then 2 ds es n p.2 q.2,
            ),
            omega (arith, w, l),
          )

  -- mode 1
  abbrev pub Kept : ℕ → Desc Graph → Option (Desc Graph) → Type 0
  Kept n d none = Unit {0}
  Kept n d (some e) = Soft 2 e n × (len e ≤ len d)

  abbrev pub RoundKept : ℕ → Disjs Graph → Option (Round Graph) → Type 0
  RoundKept n ds none = Unit {0}
  RoundKept n ds (some r) = All Canonical r.folded × All SoftGraph r.folded × SoftAll 2 r.left n
      × (len_all r.left + (total weight r.folded + length r.folded) ≤ len_all ds)

  module _ (t : Desc Graph → Option (Desc Graph)) (T : (n : ℕ) (d : Desc Graph) → Soft 2 d n → Kept n d (t d)) where
    any_kept : (n : ℕ) (a : Alts Graph) → SoftAny 2 a n → SoftAny 2 (kept t a) n × (len_any (kept t a) ≤ len_any a)
    unfolding len
    any_kept n fail p = (tt, omega arith)
    any_kept n (d or a) p = go (t d) (T n d p.0) (any_kept n a p.1)
      where
        go : (o : Option (Desc Graph)) → Kept n d o → SoftAny 2 (kept t a) n × (len_any (kept t a) ≤ len_any a) →
            SoftAny 2 (elim o [ none ↦ kept t a | some e ↦ e or kept t a ]) n
            × (len_any (elim o [ none ↦ kept t a | some e ↦ e or kept t a ]) ≤ len d + len_any a)
        go none s r = let l = r.1 in (r.0, omega (arith, l))
        go (some e) s r = let l = r.1 in let k = s.1 in ((s.0, r.0), omega (arith, l, k))

    after_kept : (n : ℕ) (b a : Alts Graph) (ds : Disjs Graph) (r : Round Graph) → SoftAny 2 a n → len_any a ≤ len_any b →
        RoundKept (suc n) ds (some r) → RoundKept (suc n) (b and ds) (after J a r)
    unfolding len
    after_kept n b fail ds r p h R = tt
    after_kept n b (desc g es or fail) ds r p h R =
        let l = len_then es r.left in
        let k = R.3 in
        ((p.0.0, R.0), (p.0.1, R.1), soft_then 2 es r.left (suc n) (soft_all_up 2 es n p.0.2) R.2, omega (arith, l, k, h))
    after_kept n b (d or (e or a)) ds r p h R = let k = R.3 in (R.0, R.1, (omega arith, p, R.2), omega (arith, k, h))

    round_kept : (n : ℕ) (ds : Disjs Graph) → SoftAll 2 ds n → RoundKept n ds (round J t ds)
    unfolding len
    round_kept n end p = (tt, tt, tt, omega arith)
    round_kept zero (a and ds) p = absurd p
    round_kept (suc n) (a and ds) p = go (round J t ds) (round_kept (suc n) ds p.2) (any_kept n a p.1)
      where
        go : (o : Option (Round Graph)) → RoundKept (suc n) ds o → SoftAny 2 (kept t a) n × (len_any (kept t a) ≤ len_any a) →
            RoundKept (suc n) (a and ds) (elim o [ none ↦ none | some r ↦ after J (kept t a) r ])
        go none R k = tt
        go (some r) R k = after_kept n a (kept t a) ds r k.0 k.1 R

  kept_le : (n : ℕ) (d e : Desc Graph) → len d ≤ len e → (o : Option (Desc Graph)) → Kept n d o → Kept n e o
  kept_le n d e h none k = tt
  kept_le n d e h (some f) k = let l = k.1 in (k.0, omega (arith, l, h))

  finish_kept : (again : Desc Graph → Option (Desc Graph)) → ((n : ℕ) (d : Desc Graph) → Soft 2 d n → Kept n d (again d)) →
      (n : ℕ) (g : Graph) → Canonical g → SoftGraph g → (ds left : Disjs Graph) (folded : List Graph) → All Canonical folded →
      All SoftGraph folded → SoftAll 2 left n →
      len_all left + (total weight folded + length folded) ≤ len_all ds → Kept n (desc g ds) (finish J again g left folded)
  unfolding finish len
  finish_kept again A n g c s ds left [] cf sf sl h = ((c, s, sl), omega arith)
  finish_kept again A n g c s ds left (x ∷ xs) cf sf sl h = go (join gs) refl
    where
      gs : List Graph
      gs = g ∷ x ∷ xs

      go : (o : Option Graph) → join gs ≡ o → Kept n (desc g ds) (elim o [ none ↦ none | some g' ↦ again (desc g' left) ])
      go none e = tt
      go (some g') e =
          let cs : All Canonical gs = (c, cf) in
          let w = 𝓦.weight_join gs (omega arith) cs g' e in
          kept_le n (desc g' left) (desc g ds) (omega (arith, w, h)) (again (desc g' left))
          (A n (desc g' left) (𝓛.fits gs (omega arith) cs g' e, 𝓦.soft_join gs (omega arith) cs (s, sf) g' e, sl))

  pub tidy_kept : (k : ℕ) (C : Graph) → Canonical C → (n : ℕ) (d : Desc Graph) → Soft 2 d n → Kept n d (tidy J k C d)
  unfolding tidy
  tidy_kept zero C cC n d p = (p, omega arith)
  tidy_kept (suc k) C cC n (desc g ds) p = go (join (C ∷ g ∷ [])) refl (λ K cK. tidy_kept k K cK)
    where
      go : (o : Option Graph) → join (C ∷ g ∷ []) ≡ o →
          ((K : Graph) → Canonical K → (n : ℕ) (d : Desc Graph) → Soft 2 d n → Kept n d (tidy J k K d)) →
          Kept n (desc g ds) (elim o [
            | none ↦ none
            | some K ↦ elim (round J (tidy J k K) ds) [ none ↦ none | some r ↦ finish J (tidy J k C) g r.left r.folded ]
          ])
      go none e T = tt
      go (some K) e T = two (round J (tidy J k K) ds)
          (round_kept (tidy J k K) (T K (𝓛.fits (C ∷ g ∷ []) (omega arith) (cC, (p.0, tt)) K e)) n ds p.2)
        where
          two : (o : Option (Round Graph)) → RoundKept n ds o →
              Kept n (desc g ds) (elim o [ none ↦ none | some r ↦ finish J (tidy J k C) g r.left r.folded ])
          two none R = tt
          two (some r) R = finish_kept (tidy J k C) (T C cC) n g p.0 p.1 ds r.left r.folded R.0 R.1 R.2 R.3

  pub quick_kept : (a b : Desc Graph) (n : ℕ) → Soft 2 a n → Soft 2 b n → JoinKept a b n (quick J a b)
  unfolding quick
  quick_kept a b n p q = go (joined J a b) (joined_kept a b n p q)
    where
      two : (d : Desc Graph) → len d + 3 ≤ len a + len b → (o : Option (Desc Graph)) → Kept n d o → JoinKept a b n o
      two d h none k = tt
      two d h (some e) k = let l = k.1 in (k.0, omega (arith, l, h))

      go : (o : Option (Desc Graph)) → JoinKept a b n o → JoinKept a b n (elim o [ none ↦ none | some d ↦ tidy J (suc (size d)) nil d ])
      go none k = tt
      go (some d) k = two d k.1 (tidy J (suc (size d)) nil d) (tidy_kept (suc (size d)) nil nil_canonical n d k.0)
