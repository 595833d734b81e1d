-- A table of spots, each met by an arc from an earlier one, joins to the graph of a part when it tells what the part's facts tell.
-- Assumes nothing.
use mathlib.Core.Path.{◌≡◌, refl, ap, sym, ◌∙◌, subst}
use mathlib.Core.Logic.{◌⊎◌, inl, inr, ⊎_elim, ◌↔◌}
use mathlib.Core.Option.{none, some}
use mathlib.Core.List.Memᴰ
use mathlib.Core.List.{List, [], ◌∷◌, ◌++◌, Memᴰ}
use Prim.Native.Nat.{ℕ, zero, suc, ◌<◌, ◌≤◌}
use native.Mathlib.Decide.{dec_lt}
use native.Mathlib.Omega.{arith}
use Rattle.theory.specs.Net.{Graph, Net, roots, ClashOf, JoinedOf}
use Rattle.theory.specs.Structure.{Structure, Into, SatisfiesAll}
use Rattle.formulas.specs.Formula.{Path, Leads}
use Rattle.formulas.specs.Part.{Fact, reach, bears, share, part_graph}
use Rattle.formulas.proofs.Walks.{leads_on, leads_back, leads_one}
use Rattle.formulas.proofs.Joining.{Keeps}
use Rattle.formulas.proofs.Facts.{FactHolds, FactsHold}
use Rattle.formulas.proofs.Alike.{net_definite, net_clash}

-- spots by number, 0 the root; some of them belong to the part, with their atoms and with pairs that are shared
pub record Table : Type 1 where
  pub Member : ℕ → Type 0
  pub Edge : ℕ → ℕ → ℕ → Type 0
  pub Bears : ℕ → ℕ → Type 0
  pub Shares : ℕ → ℕ → Type 0

module _ (T : Table) where
  abbrev pub spots : Net
  spots = record {
    Spot = (i : ℕ) × T.Member i;
    Root = λ x. x.0 ≡ 0;
    Atom = λ x a. T.Bears x.0 a;
    Arc = λ x f y. T.Edge x.0 f y.0;
  }

  abbrev pub shared : spots.Spot → spots.Spot → Type 0
  shared x y = roots spots x y ⊎ T.Shares x.0 y.0

  -- each member has a path, and the facts are those of the members
  pub record Tells (F : List Fact) : Type 1 where
    pub path : ℕ → Path
    pub path_root : path 0 ≡ []
    pub path_next : (i f j : ℕ) → T.Edge i f j → path j ≡ path i ++ f ∷ []
    pub root_in : T.Member 0
    pub parent : (j : ℕ) → T.Member j → 0 < j → (i : ℕ) × (f : ℕ) × T.Member i × T.Edge i f j × (i < j)
    pub bears_in : (i a : ℕ) → T.Member i → T.Bears i a → Memᴰ (bears (path i) a) F
    pub shares_in : (i j : ℕ) → T.Member i → T.Member j → T.Shares i j → Memᴰ (share (path i) (path j)) F
    pub reach_in : (i : ℕ) → T.Member i → (S : Structure) → FactsHold S F → FactHolds S (reach (path i))
    pub reach_from : (p : Path) → Memᴰ (reach p) F → (i : ℕ) × T.Member i × (path i ≡ p)
    pub bears_from : (p : Path) (a : ℕ) → Memᴰ (bears p a) F → (i : ℕ) × T.Member i × (path i ≡ p) × T.Bears i a
    pub shares_from : (p q : Path) → Memᴰ (share p q) F →
        (i : ℕ) × (j : ℕ) × T.Member i × T.Member j × (path i ≡ p) × (path j ≡ q) × T.Shares i j

  fact_in : (S : Structure) (F : List Fact) (f : Fact) → Memᴰ f F → FactsHold S F → FactHolds S f
  fact_in S [] f m p = absurd (Memᴰ.not-nil m)
  fact_in S (g ∷ F) f m p = ⊎_elim (λ e. subst (FactHolds S) (sym e) p.0) (λ i. fact_in S F f i p.1) (Memᴰ.cases_cons m)

  in_facts : (S : Structure) (F : List Fact) → ((f : Fact) → Memᴰ f F → FactHolds S f) → FactsHold S F
  in_facts S [] h = tt
  in_facts S (f ∷ F) h = (h f (Memᴰ.head refl), in_facts S F (λ g m. h g (Memᴰ.tail m)))

  module _ (F : List Fact) (t : Tells F) (S : Structure) where
    abbrev N : Net
    N = spots

    abbrev C : Type 0
    C = S.Carrier

    -- a map of the spots follows their paths
    module _ (h : Into N S) (k : Keeps N shared S h) where
      abbrev Led : ℕ → Type 0
      Led i = (m : T.Member i) → Leads S S.start (t.path i) (h.to (i, m))

      led_root : (i : ℕ) → i ≡ 0 → Led i
      led_root i e m = subst (λ (z : Path). Leads S S.start z (h.to (i, m))) (sym (ap t.path e ∙ t.path_root))
          (sym (h.root_to (i, m) e))

      led_next : (i : ℕ) → 0 < i → ((j : ℕ) → j < i → Led j) → Led i
      led_next i z r m =
          let (j, f, q, e, l) = t.parent i m z in
          subst (λ (p : Path). Leads S S.start p (h.to (i, m))) (sym (t.path_next j f i e))
          (leads_on S S.start (t.path j) (f ∷ []) (h.to (j, q)) (h.to (i, m)) (r j l q)
          (h.to (i, m), h.arc_to (j, q) f (i, m) e, refl))

      leads : (n i : ℕ) → i ≤ n → Led i
      leads zero i l = led_root i (omega arith)
      leads (suc n) i l = go (dec_lt 0 i) (leads n)
        where
          go : Dec (0 < i) → ((j : ℕ) → j ≤ n → Led j) → Led i
          go (yes z) r = led_next i z (λ j k. r j (omega arith))
          go (no z) r = led_root i (omega arith)

      follow : (i : ℕ) (m : T.Member i) → Leads S S.start (t.path i) (h.to (i, m))
      follow i m = leads i i (omega arith) m

      told : (f : Fact) → Memᴰ f F → FactHolds S f
      told (reach p) i = let (x, m, e) = t.reach_from p i in
          (h.to (x, m), subst (λ (z : Path). Leads S S.start z (h.to (x, m))) e (follow x m))
      told (bears p a) i = let (x, m, e, b) = t.bears_from p a i in
          (h.to (x, m), subst (λ (z : Path). Leads S S.start z (h.to (x, m))) e (follow x m), h.atom_to (x, m) a b)
      told (share p q) i = let (x, y, m, n, d, e, s) = t.shares_from p q i in
          let c : h.to (x, m) ≡ h.to (y, n) = k (x, m) (y, n) (inr s) in (
            h.to (x, m),
            subst (λ (z : Path). Leads S S.start z (h.to (x, m))) d (follow x m),
            subst (λ (z : C). Leads S S.start q z) (sym c) (subst (λ (z : Path). Leads S S.start z (h.to (y, n))) e (follow y n)),
          )

    -- and back
    module _ (p : FactsHold S F) where
      node : N.Spot → C
      node x = (t.reach_in x.0 x.1 S p).0

      goes : (x : N.Spot) → Leads S S.start (t.path x.0) (node x)
      unfolding node
      goes x = (t.reach_in x.0 x.1 S p).1

      node_root : (x : N.Spot) → x.0 ≡ 0 → node x ≡ S.start
      node_root x e = sym (subst (λ (z : Path). Leads S S.start z (node x)) (ap t.path e ∙ t.path_root) (goes x))

      node_atom : (x : N.Spot) (a : ℕ) → T.Bears x.0 a → S.Has (node x) a
      node_atom x a b = let (d, l, h) = fact_in S F (bears (t.path x.0) a) (t.bears_in x.0 a x.1 b) p in
          subst (λ (z : C). S.Has z a) (leads_one S S.start (t.path x.0) d (node x) l (goes x)) h

      node_arc : (x : N.Spot) (f : ℕ) (y : N.Spot) → N.Arc x f y → S.Goes (node x) f (node y)
      node_arc x f y e =
          let l : Leads S S.start (t.path x.0 ++ f ∷ []) (node y) =
          subst (λ (z : Path). Leads S S.start z (node y)) (t.path_next x.0 f y.0 e) (goes y) in
          let (c, a, (d, u, v)) = leads_back S S.start (t.path x.0) (f ∷ []) (node y) l in
          subst (λ (w : C). S.Goes w f (node y)) (leads_one S S.start (t.path x.0) c (node x) a (goes x))
          (subst (λ (w : C). S.Goes c f w) v u)

      into : Into N S
      into = record { to = node; root_to = node_root; atom_to = node_atom; arc_to = node_arc }

      keeps : Keeps N shared S into
      unfolding into
      keeps x y (inl r) = node_root x r.0 ∙ sym (node_root y r.1)
      keeps x y (inr s) =
          let (d, l, m) = fact_in S F (share (t.path x.0) (t.path y.0)) (t.shares_in x.0 y.0 x.1 y.1 s) p in
          leads_one S S.start (t.path x.0) (node x) d (goes x) l ∙ leads_one S S.start (t.path y.0) d (node y) m (goes y)

    says : ((h : Into N S) × Keeps N shared S h) ↔ (FactsHold S F × SatisfiesAll S [])
    says = (λ (h, k). (in_facts S F (told h k), tt), λ p. (into p.0, keeps p.0))

  -- what the table joins to is the part's graph, and where it clashes the part does
  pub spots_definite : (F : List Fact) → Tells F → (G : Graph) → JoinedOf spots shared G → part_graph F [] ≡ some G
  spots_definite F t G j = net_definite F [] tt spots shared (says F t) (0, t.root_in) refl G j

  pub spots_clash : (F : List Fact) → Tells F → ClashOf spots shared → part_graph F [] ≡ none
  spots_clash F t c = net_clash F [] tt spots shared (says F t) c
