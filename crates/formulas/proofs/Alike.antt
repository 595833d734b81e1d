-- The graph of a part is known from what the part says of structures: any net that says the same joins to the same graph.
-- Assumes nothing.
use mathlib.Core.Path.{◌≡◌, refl, ap}
use mathlib.Core.Logic.{⊎_elim, ◌↔◌}
use mathlib.Core.Option.{Option, none, some}
use mathlib.Core.List.Memᴰ
use mathlib.Core.List.{List, [], ◌∷◌}
use Rattle.theory.specs.Net.{Graph, Net, Canonical, ClashOf, JoinedOf, Joined}
use Rattle.theory.specs.Structure.{Structure, Into, Satisfies, SatisfiesAll}
use Rattle.theory.proofs.Unique.{joined_unique}
use Rattle.theory.proofs.Instance.{AllCanonical}
use Rattle.descriptions.proofs.Laws.{Within}
use Rattle.theory.proofs.Sets.{joined_within}
use Rattle.theory.proofs.Fit.{structure, fits}
use Rattle.theory.proofs.Senses.{structure_itself}
use Rattle.formulas.specs.Part.{Fact, part, seeds, part_graph}
use Rattle.formulas.proofs.Chains.{first}
use Rattle.formulas.proofs.Definite.{Answer, is_definite, is_clash, definite_answers}
use Rattle.formulas.proofs.Joining.{Keeps, clash_to, joined_down, joined_keeps, joined_up}
use Rattle.formulas.proofs.Facts.{FactsHold, part_says, definite_sat, clashes_sat}

swap : (G K : Graph) → Within (G ∷ K ∷ []) (K ∷ G ∷ [])
swap G K g m = ⊎_elim (λ e. Memᴰ.tail (Memᴰ.head e))
    (λ i. ⊎_elim (λ e. Memᴰ.head e) (λ j. Memᴰ.tail (Memᴰ.tail j)) (Memᴰ.cases_cons i)) (Memᴰ.cases_cons m)

-- two graphs that the same structures satisfy are one
pub same_graph : (G K : Graph) → Canonical G → Canonical K → ((S : Structure) → Satisfies S G ↔ Satisfies S K) → G ≡ K
same_graph G K c d s =
    let a : Joined (G ∷ K ∷ []) G = fits G c K d ((s (structure G c)).0 (structure_itself G c)) in
    let b : Joined (K ∷ G ∷ []) K = fits K d G c ((s (structure K d)).1 (structure_itself K d)) in
    joined_unique (G ∷ K ∷ []) G K a (joined_within (K ∷ G ∷ []) (G ∷ K ∷ []) (d, (c, tt)) (c, (d, tt)) (swap K G) (swap G K) K b)

module _ (F : List Fact) (gs : List Graph) (can : AllCanonical gs) (N : Net) (Seed : N.Spot → N.Spot → Type 0)
    (says : (S : Structure) → ((h : Into N S) × Keeps N Seed S h) ↔ (FactsHold S F × SatisfiesAll S gs)) where
  pub net_definite : (x : N.Spot) → N.Root x → (G : Graph) → JoinedOf N Seed G → part_graph F gs ≡ some G
  net_definite x r G j = go (part_graph F gs) (definite_answers F gs can)
    where
      sat : (S : Structure) → Satisfies S G ↔ (FactsHold S F × SatisfiesAll S gs)
      sat S = (
        λ h. (says S).0 (joined_down N Seed S G j h, joined_keeps N Seed S G j h),
        λ p. let (h, k) = (says S).1 p in
            joined_up N Seed S G j h k (x, r),
      )

      go : (o : Option Graph) → Answer F gs can o → o ≡ some G
      go none (is_clash k) = let p = (sat (structure G j.canonical)).0 (structure_itself G j.canonical) in
          absurd (clashes_sat (structure G j.canonical) F gs k p.0 p.1)
      go (some H) (is_definite K i) =
          ap {B = Option Graph} some
          (same_graph K G i.canonical j.canonical
          (λ S. (λ h. (sat S).1 ((definite_sat S F gs K i).0 h), λ h. (definite_sat S F gs K i).1 ((sat S).0 h))))

  pub net_clash : ClashOf N Seed → part_graph F gs ≡ none
  net_clash c = go (part_graph F gs) (definite_answers F gs can)
    where
      go : (o : Option Graph) → Answer F gs can o → ◌≡◌ {A = Option Graph} o none
      go none (is_clash k) = refl
      go (some H) (is_definite K i) =
          let S : Structure = structure K i.canonical in
          let (h, k) = (says S).1 ((definite_sat S F gs K i).0 (structure_itself K i.canonical)) in
          absurd (clash_to N Seed S h k c)

-- parts that say the same have the same graph
pub part_same : (F H : List Fact) (gs hs : List Graph) → AllCanonical gs → AllCanonical hs →
    ((S : Structure) → (FactsHold S F × SatisfiesAll S gs) ↔ (FactsHold S H × SatisfiesAll S hs)) → part_graph F gs ≡ part_graph H hs
part_same F H gs hs c d s = go (part_graph H hs) (definite_answers H hs d)
  where
    says : (S : Structure) → ((h : Into (part H hs) S) × Keeps (part H hs) (seeds H hs) S h) ↔ (FactsHold S F × SatisfiesAll S gs)
    says S = (λ h. (s S).1 ((part_says S H hs).0 h), λ p. (part_says S H hs).1 ((s S).0 p))

    go : (o : Option Graph) → Answer H hs d o → part_graph F gs ≡ o
    go none (is_clash k) = net_clash F gs c (part H hs) (seeds H hs) says k
    go (some G) (is_definite K j) = net_definite F gs c (part H hs) (seeds H hs) says (first H hs) refl K j
