-- What is found in the ways up to a number: nothing at first, with each way that agrees one choice more, and in all what the search finds.
-- Assumes nothing.
use Prim.Native.Nat.{ℕ, suc, ◌≤◌, ◌<◌}
use native.Mathlib.Omega.{arith}
use mathlib.Core.Path.{◌≡◌, refl, sym, ap, subst, ◌∙◌}
use mathlib.Core.Logic.{◌⊎◌, inl, inr, ⊎_elim}
use mathlib.Core.Bool.{Bool, true, false}
use mathlib.Core.List.Memᴰ
use mathlib.Core.List.{List, [], ◌∷◌, ◌++◌, append-nil, Memᴰ}
use lib.ListN.{length, take}
use lib.Seq.{take_all}
use Rattle.descriptions.specs.Descr.{number}
use Rattle.descriptions.proofs.Laws.{Within}
use Rattle.theory.specs.Limits.{choice_limit, choice_stop, depth_limit}
use Rattle.theory.specs.Net.{Graph, Canonical}
use Rattle.theory.specs.Descr.{agree, answers}
use Rattle.theory.specs.Canonical.{Can}
use Rattle.theory.specs.JoiningOne.{joining_one}
use Rattle.theory.proofs.Instance.{AllCanonical}
use Rattle.area.specs.Map.{SIZE}
use Rattle.area.specs.Region.{loaded_words}
use Rattle.engine.specs.Placed.{Placed, place, Places, strip}
use Rattle.engine.specs.Marks.{Marking, keep, keep_all}
use Rattle.engine.specs.Certain.{flat, certain}
use Rattle.engine.specs.Counting.{count_at}
use Rattle.engine.specs.Search.{Found}
use Rattle.engine.specs.Search as engine
use Rattle.engine.specs.Stack.{Equivalent}
use Rattle.engine.proofs.Entail.{Says, join_without}
use Rattle.engine.proofs.Finding.{search_through}
use Rattle.engine.proofs.Joined.{keep_can, Joins, joined_is}
use Rattle.modes_by_marks.proofs.Counting.{count_left}
use Rattle.modes_by_marks.proofs.Finding.{Pick, put, go_through, through_append, leaf_asked}
use Rattle.modes_by_marks.proofs.Picks.{Nth, picks_all_long}
use Rattle.loading.specs.Entry.{graphs}
use Rattle.marks.specs.Marked.{marking}
use Rattle.marks.proofs.Reading.{readable}
use Rattle.counting.specs.Counted.{CountedBoth, inner_both}
use Rattle.entering.specs.Inputs.{Inputs}
use Rattle.entering.specs.Stage.{Pair, Stage}
use Rattle.entering.proofs.Pairs.{whole_comes}
use Rattle.choosing.specs.Ways.{Take, marks_of, number_both, way_both}
use Rattle.choosing.proofs.Numbers.{Each, way_inside}
use Rattle.choosing.proofs.Nth.{entries_of, new_of, picks_both, picks_count, way_picks}
use Rattle.choosing.proofs.Newly.{way_sure}

-- one more of a list
take_more : {A : Type 0} (l : List A) (c : ℕ) (x : A) → Nth l c x → take (suc c) l ≡ take c l ++ x ∷ []
take_more {A} l c x s = subst (λ (z : List A). take (suc c) z ≡ take c z ++ x ∷ []) (sym s.is)
    (subst (λ (j : ℕ). take (suc j) (s.u ++ x ∷ s.v) ≡ take j (s.u ++ x ∷ s.v) ++ x ∷ []) s.long (go s.u))
  where
    go : (u : List A) → take (suc (length u)) (u ++ x ∷ s.v) ≡ take (length u) (u ++ x ∷ s.v) ++ x ∷ []
    go [] = refl
    go (y ∷ u) = ap (λ (z : List A). y ∷ z) (go u)

-- ---- the graphs of those that are new
all_canonical : (ks : List Take) → Each (λ k. Canonical k.entry.graph) ks → AllCanonical (graphs (entries_of ks))
all_canonical [] f = tt
all_canonical (k ∷ ks) f = (f k (Memᴰ.head refl), all_canonical ks (λ o i. f o (Memᴰ.tail i)))

new_canonical : (ks : List Take) → Each (λ k. Canonical k.entry.graph) ks → AllCanonical (graphs (entries_of (new_of ks)))
new_canonical [] f = tt
new_canonical (k ∷ ks) f = go k.new (f k (Memᴰ.head refl)) (new_canonical ks (λ o i. f o (Memᴰ.tail i)))
  where
    go : (b : Bool) → Canonical k.entry.graph → AllCanonical (graphs (entries_of (new_of ks))) →
        AllCanonical (graphs (entries_of (elim b [ true ↦ k ∷ new_of ks | false ↦ new_of ks ])))
    go true c a = (c, a)
    go false c a = a

new_within : (ks : List Take) → Within (graphs (entries_of (new_of ks))) (graphs (entries_of ks))
new_within [] g i = i
new_within (k ∷ ks) g i = go k.new (λ j. new_within ks g j) i
  where
    go : (b : Bool) → (Memᴰ g (graphs (entries_of (new_of ks))) → Memᴰ g (graphs (entries_of ks))) →
        Memᴰ g (graphs (entries_of (elim b [ true ↦ k ∷ new_of ks | false ↦ new_of ks ]))) →
        Memᴰ g (k.entry.graph ∷ graphs (entries_of ks))
    go true f i = ⊎_elim (λ e. Memᴰ.head e) (λ j. Memᴰ.tail (f j)) (Memᴰ.cases_cons i)
    go false f i = Memᴰ.tail (f i)

new_or_said : (P : Graph → Type 0) (ks : List Take) → Each (λ k. k.new ≡ false → P k.entry.graph) ks → (g : Graph) →
    Memᴰ g (graphs (entries_of ks)) → Memᴰ g (graphs (entries_of (new_of ks))) ⊎ P g
new_or_said P [] f g i = inl i
new_or_said P (k ∷ ks) f g i = ⊎_elim (λ e. here k.new refl e)
    (λ j. there k.new (new_or_said P ks (λ o l. f o (Memᴰ.tail l)) g j)) (Memᴰ.cases_cons i)
  where
    here : (b : Bool) → k.new ≡ b → g ≡ k.entry.graph →
        Memᴰ g (graphs (entries_of (elim b [ true ↦ k ∷ new_of ks | false ↦ new_of ks ]))) ⊎ P g
    here true z e = inl (Memᴰ.head e)
    here false z e = inr (subst P (sym e) (f k (Memᴰ.head refl) z))

    there : (b : Bool) → Memᴰ g (graphs (entries_of (new_of ks))) ⊎ P g →
        Memᴰ g (graphs (entries_of (elim b [ true ↦ k ∷ new_of ks | false ↦ new_of ks ]))) ⊎ P g
    there true v = ⊎_elim (λ j. inl (Memᴰ.tail j)) (λ h. inr h) v
    there false v = v

module _ {n k : ℕ} {t w : List ℕ} {p : Pair n t} (s : Stage n t p k w) where
  abbrev i : Inputs n t
  i = p.inputs

  abbrev m : Marking
  m = marking w

  abbrev both : Places
  both = inner_both p.inputs.first.d p.inputs.second.d

  -- the consistent ones among the first c choices
  abbrev pub found_up : ℕ → Found
  found_up c = go_through (take c (picks_both p.inputs (marking w))) (graphs s.es) (leaf_asked joining_one)

  pub up_none : found_up 0 ≡ []
  up_none = refl

  joins : Joins p.inputs.first.d p.inputs.second.d p.j
  joins = joined_is p.inputs.first.d p.inputs.second.d p.j p.joined

  same : Equivalent (graphs s.es) (joins.k ∷ certain m both)
  same = subst (λ (x : Placed). Equivalent (graphs s.es) (flat (strip (keep m x)))) (sym joins.is) s.same

  -- ---- what is certain need not be pushed again
  agree_new : (c : ℕ) → agree (graphs s.es ++ graphs (entries_of (way_both i m c)))
      ≡ agree (graphs s.es ++ graphs (entries_of (new_of (way_both i m c))))
  unfolding Rattle.descriptions.specs.Descr.agree
  agree_new c =
      let ks = way_both i m c in
      let canonical : Each (λ o. Canonical o.entry.graph) ks = λ o j. i.ground.canonical o.entry (way_inside i m c o j) in
      ap answers (join_without (graphs s.es) (graphs (entries_of ks)) (graphs (entries_of (new_of ks))) same.fine₁
      (all_canonical ks canonical) (new_canonical ks canonical) (new_within ks)
      (new_or_said (Says (graphs s.es)) ks
      (λ o j z. same.to o.entry.graph (Memᴰ.tail (way_sure i m c o j z)))))

  pub up_more : (c : ℕ) → c < number_both p.inputs (marking w) →
      found_up (suc c) ≡ found_up c ++ elim (agree (graphs s.es ++ graphs (entries_of (new_of (way_both p.inputs (marking w) c))))) [
        | true ↦ marks_of (way_both p.inputs (marking w) c) ∷ []
        | false ↦ []
      ]
  up_more c h =
      let S = graphs s.es in
      let ks = way_both i m c in
      let l = picks_both i m in
      let x : Pick Graph = (graphs (entries_of ks), marks_of ks) in
      ap (λ (z : List (Pick Graph)). go_through z S (leaf_asked joining_one)) (take_more l c x (way_picks i m c h))
      ∙ through_append (take c l) (x ∷ []) S (leaf_asked joining_one)
      ∙ ap (λ (z : Found). found_up c ++ z) (append-nil (put (marks_of ks) (leaf_asked joining_one (S ++ graphs (entries_of ks))))
      ∙ alone (agree (S ++ graphs (entries_of ks)))
      ∙ ap (λ (b : Bool). elim b [ true ↦ marks_of ks ∷ [] | false ↦ [] ]) (agree_new c))
    where
      alone : (b : Bool) → put (marks_of (way_both i m c)) (elim b [ true ↦ [] ∷ [] | false ↦ [] ])
          ≡ elim b [ true ↦ marks_of (way_both i m c) ∷ [] | false ↦ [] ]
      alone true = ap (λ (z : List ℕ). z ∷ []) (append-nil (marks_of (way_both i m c)))
      alone false = refl

  pub up_all : found_up (number_both p.inputs (marking w)) ≡ engine.search (keep (marking w) p.j)
  up_all =
      let S = graphs s.es in
      let few : length (picks_both i m) ≤ number_both i m = omega (arith, picks_count i m) in
      let can : Can (strip (place joins.k both)) = subst (λ (x : Placed). Can (strip x)) (sym joins.is) (whole_comes n t p).0 in
      ap (λ (z : List (Pick Graph)). go_through z S (leaf_asked joining_one)) (take_all (number_both i m) (picks_both i m) few)
      ∙ sym (search_through joins.k (keep_all m both) (keep_can m (place joins.k both) can) S same)
      ∙ ap (λ (x : Placed). engine.search (keep m x)) joins.is

-- where it did not stop, the number that is counted is that of the ways
pub counted_ways : {n : ℕ} {t : List ℕ} (i : Inputs n t) (w : List ℕ) → SIZE ≤ length w → loaded_words w ≡ t → (r : ℕ) →
    CountedBoth w depth_limit r → r ≤ choice_limit → r ≡ number_both i (marking w)
unfolding count_at number
counted_ways i w room loaded r counted h =
    let m = marking w in
    let both = inner_both i.first.d i.second.d in
    let e = counted (readable w room loaded i.ground.few i.first) (readable w room loaded i.ground.few i.second) in
    let f = count_left (place [] both) choice_stop (omega arith) m in
    omega (arith, e, f, picks_all_long (keep_all m both), picks_count i m)
