-- `unified` meets the second and the third demand.
-- Assumes nothing.
use mathlib.Core.Path.{◌≡◌, refl, ap, sym, ◌∙◌, subst}
use mathlib.Core.Logic.{◌⊎◌, ⊎_elim}
use mathlib.Core.Bool.{Bool, true, false}
use mathlib.Core.Option.{Option, none, some}
use mathlib.Core.List.{List, [], ◌∷◌, ◌++◌}
use Prim.Native.Nat.{ℕ}
use native.Mathlib.Omega.{arith}
use lib.ListN.{length}
use lib.Dec.{eqb}
use Rattle.descriptions.specs.Limits.{depth_limit}
use Rattle.descriptions.specs.Descr.{Desc, choices, pairs, readings}
use Rattle.descriptions.specs.Call.{Call}
use Rattle.descriptions.specs.Answer.{Answer, consistent}
use Rattle.descriptions.specs.Unified.{unified}
use Rattle.descriptions.specs.Rules.{Accepted, Given, mode_readings, mode_result}
use Rattle.descriptions.specs.Demands.{ClashNumber, Demand2, Demand3, Refused, Succeeds}
use Rattle.descriptions.specs.Demands.{ListCall, call, one_of_each, items, reached, start, ways, next_call, with_words}
use Rattle.descriptions.proofs.Layouts.{Reads, one_image}
use Rattle.descriptions.proofs.Tests.{Tells, holds, tells_eq}
use Rattle.descriptions.proofs.Mean.{Can}
use Rattle.descriptions.proofs.Modes.{mode_satisfied}
use Rattle.descriptions.proofs.Chain.{both, consistent_means}
use Rattle.descriptions.proofs.Table.{full_is, unified_given}
use Rattle.descriptions.proofs.Lists.{AllCan, Stands_for, both_swap, next_ways, no_more, nothing_said, one_more, one_more_behind}
use Rattle.descriptions.proofs.Lists.{regroup, sofar, stands_ways}
use Rattle.descriptions.proofs.Kept.{Good, None, none_means, none_sat, on_clash, on_zero, which}
use Rattle.descriptions.specs.Joining.{Joining}
use Rattle.descriptions.specs.Structures.{Structures}
use Rattle.descriptions.proofs.Laws.{Laws}
use Rattle.descriptions.proofs.Senses.{Sense}
use Rattle.descriptions.specs.Layout.{Layout}

module _ {Graph : Type 0} (𝓕 : Layout Graph) where
  open 𝓕 use {words, WellFormed}

  -- the inputs of a call on d, in their order
  abbrev front : ListCall 𝓕 → Desc Graph → Desc Graph
  front s d = elim s.in_hand_first [ true ↦ d | false ↦ s.item ]

  abbrev back : ListCall 𝓕 → Desc Graph → Desc Graph
  back s d = elim s.in_hand_first [ true ↦ s.item | false ↦ d ]

  module _ (s : ListCall 𝓕) (d : Desc Graph) where
    front_well : WellFormed d depth_limit → WellFormed (front s d) depth_limit
    front_well p = go s.in_hand_first
      where
        go : (t : Bool) → WellFormed (elim t [ true ↦ d | false ↦ s.item ]) depth_limit
        go true = p
        go false = s.fine

    back_well : WellFormed d depth_limit → WellFormed (back s d) depth_limit
    back_well p = go s.in_hand_first
      where
        go : (t : Bool) → WellFormed (elim t [ true ↦ s.item | false ↦ d ]) depth_limit
        go true = s.fine
        go false = p

    call_is : next_call 𝓕 (words d) s ≡ with_words 𝓕 s.mode (front s d) (back s d)
    call_is = go s.in_hand_first
      where
        u : List ℕ → List ℕ → Call
        u a b = record { mode = s.mode; first = a; second = b }

        i : List ℕ
        i = words s.item

        go : (t : Bool) → u (elim t [ true ↦ words d | false ↦ i ]) (elim t [ true ↦ i | false ↦ words d ])
            ≡ u (words (elim t [ true ↦ d | false ↦ s.item ])) (words (elim t [ true ↦ s.item | false ↦ d ]))
        go true = refl
        go false = refl

module _ {Graph : Type 0} {J : Joining Graph} {𝓛 : Laws J} {𝓕 : Layout Graph} (𝓡 : Reads 𝓛 𝓕) where
  open 𝓕 use {words, WellFormed}
  open 𝓡 use {well_can}

  -- the words in hand are a description that stands for the choices L
  abbrev State : List (List Graph) → List ℕ → Type 0
  State L ws = (d : Desc Graph) × WellFormed d depth_limit × (ws ≡ words d) × Stands_for 𝓛 L d

  -- demand 3
  items_can : (l : List (ListCall 𝓕)) → AllCan 𝓛 (items 𝓕 l)
  items_can [] = tt
  items_can (s ∷ l) = (well_can s.item s.fine, items_can l)

  -- the ways with one more description are the readings of both together, in either order
  next_step : (l : List (ListCall 𝓕)) (s : ListCall 𝓕) (d : Desc Graph) → WellFormed d depth_limit → Stands_for 𝓛 (sofar J (items 𝓕 l)) d →
      ways J (items 𝓕 l ++ s.item ∷ []) ≡ length (both J (front 𝓕 s d) (back 𝓕 s d))
  next_step l s d p m = go s.in_hand_first
    where
      cd : Can 𝓛 d
      cd = well_can d p

      cs : Can 𝓛 s.item
      cs = well_can s.item s.fine

      first : ways J (items 𝓕 l ++ s.item ∷ []) ≡ length (both J d s.item)
      first = next_ways 𝓛 (items 𝓕 l) (items_can l) d cd m s.item cs

      go : (t : Bool) → ways J (items 𝓕 l ++ s.item ∷ [])
          ≡ length (both J (elim t [ true ↦ d | false ↦ s.item ]) (elim t [ true ↦ s.item | false ↦ d ]))
      go true = first
      go false = first ∙ both_swap 𝓛 d s.item cd cs

  -- what a call makes stands for the choices of both
  call_more : (L : List (List Graph)) (s : ListCall 𝓕) (d : Desc Graph) → WellFormed d depth_limit → Stands_for 𝓛 L d → (t : Desc Graph) →
      mode_result J s.mode (front 𝓕 s d) (back 𝓕 s d) ≡ some t → Stands_for 𝓛 (pairs L (choices s.item)) t
  call_more L s d p m t = go s.in_hand_first
    where
      cd : Can 𝓛 d
      cd = well_can d p

      cs : Can 𝓛 s.item
      cs = well_can s.item s.fine

      go : (u : Bool) → mode_result J s.mode (elim u [ true ↦ d | false ↦ s.item ]) (elim u [ true ↦ s.item | false ↦ d ]) ≡ some t →
          Stands_for 𝓛 (pairs L (choices s.item)) t
      go true e = one_more 𝓛 L d cd m s.item cs s.mode t e
      go false e = one_more_behind 𝓛 L d cd m s.item cs s.mode t e

module _ {Graph : Type 0} {J : Joining Graph} {𝓛 : Laws J} {𝓜 : Structures Graph} (𝓢 : Sense 𝓛 𝓜) {𝓕 : Layout Graph} (𝓡 : Reads 𝓛 𝓕) where
  open 𝓕 use {words, WellFormed}
  open 𝓡 use {well_can, nothing_well, result_well}

  -- demand 2
  module _ (mode : ℕ) (a b : Desc Graph) (p : WellFormed a depth_limit) (q : WellFormed b depth_limit) (room work : ℕ) where
    abbrev C : Call
    C = with_words 𝓕 mode a b

    abbrev r : Answer
    r = unified J 𝓕 C room work

    abbrev given : Given J 𝓕 C room work r
    given = unified_given 𝓡 C room work

    -- the descriptions read are the ones written
    pub zero_result : r.number ≡ 0 → (s : Desc Graph) × Good J 𝓕 C work r a b s
    zero_result z =
        let (d, e, s, g) = on_zero J 𝓕 C room work r given z in
        let A : Accepted 𝓕 C work d e = g.accepted in
        let i : d ≡ a = one_image 𝓡 d a A.first_well p (sym A.first_is) in
        let j : e ≡ b = one_image 𝓡 e b A.second_well q (sym A.second_is) in
        (s, subst (λ (x : Desc Graph). Good J 𝓕 C work r x b s) i (subst (λ (y : Desc Graph). Good J 𝓕 C work r d y s) j g))

    pub clash_result : ClashNumber r.number → None J a b
    clash_result z =
        let (d, e, A, n) = on_clash J 𝓕 C room work r given z in
        let i : d ≡ a = one_image 𝓡 d a A.first_well p (sym A.first_is) in
        let j : e ≡ b = one_image 𝓡 e b A.second_well q (sym A.second_is) in
        subst (λ (x : Desc Graph). None J x b) i (subst (λ (y : Desc Graph). None J d y) j n)

    zero_succeeds : (s : Desc Graph) → Good J 𝓕 C work r a b s → Succeeds J 𝓜 𝓕 mode a b r s
    zero_succeeds s g = record {
      written = g.wrote;
      measured = g.long;
      well = result_well mode a b s p q g.by g.accepted.first_short g.accepted.second_short;
      by_mode = g.by;
      means = mode_satisfied 𝓢 mode a b (well_can a p) (well_can b q) s g.by;
    }

  pub demand2 : Demand2 J 𝓜 𝓕 (unified J 𝓕)
  demand2 = record {
    success = λ mode a b p q room work z. let (s, g) = zero_result mode a b p q room work z in
        (s, zero_succeeds mode a b p q room work s g);
    clash = λ mode a b p q room work z S. none_sat 𝓢 S a b (well_can a p) (well_can b q) (clash_result mode a b p q room work z);
  }

  -- a call on the words in hand, by the inputs in their order
  module _ (ws : List ℕ) (s : ListCall 𝓕) (d : Desc Graph) (p : WellFormed d depth_limit) (e : ws ≡ words d) where
    abbrev before : Desc Graph
    before = front 𝓕 s d

    abbrev behind : Desc Graph
    behind = back 𝓕 s d

    abbrev between : Call
    between = with_words 𝓕 s.mode before behind

    answered : call 𝓕 (unified J 𝓕) ws s ≡ unified J 𝓕 between s.room s.work
    answered = ap (λ (w : List ℕ). call 𝓕 (unified J 𝓕) w s) e ∙ ap (λ (z : Call). unified J 𝓕 z s.room s.work) (call_is 𝓕 s d)

    before_can : Can 𝓛 before
    before_can = well_can before (front_well 𝓕 s d p)

    behind_can : Can 𝓛 behind
    behind_can = well_can behind (back_well 𝓕 s d p)

    call_zero : (call 𝓕 (unified J 𝓕) ws s).number ≡ 0 →
        (t : Desc Graph) × Good J 𝓕 between s.work (call 𝓕 (unified J 𝓕) ws s) before behind t
    call_zero z =
        let number : (unified J 𝓕 between s.room s.work).number ≡ 0 = sym (ap (λ (r : Answer). r.number) answered) ∙ z in
        let (t, g) = zero_result s.mode before behind (front_well 𝓕 s d p) (back_well 𝓕 s d p) s.room s.work number in
        (t, subst (λ (r : Answer). Good J 𝓕 between s.work r before behind t) (sym answered) g)

    call_clash : ClashNumber (call 𝓕 (unified J 𝓕) ws s).number → None J before behind
    call_clash z =
        clash_result s.mode before behind (front_well 𝓕 s d p) (back_well 𝓕 s d p) s.room s.work
        (subst (λ (r : Answer). ClashNumber r.number) answered z)

    call_which : ((call 𝓕 (unified J 𝓕) ws s).number ≡ 0)
        ⊎ (ClashNumber (call 𝓕 (unified J 𝓕) ws s).number ⊎ Refused (call 𝓕 (unified J 𝓕) ws s).number)
    call_which = subst (λ (r : Answer). (r.number ≡ 0) ⊎ (ClashNumber r.number ⊎ Refused r.number)) (sym answered)
        (which J 𝓕 between s.room s.work (unified J 𝓕 between s.room s.work)
        (unified_given 𝓡 between s.room s.work))

  one_call : (L : List (List Graph)) (ws : List ℕ) → State 𝓡 L ws → (s : ListCall 𝓕) → (call 𝓕 (unified J 𝓕) ws s).number ≡ 0 →
      State 𝓡 (pairs L (choices s.item)) (call 𝓕 (unified J 𝓕) ws s).result
  one_call L ws (d, p, e, m) s z =
      let (t, g) = call_zero ws s d p e z in
      let first_well = front_well 𝓕 s d p in
      let second_well = back_well 𝓕 s d p in
      let well = result_well s.mode (front 𝓕 s d) (back 𝓕 s d) t first_well second_well g.by g.accepted.first_short
      g.accepted.second_short in
      (t, well, g.wrote, call_more 𝓡 L s d p m t g.by)

  calls : (l : List (ListCall 𝓕)) (L : List (List Graph)) (ws : List ℕ) → State 𝓡 L ws → (out : List ℕ) →
      reached 𝓕 (unified J 𝓕) ws l ≡ some out →
      State 𝓡 (pairs L (one_of_each (items 𝓕 l))) out
  calls [] L ws (d, p, e, m) out h =
      let k : ws ≡ out = cc in
      (d, p, sym k ∙ e, no_more 𝓛 L d m)
  calls (s ∷ l) L ws st out h = go (eqb (call 𝓕 (unified J 𝓕) ws s).number 0) (tells_eq (call 𝓕 (unified J 𝓕) ws s).number 0)
      (λ L ws st. calls l L ws st out) h
    where
      b : Desc Graph
      b = s.item

      last : State 𝓡 (pairs (pairs L (choices b)) (one_of_each (items 𝓕 l))) out → State 𝓡 (pairs L (one_of_each (items 𝓕 (s ∷ l)))) out
      last (d, p, e, m) = (d, p, e, regroup 𝓛 L b d (items 𝓕 l) m)

      go : (t : Bool) → Tells ((call 𝓕 (unified J 𝓕) ws s).number ≡ 0) t →
          ((L : List (List Graph)) (ws : List ℕ) → State 𝓡 L ws → reached 𝓕 (unified J 𝓕) ws l ≡ some out →
          State 𝓡 (pairs L (one_of_each (items 𝓕 l))) out) →
          ◌≡◌ {A = Option (List ℕ)} (elim t [ true ↦ reached 𝓕 (unified J 𝓕) (call 𝓕 (unified J 𝓕) ws s).result l | false ↦ none ])
          (some out) → State 𝓡 (pairs L (one_of_each (items 𝓕 (s ∷ l)))) out
      go true (holds z) ih h = last (ih (pairs L (choices b)) (call 𝓕 (unified J 𝓕) ws s).result (one_call L ws st s z) h)
      go false n ih h = let z : ◌≡◌ {A = ℕ} 0 1 = cc in absurd (omega arith)

  after_calls : (l : List (ListCall 𝓕)) (ws : List ℕ) → reached 𝓕 (unified J 𝓕) (start J 𝓕) l ≡ some ws → State 𝓡 (sofar J (items 𝓕 l)) ws
  after_calls l ws h = calls l (choices (nothing_said J)) (start J 𝓕) (nothing_said J, nothing_well, refl, λ k g. refl) ws h

  pub demand3 : Demand3 J 𝓕 (unified J 𝓕)
  demand3 = record { number = count; clash = clash; told = told; counted = counted }
    where
      count : (l : List (ListCall 𝓕)) (ws : List ℕ) → reached 𝓕 (unified J 𝓕) (start J 𝓕) l ≡ some ws →
          (d : Desc Graph) × WellFormed d depth_limit × (ws ≡ words d) × (readings J d ≡ ways J (items 𝓕 l))
      count l ws h = let (d, p, e, m) = after_calls l ws h in (d, p, e, stands_ways 𝓛 (items 𝓕 l) (items_can 𝓡 l) d m)

      clash : (l : List (ListCall 𝓕)) (ws : List ℕ) (s : ListCall 𝓕) → reached 𝓕 (unified J 𝓕) (start J 𝓕) l ≡ some ws →
          ClashNumber (call 𝓕 (unified J 𝓕) ws s).number → ways J (items 𝓕 l ++ s.item ∷ []) ≡ 0
      clash l ws s h z =
          let (d, p, e, m) = after_calls l ws h in
          next_step 𝓡 l s d p m ∙ ap length
          (none_means 𝓛 (front 𝓕 s d) (back 𝓕 s d) (before_can ws s d p e) (behind_can ws s d p e) (call_clash ws s d p e z))

      -- the consistent choices of both inputs are the ways
      consistent_ways : (l : List (ListCall 𝓕)) (ws : List ℕ) (s : ListCall 𝓕) (d : Desc Graph) (p : WellFormed d depth_limit)
          (e : ws ≡ words d) →
          Stands_for 𝓛 (sofar J (items 𝓕 l)) d →
          consistent J (front 𝓕 s d) (back 𝓕 s d) ≡ ways J (items 𝓕 l ++ s.item ∷ [])
      consistent_ways l ws s d p e m = consistent_means 𝓛 (front 𝓕 s d) (back 𝓕 s d) (before_can ws s d p e) (behind_can ws s d p e)
          ∙ sym (next_step 𝓡 l s d p m)

      counted : (l : List (ListCall 𝓕)) (ws : List ℕ) (s : ListCall 𝓕) → reached 𝓕 (unified J 𝓕) (start J 𝓕) l ≡ some ws → s.mode ≡ 2 →
          (call 𝓕 (unified J 𝓕) ws s).number ≡ 0 → (call 𝓕 (unified J 𝓕) ws s).readings ≡ ways J (items 𝓕 l ++ s.item ∷ [])
      counted l ws s h k z =
          let (d, p, e, m) = after_calls l ws h in
          let (t, g) = call_zero ws s d p e z in
          g.count ∙ ap (λ (n : ℕ). mode_readings J n (front 𝓕 s d) (back 𝓕 s d)) k ∙ consistent_ways l ws s d p e m

      told : (l : List (ListCall 𝓕)) (ws : List ℕ) (s : ListCall 𝓕) → reached 𝓕 (unified J 𝓕) (start J 𝓕) l ≡ some ws → s.mode ≡ 2 →
          ways J (items 𝓕 l ++ s.item ∷ []) ≡ 0 →
          ClashNumber (call 𝓕 (unified J 𝓕) ws s).number ⊎ Refused (call 𝓕 (unified J 𝓕) ws s).number
      told l ws s h k w =
          let (d, p, e, m) = after_calls l ws h in
          ⊎_elim
          (λ z.
          let (t, g) = call_zero ws s d p e z in
          let none_left : consistent J (front 𝓕 s d) (back 𝓕 s d) ≡ 0 = consistent_ways l ws s d p e m ∙ w in
          let there : mode_result J 2 (front 𝓕 s d) (back 𝓕 s d) ≡ some t =
          subst (λ (n : ℕ). mode_result J n (front 𝓕 s d) (back 𝓕 s d) ≡ some t) k g.by in
          absurd (no_full (front 𝓕 s d) (back 𝓕 s d) t none_left there))
          (λ x. x)
          (call_which ws s d p e)
        where
          no_full : (d e t : Desc Graph) → consistent J d e ≡ 0 → mode_result J 2 d e ≡ some t → ⊥
          no_full d e t c h = let n : none ≡ some t = sym (full_is J 𝓕 d e c) ∙ h in let z : ◌≡◌ {A = ℕ} 0 1 = cc in omega arith
