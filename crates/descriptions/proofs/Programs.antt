-- Every program that answers as the table of numbers says meets the second and the third demand.
-- Assumes nothing.
use mathlib.Core.Path.{◌≡◌, refl, ap, ap₂, sym, ◌∙◌, subst}
use mathlib.Core.Logic.{◌⊎◌}
use mathlib.Core.Bool.{Bool, true, false, ◌&&◌}
use mathlib.Core.Option.{Option, none, some}
use mathlib.Core.List.{List, [], ◌∷◌, ◌++◌}
use Prim.Native.Nat.{ℕ, zero, suc, ◌<◌}
use lib.ListN.{length, take, replicate, length-replicate}
use native.Mathlib.Omega.{arith}
use borrow.Author.Tests.{lt-ltb}
use lib.Dec.{eqb, ltb, T, eqb→eq}
use Rattle.descriptions.specs.Descr.{Desc}
use Rattle.descriptions.specs.Satisfaction.{Sat}
use Rattle.descriptions.specs.Call.{Call}
use Rattle.descriptions.specs.Answer.{Answer}
use Rattle.descriptions.specs.Outcome.{Areas, Outcome}
use Rattle.descriptions.specs.Programs.{Left, Program, all_small, are_words, in_words, answer_of, blank, Meets, sized}
use Rattle.descriptions.specs.Limits.{word_limit, length_limit}
use Rattle.descriptions.specs.Unified.{unified}
use Rattle.descriptions.specs.Rules.{Given}
use Rattle.descriptions.specs.Demands.{ClashNumber, Demand2, Demand3, Refused, Succeeds, Unifier}
use Rattle.descriptions.specs.Demands.{ListCall, call, items, reached, start, ways, next_call, with_words}
use Rattle.descriptions.proofs.Tests.{eqb_yes}
use Rattle.descriptions.proofs.Table.{given_unified, one_answer, unified_given}
use Rattle.descriptions.proofs.Areas.{Writes, given_writes, nothing, result}
use Rattle.descriptions.proofs.Demands.{demand2, demand3}
use Rattle.descriptions.specs.Joining.{Joining}
use Rattle.descriptions.proofs.Layouts.{Reads}
use Rattle.descriptions.specs.Structures.{Structures}
use Rattle.descriptions.proofs.Laws.{Laws}
use Rattle.descriptions.proofs.Senses.{Sense}
use Rattle.descriptions.specs.Layout.{Layout}

take_front : (xs ys : List ℕ) → take (length xs) (xs ++ ys) ≡ xs
take_front [] ys = refl
take_front (x ∷ xs) ys = ap (λ (l : List ℕ). x ∷ l) (take_front xs ys)

small_zeros : (n : ℕ) → all_small (replicate n 0) ≡ true
small_zeros zero = refl
small_zeros (suc n) = small_zeros n

zeros_words : (n : ℕ) → n < length_limit → are_words (replicate n 0) ≡ true
zeros_words n h =
    let e : ltb (length {A = ℕ} (replicate n 0)) length_limit ≡ true = ap (λ (k : ℕ). ltb k length_limit) (length-replicate {A = ℕ} n 0)
    ∙ lt-ltb n length_limit h in
    ap₂ ◌&&◌ e (small_zeros n)

-- blank areas of any size that a machine has can come in
pub blank_in_words : (C : Call) (room work : ℕ) → C.mode < word_limit → are_words C.first ≡ true → are_words C.second ≡ true →
    room < length_limit → work < length_limit → in_words C (blank room work) ≡ true
blank_in_words C room work h p q r w =
    ap₂ ◌&&◌ (lt-ltb C.mode word_limit h) (ap₂ ◌&&◌ p (ap₂ ◌&&◌ q (ap₂ ◌&&◌ (zeros_words room r) (zeros_words work w))))

module _ {Graph : Type 0} (J : Joining Graph) (𝓕 : Layout Graph) where
  -- a program whose every answer the table gives
  abbrev pub ByTable : Unifier → Type 0
  ByTable U = (C : Call) (room work : ℕ) → Given J 𝓕 C room work (U C room work)

  -- what a call answers is what its contract says
  left_answer : (C : Call) (before : Areas) (r : Left) → (o : Outcome J 𝓕 C before r.row r.after) → o.answer ≡ answer_of r
  left_answer C before r o = go (eqb r.row.number 0) refl (given_writes J 𝓕 C _ _ o.answer o.given)
    where
      whole : List ℕ → Answer
      whole ws = record {
        number = r.row.number;
        extent = r.row.extent;
        readings = r.row.readings;
        node = r.row.node;
        result = ws;
      }

      parts : (ws : List ℕ) → o.answer.result ≡ ws → o.answer ≡ whole ws
      parts ws e = rw (o.the_number, o.the_extent, o.the_readings, o.the_node, sym e) refl

      go : (t : Bool) → eqb r.row.number 0 ≡ t → Writes (length before.result) o.answer →
          o.answer ≡ whole (elim t [ true ↦ take r.row.extent r.after.result | false ↦ [] ])
      go true z (nothing n e) = absurd (n (sym o.the_number ∙ eqb→eq r.row.number 0 (subst T (sym z) tt)))
      go true z (result n e l) =
          let first = ap (λ (k : ℕ). take k r.after.result) (o.the_extent ∙ e) in
          let then = ap (take (length o.answer.result)) o.the_result in
          parts (take r.row.extent r.after.result) (sym (first ∙ then ∙ take_front o.answer.result _))
      go false z (nothing n e) = parts [] e
      go false z (result n e l) =
          let y : eqb r.row.number 0 ≡ true = eqb_yes r.row.number 0 (o.the_number ∙ n) in
          let x : ◌≡◌ {A = ℕ} 0 1 = cc in absurd (omega arith)

module _ {Graph : Type 0} {J : Joining Graph} {𝓛 : Laws J} {𝓜 : Structures Graph} (𝓢 : Sense 𝓛 𝓜) {𝓕 : Layout Graph} (𝓡 : Reads 𝓛 𝓕) where
  open 𝓜 use {Structure}

  module _ (U : Unifier) (g : ByTable J 𝓕 U) where
    same : (C : Call) (room work : ℕ) → unified J 𝓕 C room work ≡ U C room work
    same C room work = given_unified 𝓡 C room work (U C room work) (g C room work)

    pub table_demand2 : Demand2 J 𝓜 𝓕 U
    table_demand2 = record {
      success = λ mode a b x y room work.
          subst (λ (r : Answer). r.number ≡ 0 → (d : Desc Graph) × Succeeds J 𝓜 𝓕 mode a b r d) (same (with_words 𝓕 mode a b) room work)
          ((demand2 𝓢 𝓡).success mode a b x y room work);
      clash = λ mode a b x y room work.
          subst (λ (r : Answer). ClashNumber r.number → (S : Structure) → Sat 𝓜 S a → Sat 𝓜 S b → ⊥) (same (with_words 𝓕 mode a b) room work)
          ((demand2 𝓢 𝓡).clash mode a b x y room work);
    }

    called : (ws : List ℕ) (s : ListCall 𝓕) → call 𝓕 (unified J 𝓕) ws s ≡ call 𝓕 U ws s
    called ws s = same (next_call 𝓕 ws s) s.room s.work

    reached_same : (l : List (ListCall 𝓕)) (ws : List ℕ) → reached 𝓕 U ws l ≡ reached 𝓕 (unified J 𝓕) ws l
    reached_same [] ws = refl
    reached_same (s ∷ l) ws = ap (next (eqb (call 𝓕 U ws s).number 0)) (reached_same l (call 𝓕 U ws s).result)
        ∙ ap (after l) (sym (called ws s))
      where
        next : Bool → Option (List ℕ) → Option (List ℕ)
        next t o = elim t [ true ↦ o | false ↦ none ]

        after : List (ListCall 𝓕) → Answer → Option (List ℕ)
        after m r = elim (eqb r.number 0) [ true ↦ reached 𝓕 (unified J 𝓕) r.result m | false ↦ none ]

    came : (l : List (ListCall 𝓕)) (ws : List ℕ) → reached 𝓕 U (start J 𝓕) l ≡ some ws → reached 𝓕 (unified J 𝓕) (start J 𝓕) l ≡ some ws
    came l ws e = sym (reached_same l (start J 𝓕)) ∙ e

    pub table_demand3 : Demand3 J 𝓕 U
    table_demand3 = record {
      number = λ l ws e. (demand3 𝓢 𝓡).number l ws (came l ws e);
      clash = λ l ws s e. subst (λ (r : Answer). ClashNumber r.number →
          ways J (items 𝓕 l ++ s.item ∷ []) ≡ 0) (called ws s) ((demand3 𝓢 𝓡).clash l ws s (came l ws e));
      told = λ l ws s e m z. subst (λ (r : Answer). ClashNumber r.number ⊎ Refused r.number) (called ws s)
          ((demand3 𝓢 𝓡).told l ws s (came l ws e) m z);
      counted = λ l ws s e m. subst (λ (r : Answer). r.number ≡ 0 → r.readings ≡ ways J (items 𝓕 l ++ s.item ∷ [])) (called ws s)
          ((demand3 𝓢 𝓡).counted l ws s (came l ws e) m);
    }

  module _ (P : Program) (m : Meets J 𝓕 P) where
    -- the answer to a call is what the table gives
    program_given : (C : Call) (before : Areas) → in_words C before ≡ true →
        Given J 𝓕 C (length before.result) (length before.working) (answer_of (P C before))
    program_given C before w =
        let o = m C before w in
        subst (Given J 𝓕 C (length before.result) (length before.working)) (left_answer J 𝓕 C before (P C before) o) o.given

    pub program_table : ByTable J 𝓕 (sized J 𝓕 P)
    program_table C room work = go (in_words C (blank room work)) refl
      where
        before : Areas
        before = blank room work

        r : Answer
        r = answer_of (P C before)

        here : in_words C before ≡ true → Given J 𝓕 C room work r
        here w =
            let e : length before.result ≡ room = length-replicate {A = ℕ} room 0 in
            let f : length before.working ≡ work = length-replicate {A = ℕ} work 0 in
            subst (λ (n : ℕ). Given J 𝓕 C n work r) e
            (subst (λ (n : ℕ). Given J 𝓕 C (length before.result) n r) f (program_given C before w))

        go : (t : Bool) → in_words C before ≡ t → Given J 𝓕 C room work (elim t [ true ↦ r | false ↦ unified J 𝓕 C room work ])
        go true w = here w
        go false w = unified_given 𝓡 C room work

    -- what a call answers is the table's answer, whatever the areas hold before it
    pub program_sized : (C : Call) (before : Areas) → in_words C before ≡ true →
        answer_of (P C before) ≡ sized J 𝓕 P C (length before.result) (length before.working)
    program_sized C before w =
        let room = length before.result in
        let work = length before.working in
        one_answer 𝓡 C room work (answer_of (P C before)) (sized J 𝓕 P C room work) (program_given C before w) (program_table C room work)

    -- demands 2 and 3 hold of every program that has the contract
    pub program_demand2 : Demand2 J 𝓜 𝓕 (sized J 𝓕 P)
    program_demand2 = table_demand2 (sized J 𝓕 P) program_table

    pub program_demand3 : Demand3 J 𝓕 (sized J 𝓕 P)
    program_demand3 = table_demand3 (sized J 𝓕 P) program_table

    -- "one that reports 0 and writes nothing": after 0 an area that was left as it was held the result's words before
    pub program_writes : (C : Call) (before : Areas) → in_words C before ≡ true →
        (P C before).row.number ≡ 0 → (P C before).after.result ≡ before.result →
        (unified J 𝓕 C (length before.result) (length before.working)).result ≡ take (P C before).row.extent before.result
    program_writes C before w z u =
        let e = given_unified 𝓡 C _ _ (answer_of (P C before)) (program_given C before w) in
        ap (λ (r : Answer). r.result) e
        ∙ ap (λ (t : Bool). elim t [ true ↦ take (P C before).row.extent (P C before).after.result | false ↦ [] ])
        (eqb_yes (P C before).row.number 0 z)
        ∙ ap (take (P C before).row.extent) u

  -- a program whose readings differ from the table's somewhere is not by the table
  pub other_readings : (U : Unifier) (C : Call) (room work : ℕ) → ((U C room work).readings ≡ (unified J 𝓕 C room work).readings → ⊥) →
      ByTable J 𝓕 U → ⊥
  other_readings U C room work n g = n (sym (ap (λ (r : Answer). r.readings) (same U g C room work)))
