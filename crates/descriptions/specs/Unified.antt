-- The table of numbers as a program, so that cases compute: `unified` gives exactly what the rules give (`table`).
-- Assumes nothing: these are definitions.
use Rattle.std.specs.Prelude.{true, false, ◌||◌, ℕ, zero, suc, length, ltb}
use Rattle.std.proofs.Math.Option.{Option, none, some}
use Rattle.descriptions.specs.Limits.{choice_limit, input_limit, working_size}
use Rattle.descriptions.specs.Descr.{Desc, definite_graph, number}
use Rattle.descriptions.specs.Modes.{full, joined, quick}
use Rattle.descriptions.specs.Call.{Call}
use Rattle.descriptions.specs.Answer.{Answer, clash_at, consistent, no_room, refuse, success}
use Rattle.descriptions.specs.Joining.{Joining}
use Rattle.descriptions.specs.Layout.{Layout}

module _ {Graph : Type 0} (𝓕 : Layout Graph) where
  open 𝓕 use {words}

  -- "8 | result longer than the result area | words needed | 0", "0 | otherwise | words written"
  unfoldable pub deliver : ℕ → ℕ → Desc Graph → Answer
  deliver room r d = elim (ltb room (length (words d))) [ true ↦ no_room (length (words d)) | false ↦ success r (words d) ]

  -- or the number n where there is no result
  unfoldable pub deliver_or : ℕ → ℕ → ℕ → Option (Desc Graph) → Answer
  deliver_or n room r none = refuse n
  deliver_or n room r (some d) = deliver room r d

module _ {Graph : Type 0} (J : Joining Graph) (𝓕 : Layout Graph) where
  open J use {clash_node}

  -- "7 | mode 2, quick step did not fail, its result has over 4,096 choices"
  unfoldable pub complete : ℕ → Desc Graph → Desc Graph → Answer
  complete room d e = elim (quick J d e) [
    | none ↦ refuse 10
    | some q ↦
        elim (ltb choice_limit (number q)) [ true ↦ refuse 7 | false ↦ deliver_or 𝓕 11 room (consistent J d e) (full J d e) ]
  ]

  -- where the definite graphs join, to j
  unfoldable pub beyond : ℕ → Desc Graph → Desc Graph → ℕ → Desc Graph → Answer
  beyond zero d e room j = deliver 𝓕 room 0 j
  beyond (suc zero) d e room j = deliver_or 𝓕 10 room 0 (quick J d e)
  beyond (suc (suc m)) d e room j = complete room d e

  -- "6 definite graphs clash, with the node"
  unfoldable pub in_mode : ℕ → Desc Graph → Desc Graph → ℕ → Answer
  in_mode mode d e room = elim (joined J d e) [
    | none ↦ clash_at (clash_node (definite_graph d) (definite_graph e))
    | some j ↦ beyond mode d e room j
  ]

module _ {Graph : Type 0} (J : Joining Graph) (𝓕 : Layout Graph) (c : Call) (room work : ℕ) where
  open 𝓕 use {decode}
  open c use {mode, first, second}

  -- "1 | mode above 2", "2 | working area under 16,384 words", "3 | either input over 1,024 words", "4 | first input malformed"
  -- "5 | second input malformed"; "Checks run in the order of the table"
  unfoldable pub unified : Answer
  unified =
      elim (ltb 2 mode) [
        | true ↦ refuse 1
        | false ↦
            elim (ltb work working_size) [
              | true ↦ refuse 2
              | false ↦
                  elim (ltb input_limit (length first) || ltb input_limit (length second)) [
                    | true ↦ refuse 3
                    | false ↦
                        elim (decode first) [
                          | none ↦ refuse 4
                          | some d ↦
                              elim (decode second) [ none ↦ refuse 5 | some e ↦ in_mode J 𝓕 mode d e room ]
                        ]
                  ]
            ]
      ]
