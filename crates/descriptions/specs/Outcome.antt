-- The outcome of a call: number, length, readings, node, and every word of both areas.
-- Assumes nothing: these are definitions.
use Rattle.std.specs.Prelude.{◌≡◌, true, false, List, ◌++◌, ℕ, zero, suc, length, drop, replicate, ltb}
use Rattle.descriptions.specs.Limits.{working_size}
use Rattle.descriptions.specs.Call.{Call}
use Rattle.descriptions.specs.Answer.{Answer}
use Rattle.descriptions.specs.Rules.{Given}
use Rattle.descriptions.specs.Joining.{Joining}
use Rattle.descriptions.specs.Layout.{Layout}

-- both areas
pub record Areas : Type 0 where
  pub result : List ℕ
  pub working : List ℕ

-- "It returns a number, a length and a count of readings"; "Unification passes it on when the two definite graphs clash": the node
pub record Row : Type 0 where
  pub number : ℕ
  pub extent : ℕ
  pub readings : ℕ
  pub node : ℕ

-- the first n words zero
unfoldable pub wiped : ℕ → List ℕ → List ℕ
wiped n w = replicate n 0 ++ drop n w

-- "Working area: untouched by 1 to 5; after 6, 7, 8 and 0 its first 16,384 words are zero and later ones untouched." 10 and 11 stand
-- where 6 stood
unfoldable pub worked : ℕ → List ℕ → List ℕ
worked zero w = wiped working_size w
worked (suc n) w = elim (ltb n 5) [ true ↦ w | false ↦ wiped working_size w ]

module _ {Graph : Type 0} (J : Joining Graph) (𝓕 : Layout Graph) where
  open 𝓕 use {words}

  -- number, length, readings, node and every word of both areas after a call
  pub record Outcome (c : Call) (before : Areas) (r : Row) (after : Areas) : Type 0 where
    pub answer : Answer
    pub given : Given J 𝓕 c (length before.result) (length before.working) answer
    pub the_number : r.number ≡ answer.number
    pub the_extent : r.extent ≡ answer.extent
    pub the_readings : r.readings ≡ answer.readings
    pub the_node : r.node ≡ answer.node
    -- "only number 0 writes, the first so many words; the rest stays"
    pub the_result : after.result ≡ answer.result ++ drop (length answer.result) before.result
    pub the_working : after.working ≡ worked r.number before.working
