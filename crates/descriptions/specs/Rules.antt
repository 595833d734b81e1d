-- The table of numbers, rule by rule: which answer is given, exactly when.
-- Assumes nothing: these are definitions.
use Rattle.std.specs.Prelude.{◌≡◌, ◌⊎◌, ℕ, zero, suc, ◌≤◌, ◌<◌, length}
use Rattle.std.proofs.Math.Option.{Option, none, some}
use Rattle.descriptions.specs.Limits.{choice_limit, depth_limit, input_limit, working_size}
use Rattle.descriptions.specs.Descr.{Desc, definite_graph, number}
use Rattle.descriptions.specs.Layout.{Image, Layout}
use Rattle.descriptions.specs.Modes.{full, joined, quick}
use Rattle.descriptions.specs.Call.{Call}
use Rattle.descriptions.specs.Answer.{Answer, clash_at, consistent, no_room, refuse, success}
use Rattle.descriptions.specs.Joining.{Joining}

module _ {Graph : Type 0} (𝓕 : Layout Graph) (c : Call) where
  open 𝓕 use {words, WellFormed}
  open c use {mode, first, second}

  -- none of the rules 1 to 5 holds, and the inputs are the words of these two
  pub record Accepted (work : ℕ) (d e : Desc Graph) : Type 0 where
    pub mode_fine : mode ≤ 2
    pub area_fine : working_size ≤ work
    pub first_short : length first ≤ input_limit
    pub second_short : length second ≤ input_limit
    pub first_well : WellFormed d depth_limit
    pub second_well : WellFormed e depth_limit
    pub first_is : first ≡ words d
    pub second_is : second ≡ words e

module _ {Graph : Type 0} (J : Joining Graph) where
  -- what the mode makes of two descriptions, or a clash
  abbrev pub mode_result : ℕ → Desc Graph → Desc Graph → Option (Desc Graph)
  mode_result zero d e = joined J d e
  mode_result (suc zero) d e = quick J d e
  mode_result (suc (suc m)) d e = full J d e

  -- "mode 2: consistent choices of the joined description; else 0"
  abbrev pub mode_readings : ℕ → Desc Graph → Desc Graph → ℕ
  mode_readings zero d e = 0
  mode_readings (suc zero) d e = 0
  mode_readings (suc (suc m)) d e = consistent J d e

  -- "clash: in the joining or, modes 1 and 2, the quick step": 6 or 10
  abbrev pub Clashes : ℕ → Desc Graph → Desc Graph → Type 0
  Clashes mode d e = (joined J d e ≡ none) ⊎ ((1 ≤ mode) × (quick J d e ≡ none))

  -- "mode 2, quick step did not fail, its result has over 4,096 choices"
  abbrev pub TooMany : ℕ → Desc Graph → Desc Graph → Type 0
  TooMany mode d e = (mode ≡ 2) × (q : Desc Graph) × (quick J d e ≡ some q) × (choice_limit < number q)

module _ {Graph : Type 0} (J : Joining Graph) (𝓕 : Layout Graph) (c : Call) (room work : ℕ) where
  open J use {ClashNode}
  open 𝓕 use {words}
  open c use {mode, first, second}

  -- each answer under its rule, no earlier rule holding
  pub data Given : Answer → Type 0 where
    one : 2 < mode → Given (refuse 1)
    two : mode ≤ 2 → work < working_size → Given (refuse 2)
    three : mode ≤ 2 → working_size ≤ work → (input_limit < length first) ⊎ (input_limit < length second) → Given (refuse 3)
    four : mode ≤ 2 → working_size ≤ work → length first ≤ input_limit → length second ≤ input_limit →
        ¬ (Image 𝓕 first) → Given (refuse 4)
    five : mode ≤ 2 → working_size ≤ work → length first ≤ input_limit → length second ≤ input_limit → Image 𝓕 first →
        ¬ (Image 𝓕 second) → Given (refuse 5)
    -- "6 definite graphs clash, with the node"
    six : (d e : Desc Graph) (i : ℕ) → Accepted 𝓕 c work d e → joined J d e ≡ none →
        ClashNode (definite_graph d) (definite_graph e) i → Given (clash_at i)
    -- "10 the quick step failed", where the definite graphs join
    ten : (d e : Desc Graph) → Accepted 𝓕 c work d e → ¬ (joined J d e ≡ none) → 1 ≤ mode → quick J d e ≡ none →
        Given (refuse 10)
    seven : (d e : Desc Graph) → Accepted 𝓕 c work d e → ¬ (Clashes J mode d e) → TooMany J mode d e → Given (refuse 7)
    -- "in mode 2, after check 7, also no consistent choice": "11 no consistent choice"
    eleven : (d e : Desc Graph) → Accepted 𝓕 c work d e → ¬ (Clashes J mode d e) → ¬ (TooMany J mode d e) →
        mode ≡ 2 → consistent J d e ≡ 0 → Given (refuse 11)
    eight : (d e r : Desc Graph) → Accepted 𝓕 c work d e → ¬ (Clashes J mode d e) → ¬ (TooMany J mode d e) →
        mode_result J mode d e ≡ some r → room < length (words r) →
        Given (no_room (length (words r)))
    done : (d e r : Desc Graph) → Accepted 𝓕 c work d e → ¬ (Clashes J mode d e) → ¬ (TooMany J mode d e) →
        mode_result J mode d e ≡ some r → length (words r) ≤ room →
        Given (success (mode_readings J mode d e) (words r))
