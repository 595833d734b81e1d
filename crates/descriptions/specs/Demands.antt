-- The second and the third demand, of any program with the form of unification.
-- Assumes nothing: these are definitions.
use Rattle.std.specs.Prelude.{◌≡◌, ◌⊎◌, ◌↔◌, Bool, true, false, List, [], ◌∷◌, ◌++◌, ℕ, ◌≤◌, length, eqb}
use Rattle.std.proofs.Math.Option.{Option, none, some}
use Rattle.descriptions.specs.Limits.{depth_limit}
use Rattle.descriptions.specs.Descr.{Desc, agreeing, choices, desc, end, pairs, readings}
use Rattle.descriptions.specs.Satisfaction.{Sat}
use Rattle.descriptions.specs.Call.{Call}
use Rattle.descriptions.specs.Answer.{Answer}
use Rattle.descriptions.specs.Rules.{mode_result}
use Rattle.descriptions.specs.Structures.{Structures}
use Rattle.descriptions.specs.Joining.{Joining}
use Rattle.descriptions.specs.Layout.{Layout}

-- "Unification takes a mode, two descriptions, a result area and a working area": of the areas, how many words each has
abbrev pub Unifier : Type 0
Unifier = Call → ℕ → ℕ → Answer

-- "Demand 3 reads "a clash" as any of the three."
abbrev pub ClashNumber : ℕ → Type 0
ClashNumber n = (n ≡ 6) ⊎ ((n ≡ 10) ⊎ (n ≡ 11))

-- a refusal on another ground
abbrev pub Refused : ℕ → Type 0
Refused n = ((1 ≤ n) × (n ≤ 5)) ⊎ ((7 ≤ n) × (n ≤ 8))

module _ {Graph : Type 0} where
  -- "the ways to choose one reading from each description on the list": each as the graphs that it takes
  abbrev pub one_of_each : List (Desc Graph) → List (List Graph)
  one_of_each [] = [] ∷ []
  one_of_each (d ∷ l) = pairs (choices d) (one_of_each l)

  -- the descriptions on a list
  abbrev pub descriptions : List (ℕ × Desc Graph) → List (Desc Graph)
  descriptions [] = []
  descriptions (s ∷ l) = s.1 ∷ descriptions l

module _ {Graph : Type 0} (𝓕 : Layout Graph) where
  open 𝓕 use {words, WellFormed}

  -- a call with the words of two descriptions
  abbrev pub with_words : ℕ → Desc Graph → Desc Graph → Call
  with_words mode a b = record { mode = mode; first = words a; second = words b }

  -- Demand 3. A description on the list, with the mode and the areas of its call, and whether the words in hand are the first input of
  -- it or the second
  pub record ListCall : Type 0 where
    pub item : Desc Graph
    pub fine : WellFormed item depth_limit
    pub in_hand_first : Bool
    pub mode : ℕ
    pub room : ℕ
    pub work : ℕ

  -- the call that a step makes with the words in hand
  abbrev pub next_call : List ℕ → ListCall → Call
  next_call ws s = let b = words s.item in let t = s.in_hand_first in
      record { mode = s.mode; first = elim t [ true ↦ ws | false ↦ b ]; second = elim t [ true ↦ b | false ↦ ws ] }

  abbrev pub call : Unifier → List ℕ → ListCall → Answer
  call U ws s = U (next_call ws s) s.room s.work

  -- the words in hand after these calls, "while every call succeeds"
  abbrev pub reached : Unifier → List ℕ → List ListCall → Option (List ℕ)
  reached U ws [] = some ws
  reached U ws (s ∷ l) = elim (eqb (call U ws s).number 0) [ true ↦ reached U (call U ws s).result l | false ↦ none ]

  abbrev pub items : List ListCall → List (Desc Graph)
  items [] = []
  items (s ∷ l) = s.item ∷ items l

module _ {Graph : Type 0} (J : Joining Graph) where
  -- "so that all agree"
  abbrev pub ways : List (Desc Graph) → ℕ
  ways l = agreeing J (one_of_each l)

  -- the same before any words, rooms or limits: each description with its mode, one after another into d
  abbrev pub gathered : Desc Graph → List (ℕ × Desc Graph) → Option (Desc Graph)
  gathered d [] = some d
  gathered d (s ∷ l) = elim (mode_result J s.0 d s.1) [ none ↦ none | some e ↦ gathered e l ]

module _ {Graph : Type 0} (J : Joining Graph) (𝓕 : Layout Graph) where
  open J use {nil}
  open 𝓕 use {words, WellFormed}

  -- "Start from the empty description and unify any list of descriptions into it, one after another, in any mixture of modes."
  abbrev pub start : List ℕ
  start = words (desc nil end)

  pub record Demand3 (U : Unifier) : Type 0 where
    -- "While every call succeeds, the consistent readings of the result number as many as the ways"
    pub number : (l : List (ListCall 𝓕)) (ws : List ℕ) → reached 𝓕 U start l ≡ some ws →
        (d : Desc Graph) × WellFormed d depth_limit × (ws ≡ words d) × (readings J d ≡ ways J (items 𝓕 l))
    -- "A clash is reported only when that number is zero"
    pub clash : (l : List (ListCall 𝓕)) (ws : List ℕ) (s : ListCall 𝓕) → reached 𝓕 U start l ≡ some ws →
        ClashNumber (call 𝓕 U ws s).number → ways J (items 𝓕 l ++ s.item ∷ []) ≡ 0
    -- "the complete mode, unless it refuses on another ground, reports a clash whenever it is zero"
    pub told : (l : List (ListCall 𝓕)) (ws : List ℕ) (s : ListCall 𝓕) → reached 𝓕 U start l ≡ some ws → s.mode ≡ 2 →
        ways J (items 𝓕 l ++ s.item ∷ []) ≡ 0 → ClashNumber (call 𝓕 U ws s).number ⊎ Refused (call 𝓕 U ws s).number
    -- "and on success it reports that number"
    pub counted : (l : List (ListCall 𝓕)) (ws : List ℕ) (s : ListCall 𝓕) → reached 𝓕 U start l ≡ some ws →
        s.mode ≡ 2 → (call 𝓕 U ws s).number ≡ 0 →
        (call 𝓕 U ws s).readings ≡ ways J (items 𝓕 l ++ s.item ∷ [])

module _ {Graph : Type 0} (J : Joining Graph) (𝓜 : Structures Graph) (𝓕 : Layout Graph) where
  open 𝓜 use {Structure}
  open 𝓕 use {words, WellFormed}

  -- Demand 2. On 0 the result is the mode's, it is a description, and a structure satisfies it exactly when it satisfies both inputs;
  -- on a clash, whichever of the three, no structure satisfies both.
  pub record Succeeds (mode : ℕ) (a b : Desc Graph) (r : Answer) (d : Desc Graph) : Type 1 where
    pub written : r.result ≡ words d
    pub measured : r.extent ≡ length (words d)
    pub well : WellFormed d depth_limit
    pub by_mode : mode_result J mode a b ≡ some d
    pub means : (S : Structure) → Sat 𝓜 S d ↔ (Sat 𝓜 S a × Sat 𝓜 S b)

  pub record Demand2 (U : Unifier) : Type 1 where
    pub success : (mode : ℕ) (a b : Desc Graph) → WellFormed a depth_limit → WellFormed b depth_limit → (room work : ℕ) →
        (U (with_words 𝓕 mode a b) room work).number ≡ 0 → (d : Desc Graph)
        × Succeeds mode a b (U (with_words 𝓕 mode a b) room work) d
    pub clash : (mode : ℕ) (a b : Desc Graph) → WellFormed a depth_limit → WellFormed b depth_limit → (room work : ℕ) →
        ClashNumber (U (with_words 𝓕 mode a b) room work).number → (S : Structure) → Sat 𝓜 S a → Sat 𝓜 S b → ⊥
