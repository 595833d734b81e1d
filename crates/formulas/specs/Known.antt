-- Known formulas, and the words of their descriptions.
-- Assumes nothing: these are definitions.
use Rattle.std.proofs.Math.Option.{Option, none, some}
use Rattle.std.specs.Prelude.{List, [], ◌∷◌, ◌++◌, ℕ, ◌+◌}
use Rattle.theory.specs.Descr.{Desc}
use Rattle.theory.specs.Layout.{words}
use Rattle.theory.specs.Known.{N, A, B, Ac, E, P, L, atom10}
use Rattle.formulas.specs.Formula.{Path, Formula, nil, top, atom, at, same, all, any, one, ◌also◌}

-- a formula, and the words of its description or none for a clash
pub record FormulaCase : Type 0 where
  pub formula : Formula
  pub answer : Option (List ℕ)

abbrev pub shown_words : Option Desc → Option (List ℕ)
shown_words none = none
shown_words (some d) = some (words d)

abbrev gives : Formula → List ℕ → FormulaCase
gives φ ws = record { formula = φ; answer = some ws }

abbrev clash : Formula → FormulaCase
clash φ = record { formula = φ; answer = none }

infixr 5 ◌&◌
abbrev ◌&◌ : Formula → Formula → Formula
φ & ψ = all φ (one ψ)

infixr 4 ◌or◌
abbrev ◌or◌ : Formula → Formula → Formula
φ or ψ = any φ (one ψ)

abbrev f : ℕ → Path
f n = n ∷ []

-- feature 1 is atom 12
abbrev A12 : List ℕ
A12 = 2 ∷ 1 ∷ 1 ∷ 1 ∷ 65548 ∷ 0 ∷ []

-- feature n is atom 10, and atom 11
abbrev ten : ℕ → List ℕ
ten n = 2 ∷ 1 ∷ n ∷ 1 ∷ 65546 ∷ 0 ∷ []

abbrev eleven : ℕ → List ℕ
eleven n = 2 ∷ 1 ∷ n ∷ 1 ∷ 65547 ∷ 0 ∷ []

-- feature n is atom n: the formula, and its graph
abbrev fact : ℕ → Formula
fact n = at n (atom n)

abbrev says : ℕ → List ℕ
says n = 2 ∷ 1 ∷ n ∷ 1 ∷ (65536 + n) ∷ []

abbrev only : ℕ → List ℕ
only n = says n ++ 0 ∷ []

abbrev pub known_formulas : List FormulaCase
known_formulas =
    -- NIL, a10, f1:a10
    gives nil N
    ∷ gives (atom 10) atom10
    ∷ gives (at 1 (atom 10)) A
    -- f1:a10&f2:a10: equal atoms are two nodes
    ∷ gives (at 1 (atom 10) & at 2 (atom 10)) Ac
    -- [<f1>,<f2>], [<>,<f1>], [<f1>], [<>]
    ∷ gives (same (f 1) (f 2 ∷ [])) E
    ∷ gives (same [] (f 1 ∷ [])) L
    ∷ gives (same (f 1) []) (2 ∷ 1 ∷ 1 ∷ 1 ∷ 0 ∷ 0 ∷ [])
    ∷ gives (same [] []) N
    -- f1:[<f2>,<f3>], f1:[<>,<f2>]
    ∷ gives (at 1 (same (f 2) (f 3 ∷ []))) (3 ∷ 1 ∷ 1 ∷ 1 ∷ 2 ∷ 2 ∷ 2 ∷ 3 ∷ 2 ∷ 0 ∷ 0 ∷ [])
    ∷ gives (at 1 (same [] (f 2 ∷ []))) (2 ∷ 1 ∷ 1 ∷ 1 ∷ 1 ∷ 2 ∷ 1 ∷ 0 ∷ [])
    -- [<f1>,<f2>]&f1:a10&f2:f3:NIL: an atom and an arc
    ∷ clash (all (same (f 1) (f 2 ∷ [])) (at 1 (atom 10) also one (at 2 (at 3 nil))))
    -- f1:a10|f1:a11
    ∷ gives (at 1 (atom 10) or at 1 (atom 11)) P
    -- f1:(a10|a11): 19 words, the arc in the definite part and in each alternative
    ∷ gives (at 1 (atom 10 or atom 11)) (2 ∷ 1 ∷ 1 ∷ 1 ∷ 0 ∷ 1 ∷ 2 ∷ (A ++ B))
    -- f1:(NIL|f2:(a10|a11)): however deep
    ∷ gives (at 1 (nil or at 2 (atom 10 or atom 11)))
    ((2 ∷ 1 ∷ 1 ∷ 1 ∷ 0 ∷ 1 ∷ 2 ∷ 2 ∷ 1 ∷ 1 ∷ 1 ∷ 0 ∷ 0 ∷ [])
    ++ (3 ∷ 1 ∷ 1 ∷ 1 ∷ 1 ∷ 2 ∷ 2 ∷ 0 ∷ 1 ∷ 2 ∷ [])
    ++ (3 ∷ 1 ∷ 1 ∷ 1 ∷ 1 ∷ 2 ∷ 2 ∷ 65546 ∷ 0 ∷ [])
    ++ (3 ∷ 1 ∷ 1 ∷ 1 ∷ 1 ∷ 2 ∷ 2 ∷ 65547 ∷ 0 ∷ []))
    -- TOP, f1:TOP, TOP|f1:TOP
    ∷ clash top
    ∷ clash (at 1 top)
    ∷ clash (top or at 1 top)
    -- (f1:a10&f1:a11)|f1:a12: one left is folded
    ∷ gives ((at 1 (atom 10) & at 1 (atom 11)) or at 1 (atom 12)) A12
    -- f1:a10&(f1:a11|TOP): folding clashes
    ∷ clash (at 1 (atom 10) & (at 1 (atom 11) or top))
    -- f1:a10&f1:(a11|a12): alternatives are not tried against the definite part
    ∷ gives (at 1 (atom 10) & at 1 (atom 11 or atom 12)) (2 ∷ 1 ∷ 1 ∷ 1 ∷ 65546 ∷ 1 ∷ 2 ∷ (B ++ A12))
    -- f2:a10&(f1:a10|(f2:a11&(f3:a10|f3:a11)))
    ∷ gives (at 2 (atom 10) & (at 1 (atom 10) or (at 2 (atom 11) & (at 3 (atom 10) or at 3 (atom 11)))))
    ((2 ∷ 1 ∷ 2 ∷ 1 ∷ 65546 ∷ 1 ∷ 2 ∷ A) ++ (2 ∷ 1 ∷ 2 ∷ 1 ∷ 65547 ∷ 1 ∷ 2 ∷ ten 3) ++ eleven 3)
    -- (f4:a10|f4:a11)&(TOP|(f1:a10&(f2:a10|f2:a11)))&(f3:a10|f3:a11): what is folded stands in its place
    ∷ gives (all (at 4 (atom 10) or at 4 (atom 11))
    ((top or (at 1 (atom 10) & (at 2 (atom 10) or at 2 (atom 11)))) also one (at 3 (atom 10) or at 3 (atom 11))))
    ((2 ∷ 1 ∷ 1 ∷ 1 ∷ 65546 ∷ 3 ∷ 2 ∷ ten 4) ++ eleven 4 ++ (2 ∷ ten 2) ++ eleven 2 ++ (2 ∷ ten 3) ++ eleven 3)
    -- the formula of figure 2 of source document 004
    ∷ gives (all (fact 0) ((fact 1 or fact 2) also one (any (fact 3) (fact 4 also one (fact 5 & (fact 6 or fact 7))))))
    (says 0 ++ (2 ∷ 2 ∷ only 1) ++ only 2 ++ (3 ∷ only 3) ++ only 4 ++ says 5 ++ (1 ∷ 2 ∷ only 6) ++ only 7)
    -- a10|a11|a12 is one disjunction, (a10|a11)|a12 are two
    ∷ gives (any (atom 10) (atom 11 also one (atom 12)))
    (1 ∷ 0 ∷ 1 ∷ 3 ∷ 1 ∷ 65546 ∷ 0 ∷ 1 ∷ 65547 ∷ 0 ∷ 1 ∷ 65548 ∷ 0 ∷ [])
    ∷ gives ((atom 10 or atom 11) or atom 12)
    (1 ∷ 0 ∷ 1 ∷ 2 ∷ 1 ∷ 0 ∷ 1 ∷ 2 ∷ 1 ∷ 65546 ∷ 0 ∷ 1 ∷ 65547 ∷ 0 ∷ 1 ∷ 65548 ∷ 0 ∷ [])
    ∷ []
