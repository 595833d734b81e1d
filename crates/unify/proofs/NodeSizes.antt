-- The node of a clash is below 2,048. Assumes nothing.
use mathlib.Core.Path.{ap}
use mathlib.Core.List.{[], ◌∷◌}
use Prim.Native.Nat.{ℕ, ◌+◌, ◌≤◌, ◌<◌}
use native.Mathlib.Omega.{arith}
use lib.ListN.{length, length-append}
use Rattle.theory.specs.Net.{atom, arcs, Graph}
use Rattle.descriptions.specs.Descr.{definite_graph}
use Rattle.theory.specs.Descr.{Desc, desc, disjs}
use Rattle.theory.specs.Layout.{arc_words, nodes_words, disjs_words, words}
use Rattle.theory.specs.ClashNode.{ClashNode}
use Rattle.theory.specs.Answer.{Answer, Call}
use Rattle.theory.specs.Rules.{Accepted, Given, one, two, three, four, five, six, ten, seven, eleven, eight, done}
use Rattle.theory.specs.Outcome.{Areas, Outcome, Row}
use Rattle.theory.proofs.Somewhere.{node_low}

-- a node has a word at least
nodes_short : (g : Graph) → length g ≤ length (nodes_words g)
nodes_short [] = omega arith
nodes_short (atom a ∷ g) = omega (arith, nodes_short g)
nodes_short (arcs l ∷ g) = omega (arith, nodes_short g, length-append (arc_words l) (nodes_words g))

definite_short : (d : Desc) → length (definite_graph d) < length (words d)
definite_short (desc g ds) = omega (arith, nodes_short g, length-append (nodes_words g) (disjs ds ∷ disjs_words ds))

module _ (c : Call) where
  clash_low : (work : ℕ) (d e : Desc) (i : ℕ) → Accepted c work d e → ClashNode (definite_graph d) (definite_graph e) i → i < 2048
  clash_low work d e i A n =
      let low = node_low (definite_graph d) (definite_graph e) i n in
      let f = definite_short d in let g = definite_short e in
      let p = ap length A.first_is in let q = ap length A.second_is in
      let x = A.first_short in let y = A.second_short in
      omega arith

  pub given_low : (room work : ℕ) (r : Answer) → Given c room work r → r.node < 2048
  given_low room work r (one h) = omega arith
  given_low room work r (two m h) = omega arith
  given_low room work r (three m w h) = omega arith
  given_low room work r (four m w la lb n) = omega arith
  given_low room work r (five m w la lb i n) = omega arith
  given_low room work r (six d e i A h n) = clash_low work d e i A n
  given_low room work r (ten d e A j l h) = omega arith
  given_low room work r (seven d e A c t) = omega arith
  given_low room work r (eleven d e A c t m n) = omega arith
  given_low room work r (eight d e s A c t h l) = omega arith
  given_low room work r (done d e s A c t h l) = omega arith

  pub outcome_low : (before after : Areas) (r : Row) → Outcome c before r after → r.node < 2048
  outcome_low before after r o =
      let h = given_low (length before.result) (length before.working) o.answer o.given in
      let e = o.the_node in
      omega arith
