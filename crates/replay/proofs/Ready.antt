-- Two inputs whose definite graphs are pushed: their joined graph may be written. Assumes nothing.
use mathlib.Core.Path.{◌≡◌, refl, ap}
use mathlib.Core.Option.{Option, none, some}
use mathlib.Core.List.{List, [], ◌∷◌}
use Prim.Native.Nat.{ℕ, ◌+◌, ◌≤◌}
use native.Mathlib.Omega.{arith}
use lib.ListN.{length, length-append}
use Rattle.theory.specs.Limits.{depth_limit}
use Rattle.theory.specs.Net.{Graph, Joined}
use Rattle.theory.specs.Join.{join}
use Rattle.theory.specs.Descr.{Desc, desc, disjs}
use Rattle.theory.specs.Layout.{words, nodes_words, disjs_words, WellFormed}
use Rattle.theory.proofs.Instance.{AllCanonical, join_some, join_none}
use Rattle.theory.proofs.Weight.{joined_weight}
use Rattle.theory.specs.Weight.{weight}
use Rattle.loading.specs.Entry.{Entry, graphs}
use Rattle.loading.specs.Loaded.{nodes_in}
use Rattle.classes.specs.Holds.{Holds}
use Rattle.classes.proofs.Laws.{holds_agree}
use Rattle.std.specs.Prelude.{Some}
use Rattle.area.specs.Map.{SECOND}
use Rattle.area.specs.declared.map.Nodes.{Nodes}
use Rattle.opening.specs.Opening.{Acceptable, definite, Opens}
use Rattle.writing.specs.Writing.{Writing}

-- the words of a description are those of its graph, and two more
heavier : (d : Desc) (p n : ℕ) → weight (definite p n d).graph + 2 ≤ length (words d)
unfolding weight
heavier (desc g ds) p n = let e = length-append (length g ∷ nodes_words g) (disjs ds ∷ disjs_words ds) in omega arith

canonical : (d e : Desc) (p q m n : ℕ) → WellFormed d depth_limit → WellFormed e depth_limit
    → AllCanonical ((definite p m d).graph ∷ (definite q n e).graph ∷ [])
canonical (desc g ds) (desc h es) p q m n a b = (a.0, (b.0, tt))

-- graphs that are pushed have a joined graph
joined : (n : ℕ) (e : Entry) (es : List Entry) (k : ℕ) (w : List ℕ) → Holds n (e ∷ es) k w → AllCanonical (graphs (e ∷ es))
    → (G : Graph) × Joined (graphs (e ∷ es)) G
joined n e es k w h c = go (join (graphs (e ∷ es))) refl
  where
    go : (o : Option Graph) → join (graphs (e ∷ es)) ≡ o → (G : Graph) × Joined (graphs (e ∷ es)) G
    go (some G) q = (G, join_some e.graph (graphs es) c G q)
    go none q = absurd (holds_agree n (e ∷ es) k w h (join_none e.graph (graphs es) c q))

pub ready : (v a b w : List ℕ) (n : Nodes) (k : ℕ) → Acceptable a b → Opens v a b (Some (record { nodes = n; log = k })) w → Writing n.count k w 0
ready v a b w n k i o =
    let d = i.first.0 in
    let e = i.second.0 in
    let t = o.told d e record { first_well = i.first.1; second_well = i.second.1; first_is = i.first.2; second_is = i.second.2 } in
    let es : List Entry = definite 0 0 d ∷ definite SECOND (nodes_in d) e ∷ [] in
    let c = canonical d e 0 SECOND 0 (nodes_in d) i.first.1 i.second.1 in
    let j = joined n.count (definite 0 0 d) (definite SECOND (nodes_in d) e ∷ []) k w t.1 c in
    let x = joined_weight (graphs es) c j.0 j.1 in
    let y = heavier d 0 0 in let z = heavier e SECOND (nodes_in d) in
    let p = ap length i.first.2 in let q = ap length i.second.2 in let f = i.first_few in let g = i.second_few in
    record { es = es; G = j.0; holds = t.1; joined = j.1; room = omega arith }
