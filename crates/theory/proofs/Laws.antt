-- Layout one under rule 0 keeps the laws of a kind of graph.
-- Assumes nothing.
use mathlib.Core.Path.{◌≡◌, refl, sym, ◌∙◌}
use mathlib.Core.Option.{Option, none, some}
use mathlib.Core.List.Memᴰ
use mathlib.Core.List.{List, [], ◌∷◌, ◌++◌}
use mathlib.Core.Logic.{⊎_elim}
use Prim.Native.Nat.{ℕ, ◌<◌}
use native.Mathlib.Omega.{arith}
use lib.ListN.{length, length-append}
use Rattle.descriptions.proofs.Laws.{Laws, Within}
use Rattle.theory.specs.Net.{Graph, Canonical, Clash, Joined}
use Rattle.theory.specs.Join.{join}
use Rattle.theory.specs.ClashNode.{ClashNode}
use Rattle.theory.specs.Located.{clash_node?}
use Rattle.theory.specs.JoiningOne.{clash_node, joining_one}
use Rattle.theory.proofs.Meaning.{canonical_some}
use Rattle.theory.proofs.Flat.{joined_clash, joined_fewer}
use Rattle.theory.proofs.Instance.{AllCanonical, join_some, join_none, none_join}
use Rattle.theory.proofs.Sets.{clash_within, joined_within, join_same}
use Rattle.theory.proofs.Fit.{same_node, fit_test}
use Rattle.theory.proofs.ClashSearch.{Finding, clash_at, no_node}
use Rattle.theory.proofs.Somewhere.{clash_is_somewhere, locates, one_node, somewhere_is_clash}
use Rattle.theory.proofs.Nothing.{nil, nil_canonical, nil_holds}

pub joined_of : (gs : List Graph) → (0 < length gs) × AllCanonical gs → (K : Graph) → join gs ≡ some K → Joined gs K
joined_of [] f K e = absurd (omega (arith, f.0))
joined_of (g ∷ gs) f K e = join_some g gs f.1 K e

pub append : (a b : List Graph) → AllCanonical a → AllCanonical b → AllCanonical (a ++ b)
append [] b p q = q
append (g ∷ a) b p q = (p.0, append a b p.1 q)

pub order : (c d : List Graph) → 0 < length c → 0 < length d → AllCanonical c → AllCanonical d → Within c d → Within d c → join c ≡ join d
order c d p q f g w v = join_same c d p q f g (joined_within c d f g w v) (clash_within c d f g w)

pub stays : (c d : List Graph) → 0 < length c → 0 < length d → AllCanonical c → AllCanonical d → Within c d → join c ≡ none → join d ≡ none
stays [] d p q f g w e = absurd (omega arith)
stays (x ∷ c) [] p q f g w e = absurd (omega arith)
stays (x ∷ c) (y ∷ d) p q f g w e = none_join y d g (clash_within (x ∷ c) (y ∷ d) f g w (join_none x c f e))

pub stands : (gs : List Graph) → 0 < length gs → AllCanonical gs → (K : Graph) → join gs ≡ some K → (hs : List Graph) → AllCanonical hs →
    join (K ∷ hs) ≡ join (gs ++ hs)
stands gs p f K e hs h =
    let j : Joined gs K = joined_of gs (p, f) K e in
    join_same (K ∷ hs) (gs ++ hs) (omega arith) (simp length-append (omega arith)) (j.canonical, h) (append gs hs f h)
    (λ L. joined_fewer hs K gs j L) (joined_clash hs K gs j).0

pub silent : (hs : List Graph) → AllCanonical hs → join (nil ∷ hs) ≡ join hs
unfolding join
silent [] f = refl
silent (g ∷ hs) f = sym (nil_holds (g ∷ hs) f (omega arith))

pub join_one : (g : Graph) → Canonical g → join (g ∷ []) ≡ some g
join_one g c = order (g ∷ []) (g ∷ g ∷ []) (omega arith) (omega arith) (c, tt) (c, (c, tt)) (λ x m. Memᴰ.tail m)
    (λ x m. ⊎_elim (λ e. Memᴰ.head e) (λ i. i) (Memᴰ.cases_cons m))
    ∙ (fit_test g c g c).1 (record {
      to = λ x. x;
      root_to = λ x r. same_node g c x (0, canonical_some g c) r;
      atom_to = λ x a u. u;
      arc_to =
          λ x f y u. u;
    })

pub glue_joins : (g : Graph) → Canonical g → (l : List Graph) (k : Graph) → Rattle.descriptions.specs.Modes.glue joining_one g l ≡ some k →
    join (g ∷ l) ≡ some k
glue_joins g c [] k e = join_one g c ∙ e
glue_joins g c (h ∷ l) k e = e

-- where two graphs clash, `clash_node` tells the node
pub located : (g h : Graph) → Canonical g → Canonical h → join (g ∷ h ∷ []) ≡ none → ClashNode g h (clash_node g h)
located g h c d e = go (clash_node? g h) (locates g h)
  where
    clash : Clash (g ∷ h ∷ [])
    clash = join_none g (h ∷ []) (c, (d, tt)) e

    go : (o : Option ℕ) → Finding g h o → ClashNode g h (elim o [ none ↦ 0 | some i ↦ i ])
    go (some i) (clash_at k n) = n
    go none (no_node f) = let (i, n) = clash_is_somewhere g h clash in absurd (f i n.clashing)

abbrev pub laws : Laws joining_one
laws = record {
  Canonical = Canonical;
  nil_canonical = nil_canonical;
  fits = λ gs p f K e. (joined_of gs (p, f) K e).canonical;
  order = order;
  stays = stays;
  stands = stands;
  silent = silent;
  located = located;
  one_node = one_node;
  node_clash = λ g h c d i n. none_join g (h ∷ []) (c, (d, tt)) (somewhere_is_clash g h i n);
}
