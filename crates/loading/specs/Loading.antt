-- What the functions that load ask of the words, and what they promise: one promise for each kind of thing that words stand for.
-- Assumes nothing: these are definitions.
use Rattle.std.specs.Prelude.{ℕ, ◌+◌, ◌-◌, ◌*◌, ◌≤◌, ◌<◌, ◌≡◌, ◌⊎◌, List, [], ◌∷◌, length, get_or}
use Rattle.theory.specs.Limits.{input_limit, depth_limit}
use Rattle.theory.specs.Net.{Node, Graph, arcsOf}
use Rattle.theory.specs.Descr.{Desc, Alts, alts}
use Rattle.theory.specs.Layout.{arc_words, node_words, nodes_words, words, NodeFits, GraphFits, WellFormed, WellAny}
use Rattle.theory.specs.LayoutOne.{Image}
use Rattle.layout.specs.Standing.{Stands, graph_words, disjunction_words}
use Rattle.loading.specs.Loaded.{header, moved_arcs, moved_node, located, nodes_in, nodes_any, alts_in, alts_any, loaded}
use Rattle.loading.specs.Loaded.{loaded_any, input_loaded}

-- t' is t with the words xs put from p up to q, and no other word changed
pub record Put (t t' : List ℕ) (p : ℕ) (xs : List ℕ) (q : ℕ) : Type 0 where
  pub same : length t' ≡ length t
  pub stands : Stands t' p xs q
  pub rest : (j : ℕ) → (j < p) ⊎ (q ≤ j) → get_or t' j 0 ≡ get_or t j 0

-- what comes next: the number of a node, the mark of an alternative, and the first mark that is free
pub record Stock : Type 0 where
  pub number : ℕ
  pub own : ℕ
  pub free : ℕ

abbrev pub stock : ℕ → ℕ → ℕ → Stock
stock n x y = record { number = n; own = x; free = y }

-- where no alternatives come
abbrev pub node_stock : ℕ → Stock
node_stock n = stock n 0 0

-- a number and marks that an input may have
abbrev pub Few : Stock → Type 0
Few c = (c.number ≤ input_limit) × (c.own ≤ input_limit) × (c.free ≤ input_limit)

-- a kind of thing: when it may come, its words, what they are loaded as at a position, with what comes there, and what comes after it
pub record Kind : Type 1 where
  pub Thing : Type 0
  pub Fine : Thing → Type 0
  pub text : Thing → List ℕ
  pub image : ℕ → Stock → Thing → List ℕ
  pub after : Stock → Thing → Stock

-- targets are below the node count, which words of an input keep below this
abbrev pub Low : List (ℕ × ℕ) → Type 0
Low [] = Unit {0}
Low (e ∷ l) = (e.1 < input_limit) × Low l

abbrev pub AllLow : Graph → Type 0
AllLow [] = Unit {0}
AllLow (v ∷ vs) = Low (arcsOf v) × AllLow vs

-- k arcs
abbrev pub its_arcs : ℕ → Kind
its_arcs k = record {
  Thing = List (ℕ × ℕ);
  Fine = λ l. (length l ≡ k) × Low l;
  text = arc_words;
  image =
      λ p c l. arc_words (moved_arcs c.number l);
  after = λ c l. c;
}

abbrev pub a_node : Kind
a_node = record {
  Thing = Node;
  Fine = λ v. NodeFits v × Low (arcsOf v);
  text = node_words;
  image = λ p c v. node_words (moved_node c.number v);
  after = λ c v. c;
}

-- k nodes
abbrev pub its_nodes : ℕ → Kind
its_nodes k = record {
  Thing = Graph;
  Fine = λ g. (length g ≡ k) × GraphFits g × AllLow g;
  text = nodes_words;
  image = λ p c. located c.number;
  after =
      λ c g. c;
}

abbrev pub a_graph : Kind
a_graph = record {
  Thing = Graph;
  Fine = λ g. GraphFits g × AllLow g;
  text = graph_words;
  image = λ p c g. header c.number g ∷ located c.number g;
  after =
      λ c g. stock (c.number + length g) c.own c.free;
}

-- a disjunction whose own alternatives are one of the `left` levels
abbrev pub a_disjunction : ℕ → Kind
a_disjunction left = record {
  Thing = Alts;
  Fine = λ a. (0 < left) × WellAny a (left - 1);
  text = disjunction_words;
  image =
      λ p c a. alts a ∷ loaded_any (p + 1) c.number c.free (c.free + alts a) a;
  after = λ c a. stock (c.number + nodes_any a) c.own (c.free + (alts a + alts_any a));
}

-- a description under which alternatives nest at most `left` deep
abbrev pub a_description : ℕ → Kind
a_description left = record {
  Thing = Desc;
  Fine = λ d. WellFormed d left;
  text = words;
  image = λ p c. loaded p c.number c.own c.free;
  after = λ c d. stock (c.number + nodes_in d) (c.own + 1) (c.free + alts_in d);
}

-- the words have room at the shift, and are no more than an input may have
pub record Room (t ws : List ℕ) (shift : ℕ) : Type 0 where
  pub few : length ws ≤ input_limit
  pub near : shift ≤ input_limit
  pub room : shift + length ws ≤ length t

-- a thing of the kind stands at p, and what comes after it is few
abbrev pub Asked : Kind → List ℕ → ℕ → Stock → Type 0
Asked K ws p c = (x : K.Thing) × (q : ℕ) × K.Fine x × Stands ws p (K.text x) q × Few (K.after c x)

-- whatever thing of the kind stands at p: it ends at r, after it comes e, and it is loaded
abbrev pub Loads : Kind → List ℕ → ℕ → ℕ → Stock → List ℕ → List ℕ → ℕ → Stock → Type 0
Loads K ws p shift c t t' r e =
    (x : K.Thing) (q : ℕ) → K.Fine x → Stands ws p (K.text x) q →
    (r ≡ q) × (e ≡ K.after c x) × Put t t' (shift + p) (K.image (shift + p) c x) (shift + q)

-- what loading an input asks: it is the image of a description, and there is room for its words and its numbers
pub record Loadable (t ws : List ℕ) (shift n : ℕ) : Type 0 where
  pub image : Image ws
  pub few : length ws ≤ input_limit
  pub near : shift ≤ input_limit
  pub room : 2 * input_limit ≤ length t
  pub numbers : 3 * n ≤ input_limit

-- and what it promises: the description is loaded at the shift with numbers from n up to m, and no other word has changed
abbrev pub LoadedAt : List ℕ → ℕ → ℕ → List ℕ → List ℕ → ℕ → Type 0
LoadedAt ws shift n t t' m = (d : Desc) → WellFormed d depth_limit → ws ≡ words d →
    (m ≡ n + nodes_in d) × Put t t' shift (input_loaded shift n d) (shift + length ws)
