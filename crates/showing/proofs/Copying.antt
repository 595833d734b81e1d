-- A graph is copied node by node: what is still to be copied goes on to the whole.
-- Assumes nothing.
use Prim.Native.Nat.{ℕ, ◌+◌, ◌-◌, ◌%◌, ◌≤◌, ◌<◌}
use native.Mathlib.Omega.{arith}
use mathlib.Core.Path.{◌≡◌, refl, sym, ap, subst, ◌∙◌}
use mathlib.Core.List.{List, [], ◌∷◌, ◌++◌, append-nil, append_assoc}
use lib.ListN.{length, get_or, set, length-set, length-append}
use Rattle.theory.specs.Net.{Node, Graph}
use Rattle.theory.specs.Layout.{node_words, nodes_words}
use Rattle.area.specs.Map.{RESULT}
use Rattle.area.specs.Region.{loaded_words}
use Rattle.area.proofs.Region.{words_many}
use Rattle.layout.specs.Standing.{Stands, graph_words}
use Rattle.layout.proofs.Standing.{stands_append, stands_length, stands_within}
use Rattle.engine.specs.Placed.{Placed, place, own}
use Rattle.packing.specs.Packed.{number_step}
use Rattle.loading.specs.Loaded.{extent, moved_node, located}
use Rattle.loading.specs.Loading.{Put}
use Rattle.loading.specs.Lying.{Lying, Here}
use Rattle.loading.proofs.Sizes.{node_length}
use Rattle.loading.proofs.Putting.{put_nil, put_append, put_one}
use Rattle.loading.proofs.Walking.{at_header, at_counts}
use Rattle.marks.specs.Positions.{number_at}
use Rattle.marks.proofs.Reading.{number_is, reads}
use Rattle.showing.specs.Copying.{node_piece, nodes_piece, Copying, Copies, Graphing}
use Rattle.showing.proofs.Nodes.{put_words, put_end}

module _ (w : List ℕ) (number p count o : ℕ) (c : Copying (nodes_piece count) w number p o) where
  -- `left` nodes are still to be copied, from `at` to `out`
  pub record Nodes (left at out : ℕ) (w₁ : List ℕ) : Type 0 where
    pub vs : Graph
    pub many : length vs ≡ left
    pub within : at ≤ length (loaded_words w)
    pub stand : Stands (loaded_words w) at (located number vs) c.q
    pub done : List ℕ
    pub put : Put w w₁ (RESULT + o) done (RESULT + out)
    pub is : nodes_words c.x ≡ done ++ nodes_words vs

  pub nodes_start : Nodes count p o w
  nodes_start = record {
    vs = c.x;
    many = c.fine;
    within = omega (arith, c.within, words_many w c.long);
    stand = c.stands;
    done = [];
    put = put_nil w (RESULT + o);
    is = refl;
  }

  module _ (left at out : ℕ) (w₁ : List ℕ) (v : Nodes left at out w₁) where
    pub nodes_done : left ≤ 0 → Put w w₁ (RESULT + o) (nodes_words c.x) (RESULT + out)
    nodes_done h = go v.vs v.many v.is
      where
        go : (vs : Graph) → length vs ≡ left → nodes_words c.x ≡ v.done ++ nodes_words vs →
            Put w w₁ (RESULT + o) (nodes_words c.x) (RESULT + out)
        go [] e f = subst (λ (xs : List ℕ). Put w w₁ (RESULT + o) xs (RESULT + out)) (sym (f ∙ append-nil v.done)) v.put
        go (x ∷ l) e f = absurd (omega arith)

    pub nodes_same : length w₁ ≡ length w
    nodes_same = v.put.same

    module _ (h : 0 < left) where
      -- the next node
      record Next : Type 0 where
        x : Node
        vs : Graph
        later : length vs + 1 ≡ left
        q : ℕ
        first : Stands (loaded_words w) at (node_words (moved_node number x)) q
        stand : Stands (loaded_words w) q (located number vs) c.q
        whole : nodes_words c.x ≡ (v.done ++ node_words x) ++ nodes_words vs

      next : Next
      next = go v.vs v.many v.stand v.is
        where
          go : (vs : Graph) → length vs ≡ left → Stands (loaded_words w) at (located number vs) c.q →
              nodes_words c.x ≡ v.done ++ nodes_words vs → Next
          go [] e s f = absurd (omega arith)
          go (x ∷ vs) e s f =
              let parts = (stands_append (loaded_words w) (node_words (moved_node number x)) (located number vs) at c.q).0 s in
              record {
                x = x;
                vs = vs;
                later = omega arith;
                q = parts.0;
                first = parts.1;
                stand = parts.2;
                whole = f
                    ∙ sym (append_assoc v.done (node_words x) (nodes_words vs));
              }

      loaded : loaded_words w₁ ≡ loaded_words w
      loaded = put_words w w₁ o v.done (RESULT + out) c.long v.put

      pub nodes_asks : Copying node_piece w₁ number at out
      nodes_asks =
          let x = next in
          let long = c.long in
          let same = v.put.same in
          record {
            long = omega arith;
            x = x.x;
            fine = tt;
            q = x.q;
            within = omega (arith, v.within, words_many w c.long);
            stands = subst (λ (u : List ℕ). Stands u at (node_words (moved_node number x.x)) x.q) (sym loaded) x.first;
            room = omega (
              arith,
              c.room,
              put_end w w₁ o v.done out v.put,
              ap length x.whole,
              length-append (v.done ++ node_words x.x) (nodes_words x.vs),
              length-append v.done (node_words x.x),
            );
          }

      module _ (r : ℕ) (w₂ : List ℕ) (u : Copies node_piece w₁ number at out r w₂) where
        told : Put w₁ w₂ (RESULT + out) (node_words next.x) (RESULT + r)
        unfolding nodes_asks
        told = u nodes_asks

        far : next.q ≡ at + (r - out)
        far = omega (
          arith,
          stands_length (loaded_words w) (node_words (moved_node number next.x)) at next.q next.first,
          put_end w₁ w₂ out (node_words next.x) r told,
          node_length number next.x,
        )

        inside : next.q ≤ length (loaded_words w)
        inside = stands_within (loaded_words w) (node_words (moved_node number next.x)) at next.q v.within next.first

        pub nodes_near : (out ≤ r) × (at + (r - out) ≤ 2048)
        nodes_near = (omega (arith, put_end w₁ w₂ out (node_words next.x) r told), omega (arith, far, inside, words_many w c.long))

        pub nodes_on : Nodes (left - 1) (at + (r - out)) r w₂
        nodes_on =
            let x = next in
            let k = x.later in
            subst (λ (j : ℕ). Nodes (left - 1) j r w₂) far (record {
              vs = x.vs;
              many = omega arith;
              within = inside;
              stand = x.stand;
              done = v.done ++ node_words x.x;
              put = put_append w w₁ w₂ v.done (node_words x.x) (RESULT + o) (RESULT + out) (RESULT + r) v.put told;
              is = x.whole;
            })

-- ---- a graph
module _ (w : List ℕ) (g o : ℕ) (c : Graphing w g o) where
  abbrev lies : Lying c.read.n (loaded_words w) g c.left
  lies = c.read.lies

  -- what is read of its header
  pub graph_here : (g + 1 < 2048) × (number_at w g ≡ lies.from) × (get_or (loaded_words w) g 0 % number_step ≡ length (own lies.d))
      × (lies.from < number_step) × (length (own lies.d) < number_step)
  graph_here = go lies.d lies.at
    where
      go : (d : Placed) → Here lies d →
          (g + 1 < 2048) × (number_at w g ≡ lies.from) × (get_or (loaded_words w) g 0 % number_step ≡ length (own d))
          × (lies.from < number_step)
          × (length (own d) < number_step)
      go (place K ds) at =
          let r = reads c.read in
          let counts = at_counts (loaded_words w) K ds g lies.from lies.end lies.to at in
          let few = counts.2 in
          let near = counts.1 in
          let end = r.end in
          let low = lies.low in
          let all = c.read.few in (
            omega arith,
            number_is w c.read.room K ds g lies.from lies.end lies.to at (omega arith),
            (at_header (loaded_words w) K ds g lies.from lies.end lies.to at
                (omega arith)).0,
            omega arith,
            omega arith,
          )

  pub graph_room : (o < 2048) × (RESULT + o < length w)
  graph_room = let r = c.room in let l = c.read.room in (omega arith, omega arith)

  module _ (count : ℕ) (is : count ≡ length (own lies.d)) where
    one : Put w (set w (RESULT + o) count) (RESULT + o) (count ∷ []) (RESULT + (o + 1))
    one =
        let far = graph_room.1 in
        let end : RESULT + o + 1 ≡ RESULT + (o + 1) = omega arith in
        subst (λ (j : ℕ). Put w (set w (RESULT + o) count) (RESULT + o) (count ∷ []) j) end (put_one w count (RESULT + o) far)

    stand : Stands (loaded_words w) (g + 1) (located lies.from (own lies.d)) (g + extent (own lies.d))
    stand = go lies.d lies.at
      where
        go : (d : Placed) → Here lies d →
            Stands (loaded_words w) (g + 1) (located lies.from (own d)) (g + extent (own d))
        go (place K ds) at = at.3

    pub graph_asks : (number : ℕ) → number ≡ lies.from → Copying (nodes_piece count) (set w (RESULT + o) count) number (g + 1) (o + 1)
    graph_asks number e =
        let long = c.read.room in
        let room = c.room in
        let same = length-set w (RESULT + o) count in
        record {
          long = omega arith;
          x = own lies.d;
          fine = sym is;
          q = g + extent (own lies.d);
          within = (let h = graph_here.0 in omega arith);
          stands = subst (λ (n : ℕ). Stands (loaded_words (set w (RESULT + o) count)) (g + 1) (located n (own lies.d))
              (g + extent (own lies.d)))
              (sym e)
              (subst (λ (u : List ℕ). Stands u (g + 1) (located lies.from (own lies.d)) (g + extent (own lies.d)))
              (sym (put_words w (set w (RESULT + o) count) o (count ∷ []) (RESULT + (o + 1)) c.read.room one)) stand);
          room = omega arith;
        }

    pub graph_copied : (number : ℕ) → number ≡ lies.from → (r : ℕ) (w₁ : List ℕ) →
        Copies (nodes_piece count) (set w (RESULT + o) count) number (g + 1) (o + 1) r w₁ →
        Put w w₁ (RESULT + o) (graph_words (own lies.d)) (RESULT + r)
    unfolding graph_asks
    graph_copied number e r w₁ u =
        subst (λ (k : ℕ). Put w w₁ (RESULT + o) (k ∷ nodes_words (own lies.d)) (RESULT + r)) is
        (put_append w (set w (RESULT + o) count) w₁ (count ∷ []) (nodes_words (own lies.d)) (RESULT + o) (RESULT + (o + 1))
        (RESULT + r) one
        (u (graph_asks number e)))
