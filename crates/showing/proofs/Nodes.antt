-- A node is copied: its head and its arcs; what is still to be copied goes on to the whole.
-- Assumes nothing.
use Prim.Native.Nat.{ℕ, ◌+◌, ◌-◌, ◌≤◌, ◌<◌}
use native.Mathlib.Omega.{arith}
use mathlib.Core.Path.{◌≡◌, refl, sym, ap, ap₂, subst, ◌∙◌}
use mathlib.Core.Logic.{inl}
use mathlib.Core.List.{List, [], ◌∷◌, ◌++◌, append-nil, append_assoc}
use lib.ListN.{length, get_or, set, length-set, length-append}
use Rattle.theory.specs.Limits.{code_limit}
use Rattle.theory.specs.Net.{Node, atom, arcs}
use Rattle.theory.specs.Layout.{arc_words, node_words}
use Rattle.theory.proofs.Weight.{arc_length}
use Rattle.area.specs.Map.{RESULT, SIZE}
use Rattle.area.specs.Region.{loaded_words}
use Rattle.area.proofs.Region.{words_same, words_many}
use Rattle.layout.specs.Standing.{Stands}
use Rattle.layout.proofs.Standing.{stands_length, stands_within, stands_atom, stands_node, stands_arc}
use Rattle.loading.specs.Loaded.{moved_arcs, moved_node}
use Rattle.loading.specs.Loading.{Put}
use Rattle.loading.proofs.Sizes.{moved_length}
use Rattle.loading.proofs.Putting.{put_nil, put_append, put_one, put_then}
use Rattle.showing.specs.Copying.{arcs_piece, node_piece, Copying, Copies}
use Rattle.engine.specs.Placed.{own}

-- the loaded words stay
pub put_words : (w w₁ : List ℕ) (o : ℕ) (xs : List ℕ) (q : ℕ) → SIZE ≤ length w → Put w w₁ (RESULT + o) xs q →
    loaded_words w₁ ≡ loaded_words w
put_words w w₁ o xs q long a = words_same w w₁ long a.same (λ j h k. a.rest j (inl (omega arith)))

pub put_end : (w w₁ : List ℕ) (o : ℕ) (xs : List ℕ) (r : ℕ) → Put w w₁ (RESULT + o) xs (RESULT + r) → r ≡ o + length xs
put_end w w₁ o xs r a = omega (arith, stands_length w₁ xs (RESULT + o) (RESULT + r) a.stands)

-- ---- the arcs of a node
module _ (w : List ℕ) (number p count o : ℕ) (c : Copying (arcs_piece count) w number p o) where
  -- `left` arcs are still to be copied, from `at` to `out`
  pub record Arcs (left at out : ℕ) (w₁ : List ℕ) : Type 0 where
    pub l : List (ℕ × ℕ)
    pub many : length l ≡ left
    pub stand : Stands (loaded_words w) at (arc_words (moved_arcs number l)) c.q
    pub done : List ℕ
    pub put : Put w w₁ (RESULT + o) done (RESULT + out)
    pub is : arc_words c.x ≡ done ++ arc_words l

  pub arcs_start : Arcs count p o w
  arcs_start = record { l = c.x; many = c.fine; stand = c.stands; done = []; put = put_nil w (RESULT + o); is = refl }

  module _ (left at out : ℕ) (w₁ : List ℕ) (v : Arcs left at out w₁) where
    pub arcs_done : left ≤ 0 → Put w w₁ (RESULT + o) (arc_words c.x) (RESULT + out)
    arcs_done h = go v.l v.many v.is
      where
        go : (l : List (ℕ × ℕ)) → length l ≡ left → arc_words c.x ≡ v.done ++ arc_words l →
            Put w w₁ (RESULT + o) (arc_words c.x) (RESULT + out)
        go [] e f = subst (λ (xs : List ℕ). Put w w₁ (RESULT + o) xs (RESULT + out)) (sym (f ∙ append-nil v.done)) v.put
        go (x ∷ l) e f = absurd (omega arith)

    pub arcs_same : length w₁ ≡ length w
    arcs_same = v.put.same

    module _ (h : 0 < left) where
      -- the next arc
      record Next : Type 0 where
        f : ℕ
        t : ℕ
        l : List (ℕ × ℕ)
        later : length l + 1 ≡ left
        here : at + 1 < length (loaded_words w)
        feature : get_or (loaded_words w) at 0 ≡ f
        target : get_or (loaded_words w) (at + 1) 0 ≡ number + t
        stand : Stands (loaded_words w) (at + 2) (arc_words (moved_arcs number l)) c.q
        whole : arc_words c.x ≡ (v.done ++ f ∷ t ∷ []) ++ arc_words l

      next : Next
      next = go v.l v.many v.stand v.is
        where
          go : (l : List (ℕ × ℕ)) → length l ≡ left → Stands (loaded_words w) at (arc_words (moved_arcs number l)) c.q →
              arc_words c.x ≡ v.done ++ arc_words l → Next
          go [] e s q = absurd (omega arith)
          go (x ∷ l) e s q =
              let parts = (stands_arc (loaded_words w) (x.0, number + x.1) (moved_arcs number l) at c.q).0 s in
              record {
                f = x.0;
                t = x.1;
                l = l;
                later = omega arith;
                here = parts.2;
                feature = parts.1;
                target = parts.3;
                stand =
                    parts.4;
                whole = q ∙ sym (append_assoc v.done (x.0 ∷ x.1 ∷ []) (arc_words l));
              }

      loaded : loaded_words w₁ ≡ loaded_words w
      loaded = put_words w w₁ o v.done (RESULT + out) c.long v.put

      pub arcs_here : (at + 1 < 2048) × (out + 2 ≤ 2048) × (16384 ≤ length w₁)
      arcs_here =
          let x = next in
          let there = x.here in
          let same = v.put.same in
          let long = c.long in (
            omega (arith, words_many w c.long),
            omega (
              arith,
              c.room,
              put_end w w₁ o v.done out v.put,
              ap length x.whole,
              length-append (v.done ++ x.f ∷ x.t ∷ []) (arc_words x.l),
              length-append v.done (x.f ∷ x.t ∷ []),
            ),
            omega arith,
          )

      module _ (f t : ℕ) (ef : f ≡ get_or (loaded_words w₁) at 0) (et : t ≡ get_or (loaded_words w₁) (at + 1) 0) where
        feature_is : f ≡ next.f
        feature_is = ef ∙ ap (λ (u : List ℕ). get_or u at 0) loaded ∙ next.feature

        target_is : t ≡ number + next.t
        target_is = et ∙ ap (λ (u : List ℕ). get_or u (at + 1) 0) loaded ∙ next.target

        pub arcs_above : number ≤ t
        arcs_above = omega (arith, target_is)

        pub arcs_on : Arcs (left - 1) (at + 2) (out + 2) (set (set w₁ (RESULT + out) f) (RESULT + out + 1) (t - number))
        arcs_on =
            let x = next in
            let k = x.later in
            let near = arcs_here.1 in
            let long = arcs_here.2 in
            let w₂ = set (set w₁ (RESULT + out) f) (RESULT + out + 1) (t - number) in
            let len = length-set w₁ (RESULT + out) f in
            let two : Put w₁ w₂ (RESULT + out) (f ∷ (t - number) ∷ []) (RESULT + out + 1 + 1) =
            put_then w₁ w₂ f ((t - number) ∷ []) (RESULT + out) (RESULT + out + 1 + 1) (omega arith)
            (put_one (set w₁ (RESULT + out) f) (t - number) (RESULT + out + 1) (omega arith)) in
            let end : RESULT + out + 1 + 1 ≡ RESULT + (out + 2) = omega arith in
            let own : t - number ≡ x.t = omega (arith, target_is) in
            let pair : f ∷ (t - number) ∷ [] ≡ x.f ∷ x.t ∷ [] = ap₂ {C = List ℕ} (λ (i j : ℕ). i ∷ j ∷ []) feature_is own in
            record {
              l = x.l;
              many = omega arith;
              stand = x.stand;
              done = v.done ++ x.f ∷ x.t ∷ [];
              put = put_append w w₁ w₂ v.done (x.f ∷ x.t ∷ []) (RESULT + o) (RESULT + out) (RESULT + (out + 2)) v.put
                  (subst (λ (xs : List ℕ). Put w₁ w₂ (RESULT + out) xs (RESULT + (out + 2))) pair
                  (subst (λ (j : ℕ). Put w₁ w₂ (RESULT + out) (f ∷ (t - number) ∷ []) j) end two));
              is = x.whole;
            }

-- ---- a node
module _ (w : List ℕ) (number p o : ℕ) (c : Copying node_piece w number p o) where
  -- a node is there, and has room
  pub node_here : (p < 2048) × (o < 2048) × (RESULT + o < length w)
  node_here = go c.x c.stands c.room
    where
      go : (v : Node) → Stands (loaded_words w) p (node_words (moved_node number v)) c.q → o + length (node_words v) ≤ 2048 →
          (p < 2048) × (o < 2048) × (RESULT + o < length w)
      go (atom a) s r = let there = ((stands_atom (loaded_words w) a p c.q).0 s).0 in
          (omega (arith, words_many w c.long), omega arith, omega (arith, c.long))
      go (arcs l) s r = let there = ((stands_node (loaded_words w) (moved_arcs number l) p c.q).0 s).0 in
          (omega (arith, words_many w c.long), omega arith, omega (arith, c.long))

  module _ (head : ℕ) (e : head ≡ get_or (loaded_words w) p 0) where
    one : Put w (set w (RESULT + o) head) (RESULT + o) (head ∷ []) (RESULT + (o + 1))
    one =
        let far = node_here.2 in
        let end : RESULT + o + 1 ≡ RESULT + (o + 1) = omega arith in
        subst (λ (j : ℕ). Put w (set w (RESULT + o) head) (RESULT + o) (head ∷ []) j) end (put_one w head (RESULT + o) far)

    pub node_atom : code_limit ≤ head → Put w (set w (RESULT + o) head) (RESULT + o) (node_words c.x) (RESULT + (o + 1))
    node_atom h = go c.x c.stands
      where
        go : (v : Node) → Stands (loaded_words w) p (node_words (moved_node number v)) c.q →
            Put w (set w (RESULT + o) head) (RESULT + o) (node_words v) (RESULT + (o + 1))
        go (atom a) s = subst (λ (k : ℕ). Put w (set w (RESULT + o) head) (RESULT + o) (k ∷ []) (RESULT + (o + 1))) (e
            ∙ ((stands_atom (loaded_words w) a p c.q).0 s).1) one
        go (arcs l) s =
            let parts = (stands_node (loaded_words w) (moved_arcs number l) p c.q).0 s in
            let there = parts.0 in
            let count = parts.1 in
            let far = stands_within (loaded_words w) (arc_words (moved_arcs number l)) (p + 1) c.q (omega arith) parts.2 in
            absurd (omega (
              arith,
              words_many w c.long,
              stands_length (loaded_words w) (arc_words (moved_arcs number l)) (p + 1) c.q parts.2,
              arc_length (moved_arcs number l),
            ))

    module _ (h : head < code_limit) where
      -- the node has arcs
      record Fan : Type 0 where
        l : List (ℕ × ℕ)
        is : c.x ≡ arcs l
        many : length l ≡ head
        stand : Stands (loaded_words w) (p + 1) (arc_words (moved_arcs number l)) c.q

      fan : Fan
      fan = go c.x c.stands refl
        where
          go : (v : Node) → Stands (loaded_words w) p (node_words (moved_node number v)) c.q → c.x ≡ v → Fan
          go (atom a) s f = let k = ((stands_atom (loaded_words w) a p c.q).0 s).1 in absurd (omega arith)
          go (arcs l) s f =
              let parts = (stands_node (loaded_words w) (moved_arcs number l) p c.q).0 s in
              record { l = l; is = f; many = sym (e ∙ parts.1 ∙ moved_length number l); stand = parts.2 }

      loaded_still : loaded_words (set w (RESULT + o) head) ≡ loaded_words w
      loaded_still = put_words w (set w (RESULT + o) head) o (head ∷ []) (RESULT + (o + 1)) c.long one

      pub node_asks : Copying (arcs_piece head) (set w (RESULT + o) head) number (p + 1) (o + 1)
      node_asks =
          let long = c.long in
          let room = c.room in
          let same = length-set w (RESULT + o) head in
          let size = ap (λ (v : Node). length (node_words v)) fan.is in
          record {
            long = omega arith;
            x = fan.l;
            fine = fan.many;
            q = c.q;
            within = (let h = node_here.0 in omega arith);
            stands = subst (λ (u : List ℕ). Stands u (p + 1) (arc_words (moved_arcs number fan.l)) c.q) (sym loaded_still)
                fan.stand;
            room = omega arith;
          }

      pub node_arcs : (r : ℕ) (w₁ : List ℕ) → Copies (arcs_piece head) (set w (RESULT + o) head) number (p + 1) (o + 1) r w₁ →
          Put w w₁ (RESULT + o) (node_words c.x) (RESULT + r)
      unfolding node_asks
      node_arcs r w₁ u =
          let all = put_append w (set w (RESULT + o) head) w₁ (head ∷ []) (arc_words fan.l) (RESULT + o) (RESULT + (o + 1))
          (RESULT + r) one (u node_asks) in
          subst (λ (v : Node). Put w w₁ (RESULT + o) (node_words v) (RESULT + r)) (sym fan.is)
          (subst (λ (k : ℕ). Put w w₁ (RESULT + o) (k ∷ arc_words fan.l) (RESULT + r)) (sym fan.many) all)
