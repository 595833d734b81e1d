-- A graph that comes node by node: its root is joined, some of its nodes are done, and all of it can be taken back to a mark.
-- Assumes nothing.
use mathlib.Core.Path.{◌≡◌, refl, ap, ◌∙◌}
use mathlib.Core.Bool.{Bool, true, false}
use mathlib.Core.List.{List, [], ◌∷◌, ◌++◌}
use Prim.Native.Nat.{ℕ, ◌+◌, ◌*◌, ◌-◌, ◌≤◌, ◌<◌}
use native.Mathlib.Omega.{arith}
use lib.ListN.{length, get_or}
use Rattle.theory.specs.Net.{Node, atom, arcs, Clash}
use Rattle.area.specs.Map.{SIZE, NODES, LOADED}
use Rattle.area.specs.Region.{loaded_words}
use Rattle.area.specs.Log.{Later, Undone}
use Rattle.area.proofs.Undo.{later_trans, word, undone_is, undone_later}
use Rattle.forest.specs.State.{targets, Pile, Uniting, United}
use Rattle.forest.proofs.Words.{words_later, targets_later}
use Rattle.loading.specs.Entry.{Entry, graphs}
use Rattle.classes.specs.Entry.{Comes}
use Rattle.classes.specs.Nodes.{span, NodeAt, Noding, Noded, Listing}
use Rattle.classes.specs.Holds.{Holds, Adding}
use Rattle.classes.proofs.Laws.{holds_again}
use Rattle.classes.proofs.Pushings.{add_asked, add_low, add_listing, adds_bad, adds}
use Rattle.classes.proofs.Runs.{node_low, node_span, Marching, marching_start, marching_noding, marching_turn, listed_bad}
use Rattle.classes.proofs.Runs.{listed_end}

-- the graphs es are pushed since a mark, where the log had m entries, and e comes
pub record Onto (n m : ℕ) (w₀ : List ℕ) (es : List Entry) (e : Entry) (k : ℕ) (w : List ℕ) : Type 0 where
  pub later : Later m w₀ k w
  pub holds : Holds n es k w
  pub comes : Comes n es e w

-- its root is joined, and of its nodes `left` are left, from the number y and the position `at` on
pub record Amid (n m : ℕ) (w₀ : List ℕ) (es : List Entry) (e : Entry) (y at left k' : ℕ) (w' : List ℕ) : Type 0 where
  pub k : ℕ
  pub w : List ℕ
  pub onto : Onto n m w₀ es e k w
  pub k₁ : ℕ
  pub w₁ : List ℕ
  pub united : United (loaded_words w) (targets w) n k w 0 e.number k₁ false w₁
  pub marching : Marching (loaded_words w) (targets w) n k₁ w₁ e.number (e.at + 1) (length e.graph) k' y at left w'

module _ {n m : ℕ} {w₀ : List ℕ} {es : List Entry} {e : Entry} where
  -- ---- the root
  module _ {k : ℕ} {w : List ℕ} (o : Onto n m w₀ es e k w) where
    abbrev adding : Adding n k w e.at e.number (length e.graph)
    adding = record { es = es; e = e; is = refl; number = refl; many = refl; holds = o.holds; comes = o.comes }

    pub onto_low : (e.number < n) × ((n ≤ NODES) × ((SIZE ≤ length w) × (e.at < LOADED)))
    onto_low = add_low n k w e.at e.number (length e.graph) adding

    pub onto_asked : Uniting (loaded_words w) (targets w) n k w 0 e.number
    onto_asked = add_asked n k w e.at e.number (length e.graph) adding

    module _ {k₁ : ℕ} {bad : Bool} {w₁ : List ℕ} (u : United (loaded_words w) (targets w) n k w 0 e.number k₁ bad w₁) where
      pub onto_clash : bad ≡ true → Clash (graphs es ++ e.graph ∷ [])
      onto_clash z = (adds_bad n k w e.at e.number (length e.graph) k₁ bad w₁ u z).clash refl es e refl refl refl o.holds
          o.comes

      pub amid_start : bad ≡ false → Amid n m w₀ es e e.number (e.at + 1) (length e.graph) k₁ w₁
      amid_start z = record {
        k = k;
        w = w;
        onto = o;
        k₁ = k₁;
        w₁ = w₁;
        united = rw z at u;
        marching = marching_start (loaded_words w) (targets w) n k₁ w₁ e.number (e.at + 1) (length e.graph) u.later.logged;
      }

  -- ---- the nodes
  module _ {y at left k' : ℕ} {w' : List ℕ} (a : Amid n m w₀ es e y at left k' w') where
    asked : Adding n a.k a.w e.at e.number (length e.graph)
    asked = record { es = es; e = e; is = refl; number = refl; many = refl; holds = a.onto.holds; comes = a.onto.comes }

    listing : Listing (loaded_words a.w) (targets a.w) n a.k₁ a.w₁ e.number (e.at + 1) (length e.graph)
    listing = add_listing n a.k a.w e.at e.number (length e.graph) a.k₁ false a.w₁ a.united refl asked

    later₁ : Later a.k a.w k' w'
    later₁ = later_trans a.k a.w a.k₁ a.w₁ k' w' a.united.later a.marching.later

    pub amid_later : Later m w₀ k' w'
    amid_later = later_trans m w₀ a.k a.w k' w' a.onto.later later₁

    words₁ : loaded_words w' ≡ loaded_words a.w
    words₁ = words_later a.k a.w k' w' a.onto.holds.long later₁

    targets₁ : targets w' ≡ targets a.w
    targets₁ = targets_later a.k a.w k' w' a.onto.holds.long later₁

    long₁ : SIZE ≤ length w'
    long₁ = omega (arith, later₁.len, a.onto.holds.long)

    noding : 0 < left → Noding (loaded_words a.w) (targets a.w) n k' w' y at
    noding h = marching_noding (loaded_words a.w) (targets a.w) n a.k₁ a.w₁ e.number (e.at + 1) (length e.graph) k' y at
        left w' a.marching listing h

    pub amid_asks : 0 < left → ((n ≤ NODES) × (SIZE ≤ length w')) × Noding (loaded_words w') (targets w') n k' w' y at
    amid_asks h = ((a.onto.holds.below, long₁), rw (words₁, targets₁) (noding h))

    pub amid_low : 0 < left → (at < LOADED) × ((y < n) × ((n ≤ NODES) × (SIZE ≤ length w')))
    amid_low h = let g = noding h in let l = node_low (loaded_words a.w) g.G n y at g.v g.node in
        (l.0, (l.1, (a.onto.holds.below, long₁)))

    -- all of them are done
    pub amid_end : left ≡ 0 → Holds n (es ++ e ∷ []) k' w'
    amid_end z = (adds n a.k a.w e.at e.number (length e.graph) a.k₁ false a.w₁ a.united refl k' false w'
        (listed_end (loaded_words a.w) (targets a.w) n a.k₁ a.w₁ e.number (e.at + 1) (length e.graph) k' y at left w'
        a.marching z)
        ).fine refl es e refl refl refl a.onto.holds a.onto.comes

    -- the next one
    module _ {k₂ : ℕ} {bad : Bool} {w₂ : List ℕ} (h : 0 < left) (v : Noded (loaded_words w') (targets w') n k' w' y at k₂ bad w₂) where
      noded : Noded (loaded_words a.w) (targets a.w) n k' w' y at k₂ bad w₂
      noded = rw (words₁, targets₁) at v

      pub node_later : Later m w₀ k₂ w₂
      node_later = later_trans m w₀ k' w' k₂ w₂ amid_later v.later

      pub node_long : SIZE ≤ length w₂
      node_long = omega (arith, v.later.len, long₁)

      pub amid_clash : bad ≡ true → Clash (graphs es ++ e.graph ∷ [])
      amid_clash z = (adds n a.k a.w e.at e.number (length e.graph) a.k₁ false a.w₁ a.united refl k₂ true w₂
          (listed_bad (loaded_words a.w) (targets a.w) n a.k₁ a.w₁ e.number (e.at + 1) (length e.graph) k' y at left w'
          a.marching h k₂ bad w₂ noded z)
          ).clash refl es e refl refl refl a.onto.holds a.onto.comes

      -- its head, as it is read after it
      module _ {head d : ℕ} (is : head ≡ get_or (loaded_words w₂) at 0) (s : (65536 ≤ head → d ≡ 1) × (head < 65536 → d ≡ 1 + 2 * head)) where
        head_is : head ≡ get_or (loaded_words a.w) at 0
        head_is = is ∙ ap (λ (z : List ℕ). get_or z at 0) (words_later k' w' k₂ w₂ long₁ v.later ∙ words₁)

        few : get_or (loaded_words a.w) at 0 < 65536 → d ≡ 1 + 2 * get_or (loaded_words a.w) at 0
        few b = s.1 (omega (arith, head_is)) ∙ ap (λ (z : ℕ). 1 + 2 * z) head_is

        pub amid_span : at + d ≤ LOADED
        amid_span =
            let g = noding h in
            inside g.G g.v g.node
            (node_span (loaded_words a.w) g.G n y at g.v g.node d (λ b. s.0 (omega (arith, head_is))) few)
          where
            inside : (G : Pile) (x : Node) → NodeAt (loaded_words a.w) G n y at x → d ≡ span x → at + d ≤ LOADED
            inside G (atom c) t z = let l = t.low in omega arith
            inside G (arcs c) t z = let l = t.low in omega arith

        pub amid_turn : bad ≡ false → Amid n m w₀ es e (y + 1) (at + d) (left - 1) k₂ w₂
        amid_turn z = record {
          k = a.k;
          w = a.w;
          onto = a.onto;
          k₁ = a.k₁;
          w₁ = a.w₁;
          united = a.united;
          marching = marching_turn (loaded_words a.w) (targets a.w) n a.k₁ a.w₁ e.number (e.at + 1) (length e.graph) k' y
              at left w' a.marching h k₂ bad w₂ noded z d (λ b. s.0 (omega (arith, head_is))) few;
        }

-- ---- back at the mark
module _ {n m : ℕ} {w₀ : List ℕ} {es : List Entry} {k : ℕ} {w w' : List ℕ} (h : Holds n es m w₀) (l : Later m w₀ k w)
    (u : Undone m k w w') where
  pub undone_back : Later m w₀ m w'
  undone_back = undone_later m w₀ k w w' h.state.logged l u

  pub undone_holds : Holds n es m w'
  undone_holds = holds_again n es m w₀ h w' undone_back.len (word w₀ w' (undone_is m w₀ k w w' l.more l.keeps u))
      (λ j x y. undone_back.rest j x)
