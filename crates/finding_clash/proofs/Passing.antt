-- The notes of the classes: cleared, written head by head, and searched.
-- Assumes nothing.
use mathlib.Core.Path.{◌≡◌, refl, sym, ap, ◌∙◌, subst}
use mathlib.Core.Logic.{inl, inr, ⊎_elim}
use mathlib.Core.List.{List}
use Prim.Native.Nat.{ℕ, suc, ◌+◌, ◌-◌, ◌≤◌, ◌<◌}
use native.Mathlib.Omega.{arith}
use native.Mathlib.Decide.{ℕ_discrete}
use borrow.Author.Tests.{lt-ltb, le-ltb}
use lib.ListN.{length, get_or, set, length-set}
use lib.Seq.{get_or-set_same, get_or-set_other}
use Rattle.area.specs.Map.{NODES, PARENT, MARKS, STACK, SIZE}
use Rattle.forest.specs.Forest.{parents, Root}
use Rattle.forest.proofs.Parents.{parents_ext, root_on}
use Rattle.finding_clash.specs.Notes.{ClassNote, bears_nothing, Mixes, engine_number, ClassLabels, labels_of, NotesOf, NotesOnly}
use Rattle.finding_clash.specs.Notes.{NotesAsked}
use Rattle.area.specs.Region.{Zeroed}
use Rattle.finding_clash.specs.Notes.{NotesOne, NotesAll, ClashSought}
use Rattle.finding_clash.proofs.Mixing.{noted_other}

-- ---- the engine's numbers
pub number_first : (c b i : ℕ) → i < c → i ≡ engine_number c b i
number_first c b i h = rw (lt-ltb i c h, engine_number)

pub number_second : (c b i : ℕ) → c ≤ i → b + (i - c) ≡ engine_number c b i
number_second c b i h = rw (le-ltb i c h, engine_number)

pub only_refl : (n : ℕ) (w : List ℕ) → NotesOnly n w w
only_refl n w = record { len = refl; rest = λ j h. refl }

pub only_trans : (n : ℕ) (u v w : List ℕ) → NotesOnly n u v → NotesOnly n v w → NotesOnly n u w
only_trans n u v w a b = record { len = b.len ∙ a.len; rest = λ j h. b.rest j h ∙ a.rest j h }

pub only_put : (n : ℕ) (w : List ℕ) (x v : ℕ) → x < n → NotesOnly n w (set w (STACK + x) v)
only_put n w x v h = record {
  len = simp length-set;
  rest = λ j. ⊎_elim (λ a. get_or-set_other w (STACK + x) j v 0 (λ e. omega arith)) (λ a. get_or-set_other w (STACK + x) j v 0 (λ e.
      omega arith));
}

-- the classes stay
module _ (n : ℕ) (w w' : List ℕ) (long : SIZE ≤ length w) (below : n ≤ NODES) (o : NotesOnly n w w') where
  same_parents : parents n w' ≡ parents n w
  same_parents = let l = o.len in parents_ext n w' w (omega arith) l (λ j h. o.rest (PARENT + j) (inl (omega arith)))

  pub labels_on : (lab : ℕ → ℕ) → ClassLabels n w lab → ClassLabels n w' lab
  labels_on lab a = record {
    shape = rw same_parents a.shape;
    label = λ x r l y. a.label x r l (root_on n w' w x r same_parents y);
    low = a.low;
  }

  pub noting_on : (c b m : ℕ) → NotesAsked n c b m w → NotesAsked n c b m w'
  noting_on c b m a = let l = o.len in record {
    long = omega arith;
    below = below;
    few = a.few;
    inside = a.inside;
    lab = a.lab;
    labels = labels_on a.lab a.labels;
  }

-- ---- cleared
pub only_zeroed : (n : ℕ) (w w' : List ℕ) → Zeroed STACK n w w' → NotesOnly n w w'
only_zeroed n w w' z = record { len = z.len; rest = z.rest }

-- nothing has passed by yet
pub blank_notes : (n : ℕ) (w w' : List ℕ) → Zeroed STACK n w w' → (L H : ℕ → ℕ) → NotesOf n L H 0 w'
blank_notes n w w' c L H x h = bears_nothing (c.is x h) (λ i l e. absurd (omega arith))

-- ---- one head
module _ (n c b i : ℕ) (w : List ℕ) (long : SIZE ≤ length w) (below : n ≤ NODES) (x r v : ℕ) (at : x ≡ engine_number c b i)
    (inside : engine_number c b i < n) (root : Root n w x r) (mixed : Mixes (get_or w (STACK + r) 0) (get_or w (MARKS + i) 0) v) where
  low : r < n
  low = root.low

  pub notes_one : NotesOne n c b i w (set w (STACK + r) v)
  notes_one = record { only = only_put n w r v low; told = told }
    where
      told : (lab H : ℕ → ℕ) → ClassLabels n w lab → get_or w (MARKS + i) 0 ≡ H i →
          NotesOf n (labels_of lab c b) H i w → NotesOf n (labels_of lab c b) H (suc i) (set w (STACK + r) v)
      told lab H l e notes y h = go (ℕ_discrete y r)
        where
          mine : labels_of lab c b i ≡ r
          mine = ap lab (sym at) ∙ sym (l.label x r (omega arith) root)

          go : Dec (y ≡ r) → ClassNote (labels_of lab c b) H (suc i) y (get_or (set w (STACK + r) v) (STACK + y) 0)
          go (yes d) =
              let here : get_or (set w (STACK + r) v) (STACK + y) 0 ≡ v =
              ap (λ (z : ℕ). get_or (set w (STACK + r) v) (STACK + z) 0) d ∙ get_or-set_same w (STACK + r) v 0 (let q = low in omega
              arith) in
              subst (ClassNote (labels_of lab c b) H (suc i) y) (sym here)
              (mixed.is (labels_of lab c b) H i y (mine ∙ sym d) (sym e)
              (subst (λ (z : ℕ). ClassNote (labels_of lab c b) H i y (get_or w (STACK + z) 0)) d (notes y h)))
          go (no d) =
              let there : get_or (set w (STACK + r) v) (STACK + y) 0 ≡ get_or w (STACK + y) 0 =
              get_or-set_other w (STACK + r) (STACK + y) v 0 (λ q. d (omega arith)) in
              subst (ClassNote (labels_of lab c b) H (suc i) y) (sym there)
              (noted_other (labels_of lab c b) H i y (get_or w (STACK + y) 0) (λ q. d (sym q ∙ mine)) (notes y h))

-- ---- all heads: those of the first i of m nodes have passed by since w₀
pub record NotesUpTo (n c b m i : ℕ) (w₀ w : List ℕ) : Type 0 where
  pub only : NotesOnly n w₀ w
  pub told : (lab H : ℕ → ℕ) → ClassLabels n w₀ lab → ((j : ℕ) → j < m → get_or w₀ (MARKS + j) 0 ≡ H j) → NotesOf n (labels_of lab c b) H i w

pub up_to_none : (n c b m : ℕ) (w w₀ : List ℕ) → Zeroed STACK n w w₀ → NotesUpTo n c b m 0 w₀ w₀
up_to_none n c b m w w₀ z = record { only = only_refl n w₀; told = λ lab H l e. blank_notes n w w₀ z (labels_of lab c b) H }

pub up_to_more : (n c b m i : ℕ) (w₀ w w' : List ℕ) → SIZE ≤ length w₀ → n ≤ NODES → i < m → m ≤ NODES → NotesUpTo n c b m i w₀ w →
    NotesOne n c b i w w' → NotesUpTo n c b m (i + 1) w₀ w'
up_to_more n c b m i w₀ w w' long below here few u o = let s : i + 1 ≡ suc i = omega arith in rw s (record {
  only = only_trans n w₀ w w' u.only o.only;
  told = λ lab H l e. o.told lab H (labels_on n w₀ w long below u.only lab l)
      (u.only.rest (MARKS + i) (inr (omega arith)) ∙ e i here) (u.told lab H l e);
})

pub up_to_all : (n c b m : ℕ) (w w₀ w' : List ℕ) → SIZE ≤ length w → n ≤ NODES → m ≤ NODES → NotesOnly n w w₀ →
    NotesUpTo n c b m m w₀ w' → NotesAll n c b m w w'
up_to_all n c b m w w₀ w' long below few z u = record {
  only = only_trans n w w₀ w' z u.only;
  told = λ lab H l e. u.told lab H (labels_on n w w₀ long below z lab l) (λ j h. z.rest (MARKS + j) (inr (omega arith)) ∙ e j h);
}

-- ---- the search: no clash is noted of the first i nodes
pub record Passed (n c b i : ℕ) (w : List ℕ) : Type 0 where
  pub is : (lab : ℕ → ℕ) → ClassLabels n w lab → (j : ℕ) → j < i → get_or w (STACK + labels_of lab c b j) 0 ≡ 2 → ⊥

pub passed_none : (n c b : ℕ) (w : List ℕ) → Passed n c b 0 w
passed_none n c b w = record { is = λ lab l j h. absurd (omega arith) }

module _ (n c b i : ℕ) (w : List ℕ) (x r : ℕ) (at : x ≡ engine_number c b i) (inside : engine_number c b i < n) (root : Root n w x r)
    (p : Passed n c b i w) where
  mine : (lab : ℕ → ℕ) → ClassLabels n w lab → labels_of lab c b i ≡ r
  mine lab l = ap lab (sym at) ∙ sym (l.label x r (omega arith) root)

  pub passed_more : (get_or w (STACK + r) 0 ≡ 2 → ⊥) → Passed n c b (i + 1) w
  passed_more o = record { is = λ lab l j h e. go lab l j h e (ℕ_discrete j i) }
    where
      go : (lab : ℕ → ℕ) → ClassLabels n w lab → (j : ℕ) → j < i + 1 → get_or w (STACK + labels_of lab c b j) 0 ≡ 2 → Dec (j ≡ i) → ⊥
      go lab l j h e (yes d) = o (ap (λ (z : ℕ). get_or w (STACK + z) 0) (sym (ap (labels_of lab c b) d ∙ mine lab l)) ∙ e)
      go lab l j h e (no d) = p.is lab l j (omega arith) e

  pub sought_here : (m : ℕ) → i < m → get_or w (STACK + r) 0 ≡ 2 → ClashSought n c b m w i
  sought_here m h e = record {
    is = λ lab l. record {
      low = omega arith;
      before = p.is lab l;
      here = λ q. ap (λ (z : ℕ). get_or w (STACK + z) 0) (mine lab l) ∙ e;
    };
  }

pub sought_nowhere : (n c b m : ℕ) (w : List ℕ) → Passed n c b m w → ClashSought n c b m w m
sought_nowhere n c b m w p = record {
  is = λ lab l. record { low = omega arith; before = p.is lab l; here = λ q. absurd (omega arith) };
}
