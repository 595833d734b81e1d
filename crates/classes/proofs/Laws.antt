-- What the layers above may use of `Holds` and `Since`. Assumes nothing.
use mathlib.Core.Path.{◌≡◌, refl, sym, ap, ◌∙◌, subst}
use mathlib.Core.List.Memᴰ
use mathlib.Core.List.{List, []}
use Prim.Native.Nat.{ℕ, suc, ◌+◌, ◌≤◌, ◌<◌}
use native.Mathlib.Nat.{le_trans}
use native.Mathlib.Omega.{arith}
use lib.ListN.{length, get_or}
use Rattle.area.specs.Map.{PARENT, NEXT, LOG, WORDS, MARKS, SIZE}
use Rattle.theory.specs.Net.{Graph, Agree}
use Rattle.area.specs.Region.{loaded_words}
use Rattle.area.specs.Log.{Logged, Later, Undone}
use Rattle.area.proofs.Region.{words_same}
use Rattle.area.proofs.Undo.{word, logged_same, past_agree, undone_is, undone_logged, undone_keeps, undone_rest}
use Rattle.forest.specs.State.{targets, Pile, Done, Chain, Near, Bears, State}
use Rattle.loading.specs.Entry.{Entry, graphs}
use Rattle.classes.specs.Entry.{Lies}
use Rattle.classes.specs.Holds.{Sits, Holds, Since, Remembers, Backs, Undoable}
use Rattle.forest.specs.Forest.{size_of, parents}
use Rattle.forest.proofs.Wood.{shape_on}
use Rattle.forest.proofs.Parents.{parents_ext}
use Rattle.forest.proofs.Words.{targets_same}
use Rattle.forest.proofs.Links.{chain_same}
use Rattle.forest.proofs.Fuse.{low}
use Rattle.classes.proofs.Visits.{near_none}
use Rattle.classes.proofs.Result.{agree}
use Rattle.classes.proofs.Bridge.{clash_down}

-- the same words before the log: the same state
pub state_again : (G : Pile) (H : Done) (F T : List ℕ) (n k : ℕ) (w w' : List ℕ) → n ≤ 1024 → SIZE ≤ length w → State G H F T n k 0 [] w →
    Logged k w' → ((j : ℕ) → j < LOG → get_or w' j 0 ≡ get_or w j 0) → length w' ≡ length w → State G H F T n k 0 [] w'
state_again G H F T n k w w' hn hw u g word l = record {
  logged = g;
  shape = shape_on par u.shape;
  room = rw par u.room;
  few = u.few;
  stack = rw par u.stack;
  arcs = u.arcs;
  atoms = u.atoms;
  M = u.M;
  forest = rw par u.forest;
  size = λ c h e. ap size_of (word (PARENT + c) (omega arith)) ∙ u.size c h e;
  heavy = u.heavy;
  C = u.C;
  wide = u.wide;
  all = u.all;
  chain = λ c h m b.
      let o : get_or w' c 0 ≡ get_or w c 0 = word c (omega arith) in
      subst (λ (z : ℕ). Chain w' z (get_or u.C c [])) (sym o)
      (chain_same w w' (get_or w c 0) (get_or u.C c []) (λ q r. let b = (u.arcs q (u.known q (u.home c q h r).0)).0 in
      word (NEXT + q) (omega arith)) (u.chain c h m (omega arith)));
  bare = λ c h m b.
      let o : get_or w' c 0 ≡ get_or w c 0 = word c (omega arith) in
      let r = u.bare c h m (omega arith) in
      (r.0, subst (λ (z : ℕ). Bears G n u.M c z) (sym o) r.1);
  home = u.home;
  known = u.known;
  blank = λ j h m. word (NEXT + j) (omega arith) ∙ u.blank j h m;
  cover = λ j m. let o = u.cover j m in (o.0, (o.1.0, Near.old (near_none F T u.M w o.1.1)));
  nodes = u.nodes;
  met = λ i m a. let b = low G H F T n k 0 [] w (omega arith) hw u i (u.nodes i m).0 in word (get_or u.M i 0) (omega arith)
      ∙ u.met i m a;
  held = u.held;
  sound = u.sound;
  frame = λ a b m. absurd (Memᴰ.not-nil m);
}
  where
    par : parents n w' ≡ parents n w
    par = parents_ext n w' w (omega arith) l (λ j h. word (PARENT + j) (omega arith))

-- what lies in the loaded words
pub lies_frame : (w w' : List ℕ) (g n : ℕ) (K : Graph) → ((j : ℕ) → WORDS ≤ j → j < MARKS → get_or w' j 0 ≡ get_or w j 0) → Lies w g n K →
    Lies w' g n K
lies_frame w w' g n K f l =
    let a = l.fits in
    record {
      fits = l.fits;
      few = l.few;
      low = l.low;
      head = f (WORDS + g) (omega arith) (omega arith)
          ∙ l.head;
      nodes = λ j h. f (WORDS + (suc g + j)) (omega arith) (omega arith) ∙ l.nodes j h;
    }

pub sits_frame : (w w' : List ℕ) (n : ℕ) (e : Entry) → ((j : ℕ) → WORDS ≤ j → j < MARKS → get_or w' j 0 ≡ get_or w j 0) → Sits n w e →
    Sits n w' e
sits_frame w w' n e f s = record {
  lies = lies_frame w w' e.at e.number e.graph f s.lies;
  canonical = s.canonical;
  fits =
      s.fits;
  inside = s.inside;
}

module _ (n : ℕ) (es : List Entry) (k : ℕ) (w : List ℕ) (h : Holds n es k w) where
  -- ---- what the graphs that are pushed agree on
  pub holds_agree : Agree (graphs es)
  holds_agree z = agree h.G h.H (loaded_words w) (targets w) n k 0 w h.below h.long h.state h.full
      (clash_down (loaded_words w) (targets w) es h.G h.tied z)

  -- the log has room
  pub holds_few : k ≤ 4096
  holds_few = let a = h.state.room in let b = h.state.few in omega arith

  pub since_refl : Since k w k w
  since_refl = record {
    len = refl;
    more = omega arith;
    few = holds_few;
    began = h.state.logged;
    logged = h.state.logged;
    keeps =
        λ i l. refl;
    same = λ j a b. refl;
  }

  -- the same words before the log, and the same loaded words
  pub holds_again : (w' : List ℕ) → length w' ≡ length w → ((j : ℕ) → j < LOG → get_or w' j 0 ≡ get_or w j 0) →
      ((j : ℕ) → WORDS ≤ j → j < MARKS → get_or w' j 0 ≡ get_or w j 0) → Holds n es k w'
  holds_again w' len f g =
      let ew = words_same w w' h.long len g in
      let et = targets_same w w' h.long len g in
      record {
        long = let a = h.long in omega arith;
        below = h.below;
        G = h.G;
        H = h.H;
        state = rw (ew, et) (state_again h.G h.H (loaded_words w) (targets w) n k w w' h.below h.long h.state
            (logged_same k w w' h.state.logged len f) f len);
        full = h.full;
        top = h.top;
        tied = rw (ew, et) h.tied;
        apart = h.apart;
        each = λ e m. sits_frame w w' n e g (h.each e m);
        count = h.count;
      }

  -- what stands from MARKS on is free
  pub holds_frame : (w' : List ℕ) → length w' ≡ length w → ((j : ℕ) → j < MARKS → get_or w' j 0 ≡ get_or w j 0) → Holds n es k w'
  holds_frame w' len f = holds_again w' len (λ j l. f j (omega arith)) (λ j a b. f j b)

-- ---- what is remembered
pub since_later : (k : ℕ) (w : List ℕ) (k' : ℕ) (w' : List ℕ) → k' ≤ 4096 → Logged k w → Later k w k' w' → Since k w k' w'
since_later k w k' w' l g p = record {
  len = p.len;
  more = p.more;
  few = l;
  began = g;
  logged = p.logged;
  keeps = p.keeps;
  same =
      λ j a b. p.rest j a;
}

pub since_trans : (a : ℕ) (u : List ℕ) (b : ℕ) (v : List ℕ) (c : ℕ) (w : List ℕ) → Since a u b v → Since b v c w → Since a u c w
since_trans a u b v c w p q = record {
  len = q.len ∙ p.len;
  more = le_trans p.more q.more;
  few = q.few;
  began = p.began;
  logged = q.logged;
  keeps = λ i h. q.keeps i (le_trans h p.more) ∙ p.keeps i h;
  same = λ j l m. q.same j l m ∙ p.same j l m;
}

-- the same words before the free part of the log, and the same loaded words
pub since_again : (m : ℕ) (w₀ : List ℕ) (k : ℕ) (w w' : List ℕ) → length w' ≡ length w → SIZE ≤ length w →
    ((j : ℕ) → j < LOG + k → get_or w' j 0 ≡ get_or w j 0) → ((j : ℕ) → WORDS ≤ j → j < MARKS → get_or w' j 0 ≡ get_or w j 0) → Since m w₀ k w →
    Since m w₀ k w'
since_again m w₀ k w w' len hw f g p =
    let l = p.few in
    record {
      len = len ∙ p.len;
      more = p.more;
      few = p.few;
      began = p.began;
      logged = logged_same k w w' p.logged len (λ j h. f j (omega arith));
      keeps = λ i h. past_agree i k w w' (le_trans h p.more) len (omega arith) f ∙ p.keeps i h;
      same = λ j a b. g j a b ∙ p.same j a b;
    }

pub since_frame : (m : ℕ) (w₀ : List ℕ) (k : ℕ) (w w' : List ℕ) → length w' ≡ length w → SIZE ≤ length w →
    ((j : ℕ) → j < MARKS → get_or w' j 0 ≡ get_or w j 0) → Since m w₀ k w → Since m w₀ k w'
since_frame m w₀ k w w' len hw f p = let l = p.few in since_again m w₀ k w w' len hw (λ j h. f j (omega arith)) (λ j a b. f j b) p

-- ---- back at the mark
module _ (m k : ℕ) (w w' : List ℕ) (u : Undone m k w w') where
  since_back : (w₀ : List ℕ) → Since m w₀ k w → Since m w₀ m w'
  since_back w₀ p =
      let a = p.more in let b = p.few in
      record {
        len = u.len ∙ p.len;
        more = omega arith;
        few = omega arith;
        began = p.began;
        logged = undone_logged m w₀ k w w' p.more p.keeps u p.began p.len;
        keeps = undone_keeps m w₀ k w w' p.more p.keeps u;
        same = λ j a b. undone_rest m w₀ k w w' p.more p.keeps u j (omega arith) ∙ p.same j a b;
      }

  holds_back : (n : ℕ) (es : List Entry) (w₀ : List ℕ) → Holds n es m w₀ → Since m w₀ k w → Holds n es m w'
  holds_back n es w₀ h p = let s = since_back w₀ p in
      holds_again n es m w₀ h w' s.len (word w₀ w' (undone_is m w₀ k w w' p.more p.keeps u)) s.same

  pub backs : (w₀ : List ℕ) → Since m w₀ k w → Backs m k w w'
  backs w₀ p = record {
    len = u.len;
    rest = λ j h. undone_rest m w₀ k w w' p.more p.keeps u j (omega arith);
    since = since_back;
    holds = holds_back;
  }

-- ---- back to nothing
pub undoable_start : (n : ℕ) (w : List ℕ) → Holds n [] 0 w → Undoable n 0 w
undoable_start n w h = record { w₀ = w; empty = h; since = since_refl n [] 0 w h }

module _ (n k : ℕ) (w : List ℕ) (u : Undoable n k w) where
  pub undoable_on : (k' : ℕ) (w' : List ℕ) → Since k w k' w' → Undoable n k' w'
  undoable_on k' w' s = record { w₀ = u.w₀; empty = u.empty; since = since_trans 0 u.w₀ k w k' w' u.since s }

  -- what stands from MARKS on is free
  pub undoable_frame : (w' : List ℕ) → length w' ≡ length w → ((j : ℕ) → j < MARKS → get_or w' j 0 ≡ get_or w j 0) → Undoable n k w'
  undoable_frame w' len f = let a = u.empty.long in let l = u.since.len in
      record { w₀ = u.w₀; empty = u.empty; since = since_frame 0 u.w₀ k w w' len (omega arith) f u.since }

  pub undoable_asks : Remembers 0 k w
  undoable_asks = record { w₀ = u.w₀; since = u.since }

  pub undoable_back : (w' : List ℕ) → Backs 0 k w w' → Holds n [] 0 w'
  undoable_back w' b = b.holds n [] u.w₀ u.empty u.since
