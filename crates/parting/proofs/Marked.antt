-- Laws of marking: the arcs from the root to a spot are marked from the spot on.
-- Assumes nothing.
use Prim.Native.Nat.{ℕ, ◌-◌, ◌≤◌, ◌<◌}
use native.Mathlib.Omega.{arith}
use mathlib.Core.Path.{◌≡◌, refl, sym, ap, subst, ◌∙◌}
use mathlib.Core.Logic.{◌⊎◌, inl, inr, ⊎_elim, ◌≢◌}
use mathlib.Core.Bool.{Bool, true, false}
use mathlib.Core.List.Memᴰ
use mathlib.Core.List.{List, [], ◌∷◌, ◌++◌, append_assoc, append-nil, Memᴰ}
use lib.ListN.{length, get_or, set, length-set}
use lib.Dec.{eqb}
use borrow.Author.Tests.{eqb-true, eqb-false}
use lib.Seq.{get_or-set_same, get_or-set_other}
use Rattle.theory.specs.Join.{Edge}
use Rattle.formulas.specs.Tables.{Tables, edge, Trail, at_root, further}
use Rattle.parting.specs.Gathered.{TrailMarked, TrailMarking, TrailMarks}

module _ (T : Tables) (s₀ : ℕ) (on₀ : List Bool) where
  -- what is left of each trail, up to the spot s; the rest is marked
  pub record Half (s : ℕ) (on : List Bool) (es : List Edge) : Type 0 where
    pub ahead : List Edge
    pub behind : List Edge
    pub trails : Trail T s ahead
    pub whole : es ≡ ahead ++ behind
    pub marked : TrailMarked T on behind

  pub record Halves (s : ℕ) (on : List Bool) : Type 0 where
    pub same : length on ≡ length on₀
    pub each : (es : List Edge) → Trail T s₀ es → Half s on es

  pub halves_start : TrailMarking T s₀ on₀ → Halves s₀ on₀
  halves_start c = record {
    same = refl;
    each = λ es t. record {
      ahead = es;
      behind = [];
      trails = t;
      whole = sym (append-nil es);
      marked = λ i h. inr (c.clear i h, λ m. Memᴰ.not-nil m);
    };
  }

  module _ (s : ℕ) (on : List Bool) where
    abbrev Told : List Bool → List Edge → ℕ → Type 0
    Told m es j = ((get_or m j false ≡ true) × Memᴰ (edge T j) es) ⊎ ((get_or m j false ≡ false) × (Memᴰ (edge T j) es → ⊥))

    marks_arc : (i : ℕ) (es : List Edge) → i < length on → TrailMarked T on es → TrailMarked T (set on i true) (edge T i ∷ es)
    marks_arc i es l m j h = go (eqb j i) refl (m j h)
      where
        go : (b : Bool) → eqb j i ≡ b → Told on es j → Told (set on i true) (edge T i ∷ es) j
        go true e o =
            let same = eqb-true j i e in
            inl (ap (λ (n : ℕ). get_or (set on i true) n false) same ∙ get_or-set_same on i true false l, Memᴰ.head (ap (edge T) same))
        go false e o =
            let kept = get_or-set_other on i j true false (eqb-false j i e) in
            let other : (Memᴰ (edge T j) es → ⊥) → Memᴰ (edge T j) (edge T i ∷ es) → ⊥
            = λ p q. ⊎_elim (λ d. eqb-false j i e (omega (arith, ap (λ (x : Edge). x.2) d))) p (Memᴰ.cases_cons q) in
            ⊎_elim (λ (n, p). inl (kept ∙ n, Memᴰ.tail p)) (λ (n, p). inr (kept ∙ n, other p)) o

    half_more : (es : List Edge) → s ≢ 0 → T.arcs ≤ length on → Half s on es → Half (T.arc (s - 1)).0 (set on (s - 1) true) es
    half_more es n r h = go h.ahead h.trails h.whole
      where
        go : (ds : List Edge) → Trail T s ds → es ≡ ds ++ h.behind → Half (T.arc (s - 1)).0 (set on (s - 1) true) es
        go ds (at_root z e) w = absurd (n z)
        go ds (further i bs e l q t) w =
            let here : i ≡ s - 1 = omega arith in
            record {
              ahead = bs;
              behind = edge T (s - 1) ∷ h.behind;
              trails = subst (λ (j : ℕ). Trail T (T.arc j).0 bs) here t;
              whole = w ∙ ap (λ (l : List Edge). l ++ h.behind) q ∙ append_assoc bs (edge T i ∷ []) h.behind
                  ∙ ap (λ (j : ℕ). bs ++ edge T j ∷ h.behind) here;
              marked = marks_arc (s - 1) h.behind (omega arith) h.marked;
            }

    pub halves_more : TrailMarking T s₀ on₀ → Halves s on → s ≢ 0 → (s' : ℕ) → s' ≡ (T.arc (s - 1)).0 → Halves s' (set on (s - 1) true)
    halves_more c v n s' e =
        let room = c.room in
        let size = v.same in
        subst (λ (r : ℕ). Halves r (set on (s - 1) true)) (sym e) (record {
          same = length-set on (s - 1) true ∙ size;
          each = λ es t. half_more es n (omega arith) (v.each es t);
        })

    pub halves_end : Halves s on → s ≡ 0 → TrailMarks T s₀ on₀ on
    halves_end v z = record { same = v.same; marked = λ es t. ended es (v.each es t) }
      where
        ended : (es : List Edge) → Half s on es → TrailMarked T on es
        ended es h = go h.ahead h.trails h.whole
          where
            go : (ds : List Edge) → Trail T s ds → es ≡ ds ++ h.behind → TrailMarked T on es
            go ds (at_root e q) w = subst (TrailMarked T on) (sym (w ∙ ap (λ (t : List Edge). t ++ h.behind) q)) h.marked
            go ds (further i bs e l q t) w = absurd (omega arith)
