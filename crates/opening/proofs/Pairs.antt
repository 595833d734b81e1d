-- Both inputs loaded, the second after the first.
-- Assumes nothing.
use Prim.Native.Nat.{ℕ, ◌+◌, ◌*◌, ◌≤◌}
use native.Mathlib.Omega.{arith}
use mathlib.Core.Path.{◌≡◌, ap, subst, ◌∙◌}
use mathlib.Core.Logic.{inl}
use mathlib.Core.List.{List}
use lib.ListN.{length}
use Rattle.theory.specs.Limits.{input_limit}
use Rattle.theory.specs.Descr.{Desc}
use Rattle.theory.specs.Layout.{words}
use Rattle.theory.proofs.Reading.{well_can}
use Rattle.layout.specs.Standing.{Stands}
use Rattle.loading.specs.Loaded.{nodes_in, input_loaded}
use Rattle.loading.specs.Loading.{Put, Loadable, LoadedAt}
use Rattle.loading.proofs.Sizes.{nodes_few}
use Rattle.layout.proofs.Standing.{stands_frame}
use Rattle.area.specs.Map.{SECOND}
use Rattle.opening.specs.Opening.{Pairing, Read, Stand, Paired}

pub begins : (t a b : List ℕ) → Pairing t a b → Loadable t a 0 0
begins t a b p = record { image = p.inputs.first; few = p.inputs.first_few; near = omega arith; room = p.room; numbers = omega arith }

module _ (t a b t₁ : List ℕ) (m : ℕ) (p : Pairing t a b) (l : LoadedAt a 0 0 t t₁ m) where
  abbrev d₀ : Desc
  d₀ = p.inputs.first.0

  abbrev loaded₁ : (m ≡ 0 + nodes_in d₀) × Put t t₁ 0 (input_loaded 0 0 d₀) (0 + length a)
  loaded₁ = l d₀ p.inputs.first.1 p.inputs.first.2

  same₁ : length t₁ ≡ length t
  same₁ = loaded₁.1.same

  few : 3 * m ≤ input_limit
  few =
      let c = nodes_few d₀ (well_can d₀ p.inputs.first.1) in
      let e : length a ≡ length (words d₀) = ap length p.inputs.first.2 in
      omega (arith, c, e, loaded₁.0, p.inputs.first_few)

  pub next : Loadable t₁ b SECOND m
  next = record {
    image = p.inputs.second;
    few = p.inputs.second_few;
    near = omega arith;
    room = omega (arith, same₁, p.room);
    numbers = few;
  }

  module _ (t₂ : List ℕ) (n : ℕ) (k : LoadedAt b SECOND m t₁ t₂ n) where
    put₂ : Put t₁ t₂ SECOND (input_loaded SECOND m p.inputs.second.0) (SECOND + length b)
    put₂ = (k p.inputs.second.0 p.inputs.second.1 p.inputs.second.2).1

    pub paired : Paired t a b n t₂
    paired = record { len = put₂.same ∙ same₁; stand = both }
      where
        both : (d e : Desc) → Read a b d e → Stand t₂ d e n
        both d e r =
            let f = l d r.first_well r.first_is in
            let s = k e r.second_well r.second_is in
            let z : m ≡ nodes_in d = omega (arith, f.0) in
            let la : 0 + length a ≡ length (words d) = omega (arith, ap length r.first_is) in
            let lb : SECOND + length b ≡ SECOND + length (words e) = ap (λ (x : List ℕ). SECOND + length x) r.second_is in
            record {
              count = s.0 ∙ ap (λ (x : ℕ). x + nodes_in e) z;
              first = subst (λ (q : ℕ). Stands t₂ 0 (input_loaded 0 0 d) q) la
                  (stands_frame t₁ t₂ (input_loaded 0 0 d) 0 (0 + length a)
                  (λ j h i u. (omega (arith, put₂.same), put₂.rest j (inl (omega (arith, p.inputs.first_few))))) f.1.stands);
              second = subst (λ (q : ℕ). Stands t₂ SECOND (input_loaded SECOND (nodes_in d) e) q) lb
                  (subst (λ (x : ℕ). Stands t₂ SECOND (input_loaded SECOND x e) (SECOND + length b)) z s.1.stands);
            }
