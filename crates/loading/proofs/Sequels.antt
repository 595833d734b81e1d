-- The kinds of things that only come one after the other, and the series of each kind: a first thing and others, or none.
-- Assumes nothing.
use Prim.Native.Nat.{ℕ, zero, suc, ◌+◌, ◌≤◌, ◌<◌}
use native.Mathlib.Omega.{arith}
use native.Mathlib.Numerals.{sub-one}
use mathlib.Core.Path.{◌≡◌, refl}
use mathlib.Core.List.{[], ◌∷◌}
use Rattle.theory.specs.Limits.{input_limit}
use Rattle.theory.specs.Descr.{Disjs, end, ◌and◌, Alts, fail, ◌or◌, disjs, alts}
use Rattle.theory.specs.Layout.{disjs_words, alts_words, WellAll, WellAny}
use Rattle.loading.specs.Loaded.{nodes_all, nodes_any, alts_all, alts_any, loaded_all, loaded_any}
use Rattle.loading.specs.Loading.{stock, Kind, its_arcs, a_node, its_nodes, a_disjunction, a_description}
use Rattle.loading.proofs.Series.{Steps, Ends}

pub coming_same : {n n' x x' y y' : ℕ} → n ≡ n' → x ≡ x' → y ≡ y' → stock n x y ≡ stock n' x' y'
coming_same e f g = rw (e, f, g) refl

-- an arc
abbrev pub an_arc : Kind
an_arc = record {
  Thing = ℕ × ℕ;
  Fine = λ e. e.1 < input_limit;
  text = λ e. e.0 ∷ e.1 ∷ [];
  image = λ p c e. e.0 ∷ (c.number + e.1) ∷ [];
  after = λ c e. c;
}

-- k disjunctions under which alternatives nest at most `left` deep
abbrev pub its_disjunctions : ℕ → ℕ → Kind
its_disjunctions left k = record {
  Thing = Disjs;
  Fine = λ ds. (disjs ds ≡ k) × WellAll ds left;
  text = disjs_words;
  image = λ p c. loaded_all p c.number c.free;
  after = λ c ds. stock (c.number + nodes_all ds) c.own (c.free + alts_all ds);
}

-- k alternatives
abbrev pub its_alternatives : ℕ → ℕ → Kind
its_alternatives left k = record {
  Thing = Alts;
  Fine = λ a. (alts a ≡ k) × WellAny a left;
  text = alts_words;
  image = λ p c. loaded_any p c.number c.own c.free;
  after = λ c a. stock (c.number + nodes_any a) (c.own + alts a) (c.free + alts_any a);
}

module _ (k k' : ℕ) (more : k ≡ suc k') where
  pub arcs_step : Steps (its_arcs k) an_arc (its_arcs k')
  arcs_step [] f = let e = f.0 in absurd (omega arith)
  arcs_step (e ∷ l) f = let n = f.0 in
      record {
        first = e;
        others = l;
        fine = f.1.0;
        well = (omega arith, f.1.1);
        text_is = refl;
        image_is = λ p c. refl;
        after_is = λ c. refl;
        few = λ c h. h;
      }

  pub nodes_step : Steps (its_nodes k) a_node (its_nodes k')
  nodes_step [] f = let e = f.0 in absurd (omega arith)
  nodes_step (v ∷ vs) f = let n = f.0 in
      record {
        first = v;
        others = vs;
        fine = (f.1.0, f.2.0);
        well = (omega arith, f.1.1, f.2.1);
        text_is = refl;
        image_is =
            λ p c. refl;
        after_is = λ c. refl;
        few = λ c h. h;
      }

  pub disjunctions_step : (left : ℕ) → Steps (its_disjunctions left k) (a_disjunction left) (its_disjunctions left k')
  disjunctions_step left end f = let e = f.0 in absurd (omega arith)
  disjunctions_step zero (a and ds) f = absurd f.1
  disjunctions_step (suc left) (a and ds) f = let n = f.0 in
      record {
        first = a;
        others = ds;
        fine = (omega arith, rw sub-one f.1.1);
        well = (omega arith, f.1.2);
        text_is = refl;
        image_is =
            λ p c. refl;
        after_is = λ c. coming_same (omega arith) refl (omega arith);
        few = λ c h. let x = h.0 in let y = h.2 in (omega arith, h.1, omega arith);
      }

  pub alternatives_step : (left : ℕ) → Steps (its_alternatives left k) (a_description left) (its_alternatives left k')
  alternatives_step left fail f = let e = f.0 in absurd (omega arith)
  alternatives_step left (d or a) f = let n = f.0 in
      record {
        first = d;
        others = a;
        fine = f.1.0;
        well = (omega arith, f.1.1);
        text_is = refl;
        image_is = λ p c. refl;
        after_is = λ c. coming_same (omega arith) (omega arith) (omega arith);
        few = λ c h. let x = h.0 in let y = h.1 in let z = h.2 in (omega arith, omega arith, omega arith);
      }

module _ (k : ℕ) (none : k ≤ 0) where
  pub arcs_end : Ends (its_arcs k)
  arcs_end [] f = record { text_is = refl; image_is = λ p c. refl; after_is = λ c. refl }
  arcs_end (e ∷ l) f = let n = f.0 in absurd (omega arith)

  pub nodes_end : Ends (its_nodes k)
  nodes_end [] f = record { text_is = refl; image_is = λ p c. refl; after_is = λ c. refl }
  nodes_end (v ∷ vs) f = let n = f.0 in absurd (omega arith)

  pub disjunctions_end : (left : ℕ) → Ends (its_disjunctions left k)
  disjunctions_end left end f = record {
    text_is = refl;
    image_is = λ p c. refl;
    after_is = λ c. coming_same (omega arith) (omega arith) (omega arith);
  }
  disjunctions_end left (a and ds) f = let n = f.0 in absurd (omega arith)

  pub alternatives_end : (left : ℕ) → Ends (its_alternatives left k)
  alternatives_end left fail f = record {
    text_is = refl;
    image_is = λ p c. refl;
    after_is = λ c. coming_same (omega arith) (omega arith) (omega arith);
  }
  alternatives_end left (d or a) f = let n = f.0 in absurd (omega arith)
