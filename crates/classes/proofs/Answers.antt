-- What a class holds answers what is asked of it. Assumes nothing.
use mathlib.Core.Path.{◌≡◌, sym, ap, ◌∙◌, subst}
use mathlib.Core.List.{List}
use Prim.Native.Nat.{ℕ, suc, ◌+◌, ◌-◌, ◌≤◌, ◌<◌}
use native.Mathlib.Omega.{arith}
use lib.ListN.{get_or}
use Rattle.theory.specs.Limits.{code_limit}
use Rattle.theory.specs.Net.{beside}
use Rattle.area.specs.Region.{loaded_words}
use Rattle.loading.specs.Entry.{Entry, graphs}
use Rattle.forest.specs.Forest.{Root}
use Rattle.forest.specs.Held.{ChainCode, AtomCode}
use Rattle.forest.specs.State.{targets, Runs, Looked}
use Rattle.forest.specs.State as state
use Rattle.classes.specs.Holds.{Holds, class, Labelled, Classed}
use Rattle.classes.proofs.Content.{Content}
use Rattle.classes.specs.Ask.{AtomOf, TargetOf}
use Rattle.std.specs.Prelude.{Some, None}
use Rattle.forest.proofs.Links.{chain_zero, first_mem, first_feature, first_det, none_first}
use Rattle.classes.proofs.Writer.{spot_low, class_low, class_top, content}

-- a root is the class
pub root-classed : (n : ℕ) (w : List ℕ) (x c : ℕ) → Root n w x c → Classed n w x c
root-classed n w x c root = record { is = λ es k h. sym (root.is h.state.M h.state.forest) }

module _ (n : ℕ) (w : List ℕ) (x : ℕ) (hx : x < n) (c : ℕ) (cl : Classed n w x c) where
  module _ (es : List Entry) (k : ℕ) (h : Holds n es k w) where
    is : c ≡ class h x
    is = cl.is es k h

    holds : Content es (class h) w c
    holds = let l = class_low n es k w h x hx in
        subst (Content es (class h) w) (sym is) (content n es k w h (class h x) (omega arith) (class_top n es k w h x hx))

  pub asked_low : Labelled n w → c < n
  asked_low g = let l = class_low n g.es g.k w g.holds x hx in let e = is g.es g.k g.holds in omega arith

  -- ---- the atom
  pub asked-head : Labelled n w → AtomCode (get_or w c 0) → 65536 ≤ get_or w c 0
  asked-head g l = let o = (holds g.es g.k g.holds).atom_from l in let e : get_or w c 0 ≡ code_limit + o.1.1.0 = o.1.1.1.1 in
      omega arith

  pub atom-there : AtomCode (get_or w c 0) → AtomOf n w x (Some (get_or w c 0 - 65536))
  atom-there l = record {
    is = λ es k h a e.
        let o = (holds es k h).atom_from l in
        let q : get_or w c 0 ≡ code_limit + o.1.1.0 = o.1.1.1.1 in
        let y : get_or w c 0 - 65536 ≡ a = cc in
        let z : o.1.1.0 ≡ a = omega arith in
        (o.0, (o.1.0 ∙ is es k h, subst ((beside (graphs es)).Atom o.0) z o.1.1.1.0));
    told = λ es k h s a u e.
        let q : get_or w c 0 ≡ code_limit + a = (holds es k h).atom_in s a u (e ∙ sym (is es k h)) in
        ap Some (omega arith);
  }

  pub atom-none : ChainCode (get_or w c 0) → AtomOf n w x None
  atom-none l = record {
    is = λ es k h a e. let y : ◌≡◌ {A = ℕ} 0 1 = cc in absurd (omega arith);
    told = λ es k h s a u e. let q : get_or w c 0 ≡ code_limit + a = (holds es k h).atom_in s a u (e ∙ sym (is es k h)) in
        absurd (omega arith);
  }

  -- ---- the target under f
  pub asked-runs : Labelled n w → ChainCode (get_or w c 0) → Runs w (get_or w c 0)
  asked-runs g l = let o = holds g.es g.k g.holds in record { xs = o.chain; chain = o.linked l; short = o.short }

  module _ (f : ℕ) where
    pub target-bare : AtomCode (get_or w c 0) → TargetOf n w x f None
    target-bare l = record {
      is = λ es k h d e. let y : ◌≡◌ {A = ℕ} 0 1 = cc in absurd (omega arith);
      told = λ es k h s t a e. let q = ((holds es k h).arc_in s f t a (e ∙ sym (is es k h))).0 in absurd (omega arith);
    }

    pub target_none : ChainCode (get_or w c 0) → Looked (loaded_words w) w f (get_or w c 0) 0 → TargetOf n w x f None
    target_none l m = record {
      is = λ es k h d e. let y : ◌≡◌ {A = ℕ} 0 1 = cc in absurd (omega arith);
      told = λ es k h s t a e.
          let o = holds es k h in
          let q = (o.arc_in s f t a (e ∙ sym (is es k h))).1 in
          absurd (none_first (loaded_words w) f o.chain q.0 (m.miss (omega arith) o.chain (o.linked l)) q.1.0);
    }

    pub target-void : get_or w c 0 ≡ 0 → TargetOf n w x f None
    target-void z = target_none (omega arith) (record {
      miss = λ e xs d. subst (state.None (loaded_words w) f) (sym (chain_zero w (get_or w c 0) xs z d)) tt;
      hit = λ i e. absurd (omega arith);
    })

    module _ (l : ChainCode (get_or w c 0)) (i : ℕ) (m : Looked (loaded_words w) w f (get_or w c 0) (suc i)) where
      pub target_low : Labelled n w → (i < 2047) × (get_or (targets w) i 0 < n)
      target_low g =
          let o = holds g.es g.k g.holds in
          let p = m.hit i (omega arith) o.chain (o.linked l) in
          let r = o.arc_from i (first_mem (loaded_words w) f o.chain i p) in
          let b = spot_low n g.es g.k w g.holds r.1.1.0 in
          let e = r.1.1.1.1.0 in
          (r.0, omega arith)

      pub target-there : (d : ℕ) → Classed n w (get_or (targets w) i 0) d → TargetOf n w x f (Some d)
      target-there d v = record {
        is = λ es k h d' e.
            let o = holds es k h in
            let p = m.hit i (omega arith) o.chain (o.linked l) in
            let r = o.arc_from i (first_mem (loaded_words w) f o.chain i p) in
            let y : d ≡ d' = cc in (
              r.1.0,
              (
                r.1.1.0,
                (
                  r.1.1.1.0
                      ∙ is es k h,
                  (
                    ap (class h) r.1.1.1.1.0 ∙ sym (v.is es k h)
                        ∙ y,
                    subst (λ (z : ℕ). (beside (graphs es)).Arc r.1.0 z r.1.1.0) (first_feature (loaded_words w) f o.chain i p)
                        r.1.1.1.1.1,
                  ),
                ),
              ),
            );
        told = λ es k h s t a e.
            let o = holds es k h in
            let p = m.hit i (omega arith) o.chain (o.linked l) in
            let q = (o.arc_in s f t a (e ∙ sym (is es k h))).1 in
            let y : i ≡ q.0 = first_det (loaded_words w) f o.chain i q.0 p q.1.0 in
            ap Some (v.is es k h ∙ ap (λ (z : ℕ). class h (get_or (targets w) z 0)) y ∙ q.1.1);
      }
