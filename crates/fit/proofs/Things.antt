-- Testing what stands in words: a graph, and things one after the other.
-- Assumes nothing.
use Prim.Native.Nat.{ℕ, zero, suc, ◌+◌, ◌-◌, ◌≤◌, ◌<◌}
use native.Mathlib.Omega.{arith}
use native.Mathlib.Numerals.{sub-one}
use mathlib.Core.Path.{◌≡◌, sym, subst, ◌∙◌}
use mathlib.Core.Logic.{◌↔◌}
use mathlib.Core.List.{List}
use lib.ListN.{length, get_or}
use Rattle.theory.specs.Limits.{depth_limit}
use Rattle.theory.specs.Net.{Graph, Canonical}
use Rattle.theory.specs.Descr.{desc, Disjs, end, ◌and◌, Alts, disjs}
use Rattle.theory.specs.Layout.{nodes_words, disjs_words, WellAll, WellAny}
use Rattle.theory.specs.FitTest.{FitsAll}
use Rattle.theory.proofs.Meaning.{canonical_some}
use Rattle.layout.specs.Standing.{Stands}
use Rattle.layout.proofs.Standing.{stands_nil, stands_within, stands_graph, stands_description, stands_disjunctions}
use Rattle.fit.specs.Parts.{graphIn}
use Rattle.fit.specs.Sending.{NodesAsked, SentNodes}
use Rattle.fit.specs.Testing.{Subject, graph_subject, description_subject, disjunction_subject, Testable, Answers}
use Rattle.std.specs.Prelude.{Option, Some, None}
use Rattle.fit.proofs.Parts.{nodes_stand}
use Rattle.fit.proofs.Maps.{sent_map, given, given_root, map_sent}

-- k disjunctions under which alternatives nest at most `left` deep
abbrev pub its_disjunctions : Graph → ℕ → ℕ → Subject
its_disjunctions H left k = record {
  Thing = Disjs;
  Fine = λ ds. (disjs ds ≡ k) × (left ≤ depth_limit) × WellAll ds left;
  text =
      disjs_words;
  Holds = FitsAll H;
}

module _ (ws : List ℕ) where
  -- what is left of x stands at `at`, and the structure satisfies it when it satisfies x
  pub record Rest (K L : Subject) (x : K.Thing) (q at : ℕ) : Type 0 where
    pub rest : L.Thing
    pub fine : L.Fine rest
    pub there : Stands ws at (L.text rest) q
    pub same : K.Holds x ↔ L.Holds rest

  abbrev pub Left : Subject → ℕ → Subject → ℕ → Type 0
  Left K p L at = (x : K.Thing) (q : ℕ) → K.Fine x → Stands ws p (K.text x) q → Rest K L x q at

  pub left_asked : (K L : Subject) (p at : ℕ) → Testable K ws p → Left K p L at → Testable L ws at
  left_asked K L p at a l = let b = a.1 in let r = l b.0 b.1 b.2 b.3 in (a.0, (r.rest, b.1, r.fine, r.there))

  -- the structure satisfies what is left, or it does not
  pub left_says : (K L : Subject) (p at : ℕ) (r : Option ℕ) → Left K p L at → Answers L ws at r → Answers K ws p r
  left_says K L p at (Some n) l a x q f s = let r = l x q f s in let b = a r.rest q r.fine r.there in
      (b.0, r.same.1 b.1)
  left_says K L p at None l a x q f s = let r = l x q f s in λ h. a r.rest q r.fine r.there (r.same.0 h)

  pub left_on : (K L M : Subject) (p at n : ℕ) → Left K p L at → Left L at M n → Left K p M n
  left_on K L M p at n l k x q f s =
      let r = l x q f s in
      let t = k r.rest q r.fine r.there in
      record { rest = t.rest; fine = t.fine; there = t.there; same = (λ h. t.same.0 (r.same.0 h), λ h. r.same.1 (t.same.1 h)) }

  module _ (H : Graph) where
    pub graph_there : (p : ℕ) → Testable (graph_subject H) ws p → p < length ws
    graph_there p a = let b = a.1 in ((stands_graph ws b.0 p b.1).0 b.3).0

    pub graph_sends : (s : List ℕ) → H ≡ graphIn s 0 → Canonical H → (p : ℕ) (M : List ℕ) → get_or M 0 0 ≡ 0 →
        Testable (graph_subject H) ws p →
        NodesAsked s ws (p + 1) (get_or ws p 0) M
    graph_sends s h c p M z a =
        let b = a.1 in
        let t = (stands_graph ws b.0 p b.1).0 b.3 in
        let n = nodes_stand ws b.0 (p + 1) b.1 b.2.1 t.2 in
        let there = t.0 in
        let e = t.1 in
        let w = stands_within ws (nodes_words b.0) (p + 1) b.1 (omega arith) t.2 in
        let o = n.0 in
        let i = canonical_some H c in
        record {
          few = a.0;
          there = rw e (omega (arith, n.1));
          canonical = rw (e, o) b.2.0;
          root = λ j l. let d : j ≡ 0 = omega arith in rw (d, z, ← h) i;
        }

    pub graph_says : (p : ℕ) (M : List ℕ) → get_or M 0 0 ≡ 0 → (r : Option ℕ) → SentNodes H ws (p + 1) (get_or ws p 0) M r →
        Answers (graph_subject H) ws p r
    graph_says p M z (Some n) o g q f s =
        let t = (stands_graph ws g p q).0 s in
        let e = t.1 in
        let k = nodes_stand ws g (p + 1) q f.1 t.2 in
        let d = k.0 in
        let b = o.1 in
        (o.0 ∙ rw e k.1, sent_map H b.0 g (b.1 0 (omega arith) ∙ z) (rw (e, d) at b.2))
    graph_says p M z None o g q f s =
        let t = (stands_graph ws g p q).0 s in
        let e = t.1 in
        let k = nodes_stand ws g (p + 1) q f.1 t.2 in
        let d = k.0 in
        λ h. o (given H g f.0 h) (λ j l. let y : j ≡ 0 = omega arith in
        rw (y, z) (given_root H g f.0 h)) (rw (e, d) (map_sent H g f.0 h))

    module _ (left p : ℕ) where
      pub graph_first : Testable (description_subject H left) ws p → Testable (graph_subject H) ws p
      graph_first (few, (desc g ds, q, f, s)) = let t = (stands_description ws g ds p q).0 s in (few, (g, t.0, (f.1.0, f.1.1), t.1))

      pub graph_fails : (r : Option ℕ) → r ≡ None → Answers (graph_subject H) ws p r →
          Answers (description_subject H left) ws p None
      graph_fails r e n (desc g ds) q f s =
          let t = (stands_description ws g ds p q).0 s in
          λ h. subst (Answers (graph_subject H) ws p) e n g t.0 (f.1.0, f.1.1) t.1 h.0

      module _ (r : Option ℕ) (n : ℕ) (e : r ≡ Some n) (fits : Answers (graph_subject H) ws p r) where
        pub after_graph : Testable (description_subject H left) ws p → n < length ws
        after_graph (few, (desc g ds, q, f, s)) =
            let t = (stands_description ws g ds p q).0 s in
            let b = subst (Answers (graph_subject H) ws p) e fits g t.0 (f.1.0, f.1.1) t.1 in
            omega (arith, b.0, t.2)

        pub disjunctions_start : Left (description_subject H left) p (its_disjunctions H left (get_or ws n 0)) (n + 1)
        disjunctions_start (desc g ds) q f s =
            let t = (stands_description ws g ds p q).0 s in
            let b = subst (Answers (graph_subject H) ws p) e fits g t.0 (f.1.0, f.1.1) t.1 in
            let d = b.0 in
            record { rest = ds; fine = rw d (sym t.3, f.0, f.1.2); there = rw d t.4; same = (λ h. h.1, λ h. (b.1, h)) }

    well_split : (a : Alts) (ds : Disjs) (left : ℕ) → WellAll (a and ds) left → (0 < left) × WellAny a (left - 1) × WellAll ds left
    well_split a ds zero w = absurd w
    well_split a ds (suc left) w = (omega arith, rw sub-one w.1, w.2)

    module _ (left count at : ℕ) where
      disjunctions_one : (r : Option ℕ) (n : ℕ) → r ≡ Some n → Answers (disjunction_subject H left) ws at r → 0 < count →
          Left (its_disjunctions H left count) at (its_disjunctions H left (count - 1)) n
      disjunctions_one r n e fits some end q f s = let z = f.0 in absurd (omega arith)
      disjunctions_one r n e fits some (a and ds) q f s =
          let z = f.0 in
          let w = well_split a ds left f.2 in
          let t = (stands_disjunctions ws a ds at q).0 s in
          let b = subst (Answers (disjunction_subject H left) ws at) e fits a t.0 (w.0, f.1, w.1) t.1 in
          let d = b.0 in
          record { rest = ds; fine = (omega arith, f.1, w.2); there = rw d t.2; same = (λ h. h.1, λ h. (b.1, h)) }

      disjunctions_lost : (r : Option ℕ) → r ≡ None → Answers (disjunction_subject H left) ws at r → 0 < count →
          Answers (its_disjunctions H left count) ws at None
      disjunctions_lost r e n some end q f s = let z = f.0 in absurd (omega arith)
      disjunctions_lost r e n some (a and ds) q f s =
          let w = well_split a ds left f.2 in
          let t = (stands_disjunctions ws a ds at q).0 s in
          λ h. subst (Answers (disjunction_subject H left) ws at) e n a t.0 (w.0, f.1, w.1) t.1 h.0

      disjunctions_none : count ≤ 0 → Answers (its_disjunctions H left count) ws at (Some at)
      disjunctions_none h end q f s = ((stands_nil ws at q).0 s, tt)
      disjunctions_none h (a and ds) q f s = let z = f.0 in absurd (omega arith)

      pub disjunction_next : 0 < count → Testable (its_disjunctions H left count) ws at → Testable (disjunction_subject H left) ws at
      disjunction_next some (few, (end, q, f, s)) = let z = f.0 in absurd (omega arith)
      disjunction_next some (few, (a and ds, q, f, s)) =
          let w = well_split a ds left f.2 in
          let t = (stands_disjunctions ws a ds at q).0 s in
          (few, (a, t.0, (w.0, f.1, w.1), t.1))

      module _ (K : Subject) (p : ℕ) (going : Left K p (its_disjunctions H left count) at) where
        pub disjunctions_step : (r : Option ℕ) (n : ℕ) → r ≡ Some n → Answers (disjunction_subject H left) ws at r → 0 < count →
            Left K p (its_disjunctions H left (count - 1)) n
        disjunctions_step r n e fits some =
            left_on K (its_disjunctions H left count) (its_disjunctions H left (count - 1)) p at n going (disjunctions_one r n e fits some)

        pub disjunctions_stop : (r : Option ℕ) → r ≡ None → Answers (disjunction_subject H left) ws at r → 0 < count →
            Answers K ws p None
        disjunctions_stop r e n some = left_says K (its_disjunctions H left count) p at None going (disjunctions_lost r e n some)

        pub disjunctions_end : count ≤ 0 → Answers K ws p (Some at)
        disjunctions_end h = left_says K (its_disjunctions H left count) p at (Some at) going (disjunctions_none h)
