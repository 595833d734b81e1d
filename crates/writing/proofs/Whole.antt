-- The whole graph that is written. Assumes nothing.
use mathlib.Core.Path.{◌≡◌, ◌∙◌, subst}
use mathlib.Core.List.{List}
use Prim.Native.Nat.{ℕ, ◌+◌, ◌≤◌, ◌<◌}
use native.Mathlib.Omega.{arith}
use mathlib.Core.Logic.{inl, inr}
use lib.ListN.{length, get_or, set, length-set}
use lib.Seq.{get_or-set_same, get_or-set_other}
use Rattle.theory.specs.Net.{Graph}
use Rattle.theory.specs.Layout.{nodes_words}
use Rattle.theory.specs.Weight.{weight}
use Rattle.layout.specs.Standing.{Stands}
use Rattle.layout.proofs.Standing.{stands_length, stands_frame}
use Rattle.area.specs.Map.{RESULT, SIZE, STACK}
use Rattle.forest.specs.Forest.{parents, Shape, Root}
use Rattle.classes.specs.Holds.{class}
use Rattle.classes.proofs.Laws.{holds_few, holds_again, since_again}
use Rattle.area.specs.Region.{Zeroed}
use Rattle.writing.specs.Classes.{Classes, Met}
use Rattle.writing.specs.Writing.{Kept, Numbering, Numbers, NodesWriting, NodesWritten, Writing, Writes}
use Rattle.writing.proofs.Keeping.{kept_trans, kept_both, kept_wider, kept_put, kept_classes}
use Rattle.writing.proofs.Source.{ord, source}

module _ (n k : ℕ) (w : List ℕ) (o : ℕ) (p : Writing n k w o) where
  few : k ≤ 4096
  few = holds_few n p.es k w p.holds

  s : Classes n k w p.G (class p.holds) (ord n p.es k w p.holds p.G p.joined)
  s = source n p.es k w p.holds p.G p.joined

  module _ (w1 : List ℕ) (z : Zeroed STACK n w w1) where
    cleared_kept : (at : ℕ) → Kept k at at w w1
    cleared_kept at =
        let f = few in
        let b = p.holds.below in
        record {
          len = z.len;
          more = omega arith;
          low = λ j h. z.rest j (inl (omega arith));
          mid = λ j h l. z.rest j (inr (omega arith));
          high =
              λ j h. z.rest j (inr (omega arith));
        }

    -- no class has a number yet
    module _ (G : Graph) (lab : ℕ → ℕ) (ord : List ℕ) (s : Classes n k w G lab ord) where
      cleared : Classes n k w1 G lab ord
      cleared = kept_classes n k o o w w1 (cleared_kept o) lab ord G s

      none : Met k 0 ord w1
      none = record {
        few = omega arith;
        new = λ i h l. z.is (get_or ord i 0) (s.low i l);
        old = λ i h. absurd (omega arith);
        order =
            λ i h. absurd (omega arith);
      }

      some : 0 < n
      some = let a = s.low 0 s.some in omega arith

      first : (c : ℕ) → Root n w1 0 c → c ≡ get_or ord 0 0
      first c r = cleared.label 0 c some r ∙ s.first

    abbrev G : Graph
    G = p.G

    pub writing_find : ((0 < n) × ((n ≤ 1024) × (SIZE ≤ length w1))) × Shape (parents n w1)
    writing_find =
        let c = cleared G (class p.holds) (ord n p.es k w p.holds G p.joined) s in
        ((some G (class p.holds) (ord n p.es k w p.holds G p.joined) s, (c.below, c.long)), c.shape)

    module _ (c : ℕ) (r : Root n w1 0 c) where
      pub writing_number : Numbering n k 0 c w1
      writing_number =
          let lab = class p.holds in
          let ord = ord n p.es k w p.holds G p.joined in
          record {
            G = G;
            lab = lab;
            ord = ord;
            classes = cleared G lab ord s;
            met = none G lab ord s;
            t = 0;
            inside = s.some;
            next =
                omega arith;
            is = first G lab ord s c r;
          }

      module _ (m : ℕ) (w2 : List ℕ) (u : Numbers n k 0 c w1 m w2) where
        begun_kept : (at : ℕ) → Kept k at at w w2
        begun_kept at = kept_both k at at w w1 w2 (cleared_kept at) (u.kept at)

        -- the root has the number 0
        module _ (G : Graph) (lab : ℕ → ℕ) (ord : List ℕ) (s : Classes n k w G lab ord) where
          begun : Classes n k w2 G lab ord
          begun = kept_classes n k o o w w2 (begun_kept o) lab ord G s

          one : Met k 1 ord w2
          one =
              let q = u.told G lab ord (cleared G lab ord s) (none G lab ord s) 0 s.some (omega arith) (first G lab ord s c r) in
              let e : m ≡ 1 = q.1.0 ∙ omega arith in
              subst (λ (i : ℕ). Met k i ord w2) e q.0

        pub writing_nodes : NodesWriting n k w2 (o + 1)
        unfolding weight
        writing_nodes =
            let lab = class p.holds in
            let ord = ord n p.es k w p.holds G p.joined in
            let b = p.room in
            record {
              G = G;
              lab = lab;
              ord = ord;
              classes = begun G lab ord s;
              marks = one G lab ord s;
              canonical = p.joined.canonical;
              fits = omega arith;
            }

        module _ (at m' : ℕ) (w3 : List ℕ) (v : NodesWritten n k w2 (o + 1) at m' w3) where
          pub writing_small : (m' ≤ 4096) × (length w3 ≡ length w)
          writing_small =
              let t = v.told G (class p.holds) (ord n p.es k w p.holds G p.joined)
              (begun G (class p.holds) (ord n p.es k w p.holds G p.joined) s)
              (one G (class p.holds) (ord n p.es k w p.holds G p.joined) s) p.joined.canonical in
              let e = t.0 in let l = s.many in let r = s.room in
              (omega arith, v.kept.len ∙ (begun_kept o).len)

          abbrev w4 : List ℕ
          w4 = set w3 (RESULT + o) m'

          kept : Kept k o at w w4
          kept =
              let f = v.kept.more in
              kept_both k o at w w3 w4 (kept_trans k o o at w w2 w3 (begun_kept o)
              (kept_wider k (o + 1) at o w2 w3 v.kept (omega arith))) (kept_put k o at o m' w3 few (omega arith) (omega arith))

          pub writes : Writes n k w o at w4
          unfolding Stands weight
          writes = let len = writing_small.1 in let long = p.holds.long in let b = p.room in record {
            kept = kept;
            told = λ es G h j.
                let lab = class h in
                let ord = ord n es k w h G j in
                let s = source n es k w h G j in
                let t = v.told G lab ord (begun G lab ord s) (one G lab ord s) j.canonical in
                let e = stands_length w3 (nodes_words G) (RESULT + (o + 1)) (RESULT + at) t.1 in (
                  omega arith,
                  (
                    (
                      simp length-set (omega arith),
                      get_or-set_same w3 (RESULT + o) m' 0 (omega arith) ∙ t.0,
                      stands_frame w3 w4 (nodes_words G) (RESULT + o + 1) (RESULT + at)
                          (λ i a l u. (
                            omega (arith, length-set w3 (RESULT + o) m'),
                            get_or-set_other w3 (RESULT + o) i m' 0 (λ q. omega arith),
                          ))
                          (subst (λ (i : ℕ). Stands w3 i (nodes_words G) (RESULT + at)) (omega arith) t.1),
                    ),
                    holds_again n es k w h w4 kept.len (λ i l. kept.low i (omega arith)) (λ i a l. kept.mid i a (omega arith)),
                  ),
                );
            since = λ i w₀ q. since_again i w₀ k w w4 kept.len long kept.low (λ i a l. kept.mid i a (omega arith)) q;
          }
