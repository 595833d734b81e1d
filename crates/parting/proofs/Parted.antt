-- Laws of a part: what is gathered is a sheet with the rows of the part, so both have one graph.
-- Assumes nothing.
use Prim.Native.Nat.{ℕ, ◌/◌, ◌≤◌, ◌<◌}
use native.Mathlib.Omega.{arith}
use mathlib.Core.Path.{◌≡◌, refl, sym, ap, subst, ◌∙◌}
use mathlib.Core.Logic.{inl, inr, ⊎_elim}
use mathlib.Core.Bool.{Bool, true, false}
use mathlib.Core.List.Memᴰ
use mathlib.Core.List.{List, Memᴰ}
use mathlib.Core.Option.{Option}
use lib.ListN.{length, get_or, take, replicate, length-replicate, get_or-replicate, length-take}
use lib.Seq.{length-take-le, get_or-take}
use Rattle.theory.specs.Net.{Graph}
use Rattle.theory.specs.Join.{Edge}
use Rattle.layout.specs.Standing.{Stands, graph_words}
use Rattle.layout.proofs.Standing.{stands_whole, stands_frame}
use Rattle.formulas.specs.Sheet.{Sheet, Sound, sheet_graph}
use Rattle.formulas.specs.Tables.{Tables, tables, edge, Trail, at_root, further}
use Rattle.formulas.proofs.Order.{Within, sheet_order}
use Rattle.formulas.proofs.Homes.{sound_same}
use Rattle.closing.specs.Rows.{spot_limit, in_edges, in_pairs, in_sheet}
use Rattle.closing.proofs.Lists.{edge_at, edge_in}
use Rattle.sheets.specs.Draws.{DrawnAs, Draws}
use Rattle.parting.specs.Gathered.{AmongRows, Members, row_in, home_in, Gathers, arc_table, TrailMarked, TrailMarking, TrailMarks}
use Rattle.parting.specs.Gathered.{GathersArcs}
use Rattle.parting.specs.Parted.{Part, Parting, Drawn_as, PartDrawn, Half_part, HalfParting, HalfParts}
use Rattle.std.specs.Prelude.{Result, Ok, Err}
use Rattle.sheets.specs.declared.drawing.Undrawn.{Undrawn}
use Rattle.sheets.specs.declared.drawing.Undrawn.TheVariants.{Clash, Long}

-- ---- what is drawn
stands_front : (out ws : List ℕ) → take (length ws) out ≡ ws → Stands out 0 ws (length ws)
stands_front out ws e =
    let n = length ws in
    let front : Stands (take n out) 0 ws n
    = subst (λ (q : ℕ). Stands (take n out) 0 ws q) (ap length e) ((stands_whole (take n out) ws).0 e) in
    stands_frame (take n out) out ws 0 n (λ j l u t. (omega (arith, length-take n out), sym (get_or-take n out j 0 u))) front

drawn_turned : (A : Sheet) (out out' : List ℕ) (r : Result ℕ Undrawn) → length out' ≡ length out → DrawnAs A out out' r →
    Drawn_as (sheet_graph A) r out'
drawn_turned A out out' (Err Clash) s e = rw e refl
drawn_turned A out out' (Err Long) s (G, e, l) = rw e (inl (refl, omega arith))
drawn_turned A out out' (Ok n) s (G, e, q, w) =
    rw e (inr (ap Ok q, stands_front out' (graph_words G) (subst (λ (m : ℕ). take m out' ≡ graph_words G) q w)))

-- ---- a part whose arcs are gathered
module _ {A : Type 0} (P : ℕ → Type 0) (f : ℕ → A) (count : ℕ) (l m : List A) where
  among_same : AmongRows P f count l → AmongRows P f count m → (x : A) → Memᴰ x l → Memᴰ x m
  among_same a b x h = let (i, j, p, e) = a.of_list x h in Memᴰ.cast e (b.in_list i j p)

module _ (arcs ends atoms ties hm : List ℕ) (k : ℕ) where
  members_same : (rows : List ℕ) (l m : List (ℕ × ℕ)) → Members hm k (length rows / 2) (home_in rows) (row_in rows) l →
      Members hm k (length rows / 2) (home_in rows) (row_in rows) m → (p : ℕ × ℕ) → Memᴰ p l → Memᴰ p m
  members_same rows l m = among_same (λ i. get_or hm (home_in rows i) 0 ≡ k) (row_in rows) (length rows / 2) l m

  module _ (bears bears' shares shares' : List ℕ) (n m : ℕ) (g : Gathers atoms hm k (length atoms / 2) bears n bears')
      (h : Gathers ties hm k (length ties / 2) shares m shares') where
    abbrev drawn_from : Sheet
    drawn_from = in_sheet arcs ends (take n bears') (take m shares')

    module _ (A : Sheet) (p : Half_part arcs ends atoms ties hm k A) where
      to : Within A drawn_from
      to = record {
        edges = p.arc_of;
        atoms = members_same atoms A.atoms (in_pairs (take n bears')) p.atoms_are g.rows_are;
        ties = members_same ties A.ties (in_pairs (take m shares')) p.ties_are h.rows_are;
      }

      fro : Within drawn_from A
      fro = record {
        edges = p.arc_in;
        atoms = members_same atoms (in_pairs (take n bears')) A.atoms g.rows_are p.atoms_are;
        ties = members_same ties (in_pairs (take m shares')) A.ties h.rows_are p.ties_are;
      }

      sound_from : Sound A → Sound drawn_from
      sound_from u = sound_same A drawn_from u to fro

      same_graph : Sound A → sheet_graph drawn_from ≡ sheet_graph A
      same_graph u = sheet_order drawn_from A (sound_from u) u fro to

    pub half_drawn : (out : List ℕ) (r : Result ℕ Undrawn) (out' : List ℕ) → Draws arcs ends (take n bears') (take m shares') out r out' →
        HalfParts arcs ends atoms ties hm k out r out'
    half_drawn out r out' d = record {
      same = d.len;
      drawn = λ A u p. subst (λ (o : Option Graph). Drawn_as o r out') (same_graph A p u)
          (drawn_turned drawn_from out out' r d.len d.answer);
    }

-- ---- the arcs
module _ (arcs atoms ties alts : List ℕ) where
  abbrev T : Tables
  T = tables arcs atoms ties alts

  trail_arcs : {s : ℕ} {es : List Edge} → Trail T s es → Trail (arc_table arcs) s es
  trail_arcs (at_root z e) = at_root z e
  trail_arcs (further i ds e h q t) = further i ds e h q (trail_arcs t)

  abbrev IsArc : Edge → Type 0
  IsArc e = (i : ℕ) × (i < T.arcs) × (e ≡ edge T i)

  trail_arc : {s : ℕ} {es : List Edge} → Trail T s es → (e : Edge) → Memᴰ e es → IsArc e
  trail_arc (at_root z q) e m = absurd (Memᴰ.not-nil (subst (Memᴰ e) q m))
  trail_arc (further i ds z h q t) e m = ⊎_elim (trail_arc t e) (λ l. (i, h, Memᴰ.eq_of_singleton l))
      (Memᴰ.append_cases ds (subst (Memᴰ e) q m))

  module _ (hm : List ℕ) (k : ℕ) (c : Parting T hm k) (s : ℕ) (at : s ≡ T.spot k) where
    pub part_marks : (many : ℕ) → T.arcs ≤ many → TrailMarking (arc_table arcs) s (replicate many false)
    part_marks many r = rw at (record {
      low = c.fit.tabled.low;
      trail = c.part.trail;
      trails = trail_arcs c.part.trails;
      room = rw (length-replicate {A = Bool} many false) r;
      clear = λ i h. get_or-replicate many i false false (omega arith);
    })

    module _ (on₀ on : List Bool) (out₀ ends₀ out ends : List ℕ) (n : ℕ) (v : TrailMarks (arc_table arcs) s on₀ on)
        (g : GathersArcs arcs hm on k (length arcs / 2) out₀ ends₀ n out ends) where
      abbrev taken : List Edge
      taken = in_edges (take n out) (take n ends)

      part_half : (A : Sheet) → Part T hm k A → Half_part (take n out) (take n ends) atoms ties hm k A
      part_half A p = record {
        arc_in = λ e m. let (i, h, b, q) = g.arcs_are.of_list e m in Memᴰ.cast q (⊎_elim (from_trail i h) (p.arc_in i h) b);
        arc_of = λ e m. ⊎_elim (on_trail e) (λ (i, h, b, q). Memᴰ.cast q (g.arcs_are.in_list i h (inr b))) (p.arc_of e m);
        atoms_are = p.atoms;
        ties_are = p.ties;
      }
        where
          marked : TrailMarked (arc_table arcs) on p.trail
          marked = v.marked p.trail (rw at (trail_arcs p.trails))

          from_trail : (i : ℕ) → i < T.arcs → get_or on i false ≡ true → Memᴰ (edge T i) A.edges
          from_trail i h z = ⊎_elim (λ (x, m). p.on_trail (edge T i) m) (λ (x, m). absurd (let y : ◌≡◌ {A = ℕ} 0 1 = cc in omega arith)) (marked i h)

          on_trail : (e : Edge) → Memᴰ e p.trail → Memᴰ e taken
          on_trail e m =
              let (i, h, q) = trail_arc p.trails e m in
              let is : get_or on i false ≡ true = ⊎_elim (λ (x, u). x) (λ (x, u). absurd (u (Memᴰ.cast (sym q) m))) (marked i h) in
              Memᴰ.cast q (g.arcs_are.in_list i h (inl is))

      pub part_drawn : (res : List ℕ) (r : Result ℕ Undrawn) (res' : List ℕ) → HalfParts (take n out) (take n ends) atoms ties hm k res r res' →
          PartDrawn T hm k res r res'
      part_drawn res r res' d = (d.same, λ A u p. d.drawn A u (part_half A p))

      module _ (room : T.arcs ≤ length out₀) (room_ends : T.arcs ≤ length ends₀) where
        size : length (take n out) ≡ n
        size = let few = g.few in let same = g.same in length-take-le n out (omega arith)

        size_ends : length (take n ends) ≡ n
        size_ends = let few = g.few in let same = g.same_ends in length-take-le n ends (omega arith)

        few : length (take n out) < spot_limit
        few = let less = g.few in let most = c.fit.few_arcs in omega (arith, size)

        low : (j : ℕ) → j < length (take n ends) → get_or (take n ends) j 0 < spot_limit
        low j h =
            let at : Memᴰ (edge_at (take n out) (take n ends) j) taken
            = edge_in (take n out) (take n ends) (size_ends ∙ sym size) j (omega (arith, size, size_ends)) in
            let (i, b, x, u) = g.arcs_are.of_list (edge_at (take n out) (take n ends) j) at in
            let few = c.fit.few_arcs in
            omega (arith, ap (λ (e : Edge). e.2) u)

        pub part_asks : HalfParting (take n out) (take n ends) atoms ties hm k
        part_asks = record {
          A = c.A;
          sound = c.sound;
          part = part_half c.A c.part;
          rows = record { even = size_ends ∙ sym size; few = few; low = low };
          few_atoms = c.fit.few_atoms;
          few_ties = c.fit.few_ties;
          atom_homes = c.fit.atom_homes;
          tie_homes = c.fit.tie_homes;
        }
