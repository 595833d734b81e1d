-- The ends of a merge of the class b into the class a. Assumes nothing.
use mathlib.Core.Path.{◌≡◌, refl, sym, ap, ◌∙◌, subst}
use mathlib.Core.Bool.{true, false}
use mathlib.Core.List.Memᴰ
use mathlib.Core.List.{List, [], ◌∷◌, ◌++◌, append-nil, Memᴰ}
use mathlib.Core.Logic.{◌⊎◌, inl, inr, ⊎_elim}
use Prim.Native.Nat.{ℕ, suc, ◌+◌, ◌*◌, ◌/◌, ◌%◌, ◌≤◌, ◌<◌}
use native.Mathlib.Numerals.{add-one}
use native.Mathlib.Omega.{arith}
use native.Mathlib.Decide.{dec_lt}
use lib.ListN.{length, set, get_or, length-set}
use lib.Seq.{get_or-set_same, get_or-set_other}
use Rattle.area.specs.Map.{PARENT, NEXT, LOG, STACK, SIZE}
use Rattle.forest.proofs.Relabel.{relabelled}
use Rattle.forest.specs.Roots.{Fusing, Linking, Linked}
use Rattle.area.specs.Log.{Later, Stores}
use Rattle.forest.specs.declared.held.Held.{Held}
use Rattle.forest.specs.declared.held.Held.TheVariants.{Nothing, Arcs, Atom}
use Rattle.forest.specs.Forest.{size_of, parents, SmallerUnder, tops}
use Rattle.forest.specs.Held.{last_arc, ChainCode, AtomCode, held_by, Covered}
use Rattle.forest.specs.State.{Pile, Done, Equal, ClashIn, Chain, Seg, First, Near, Framed, Bears, State, SomeState, Merged, Grow}
use Rattle.forest.specs.State.{Last, Runs}
use Rattle.forest.specs.State.{frames}
use Rattle.forest.proofs.Parents.{length_parents, parents_ext}
use Rattle.area.proofs.Undo.{later_refl, later_trans, later_scratch, put_at, put_off}
use Rattle.forest.proofs.Wood.{tops_link, tops_two}
use Rattle.forest.proofs.Sizes.{many_two}
use Rattle.forest.proofs.Contents.{told_nothing, told_arcs, told_atom}
use Rattle.forest.proofs.Links.{calm_refl, chain_same, chain_zero, seg_link, seg_chain, first_way, first_mem, first_feature}
use Rattle.forest.proofs.Links.{frames_same, one_most, one_some}
use Rattle.forest.proofs.Fuse.{fused, short, length_M, Fuses, Ma, Mb, Na, Ca, went_under, fused_chained, no_more_chained}
use Rattle.forest.proofs.Fuse.{under_same, fuse_state}

module _ (n k s : ℕ) (w : List ℕ) (a b : ℕ) (fu : Fusing n w a b) (hn : n ≤ 1024) (hw : SIZE ≤ length w) (g : SomeState n k s w) where
  -- two roots are left
  two : 1 < tops 0 (parents n w)
  two = let l = length_parents n w (omega arith) in
      tops_two (parents n w) a b (omega arith) (omega arith) fu.other fu.top_a fu.top_b

  pub room : k + 4 ≤ 4096
  room = let t = two in let u = g.state.room in let v = g.state.few in omega arith

  pub high : s + 1 ≤ n
  high = let t = two in let u = g.state.stack in omega arith

  ha : a < n
  ha = fu.low_a

  hb : b < n
  hb = fu.low_b

  pub linking : Linking n k w a b
  linking =
      let u = g.state in let h = room in
      let l = length_M g.G g.H g.F g.T n k s g.fs w hn hw u in
      let t = many_two a b u.M fu.other in
      let sa = u.size a ha (Ma g.G g.H g.F g.T n k s g.fs w hn hw u a b fu) in
      let sb = u.size b hb (Mb g.G g.H g.F g.T n k s g.fs w hn hw u a b fu) in
      record { logged = u.logged; room = omega arith; own = fu.top_a; low = (ha, hb); other = fu.other; fits = omega arith }

  abbrev went : (w' : List ℕ) → parents n w' ≡ set (parents n w) b a → SmallerUnder (parents n w) (parents n w')
  went = went_under g.G g.H g.F g.T n k s g.fs w hn hw g.state a b fu

  -- the roots are one fewer
  less : (w' : List ℕ) → parents n w' ≡ set (parents n w) b a → suc (tops 0 (parents n w')) ≡ tops 0 (parents n w)
  less w' e = let l = length_parents n w (omega arith) in
      rw e (tops_link 0 (parents n w) b a (omega arith) (omega (arith, fu.top_b)) (λ z. fu.other (omega arith)))

  -- ---- the class b holds nothing, or the atom that a holds
  module _ (r : ℕ) (w1 : List ℕ) (p : Linked n k w a b r w1) where
    off1 : (j : ℕ) → (j < PARENT) ⊎ (NEXT ≤ j) → (j < LOG) ⊎ (STACK ≤ j) → get_or w1 j 0 ≡ get_or w j 0
    off1 j o = let x = ha in let y = hb in
        p.rest j (λ e. ⊎_elim (λ l. omega arith) (λ l. omega arith) o) (λ e. ⊎_elim (λ l. omega arith) (λ l. omega arith) o)

    first1 : (c : ℕ) → c < 1024 → get_or w1 c 0 ≡ get_or w c 0
    first1 c h = off1 c (inl h) (inl (omega arith))

    next1 : (j : ℕ) → j < 2048 → get_or w1 (NEXT + j) 0 ≡ get_or w (NEXT + j) 0
    next1 j h = off1 (NEXT + j) (inr (omega arith)) (inl (omega arith))

    size1 : (c : ℕ) → c < n → (c ≡ a → ⊥) → (c ≡ b → ⊥) → get_or w1 (PARENT + c) 0 ≡ get_or w (PARENT + c) 0
    size1 c h x y = p.rest (PARENT + c) (λ e. x (omega arith)) (λ e. y (omega arith)) (inl (omega arith))

    stack1 : frames w1 s ≡ frames w s
    stack1 = frames_same w w1 s (λ j x y. off1 j (inr (omega arith)) (inr x))

    grow1 : Grow w w1
    grow1 j h x = next1 j h

    below : {G : Pile} {H : Done} {F T : List ℕ} {fs : List (ℕ × ℕ)} (u : State G H F T n k s fs w) (c q : ℕ) → c < n →
        Memᴰ q (get_or u.C c []) → q < 2048
    below u c q h m = let b = (u.arcs q (u.known q (u.home c q h m).0)).0 in omega arith

    pub plain : Covered (held_by w b) (held_by w a) → Merged n k s w a b r s false w1
    plain covers = record {
      later = p.later;
      new = [];
      stack = stack1;
      count = let t = less w1 p.par in omega arith;
      grow = grow1;
      calm = λ h. (refl, record { nexts = next1; firsts = λ c l z. first1 c l });
      under = went w1 p.par;
      fine = λ z G H F T fs u same. fuse_state G H F T n k s fs w (omega arith) hw u a b fu r s [] w1 same (fuses G H F T fs u);
      clash = λ z. let y : ◌≡◌ {A = ℕ} 0 1 = cc in absurd (omega arith);
    }
      where
        d : (get_or w b 0 ≡ 0) ⊎ (AtomCode (get_or w b 0) × (get_or w b 0 ≡ get_or w a 0))
        d = ⊎_elim (λ e. inl (told_nothing w b e)) (λ e. let at_b = told_atom w b e.0 e.1.0 in
            let at_a = told_atom w a e.0 e.1.1 in
            inr (omega (arith, at_b.0, at_b.1), sym at_b.0 ∙ at_a.0)) covers

        fuses : (G : Pile) (H : Done) (F T : List ℕ) (fs : List (ℕ × ℕ)) (u : State G H F T n k s fs w) →
            Fuses G H F T n k s fs w (omega arith) hw u a b fu r s [] w1
        fuses G H F T fs u = record {
          len = p.later.len;
          logged = p.later.logged;
          par = p.par;
          sum = p.sum;
          sizes = size1;
          k_up = let e = p.next in let m = no_more_chained G H F T n k s fs w (omega arith) hw u a b fu in omega arith;
          s_up = omega arith;
          first = λ c h x. first1 c (omega arith);
          nexts = λ q h x. next1 q h;
          grow = grow1;
          chain = λ l. rw (nil, first1 a (omega arith))
              (chain_same w w1 (get_or w a 0) (get_or u.C a []) (λ q m. next1 q (below u a q (omega arith) m))
              (u.chain a (omega arith) ma (omega (arith, first1 a (omega arith)))));
          alone = λ l. (rw nil (u.bare a (omega arith) ma (omega (arith, first1 a (omega arith)))).0, inl (first1 a (omega arith)));
          keep_a = λ l. first1 a (omega arith);
          keep_b = λ l. ⊎_elim (λ e. absurd (omega arith)) (λ e. first1 a (omega arith) ∙ sym e.1) d;
          owes = λ f q i x y. absurd (subst (λ (l : List ℕ). First F f l q) nil x);
          news = λ x y m. absurd (Memᴰ.not-nil m);
        }
          where
            ma : get_or u.M a 0 ≡ a
            ma = Ma G H F T n k s fs w (omega arith) hw u a b fu

            mb : get_or u.M b 0 ≡ b
            mb = Mb G H F T n k s fs w (omega arith) hw u a b fu

            nil : get_or u.C b [] ≡ []
            nil = ⊎_elim (λ e. chain_zero w (get_or w b 0) (get_or u.C b []) e (u.chain b hb mb (omega arith)))
                (λ e. (u.bare b hb mb e.0).0) d

    -- ---- the class a holds nothing
    module _ (v t : ℕ) (w2 : List ℕ) (ev : v ≡ get_or w b 0) (p2 : Stores r w1 a v t w2) (e0 : get_or w a 0 ≡ 0) where
      past2 : (j : ℕ) → (j ≡ a → ⊥) → (j < LOG) ⊎ (STACK ≤ j) → get_or w2 j 0 ≡ get_or w1 j 0
      past2 = let h = room in let e = p.next in put_off r w1 a v t w2 p2 (omega arith)

      word2 : (j : ℕ) → j < n → get_or w2 (PARENT + j) 0 ≡ get_or w1 (PARENT + j) 0
      word2 j h = past2 (PARENT + j) (λ z. omega arith) (inl (omega arith))

      par2 : parents n w2 ≡ set (parents n w) b a
      par2 = parents_ext n w2 w1 (omega (arith, p2.later.len, p.later.len)) p2.later.len word2 ∙ p.par

      first2 : (c : ℕ) → c < 1024 → (c ≡ a → ⊥) → get_or w2 c 0 ≡ get_or w c 0
      first2 c h x = past2 c x (inl (omega arith)) ∙ first1 c h

      next2 : (j : ℕ) → j < 2048 → get_or w2 (NEXT + j) 0 ≡ get_or w (NEXT + j) 0
      next2 j h = past2 (NEXT + j) (λ e. omega arith) (inl (omega arith)) ∙ next1 j h

      at2 : get_or w2 a 0 ≡ get_or w b 0
      at2 = put_at r w1 a v t w2 p2 (omega arith) (omega (arith, p.later.len)) ∙ ev

      pub moved : Merged n k s w a b t s false w2
      moved = record {
        later = later_trans k w r w1 t w2 p.later p2.later;
        new = [];
        stack = frames_same w1 w2 s (λ j x y. past2 j (λ e. omega arith) (inr x)) ∙ stack1;
        count = let t = less w2 par2 in omega arith;
        grow = λ j h x. next2 j h;
        calm = λ h. (
          refl,
          record {
            nexts = next2;
            firsts = λ c l z. first2 c l (λ e. z (ap (λ (i : ℕ). get_or w i 0) e ∙ e0));
          },
        );
        under = went w2 par2;
        fine = λ z G H F T fs u same. fuse_state G H F T n k s fs w (omega arith) hw u a b fu t s [] w2 same (fuses G H F T fs u);
        clash = λ z. let y : ◌≡◌ {A = ℕ} 0 1 = cc in absurd (omega arith);
      }
        where
          fuses : (G : Pile) (H : Done) (F T : List ℕ) (fs : List (ℕ × ℕ)) (u : State G H F T n k s fs w) →
              Fuses G H F T n k s fs w (omega arith) hw u a b fu t s [] w2
          fuses G H F T fs u = record {
            len = p2.later.len ∙ p.later.len;
            logged = p2.later.logged;
            par = par2;
            sum = ap size_of (word2 a ha) ∙ p.sum;
            sizes = λ c h x y. word2 c h ∙ size1 c h x y;
            k_up =
                let e = p.next in let e' = p2.next in
                let m = no_more_chained G H F T n k s fs w (omega arith) hw u a b fu in omega arith;
            s_up = omega arith;
            first = λ c h x. first2 c (omega arith) x;
            nexts = λ q h x. next2 q h;
            grow = λ j h x. next2 j h;
            chain = λ l. rw (nil, append-nil, at2)
                (chain_same w w2 (get_or w b 0) (get_or u.C b []) (λ q m. next2 q (below u b q hb m))
                (u.chain b hb mb (omega (arith, at2))));
            alone = λ l. (rw (nil, append-nil) (u.bare b hb mb (omega (arith, at2))).0, inr at2);
            keep_a = λ l. absurd (omega arith);
            keep_b = λ l. at2;
            owes = λ f q i x y. absurd (subst (λ (l : List ℕ). First F f l i) nil y);
            news = λ x y m. absurd (Memᴰ.not-nil m);
          }
            where
              ma : get_or u.M a 0 ≡ a
              ma = Ma G H F T n k s fs w (omega arith) hw u a b fu

              mb : get_or u.M b 0 ≡ b
              mb = Mb G H F T n k s fs w (omega arith) hw u a b fu

              nil : get_or u.C a [] ≡ []
              nil = chain_zero w (get_or w a 0) (get_or u.C a []) e0 (u.chain a (omega arith) ma (omega arith))

    -- ---- both have chains: that of b goes before that of a
    module _ (x y z r2 r3 : ℕ) (w2 w3 w4 : List ℕ) (ex : x ≡ get_or w b 0) (ey : y ≡ get_or w a 0) (lx : (0 < x) × ChainCode x)
        (ly : (0 < y) × ChainCode y) (la : Last w x z)
        (p2 : Stores r w1 (NEXT + z) y r2 w2) (p3 : Stores r2 w2 a x r3 w3) (e4 : w4 ≡ set w3 (STACK + s) (x + 4096 * y)) where
      r1_is : r ≡ k + 2
      r1_is = p.next

      r2_is : r2 ≡ k + 3
      r2_is = let a = p.next in let b = p2.next in omega arith

      r3_is : r3 ≡ k + 4
      r3_is = let a = r2_is in let b = p3.next in omega arith

      len3 : length w3 ≡ length w
      len3 = p3.later.len ∙ p2.later.len ∙ p.later.len

      len4 : length w4 ≡ length w
      len4 = rw e4 (simp length-set len3)

      off_4 : (j : ℕ) → (j ≡ STACK + s → ⊥) → get_or w4 j 0 ≡ get_or w3 j 0
      off_4 j h = rw e4 (get_or-set_other w3 (STACK + s) j (x + 4096 * y) 0 h)

      off3 : (j : ℕ) → (j ≡ NEXT + z → ⊥) → (j ≡ a → ⊥) → (j < LOG) ⊎ (STACK ≤ j) → get_or w3 j 0 ≡ get_or w1 j 0
      off3 j b2 b3 c =
          let h = room in let i = r1_is in let i' = r2_is in
          put_off r2 w2 a x r3 w3 p3 (omega arith) j b3 c ∙ put_off r w1 (NEXT + z) y r2 w2 p2 (omega arith) j b2 c

      off4 : (j : ℕ) → (j ≡ NEXT + z → ⊥) → (j ≡ a → ⊥) → j < LOG → get_or w4 j 0 ≡ get_or w1 j 0
      off4 j b2 b3 c = off_4 j (λ e. omega arith) ∙ off3 j b2 b3 (inl c)

      word4 : (j : ℕ) → j < n → get_or w4 (PARENT + j) 0 ≡ get_or w1 (PARENT + j) 0
      word4 j h = off4 (PARENT + j) (λ e. omega arith) (λ e. omega arith) (omega arith)

      par4 : parents n w4 ≡ set (parents n w) b a
      par4 = parents_ext n w4 w1 (omega (arith, len4)) (len4 ∙ sym p.later.len) word4 ∙ p.par

      first4 : (c : ℕ) → c < 1024 → (c ≡ a → ⊥) → get_or w4 c 0 ≡ get_or w c 0
      first4 c h d = off4 c (λ e. omega arith) d (omega arith) ∙ first1 c h

      next4 : (j : ℕ) → j < 2048 → (j ≡ z → ⊥) → get_or w4 (NEXT + j) 0 ≡ get_or w (NEXT + j) 0
      next4 j h d = off4 (NEXT + j) (λ e. d (omega arith)) (λ e. omega arith) (omega arith) ∙ next1 j h

      at_z : get_or w4 (NEXT + z) 0 ≡ y
      at_z =
          let h = room in let i = r1_is in let i' = r2_is in let lz = la.below in
          off_4 (NEXT + z) (λ e. omega arith) ∙ put_off r2 w2 a x r3 w3 p3 (omega arith) (NEXT + z) (λ e. omega arith) (inl (omega arith))
          ∙ put_at r w1 (NEXT + z) y r2 w2 p2 (omega arith) (omega (arith, p.later.len))

      at_a : get_or w4 a 0 ≡ x
      at_a = off_4 a (λ e. omega arith) ∙ put_at r2 w2 a x r3 w3 p3 (omega arith) (omega (arith, p2.later.len, p.later.len))

      grow4 : Grow w w4
      grow4 j h d = next4 j h (λ e. d (ap (λ (i : ℕ). get_or w (NEXT + i) 0) e ∙ la.end))

      later4 : Later k w r3 w4
      later4 =
          let h = room in let i = r3_is in let t = high in
          later_scratch k w r3 w3 w4 (later_trans k w r w1 r3 w3 p.later (later_trans r w1 r2 w2 r3 w3 p2.later p3.later)) (len4
          ∙ sym len3) (λ j l. off_4 j (λ e. ⊎_elim (λ z. omega arith) (λ z. omega arith) l))

      stack4 : frames w4 (s + 1) ≡ (x, y) ∷ frames w s
      unfolding frames
      stack4 =
          let h = high in
          let l3 = len3 in
          let c1 : get_or w4 (STACK + s) 0 ≡ x + 4096 * y = rw e4 (get_or-set_same w3 (STACK + s) (x + 4096 * y) 0 (omega arith)) in
          let d1 : get_or w4 (STACK + s) 0 % 4096 ≡ x = omega arith in
          let d2 : get_or w4 (STACK + s) 0 / 4096 ≡ y = omega arith in
          let c3 : frames w4 s ≡ frames w s =
          frames_same w1 w4 s (λ j b1 b2. off_4 j (λ e. omega arith)
          ∙ off3 j (λ e. let lz = la.below in omega arith) (λ e. omega arith) (inr b1)) ∙ stack1 in
          rw (add-one s, d1, d2, c3) refl

      pub knitted : Merged n k s w a b r3 (s + 1) false w4
      knitted = record {
        later = later4;
        new = (x, y) ∷ [];
        stack = stack4;
        count = let t = less w4 par4 in omega arith;
        grow = grow4;
        calm = λ h. let i = r3_is in absurd (omega arith);
        under = went w4 par4;
        fine = λ q G H F T fs u same. fuse_state G H F T n k s fs w (omega arith) hw u a b fu r3 (s + 1) ((x, y) ∷ []) w4 same
            (fuses G H F T fs u);
        clash = λ q. let y : ◌≡◌ {A = ℕ} 0 1 = cc in absurd (omega arith);
      }
        where
          fuses : (G : Pile) (H : Done) (F T : List ℕ) (fs : List (ℕ × ℕ)) (u : State G H F T n k s fs w) →
              Fuses G H F T n k s fs w (omega arith) hw u a b fu r3 (s + 1) ((x, y) ∷ []) w4
          fuses G H F T fs u = record {
            len = len4;
            logged = later4.logged;
            par = par4;
            sum = ap size_of (word4 a ha) ∙ p.sum;
            sizes = λ c h i j. word4 c h ∙ size1 c h i j;
            k_up =
                let e = r3_is in
                let f = fused_chained G H F T n k s fs w (omega arith) hw u a b fu in
                let m = one_most (get_or u.C b [] ++ get_or u.C a []) in
                let ma = one_some (get_or u.C a []) hd.0 hd.1.1 in
                let mb = one_some (get_or u.C b []) z z_on in
                omega arith;
            s_up = omega arith;
            first = λ c h d. first4 c (omega arith) d;
            nexts = λ q h d. next4 q h (λ e. d (subst (λ (i : ℕ). Memᴰ i (get_or u.C b [])) (sym e) z_on));
            grow = grow4;
            chain = λ l. rw at_a whole;
            alone = λ l. absurd (omega (arith, at_a));
            keep_a = λ l. absurd (omega arith);
            keep_b = λ l. absurd (omega arith);
            owes = λ f q i m1 m2.
                let e : get_or F q 0 ≡ f = first_feature F f (get_or u.C b []) q m1 in
                let wy = first_way w4 F (get_or F q 0) y (get_or u.C a []) i tail
                (subst (λ (v : ℕ). First F v (get_or u.C a []) i) (sym e) m2) in
                Near.owe i (get_or u.C b []) wy.0 (Memᴰ.head refl) seg (first_mem F f (get_or u.C b []) q m1) wy.1;
            news = λ i j m. subst (λ (v : ℕ × ℕ). Framed n (relabelled b a u.M) (fused u.C a b) w4 v.0 v.1)
                (sym (Memᴰ.eq_of_singleton m)) framed;
          }
            where
              ma : get_or u.M a 0 ≡ a
              ma = Ma G H F T n k s fs w (omega arith) hw u a b fu

              mb : get_or u.M b 0 ≡ b
              mb = Mb G H F T n k s fs w (omega arith) hw u a b fu

              chain_b : Chain w x (get_or u.C b [])
              chain_b = rw ex (u.chain b hb mb (omega arith))

              chain_a : Chain w y (get_or u.C a [])
              chain_a = rw ey (u.chain a (omega arith) ma (omega arith))

              z_on : Memᴰ z (get_or u.C b [])
              z_on = la.on (get_or u.C b []) chain_b

              away : (c q : ℕ) → c < n → (c ≡ b → ⊥) → Memᴰ q (get_or u.C c []) → q ≡ z → ⊥
              away c q h d m e = d (sym (u.home c q h m).1 ∙ ap (λ (i : ℕ). get_or u.M (G.S i) 0) e ∙ (u.home b z hb z_on).1)

              tail : Chain w4 y (get_or u.C a [])
              tail = chain_same w w4 y (get_or u.C a [])
                  (λ q m. next4 q (below u a q (omega arith) m) (away a q (omega arith) fu.other m)) chain_a

              head_of : (l : List ℕ) → Chain w y l → (e : ℕ) × ((y ≡ suc e) × Memᴰ e l)
              head_of [] c = absurd (omega arith)
              head_of (j ∷ l) c = (j, (c.0, Memᴰ.head refl))

              hd : (e : ℕ) × ((y ≡ suc e) × Memᴰ e (get_or u.C a []))
              hd = head_of (get_or u.C a []) chain_a

              apart : (q : ℕ) → Memᴰ q (get_or u.C b []) → suc q ≡ y → ⊥
              apart q m e =
                  let d : q ≡ hd.0 = let f = hd.1.0 in omega arith in
                  let f : b ≡ a = sym (u.home b q hb m).1 ∙ ap (λ (i : ℕ). get_or u.M (G.S i) 0) d
                  ∙ (u.home a hd.0 (omega arith) hd.1.1).1 in
                  fu.other (sym f)

              seg : Seg w4 y x (get_or u.C b [])
              seg = seg_link w w4 z y x (get_or u.C b []) chain_b z_on la.end at_z next4 apart

              whole : Chain w4 x (get_or u.C b [] ++ get_or u.C a [])
              whole = seg_chain w4 y x (get_or u.C b []) (get_or u.C a []) seg tail

              na : get_or (relabelled b a u.M) a 0 ≡ a
              na = Na G H F T n k s fs w (omega arith) hw u a b fu

              ca : get_or (fused u.C a b) (get_or (relabelled b a u.M) a 0) [] ≡ get_or u.C b [] ++ get_or u.C a []
              ca = ap (λ (i : ℕ). get_or (fused u.C a b) i []) na ∙ Ca G H F T n k s fs w (omega arith) hw u a b fu

              framed : Framed n (relabelled b a u.M) (fused u.C a b) w4 x y
              framed = record {
                zs = get_or u.C b [];
                seg = seg;
                short = short G H F T n k s fs w (omega arith) hw u b;
                c = a;
                c_in = omega arith;
                own = λ q m. subst (Memᴰ q) (sym ca) (Memᴰ.append_left (get_or u.C a []) m);
                e = hd.0;
                is = hd.1.0;
                stop = subst (Memᴰ hd.0) (sym ca) (Memᴰ.append_right (get_or u.C b []) hd.1.1);
              }

  -- ---- a clash
  clashed : (get_or w b 0 ≡ 0 → ⊥) → (get_or w a 0 ≡ 0 → ⊥) → (get_or w b 0 ≡ get_or w a 0 → ⊥) →
      AtomCode (get_or w b 0) ⊎ AtomCode (get_or w a 0) → Merged n k s w a b k s true w
  clashed nb na ne big = record {
    later = later_refl k w g.state.logged;
    new = [];
    stack = refl;
    count = omega arith;
    grow = λ j h x. refl;
    calm = λ h. (refl, calm_refl w);
    under = under_same n k s w g;
    fine = λ z. let y : ◌≡◌ {A = ℕ} 0 1 = cc in absurd (omega arith);
    clash = λ z G H F T fs u same. told G H F T fs u same (dec_lt last_arc (get_or w b 0)) (dec_lt last_arc (get_or w a 0));
  }
    where
      told : (G : Pile) (H : Done) (F T : List ℕ) (fs : List (ℕ × ℕ)) (u : State G H F T n k s fs w) → Equal G F T a b →
          Dec (AtomCode (get_or w b 0)) → Dec (AtomCode (get_or w a 0)) → ClashIn G F T
      told G H F T fs u same db da = go db da
        where
          ma : get_or u.M a 0 ≡ a
          ma = Ma G H F T n k s fs w (omega arith) hw u a b fu

          mb : get_or u.M b 0 ≡ b
          mb = Mb G H F T n k s fs w (omega arith) hw u a b fu

          node : (c : ℕ) → c < n → get_or u.M c 0 ≡ c → (r : Bears G n u.M c (get_or w c 0)) → Equal G F T r.i c
          node c h e r = u.sound r.i c r.small h (r.class ∙ sym e)

          head_of : (c : ℕ) → c < n → (get_or w c 0 ≡ 0 → ⊥) → (l : List ℕ) → Chain w (get_or w c 0) l → (e : ℕ) × Memᴰ e l
          head_of c h d [] e = absurd (d e)
          head_of c h d (j ∷ l) e = (j, Memᴰ.head refl)

          arc : (c : ℕ) → c < n → get_or u.M c 0 ≡ c → (get_or w c 0 ≡ 0 → ⊥) → (AtomCode (get_or w c 0) → ⊥) →
              (e : ℕ) × (Memᴰ e G.B × Equal G F T c (G.S e))
          arc c h e d l =
              let t = head_of c h d (get_or u.C c []) (u.chain c h e (omega arith)) in
              let m = u.known t.0 (u.home c t.0 h t.1).0 in
              (t.0, (m, u.sound c (G.S t.0) h (u.arcs t.0 m).1.0 (e ∙ sym (u.home c t.0 h t.1).1)))

          go : Dec (AtomCode (get_or w b 0)) → Dec (AtomCode (get_or w a 0)) → ClashIn G F T
          go (yes p) (yes q) =
              let x = (u.bare b hb mb p).1 in
              let y = (u.bare a (omega arith) ma q).1 in
              ClashIn.atoms x.node y.node
              (Equal.on (node b hb mb x) (Equal.on (Equal.back same) (Equal.back (node a (omega arith) ma y)))) (λ e. nb (sym x.is ∙ e))
              (λ e. na (sym y.is ∙ e)) (λ e. ne (sym x.is ∙ e ∙ y.is))
          go (yes p) (no q) =
              let x = (u.bare b hb mb p).1 in
              let y = arc a (omega arith) ma na q in
              ClashIn.mixed x.node (λ e. nb (sym x.is ∙ e)) y.1.0
              (Equal.on (node b hb mb x) (Equal.on (Equal.back same) y.1.1))
          go (no p) (yes q) =
              let x = (u.bare a (omega arith) ma q).1 in
              let y = arc b hb mb nb p in
              ClashIn.mixed x.node (λ e. na (sym x.is ∙ e)) y.1.0 (Equal.on (node a (omega arith) ma x) (Equal.on same y.1.1))
          go (no p) (no q) = absurd (⊎_elim (λ l. p l) (λ l. q l) big)

  -- what comes is not covered, something is there, and not both are arcs
  pub clash_met : (came there : Held) → came ≡ held_by w b → there ≡ held_by w a → (Covered came there → ⊥) → (there ≡ Nothing → ⊥) →
      ((p q : ℕ) → came ≡ Arcs p → there ≡ Arcs q → ⊥) → Merged n k s w a b k s true w
  clash_met Nothing there eb ea new some mixed = absurd (new (inl refl))
  clash_met (Arcs p) Nothing eb ea new some mixed = absurd (some refl)
  clash_met (Arcs p) (Arcs q) eb ea new some mixed = absurd (mixed p q refl refl)
  clash_met (Arcs p) (Atom v) eb ea new some mixed =
      let at_b = told_arcs w b p (sym eb) in let at_a = told_atom w a v (sym ea) in
      clashed (λ e. omega (arith, at_b)) (λ e. omega (arith, at_a)) (λ e. omega (arith, at_b, at_a)) (inr (omega (arith, at_a)))
  clash_met (Atom u) Nothing eb ea new some mixed = absurd (some refl)
  clash_met (Atom u) (Arcs q) eb ea new some mixed =
      let at_b = told_atom w b u (sym eb) in let at_a = told_arcs w a q (sym ea) in
      clashed (λ e. omega (arith, at_b)) (λ e. omega (arith, at_a)) (λ e. omega (arith, at_b, at_a)) (inl (omega (arith, at_b)))
  clash_met (Atom u) (Atom v) eb ea new some mixed =
      let at_b = told_atom w b u (sym eb) in let at_a = told_atom w a v (sym ea) in
      clashed (λ e. omega (arith, at_b)) (λ e. omega (arith, at_a))
      (λ e. new (inr (u, (refl, ap Atom (at_a.0 ∙ sym e ∙ sym at_b.0))))) (inl (omega (arith, at_b)))

  -- ---- a root's chain is short
  pub ready_runs : (c : ℕ) → c < n → get_or (parents n w) c 0 ≡ c → ChainCode (get_or w c 0) → Runs w (get_or w c 0)
  ready_runs c h e l =
      let u = g.state in
      let p = length_parents n w (omega arith) in
      record {
        xs = get_or u.C c [];
        chain = u.chain c h (u.forest.tops c (omega arith) e) l;
        short =
            short g.G g.H g.F g.T n k s g.fs w (omega arith) hw u c;
      }
