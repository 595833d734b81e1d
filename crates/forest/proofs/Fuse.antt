-- A merge of two classes keeps the state. Assumes nothing.
use mathlib.Core.Path.{◌≡◌, refl, sym, ap, ◌∙◌, subst}
use mathlib.Core.List.Memᴰ
use mathlib.Core.List.{List, [], ◌++◌, Memᴰ}
use mathlib.Core.Logic.{◌⊎◌, inl, inr, ⊎_elim}
use Prim.Native.Nat.{ℕ, suc, ◌+◌, ◌^◌, ◌≤◌, ◌<◌}
use native.Mathlib.Omega.{arith}
use native.Mathlib.Decide.{ℕ_discrete, dec_lt}
use lib.ListN.{length, set, get_or, length-set, length-append}
use lib.Seq.{get_or-set_same, get_or-set_other}
use Rattle.area.specs.Map.{PARENT, NEXT, SIZE}
use Rattle.forest.specs.Labels.{Eq, Together, how_many, Yields}
use Rattle.forest.proofs.Relabel.{relab, relabelled}
use Rattle.area.specs.Log.{Logged}
use Rattle.forest.specs.Forest.{size_of, parents, Shape, Forest, SmallerUnder, tops}
use Rattle.forest.specs.Roots.{Fusing}
use Rattle.forest.specs.Held.{last_arc, ChainCode, AtomCode}
use Rattle.forest.specs.State.{Pile, Done, Equal, Chain, First, None, Near, Framed, Bears, State, Grow, total_length, chained}
use Rattle.forest.specs.State.{one_of, withPair, SomeState}
use Rattle.forest.proofs.Kernel.{relab_hit, relab_miss, relab_case}
use Rattle.forest.proofs.Wood.{label_root, label_top, label, length_relabelled, raised_at, raised_off, link_shape}
use Rattle.forest.proofs.Wood.{link_forest, shape_on, one_labelling, tops_link}
use Rattle.forest.proofs.Parents.{length_parents}
use Rattle.forest.proofs.Sizes.{many_two, many_joined, many_other, rank_joined, rank_low}
use Rattle.forest.proofs.Links.{chain_same, seg_grow, way_grow, first_left, first_right, first_case, total_set, total_one}
use Rattle.forest.proofs.Links.{chained_set, one_append}

-- ---- where nothing is stored, no class goes under another
pub under_same : (n k s : ℕ) (w : List ℕ) → SomeState n k s w → SmallerUnder (parents n w) (parents n w)
under_same n k s w g L L' f f' i h d =
    absurd (d (ap (λ (l : List ℕ). get_or l i 0) (one_labelling (parents n w) g.state.shape L' L f' f)))

abbrev pub fused : List (List ℕ) → ℕ → ℕ → List (List ℕ)
fused C a b = set (set C b []) a (get_or C b [] ++ get_or C a [])

module _ (G : Pile) (H : Done) (F T : List ℕ) (n k s : ℕ) (fs : List (ℕ × ℕ)) (w : List ℕ) (hn : n ≤ 1024) (hw : SIZE ≤ length w)
    (u : State G H F T n k s fs w) where
  -- what a state says of a node
  pub length_P : length (parents n w) ≡ n
  length_P = length_parents n w (omega arith)

  pub low : (i : ℕ) → i < n → get_or u.M i 0 < n
  low i h = let l = length_P in omega (arith, (label_root (parents n w) u.shape u.M u.forest i (omega arith)).0)

  pub top : (i : ℕ) → i < n → get_or u.M (get_or u.M i 0) 0 ≡ get_or u.M i 0
  top i h = let l = length_P in label_top (parents n w) u.shape u.M u.forest i (omega arith)

  -- a class with an arc has a chain
  pub chain_of : (c q : ℕ) → c < n → get_or u.M c 0 ≡ c → Memᴰ q (get_or u.C c []) → Chain w (get_or w c 0) (get_or u.C c [])
  chain_of c q h e m = go (dec_lt last_arc (get_or w c 0))
    where
      go : Dec (AtomCode (get_or w c 0)) → Chain w (get_or w c 0) (get_or u.C c [])
      go (yes y) = absurd (Memᴰ.not-nil (subst (λ (l : List ℕ). Memᴰ q l) (u.bare c h e y).0 m))
      go (no y) = u.chain c h e (omega arith)

  pub short : (c : ℕ) → length (get_or u.C c []) ≤ 2048
  short c = omega (arith, total_one u.C c, u.all, u.few)

  -- the labels are as many as the nodes
  pub length_M : length u.M ≡ n
  length_M = u.forest.len ∙ length_P

  module _ (a b : ℕ) (fu : Fusing n w a b) where
    -- what the stores of a merge of b into a did
    pub record Fuses (k' s' : ℕ) (new : List (ℕ × ℕ)) (w' : List ℕ) : Type 0 where
      pub len : length w' ≡ length w
      pub logged : Logged k' w'
      pub par : parents n w' ≡ set (parents n w) b a
      pub sum : size_of (get_or w' (PARENT + a) 0) ≡ size_of (get_or w (PARENT + a) 0) + size_of (get_or w (PARENT + b) 0)
      pub sizes : (c : ℕ) → c < n → (c ≡ a → ⊥) → (c ≡ b → ⊥) → get_or w' (PARENT + c) 0 ≡ get_or w (PARENT + c) 0
      pub k_up : k' + chained (fused u.C a b) ≤ k + 3 + chained u.C
      pub s_up : s' ≤ s + 1
      pub first : (c : ℕ) → c < n → (c ≡ a → ⊥) → get_or w' c 0 ≡ get_or w c 0
      pub nexts : (q : ℕ) → q < 2048 → (Memᴰ q (get_or u.C b []) → ⊥) → get_or w' (NEXT + q) 0 ≡ get_or w (NEXT + q) 0
      pub grow : Grow w w'
      pub chain : ChainCode (get_or w' a 0) → Chain w' (get_or w' a 0) (get_or u.C b [] ++ get_or u.C a [])
      pub alone : AtomCode (get_or w' a 0) →
          (get_or u.C b [] ++ get_or u.C a [] ≡ []) × ((get_or w' a 0 ≡ get_or w a 0) ⊎ (get_or w' a 0 ≡ get_or w b 0))
      pub keep_a : AtomCode (get_or w a 0) → get_or w' a 0 ≡ get_or w a 0
      pub keep_b : AtomCode (get_or w b 0) → get_or w' a 0 ≡ get_or w b 0
      pub owes : (f q i : ℕ) → First F f (get_or u.C b []) q → First F f (get_or u.C a []) i →
          Near F T (relabelled b a u.M) w' (new ++ fs) (get_or T q 0) (get_or T i 0)
      pub news : (x y : ℕ) → Memᴰ (x, y) new → Framed n (relabelled b a u.M) (fused u.C a b) w' x y

    ha : a < n
    ha = fu.low_a

    hb : b < n
    hb = fu.low_b

    ra : get_or (parents n w) a 0 ≡ a
    ra = fu.top_a

    rb : get_or (parents n w) b 0 ≡ b
    rb = fu.top_b

    abbrev N : List ℕ
    N = relabelled b a u.M

    lab : (i : ℕ) → i < n → get_or N i 0 ≡ relab b a (get_or u.M i 0)
    lab i h = let l = length_M in label b a u.M i (omega arith)

    pub split : (i : ℕ) → i < n → ((get_or u.M i 0 ≡ b) × (get_or N i 0 ≡ a)) ⊎ ((get_or u.M i 0 ≡ b → ⊥) × (get_or N i 0 ≡ get_or u.M i 0))
    split i h = ⊎_elim (λ z. inl (z.0, lab i h ∙ z.1)) (λ z. inr (z.0, lab i h ∙ z.1)) (relab_case b a (get_or u.M i 0))

    pub Ma : get_or u.M a 0 ≡ a
    Ma = let l = length_P in u.forest.tops a (omega arith) ra

    pub Mb : get_or u.M b 0 ≡ b
    Mb = let l = length_P in u.forest.tops b (omega arith) rb

    pub Na : get_or N a 0 ≡ a
    Na = lab a ha ∙ ap (relab b a) Ma ∙ relab_miss b a a fu.other

    Nb : get_or N b 0 ≡ a
    Nb = lab b hb ∙ relab_hit b a (get_or u.M b 0) Mb

    coarse : (i j : ℕ) → i < n → j < n → Eq u.M i j → Eq N i j
    coarse i j hi hj e = lab i hi ∙ ap (relab b a) e ∙ sym (lab j hj)

    together : (i j : ℕ) → Together u.M i j → Together N i j
    together i j t =
        let l = length_M in
        let r = length_relabelled b a u.M in
        ⊎_elim (λ e. (inl e, ap (λ (v : ℕ). get_or N v 0) e))
        (λ o. let x = o.0 in let y = o.1 in (inr (omega arith, omega arith), coarse i j (omega arith) (omega arith) t.1)) t.0

    pub Ca : get_or (fused u.C a b) a [] ≡ get_or u.C b [] ++ get_or u.C a []
    Ca = get_or-set_same (set u.C b []) a (get_or u.C b [] ++ get_or u.C a []) [] (let l = u.wide in simp length-set (omega arith))

    Cb : get_or (fused u.C a b) b [] ≡ []
    Cb = get_or-set_other (set u.C b []) a b (get_or u.C b [] ++ get_or u.C a []) [] (λ e. fu.other (sym e))
        ∙ get_or-set_same u.C b [] [] (let l = u.wide in omega arith)

    Co : (c : ℕ) → (c ≡ a → ⊥) → (c ≡ b → ⊥) → get_or (fused u.C a b) c [] ≡ get_or u.C c []
    Co c x y = get_or-set_other (set u.C b []) a c (get_or u.C b [] ++ get_or u.C a []) [] x ∙ get_or-set_other u.C b c [] [] y

    -- an arc stays on its class's chain
    pub stays : (i q : ℕ) → i < n → Memᴰ q (get_or u.C (get_or u.M i 0) []) → Memᴰ q (get_or (fused u.C a b) (get_or N i 0) [])
    stays i q h m = ⊎_elim
        (λ z. subst (λ (c : ℕ). Memᴰ q (get_or (fused u.C a b) c [])) (sym z.1)
        (subst (Memᴰ q) (sym Ca) (Memᴰ.append_left (get_or u.C a [])
        (subst (λ (c : ℕ). Memᴰ q (get_or u.C c [])) z.0 m))))
        (λ z. go z (ℕ_discrete (get_or u.M i 0) a))
        (split i h)
      where
        go : (get_or u.M i 0 ≡ b → ⊥) × (get_or N i 0 ≡ get_or u.M i 0) → Dec (get_or u.M i 0 ≡ a) →
            Memᴰ q (get_or (fused u.C a b) (get_or N i 0) [])
        go z (yes e) = subst (λ (c : ℕ). Memᴰ q (get_or (fused u.C a b) c [])) (sym (z.1 ∙ e))
            (subst (Memᴰ q) (sym Ca) (Memᴰ.append_right (get_or u.C b []) (subst (λ (c : ℕ). Memᴰ q (get_or u.C c [])) e m)))
        go z (no x) = subst (λ (c : ℕ). Memᴰ q (get_or (fused u.C a b) c [])) (sym z.1)
            (subst (Memᴰ q) (sym (Co (get_or u.M i 0) x z.0)) m)

    fused_total : total_length (fused u.C a b) ≡ total_length u.C
    fused_total =
        let l = u.wide in
        let l1 : length (set u.C b []) ≡ length u.C = length-set u.C b [] in
        let e1 : total_length (set u.C b []) + length (get_or u.C b [])
        ≡ total_length u.C + 0 = total_set u.C b [] (omega arith) in
        let e0 : get_or (set u.C b []) a [] ≡ get_or u.C a [] = get_or-set_other u.C b a [] [] fu.other in
        let e2 : total_length (fused u.C a b) + length (get_or u.C a [])
        ≡ total_length (set u.C b []) + length (get_or u.C b [] ++ get_or u.C a []) =
        rw e0 at (total_set (set u.C b []) a (get_or u.C b [] ++ get_or u.C a []) (omega arith)) in
        let e3 : length (get_or u.C b [] ++ get_or u.C a []) ≡ length (get_or u.C b []) + length (get_or u.C a []) =
        length-append (get_or u.C b []) (get_or u.C a []) in
        omega arith

    -- ---- sizes
    size_a : size_of (get_or w (PARENT + a) 0) ≡ how_many a u.M
    size_a = u.size a ha Ma

    size_b : size_of (get_or w (PARENT + b) 0) ≡ how_many b u.M
    size_b = u.size b hb Mb

    fewer : how_many b u.M ≤ how_many a u.M
    fewer = let x = size_a in let y = size_b in ⊎_elim (λ l. omega arith) (λ l. omega arith) fu.lighter

    both : how_many a N ≡ how_many a u.M + how_many b u.M
    both = many_joined a b fu.other u.M

    -- the rank of b is below ten
    rank_b : u.shape.rank b < 10
    rank_b =
        let t = many_two a b u.M fu.other in
        let l = length_M in
        let f = fewer in
        let p = u.heavy b hb Mb in
        rank_low (suc (u.shape.rank b)) (omega arith)

    link_low : Shape (set (parents n w) b a)
    unfolding link_shape
    link_low = let l = length_P in let x = ha in let y = hb in
        link_shape (parents n w) b a (omega arith) (omega arith) fu.other rb ra u.shape rank_b

    link_labels : (L : List ℕ) → Forest (parents n w) L → Forest (set (parents n w) b a) (relabelled b a L)
    link_labels L f = let l = length_P in let x = ha in let y = hb in
        link_forest (parents n w) b a (omega arith) (omega arith) fu.other rb ra u.shape L f

    -- a node that has another label was in b, and is in a
    pub went_under : (w' : List ℕ) → parents n w' ≡ set (parents n w) b a → SmallerUnder (parents n w) (parents n w')
    went_under w' e L L' f f' i h d =
        ⊎_elim (λ z. yields z.0 (there ∙ z.1)) (λ z. absurd (d (there ∙ z.1))) (relab_case b a (get_or L i 0))
      where
        there : get_or L' i 0 ≡ relab b a (get_or L i 0)
        there =
            let m = f.len in
            let one = one_labelling (set (parents n w) b a) link_low L' (relabelled b a L) (rw e at f') (link_labels L f) in
            ap (λ (l : List ℕ). get_or l i 0) one ∙ label b a L i (omega arith)

        yields : get_or L i 0 ≡ b → get_or L' i 0 ≡ a → Yields (get_or L i 0) (how_many (get_or L i 0) L) (get_or L' i 0) (how_many (get_or L' i 0) L)
        yields p q = rw (p, q, one_labelling (parents n w) u.shape L u.M f u.forest, ← size_b, ← size_a) fu.lighter

    -- a chain that has an arc goes to a, or two become one
    pub fused_chained : chained (fused u.C a b) + (one_of (get_or u.C a []) + one_of (get_or u.C b []))
        ≡ chained u.C + one_of (get_or u.C b [] ++ get_or u.C a [])
    fused_chained =
        let l = u.wide in let x = ha in let y = hb in
        let l1 : length (set u.C b []) ≡ length u.C = length-set u.C b [] in
        let e1 = chained_set u.C b [] (omega arith) in
        let e0 : get_or (set u.C b []) a [] ≡ get_or u.C a [] = get_or-set_other u.C b a [] [] fu.other in
        let e2 = rw e0 at (chained_set (set u.C b []) a (get_or u.C b [] ++ get_or u.C a []) (omega arith)) in
        omega arith

    pub no_more_chained : chained (fused u.C a b) ≤ chained u.C
    no_more_chained = let e = fused_chained in let o = one_append (get_or u.C b []) (get_or u.C a []) in omega arith

    module _ (k' s' : ℕ) (new : List (ℕ × ℕ)) (w' : List ℕ) (same : Equal G F T a b) (z : Fuses k' s' new w') where
      near : {i j : ℕ} → Near F T u.M w fs i j → Near F T N w' (new ++ fs) i j
      near {i} {j} (Near.old e) = Near.old (together i j e)
      near (Near.owe {x} {y} {q} q' zs js m sg mq wy) =
          let fr = u.frame x y m in
          Near.owe q' zs js (Memᴰ.append_right new m) (seg_grow w w' y x zs (λ e. let h = fr.is in omega arith) z.grow sg) mq
          (way_grow w w' F (get_or F q 0) y js q' z.grow wy)
      near (Near.sym r) = Near.sym (near r)
      near (Near.trans r t) = Near.trans (near r) (near t)

      -- the roots of w' but a are roots of w other than b, with their chains
      old_root : (c : ℕ) → c < n → get_or N c 0 ≡ c → (c ≡ a → ⊥) → (c ≡ b → ⊥) × (get_or u.M c 0 ≡ c)
      old_root c h e x = ⊎_elim (λ y. absurd (x (sym e ∙ y.1)))
          (λ y. ((λ d. y.0 (ap (λ (i : ℕ). get_or u.M i 0) d ∙ Mb)), sym y.1 ∙ e)) (split c h)

      -- an arc of another chain than b's keeps what follows it
      kept_next : (c q : ℕ) → c < n → (c ≡ b → ⊥) → Memᴰ q (get_or u.C c []) → get_or w' (NEXT + q) 0 ≡ get_or w (NEXT + q) 0
      kept_next c q h d m =
          let l = (u.arcs q (u.known q (u.home c q h m).0)).0 in
          z.nexts q (omega arith) (λ i. d (sym (u.home c q h m).1 ∙ (u.home b q hb i).1))

      chains : (c : ℕ) → c < n → get_or N c 0 ≡ c → ChainCode (get_or w' c 0) → Chain w' (get_or w' c 0) (get_or (fused u.C a b) c [])
      chains c h e l = go (ℕ_discrete c a)
        where
          go : Dec (c ≡ a) → Chain w' (get_or w' c 0) (get_or (fused u.C a b) c [])
          go (yes q) =
              subst (λ (d : ℕ). Chain w' (get_or w' d 0) (get_or (fused u.C a b) d [])) (sym q)
              (subst (λ (l : List ℕ). Chain w' (get_or w' a 0) l) (sym Ca) (z.chain (subst (λ (d : ℕ). ChainCode (get_or w' d 0)) q l)))
          go (no x) =
              let o = old_root c h e x in
              let f : get_or w' c 0 ≡ get_or w c 0 = z.first c h x in
              subst (λ (l : List ℕ). Chain w' (get_or w' c 0) l) (sym (Co c x o.0))
              (subst (λ (v : ℕ). Chain w' v (get_or u.C c [])) (sym f)
              (chain_same w w' (get_or w c 0) (get_or u.C c []) (λ q m. kept_next c q h o.0 m) (u.chain c h o.1 (omega arith))))

      bears : (c v : ℕ) → Bears G n u.M c v → (d : ℕ) → ((i : ℕ) → i < n → get_or u.M i 0 ≡ c → get_or N i 0 ≡ d) → Bears G n N d v
      bears c v r d f = record { i = r.i; small = r.small; node = r.node; is = r.is; class = f r.i r.small r.class }

      to_a : (c i : ℕ) → i < n → (c ≡ a) ⊎ (c ≡ b) → get_or u.M i 0 ≡ c → get_or N i 0 ≡ a
      to_a c i h (inl q) e = coarse i a h ha (e ∙ q ∙ sym Ma) ∙ Na
      to_a c i h (inr q) e = coarse i b h hb (e ∙ q ∙ sym Mb) ∙ Nb

      bares : (c : ℕ) → c < n → get_or N c 0 ≡ c → AtomCode (get_or w' c 0) → (get_or (fused u.C a b) c [] ≡ []) × Bears G n N c (get_or w' c 0)
      bares c h e l = go (ℕ_discrete c a)
        where
          at_a : AtomCode (get_or w' a 0) → (get_or (fused u.C a b) a [] ≡ []) × Bears G n N a (get_or w' a 0)
          at_a g = (
            Ca ∙ (z.alone g).0,
            ⊎_elim
                (λ q. subst (λ (v : ℕ). Bears G n N a v) (sym q)
                (bears a (get_or w a 0) (u.bare a ha Ma (omega arith)).1 a (λ i h p. to_a a i h (inl refl) p)))
                (λ q. subst (λ (v : ℕ). Bears G n N a v) (sym q)
                (bears b (get_or w b 0) (u.bare b hb Mb (omega arith)).1 a (λ i h p. to_a b i h (inr refl) p)))
                (z.alone g).1,
          )

          go : Dec (c ≡ a) → (get_or (fused u.C a b) c [] ≡ []) × Bears G n N c (get_or w' c 0)
          go (yes q) = subst (λ (d : ℕ). (get_or (fused u.C a b) d [] ≡ []) × Bears G n N d (get_or w' d 0)) (sym q)
              (at_a (subst (λ (d : ℕ). AtomCode (get_or w' d 0)) q l))
          go (no x) =
              let o = old_root c h e x in
              let f : get_or w' c 0 ≡ get_or w c 0 = z.first c h x in
              let r = u.bare c h o.1 (omega arith) in (
                Co c x o.0 ∙ r.0,
                subst (λ (v : ℕ). Bears G n N c v) (sym f)
                    (bears c (get_or w c 0) r.1 c (λ i hi p. coarse i c hi h (p ∙ sym o.1) ∙ e)),
              )

      -- the source of an arc that is done is a node
      source : (q : ℕ) → Memᴰ q H.K → G.S q < n
      source q m = (u.arcs q (u.known q m)).1.0

      homes : (c q : ℕ) → c < n → Memᴰ q (get_or (fused u.C a b) c []) → Memᴰ q H.K × (get_or N (G.S q) 0 ≡ c)
      homes c q h m = go (ℕ_discrete c a) (ℕ_discrete c b)
        where
          go : Dec (c ≡ a) → Dec (c ≡ b) → Memᴰ q H.K × (get_or N (G.S q) 0 ≡ c)
          go (yes e) d = ⊎_elim
              (λ p. let r = u.home b q hb p in (r.0, to_a b (G.S q) (source q r.0) (inr refl) r.1 ∙ sym e))
              (λ p. let r = u.home a q ha p in (r.0, to_a a (G.S q) (source q r.0) (inl refl) r.1 ∙ sym e))
              (Memᴰ.append_cases (get_or u.C b []) (subst (Memᴰ q) (ap (λ (d : ℕ). get_or (fused u.C a b) d []) e ∙ Ca) m))
          go (no x) (yes e) = absurd (Memᴰ.not-nil (subst (Memᴰ q) (ap (λ (d : ℕ). get_or (fused u.C a b) d []) e ∙ Cb) m))
          go (no x) (no y) =
              let r = u.home c q h (subst (Memᴰ q) (Co c x y) m) in
              (r.0, ⊎_elim (λ p. absurd (y (sym r.1 ∙ p.0))) (λ p. p.1 ∙ r.1) (split (G.S q) (source q r.0)))

      abbrev Goal : ℕ → Type 0
      Goal j = (i : ℕ) × (First F (get_or F j 0) (get_or (fused u.C a b) (get_or N (G.S j) 0) []) i
          × Near F T N w' (new ++ fs) (get_or T i 0) (get_or T j 0))

      covers : (j : ℕ) → Memᴰ j H.K →
          (i : ℕ) × (First F (get_or F j 0) (get_or (fused u.C a b) (get_or N (G.S j) 0) []) i
          × Near F T N w' (new ++ fs) (get_or T i 0) (get_or T j 0))
      covers j m = ⊎_elim
          (λ p. (
            o.0,
            (
              put o.0 a p.1
                  (subst (λ (l : List ℕ). First F (get_or F j 0) l o.0) (sym Ca)
                  (first_left F (get_or F j 0) (get_or u.C b []) (get_or u.C a []) o.0 (at b p.0))),
              near o.1.1,
            ),
          ))
          (λ p. other p (ℕ_discrete (get_or u.M (G.S j) 0) a))
          (split (G.S j) (source j m))
        where
          o : (i : ℕ) × (First F (get_or F j 0) (get_or u.C (get_or u.M (G.S j) 0) []) i × Near F T u.M w fs (get_or T i 0) (get_or T j 0))
          o = u.cover j m

          at : (c : ℕ) → get_or u.M (G.S j) 0 ≡ c → First F (get_or F j 0) (get_or u.C c []) o.0
          at c e = subst (λ (d : ℕ). First F (get_or F j 0) (get_or u.C d []) o.0) e o.1.0

          put : (i c : ℕ) → get_or N (G.S j) 0 ≡ c → First F (get_or F j 0) (get_or (fused u.C a b) c []) i →
              First F (get_or F j 0) (get_or (fused u.C a b) (get_or N (G.S j) 0) []) i
          put i c e p = subst (λ (d : ℕ). First F (get_or F j 0) (get_or (fused u.C a b) d []) i) (sym e) p

          in_a : get_or N (G.S j) 0 ≡ a → First F (get_or F j 0) (get_or u.C a []) o.0 →
              ((q : ℕ) × First F (get_or F j 0) (get_or u.C b []) q) ⊎ None F (get_or F j 0) (get_or u.C b []) → Goal j
          in_a e p (inl q) = (
            q.0,
            (
              put q.0 a e (subst (λ (l : List ℕ). First F (get_or F j 0) l q.0) (sym Ca)
                  (first_left F (get_or F j 0) (get_or u.C b []) (get_or u.C a []) q.0 q.1)),
              Near.trans (z.owes (get_or F j 0) q.0 o.0 q.1 p) (near o.1.1),
            ),
          )
          in_a e p (inr q) = (
            o.0,
            (
              put o.0 a e
                  (subst (λ (l : List ℕ). First F (get_or F j 0) l o.0) (sym Ca)
                  (first_right F (get_or F j 0) (get_or u.C b []) (get_or u.C a []) o.0 q p)),
              near o.1.1,
            ),
          )

          other : (get_or u.M (G.S j) 0 ≡ b → ⊥) × (get_or N (G.S j) 0 ≡ get_or u.M (G.S j) 0) → Dec (get_or u.M (G.S j) 0 ≡ a) →
              Goal j
          other p (yes e) = in_a (p.1 ∙ e) (at a e) (first_case F (get_or F j 0) (get_or u.C b []))
          other p (no x) = (
            o.0,
            (
              put o.0 (get_or u.M (G.S j) 0) p.1
                  (subst (λ (l : List ℕ). First F (get_or F j 0) l o.0) (sym (Co (get_or u.M (G.S j) 0) x p.0)) o.1.0),
              near o.1.1,
            ),
          )

      meets : (i : ℕ) → Memᴰ i H.U → (G.A i ≡ 0 → ⊥) → get_or w' (get_or N i 0) 0 ≡ G.A i
      meets i m x = ⊎_elim
          (λ p. ap (λ (c : ℕ). get_or w' c 0) p.1 ∙ z.keep_b (subst (λ (c : ℕ). AtomCode (get_or w c 0)) p.0 big)
          ∙ ap (λ (c : ℕ). get_or w c 0) (sym p.0) ∙ o)
          (λ p. ap (λ (c : ℕ). get_or w' c 0) p.1 ∙ other p (ℕ_discrete (get_or u.M i 0) a))
          (split i (u.nodes i m).0)
        where
          o : get_or w (get_or u.M i 0) 0 ≡ G.A i
          o = u.met i m x

          big : AtomCode (get_or w (get_or u.M i 0) 0)
          big = rw o (u.atoms i (u.nodes i m).1 x)

          other : (get_or u.M i 0 ≡ b → ⊥) × (get_or N i 0 ≡ get_or u.M i 0) → Dec (get_or u.M i 0 ≡ a) →
              get_or w' (get_or u.M i 0) 0 ≡ G.A i
          other p (yes e) = ap (λ (c : ℕ). get_or w' c 0) e ∙ z.keep_a (subst (λ (c : ℕ). AtomCode (get_or w c 0)) e big)
              ∙ ap (λ (c : ℕ). get_or w c 0) (sym e) ∙ o
          other p (no y) = z.first (get_or u.M i 0) (low i (u.nodes i m).0) y ∙ o

      sounds : (i j : ℕ) → i < n → j < n → Eq N i j → Equal G F T i j
      sounds i j hi hj e = ⊎_elim
          (λ p. ⊎_elim (λ q. u.sound i j hi hj (p.0 ∙ sym q.0))
          (λ q. Equal.on (to_b i hi p.0) (Equal.on (Equal.back same) (Equal.back (from_a j hj (sym q.1 ∙ sym e ∙ p.1)))))
          (split j hj))
          (λ p. ⊎_elim (λ q. Equal.on (from_a i hi (sym p.1 ∙ e ∙ q.1)) (Equal.on same (Equal.back (to_b j hj q.0))))
          (λ q. u.sound i j hi hj (sym p.1 ∙ e ∙ q.1)) (split j hj))
          (split i hi)
        where
          to_b : (i : ℕ) → i < n → get_or u.M i 0 ≡ b → Equal G F T i b
          to_b i h p = u.sound i b h hb (p ∙ sym Mb)

          from_a : (i : ℕ) → i < n → get_or u.M i 0 ≡ a → Equal G F T i a
          from_a i h p = u.sound i a h ha (p ∙ sym Ma)

      tops_less : suc (tops 0 (parents n w')) ≡ tops 0 (parents n w)
      tops_less = let l = length_P in
          rw z.par (tops_link 0 (parents n w) b a (omega arith) (omega (arith, rb)) (λ e. fu.other (omega arith)))

      sizes : (c : ℕ) → c < n → get_or N c 0 ≡ c → Dec (c ≡ a) → size_of (get_or w' (PARENT + c) 0) ≡ how_many c N
      sizes c h e (yes q) = let x = size_a in let y = size_b in let t = both in rw q (z.sum ∙ omega arith)
      sizes c h e (no x) = let o = old_root c h e x in
          ap size_of (z.sizes c h x o.0) ∙ u.size c h o.1 ∙ sym (many_other a b fu.other c x o.0 u.M)

      heavies : (c : ℕ) → c < n → get_or N c 0 ≡ c → Dec (c ≡ a) → 2 ^ link_low.rank c ≤ how_many c N
      unfolding link_shape link_low
      heavies c h e (yes q) = rw (q, raised_at b a u.shape.rank, both)
          (rank_joined (u.shape.rank a) (u.shape.rank b) (how_many a u.M) (how_many b u.M) (u.heavy a ha Ma)
          (u.heavy b hb Mb) fewer)
      heavies c h e (no x) = let o = old_root c h e x in
          rw (raised_off b a u.shape.rank c x, many_other a b fu.other c x o.0 u.M) (u.heavy c h o.1)

      pub fuse_state : State G (withPair H a b) F T n k' s' (new ++ fs) w'
      fuse_state =
          let l = length_P in
          let t = tops_less in
          let r1 = u.room in
          let r2 = u.stack in
          let r3 = z.k_up in
          let r4 = z.s_up in
          record {
            logged = z.logged;
            shape = shape_on z.par link_low;
            few = u.few;
            stack = omega arith;
            arcs = u.arcs;
            atoms = u.atoms;
            M = N;
            forest = rw z.par (link_labels u.M u.forest);
            size = λ c h e. sizes c h e (ℕ_discrete c a);
            heavy = λ c h e. heavies c h e (ℕ_discrete c a);
            C = fused u.C a b;
            wide = simp length-set u.wide;
            all = rw fused_total u.all;
            room = omega arith;
            chain = chains;
            bare = bares;
            home = homes;
            known = u.known;
            blank = λ j h m. z.nexts j h (λ i. m (u.home b j hb i).0) ∙ u.blank j h m;
            cover = covers;
            nodes = u.nodes;
            met = meets;
            held = λ x y m. ⊎_elim (λ e. subst (λ (p : ℕ × ℕ). Together N p.0 p.1) (sym e) ab)
                (λ m'. together x y (u.held x y m')) (Memᴰ.cases_cons m);
            sound = sounds;
            frame = λ x y m. ⊎_elim (λ m'. z.news x y m') (λ m'. kept x y (u.frame x y m')) (Memᴰ.append_cases new m);
          }
        where
          ab : Together N a b
          ab = let l = length_M in let r = length_relabelled b a u.M in let x = ha in let y = hb in
              (inr (omega arith, omega arith), Na ∙ sym Nb)

          kept : (x y : ℕ) → Framed n u.M u.C w x y → Framed n N (fused u.C a b) w' x y
          kept x y r = record {
            zs = r.zs;
            seg = seg_grow w w' y x r.zs (λ e. let h = r.is in omega arith) z.grow r.seg;
            short = r.short;
            c = r.c;
            c_in = r.c_in;
            own = λ q m. stays r.c q r.c_in (r.own q m);
            e = r.e;
            is = r.is;
            stop = stays r.c r.e r.c_in r.stop;
          }
