-- `tidy` is the greatest stable part, folded; nothing exactly where no part is stable.
-- Assumes nothing.
use mathlib.Core.Path.{◌≡◌, refl, ap, ap₂, sym, ◌∙◌, subst}
use mathlib.Core.Option.{Option, none, some}
use mathlib.Core.List.Memᴰ
use mathlib.Core.List.{[], ◌∷◌, append-nil, List}
use Prim.Native.Nat.{ℕ, zero, suc, ◌+◌, ◌≤◌}
use native.Mathlib.Omega.{arith}
use lib.ListN.{length}
use Rattle.descriptions.specs.Descr.{Desc, Disjs, desc}
use Rattle.descriptions.specs.Modes.{Round, finish, fold, fold_all, glue, round, size, size_all, tidy}
use Rattle.descriptions.proofs.Laws.{Laws, Within}
use Rattle.descriptions.proofs.Mean.{Can, CanAll, Fine, alike_flat, join_canonical}
use Rattle.descriptions.proofs.Fuel.{Less, round_less, tidy_small}
use Rattle.descriptions.proofs.Live.{Agrees, not_none}
use Rattle.modes_by_marks.specs.Certain.{flat, sure}
use Rattle.modes_by_marks.proofs.Entail.{Says, SaysAll, agrees_says, fine_cons, join_both, join_says, says_cons, says_cut, says_here}
use Rattle.modes_by_marks.proofs.Entail.{says_in, says_join, says_none, says_there, says_within, w_cons, w_self, w_tail, w_trans}
use Rattle.modes_by_marks.proofs.Stable.{Hopeless, Part, PartAll, Stable, part_all_can, part_trans, some_size, sure_can, sure_part}
use Rattle.modes_by_marks.proofs.Sane.{agrees_glues, glued_canonical, graph_says, says_graph, shape}
use Rattle.modes_by_marks.proofs.Greatest.{RoundBest, RoundedBest, TidiedBest, cons_nil, rounds_best}
use Rattle.modes_by_marks.specs.Sane.{Sane}
use Rattle.descriptions.specs.Joining.{Joining}
use Rattle.descriptions.specs.Canonical.{All}

module _ {Graph : Type 0} where
  some_same : (a b : Graph) → some a ≡ some b → a ≡ b
  some_same a b e = cc

  -- a part of a description has its graph
  pub with_part : (g : Graph) (ds : Disjs Graph) (P : Desc Graph → Type 0) → ((es : Disjs Graph) → PartAll ds es → P (desc g es)) →
      (f : Desc Graph) → Part (desc g ds) f → P f
  with_part g ds P h (desc k es) p = subst (λ (z : Graph). P (desc z es)) p.0 (h es p.1)

module _ {Graph : Type 0} (J : Joining Graph) where
  glue_agrees : (k : Graph) (l : List Graph) (x : Graph) → glue J k l ≡ some x → Agrees J (k ∷ []) → Agrees J (k ∷ l)
  glue_agrees k [] x e a = a
  glue_agrees k (h ∷ l) x e a = (x, e)

module _ {Graph : Type 0} {J : Joining Graph} (𝓛 : Laws J) where
  open J use {join}
  open 𝓛 use {Canonical}

  -- a join alone is its own join
  join_alone : (gs : List Graph) → Fine 𝓛 gs → (K : Graph) → join gs ≡ some K → join (K ∷ []) ≡ some K
  join_alone gs f K e = alike_flat 𝓛 gs f K e [] tt ∙ ap join (append-nil gs) ∙ e

  -- k for g with what is certain in it
  glue_moves : (g : Graph) → Canonical g → (k : Graph) (ds : List Graph) → All Canonical ds → glue J g ds ≡ some k →
      (new folded : List Graph) → (new ≡ [] → (folded ≡ []) × (ds ≡ [])) → (folded ≡ [] → ds ≡ [] → new ≡ []) →
      join (g ∷ new) ≡ join (k ∷ folded) → glue J g new ≡ glue J k folded
  glue_moves g cg k [] f e [] [] p q j = e
  glue_moves g cg k (d ∷ ds) f e [] [] p q j = absurd (cons_nil d ds (p refl).1)
  glue_moves g cg k ds f e [] (y ∷ folded) p q j = absurd (cons_nil y folded (p refl).0)
  glue_moves g cg k [] f e (x ∷ new) [] p q j = absurd (cons_nil x new (q refl refl))
  glue_moves g cg k (d ∷ ds) f e (x ∷ new) [] p q j = j ∙ join_alone (g ∷ d ∷ ds) (fine_cons 𝓛 g (d ∷ ds) cg f) k e
  glue_moves g cg k ds f e (x ∷ new) (y ∷ folded) p q j = j

  module _ (C : Graph) (cC : Canonical C) (g : Graph) (ds : Disjs Graph) (c : Can 𝓛 (desc g ds)) (k : Graph)
      (ek : glue J g (sure ds) ≡ some k) where
    abbrev d : Desc Graph
    d = desc g ds

    abbrev stack : Disjs Graph → List Graph
    stack es = C ∷ g ∷ sure es

    fine_stack : (es : Disjs Graph) → PartAll ds es → Fine 𝓛 (stack es)
    fine_stack es p = fine_cons 𝓛 C (g ∷ sure es) cC (c.0, sure_can 𝓛 es (part_all_can 𝓛 ds es p c.1))

    ck : Canonical k
    ck = glued_canonical 𝓛 d c k ek

    fCk : Fine 𝓛 (C ∷ k ∷ [])
    fCk = fine_cons 𝓛 C (k ∷ []) cC (ck, tt)

    -- what is certain in d is so in each stable part
    stack_k : (es : Disjs Graph) → PartAll ds es → Stable J (C ∷ []) (desc g es) → Says 𝓛 (stack es) k
    stack_k es p s =
        let f = fine_stack es p in
        says_graph 𝓛 d (stack es) c f k ek
        (says_within 𝓛 (stack es) (flat d) f
        (w_cons g (sure ds) (stack es) (Memᴰ.tail (Memᴰ.head refl))
        (w_tail C (sure ds) (g ∷ sure es) (w_tail g (sure ds) (sure es) (sure_part J ds es (stack es) p s.1)))))

    stack_Ck : (es : Disjs Graph) → PartAll ds es → Stable J (C ∷ []) (desc g es) → SaysAll 𝓛 (stack es) (C ∷ k ∷ [])
    stack_Ck es p s = says_cons 𝓛 (stack es) C (k ∷ []) (says_in 𝓛 (stack es) C (fine_stack es p) cC (Memᴰ.head refl))
        (says_cons 𝓛 (stack es) k [] (stack_k es p s) (says_none 𝓛 (stack es)))

    stack_sure : (es : Disjs Graph) → Within (sure es) (stack es)
    stack_sure es = w_tail C (sure es) (g ∷ sure es) (w_tail g (sure es) (sure es) (w_self (sure es)))

    module _ (K : Graph) (eK : join (C ∷ k ∷ []) ≡ some K) where
      cK : Canonical K
      cK = join_canonical 𝓛 (C ∷ k ∷ []) fCk K eK

      fK : Fine 𝓛 (K ∷ [])
      fK = fine_cons 𝓛 K [] cK tt

      stack_K : (es : Disjs Graph) → PartAll ds es → Stable J (C ∷ []) (desc g es) → Says 𝓛 (stack es) K
      stack_K es p s = says_cut 𝓛 (stack es) (C ∷ k ∷ []) K (fine_stack es p) fCk cK (stack_Ck es p s) (says_join 𝓛 (C ∷ k ∷ []) fCk K eK)

      module _ (r : Round Graph) (R : RoundBest 𝓛 K ds r) where
        abbrev e₁ : Desc Graph
        e₁ = desc g R.new

        cn : CanAll 𝓛 R.new
        cn = part_all_can 𝓛 ds R.new R.part c.1

        fn : Fine 𝓛 (g ∷ sure R.new)
        fn = fine_cons 𝓛 g (sure R.new) c.0 (sure_can 𝓛 R.new cn)

        below : (es : Disjs Graph) → PartAll ds es → Stable J (C ∷ []) (desc g es) → PartAll R.new es
        below es p s = R.greatest es p (stack es) (fine_stack es p) (stack_K es p s) s.0 (stack_sure es) s.1

        below_all : (f : Desc Graph) → Part d f → Stable J (C ∷ []) f → Part e₁ f
        below_all = with_part g ds (λ f. Stable J (C ∷ []) f → Part e₁ f) (λ es p s. (refl, below es p s))

        -- the new description, folded: its graph joins the old one and what was folded
        new_shape : (x : Graph) → glue J k r.folded ≡ some x → Sane J e₁ × (fold J e₁ ≡ desc x r.left)
        new_shape x ex =
            let b : List Graph = k ∷ r.folded in
            let n : List Graph = g ∷ sure R.new in
            let fb : Fine 𝓛 b = fine_cons 𝓛 k r.folded ck R.canon in
            let bd : SaysAll 𝓛 b (flat d) = graph_says 𝓛 d b c fb k ek (says_in 𝓛 b k fb ck (Memᴰ.head refl)) in
            let bn : SaysAll 𝓛 b (sure R.new) =
            R.to b fb (says_there 𝓛 b g (sure ds) bd) (says_within 𝓛 b r.folded fb (λ y m. Memᴰ.tail m)) in
            let bgn : SaysAll 𝓛 b n = says_cons 𝓛 b g (sure R.new) (says_here 𝓛 b g (sure ds) bd) bn in
            let ab : Agrees J b = glue_agrees J k r.folded x ex
            (agrees_says 𝓛 (C ∷ k ∷ []) (k ∷ []) fCk (fine_cons 𝓛 k [] ck tt)
            (says_within 𝓛 (C ∷ k ∷ []) (k ∷ []) fCk (λ y m. Memᴰ.tail m)) (K, eK)) in
            let gd = R.good b fb ab bn in
            let sn : Sane J e₁ = (agrees_glues J g (sure R.new) (agrees_says 𝓛 b n fb fn bgn ab), gd.0) in
            let nf = R.from n fn (says_within 𝓛 n (sure R.new) fn
            (w_tail g (sure R.new) (sure R.new) (w_self (sure R.new)))) in
            let ng : Says 𝓛 n g = says_in 𝓛 n g fn c.0 (Memᴰ.head refl) in
            let nb : SaysAll 𝓛 n b = says_cons 𝓛 n k r.folded (says_graph 𝓛 d n c fn k ek (says_cons 𝓛 n g (sure ds) ng nf.1))
            nf.0 in
            let (k', e', q') = shape 𝓛 e₁ (c.0, cn) sn in
            let same : k' ≡ x = some_same k' x (sym e'
            ∙ glue_moves g c.0 k (sure ds) (sure_can 𝓛 ds c.1) ek (sure R.new) r.folded R.fresh R.stale
            (join_both 𝓛 n b fn fb nb bgn) ∙ ex) in
            (sn, q' ∙ ap₂ {C = Desc Graph} desc same (sym gd.1))

        -- nothing folded
        last_round : r.folded ≡ [] → TidiedBest J (C ∷ []) d (some (desc k r.left))
        last_round z =
            let w = new_shape k (ap (glue J k) z) in
            let kc : SaysAll 𝓛 (K ∷ []) (C ∷ k ∷ []) = join_says 𝓛 (C ∷ k ∷ []) fCk K eK in
            let kd : SaysAll 𝓛 (K ∷ []) (flat d) = graph_says 𝓛 d (K ∷ []) c fK k ek (kc k (Memᴰ.tail (Memᴰ.head refl))) in
            let kn : SaysAll 𝓛 (K ∷ []) (sure R.new) =
            R.to (K ∷ []) fK (says_there 𝓛 (K ∷ []) g (sure ds) kd) (subst (SaysAll 𝓛 (K ∷ [])) (sym z) (says_none 𝓛 (K ∷ []))) in
            let ks : SaysAll 𝓛 (K ∷ []) (stack R.new) =
            says_cons 𝓛 (K ∷ []) C (g ∷ sure R.new) (says_here 𝓛 (K ∷ []) C (k ∷ []) kc)
            (says_cons 𝓛 (K ∷ []) g (sure R.new) (says_here 𝓛 (K ∷ []) g (sure ds) kd) kn) in
            let fs = fine_stack R.new R.part in (
              e₁,
              record {
                part = (refl, R.part);
                stable = (
                  agrees_says 𝓛 (K ∷ []) (stack R.new) fK fs ks (K, join_alone (C ∷ k ∷ []) fCk K eK),
                  R.settled z (stack R.new) fs ks,
                );
                greatest = below_all;
              },
              sym w.1,
            )

        -- folding clashes
        fold_clash : join (k ∷ r.folded) ≡ none → Hopeless J (C ∷ []) d
        fold_clash z = with_part g ds (λ f. Stable J (C ∷ []) f → ⊥) (λ es p s.
            let f = fine_stack es p in
            let q = below es p s in
            let sn : SaysAll 𝓛 (stack es) (sure R.new) =
            says_within 𝓛 (stack es) (sure R.new) f
            (w_trans (sure R.new) (sure es) (stack es) (sure_part J R.new es (stack es) q s.1) (stack_sure es)) in
            let sk : SaysAll 𝓛 (stack es) (k ∷ r.folded) =
            says_cons 𝓛 (stack es) k r.folded (stack_k es p s) (R.from (stack es) f sn).0 in
            not_none J (k ∷ r.folded) (agrees_says 𝓛 (stack es) (k ∷ r.folded) f (fine_cons 𝓛 k r.folded ck R.canon) sk s.0) z)

        -- from the new description to the old one
        carry : (o : Option (Desc Graph)) → TidiedBest J (C ∷ []) e₁ o → TidiedBest J (C ∷ []) d o
        carry none h = λ f p s. h f (below_all f p s) s
        carry (some t) h = (
          h.0,
          record {
            part = part_trans d e₁ h.0 (refl, R.part) h.1.part;
            stable = h.1.stable;
            greatest = λ f p s. h.1.greatest f (below_all f p s) s;
          },
          h.2,
        )

        module _ (n : ℕ) (ih : (d : Desc Graph) → Can 𝓛 d → Sane J d → size (fold J d) ≤ n →
            TidiedBest J (C ∷ []) d (tidy J n C (fold J d))) where
          finish_best : (l : List Graph) → r.folded ≡ l → size_all r.left + length l ≤ n →
              TidiedBest J (C ∷ []) d (finish J (tidy J n C) k r.left l)
          unfolding finish size
          finish_best [] z s = last_round z
          finish_best (x ∷ xs) z s = go (join (k ∷ x ∷ xs)) refl
            where
              go : (o : Option Graph) → join (k ∷ x ∷ xs) ≡ o →
                  TidiedBest J (C ∷ []) d (elim o [ none ↦ none | some y ↦ tidy J n C (desc y r.left) ])
              go none e = fold_clash (ap (λ (l : List Graph). join (k ∷ l)) z ∙ e)
              go (some y) e =
                  let w = new_shape y (ap (glue J k) z ∙ e) in
                  let b : size (fold J e₁) ≤ n = subst (λ (v : Desc Graph). size v ≤ n) (sym w.1) (omega arith) in
                  carry (tidy J n C (desc y r.left))
                  (subst (λ (v : Desc Graph). TidiedBest J (C ∷ []) e₁ (tidy J n C v)) w.1 (ih e₁ (c.0, cn) w.0 b))

  pub tidy_best : (n : ℕ) (C : Graph) → Canonical C → (d : Desc Graph) → Can 𝓛 d → Sane J d → size (fold J d) ≤ n →
      TidiedBest J (C ∷ []) d (tidy J n C (fold J d))
  unfolding tidy size
  tidy_best zero C cC d c s l = absurd (omega (arith, some_size (fold J d)))
  tidy_best (suc n) C cC (desc g ds) c s l =
      let (k, e, q) = shape 𝓛 (desc g ds) c s in
      subst (λ (z : Desc Graph). TidiedBest J (C ∷ []) (desc g ds) (tidy J (suc n) C z)) (sym q)
      (go k e (subst (λ (z : Desc Graph). size z ≤ suc n) q l) (λ K cK. tidy_best n K cK))
    where
      L : Disjs Graph
      L = (fold_all J ds).left

      go : (k : Graph) → glue J g (sure ds) ≡ some k → suc (size_all L) ≤ suc n →
          ((K : Graph) → Canonical K → (d : Desc Graph) → Can 𝓛 d → Sane J d → size (fold J d) ≤ n →
          TidiedBest J (K ∷ []) d (tidy J n K (fold J d))) →
          TidiedBest J (C ∷ []) (desc g ds) (tidy J (suc n) C (desc k L))
      go k ek b ih = one (join (C ∷ k ∷ [])) refl
        where
          one : (o : Option Graph) → join (C ∷ k ∷ []) ≡ o →
              TidiedBest J (C ∷ []) (desc g ds)
              (elim o [
                | none ↦ none
                | some K ↦ elim (round J (tidy J n K) L) [
                  | none ↦ none
                  | some r ↦ finish J (tidy J n C) k r.left r.folded
                ]
              ])
          one none z = with_part g ds (λ f. Stable J (C ∷ []) f → ⊥) (λ es p st.
              not_none J (C ∷ k ∷ []) (agrees_says 𝓛 (C ∷ g ∷ sure es) (C ∷ k ∷ []) (fine_stack C cC g ds c k ek es p)
              (fCk C cC g ds c k ek) (stack_Ck C cC g ds c k ek es p st) st.0) z)
          one (some K) z = two (round J (tidy J n K) L) (rounds_best 𝓛 K kK n (tidy J n K) (ih K kK) ds c.1 s.1 (omega arith))
              (round_less J (tidy J n K) (tidy_small J n K) L)
            where
              kK : Canonical K
              kK = cK C cC g ds c k ek K z

              two : (o : Option (Round Graph)) → RoundedBest 𝓛 K ds o → Less (size_all L) o →
                  TidiedBest J (C ∷ []) (desc g ds) (elim o [ none ↦ none | some r ↦ finish J (tidy J n C) k r.left r.folded ])
              two none h m = with_part g ds (λ f. Stable J (C ∷ []) f → ⊥) (λ es p st.
                  h es p (C ∷ g ∷ sure es) (fine_stack C cC g ds c k ek es p) (stack_K C cC g ds c k ek K z es p st) st.0
                  (stack_sure C cC g ds c k ek es) st.1)
              two (some r) h m = finish_best C cC g ds c k ek K z r h n (ih C cC) r.folded refl (omega arith)
