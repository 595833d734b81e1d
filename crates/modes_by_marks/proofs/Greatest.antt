-- A round of `tidy` over a folded description drops what the greatest stable part drops, and folds what becomes certain in it.
-- Assumes nothing.
use mathlib.Core.Path.{◌≡◌, refl, ap, ap₂, sym, ◌∙◌, subst}
use mathlib.Core.Logic.{inl, inr}
use mathlib.Core.Option.{Option, none, some}
use mathlib.Core.List.{[], ◌∷◌, ◌++◌, List}
use Prim.Native.Nat.{ℕ, ◌≤◌}
use native.Mathlib.Omega.{arith}
use Rattle.descriptions.specs.Descr.{Alts, Desc, Disjs, ◌and◌, ◌or◌, ◌then◌, desc, end, fail}
use Rattle.descriptions.specs.Modes.{Round, after, fold, fold_all, fold_any, in_place, kept, round, size, size_all, size_any}
use Rattle.descriptions.proofs.Laws.{Laws, Within}
use Rattle.descriptions.proofs.Mean.{Can, CanAll, CanAny, Fine, canon_append, in_l, in_r}
use Rattle.descriptions.proofs.Fuel.{size_then}
use Rattle.descriptions.proofs.Live.{Agrees}
use Rattle.modes_by_marks.specs.Certain.{flat, sure, sure_any}
use Rattle.modes_by_marks.proofs.Entail.{Says, SaysAll, agrees_says, fine_cons, says_append, says_cons, says_first, says_here}
use Rattle.modes_by_marks.proofs.Entail.{says_none, says_second, says_there, w_tail, w_trans}
use Rattle.modes_by_marks.proofs.Stable.{Best, Hopeless, PartAll, PartAny, StableAll, StableEach, StableSome, part_all_can}
use Rattle.modes_by_marks.proofs.Stable.{part_any_can, stable_each, stable_each_less, sure_can}
use Rattle.modes_by_marks.proofs.Sane.{agrees_glues, flat_some, glued_canonical, graph_says, lone_after}
use Rattle.modes_by_marks.proofs.Sane.{lone_in_place, rest, says_graph, shape, stable_each_sane, stable_sane}
use Rattle.modes_by_marks.specs.Sane.{Sane, SaneAll, SaneAny}
use Rattle.descriptions.specs.Joining.{Joining}
use Rattle.descriptions.specs.Canonical.{All}

module _ {Graph : Type 0} where
  -- rounds one after the other
  abbrev plus : Round Graph → Round Graph → Round Graph
  plus r s = record { folded = r.folded ++ s.folded; left = r.left then s.left }

  abbrev both : Option (Round Graph) → Option (Round Graph) → Option (Round Graph)
  both none o = none
  both (some r) o = elim o [ none ↦ none | some s ↦ some (plus r s) ]

  pub then_assoc : (a b c : Disjs Graph) → a then (b then c) ≡ (a then b) then c
  then_assoc end b c = refl
  then_assoc (x and a) b c = ap (λ (z : Disjs Graph). x and z) (then_assoc a b c)

  both_none : (o : Option (Round Graph)) → none ≡ both o none
  both_none none = refl
  both_none (some r) = refl

  both_start : (o : Option (Round Graph)) → o ≡ both (some (record { folded = []; left = end })) o
  both_start none = refl
  both_start (some s) = refl

  pub drop_part : (d : Desc Graph) (a b : Alts Graph) → PartAny a b → PartAny (d or a) b
  drop_part d a fail p = tt
  drop_part d a (e or b) p = inr p

  pub part_fail : (a : Alts Graph) → PartAny a fail
  part_fail fail = tt
  part_fail (d or a) = tt

  nil_both : (a b : List Graph) → a ++ b ≡ [] → (a ≡ []) × (b ≡ [])
  nil_both [] b e = (refl, e)
  nil_both (x ∷ a) b e = let z : ◌≡◌ {A = ℕ} 0 1 = cc in absurd (omega arith)

  pub cons_nil : (x : Graph) (a : List Graph) → x ∷ a ≡ [] → ⊥
  cons_nil x a e = let z : ◌≡◌ {A = ℕ} 0 1 = cc in omega arith

module _ {Graph : Type 0} (J : Joining Graph) where
  after_plus : (a : Alts Graph) (r s : Round Graph) → after J a (plus r s) ≡ both (after J a r) (some s)
  after_plus fail r s = refl
  after_plus (desc g ds or fail) r s =
      ap (λ (z : Disjs Graph). some (record { folded = g ∷ (r.folded ++ s.folded); left = z })) (then_assoc ds r.left s.left)
  after_plus (d or (e or a)) r s = refl

  round_then : (t : Desc Graph → Option (Desc Graph)) (l m : Disjs Graph) → round J t (l then m) ≡ both (round J t l) (round J t m)
  round_then t end m = both_start (round J t m)
  round_then t (a and l) m = ap (λ (z : Option (Round Graph)). elim z [ none ↦ none | some r ↦ after J (kept t a) r ]) (round_then t l m)
      ∙ go (round J t l) (round J t m)
    where
      go : (x y : Option (Round Graph)) →
          ◌≡◌ {A = Option (Round Graph)} (elim (both x y) [ none ↦ none | some r ↦ after J (kept t a) r ])
          (both {Graph = Graph} (elim x [ none ↦ none | some r ↦ after J (kept t a) r ]) y)
      go none y = refl
      go (some r) none = both_none (after J (kept t a) r)
      go (some r) (some s) = after_plus (kept t a) r s

  -- what tidying comes to
  abbrev pub TidiedBest : List Graph → Desc Graph → Option (Desc Graph) → Type 0
  TidiedBest S d none = Hopeless J S d
  TidiedBest S d (some t) = (e : Desc Graph) × Best J S d e × (t ≡ fold J e)

module _ {Graph : Type 0} {J : Joining Graph} (𝓛 : Laws J) where
  open 𝓛 use {Canonical}

  -- a round over ds, which is already folded, under K
  pub record RoundBest (K : Graph) (ds : Disjs Graph) (r : Round Graph) : Type 0 where
    pub new : Disjs Graph
    pub part : PartAll ds new
    pub canon : All Canonical r.folded
    pub to : (c : List Graph) → Fine 𝓛 c → SaysAll 𝓛 c (sure ds) → SaysAll 𝓛 c r.folded → SaysAll 𝓛 c (sure new)
    pub from : (c : List Graph) → Fine 𝓛 c → SaysAll 𝓛 c (sure new) → SaysAll 𝓛 c r.folded × SaysAll 𝓛 c (sure ds)
    pub good : (c : List Graph) → Fine 𝓛 c → Agrees J c → SaysAll 𝓛 c (sure new) → SaneAll J new × (r.left ≡ (fold_all J new).left)
    -- something is certain in it only where something was before or is folded in now
    pub fresh : sure new ≡ [] → (r.folded ≡ []) × (sure ds ≡ [])
    pub stale : r.folded ≡ [] → sure ds ≡ [] → sure new ≡ []
    pub settled : r.folded ≡ [] → (S : List Graph) → Fine 𝓛 S → SaysAll 𝓛 (K ∷ []) S → StableAll J S new
    pub greatest : (es : Disjs Graph) → PartAll ds es → (S : List Graph) → Fine 𝓛 S → Says 𝓛 S K → Agrees J S → Within (sure es) S →
        StableAll J S es → PartAll new es

  abbrev RoundNone : Graph → Disjs Graph → Type 0
  RoundNone K ds = (es : Disjs Graph) → PartAll ds es → (S : List Graph) → Fine 𝓛 S → Says 𝓛 S K → Agrees J S → Within (sure es) S →
      StableAll J S es → ⊥

  abbrev pub RoundedBest : Graph → Disjs Graph → Option (Round Graph) → Type 0
  RoundedBest K ds none = RoundNone K ds
  RoundedBest K ds (some r) = RoundBest K ds r

  module _ (K : Graph) (cK : Canonical K) (n : ℕ) (t : Desc Graph → Option (Desc Graph)) (H : (d : Desc Graph) → Can 𝓛 d → Sane J d →
      size (fold J d) ≤ n → TidiedBest J (K ∷ []) d (t (fold J d))) where
    pub record KeptBest (a : Alts Graph) : Type 0 where
      pub new : Alts Graph
      pub part : PartAny a new
      pub same : kept t (fold_any J a) ≡ fold_any J new
      pub stable : StableEach J (K ∷ []) new
      pub greatest : (b : Alts Graph) → PartAny a b → StableEach J (K ∷ []) b → PartAny new b

    kept_best : (a : Alts Graph) → CanAny 𝓛 a → SaneAny J a → size_any (fold_any J a) ≤ n → KeptBest a
    unfolding fold size
    kept_best fail c s l = record { new = fail; part = tt; same = refl; stable = tt; greatest = λ b p q. p }
    kept_best (d or a) c s l = go (t (fold J d)) (H d c.0 s.0 (omega arith)) (kept_best a c.1 s.1 (omega arith)) refl
      where
        none_greatest : Hopeless J (K ∷ []) d → (r : KeptBest a) → (b : Alts Graph) → PartAny (d or a) b → StableEach J (K ∷ []) b →
            PartAny r.new b
        none_greatest h r fail p q = part_fail r.new
        none_greatest h r (e or b) (inl p) q = absurd (h e p.0 q.0)
        none_greatest h r (e or b) (inr p) q = r.greatest (e or b) p q

        some_greatest : (e : Desc Graph) → Best J (K ∷ []) d e → (r : KeptBest a) → (b : Alts Graph) → PartAny (d or a) b →
            StableEach J (K ∷ []) b → PartAny (e or r.new) b
        some_greatest e h r fail p q = tt
        some_greatest e h r (f or b) (inl p) q = inl (h.greatest f p.0 q.0, r.greatest b p.1 q.1)
        some_greatest e h r (f or b) (inr p) q = inr (r.greatest (f or b) p q)

        go : (o : Option (Desc Graph)) → TidiedBest J (K ∷ []) d o → KeptBest a → t (fold J d) ≡ o → KeptBest (d or a)
        go none h r e = record {
          new = r.new;
          part = drop_part d a r.new r.part;
          same = ap (λ (o : Option (Desc Graph)). elim o [ none ↦ kept t (fold_any J a) | some x ↦ x or kept t (fold_any J a) ]) e
              ∙ r.same;
          stable = r.stable;
          greatest = none_greatest h r;
        }
        go (some x) h r e = record {
          new = h.0 or r.new;
          part = inl (h.1.part, r.part);
          same = ap (λ (o : Option (Desc Graph)). elim o [ none ↦ kept t (fold_any J a) | some x ↦ x or kept t (fold_any J a) ]) e
              ∙ ap₂ {C = Alts Graph} ◌or◌ h.2 r.same;
          stable = (h.1.stable, r.stable);
          greatest = some_greatest h.0 h.1 r;
        }

    -- no alternative
    round_fail : (ds : Disjs Graph) (o : Option (Round Graph)) →
        RoundedBest K (fail and ds) (elim o [ none ↦ none | some r ↦ after J (kept t fail) r ])
    round_fail ds o = go o
      where
        nothing_left : RoundNone K (fail and ds)
        nothing_left end p S f k a w s = p
        nothing_left (fail and es) p S f k a w s = s.0
        nothing_left ((e or b) and es) p S f k a w s = p.0

        go : (o : Option (Round Graph)) → RoundedBest K (fail and ds) (elim o [ none ↦ none | some r ↦ after J (kept t fail) r ])
        go none = nothing_left
        go (some r) = nothing_left

    -- an alternative that stands alone
    module _ (g : Graph) (ds : Disjs Graph) (cg : Canonical g) (cs : CanAll 𝓛 ds) (es : Disjs Graph) (ce : CanAll 𝓛 es) where
      abbrev here : Disjs Graph
      here = (desc g ds or fail) and es

      lone_part : (P : Disjs Graph → Type 0) → ((xs ys : Disjs Graph) → PartAll ds xs → PartAll es ys → P ((desc g xs or fail) and ys)) →
          ((ys : Disjs Graph) → P (fail and ys)) → (zs : Disjs Graph) → PartAll here zs → P zs
      lone_part P f h end p = absurd p
      lone_part P f h (fail and ys) p = h ys
      lone_part P f h ((desc x xs or fail) and ys) (inl p, q) =
          subst (λ (z : Graph). P ((desc z xs or fail) and ys)) p.0.0 (f xs ys p.0.1 q)
      lone_part P f h ((desc x xs or fail) and ys) (inr p, q) = absurd p
      lone_part P f h ((desc x xs or (e or b)) and ys) (inl p, q) = absurd p.1
      lone_part P f h ((desc x xs or (e or b)) and ys) (inr p, q) = absurd p

      abbrev Refuted : Disjs Graph → Type 0
      Refuted zs = (S : List Graph) → Fine 𝓛 S → Says 𝓛 S K → Agrees J S → Within (sure zs) S → StableAll J S zs → ⊥

      w_inner : (xs ys : Disjs Graph) (S : List Graph) → Within ((g ∷ sure xs) ++ sure ys) S → Within (sure xs) S
      w_inner xs ys S w = w_trans (sure xs) ((g ∷ sure xs) ++ sure ys) S
          (w_tail g (sure xs) (sure xs ++ sure ys) (in_l (sure xs) (sure ys))) w

      w_later : (xs ys : Disjs Graph) (S : List Graph) → Within ((g ∷ sure xs) ++ sure ys) S → Within (sure ys) S
      w_later xs ys S w = w_trans (sure ys) ((g ∷ sure xs) ++ sure ys) S (in_r (g ∷ sure xs) (sure ys)) w

      round_lone : (o p : Option (Round Graph)) → RoundedBest K ds o → RoundedBest K es p → RoundedBest K here (both o p)
      unfolding fold
      round_lone none p x y = lone_part Refuted (λ xs ys q r S f k a w s. x xs q S f k a (w_inner xs ys S w) s.0)
          (λ ys S f k a w s. s.0)
      round_lone (some r) none x y =
          lone_part Refuted (λ xs ys q r S f k a w s. y ys r S f k a (w_later xs ys S w) s.1) (λ ys S f k a w s. s.0)
      round_lone (some r) (some s) x y = record {
        new = (desc g x.new or fail) and y.new;
        part = (inl ((refl, x.part), tt), y.part);
        canon = canon_append 𝓛 r.folded s.folded x.canon y.canon;
        to = λ c f h k. says_append 𝓛 c (g ∷ sure x.new) (sure y.new)
            (says_cons 𝓛 c g (sure x.new) (says_here 𝓛 c g (sure ds ++ sure es) h)
            (x.to c f (says_first 𝓛 c (sure ds) (sure es) (says_there 𝓛 c g (sure ds ++ sure es) h))
            (says_first 𝓛 c r.folded s.folded k)))
            (y.to c f (says_second 𝓛 c (g ∷ sure ds) (sure es) h) (says_second 𝓛 c r.folded s.folded k));
        from = λ c f h.
            let hx = x.from c f (says_first 𝓛 c (sure x.new) (sure y.new) (says_there 𝓛 c g (sure x.new ++ sure y.new) h)) in
            let hy = y.from c f (says_second 𝓛 c (g ∷ sure x.new) (sure y.new) h) in (
              says_append 𝓛 c r.folded s.folded hx.0 hy.0,
              says_append 𝓛 c (g ∷ sure ds) (sure es)
                  (says_cons 𝓛 c g (sure ds) (says_here 𝓛 c g (sure x.new ++ sure y.new) h) hx.1) hy.1,
            );
        good = good_lone;
        fresh = λ e. absurd (cons_nil g (sure x.new ++ sure y.new) e);
        stale = λ z e. absurd (cons_nil g (sure ds ++ sure es) e);
        settled = λ e S f k. let q = nil_both r.folded s.folded e in (x.settled q.0 S f k, y.settled q.1 S f k);
        greatest = lone_part (λ zs. (S : List Graph) → Fine 𝓛 S → Says 𝓛 S K → Agrees J S → Within (sure zs) S → StableAll J S zs →
            PartAll ((desc g x.new or fail) and y.new) zs)
            (λ xs ys p q S f k a w st. (
              inl ((refl, x.greatest xs p S f k a (w_inner xs ys S w) st.0), tt),
              y.greatest ys q S f k a (w_later xs ys S w) st.1,
            ))
            (λ ys S f k a w st. absurd st.0);
      }
        where
          good_lone : (c : List Graph) → Fine 𝓛 c → Agrees J c → SaysAll 𝓛 c ((g ∷ sure x.new) ++ sure y.new) →
              SaneAll J ((desc g x.new or fail) and y.new)
              × (r.left then s.left ≡ (fold_all J ((desc g x.new or fail) and y.new)).left)
          good_lone c f a h =
              let cx : CanAll 𝓛 x.new = part_all_can 𝓛 ds x.new x.part cs in
              let gx = x.good c f a (says_first 𝓛 c (sure x.new) (sure y.new)
              (says_there 𝓛 c g (sure x.new ++ sure y.new) h)) in
              let gy = y.good c f a (says_second 𝓛 c (g ∷ sure x.new) (sure y.new) h) in
              let sx : Sane J (desc g x.new) = (
                agrees_glues J g (sure x.new)
                    (agrees_says 𝓛 c (g ∷ sure x.new) f (fine_cons 𝓛 g (sure x.new) cg (sure_can 𝓛 x.new cx))
                    (says_first 𝓛 c (g ∷ sure x.new) (sure y.new) h) a),
                gx.0,
              ) in
              let (k, e, q) = shape 𝓛 (desc g x.new) (cg, cx) sx in (
                ((sx, tt), gy.0),
                ap₂ {C = Disjs Graph} ◌then◌ gx.1 gy.1
                    ∙ sym (ap (λ (z : Round Graph). z.left) (lone_in_place J (desc g x.new) (fold_all J y.new) k q)),
              )

    -- two or more alternatives
    module _ (a : Alts Graph) (ca : CanAny 𝓛 a) (none-sure : sure_any a ≡ []) (ds : Disjs Graph) (cs : CanAll 𝓛 ds) where
      fine_K : Fine 𝓛 (K ∷ [])
      fine_K = fine_cons 𝓛 K [] cK tt

      many : (c : List Graph) → SaysAll 𝓛 c (sure_any a)
      many c = subst (SaysAll 𝓛 c) (sym none-sure) (says_none 𝓛 c)

      each_K : (b : Alts Graph) → PartAny a b → (S : List Graph) → Fine 𝓛 S → Says 𝓛 S K → Agrees J S → Within (sure_any b) S →
          StableSome J S b → StableEach J (K ∷ []) b
      each_K b p S f k g w s = stable_each 𝓛 b S (K ∷ []) (part_any_can 𝓛 a b p ca) f fine_K (says_cons 𝓛 S K [] k (says_none 𝓛 S)) g w s

      later : (b : Alts Graph) (es : Disjs Graph) (S : List Graph) → Within (sure_any b ++ sure es) S → Within (sure es) S
      later b es S w = w_trans (sure es) (sure_any b ++ sure es) S (in_r (sure_any b) (sure es)) w

      first : (b : Alts Graph) (es : Disjs Graph) (S : List Graph) → Within (sure_any b ++ sure es) S → Within (sure_any b) S
      first b es S w = w_trans (sure_any b) (sure_any b ++ sure es) S (in_l (sure_any b) (sure es)) w

      round_none : RoundNone K ds → RoundNone K (a and ds)
      round_none h end p S f k g w s = p
      round_none h (b and es) p S f k g w s = h es p.1 S f k g (later b es S w) s.1

      empty_none : ((b : Alts Graph) → PartAny a b → StableEach J (K ∷ []) b → PartAny fail b) → RoundNone K (a and ds)
      empty_none h end p S f k g w s = p
      empty_none h (fail and es) p S f k g w s = s.0
      empty_none h ((e or b) and es) p S f k g w s = h (e or b) p.0 (each_K (e or b) p.0 S f k g (first (e or b) es S w) s.0)

      module _ (r : Round Graph) (R : RoundBest K ds r) where
        both_greatest : (new : Alts Graph) → ((b : Alts Graph) → PartAny a b → StableEach J (K ∷ []) b → PartAny new b) →
            (es : Disjs Graph) → PartAll (a and ds) es → (S : List Graph) → Fine 𝓛 S → Says 𝓛 S K → Agrees J S → Within (sure es) S →
            StableAll J S es → PartAll (new and R.new) es
        both_greatest new h end p S f k g w s = absurd p
        both_greatest new h (b and es) p S f k g w s =
            (h b p.0 (each_K b p.0 S f k g (first b es S w) s.0), R.greatest es p.1 S f k g (later b es S w) s.1)

        round_some : (new : Alts Graph) → PartAny a new → StableEach J (K ∷ []) new →
            ((b : Alts Graph) → PartAny a b → StableEach J (K ∷ []) b → PartAny new b) →
            RoundedBest K (a and ds) (after J (fold_any J new) r)
        unfolding fold
        round_some fail p s h = empty_none h
        round_some (d or fail) p s h =
            let cd : Can 𝓛 d = (part_any_can 𝓛 a (d or fail) p ca).0 in
            let sd : Sane J d = stable_sane 𝓛 d (K ∷ []) cd fine_K s.0 in
            let (k, e, q) = shape 𝓛 d cd sd in
            subst (RoundedBest K (a and ds)) (sym (lone_after J d r k q)) (record {
              new = (d or fail) and R.new;
              part = (p, R.part);
              canon = (glued_canonical 𝓛 d cd k e, R.canon);
              to = λ c f x y. says_append 𝓛 c (flat d) (sure R.new) (graph_says 𝓛 d c cd f k e (says_here 𝓛 c k r.folded y))
                  (R.to c f (says_second 𝓛 c (sure_any a) (sure ds) x) (says_there 𝓛 c k r.folded y));
              from = λ c f x. let z = R.from c f (says_second 𝓛 c (flat d) (sure R.new) x) in (
                says_cons 𝓛 c k r.folded (says_graph 𝓛 d c cd f k e (says_first 𝓛 c (flat d) (sure R.new) x)) z.0,
                says_append 𝓛 c (sure_any a) (sure ds) (many c) z.1,
              );
              good = λ c f g x. let z = R.good c f g (says_second 𝓛 c (flat d) (sure R.new) x) in (
                ((sd, tt), z.0),
                ap (λ (l : Disjs Graph). rest J d then l) z.1
                    ∙ sym (ap (λ (y : Round Graph). y.left) (lone_in_place J d (fold_all J R.new) k q)),
              );
              fresh = λ z. absurd (flat_some d (sure R.new) z);
              stale = λ z. absurd (cons_nil k r.folded z);
              settled = λ z. absurd (cons_nil k r.folded z);
              greatest = both_greatest (d or fail) h;
            })
        round_some (d or (e or b)) p s h =
            let cn : CanAny 𝓛 (d or (e or b)) = part_any_can 𝓛 a (d or (e or b)) p ca in
            record {
              new = (d or (e or b)) and R.new;
              part = (p, R.part);
              canon = R.canon;
              to = λ c f x y. R.to c f (says_second 𝓛 c (sure_any a) (sure ds) x) y;
              from = λ c f x. let z = R.from c f x in (z.0, says_append 𝓛 c (sure_any a) (sure ds) (many c) z.1);
              good = λ c f g x. let z = R.good c f g x in (
                (stable_each_sane 𝓛 (d or (e or b)) (K ∷ []) cn fine_K s, z.0),
                ap (λ (l : Disjs Graph). (fold J d or (fold J e or fold_any J b)) and l) z.1,
              );
              fresh = λ z. let q = R.fresh z in (q.0, ap (λ (l : List Graph). l ++ sure ds) none-sure ∙ q.1);
              stale = λ z e. R.stale z (nil_both (sure_any a) (sure ds) e).1;
              settled = λ z S f k. (stable_each_less 𝓛 (d or (e or b)) (K ∷ []) S cn fine_K f k s, R.settled z S f k);
              greatest = both_greatest (d or (e or b)) h;
            }

      round_many : (new : Alts Graph) → PartAny a new → StableEach J (K ∷ []) new →
          ((b : Alts Graph) → PartAny a b → StableEach J (K ∷ []) b → PartAny new b) → (o : Option (Round Graph)) → RoundedBest K ds o →
          RoundedBest K (a and ds) (elim o [ none ↦ none | some r ↦ after J (fold_any J new) r ])
      round_many new p s h none R = round_none R
      round_many new p s h (some r) R = round_some r R new p s h

    left_size : (a : Alts Graph) (r : Round Graph) → size_all r.left ≤ size_all (in_place J a r).left
    unfolding size
    left_size fail r = omega arith
    left_size (desc g ds or fail) r = omega (arith, size_then ds r.left)
    left_size (d or (e or b)) r = omega arith

    abbrev inner : Desc Graph → Disjs Graph
    inner (desc g ds) = ds

    abbrev LoneRounds : Alts Graph → Type 0
    LoneRounds fail = Unit {0}
    LoneRounds (d or a) = elim a [ fail ↦ (size_all (rest J d) ≤ n → RoundedBest K (inner d) (round J t (rest J d))) | e or b ↦ Unit {0} ]

    round_step : (a : Alts Graph) → CanAny 𝓛 a → SaneAny J a → (ds : Disjs Graph) → CanAll 𝓛 ds →
        size_all (fold_all J (a and ds)).left ≤ n → LoneRounds a → RoundedBest K ds (round J t (fold_all J ds).left) →
        RoundedBest K (a and ds) (round J t (fold_all J (a and ds)).left)
    unfolding fold size
    round_step fail ca sa ds cs l h R = round_fail ds (round J t (fold_all J ds).left)
    round_step (desc g xs or fail) ca sa ds cs l h R =
        let d : Desc Graph = desc g xs in
        let (k, e, q) = shape 𝓛 d ca.0 sa.0 in
        let i : (in_place J (fold J d or fail) (fold_all J ds)).left ≡ rest J d then (fold_all J ds).left =
        ap (λ (z : Round Graph). z.left) (lone_in_place J d (fold_all J ds) k q) in
        let m : size_all (rest J d then (fold_all J ds).left) ≤ n = subst (λ (z : Disjs Graph). size_all z ≤ n) i l in
        subst (λ (z : Disjs Graph). RoundedBest K ((desc g xs or fail) and ds) (round J t z)) (sym i)
        (subst (RoundedBest K ((desc g xs or fail) and ds)) (sym (round_then J t (rest J d) (fold_all J ds).left))
        (round_lone g xs ca.0.0 ca.0.1 ds cs (round J t (rest J d)) (round J t (fold_all J ds).left)
        (h (omega (arith, size_then (rest J d) (fold_all J ds).left))) R))
    round_step (d or (e or b)) ca sa ds cs l h R =
        let a : Alts Graph = d or (e or b) in
        let q = kept_best a ca sa (omega arith) in
        subst (λ (z : Alts Graph). RoundedBest K (a and ds) (elim (round J t (fold_all J ds).left) [ none ↦ none | some r ↦ after J z r ]))
        (sym q.same)
        (round_many a ca refl ds cs q.new q.part q.stable q.greatest (round J t (fold_all J ds).left) R)

    mutual
      unfolding fold

      pub rounds_best : (ds : Disjs Graph) → CanAll 𝓛 ds → SaneAll J ds → size_all (fold_all J ds).left ≤ n →
          RoundedBest K ds (round J t (fold_all J ds).left)
      rounds_best end c s l = record {
        new = end;
        part = tt;
        canon = tt;
        to = λ c f x y. x;
        from = λ c f x. (x, x);
        good = λ c f g x. (tt, refl);
        fresh = λ z. (refl, refl);
        stale = λ z e. refl;
        settled = λ z S f k. tt;
        greatest = λ es p S f k a w s. p;
      }
      rounds_best (a and ds) c s l =
          round_step a c.0 s.0 ds c.1 l (rounds_lone a c.0 s.0)
          (rounds_best ds c.1 s.1 (omega (arith, left_size (fold_any J a) (fold_all J ds))))

      rounds_lone : (a : Alts Graph) → CanAny 𝓛 a → SaneAny J a → LoneRounds a
      rounds_lone fail c s = tt
      rounds_lone (d or fail) c s = λ l. rounds_in d c.0 s.0 l
      rounds_lone (d or (e or b)) c s = tt

      rounds_in : (d : Desc Graph) → Can 𝓛 d → Sane J d → size_all (rest J d) ≤ n → RoundedBest K (inner d) (round J t (rest J d))
      rounds_in (desc g ds) c s l = rounds_best ds c.1 s.1 l
