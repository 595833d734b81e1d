-- Pruning the greatest stable part is pruning the whole: the quick step drops nothing that stands in a consistent choice.
-- Assumes nothing.
use mathlib.Core.Path.{◌≡◌, refl, ap, sym, ◌∙◌, subst}
use mathlib.Core.Logic.{inl, inr, ⊎_elim}
use mathlib.Core.Bool.{Bool, true, false}
use mathlib.Core.List.Memᴰ
use mathlib.Core.List.{List, [], ◌∷◌, ◌++◌, append_assoc, Memᴰ}
use Rattle.descriptions.specs.Descr.{Alts, Desc, Disjs, ◌and◌, ◌or◌, choices, choices_all, choices_any, desc, end, fail, pairs}
use Rattle.descriptions.specs.Modes.{prune, prune_all, prune_any, some_agree}
use Rattle.descriptions.proofs.Laws.{Laws, Within}
use Rattle.descriptions.proofs.Mean.{AllFine, Can, CanAll, CanAny, Fine, canon_append, choices_all_fine, choices_any_fine, fine_append}
use Rattle.descriptions.proofs.Mean.{in_l, in_r, within_both}
use Rattle.descriptions.proofs.Full.{AllFull, each_from, each_in, full_graph, full_pairs, pairs_from, pairs_in, prune_can, whole}
use Rattle.descriptions.proofs.Full.{whole_fine}
use Rattle.descriptions.proofs.Live.{Agrees, keep, keep_all, keep_any, not_none}
use Rattle.modes_by_marks.specs.Certain.{sure}
use Rattle.modes_by_marks.proofs.Entail.{agrees_says, fine_before, fine_cons, says_within, w_left, w_right, w_trans}
use Rattle.modes_by_marks.proofs.Stable.{Best, Part, PartAll, PartAny, Stable, StableAll, StableEach, StableIn, StableSome}
use Rattle.modes_by_marks.proofs.Stable.{part_both, part_can, part_trans, sure_can}
use Rattle.modes_by_marks.proofs.Greatest.{drop_part, part_fail}
use Rattle.modes_by_marks.proofs.Passes.{stable_nil}
use Rattle.modes_by_marks.proofs.Finding.{sure_in}
use Rattle.modes_by_marks.proofs.Lit.{Some, agrees_back, agrees_swap, none_does, one_does, some_view}
use Rattle.descriptions.specs.Joining.{Joining}
use Rattle.descriptions.specs.Canonical.{All}

module _ {Graph : Type 0} where
  abbrev pub Among : List (List Graph) → List (List Graph) → Type 0
  Among l m = (r : List Graph) → Memᴰ r l → Memᴰ r m

  among_pairs : (a b c d : List (List Graph)) → Among a c → Among b d → Among (pairs a b) (pairs c d)
  among_pairs a b c d p q r m = let (x, y, i, j, e) = pairs_from a b r m in
      subst (λ (z : List Graph). Memᴰ z (pairs c d)) (sym e) (pairs_in c d x y (p x i) (q y j))

  -- a part has no new choices
  mutual
    pub part_choices : (d e : Desc Graph) → Part d e → Among (choices e) (choices d)
    part_choices (desc g ds) (desc h es) p r m = let (s, i, e) = each_from (h ∷ []) (choices_all es) r m in
        subst (λ (z : List Graph). Memᴰ z (choices (desc g ds))) (ap (λ (z : Graph). z ∷ s) p.0
        ∙ sym e) (each_in (g ∷ []) (choices_all ds) s (part_all_choices ds es p.1 s i))

    pub part_all_choices : (ds es : Disjs Graph) → PartAll ds es → Among (choices_all es) (choices_all ds)
    part_all_choices end end p r m = m
    part_all_choices end (b and es) p r m = absurd p
    part_all_choices (a and ds) end p r m = absurd p
    part_all_choices (a and ds) (b and es) p r m =
        among_pairs (choices_any b) (choices_all es) (choices_any a) (choices_all ds) (λ x i. part_any_choices a b p.0 x i)
        (λ x i. part_all_choices ds es p.1 x i) r m

    pub part_any_choices : (a b : Alts Graph) → PartAny a b → Among (choices_any b) (choices_any a)
    part_any_choices fail fail p r m = m
    part_any_choices fail (e or b) p r m = absurd p
    part_any_choices (d or a) fail p r m = absurd (Memᴰ.not-nil m)
    part_any_choices (d or a) (e or b) (inl p) r m =
        ⊎_elim (λ i. Memᴰ.append_left (choices_any a) (part_choices d e p.0 r i))
        (λ i. Memᴰ.append_right (choices d) (part_any_choices a b p.1 r i)) (Memᴰ.append_cases (choices e) m)
    part_any_choices (d or a) (e or b) (inr p) r m = Memᴰ.append_right (choices d) (part_any_choices a (e or b) p r m)

  -- pruning drops alternatives
  or_part : (d e : Desc Graph) (a b : Alts Graph) (t : Bool) → Part d e → PartAny a b →
      PartAny (d or a) (elim t [ true ↦ e or b | false ↦ b ])
  or_part d e a b true p q = inl (p, q)
  or_part d e a b false p q = drop_part d a b q

module _ {Graph : Type 0} (J : Joining Graph) where
  mutual
    unfolding prune

    pub prune_part : (d : Desc Graph) (others : List (List Graph)) → Part d (prune J others d)
    prune_part (desc g ds) others = (refl, prune_all_part ds (pairs others ((g ∷ []) ∷ [])))

    prune_all_part : (ds : Disjs Graph) (others : List (List Graph)) → PartAll ds (prune_all J others ds)
    prune_all_part end others = tt
    prune_all_part (a and ds) others = (prune_any_part a (pairs others (choices_all ds)), prune_all_part ds (pairs others (choices_any a)))

    prune_any_part : (a : Alts Graph) (others : List (List Graph)) → PartAny a (prune_any J others a)
    prune_any_part fail others = tt
    prune_any_part (d or a) others =
        or_part d (prune J others d) a (prune_any J others a) (some_agree J (pairs others (choices d))) (prune_part d others)
        (prune_any_part a others)

  -- a choice among these agrees with one of the others
  abbrev pub Together : List (List Graph) → List (List Graph) → Type 0
  Together others l = (o : List Graph) × (r : List Graph) × Memᴰ o others × Memᴰ r l × Agrees J (o ++ r)

  -- every alternative stands in a consistent choice with the others
  abbrev mutual
    pub Alive : List (List Graph) → Desc Graph → Type 0
    Alive others (desc g ds) = AliveAll (pairs others ((g ∷ []) ∷ [])) ds

    pub AliveAll : List (List Graph) → Disjs Graph → Type 0
    AliveAll others end = Unit {0}
    AliveAll others (a and ds) = AliveAny (pairs others (choices_all ds)) a × AliveAll (pairs others (choices_any a)) ds

    pub AliveAny : List (List Graph) → Alts Graph → Type 0
    AliveAny others fail = Unit {0}
    AliveAny others (d or a) = Together others (choices d) × Alive others d × AliveAny others a

  -- pruning keeps every part whose alternatives all stand in a consistent choice
  or_keeps : (d e : Desc Graph) (a b : Alts Graph) (others : List (List Graph)) → Together others (choices d) → Part (prune J others d) e →
      PartAny (prune_any J others a) b → (t : Bool) → Some J (pairs others (choices d)) t →
      PartAny {Graph = Graph} (elim t [ true ↦ prune J others d or prune_any J others a | false ↦ prune_any J others a ]) (e or b)
  or_keeps d e a b others l p q true v = inl (p, q)
  or_keeps d e a b others (o, r, i, j, g) p q false (none_does w) =
      absurd (not_none J (o ++ r) g (w (o ++ r) (pairs_in others (choices d) o r i j)))

  or_later : (d e : Desc Graph) (a b : Alts Graph) (others : List (List Graph)) → PartAny (prune_any J others a) (e or b) → (t : Bool) →
      PartAny {Graph = Graph} (elim t [ true ↦ prune J others d or prune_any J others a | false ↦ prune_any J others a ]) (e or b)
  or_later d e a b others p true = inr p
  or_later d e a b others p false = p

  mutual
    unfolding prune

    pub keeps : (d p : Desc Graph) → Part d p → (others more : List (List Graph)) → Among others more → Alive others p →
        Part (prune J more d) p
    keeps (desc g ds) (desc h ps) q others more i l = (
      q.0,
      keeps_all ds ps q.1 (pairs others ((h ∷ []) ∷ [])) (pairs more ((g ∷ []) ∷ []))
          (among_pairs others ((h ∷ []) ∷ []) more ((g ∷ []) ∷ []) i
          (λ r m. subst (λ (z : Graph). Memᴰ r ((z ∷ []) ∷ [])) (sym q.0) m)) l,
    )

    keeps_all : (ds ps : Disjs Graph) → PartAll ds ps → (others more : List (List Graph)) → Among others more → AliveAll others ps →
        PartAll (prune_all J more ds) ps
    keeps_all end end q others more i l = tt
    keeps_all end (b and ps) q others more i l = absurd q
    keeps_all (a and ds) end q others more i l = absurd q
    keeps_all (a and ds) (b and ps) q others more i l = (
      keeps_any a b q.0 (pairs others (choices_all ps)) (pairs more (choices_all ds))
          (among_pairs others (choices_all ps) more (choices_all ds) i (part_all_choices ds ps q.1)) l.0,
      keeps_all ds ps q.1 (pairs others (choices_any b)) (pairs more (choices_any a))
          (among_pairs others (choices_any b) more (choices_any a) i (part_any_choices a b q.0)) l.1,
    )

    keeps_any : (a b : Alts Graph) → PartAny a b → (others more : List (List Graph)) → Among others more → AliveAny others b →
        PartAny (prune_any J more a) b
    keeps_any fail fail q others more i l = tt
    keeps_any fail (e or b) q others more i l = absurd q
    keeps_any (d or a) fail q others more i l = part_fail (prune_any J more (d or a))
    keeps_any (d or a) (e or b) (inl q) others more i l =
        let (o, r, io, ir, g) = l.0 in
        or_keeps d e a b more (o, r, i o io, part_choices d e q.0 r ir, g) (keeps d e q.0 others more i l.1)
        (keeps_any a b q.1 others more i l.2) (some_agree J (pairs more (choices d))) (some_view J (pairs more (choices d)))
    keeps_any (d or a) (e or b) (inr q) others more i l =
        or_later d e a b more (keeps_any a (e or b) q others more i l) (some_agree J (pairs more (choices d)))

  -- what is left is alive
  abbrev Enough : List (List Graph) → List (List Graph) → List (List Graph) → Type 0
  Enough others fewer l = (o r : List Graph) → Memᴰ o others → Memᴰ r l → Agrees J (o ++ r) → Memᴰ o fewer

  -- what is left is stable: S stands in every consistent choice
  abbrev Stands : List Graph → List (List Graph) → List (List Graph) → Type 0
  Stands S others l = (o r : List Graph) → Memᴰ o others → Memᴰ r l → Agrees J (o ++ r) → Within S (o ++ r)

  abbrev BothEach : List Graph → Alts Graph → Type 0
  BothEach S fail = Unit {0}
  BothEach S (d or a) = Stable J S d × StableIn J S d × BothEach S a

  both_each : (S : List Graph) (a : Alts Graph) → BothEach S a → StableEach J S a
  both_each S fail b = tt
  both_each S (d or a) b = (b.0, both_each S a b.2)

  both_some : (S : List Graph) (a : Alts Graph) (r : List Graph) → Memᴰ r (choices_any a) → BothEach S a → StableSome J S a
  both_some S fail r m b = absurd (Memᴰ.not-nil m)
  both_some S (d or fail) r m b = b.1
  both_some S (d or (e or a)) r m b = (b.0, both_each S (e or a) b.2)

  or_stable : (S : List Graph) (d : Desc Graph) (a : Alts Graph) (others : List (List Graph)) →
      (Together others (choices d) → Stable J S (prune J others d)) → (Together others (choices d) → StableIn J S (prune J others d)) →
      BothEach S (prune_any J others a) → (t : Bool) → Some J (pairs others (choices d)) t →
      BothEach S (elim t [ true ↦ prune J others d or prune_any J others a | false ↦ prune_any J others a ])
  or_stable S d a others f h b true (one_does x m g) =
      let (o, r, i, j, e) = pairs_from others (choices d) x m in
      let l : Together others (choices d) = (o, r, i, j, subst (Agrees J) e g) in
      (f l, h l, b)
  or_stable S d a others f h b false v = b

  -- under a description's own graph
  stands_in : (S : List Graph) (others : List (List Graph)) (g : Graph) (ds : Disjs Graph) → Stands S others (choices (desc g ds)) →
      Stands S (pairs others ((g ∷ []) ∷ [])) (choices_all ds)
  stands_in S others g ds h o r i j a =
      let (x, y, ix, iy, e) = pairs_from others ((g ∷ []) ∷ []) o i in
      let ey : y ≡ g ∷ [] = ⊎_elim (λ q. q) (λ z. absurd (Memᴰ.not-nil z)) (Memᴰ.cases_cons iy) in
      let eo : o ++ r ≡ x ++ g ∷ r = ap (λ (z : List Graph). z ++ r) (e ∙ ap (λ (z : List Graph). x ++ z) ey) ∙ append_assoc x (g ∷ []) r in
      subst (Within S) (sym eo) (h x (g ∷ r) ix (each_in (g ∷ []) (choices_all ds) r j) (subst (Agrees J) eo a))

  graph_stands : (others : List (List Graph)) (g : Graph) (l : List (List Graph)) → Stands (g ∷ []) (pairs others ((g ∷ []) ∷ [])) l
  graph_stands others g l o r i j a =
      let (x, y, ix, iy, e) = pairs_from others ((g ∷ []) ∷ []) o i in
      let ey : y ≡ g ∷ [] = ⊎_elim (λ q. q) (λ z. absurd (Memᴰ.not-nil z)) (Memᴰ.cases_cons iy) in
      w_left (g ∷ []) o r (subst (Within (g ∷ [])) (sym (e ∙ ap (λ (z : List Graph). x ++ z) ey)) (in_r x (g ∷ [])))

  live_in : (others : List (List Graph)) (g : Graph) (ds : Disjs Graph) → Together others (choices (desc g ds)) →
      Together (pairs others ((g ∷ []) ∷ [])) (choices_all ds)
  live_in others g ds (o, r, i, j, a) =
      let (s, k, e) = each_from (g ∷ []) (choices_all ds) r j in (
        o ++ g ∷ [],
        s,
        pairs_in others ((g ∷ []) ∷ []) o (g ∷ []) i (Memᴰ.head refl),
        k,
        subst (Agrees J) (ap (λ (z : List Graph). o ++ z) e ∙ sym (append_assoc o (g ∷ []) s)) a,
      )

module _ {Graph : Type 0} {J : Joining Graph} (𝓛 : Laws J) where
  open J use {nil}
  open 𝓛 use {Canonical}

  or_alive : (d : Desc Graph) (a : Alts Graph) (others fewer : List (List Graph)) → Can 𝓛 d → AllFine 𝓛 others →
      Enough J others fewer (choices_any (d or a)) → Alive J fewer (prune J others d) → AliveAny J fewer (prune_any J others a) →
      (t : Bool) → Some J (pairs others (choices d)) t →
      AliveAny J fewer (elim t [ true ↦ prune J others d or prune_any J others a | false ↦ prune_any J others a ])
  or_alive d a others fewer c fo n p q true (one_does x m g) =
      let (o, r, i, j, e) = pairs_from others (choices d) x m in
      let g' : Agrees J (o ++ r) = subst (Agrees J) e g in
      ((o, r, n o r i (Memᴰ.append_left (choices_any a) j) g', keep 𝓛 d c others fo o r i j g', g'), p, q)
  or_alive d a others fewer c fo n p q false v = q

  mutual
    unfolding prune

    pub alive : (d : Desc Graph) → Can 𝓛 d → (others fewer : List (List Graph)) → AllFine 𝓛 others → Enough J others fewer (choices d) →
        Alive J fewer (prune J others d)
    alive (desc g ds) c others fewer fo n =
        alive_all ds c.1 (pairs others ((g ∷ []) ∷ [])) (pairs fewer ((g ∷ []) ∷ [])) (full_graph 𝓛 others g c.0 fo)
        (λ o r i j a.
        let (x, y, ix, iy, e) = pairs_from others ((g ∷ []) ∷ []) o i in
        let ey : y ≡ g ∷ [] = ⊎_elim (λ q. q) (λ z. absurd (Memᴰ.not-nil z)) (Memᴰ.cases_cons iy) in
        let eo : o ≡ x ++ g ∷ [] = e ∙ ap (λ (z : List Graph). x ++ z) ey in
        subst (λ (z : List Graph). Memᴰ z (pairs fewer ((g ∷ []) ∷ []))) (sym eo) (pairs_in fewer ((g ∷ []) ∷ []) x (g ∷ [])
        (n x (g ∷ r) ix (each_in (g ∷ []) (choices_all ds) r j)
        (subst (Agrees J) (ap (λ (z : List Graph). z ++ r) eo ∙ append_assoc x (g ∷ []) r) a)) (Memᴰ.head refl)))

    alive_all : (ds : Disjs Graph) → CanAll 𝓛 ds → (others fewer : List (List Graph)) → AllFull 𝓛 others →
        Enough J others fewer (choices_all ds) → AliveAll J fewer (prune_all J others ds)
    alive_all end c others fewer fo n = tt
    alive_all (b and ds) c others fewer fo n =
        let fb = choices_any_fine 𝓛 b c.0 in
        let fd = choices_all_fine 𝓛 ds c.1 in
        let o₁ = pairs others (choices_all ds) in
        let o₂ = pairs others (choices_any b) in
        let f₁ = full_pairs 𝓛 others (choices_all ds) fo fd in
        let f₂ = full_pairs 𝓛 others (choices_any b) fo fb in (
          alive_any b c.0 o₁ (pairs fewer (choices_all (prune_all J o₂ ds))) f₁ (λ o x i ix a.
              let (p, y, ip, iy, e) = pairs_from others (choices_all ds) o i in
              let a₁ : Agrees J (p ++ (x ++ y)) =
              agrees_back 𝓛 p x y (fo p ip) (fb x ix) (fd y iy) (subst (Agrees J) (ap (λ (z : List Graph). z ++ x) e) a) in
              subst (λ (z : List Graph). Memᴰ z (pairs fewer (choices_all (prune_all J o₂ ds)))) (sym e)
              (pairs_in fewer (choices_all (prune_all J o₂ ds)) p y
              (n p (x ++ y) ip (pairs_in (choices_any b) (choices_all ds) x y ix iy) a₁)
              (keep_all 𝓛 ds c.1 o₂ f₂ (p ++ x) y (pairs_in others (choices_any b) p x ip ix) iy
              (subst (Agrees J) (sym (append_assoc p x y)) a₁)))),
          alive_all ds c.1 o₂ (pairs fewer (choices_any (prune_any J o₁ b))) f₂ (λ o y i iy a.
              let (p, x, ip, ix, e) = pairs_from others (choices_any b) o i in
              let a₁ : Agrees J (p ++ (x ++ y)) = subst (Agrees J) (ap (λ (z : List Graph). z ++ y) e ∙ append_assoc p x y) a in
              subst (λ (z : List Graph). Memᴰ z (pairs fewer (choices_any (prune_any J o₁ b)))) (sym e)
              (pairs_in fewer (choices_any (prune_any J o₁ b)) p x
              (n p (x ++ y) ip (pairs_in (choices_any b) (choices_all ds) x y ix iy) a₁)
              (keep_any 𝓛 b c.0 o₁ f₁ (p ++ y) x (pairs_in others (choices_all ds) p y ip iy) ix
              (agrees_swap 𝓛 p x y (fo p ip) (fb x ix) (fd y iy) a₁)))),
        )

    alive_any : (a : Alts Graph) → CanAny 𝓛 a → (others fewer : List (List Graph)) → AllFull 𝓛 others →
        Enough J others fewer (choices_any a) → AliveAny J fewer (prune_any J others a)
    alive_any fail c others fewer fo n = tt
    alive_any (d or a) c others fewer fo n = or_alive d a others fewer c.0 (λ x y. (fo x y).1) n
        (alive d c.0 others fewer (λ x y. (fo x y).1) (λ o r i j g. n o r i (Memᴰ.append_left (choices_any a) j) g))
        (alive_any a c.1 others fewer fo (λ o r i j g. n o r i (Memᴰ.append_right (choices d) j) g))
        (some_agree J (pairs others (choices d))) (some_view J (pairs others (choices d)))

  -- a choice of all that stands on is fine
  all_agrees : (S : List Graph) → All Canonical S → (g : Graph) → Canonical g → (l : List Graph) → All Canonical l →
      (others : List (List Graph)) → AllFull 𝓛 others → (m : List (List Graph)) → AllFine 𝓛 m → Stands J (S ++ g ∷ l) others m →
      Together J others m → Agrees J (S ++ g ∷ l)
  all_agrees S cS g cg l cl others fo m fm h (o, r, i, j, a) =
      let f : Fine 𝓛 (o ++ r) = fine_append 𝓛 o r (fo o i) (fm r j) in
      agrees_says 𝓛 (o ++ r) (S ++ g ∷ l) f (fine_before 𝓛 S (g ∷ l) cS (fine_cons 𝓛 g l cg cl))
      (says_within 𝓛 (o ++ r) (S ++ g ∷ l) f (h o r i j a)) a

  mutual
    unfolding prune

    pub prune_stable : (d : Desc Graph) → Can 𝓛 d → (S : List Graph) → All Canonical S → (others : List (List Graph)) → AllFine 𝓛 others →
        Stands J S others (choices d) → Together J others (choices d) → Stable J S (prune J others d)
    prune_stable (desc g ds) c S cS others fo h l =
        let o₁ = pairs others ((g ∷ []) ∷ []) in
        let f₁ : AllFull 𝓛 o₁ = full_graph 𝓛 others g c.0 fo in
        let es : Disjs Graph = prune_all J o₁ ds in
        let T : List Graph = S ++ g ∷ sure es in
        let ce : All Canonical (sure es) = sure_can 𝓛 es (prune_can 𝓛 (desc g ds) c others).1 in
        let st : Stands J T o₁ (choices_all ds) = λ o r i j a. within_both S (g ∷ sure es) (o ++ r) (stands_in J S others g ds h o r i j a)
        (within_both (g ∷ []) (sure es) (o ++ r) (graph_stands J others g (choices_all ds) o r i j a)
        (w_right (sure es) o r (sure_in es r (keep_all 𝓛 ds c.1 o₁ f₁ o r i j a)))) in
        let l₁ = live_in J others g ds l in (
          all_agrees S cS g c.0 (sure es) ce o₁ f₁ (choices_all ds) (choices_all_fine 𝓛 ds c.1) st l₁,
          prune_all_stable ds c.1 T (canon_append 𝓛 S (g ∷ sure es) cS (c.0, ce)) o₁ f₁ st l₁,
        )

    prune_in_stable : (d : Desc Graph) → Can 𝓛 d → (S : List Graph) → All Canonical S → (others : List (List Graph)) → AllFine 𝓛 others →
        Stands J S others (choices d) → Together J others (choices d) → StableIn J S (prune J others d)
    prune_in_stable (desc g ds) c S cS others fo h l =
        prune_all_stable ds c.1 S cS (pairs others ((g ∷ []) ∷ [])) (full_graph 𝓛 others g c.0 fo) (stands_in J S others g ds h)
        (live_in J others g ds l)

    prune_all_stable : (ds : Disjs Graph) → CanAll 𝓛 ds → (S : List Graph) → All Canonical S → (others : List (List Graph)) →
        AllFull 𝓛 others → Stands J S others (choices_all ds) → Together J others (choices_all ds) → StableAll J S (prune_all J others ds)
    prune_all_stable end c S cS others fo h l = tt
    prune_all_stable (b and ds) c S cS others fo h (o, r, i, j, a) =
        let fb = choices_any_fine 𝓛 b c.0 in
        let fd = choices_all_fine 𝓛 ds c.1 in
        let o₁ = pairs others (choices_all ds) in
        let o₂ = pairs others (choices_any b) in
        let f₁ = full_pairs 𝓛 others (choices_all ds) fo fd in
        let f₂ = full_pairs 𝓛 others (choices_any b) fo fb in
        let (x, y, ix, iy, e) = pairs_from (choices_any b) (choices_all ds) r j in
        let a₁ : Agrees J (o ++ (x ++ y)) = subst (Agrees J) (ap (λ (z : List Graph). o ++ z) e) a in
        let ax : Agrees J ((o ++ y) ++ x) = agrees_swap 𝓛 o x y (fo o i) (fb x ix) (fd y iy) a₁ in
        let io₁ = pairs_in others (choices_all ds) o y i iy in (
          both_some J S (prune_any J o₁ b) x (keep_any 𝓛 b c.0 o₁ f₁ (o ++ y) x io₁ ix ax)
              (prune_each_stable b c.0 S cS o₁ f₁ (λ p q ip iq g.
              let (u, v, iu, iv, ep) = pairs_from others (choices_all ds) p ip in
              let g₁ : Agrees J (u ++ (q ++ v)) =
              agrees_back 𝓛 u q v (fo u iu) (fb q iq) (fd v iv) (subst (Agrees J) (ap (λ (z : List Graph). z ++ q) ep) g) in
              subst (λ (z : List Graph). Within S (z ++ q)) (sym ep)
              (w_trans S (u ++ (q ++ v)) ((u ++ v) ++ q) (h u (q ++ v) iu (pairs_in (choices_any b) (choices_all ds) q v iq iv) g₁)
              (within_both u (q ++ v) ((u ++ v) ++ q) (w_left u (u ++ v) q (in_l u v))
              (within_both q v ((u ++ v) ++ q) (in_r (u ++ v) q) (w_left v (u ++ v) q (in_r u v))))))),
          prune_all_stable ds c.1 S cS o₂ f₂ (λ p q ip iq g.
              let (u, v, iu, iv, ep) = pairs_from others (choices_any b) p ip in
              let eq : p ++ q ≡ u ++ (v ++ q) = ap (λ (z : List Graph). z ++ q) ep ∙ append_assoc u v q in
              subst (Within S) (sym eq) (h u (v ++ q) iu (pairs_in (choices_any b) (choices_all ds) v q iv iq) (subst (Agrees J) eq g)))
              (o ++ x, y, pairs_in others (choices_any b) o x i ix, iy, subst (Agrees J) (sym (append_assoc o x y)) a₁),
        )

    prune_each_stable : (a : Alts Graph) → CanAny 𝓛 a → (S : List Graph) → All Canonical S → (others : List (List Graph)) →
        AllFull 𝓛 others → Stands J S others (choices_any a) → BothEach J S (prune_any J others a)
    prune_each_stable fail c S cS others fo h = tt
    prune_each_stable (d or a) c S cS others fo h =
        or_stable J S d a others
        (λ l. prune_stable d c.0 S cS others (λ x y. (fo x y).1) (λ o r i j g. h o r i (Memᴰ.append_left (choices_any a) j) g) l)
        (λ l. prune_in_stable d c.0 S cS others (λ x y. (fo x y).1) (λ o r i j g. h o r i (Memᴰ.append_left (choices_any a) j) g) l)
        (prune_each_stable a c.1 S cS others fo (λ o r i j g. h o r i (Memᴰ.append_right (choices d) j) g))
        (some_agree J (pairs others (choices d))) (some_view J (pairs others (choices d)))

  -- with a consistent choice, what pruning leaves is stable
  pub pruned_stable : (d : Desc Graph) → Can 𝓛 d → (r : List Graph) → Memᴰ r (choices d) → Agrees J r →
      Stable J (nil ∷ []) (prune J whole d)
  pruned_stable d c r m a = stable_nil 𝓛 (prune J whole d) (prune_can 𝓛 d c whole)
      (prune_stable d c [] tt whole (whole_fine 𝓛) (λ o s i j g x n. absurd (Memᴰ.not-nil n)) ([], r, Memᴰ.head refl, m, a))

  -- pruning the greatest stable part is pruning the whole
  pub prune_best : (d e : Desc Graph) → Can 𝓛 d → Best J (nil ∷ []) d e → (r : List Graph) → Memᴰ r (choices d) → Agrees J r →
      prune J whole e ≡ prune J whole d
  prune_best d e c b r m a =
      let ce : Can 𝓛 e = part_can 𝓛 d e b.part c in
      let p : Desc Graph = prune J whole d in
      let q : Desc Graph = prune J whole e in
      let ep : Part e p = b.greatest p (prune_part J d whole) (pruned_stable d c r m a) in
      let qp : Part q p = keeps J e p ep whole whole (λ x n. n) (alive d c whole whole (whole_fine 𝓛) (λ o s i j g. i)) in
      let dq : Part d q = part_trans d e q b.part (prune_part J e whole) in
      let pq : Part p q = keeps J d q dq whole whole (λ x n. n) (alive e ce whole whole (whole_fine 𝓛) (λ o s i j g. i)) in
      part_both q p qp pq
