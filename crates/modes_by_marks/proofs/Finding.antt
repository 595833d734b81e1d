-- The search finds each consistent choice, once and in order.
-- Assumes nothing.
use mathlib.Core.Path.{◌≡◌, refl, ap, ap₂, sym, ◌∙◌, subst}
use mathlib.Core.Logic.{⊎_elim}
use mathlib.Core.Bool.{Bool, true, false}
use mathlib.Core.Option.{Option, none, some}
use mathlib.Core.List.Memᴰ
use mathlib.Core.List.{List, [], ◌∷◌, ◌++◌, append_assoc, append-nil, Memᴰ}
use Prim.Native.Nat.{ℕ, suc}
use native.Mathlib.Omega.{arith}
use lib.ListN.{length}
use Rattle.descriptions.specs.Descr.{Alts, Desc, Disjs, ◌and◌, ◌or◌, agree, agreeing, answers, choices, choices_all, choices_any, desc}
use Rattle.descriptions.specs.Descr.{each, end, fail, pairs, readings}
use Rattle.descriptions.proofs.Laws.{Laws, Within}
use Rattle.descriptions.proofs.Mean.{Can, CanAll, CanAny, Fine, choices_all_fine, choices_any_fine, clash_stays, fine_append, in_l, in_r}
use Rattle.descriptions.proofs.Mean.{within_both}
use Rattle.descriptions.proofs.Full.{each_from, pairs_from}
use Rattle.descriptions.proofs.Live.{Agrees}
use Rattle.modes_by_marks.specs.Placed.{Options, Placed, Places, ◌also◌, no_more, option, place, stop, strip, strip_all, strip_any}
use Rattle.modes_by_marks.specs.Certain.{flat, sure, sure_any}
use Rattle.modes_by_marks.specs.Search.{Found, dive, dive_all, dive_any, dive_each, dive_in, leaf_found, search, taking}
use Rattle.modes_by_marks.proofs.Entail.{SaysAll, canon_in, fine_before, fine_cons, join_both, says_append, says_cons, says_first}
use Rattle.modes_by_marks.proofs.Entail.{says_here, says_more, says_none, says_second, says_there, says_trans, says_within, w_cons}
use Rattle.modes_by_marks.proofs.Entail.{w_left, w_right, w_self, w_tail}
use Rattle.modes_by_marks.proofs.Stable.{flat_can, says_left, sure_can}
use Rattle.modes_by_marks.proofs.Passes.{Agreeing, agreeing_view, can, cannot}
use Rattle.descriptions.specs.Joining.{Joining}
use Rattle.descriptions.specs.Canonical.{All}
use Rattle.modes_by_marks.specs.Stack.{Equivalent}

-- what is found from the choices
abbrev pub put : List ℕ → Found → Found
put xs [] = []
put xs (l ∷ f) = (xs ++ l) ∷ put xs f

put_append : (xs : List ℕ) (f g : Found) → put xs (f ++ g) ≡ put xs f ++ put xs g
put_append xs [] g = refl
put_append xs (l ∷ f) g = ap (λ (z : Found). (xs ++ l) ∷ z) (put_append xs f g)

put_put : (xs ys : List ℕ) (f : Found) → put xs (put ys f) ≡ put (xs ++ ys) f
put_put xs ys [] = refl
put_put xs ys (l ∷ f) = ap₂ {C = Found} ◌∷◌ (sym (append_assoc xs ys l)) (put_put xs ys f)

taking_append : (x : ℕ) (f g : Found) → taking x (f ++ g) ≡ taking x f ++ taking x g
taking_append x [] g = refl
taking_append x (l ∷ f) g = ap (λ (z : Found). (x ∷ l) ∷ z) (taking_append x f g)

taking_put : (x : ℕ) (xs : List ℕ) (f : Found) → taking x (put xs f) ≡ put (x ∷ xs) f
taking_put x xs [] = refl
taking_put x xs (l ∷ f) = ap (λ (z : Found). (x ∷ (xs ++ l)) ∷ z) (taking_put x xs f)

put_nil : (f : Found) → put [] f ≡ f
put_nil [] = refl
put_nil (l ∷ f) = ap (λ (z : Found). l ∷ z) (put_nil f)

-- choices with the numbers that they take
abbrev pub Pick : Type 0 → Type 0
Pick Graph = List Graph × List ℕ

module _ {Graph : Type 0} where
  -- a choice holds all that is certain
  mutual
    pub flat_in : (d : Desc Graph) (r : List Graph) → Memᴰ r (choices d) → Within (flat d) r
    flat_in (desc g ds) r m = let (s, i, e) = each_from (g ∷ []) (choices_all ds) r m in
        subst (Within (g ∷ sure ds)) (sym e) (w_cons g (sure ds) (g ∷ s) (Memᴰ.head refl) (w_tail g (sure ds) s (sure_in ds s i)))

    pub sure_in : (ds : Disjs Graph) (r : List Graph) → Memᴰ r (choices_all ds) → Within (sure ds) r
    sure_in end r m = λ g i. absurd (Memᴰ.not-nil i)
    sure_in (a and ds) r m = let (x, y, i, j, e) = pairs_from (choices_any a) (choices_all ds) r m in
        subst (Within (sure_any a ++ sure ds)) (sym e)
        (within_both (sure_any a) (sure ds) (x ++ y) (w_left (sure_any a) x y (sure_any_in a x i))
        (w_right (sure ds) x y (sure_in ds y j)))

    pub sure_any_in : (a : Alts Graph) (r : List Graph) → Memᴰ r (choices_any a) → Within (sure_any a) r
    sure_any_in fail r m = λ g i. absurd (Memᴰ.not-nil i)
    sure_any_in (d or fail) r m = ⊎_elim (λ i. flat_in d r i) (λ i. absurd (Memᴰ.not-nil i)) (Memᴰ.append_cases (choices d) m)
    sure_any_in (d or (e or b)) r m = λ g i. absurd (Memᴰ.not-nil i)

  abbrev pub pick_each : Graph → List (Pick Graph) → List (Pick Graph)
  pick_each g [] = []
  pick_each g (p ∷ l) = (g ∷ p.0, p.1) ∷ pick_each g l

  abbrev pub pick_after : Pick Graph → List (Pick Graph) → List (Pick Graph)
  pick_after p [] = []
  pick_after p (q ∷ l) = (p.0 ++ q.0, p.1 ++ q.1) ∷ pick_after p l

  abbrev pub pick_pairs : List (Pick Graph) → List (Pick Graph) → List (Pick Graph)
  pick_pairs [] l = []
  pick_pairs (p ∷ k) l = pick_after p l ++ pick_pairs k l

  abbrev pub pick_as : ℕ → List (Pick Graph) → List (Pick Graph)
  pick_as x [] = []
  pick_as x (p ∷ l) = (p.0, x ∷ p.1) ∷ pick_as x l

  abbrev mutual
    pub picks : Placed Graph → List (Pick Graph)
    picks (place g ds) = pick_each g (picks_all ds)

    pub picks_all : Places Graph → List (Pick Graph)
    picks_all stop = ([], []) ∷ []
    picks_all (a also ds) = pick_pairs (picks_any a) (picks_all ds)

    pub picks_any : Options Graph → List (Pick Graph)
    picks_any no_more = []
    picks_any (option x d a) = pick_as x (picks d) ++ picks_any a

  abbrev pub go_through : List (Pick Graph) → List Graph → (List Graph → Found) → Found
  go_through [] S k = []
  go_through (p ∷ l) S k = put p.1 (k (S ++ p.0)) ++ go_through l S k

  pub through_append : (l m : List (Pick Graph)) (S : List Graph) (k : List Graph → Found) →
      go_through (l ++ m) S k ≡ go_through l S k ++ go_through m S k
  through_append [] m S k = refl
  through_append (p ∷ l) m S k = ap (λ (z : Found). put p.1 (k (S ++ p.0)) ++ z) (through_append l m S k)
      ∙ sym (append_assoc (put p.1 (k (S ++ p.0))) (go_through l S k) (go_through m S k))

  through_each : (g : Graph) (l : List (Pick Graph)) (S : List Graph) (k : List Graph → Found) →
      go_through (pick_each g l) S k ≡ go_through l (S ++ g ∷ []) k
  through_each g [] S k = refl
  through_each g (p ∷ l) S k = ap₂ {C = Found} ◌++◌ (ap (λ (z : List Graph). put p.1 (k z)) (sym (append_assoc S (g ∷ []) p.0)))
      (through_each g l S k)

  through_as : (x : ℕ) (l : List (Pick Graph)) (S : List Graph) (k : List Graph → Found) →
      go_through (pick_as x l) S k ≡ taking x (go_through l S k)
  through_as x [] S k = refl
  through_as x (p ∷ l) S k = ap₂ {C = Found} ◌++◌ (sym (taking_put x p.1 (k (S ++ p.0)))) (through_as x l S k)
      ∙ sym (taking_append x (put p.1 (k (S ++ p.0))) (go_through l S k))

  through_after : (p : Pick Graph) (l : List (Pick Graph)) (S : List Graph) (k : List Graph → Found) →
      go_through (pick_after p l) S k ≡ put p.1 (go_through l (S ++ p.0) k)
  through_after p [] S k = refl
  through_after p (q ∷ l) S k =
      ap₂ {C = Found} ◌++◌ (sym (put_put p.1 q.1 (k (S ++ (p.0 ++ q.0))))
      ∙ ap (λ (z : List Graph). put p.1 (put q.1 (k z))) (sym (append_assoc S p.0 q.0))) (through_after p l S k)
      ∙ sym (put_append p.1 (put q.1 (k ((S ++ p.0) ++ q.0))) (go_through l (S ++ p.0) k))

  through_pairs : (l m : List (Pick Graph)) (S : List Graph) (k : List Graph → Found) →
      go_through (pick_pairs l m) S k ≡ go_through l S (λ T. go_through m T k)
  through_pairs [] m S k = refl
  through_pairs (p ∷ l) m S k = through_append (pick_after p m) (pick_pairs l m) S k
      ∙ ap₂ {C = Found} ◌++◌ (through_after p m S k) (through_pairs l m S k)

  pub through_cong : (l : List (Pick Graph)) (S T : List Graph) (k h : List Graph → Found) →
      ((p : Pick Graph) → Memᴰ p l → k (S ++ p.0) ≡ h (T ++ p.0)) → go_through l S k ≡ go_through l T h
  through_cong [] S T k h e = refl
  through_cong (p ∷ l) S T k h e =
      ap₂ {C = Found} ◌++◌ (ap (put p.1) (e p (Memᴰ.head refl))) (through_cong l S T k h (λ q m. e q (Memᴰ.tail m)))

  through_none : (l : List (Pick Graph)) (S : List Graph) (k : List Graph → Found) →
      ((p : Pick Graph) → Memᴰ p l → k (S ++ p.0) ≡ []) → go_through l S k ≡ []
  through_none [] S k e = refl
  through_none (p ∷ l) S k e = ap₂ {C = Found} ◌++◌ (ap (put p.1) (e p (Memᴰ.head refl)))
      (through_none l S k (λ q m. e q (Memᴰ.tail m)))

  -- the graphs of a pick are a choice
  abbrev pub graphs : List (Pick Graph) → List (List Graph)
  graphs [] = []
  graphs (p ∷ l) = p.0 ∷ graphs l

  graphs_append : (l m : List (Pick Graph)) → graphs (l ++ m) ≡ graphs l ++ graphs m
  graphs_append [] m = refl
  graphs_append (p ∷ l) m = ap (λ (z : List (List Graph)). p.0 ∷ z) (graphs_append l m)

  graphs_each : (g : Graph) (l : List (Pick Graph)) → graphs (pick_each g l) ≡ each (g ∷ []) (graphs l)
  graphs_each g [] = refl
  graphs_each g (p ∷ l) = ap (λ (z : List (List Graph)). (g ∷ p.0) ∷ z) (graphs_each g l)

  graphs_as : (x : ℕ) (l : List (Pick Graph)) → graphs (pick_as x l) ≡ graphs l
  graphs_as x [] = refl
  graphs_as x (p ∷ l) = ap (λ (z : List (List Graph)). p.0 ∷ z) (graphs_as x l)

  graphs_after : (p : Pick Graph) (l : List (Pick Graph)) → graphs (pick_after p l) ≡ each p.0 (graphs l)
  graphs_after p [] = refl
  graphs_after p (q ∷ l) = ap (λ (z : List (List Graph)). (p.0 ++ q.0) ∷ z) (graphs_after p l)

  graphs_pairs : (l m : List (Pick Graph)) → graphs (pick_pairs l m) ≡ pairs (graphs l) (graphs m)
  graphs_pairs [] m = refl
  graphs_pairs (p ∷ l) m = graphs_append (pick_after p m) (pick_pairs l m)
      ∙ ap₂ {C = List (List Graph)} ◌++◌ (graphs_after p m) (graphs_pairs l m)

  mutual
    pub graphs_are : (d : Placed Graph) → graphs (picks d) ≡ choices (strip d)
    graphs_are (place g ds) = graphs_each g (picks_all ds) ∙ ap (each (g ∷ [])) (graphs_all_are ds)

    pub graphs_all_are : (ds : Places Graph) → graphs (picks_all ds) ≡ choices_all (strip_all ds)
    graphs_all_are stop = refl
    graphs_all_are (a also ds) = graphs_pairs (picks_any a) (picks_all ds)
        ∙ ap₂ {C = List (List Graph)} pairs (graphs_any_are a) (graphs_all_are ds)

    pub graphs_any_are : (a : Options Graph) → graphs (picks_any a) ≡ choices_any (strip_any a)
    graphs_any_are no_more = refl
    graphs_any_are (option x d a) = graphs_append (pick_as x (picks d)) (picks_any a)
        ∙ ap₂ {C = List (List Graph)} ◌++◌ (graphs_as x (picks d) ∙ graphs_are d) (graphs_any_are a)

  pub graph_in : (l : List (Pick Graph)) (p : Pick Graph) → Memᴰ p l → Memᴰ p.0 (graphs l)
  graph_in [] p m = absurd (Memᴰ.not-nil m)
  graph_in (q ∷ l) p m = ⊎_elim (λ e. Memᴰ.head (ap (λ (z : Pick Graph). z.0) e)) (λ i. Memᴰ.tail (graph_in l p i))
      (Memᴰ.cases_cons m)

  pub choice_of : (d : Placed Graph) (p : Pick Graph) → Memᴰ p (picks d) → Memᴰ p.0 (choices (strip d))
  choice_of d p m = subst (Memᴰ p.0) (graphs_are d) (graph_in (picks d) p m)

  pub choice_all_of : (ds : Places Graph) (p : Pick Graph) → Memᴰ p (picks_all ds) → Memᴰ p.0 (choices_all (strip_all ds))
  choice_all_of ds p m = subst (Memᴰ p.0) (graphs_all_are ds) (graph_in (picks_all ds) p m)

  pub choice_any_of : (a : Options Graph) (p : Pick Graph) → Memᴰ p (picks_any a) → Memᴰ p.0 (choices_any (strip_any a))
  choice_any_of a p m = subst (Memᴰ p.0) (graphs_any_are a) (graph_in (picks_any a) p m)

module _ {Graph : Type 0} (J : Joining Graph) where
  -- a leaf that asks again whether the stack agrees: the search never comes to one where it does not
  abbrev pub leaf_asked : List Graph → Found
  leaf_asked S = elim (agree J S) [ true ↦ [] ∷ [] | false ↦ [] ]

  module _ (k h : List Graph → Found) (E : (T : List Graph) → Agrees J T → k T ≡ h T) where
    dive_cong_desc : (S : List Graph) (g : Graph) (ds : Places Graph) →
        (Agrees J (S ++ g ∷ sure (strip_all ds)) →
        dive_all J (S ++ g ∷ sure (strip_all ds)) ds k ≡ dive_all J (S ++ g ∷ sure (strip_all ds)) ds h) → (t : Bool) →
        Agreeing J (S ++ g ∷ sure (strip_all ds)) t →
        ◌≡◌ {A = Found} (elim t [ false ↦ [] | true ↦ dive_all J (S ++ g ∷ sure (strip_all ds)) ds k ])
        (elim t [ false ↦ [] | true ↦ dive_all J (S ++ g ∷ sure (strip_all ds)) ds h ])
    dive_cong_desc S g ds e false (cannot z) = refl
    dive_cong_desc S g ds e true (can a) = e a

  mutual
    unfolding dive

    dive_cong : (d : Placed Graph) (k h : List Graph → Found) → ((T : List Graph) → Agrees J T → k T ≡ h T) → (S : List Graph) →
        dive J S d k ≡ dive J S d h
    dive_cong (place g ds) k h E S =
        dive_cong_desc k h E S g ds (λ a. all_cong ds k h E (S ++ g ∷ sure (strip_all ds)) a) (agree J (S ++ g ∷ sure (strip_all ds)))
        (agreeing_view J (S ++ g ∷ sure (strip_all ds)))

    all_cong : (ds : Places Graph) (k h : List Graph → Found) → ((T : List Graph) → Agrees J T → k T ≡ h T) → (S : List Graph) →
        Agrees J S → dive_all J S ds k ≡ dive_all J S ds h
    all_cong stop k h E S a = E S a
    all_cong (o also ds) k h E S a = any_cong o (λ T. dive_all J T ds k) (λ T. dive_all J T ds h) (λ T t. all_cong ds k h E T t) S a

    any_cong : (a : Options Graph) (k h : List Graph → Found) → ((T : List Graph) → Agrees J T → k T ≡ h T) → (S : List Graph) →
        Agrees J S → dive_any J S a k ≡ dive_any J S a h
    any_cong no_more k h E S a = refl
    any_cong (option x d o) k h E S a = go o (in_cong d k h E S a) (dive_cong d k h E S) (each_cong o k h E S)
      where
        go : (o : Options Graph) → dive_in J S d k ≡ dive_in J S d h → dive J S d k ≡ dive J S d h → dive_each J S o k ≡ dive_each J S o h →
            dive_any J S (option x d o) k ≡ dive_any J S (option x d o) h
        go no_more i t r = ap (taking x) i
        go (option y e b) i t r = ap₂ {C = Found} ◌++◌ (ap (taking x) t) r

    in_cong : (d : Placed Graph) (k h : List Graph → Found) → ((T : List Graph) → Agrees J T → k T ≡ h T) → (S : List Graph) → Agrees J S →
        dive_in J S d k ≡ dive_in J S d h
    in_cong (place g ds) k h E S a = all_cong ds k h E S a

    each_cong : (a : Options Graph) (k h : List Graph → Found) → ((T : List Graph) → Agrees J T → k T ≡ h T) → (S : List Graph) →
        dive_each J S a k ≡ dive_each J S a h
    each_cong no_more k h E S = refl
    each_cong (option x d a) k h E S = ap₂ {C = Found} ◌++◌ (ap (taking x) (dive_cong d k h E S)) (each_cong a k h E S)

  -- the consistent ones among the choices
  abbrev pub found : List (Pick Graph) → Found
  found [] = []
  found (p ∷ l) = elim (agree J p.0) [ true ↦ p.1 ∷ found l | false ↦ found l ]

  through_found : (l : List (Pick Graph)) → go_through l [] leaf_asked ≡ found l
  through_found [] = refl
  through_found (p ∷ l) = step (agree J p.0)
      ∙ ap (λ (z : Found). elim (agree J p.0) [ true ↦ p.1 ∷ z | false ↦ z ]) (through_found l)
    where
      step : (t : Bool) → put p.1 (elim t [ true ↦ [] ∷ [] | false ↦ [] ])
          ++ go_through l [] leaf_asked ≡ elim t [ true ↦ p.1 ∷ go_through l [] leaf_asked | false ↦ go_through l [] leaf_asked ]
      step true = ap (λ (z : List ℕ). z ∷ go_through l [] leaf_asked) (append-nil p.1)
      step false = refl

  leaf_same : (T : List Graph) → Agrees J T → leaf_found T ≡ leaf_asked T
  leaf_same T a = go (agree J T) (agreeing_view J T)
    where
      go : (t : Bool) → Agreeing J T t → ◌≡◌ {A = Found} ([] ∷ []) (elim t [ true ↦ [] ∷ [] | false ↦ [] ])
      go true v = refl
      go false (cannot z) = let p : some a.0 ≡ none = sym a.1 ∙ z in let q : ◌≡◌ {A = ℕ} 0 1 = cc in absurd (omega arith)

  found_count : (l : List (Pick Graph)) → length (found l) ≡ agreeing J (graphs l)
  unfolding agreeing
  found_count [] = refl
  found_count (p ∷ l) = go (agree J p.0) (found_count l)
    where
      go : (t : Bool) → length (found l) ≡ agreeing J (graphs l) →
          length {A = List ℕ} (elim t [ true ↦ p.1 ∷ found l | false ↦ found l ])
          ≡ elim t [ true ↦ suc (agreeing J (graphs l)) | false ↦ agreeing J (graphs l) ]
      go true e = ap suc e
      go false e = e

module _ {Graph : Type 0} {J : Joining Graph} (𝓛 : Laws J) where
  open J use {join}
  open 𝓛 use {Canonical}

  -- what may come after a stack that says B: it sees only what the stack joins to
  pub record Follows (B : List Graph) (k : List Graph → Found) : Type 0 where
    pub same : (c d : List Graph) → Fine 𝓛 c → Fine 𝓛 d → SaysAll 𝓛 c B → SaysAll 𝓛 c d → SaysAll 𝓛 d c → k c ≡ k d
    pub dead : (c : List Graph) → Fine 𝓛 c → SaysAll 𝓛 c B → join c ≡ none → k c ≡ []

  -- more on a stack
  says_on : (S : List Graph) (r B : List Graph) → Fine 𝓛 S → All Canonical r → All Canonical B → SaysAll 𝓛 S B → SaysAll 𝓛 (S ++ r) B
  says_on S r B f p q s g m = says_more 𝓛 S (S ++ r) g f (fine_append 𝓛 S r f p) (canon_in 𝓛 B q g m) (in_l S r) (s g m)

  follows_through : (ds : Places Graph) → CanAll 𝓛 (strip_all ds) → (B : List Graph) → All Canonical B → (k : List Graph → Found) →
      Follows B k → Follows B (λ T. go_through (picks_all ds) T k)
  follows_through ds c B cB k K = record {
    same = λ x y fx fy s t u. through_cong (picks_all ds) x y k k (λ p m.
        let fp = choices_all_fine 𝓛 (strip_all ds) c p.0 (choice_all_of ds p m) in
        K.same (x ++ p.0) (y ++ p.0) (fine_append 𝓛 x p.0 fx fp) (fine_append 𝓛 y p.0 fy fp) (says_on x p.0 B fx fp cB s)
        (says_left 𝓛 x y p.0 fx fy fp t) (says_left 𝓛 y x p.0 fy fx fp u));
    dead = λ x fx s e. through_none (picks_all ds) x k (λ p m.
        let fp = choices_all_fine 𝓛 (strip_all ds) c p.0 (choice_all_of ds p m) in
        let fxp = fine_append 𝓛 x p.0 fx fp in
        K.dead (x ++ p.0) fxp (says_on x p.0 B fx fp cB s) (clash_stays 𝓛 x (x ++ p.0) fx fxp (in_l x p.0) e));
  }

  -- an alternative, its disjunctions gone through
  dive_desc : (S : List Graph) → All Canonical S → (g : Graph) (ds : Places Graph) → Can 𝓛 (strip (place g ds)) → (B : List Graph) →
      All Canonical B → SaysAll 𝓛 (S ++ g ∷ sure (strip_all ds)) B → (k : List Graph → Found) → Follows B k →
      dive_all J (S ++ g ∷ sure (strip_all ds)) ds k ≡ go_through (picks_all ds) (S ++ g ∷ sure (strip_all ds)) k → (t : Bool) →
      Agreeing J (S ++ g ∷ sure (strip_all ds)) t →
      elim t [ false ↦ [] | true ↦ dive_all J (S ++ g ∷ sure (strip_all ds)) ds k ] ≡ go_through (pick_each g (picks_all ds)) S k
  dive_desc S cS g ds c B cB s k K ih t v = go t v ∙ sym (through_each g (picks_all ds) S k)
    where
      es : Disjs Graph
      es = strip_all ds

      T : List Graph
      T = S ++ g ∷ sure es

      fT : Fine 𝓛 T
      fT = fine_before 𝓛 S (g ∷ sure es) cS (fine_cons 𝓛 g (sure es) c.0 (sure_can 𝓛 es c.1))

      U : List Graph
      U = S ++ g ∷ []

      fU : Fine 𝓛 U
      fU = fine_before 𝓛 S (g ∷ []) cS (fine_cons 𝓛 g [] c.0 tt)

      fp : (p : Pick Graph) → Memᴰ p (picks_all ds) → All Canonical p.0
      fp p m = choices_all_fine 𝓛 es c.1 p.0 (choice_all_of ds p m)

      -- the certain graphs come again in each choice
      T_in : (p : Pick Graph) → Memᴰ p (picks_all ds) → Within T (U ++ p.0)
      T_in p m = within_both S (g ∷ sure es) (U ++ p.0) (w_left S U p.0 (in_l S (g ∷ [])))
          (w_cons g (sure es) (U ++ p.0) (Memᴰ.append_left p.0 (Memᴰ.append_right S (Memᴰ.head refl)))
          (w_right (sure es) U p.0 (sure_in es p.0 (choice_all_of ds p m))))

      U_in : Within U T
      U_in = within_both S (g ∷ []) T (in_l S (g ∷ sure es)) (w_right (g ∷ []) S (g ∷ sure es) (in_l (g ∷ []) (sure es)))

      fUp : (p : Pick Graph) → Memᴰ p (picks_all ds) → Fine 𝓛 (U ++ p.0)
      fUp p m = fine_append 𝓛 U p.0 fU (fp p m)

      sUp : (p : Pick Graph) → Memᴰ p (picks_all ds) → SaysAll 𝓛 (U ++ p.0) B
      sUp p m = says_trans 𝓛 (U ++ p.0) T B (fUp p m) fT cB (says_within 𝓛 (U ++ p.0) T (fUp p m) (T_in p m)) s

      go : (t : Bool) → Agreeing J T t → elim t [ false ↦ [] | true ↦ dive_all J T ds k ] ≡ go_through (picks_all ds) U k
      go false (cannot z) = sym (through_none (picks_all ds) U k
          (λ p m. K.dead (U ++ p.0) (fUp p m) (sUp p m) (clash_stays 𝓛 T (U ++ p.0) fT (fUp p m) (T_in p m) z)))
      go true (can a) = ih ∙ through_cong (picks_all ds) T U k k (λ p m.
          let fTp = fine_append 𝓛 T p.0 fT (fp p m) in
          K.same (T ++ p.0) (U ++ p.0) fTp (fUp p m) (says_on T p.0 B fT (fp p m) cB s)
          (says_within 𝓛 (T ++ p.0) (U ++ p.0) fTp (within_both U p.0 (T ++ p.0) (w_left U T p.0 U_in) (in_r T p.0)))
          (says_within 𝓛 (U ++ p.0) (T ++ p.0) (fUp p m) (within_both T p.0 (U ++ p.0) (T_in p m) (in_r U p.0))))

  mutual
    unfolding dive

    pub dive_ok : (d : Placed Graph) → Can 𝓛 (strip d) → (S : List Graph) → All Canonical S → (B : List Graph) → All Canonical B →
        SaysAll 𝓛 (S ++ flat (strip d)) B → (k : List Graph → Found) → Follows B k → dive J S d k ≡ go_through (picks d) S k
    dive_ok (place g ds) c S cS B cB s k K =
        let T = S ++ g ∷ sure (strip_all ds) in
        let fT : Fine 𝓛 T = fine_before 𝓛 S (g ∷ sure (strip_all ds)) cS
        (fine_cons 𝓛 g (sure (strip_all ds)) c.0 (sure_can 𝓛 (strip_all ds) c.1)) in
        dive_desc S cS g ds c B cB s k K
        (all_ok ds c.1 T fT B cB s (says_within 𝓛 T (sure (strip_all ds)) fT
        (w_right (sure (strip_all ds)) S (g ∷ sure (strip_all ds))
        (w_tail g (sure (strip_all ds)) (sure (strip_all ds)) (w_self (sure (strip_all ds)))))) k K)
        (agree J T) (agreeing_view J T)

    pub all_ok : (ds : Places Graph) → CanAll 𝓛 (strip_all ds) → (S : List Graph) → Fine 𝓛 S → (B : List Graph) → All Canonical B →
        SaysAll 𝓛 S B → SaysAll 𝓛 S (sure (strip_all ds)) → (k : List Graph → Found) → Follows B k →
        dive_all J S ds k ≡ go_through (picks_all ds) S k
    all_ok stop c S f B cB s u k K = sym (append-nil (put [] (k (S ++ []))) ∙ put_nil (k (S ++ [])) ∙ ap k (append-nil S))
    all_ok (a also ds) c S f B cB s u k K =
        let es : Disjs Graph = strip_all ds in
        let ce = sure_can 𝓛 es c.1 in
        let ua : SaysAll 𝓛 S (sure_any (strip_any a)) = says_first 𝓛 S (sure_any (strip_any a)) (sure es) u in
        let ud : SaysAll 𝓛 S (sure es) = says_second 𝓛 S (sure_any (strip_any a)) (sure es) u in
        let here : (x : List Graph) → Fine 𝓛 x → SaysAll 𝓛 x S → dive_all J x ds k ≡ go_through (picks_all ds) x k =
        λ x fx t. all_ok ds c.1 x fx B cB (says_trans 𝓛 x S B fx f cB t s) (says_trans 𝓛 x S (sure es) fx f ce t ud) k K in
        let F : Follows B (λ T. go_through (picks_all ds) T k) = follows_through ds c.1 B cB k K in
        let K' : Follows S (λ T. dive_all J T ds k) = record {
          same = λ x y fx fy t p q. here x fx t ∙ F.same x y fx fy (says_trans 𝓛 x S B fx f cB t s) p q
              ∙ sym (here y fy (says_trans 𝓛 y x S fy fx f.1 q t));
          dead = λ x fx t e. here x fx t ∙ F.dead x fx (says_trans 𝓛 x S B fx f cB t s) e;
        } in
        any_ok a c.0 S f S f.1 (says_within 𝓛 S S f (w_self S)) ua (λ T. dive_all J T ds k) K'
        ∙ through_cong (picks_any a) S S (λ T. dive_all J T ds k) (λ T. go_through (picks_all ds) T k)
        (λ p m. let fp = choices_any_fine 𝓛 (strip_any a) c.0 p.0 (choice_any_of a p m) in
        here (S ++ p.0) (fine_append 𝓛 S p.0 f fp) (says_within 𝓛 (S ++ p.0) S (fine_append 𝓛 S p.0 f fp) (in_l S p.0)))
        ∙ sym (through_pairs (picks_any a) (picks_all ds) S k)

    pub any_ok : (a : Options Graph) → CanAny 𝓛 (strip_any a) → (S : List Graph) → Fine 𝓛 S → (B : List Graph) → All Canonical B →
        SaysAll 𝓛 S B → SaysAll 𝓛 S (sure_any (strip_any a)) → (k : List Graph → Found) → Follows B k →
        dive_any J S a k ≡ go_through (picks_any a) S k
    any_ok no_more c S f B cB s u k K = refl
    any_ok (option x d a) c S f B cB s u k K = go a c u
        (λ v. in_ok d c.0 S f B cB s v k K)
        (dive_ok d c.0 S f.1 B cB (says_on S (flat (strip d)) B f (flat_can 𝓛 (strip d) c.0) cB s) k K)
        (each_ok a c.1 S f B cB s k K)
      where
        go : (a : Options Graph) → CanAny 𝓛 (strip_any (option x d a)) → SaysAll 𝓛 S (sure_any (strip_any (option x d a))) →
            (SaysAll 𝓛 S (flat (strip d)) → dive_in J S d k ≡ go_through (picks d) S k) → dive J S d k ≡ go_through (picks d) S k →
            dive_each J S a k ≡ go_through (picks_any a) S k → dive_any J S (option x d a) k ≡ go_through (picks_any (option x d a)) S k
        go no_more c u i t r = ap (taking x) (i u)
            ∙ sym (through_append (pick_as x (picks d)) [] S k ∙ append-nil (go_through (pick_as x (picks d)) S k)
            ∙ through_as x (picks d) S k)
        go (option y e b) c u i t r = ap₂ {C = Found} ◌++◌ (ap (taking x) t ∙ sym (through_as x (picks d) S k)) r
            ∙ sym (through_append (pick_as x (picks d)) (picks_any (option y e b)) S k)

    pub in_ok : (d : Placed Graph) → Can 𝓛 (strip d) → (S : List Graph) → Fine 𝓛 S → (B : List Graph) → All Canonical B → SaysAll 𝓛 S B →
        SaysAll 𝓛 S (flat (strip d)) → (k : List Graph → Found) → Follows B k → dive_in J S d k ≡ go_through (picks d) S k
    in_ok (place g ds) c S f B cB s u k K =
        let fU : Fine 𝓛 (S ++ g ∷ []) = fine_append 𝓛 S (g ∷ []) f (c.0, tt) in
        all_ok ds c.1 S f B cB s (says_there 𝓛 S g (sure (strip_all ds)) u) k K
        ∙ (follows_through ds c.1 B cB k K).same S (S ++ g ∷ []) f fU s
        (says_append 𝓛 S S (g ∷ []) (says_within 𝓛 S S f (w_self S))
        (says_cons 𝓛 S g [] (says_here 𝓛 S g (sure (strip_all ds)) u) (says_none 𝓛 S)))
        (says_within 𝓛 (S ++ g ∷ []) S fU (in_l S (g ∷ [])))
        ∙ sym (through_each g (picks_all ds) S k)

    pub each_ok : (a : Options Graph) → CanAny 𝓛 (strip_any a) → (S : List Graph) → Fine 𝓛 S → (B : List Graph) → All Canonical B →
        SaysAll 𝓛 S B → (k : List Graph → Found) → Follows B k → dive_each J S a k ≡ go_through (picks_any a) S k
    each_ok no_more c S f B cB s k K = refl
    each_ok (option x d a) c S f B cB s k K =
        ap₂ {C = Found} ◌++◌ (ap (taking x)
        (dive_ok d c.0 S f.1 B cB (says_on S (flat (strip d)) B f (flat_can 𝓛 (strip d) c.0) cB s) k K)
        ∙ sym (through_as x (picks d) S k)) (each_ok a c.1 S f B cB s k K)
        ∙ sym (through_append (pick_as x (picks d)) (picks_any a) S k)

  leaf_follows : Follows [] (leaf_asked J)
  unfolding agree
  leaf_follows = record {
    same = λ c d f h s t u. ap (λ (o : Option Graph). elim (answers o) [ true ↦ [] ∷ [] | false ↦ [] ]) (join_both 𝓛 c d f h t u);
    dead = λ c f s e. ap (λ (o : Option Graph). elim (answers o) [ true ↦ [] ∷ [] | false ↦ [] ]) e;
  }

  -- the search finds each consistent choice, once and in order
  pub search_ok : (d : Placed Graph) → Can 𝓛 (strip d) → search J d ≡ found J (picks d)
  unfolding search
  search_ok d c = dive_cong J d leaf_found (leaf_asked J) (leaf_same J) []
      ∙ dive_ok d c [] tt [] tt (says_none 𝓛 (flat (strip d))) (leaf_asked J) leaf_follows ∙ through_found J (picks d)

  -- as many as there are readings
  pub search_count : (d : Placed Graph) → Can 𝓛 (strip d) → length (search J d) ≡ readings J (strip d)
  unfolding readings
  search_count d c = ap length (search_ok d c) ∙ found_count J (picks d) ∙ ap (agreeing J) (graphs_are d)

  -- it goes through the choices of the disjunctions, on any stack that says what is certain
  pub search_through : (g : Graph) (ds : Places Graph) → Can 𝓛 (strip (place g ds)) → (S : List Graph) →
      Equivalent J Canonical S (flat (strip (place g ds))) → search J (place g ds) ≡ go_through (picks_all ds) S (leaf_asked J)
  search_through g ds c S s = search_ok (place g ds) c ∙ sym (through_found J (picks (place g ds)))
      ∙ through_each g (picks_all ds) [] (leaf_asked J) ∙ through_cong (picks_all ds) (g ∷ []) S (leaf_asked J) (leaf_asked J) same
    where
      same : (p : Pick Graph) → Memᴰ p (picks_all ds) → leaf_asked J (g ∷ p.0) ≡ leaf_asked J (S ++ p.0)
      same p m =
          let es : Disjs Graph = strip_all ds in
          let A = g ∷ p.0 in
          let fp = choices_all_fine 𝓛 es c.1 p.0 (choice_all_of ds p m) in
          let fA : Fine 𝓛 A = fine_cons 𝓛 g p.0 c.0 fp in
          let fB = fine_append 𝓛 S p.0 s.fine₁ fp in
          let all : SaysAll 𝓛 A (g ∷ sure es) = says_within 𝓛 A (g ∷ sure es) fA
          (w_cons g (sure es) A (Memᴰ.head refl) (w_tail g (sure es) p.0 (sure_in es p.0 (choice_all_of ds p m)))) in
          leaf_follows.same A (S ++ p.0) fA fB (says_none 𝓛 A)
          (says_append 𝓛 A S p.0 (says_trans 𝓛 A (g ∷ sure es) S fA s.fine₂ s.fine₁.1 all s.from)
          (says_within 𝓛 A p.0 fA (w_tail g p.0 p.0 (w_self p.0))))
          (says_cons 𝓛 (S ++ p.0) g p.0
          (says_more 𝓛 S (S ++ p.0) g s.fine₁ fB c.0 (in_l S p.0) (s.to g (Memᴰ.head refl)))
          (says_within 𝓛 (S ++ p.0) p.0 fB (in_r S p.0)))
