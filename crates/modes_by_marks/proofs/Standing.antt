-- The passes with the stack of the whole description left standing: what a pass pushes at once is what the next pass would push first.
-- Assumes nothing.
use mathlib.Core.Path.{◌≡◌, refl, ap, sym, ◌∙◌, subst}
use mathlib.Core.Bool.{Bool, true, false}
use mathlib.Core.Option.{Option, none, some}
use mathlib.Core.List.Memᴰ
use mathlib.Core.List.{[], ◌∷◌, ◌++◌, List}
use Rattle.descriptions.specs.Descr.{Alts, Desc, Disjs, ◌and◌, ◌or◌, agree, desc, end, fail}
use Rattle.descriptions.proofs.Laws.{Laws, Within}
use Rattle.descriptions.proofs.Mean.{Can, CanAll, CanAny, Fine, canon_append, fine_append, in_l, in_r, within_both}
use Rattle.descriptions.proofs.Live.{Agrees, not_none}
use Rattle.modes_by_marks.specs.Certain.{flat, sure, sure_any}
use Rattle.modes_by_marks.proofs.Entail.{Says, SaysAll, fine_cons, says_append, says_cons, says_first, says_here, says_none}
use Rattle.modes_by_marks.proofs.Entail.{says_second, says_there, says_trans, says_within, w_cons, w_left, w_right, w_self, w_tail}
use Rattle.modes_by_marks.proofs.Stable.{flat_can, part_all_can, part_any_can, sure_can}
use Rattle.modes_by_marks.proofs.Dropping.{Left, inside, narrow, narrow_any, settle, sift, try}
use Rattle.modes_by_marks.proofs.Passes.{Agreeing, Narrows, agreeing_view, can, cannot, narrow_ok, sift_ok}
use Rattle.modes_by_marks.proofs.Stack.{LeftSame, Same, agree_same, narrow_same}
use Rattle.descriptions.specs.Joining.{Joining}
use Rattle.descriptions.specs.Canonical.{All}

module _ {Graph : Type 0} {J : Joining Graph} (𝓛 : Laws J) where
  open 𝓛 use {Canonical}

  pub record StackOk (S old new stack : List Graph) : Type 0 where
    pub canon : All Canonical new
    pub fine : Fine 𝓛 stack
    pub says : SaysAll 𝓛 stack (S ++ new)
    pub said : SaysAll 𝓛 (S ++ new) stack
    pub grown : Within old new
    pub agrees : Agrees J S → Agrees J stack

  abbrev StackAll : List Graph → Disjs Graph → Option (Left Graph (Disjs Graph)) → Type 0
  StackAll S ds none = Unit {0}
  StackAll S ds (some r) = StackOk S (sure ds) (sure r.left) r.stack

  abbrev StackAny : List Graph → Alts Graph → Option (Left Graph (Alts Graph)) → Type 0
  StackAny S a none = Unit {0}
  StackAny S a (some r) = StackOk S (sure_any a) (sure_any r.left) r.stack

  abbrev StackIn : List Graph → Desc Graph → Option (Left Graph (Desc Graph)) → Type 0
  StackIn S d none = Unit {0}
  StackIn S d (some r) = StackOk S (flat d) (flat r.left) r.stack

  stands : (S : List Graph) → Fine 𝓛 S → StackOk S [] [] S
  stands S f = record {
    canon = tt;
    fine = f;
    says = says_append 𝓛 S S [] (says_within 𝓛 S S f (w_self S)) (says_none 𝓛 S);
    said = says_within 𝓛 (S ++ []) S (fine_append 𝓛 S [] f tt) (in_l S []);
    grown = w_self [];
    agrees = λ a. a;
  }

  stack_all : (S : List Graph) → Fine 𝓛 S → (a : Alts Graph) (ds : Disjs Graph) → (o : Option (Left Graph (Alts Graph))) → StackAny S a o →
      (k : List Graph → Option (Left Graph (Disjs Graph))) → ((T : List Graph) → Fine 𝓛 T → SaysAll 𝓛 T S → StackAll T ds (k T)) →
      StackAll S (a and ds) (elim o [
        | none ↦ none
        | some r ↦ elim (k r.stack) [ none ↦ none | some u ↦ some (record { stack = u.stack; left = r.left and u.left }) ]
      ])
  stack_all S f a ds none A k K = tt
  stack_all S f a ds (some r) A k K = go (k r.stack) (K r.stack A.fine (says_first 𝓛 r.stack S (sure_any r.left) A.says))
    where
      X : List Graph
      X = sure_any r.left

      go : (o : Option (Left Graph (Disjs Graph))) → StackAll r.stack ds o →
          StackAll S (a and ds) (elim o [ none ↦ none | some u ↦ some (record { stack = u.stack; left = r.left and u.left }) ])
      go none N = tt
      go (some u) N =
          let Y : List Graph = sure u.left in
          let U : List Graph = u.stack in
          let T : List Graph = r.stack in
          let cxy : All Canonical (X ++ Y) = canon_append 𝓛 X Y A.canon N.canon in
          let W : List Graph = S ++ (X ++ Y) in
          let fW : Fine 𝓛 W = fine_append 𝓛 S (X ++ Y) f cxy in
          let fSX : Fine 𝓛 (S ++ X) = fine_append 𝓛 S X f A.canon in
          let ut : SaysAll 𝓛 U T = says_first 𝓛 U T Y N.says in
          let usx : SaysAll 𝓛 U (S ++ X) = says_trans 𝓛 U T (S ++ X) N.fine A.fine fSX.1 ut A.says in
          let wt : SaysAll 𝓛 W T = says_trans 𝓛 W (S ++ X) T fW fSX A.fine.1
          (says_within 𝓛 W (S ++ X) fW (within_both S X W (in_l S (X ++ Y)) (w_right X S (X ++ Y) (in_l X Y)))) A.said in
          let wy : SaysAll 𝓛 W Y = says_within 𝓛 W Y fW (w_right Y S (X ++ Y) (in_r X Y)) in
          record {
            canon = cxy;
            fine = N.fine;
            says = says_append 𝓛 U S (X ++ Y) (says_first 𝓛 U S X usx)
                (says_append 𝓛 U X Y (says_second 𝓛 U S X usx) (says_second 𝓛 U T Y N.says));
            said = says_trans 𝓛 W (T ++ Y) U fW (fine_append 𝓛 T Y A.fine N.canon) N.fine.1 (says_append 𝓛 W T Y wt wy) N.said;
            grown = within_both (sure_any a) (sure ds) (X ++ Y) (w_left (sure_any a) X Y A.grown) (w_right (sure ds) X Y N.grown);
            agrees = λ s. N.agrees (A.agrees s);
          }

  stack_in : (S : List Graph) → Fine 𝓛 S → (g : Graph) → Canonical g → (ds : Disjs Graph) → Says 𝓛 S g →
      (o : Option (Left Graph (Disjs Graph))) → StackAll S ds o →
      StackIn S (desc g ds) (elim o [ none ↦ none | some r ↦ some (record { stack = r.stack; left = desc g r.left }) ])
  stack_in S f g cg ds s none N = tt
  stack_in S f g cg ds s (some r) N =
      let Y : List Graph = sure r.left in
      let T : List Graph = r.stack in
      let W : List Graph = S ++ g ∷ Y in
      let fW : Fine 𝓛 W = fine_append 𝓛 S (g ∷ Y) f (cg, N.canon) in
      let tg : SaysAll 𝓛 T (g ∷ []) =
      says_trans 𝓛 T S (g ∷ []) N.fine f (cg, tt) (says_first 𝓛 T S Y N.says) (says_cons 𝓛 S g [] s (says_none 𝓛 S)) in
      record {
        canon = (cg, N.canon);
        fine = N.fine;
        says = says_append 𝓛 T S (g ∷ Y) (says_first 𝓛 T S Y N.says)
            (says_cons 𝓛 T g Y (says_here 𝓛 T g [] tg) (says_second 𝓛 T S Y N.says));
        said = says_trans 𝓛 W (S ++ Y) T fW (fine_append 𝓛 S Y f N.canon) N.fine.1
            (says_within 𝓛 W (S ++ Y) fW (within_both S Y W (in_l S (g ∷ Y)) (w_right Y S (g ∷ Y) (w_tail g Y Y (w_self Y))))) N.said;
        grown = w_cons g (sure ds) (g ∷ Y) (Memᴰ.head refl) (w_tail g (sure ds) Y N.grown);
        agrees = N.agrees;
      }

  stack_lone : (S : List Graph) (d : Desc Graph) (o : Option (Left Graph (Desc Graph))) → StackIn S d o →
      StackAny S (d or fail) (elim o [ none ↦ none | some r ↦ some (record { stack = r.stack; left = r.left or fail }) ])
  stack_lone S d none I = tt
  stack_lone S d (some r) I = I

  stack_settle : (S : List Graph) → Fine 𝓛 S → (d e : Desc Graph) (a b : Alts Graph) → CanAny 𝓛 b →
      StackAny S (d or (e or a)) (settle J S b)
  stack_settle S f d e a fail c = tt
  stack_settle S f d e a (x or fail) c = go (agree J (S ++ flat x)) (agreeing_view J (S ++ flat x))
    where
      cx : All Canonical (flat x)
      cx = flat_can 𝓛 x c.0

      fT : Fine 𝓛 (S ++ flat x)
      fT = fine_append 𝓛 S (flat x) f cx

      go : (t : Bool) → Agreeing J (S ++ flat x) t →
          StackAny S (d or (e or a)) (elim t [ false ↦ none | true ↦ some (record { stack = S ++ flat x; left = x or fail }) ])
      go false v = tt
      go true (can g) = record {
        canon = cx;
        fine = fT;
        says = says_within 𝓛 (S ++ flat x) (S ++ flat x) fT (w_self (S ++ flat x));
        said = says_within 𝓛 (S ++ flat x) (S ++ flat x) fT (w_self (S ++ flat x));
        grown = λ y m. absurd (Memᴰ.not-nil m);
        agrees = λ s. g;
      }
  stack_settle S f d e a (x or (y or b)) c = stands S f

  mutual
    unfolding try

    pub stack_ok : (ds : Disjs Graph) → CanAll 𝓛 ds → (S : List Graph) → Fine 𝓛 S → SaysAll 𝓛 S (sure ds) → StackAll S ds (narrow J S ds)
    stack_ok end c S f s = stands S f
    stack_ok (a and ds) c S f s = stack_all S f a ds (narrow_any J S a)
        (stack_any_ok a c.0 S f (says_first 𝓛 S (sure_any a) (sure ds) s)) (λ T. narrow J T ds)
        (λ T fT t. stack_ok ds c.1 T fT
        (says_trans 𝓛 T S (sure ds) fT f (sure_can 𝓛 ds c.1) t (says_second 𝓛 S (sure_any a) (sure ds) s)))

    stack_any_ok : (a : Alts Graph) → CanAny 𝓛 a → (S : List Graph) → Fine 𝓛 S → SaysAll 𝓛 S (sure_any a) → StackAny S a (narrow_any J S a)
    stack_any_ok fail c S f s = tt
    stack_any_ok (d or a) c S f s = go a c s (λ t. stack_in_ok d c.0 S f t)
      where
        go : (a : Alts Graph) → CanAny 𝓛 (d or a) → SaysAll 𝓛 S (sure_any (d or a)) → (SaysAll 𝓛 S (flat d) → StackIn S d (inside J S d)) →
            StackAny S (d or a) (narrow_any J S (d or a))
        go fail c s i = stack_lone S d (inside J S d) (i s)
        go (e or b) c s i =
            let x : Alts Graph = elim (try J S d) [ none ↦ sift J S (e or b) | some f ↦ f or sift J S (e or b) ] in
            stack_settle S f d e b x (part_any_can 𝓛 (d or (e or b)) x (sift_ok 𝓛 (d or (e or b)) c S f.1).part c)

    stack_in_ok : (d : Desc Graph) → Can 𝓛 d → (S : List Graph) → Fine 𝓛 S → SaysAll 𝓛 S (flat d) → StackIn S d (inside J S d)
    stack_in_ok (desc g ds) c S f s =
        stack_in S f g c.0 ds (says_here 𝓛 S g (sure ds) s) (narrow J S ds) (stack_ok ds c.1 S f (says_there 𝓛 S g (sure ds) s))

  -- a pass on a stack that joins alike leaves the same, and a stack that joins alike with what is then certain
  module _ (g : Graph) (ds : Disjs Graph) (c : Can 𝓛 (desc g ds)) (T : List Graph) (s : Same 𝓛 T (g ∷ sure ds)) (a : Agrees J T) where
    pub agreed : agree J (g ∷ sure ds) ≡ true
    agreed = sym (agree_same 𝓛 T (g ∷ sure ds) s) ∙ yes_agree (agree J T) (agreeing_view J T)
      where
        yes_agree : (t : Bool) → Agreeing J T t → t ≡ true
        yes_agree true v = refl
        yes_agree false (cannot z) = absurd (not_none J T a z)

    pub standing_try : try J [] (desc g ds) ≡ elim (narrow J T ds) [ none ↦ none | some r ↦ some (desc g r.left) ]
    unfolding try
    standing_try =
        ap {B = Option (Desc Graph)} (λ
        (t : Bool). elim t [
          | false ↦ none
          | true ↦ elim (narrow J (g ∷ sure ds) ds) [ none ↦ none | some r ↦ some (desc g r.left) ]
        ]) agreed
        ∙ sym (go (narrow J T ds) (narrow J (g ∷ sure ds) ds) (narrow_same 𝓛 ds c.1 T (g ∷ sure ds) s))
      where
        go : (o q : Option (Left Graph (Disjs Graph))) → LeftSame 𝓛 (Disjs Graph) o q →
            ◌≡◌ {A = Option (Desc Graph)} (elim o [ none ↦ none | some r ↦ some (desc g r.left) ])
            (elim q [ none ↦ none | some r ↦ some (desc g r.left) ])
        go none none l = refl
        go none (some q) l = absurd l
        go (some r) none l = absurd l
        go (some r) (some q) l = ap (λ (z : Disjs Graph). some (desc g z)) l.0

    module _ (r : Left Graph (Disjs Graph)) (e : narrow J T ds ≡ some r) where
      k : StackOk T (sure ds) (sure r.left) r.stack
      k = subst (StackAll T ds) e (stack_ok ds c.1 T s.fine₁ (says_there 𝓛 T g (sure ds) s.to))

      pub standing_can : Can 𝓛 (desc g r.left)
      standing_can = (c.0, part_all_can 𝓛 ds r.left (subst (Narrows 𝓛 T ds) e (narrow_ok 𝓛 ds c.1 T s.fine₁)).part c.1)

      pub standing_agrees : Agrees J r.stack
      standing_agrees = k.agrees a

      pub standing_same : Same 𝓛 r.stack (g ∷ sure r.left)
      standing_same =
          let U : List Graph = r.stack in
          let Y : List Graph = sure r.left in
          let New : List Graph = g ∷ Y in
          let fN : Fine 𝓛 New = fine_cons 𝓛 g Y c.0 (sure_can 𝓛 r.left standing_can.1) in
          let nt : SaysAll 𝓛 New T = says_trans 𝓛 New (g ∷ sure ds) T fN s.fine₂ s.fine₁.1
          (says_within 𝓛 New (g ∷ sure ds) fN (w_cons g (sure ds) New (Memᴰ.head refl) (w_tail g (sure ds) Y k.grown)))
          s.from in
          let ut : SaysAll 𝓛 U T = says_first 𝓛 U T Y k.says in
          record {
            fine₁ = k.fine;
            fine₂ = fN;
            to = says_cons 𝓛 U g Y (says_here 𝓛 U g (sure ds)
                (says_trans 𝓛 U T (g ∷ sure ds) k.fine s.fine₁ s.fine₂.1 ut s.to)) (says_second 𝓛 U T Y k.says);
            from = says_trans 𝓛 New (T ++ Y) U fN (fine_append 𝓛 T Y s.fine₁ k.canon) k.fine.1
                (says_append 𝓛 New T Y nt (says_within 𝓛 New Y fN (w_tail g Y Y (w_self Y)))) k.said;
          }
