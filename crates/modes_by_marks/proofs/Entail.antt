-- What a list of graphs says: a graph that may be joined to it with no effect. Order and repetition do not count, and a join stands
-- for what it joins.
-- Assumes nothing.
use mathlib.Core.Path.{◌≡◌, refl, ap, sym, ◌∙◌, subst}
use mathlib.Core.Logic.{◌⊎◌, ⊎_elim}
use mathlib.Core.Option.{Option, none, some}
use mathlib.Core.List.Memᴰ
use mathlib.Core.List.{[], ◌∷◌, ◌++◌, append-nil, Memᴰ}
use mathlib.Core.List.{List}
use Prim.Native.Nat.{ℕ}
use native.Mathlib.Omega.{arith}
use lib.ListN.{length-append}
use Rattle.descriptions.proofs.Laws.{Laws, Within}
use Rattle.descriptions.proofs.Mean.{Alike, Fine, alike_flat, canon_append, clash_stays, fine_append, in_l, in_r, join_canonical}
use Rattle.descriptions.proofs.Mean.{within_both}
use Rattle.descriptions.proofs.Live.{Agrees}
use Rattle.descriptions.proofs.Modes.{join_order}
use Rattle.descriptions.specs.Joining.{Joining}
use Rattle.descriptions.specs.Canonical.{All}

module _ {Graph : Type 0} where
  pub w_self : (a : List Graph) → Within a a
  w_self a g m = m

  pub w_left : (a b c : List Graph) → Within a b → Within a (b ++ c)
  w_left a b c w g m = Memᴰ.append_left c (w g m)

  pub w_right : (a b c : List Graph) → Within a c → Within a (b ++ c)
  w_right a b c w g m = Memᴰ.append_right b (w g m)

  pub w_cons : (x : Graph) (a b : List Graph) → Memᴰ x b → Within a b → Within (x ∷ a) b
  w_cons x a b m w = within_both (x ∷ []) a b
      (λ g i. ⊎_elim (λ e. subst (λ (z : Graph). Memᴰ z b) (sym e) m) (λ j. absurd (Memᴰ.not-nil j)) (Memᴰ.cases_cons i)) w

  pub w_tail : (x : Graph) (a b : List Graph) → Within a b → Within a (x ∷ b)
  w_tail x a b w g m = Memᴰ.tail (w g m)

  pub w_trans : (a b c : List Graph) → Within a b → Within b c → Within a c
  w_trans a b c w v g m = v g (w g m)

module _ {Graph : Type 0} {J : Joining Graph} (𝓛 : Laws J) where
  open J use {join}
  open 𝓛 use {Canonical}

  -- joining g to A changes nothing
  abbrev pub Says : List Graph → Graph → Type 0
  Says = Rattle.modes_by_marks.specs.Stack.Says J Canonical

  abbrev pub SaysAll : List Graph → List Graph → Type 0
  SaysAll = Rattle.modes_by_marks.specs.Stack.SaysAll J Canonical

  pub fine_cons : (g : Graph) (a : List Graph) → Canonical g → All Canonical a → Fine 𝓛 (g ∷ a)
  fine_cons g a p q = (omega arith, (p, q))

  pub fine_before : (a b : List Graph) → All Canonical a → Fine 𝓛 b → Fine 𝓛 (a ++ b)
  fine_before a b p q = let l = q.0 in (simp length-append (omega arith), canon_append 𝓛 a b p q.1)

  -- A says what it holds
  pub says_in : (A : List Graph) (g : Graph) → Fine 𝓛 A → Canonical g → Memᴰ g A → Says A g
  says_in A g f c m hs h = join_order 𝓛 (A ++ hs) (A ++ g ∷ hs) (fine_append 𝓛 A hs f h) (fine_append 𝓛 A (g ∷ hs) f (c, h))
      (within_both A hs (A ++ g ∷ hs) (in_l A (g ∷ hs)) (w_right hs A (g ∷ hs) (w_tail g hs hs (w_self hs))))
      (within_both A (g ∷ hs) (A ++ hs) (in_l A hs) (w_cons g hs (A ++ hs) (Memᴰ.append_left hs m) (in_r A hs)))

  pub canon_in : (B : List Graph) → All Canonical B → (g : Graph) → Memᴰ g B → Canonical g
  canon_in [] p g m = absurd (Memᴰ.not-nil m)
  canon_in (b ∷ B) p g m = ⊎_elim (λ e. subst Canonical (sym e) p.0) (canon_in B p.1 g) (Memᴰ.cases_cons m)

  pub says_within : (A B : List Graph) → Fine 𝓛 A → Within B A → SaysAll A B
  says_within A B f w g m = says_in A g f (canon_in A f.1 g (w g m)) (w g m)

  pub says_list : (A B hs : List Graph) → All Canonical B → All Canonical hs → SaysAll A B → join (A ++ hs) ≡ join (A ++ (B ++ hs))
  says_list A [] hs p h s = refl
  says_list A (b ∷ B) hs p h s = says_list A B hs p.1 h (λ g m. s g (Memᴰ.tail m))
      ∙ s b (Memᴰ.head refl) (B ++ hs) (canon_append 𝓛 B hs p.1 h)

  -- more graphs say more
  pub says_more : (A B : List Graph) (g : Graph) → Fine 𝓛 A → Fine 𝓛 B → Canonical g → Within A B → Says A g → Says B g
  says_more A B g fa fb c w s hs h =
      let bh : All Canonical (B ++ hs) = canon_append 𝓛 B hs fb.1 h in
      join_order 𝓛 (B ++ hs) (A ++ (B ++ hs)) (fine_append 𝓛 B hs fb h) (fine_append 𝓛 A (B ++ hs) fa bh) (in_r A (B ++ hs))
      (within_both A (B ++ hs) (B ++ hs) (w_left A B hs w) (w_self (B ++ hs)))
      ∙ s (B ++ hs) bh
      ∙ join_order 𝓛 (A ++ g ∷ (B ++ hs)) (B ++ g ∷ hs) (fine_append 𝓛 A (g ∷ (B ++ hs)) fa (c, bh)) (fine_append 𝓛 B (g ∷ hs) fb (c, h))
      (within_both A (g ∷ (B ++ hs)) (B ++ g ∷ hs) (w_left A B (g ∷ hs) w)
      (w_cons g (B ++ hs) (B ++ g ∷ hs) (Memᴰ.append_right B (Memᴰ.head refl))
      (within_both B hs (B ++ g ∷ hs) (in_l B (g ∷ hs)) (w_right hs B (g ∷ hs) (w_tail g hs hs (w_self hs))))))
      (within_both B (g ∷ hs) (A ++ g ∷ (B ++ hs)) (w_right B A (g ∷ (B ++ hs)) (w_tail g B (B ++ hs) (in_l B hs)))
      (w_cons g hs (A ++ g ∷ (B ++ hs)) (Memᴰ.append_right A (Memᴰ.head refl))
      (w_right hs A (g ∷ (B ++ hs)) (w_tail g hs (B ++ hs) (in_r B hs)))))

  -- what is said by what A says, A says
  pub says_cut : (A B : List Graph) (g : Graph) → Fine 𝓛 A → Fine 𝓛 B → Canonical g → SaysAll A B → Says B g → Says A g
  says_cut A B g fa fb c s t hs h =
      let ah : All Canonical (A ++ hs) = canon_append 𝓛 A hs fa.1 h in
      let bh : All Canonical (B ++ hs) = canon_append 𝓛 B hs fb.1 h in
      let bgh : All Canonical (B ++ g ∷ hs) = canon_append 𝓛 B (g ∷ hs) fb.1 (c, h) in
      says_list A B hs fb.1 h s
      ∙ join_order 𝓛 (A ++ (B ++ hs)) (B ++ (A ++ hs)) (fine_append 𝓛 A (B ++ hs) fa bh) (fine_append 𝓛 B (A ++ hs) fb ah) (move A B hs)
      (move B A hs)
      ∙ t (A ++ hs) ah
      ∙ join_order 𝓛 (B ++ g ∷ (A ++ hs)) (A ++ (B ++ g ∷ hs)) (fine_append 𝓛 B (g ∷ (A ++ hs)) fb (c, ah))
      (fine_append 𝓛 A (B ++ g ∷ hs) fa bgh)
      (within_both B (g ∷ (A ++ hs)) (A ++ (B ++ g ∷ hs)) (w_right B A (B ++ g ∷ hs) (in_l B (g ∷ hs)))
      (w_cons g (A ++ hs) (A ++ (B ++ g ∷ hs)) (Memᴰ.append_right A (Memᴰ.append_right B (Memᴰ.head refl)))
      (within_both A hs (A ++ (B ++ g ∷ hs)) (in_l A (B ++ g ∷ hs))
      (w_right hs A (B ++ g ∷ hs) (w_right hs B (g ∷ hs) (w_tail g hs hs (w_self hs)))))))
      (within_both A (B ++ g ∷ hs) (B ++ g ∷ (A ++ hs)) (w_right A B (g ∷ (A ++ hs)) (w_tail g A (A ++ hs) (in_l A hs)))
      (within_both B (g ∷ hs) (B ++ g ∷ (A ++ hs)) (in_l B (g ∷ (A ++ hs)))
      (w_cons g hs (B ++ g ∷ (A ++ hs)) (Memᴰ.append_right B (Memᴰ.head refl))
      (w_right hs B (g ∷ (A ++ hs)) (w_tail g hs (A ++ hs) (in_r A hs))))))
      ∙ sym (says_list A B (g ∷ hs) fb.1 (c, h) s)
    where
      move : (x y z : List Graph) → Within (x ++ (y ++ z)) (y ++ (x ++ z))
      move x y z = within_both x (y ++ z) (y ++ (x ++ z)) (w_right x y (x ++ z) (in_l x z))
          (within_both y z (y ++ (x ++ z)) (in_l y (x ++ z)) (w_right z y (x ++ z) (in_r x z)))

  pub says_trans : (A B C : List Graph) → Fine 𝓛 A → Fine 𝓛 B → All Canonical C → SaysAll A B → SaysAll B C → SaysAll A C
  says_trans A B C fa fb fc s t g m = says_cut A B g fa fb (canon_in C fc g m) s (t g m)

  -- what A says of two lists, it says of both together
  pub says_append : (A B C : List Graph) → SaysAll A B → SaysAll A C → SaysAll A (B ++ C)
  says_append A B C s t g m = ⊎_elim (s g) (t g) (Memᴰ.append_cases B m)

  pub says_cons : (A : List Graph) (g : Graph) (C : List Graph) → Says A g → SaysAll A C → SaysAll A (g ∷ C)
  says_cons A g C s t x m = ⊎_elim (λ e. subst (Says A) (sym e) s) (t x) (Memᴰ.cases_cons m)

  pub says_here : (c : List Graph) (x : Graph) (l : List Graph) → SaysAll c (x ∷ l) → Says c x
  says_here c x l s = s x (Memᴰ.head refl)

  pub says_there : (c : List Graph) (x : Graph) (l : List Graph) → SaysAll c (x ∷ l) → SaysAll c l
  says_there c x l s g m = s g (Memᴰ.tail m)

  pub says_first : (c a b : List Graph) → SaysAll c (a ++ b) → SaysAll c a
  says_first c a b s g m = s g (Memᴰ.append_left b m)

  pub says_second : (c a b : List Graph) → SaysAll c (a ++ b) → SaysAll c b
  says_second c a b s g m = s g (Memᴰ.append_right a m)

  pub says_none : (c : List Graph) → SaysAll c []
  says_none c g m = absurd (Memᴰ.not-nil m)

  -- what stands for others in every join says them, and they say it
  pub stands_says : (gs : List Graph) → Fine 𝓛 gs → (K : Graph) → Alike 𝓛 (K ∷ []) gs → SaysAll (K ∷ []) gs
  stands_says gs f K a g m hs h =
      let c : Canonical g = canon_in gs f.1 g m in
      a hs h ∙ says_in gs g f c m hs h ∙ sym (a (g ∷ hs) (c, h))

  pub says_stands : (gs : List Graph) → Fine 𝓛 gs → (K : Graph) → Canonical K → Alike 𝓛 (K ∷ []) gs → Says gs K
  says_stands gs f K cK a hs h =
      let gh : All Canonical (gs ++ hs) = canon_append 𝓛 gs hs f.1 h in
      join_order 𝓛 (gs ++ hs) (gs ++ (gs ++ hs)) (fine_append 𝓛 gs hs f h) (fine_append 𝓛 gs (gs ++ hs) f gh) (in_r gs (gs ++ hs))
      (within_both gs (gs ++ hs) (gs ++ hs) (in_l gs hs) (w_self (gs ++ hs)))
      ∙ sym (a (gs ++ hs) gh)
      ∙ join_order 𝓛 (K ∷ (gs ++ hs)) (gs ++ K ∷ hs) (fine_cons K (gs ++ hs) cK gh) (fine_append 𝓛 gs (K ∷ hs) f (cK, h))
      (w_cons K (gs ++ hs) (gs ++ K ∷ hs) (Memᴰ.append_right gs (Memᴰ.head refl))
      (within_both gs hs (gs ++ K ∷ hs) (in_l gs (K ∷ hs)) (w_right hs gs (K ∷ hs) (w_tail K hs hs (w_self hs)))))
      (within_both gs (K ∷ hs) (K ∷ (gs ++ hs)) (w_tail K gs (gs ++ hs) (in_l gs hs))
      (w_cons K hs (K ∷ (gs ++ hs)) (Memᴰ.head refl) (w_tail K hs (gs ++ hs) (in_r gs hs))))

  -- a join stands for what it joins
  pub join_says : (gs : List Graph) → Fine 𝓛 gs → (K : Graph) → join gs ≡ some K → SaysAll (K ∷ []) gs
  join_says gs f K e = stands_says gs f K (alike_flat 𝓛 gs f K e)

  pub says_join : (gs : List Graph) → Fine 𝓛 gs → (K : Graph) → join gs ≡ some K → Says gs K
  says_join gs f K e = says_stands gs f K (join_canonical 𝓛 gs f K e) (alike_flat 𝓛 gs f K e)

  -- what agrees agrees with all that it says
  pub agrees_says : (A B : List Graph) → Fine 𝓛 A → Fine 𝓛 B → SaysAll A B → Agrees J A → Agrees J B
  agrees_says A B fa fb s a = go (join B) refl
    where
      bn : All Canonical (B ++ [])
      bn = canon_append 𝓛 B [] fb.1 tt

      e : join A ≡ join (A ++ (B ++ []))
      e = sym (ap join (append-nil A)) ∙ says_list A B [] fb.1 tt s

      go : (o : Option Graph) → join B ≡ o → Agrees J B
      go none h =
          let n : join (A ++ (B ++ [])) ≡ none =
          clash_stays 𝓛 B (A ++ (B ++ [])) fb (fine_append 𝓛 A (B ++ []) fa bn) (w_right B A (B ++ []) (in_l B [])) h in
          let p : some a.0 ≡ none = sym a.1 ∙ e ∙ n in
          let z : ◌≡◌ {A = ℕ} 0 1 = cc in absurd (omega arith)
      go (some K) h = (K, h)

  -- two lists that say each other join alike
  pub join_both : (A B : List Graph) → Fine 𝓛 A → Fine 𝓛 B → SaysAll A B → SaysAll B A → join A ≡ join B
  join_both A B fa fb s t =
      sym (ap join (append-nil A)) ∙ says_list A B [] fb.1 tt s ∙ ap (λ (z : List Graph). join (A ++ z)) (append-nil B)
      ∙ join_order 𝓛 (A ++ B) (B ++ A) (fine_append 𝓛 A B fa fb.1) (fine_append 𝓛 B A fb fa.1)
      (within_both A B (B ++ A) (in_r B A) (in_l B A)) (within_both B A (A ++ B) (in_r A B) (in_l A B))
      ∙ sym (ap (λ (z : List Graph). join (B ++ z)) (append-nil A)) ∙ sym (says_list B A [] fa.1 tt t) ∙ ap join (append-nil B)

  -- what A says already may be left out of what comes after it
  pub join_without : (A B C : List Graph) → Fine 𝓛 A → All Canonical B → All Canonical C → Within C B →
      ((g : Graph) → Memᴰ g B → Memᴰ g C ⊎ Says A g) → join (A ++ B) ≡ join (A ++ C)
  join_without A B C f b c w s =
      let fb = fine_append 𝓛 A B f b in
      let fc = fine_append 𝓛 A C f c in
      join_both (A ++ B) (A ++ C) fb fc
      (says_within (A ++ B) (A ++ C) fb (within_both A C (A ++ B) (in_l A B) (w_right C A B w)))
      (says_append (A ++ C) A B (says_within (A ++ C) A fc (in_l A C))
      (λ g m. ⊎_elim (λ i. says_within (A ++ C) C fc (in_r A C) g i)
      (λ t. says_more A (A ++ C) g f fc (canon_in B b g m) (in_l A C) t) (s g m)))
