-- `unified` gives exactly the answers of the table, one for each input.
-- Assumes nothing.
use mathlib.Core.Path.{◌≡◌, refl, ap, sym, ◌∙◌, subst}
use mathlib.Core.Logic.{inl, inr, ◌↔◌}
use mathlib.Core.Bool.{Bool, true, false, ◌||◌}
use mathlib.Core.Option.{Option, none, some}
use mathlib.Core.List.{List, [], ◌∷◌, ◌++◌}
use Prim.Native.Nat.{ℕ, zero, suc, ◌≤◌, ◌<◌}
use native.Mathlib.Omega.{arith}
use lib.ListN.{length, drop}
use lib.Dec.{ltb}
use borrow.Author.Tests.{le-ltb, lt-ltb}
use Rattle.descriptions.specs.Limits.{choice_limit, depth_limit, input_limit, working_size}
use Rattle.descriptions.specs.Descr.{Desc, agree, agreeing, ◌then◌, choices, definite_graph, desc, number, readings}
use Rattle.descriptions.specs.Modes.{fold, full, joined, prune, quick, some_agree}
use Rattle.descriptions.specs.Call.{Call}
use Rattle.descriptions.specs.Answer.{Answer, clash_at, consistent, no_room, refuse, success}
use Rattle.descriptions.specs.Outcome.{Areas, Outcome, Row, worked}
use Rattle.descriptions.specs.Unified.{beyond, complete, deliver, deliver_or, in_mode, unified}
use Rattle.descriptions.specs.Rules.{Accepted, Clashes, Given, TooMany, done, eight, eleven, five, four, mode_readings, mode_result}
use Rattle.descriptions.specs.Rules.{one, seven, six, ten, three, two}
use Rattle.descriptions.proofs.Tests.{Tells, fails, holds, none_is, tells_lt}
use Rattle.descriptions.proofs.Layouts.{Decoded, Reads, is, malformed}
use Rattle.descriptions.proofs.Full.{whole}
use Rattle.descriptions.specs.Joining.{Joining}
use Rattle.descriptions.specs.Layout.{Layout}
use Rattle.descriptions.proofs.Laws.{Laws}

is_short : (ws : List ℕ) → length ws ≤ input_limit → ltb input_limit (length ws) ≡ false
is_short ws = le-ltb input_limit (length ws)

is_long : (ws : List ℕ) → input_limit < length ws → ltb input_limit (length ws) ≡ true
is_long ws = lt-ltb input_limit (length ws)

module _ {Graph : Type 0} (𝓕 : Layout Graph) where
  open 𝓕 use {words}

  deliver_none : (n room k : ℕ) → deliver_or 𝓕 n room k none ≡ refuse n
  unfolding deliver_or
  deliver_none n room k = refl

  deliver_some : (n room k : ℕ) (r : Desc Graph) → deliver_or 𝓕 n room k (some r) ≡ deliver 𝓕 room k r
  unfolding deliver_or
  deliver_some n room k r = refl

  deliver_eight : (room n : ℕ) (r : Desc Graph) → room < length (words r) → deliver 𝓕 room n r ≡ no_room (length (words r))
  unfolding deliver
  deliver_eight room n r h = rw (lt-ltb room (length (words r)) h, deliver)

  deliver_done : (room n : ℕ) (r : Desc Graph) → length (words r) ≤ room → deliver 𝓕 room n r ≡ success n (words r)
  unfolding deliver
  deliver_done room n r h = rw (le-ltb room (length (words r)) h, deliver)

module _ {Graph : Type 0} (J : Joining Graph) where
  open J use {join}

  -- a quick result is there only where the join is
  pub quick_joined : (d e : Desc Graph) → joined J d e ≡ none → quick J d e ≡ none
  unfolding quick
  quick_joined d e h = rw (h, quick)

  -- the definite graphs clash where the descriptions do not join
  pub joined_clash : (d e : Desc Graph) → joined J d e ≡ none → join (definite_graph d ∷ definite_graph e ∷ []) ≡ none
  unfolding joined
  joined_clash (desc g ds) (desc h es) n = go (join (g ∷ h ∷ [])) n
    where
      go : (o : Option Graph) → ◌≡◌ {A = Option (Desc Graph)} (elim o [ none ↦ none | some k ↦ some (desc k (ds then es)) ]) none →
          o ≡ none
      go none q = refl
      go (some k) q = let z : ◌≡◌ {A = ℕ} 0 1 = cc in absurd (omega arith)

  -- no consistent choice
  agreeing_none : (l : List (List Graph)) → some_agree J l ≡ false → agreeing J l ≡ 0
  unfolding some_agree agreeing
  agreeing_none [] h = refl
  agreeing_none (c ∷ l) h = go (agree J c) (agreeing_none l) h
    where
      go : (t : Bool) → (some_agree J l ≡ false → agreeing J l ≡ 0) →
          ◌≡◌ {A = Bool} (elim t [ true ↦ true | false ↦ some_agree J l ]) false →
          ◌≡◌ {A = ℕ} (elim t [ true ↦ suc (agreeing J l) | false ↦ agreeing J l ]) 0
      go true s h = let z : ◌≡◌ {A = ℕ} 0 1 = cc in absurd (omega arith)
      go false s h = s h

  agreeing_some : (l : List (List Graph)) → some_agree J l ≡ true → 0 < agreeing J l
  unfolding some_agree agreeing
  agreeing_some [] h = let z : ◌≡◌ {A = ℕ} 0 1 = cc in absurd (omega arith)
  agreeing_some (c ∷ l) h = go (agree J c) (agreeing_some l) h
    where
      go : (t : Bool) → (some_agree J l ≡ true → 0 < agreeing J l) → ◌≡◌ {A = Bool} (elim t [ true ↦ true | false ↦ some_agree J l ]) true →
          0 < elim t [ true ↦ suc (agreeing J l) | false ↦ agreeing J l ]
      go true s h = omega arith
      go false s h = s h

  pub data FullView (d e : Desc Graph) : Option (Desc Graph) → Type 0 where
    full_some : (r : Desc Graph) → 0 < consistent J d e → FullView d e (some r)
    full_none : consistent J d e ≡ 0 → FullView d e none

  clash_zero : (d e r : Desc Graph) → joined J d e ≡ some r → ¬ (Clashes J 0 d e)
  clash_zero d e r h (inl p) = none_is r (sym p ∙ h)
  clash_zero d e r h (inr p) = let l = p.0 in omega (arith, l)

  clash_more : (mode : ℕ) (d e q : Desc Graph) → quick J d e ≡ some q → ¬ (Clashes J mode d e)
  clash_more mode d e q h (inl p) = none_is q (sym (quick_joined d e p) ∙ h)
  clash_more mode d e q h (inr p) = none_is q (sym p.1 ∙ h)

  few : (mode : ℕ) (d e : Desc Graph) → mode < 2 → ¬ (TooMany J mode d e)
  few mode d e h p = let l = p.0 in omega (arith, l)

  few_two : (mode : ℕ) (d e q : Desc Graph) → quick J d e ≡ some q → ¬ (choice_limit < number q) → ¬ (TooMany J mode d e)
  few_two mode d e q h n (l, p, s, m) = let k : some p ≡ some q = sym s ∙ h in let i : p ≡ q = cc in
      n (subst (λ (z : Desc Graph). choice_limit < number z) i m)

module _ {Graph : Type 0} (J : Joining Graph) (𝓕 : Layout Graph) where
  open 𝓕 use {words}

  pub full_view : (d e : Desc Graph) → FullView J d e (full J d e)
  unfolding full consistent readings
  full_view d e = go (joined J d e) refl
    where
      two : (j : Desc Graph) → joined J d e ≡ some j → (t : Bool) → some_agree J (choices j) ≡ t →
          FullView J d e (elim t [ true ↦ some (fold J (prune J whole j)) | false ↦ none ])
      two j h true s = full_some (fold J (prune J whole j)) (rw (h, consistent) (agreeing_some J (choices j) s))
      two j h false s = full_none (rw (h, consistent) (agreeing_none J (choices j) s))

      go : (o : Option (Desc Graph)) → joined J d e ≡ o →
          FullView J d e (elim o [
            | none ↦ none
            | some j ↦ elim (some_agree J (choices j)) [ true ↦ some (fold J (prune J whole j)) | false ↦ none ]
          ])
      go none h = full_none (rw (h, consistent))
      go (some j) h = two j h (some_agree J (choices j)) refl

  module _ (C : Call) (room work : ℕ) where
    abbrev G : Answer → Type 0
    G r = Given J 𝓕 C room work r

    -- the answer where a result is there
    give : (d e : Desc Graph) → Accepted 𝓕 C work d e → ¬ (Clashes J C.mode d e) → ¬ (TooMany J C.mode d e) → (r : Desc Graph) →
        mode_result J C.mode d e ≡ some r → G (deliver 𝓕 room (mode_readings J C.mode d e) r)
    unfolding deliver
    give d e A c m r h = go (ltb room (length (words r))) (tells_lt room (length (words r)))
      where
        go : (t : Bool) → Tells (room < length (words r)) t →
            G (elim t [ true ↦ no_room (length (words r)) | false ↦ success (mode_readings J C.mode d e) (words r) ])
        go true (holds l) = eight d e r A c m h l
        go false (fails n) = done d e r A c m h (omega arith)

  abbrev asked : ℕ → List ℕ → List ℕ → Call
  asked mode a b = record { mode = mode; first = a; second = b }

  -- where the definite graphs join, to j
  beyond_given : (mode : ℕ) (a b : List ℕ) (room work : ℕ) (d e : Desc Graph) → Accepted 𝓕 (asked mode a b) work d e →
      (j : Desc Graph) → joined J d e ≡ some j → Given J 𝓕 (asked mode a b) room work (beyond J 𝓕 mode d e room j)
  unfolding beyond complete deliver_or
  beyond_given zero a b room work d e A j h =
      give (asked 0 a b) room work d e A (clash_zero J d e j h) (few J 0 d e (omega arith)) j h
  beyond_given (suc zero) a b room work d e A j s = go (quick J d e) refl
    where
      go : (o : Option (Desc Graph)) → quick J d e ≡ o → Given J 𝓕 (asked 1 a b) room work (deliver_or 𝓕 10 room 0 o)
      go none h = ten d e A (λ n. none_is j (sym n ∙ s)) (omega arith) h
      go (some r) h = give (asked 1 a b) room work d e A (clash_more J 1 d e r h) (few J 1 d e (omega arith)) r h
  beyond_given (suc (suc m)) a b room work d e A j s = go (quick J d e) refl
    where
      mode : ℕ
      mode = suc (suc m)

      two_is : mode ≡ 2
      two_is = let h = A.mode_fine in omega (arith, h)

      counted : Answer
      counted = deliver_or 𝓕 11 room (consistent J d e) (full J d e)

      after : (q : Desc Graph) → quick J d e ≡ some q → ¬ (choice_limit < number q) →
          (o : Option (Desc Graph)) → full J d e ≡ o → FullView J d e o →
          Given J 𝓕 (asked mode a b) room work (deliver_or 𝓕 11 room (consistent J d e) o)
      after q h n none f (full_none c) = eleven d e A (clash_more J mode d e q h) (few_two J mode d e q h n) two_is c
      after q h n (some r) f v = give (asked mode a b) room work d e A (clash_more J mode d e q h) (few_two J mode d e q h n) r f

      limit : (q : Desc Graph) → quick J d e ≡ some q → (t : Bool) → Tells (choice_limit < number q) t →
          Given J 𝓕 (asked mode a b) room work (elim t [ true ↦ refuse 7 | false ↦ counted ])
      limit q h true (holds l) = seven d e A (clash_more J mode d e q h) (two_is, q, h, l)
      limit q h false (fails n) = after q h n (full J d e) refl (full_view d e)

      go : (o : Option (Desc Graph)) → quick J d e ≡ o →
          Given J 𝓕 (asked mode a b) room work (elim o [
            | none ↦ refuse 10
            | some q ↦ elim (ltb choice_limit (number q)) [ true ↦ refuse 7 | false ↦ counted ]
          ])
      go none h = ten d e A (λ n. none_is j (sym n ∙ s)) (omega arith) h
      go (some q) h = limit q h (ltb choice_limit (number q)) (tells_lt choice_limit (number q))

  -- mode 2, the quick step done and the choices few
  complete_full : (room : ℕ) (d e : Desc Graph) → ¬ (Clashes J 2 d e) → ¬ (TooMany J 2 d e) →
      complete J 𝓕 room d e ≡ deliver_or 𝓕 11 room (consistent J d e) (full J d e)
  unfolding complete
  complete_full room d e c t = go (quick J d e) refl
    where
      counted : Answer
      counted = deliver_or 𝓕 11 room (consistent J d e) (full J d e)

      go : (o : Option (Desc Graph)) → quick J d e ≡ o →
          ◌≡◌ {A = Answer} (elim o [
            | none ↦ refuse 10
            | some q ↦ elim (ltb choice_limit (number q)) [ true ↦ refuse 7 | false ↦ counted ]
          ]) counted
      go none h = absurd (c (inr (omega arith, h)))
      go (some q) h = two (ltb choice_limit (number q)) (tells_lt choice_limit (number q))
        where
          two : (s : Bool) → Tells (choice_limit < number q) s → ◌≡◌ {A = Answer} (elim s [ true ↦ refuse 7 | false ↦ counted ]) counted
          two true (holds l) = absurd (t (refl, q, h, l))
          two false n = refl

  -- the definite graphs join
  module _ (d e : Desc Graph) (room : ℕ) where
    in_mode_beyond : (mode : ℕ) (j : Desc Graph) → joined J d e ≡ some j → in_mode J 𝓕 mode d e room ≡ beyond J 𝓕 mode d e room j
    unfolding in_mode
    in_mode_beyond mode j h = rw (h, in_mode)

    joins : ¬ (joined J d e ≡ none) → (j : Desc Graph) × (joined J d e ≡ some j)
    joins n = go (joined J d e) refl
      where
        go : (o : Option (Desc Graph)) → joined J d e ≡ o → (j : Desc Graph) × (o ≡ some j)
        go none h = absurd (n h)
        go (some j) h = (j, refl)

    in_mode_ten : (mode : ℕ) → ¬ (joined J d e ≡ none) → 1 ≤ mode → quick J d e ≡ none → in_mode J 𝓕 mode d e room ≡ refuse 10
    unfolding beyond complete
    in_mode_ten zero n l h = absurd (omega arith)
    in_mode_ten (suc zero) n l h = let (j, s) = joins n in
        in_mode_beyond 1 j s ∙ ap (deliver_or 𝓕 10 room 0) h ∙ deliver_none 𝓕 10 room 0
    in_mode_ten (suc (suc m)) n l h = let (j, s) = joins n in in_mode_beyond (suc (suc m)) j s ∙ rw (h, complete)

    in_mode_many : (mode : ℕ) → TooMany J mode d e → in_mode J 𝓕 mode d e room ≡ refuse 7
    unfolding beyond complete
    in_mode_many mode (z, q, h, l) =
        let (j, s) = joins (λ n. none_is q (sym (quick_joined J d e n) ∙ h)) in
        let k : in_mode J 𝓕 2 d e room ≡ refuse 7 = in_mode_beyond 2 j s ∙ rw (h, lt-ltb choice_limit (number q) l, complete) in
        rw z k

    in_mode_eleven : ¬ (Clashes J 2 d e) → ¬ (TooMany J 2 d e) → full J d e ≡ none → in_mode J 𝓕 2 d e room ≡ refuse 11
    unfolding beyond
    in_mode_eleven c t f = let (j, s) = joins (λ n. c (inl n)) in
        in_mode_beyond 2 j s ∙ complete_full room d e c t ∙ ap (deliver_or 𝓕 11 room (consistent J d e)) f
        ∙ deliver_none 𝓕 11 room (consistent J d e)

    in_mode_result : (mode : ℕ) → mode ≤ 2 → ¬ (Clashes J mode d e) → ¬ (TooMany J mode d e) → (r : Desc Graph) →
        mode_result J mode d e ≡ some r → in_mode J 𝓕 mode d e room ≡ deliver 𝓕 room (mode_readings J mode d e) r
    unfolding beyond
    in_mode_result zero m c t r h = in_mode_beyond 0 r h
    in_mode_result (suc zero) m c t r h = let (j, s) = joins (λ n. c (inl n)) in
        in_mode_beyond 1 j s ∙ ap (deliver_or 𝓕 10 room 0) h ∙ deliver_some 𝓕 10 room 0 r
    in_mode_result (suc (suc k)) m c t r h =
        let z : suc (suc k) ≡ 2 = omega arith in
        let (j, s) = joins (λ n. c (inl n)) in
        in_mode_beyond (suc (suc k)) j s
        ∙ complete_full room d e (subst (λ (n : ℕ). ¬ (Clashes J n d e)) z c) (subst (λ (n : ℕ). ¬ (TooMany J n d e)) z t)
        ∙ ap (deliver_or 𝓕 11 room (consistent J d e)) h ∙ deliver_some 𝓕 11 room (consistent J d e) r

  pub full_is : (d e : Desc Graph) → consistent J d e ≡ 0 → full J d e ≡ none
  full_is d e c = go (full J d e) (full_view d e)
    where
      go : (o : Option (Desc Graph)) → FullView J d e o → o ≡ none
      go none v = refl
      go (some r) (full_some s h) = absurd (omega (arith, h, c))

module _ {Graph : Type 0} {J : Joining Graph} {𝓛 : Laws J} {𝓕 : Layout Graph} (𝓡 : Reads 𝓛 𝓕) where
  open J use {ClashNode, clash_node}
  open 𝓕 use {words, WellFormed, decode}
  open 𝓡 use {decoded, decode_words, well_can}

  definite_can : (d : Desc Graph) → WellFormed d depth_limit → 𝓛.Canonical (definite_graph d)
  definite_can (desc g ds) p = (well_can (desc g ds) p).0

  -- the definite graphs clash at the node that the program tells
  clash_located : (d e : Desc Graph) → WellFormed d depth_limit → WellFormed e depth_limit → joined J d e ≡ none →
      ClashNode (definite_graph d) (definite_graph e) (clash_node (definite_graph d) (definite_graph e))
  clash_located d e p q n =
      𝓛.located (definite_graph d) (definite_graph e) (definite_can d p) (definite_can e q) (joined_clash J d e n)

  in_mode_given : (mode : ℕ) (a b : List ℕ) (room work : ℕ) (d e : Desc Graph) → Accepted 𝓕 (asked J 𝓕 mode a b) work d e →
      Given J 𝓕 (asked J 𝓕 mode a b) room work (in_mode J 𝓕 mode d e room)
  unfolding in_mode
  in_mode_given mode a b room work d e A = go (joined J d e) refl
    where
      go : (o : Option (Desc Graph)) → joined J d e ≡ o →
          Given J 𝓕 (asked J 𝓕 mode a b) room work (elim o [
            | none ↦ clash_at (clash_node (definite_graph d) (definite_graph e))
            | some j ↦ beyond J 𝓕 mode d e room j
          ])
      go none h = six d e (clash_node (definite_graph d) (definite_graph e)) A h (clash_located d e A.first_well A.second_well h)
      go (some j) h = beyond_given J 𝓕 mode a b room work d e A j h

  in_mode_clash : (mode : ℕ) (d e : Desc Graph) (room i : ℕ) → WellFormed d depth_limit → WellFormed e depth_limit →
      joined J d e ≡ none → ClashNode (definite_graph d) (definite_graph e) i → in_mode J 𝓕 mode d e room ≡ clash_at i
  unfolding in_mode
  in_mode_clash mode d e room i p q h n =
      let same = 𝓛.one_node (definite_graph d) (definite_graph e) _ i (clash_located d e p q h) n in
      let told : in_mode J 𝓕 mode d e room ≡ clash_at (clash_node (definite_graph d) (definite_graph e)) = rw (h, in_mode) in
      told ∙ ap clash_at same

  -- every answer of `unified` is given by the table
  pub unified_given : (C : Call) (room work : ℕ) → Given J 𝓕 C room work (unified J 𝓕 C room work)
  unfolding unified
  unified_given C room work = first (ltb 2 C.mode) (tells_lt 2 C.mode)
    where
      a : List ℕ
      a = C.first

      b : List ℕ
      b = C.second

      G : Answer → Type 0
      G r = Given J 𝓕 C room work r

      -- what each check leaves to the next
      from_five : Desc Graph → Option (Desc Graph) → Answer
      from_five d o = elim o [ none ↦ refuse 5 | some e ↦ in_mode J 𝓕 C.mode d e room ]

      from_four : Option (Desc Graph) → Answer
      from_four o = elim o [ none ↦ refuse 4 | some d ↦ from_five d (decode b) ]

      from_three : Bool → Answer
      from_three t = elim t [ true ↦ refuse 3 | false ↦ from_four (decode a) ]

      from_two : Bool → Answer
      from_two t = elim t [ true ↦ refuse 2 | false ↦ from_three (ltb input_limit (length a) || ltb input_limit (length b)) ]

      fifth : C.mode ≤ 2 → working_size ≤ work → length a ≤ input_limit → length b ≤ input_limit →
          (d : Desc Graph) → WellFormed d depth_limit → a ≡ words d → (o : Option (Desc Graph)) → Decoded 𝓕 b o → G (from_five d o)
      fifth m w la lb d p h none (malformed n) = five m w la lb (d, p, h) n
      fifth m w la lb d p h (some e) (is f q k) = in_mode_given C.mode a b room work d e (record {
        mode_fine = m;
        area_fine = w;
        first_short = la;
        second_short = lb;
        first_well = p;
        second_well = q;
        first_is = h;
        second_is = k;
      })

      fourth : C.mode ≤ 2 → working_size ≤ work → length a ≤ input_limit → length b ≤ input_limit →
          (o : Option (Desc Graph)) → Decoded 𝓕 a o → G (from_four o)
      fourth m w la lb none (malformed n) = four m w la lb n
      fourth m w la lb (some d) (is f p h) = fifth m w la lb d p h (decode b) (decoded b)

      third : C.mode ≤ 2 → working_size ≤ work → (s t : Bool) →
          Tells (input_limit < length a) s → Tells (input_limit < length b) t → G (from_three (s || t))
      third m w true t (holds l) y = three m w (inl l)
      third m w false true (fails n) (holds l) = three m w (inr l)
      third m w false false (fails n) (fails k) = fourth m w (omega arith) (omega arith) (decode a) (decoded a)

      second : C.mode ≤ 2 → (t : Bool) → Tells (work < working_size) t → G (from_two t)
      second m true (holds l) = two m l
      second m false (fails n) =
          third m (omega arith) (ltb input_limit (length a)) (ltb input_limit (length b))
          (tells_lt input_limit (length a)) (tells_lt input_limit (length b))

      first : (t : Bool) → Tells (2 < C.mode) t → G (elim t [ true ↦ refuse 1 | false ↦ from_two (ltb work working_size) ])
      first true (holds l) = one l
      first false (fails n) = second (omega arith) (ltb work working_size) (tells_lt work working_size)

  -- and the table gives no other
  accepted_unified : (C : Call) (room work : ℕ) (d e : Desc Graph) → Accepted 𝓕 C work d e →
      unified J 𝓕 C room work ≡ in_mode J 𝓕 C.mode d e room
  unfolding unified
  accepted_unified C room work d e A =
      let e₁ : ltb 2 C.mode ≡ false = le-ltb 2 C.mode A.mode_fine in
      let e₂ : ltb work working_size ≡ false = le-ltb work working_size A.area_fine in
      let e₃ : ltb input_limit (length C.first) ≡ false = is_short C.first A.first_short in
      let e₄ : ltb input_limit (length C.second) ≡ false = is_short C.second A.second_short in
      let e₅ : decode C.first ≡ some d = ap decode A.first_is ∙ decode_words d A.first_well in
      let e₆ : decode C.second ≡ some e = ap decode A.second_is ∙ decode_words e A.second_well in
      rw (e₁, e₂, e₃, e₄, e₅, e₆, unified)

  pub given_unified : (C : Call) (room work : ℕ) (r : Answer) → Given J 𝓕 C room work r → unified J 𝓕 C room work ≡ r
  unfolding unified
  given_unified C room work r (one h) = let e = lt-ltb 2 C.mode h in rw (e, unified)
  given_unified C room work r (two m h) = let e = le-ltb 2 C.mode m in let f = lt-ltb work working_size h in rw (e, f, unified)
  given_unified C room work r (three m w (inl h)) =
      let e = le-ltb 2 C.mode m in let f = le-ltb work working_size w in let g = is_long C.first h in rw (e, f, g, unified)
  given_unified C room work r (three m w (inr h)) = go (ltb input_limit (length C.first)) refl
    where
      go : (t : Bool) → ltb input_limit (length C.first) ≡ t → unified J 𝓕 C room work ≡ refuse 3
      go true g = let e = le-ltb 2 C.mode m in let f = le-ltb work working_size w in rw (e, f, g, unified)
      go false g =
          let e = le-ltb 2 C.mode m in let f = le-ltb work working_size w in let k = is_long C.second h in rw (e, f, g, k, unified)
  given_unified C room work r (four m w la lb n) = go (decode C.first) refl (decoded C.first)
    where
      go : (o : Option (Desc Graph)) → decode C.first ≡ o → Decoded 𝓕 C.first o → unified J 𝓕 C room work ≡ refuse 4
      go none q v =
          let e = le-ltb 2 C.mode m in let f = le-ltb work working_size w in
          let g = is_short C.first la in let h = is_short C.second lb in rw (e, f, g, h, q, unified)
      go (some d) q (is c p s) = absurd (n (d, p, s))
  given_unified C room work r (five m w la lb i n) = go (decode C.second) refl (decoded C.second)
    where
      go : (o : Option (Desc Graph)) → decode C.second ≡ o → Decoded 𝓕 C.second o → unified J 𝓕 C room work ≡ refuse 5
      go none q v =
          let e = le-ltb 2 C.mode m in let f = le-ltb work working_size w in
          let g = is_short C.first la in let h = is_short C.second lb in
          let k : decode C.first ≡ some i.0 = ap decode i.2 ∙ decode_words i.0 i.1 in rw (e, f, g, h, k, q, unified)
      go (some d) q (is c p s) = absurd (n (d, p, s))
  given_unified C room work r (six d e i A h n) =
      accepted_unified C room work d e A ∙ in_mode_clash C.mode d e room i A.first_well A.second_well h n
  given_unified C room work r (ten d e A j l h) = accepted_unified C room work d e A ∙ in_mode_ten J 𝓕 d e room C.mode j l h
  given_unified C room work r (seven d e A c t) = accepted_unified C room work d e A ∙ in_mode_many J 𝓕 d e room C.mode t
  given_unified C room work r (eleven d e A c t z n) =
      accepted_unified C room work d e A ∙ ap (λ (m : ℕ). in_mode J 𝓕 m d e room) z
      ∙ in_mode_eleven J 𝓕 d e room (subst (λ (m : ℕ). ¬ (Clashes J m d e)) z c) (subst (λ (m : ℕ). ¬ (TooMany J m d e)) z t)
      (full_is J 𝓕 d e n)
  given_unified C room work r (eight d e s A c t h l) =
      accepted_unified C room work d e A ∙ in_mode_result J 𝓕 d e room C.mode A.mode_fine c t s h
      ∙ deliver_eight 𝓕 room (mode_readings J C.mode d e) s l
  given_unified C room work r (done d e s A c t h l) =
      accepted_unified C room work d e A ∙ in_mode_result J 𝓕 d e room C.mode A.mode_fine c t s h
      ∙ deliver_done 𝓕 room (mode_readings J C.mode d e) s l

  -- an answer is given by the table exactly when it is `unified`'s
  pub table : (C : Call) (room work : ℕ) (r : Answer) → (unified J 𝓕 C room work ≡ r) ↔ Given J 𝓕 C room work r
  table C room work r = (λ e. subst (Given J 𝓕 C room work) e (unified_given C room work), given_unified C room work r)

  -- for each number
  pub number_iff : (C : Call) (room work n : ℕ) →
      ((unified J 𝓕 C room work).number ≡ n) ↔ ((r : Answer) × (r.number ≡ n) × Given J 𝓕 C room work r)
  number_iff C room work n = (
    λ e. (unified J 𝓕 C room work, e, unified_given C room work),
    λ (r, e, g). ap (λ (z : Answer). z.number) (given_unified C room work r g) ∙ e,
  )

  -- the table gives one answer
  pub one_answer : (C : Call) (room work : ℕ) (r s : Answer) → Given J 𝓕 C room work r → Given J 𝓕 C room work s → r ≡ s
  one_answer C room work r s g h = sym (given_unified C room work r g) ∙ given_unified C room work s h

  -- two outcomes allowed for one input are equal
  pub one_outcome : (C : Call) (before : Areas) (r r' : Row) (after after' : Areas) →
      Outcome J 𝓕 C before r after → Outcome J 𝓕 C before r' after' →
      (r.number ≡ r'.number) × (r.extent ≡ r'.extent) × (r.readings ≡ r'.readings) × (r.node ≡ r'.node)
      × (after.result ≡ after'.result) × (after.working ≡ after'.working)
  one_outcome C before r r' after after' p q =
      let s : p.answer ≡ q.answer = one_answer C _ _ p.answer q.answer p.given q.given in
      let e : r.number ≡ r'.number = p.the_number ∙ ap (λ (z : Answer). z.number) s ∙ sym q.the_number in (
        e,
        p.the_extent ∙ ap (λ (z : Answer). z.extent) s ∙ sym q.the_extent,
        p.the_readings ∙ ap (λ (z : Answer). z.readings) s ∙ sym q.the_readings,
        p.the_node ∙ ap (λ (z : Answer). z.node) s ∙ sym q.the_node,
        p.the_result ∙ ap (λ (z : Answer). z.result ++ drop (length z.result) before.result) s ∙ sym q.the_result,
        p.the_working ∙ ap (λ (k : ℕ). worked k before.working) e ∙ sym q.the_working,
      )

  -- and it is `unified`'s
  pub outcome_answer : (C : Call) (before : Areas) (r : Row) (after : Areas) (p : Outcome J 𝓕 C before r after) →
      unified J 𝓕 C (length before.result) (length before.working) ≡ p.answer
  outcome_answer C before r after p = given_unified C (length before.result) (length before.working) p.answer p.given
