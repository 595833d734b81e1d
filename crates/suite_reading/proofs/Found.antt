-- Finding and judging the tests of a text: one law for each way that they go on or end.
-- Assumes nothing.
use Prim.Native.Nat.{ℕ, zero, suc, ◌-◌, ◌≤◌, ◌<◌}
use native.Mathlib.Omega.{arith}
use mathlib.Core.Path.{◌≡◌, refl, sym, ap, ◌∙◌, subst}
use mathlib.Core.Bool.{Bool, true, false}
use mathlib.Core.Option.{Option, none, some, some-injective}
use mathlib.Core.List.{List, [], ◌∷◌}
use lib.ListN.{length, get_or, drop}
use Rattle.call_text.specs.declared.number.Token.{Token}
use Rattle.call_text.specs.declared.number.Token.TheVariants.{Is, Over, Bad}
use Rattle.std.specs.Prelude.{Some, None, Result, Ok, Err}
use Rattle.call_text.specs.declared.call.Run.{Run}
use Rattle.call_text.specs.Token.{Start, is, token}
use Rattle.call_text.specs.Call.{Taken, counted, done}
use Rattle.call_text.specs.Finding.{FindsRun}
use Rattle.call_text.proofs.Tokens.{meant}
use Rattle.call_text.proofs.Runs.{Other}
use Rattle.call_text.proofs.Calls as calls
use Rattle.suite.specs.declared.test.Test.{Test}
use Rattle.suite.specs.Suite.{no_test, number_of, record_fault, fault_after, length_fault, table_fault}
use Rattle.suite.proofs.Runs.{found_none, found_more}
use Rattle.suite_reading.specs.Tests.{TypedTest, number_then, words_then, descriptions_then, leading_test, followed, tests_in}
use Rattle.suite_reading.specs.Tests.{expected_test, expected_in, all_expected}
use Rattle.suite_reading.specs.Finding.{TestPlaces, Found, FindsTest, there, nowhere, Judgement, Judges, fine, bad}
use Rattle.suite_reading.specs.declared.tests.Place.{Place}
use Rattle.std.specs.Result.{result_and}
use Rattle.suite.specs.declared.checks.Refusal.{Refusal}
use Rattle.suite.specs.declared.checks.Refusal.TheVariants.{TooMany, BeyondArea, OutOfTable}

-- ---- finding a test
absent : (text : List ℕ) (o : Option TypedTest) → o ≡ none → FindsTest text o None
absent text o e = subst (λ (o : Option TypedTest). FindsTest text o None) (sym e) nowhere

-- both descriptions, after the text that comes after the mode
module _ (text : List ℕ) (named m n k : ℕ) (cs : List ℕ) where
  abbrev whole : Option TypedTest
  whole = descriptions_then m (drop named text) n k cs

  abbrev both : Taken → Taken → TypedTest
  both p q = record {
    mode = m;
    number = n;
    readings = k;
    first = p.0;
    second = q.0;
    after_mode = drop named text;
    after = q.1;
  }

  abbrev second : Taken → Option TypedTest
  second p = words_then (λ q. some (both p q)) (counted p.1)

  parts : words_then second (counted cs) ≡ whole
  unfolding descriptions_then
  parts = refl

  pub lacks_first : counted cs ≡ none → FindsTest text whole None
  lacks_first e = absent text whole (sym parts ∙ ap (words_then second) e)

  module _ (r : Run) (one : FindsRun text (counted cs) (Some r)) where
    ahead : (xs : List ℕ) × (some (xs, drop r.next text) ≡ counted cs)
    ahead = calls.there text (counted cs) r.next one.2

    abbrev rest : Option Taken
    rest = counted (drop r.next text)

    abbrev last : Taken → Option TypedTest
    last t = some (both (ahead.0, drop r.next text) t)

    onward : words_then last rest ≡ whole
    onward = ap (words_then second) ahead.1 ∙ parts

    pub lacks_second : rest ≡ none → FindsTest text whole None
    lacks_second e = absent text whole (sym onward ∙ ap (words_then last) e)

    module _ (w : Run) (two : FindsRun text rest (Some w)) where
      after : (ys : List ℕ) × (some (ys, drop w.next text) ≡ rest)
      after = calls.there text rest w.next two.2

      abbrev place : Place
      place = record {
        mode = m;
        number = n;
        readings = k;
        named = named;
        first = r.start;
        firsts = r.count;
        second = w.start;
        seconds = w.count;
        next = w.next;
      }

      pub finds_both : FindsTest text whole (Some place)
      finds_both =
          let t : TypedTest = both (ahead.0, drop r.next text) (after.0, drop w.next text) in
          subst (λ (o : Option TypedTest). FindsTest text o (Some place)) (ap (words_then last) after.1 ∙ onward)
          (there t place (record {
            mode = refl;
            number = refl;
            readings = refl;
            after_mode = refl;
            the_first = record { few = one.0; left = drop r.next text; stand = one.1 ∙ sym ahead.1 };
            the_second = record { few = two.0; left = drop w.next text; stand = two.1 ∙ sym after.1 };
            after = refl;
          }))

-- no number comes
pub number_stops : {A : Type 0} (f : ℕ → List ℕ → Option A) (text : List ℕ) (s : Start) (r : Token) → meant text r ≡ s → Other r
    → number_then f s ≡ none
number_stops f text s (Is v q) e o = absurd (o v q refl)
number_stops f text s Over e o = ap (number_then f) (sym e)
number_stops f text s Bad e o = ap (number_then f) (sym e)

module _ (text cs : List ℕ) where
  abbrev third : ℕ → List ℕ → ℕ → List ℕ → Option TypedTest
  third m named n rest = number_then (descriptions_then m named n) (token rest)

  abbrev next : ℕ → List ℕ → Option TypedTest
  next m named = number_then (third m named) (token named)

  begins : number_then next (token cs) ≡ leading_test cs
  unfolding leading_test
  begins = refl

  pub lacks_mode : (r : Token) → meant text r ≡ token cs → Other r → FindsTest text (leading_test cs) None
  lacks_mode r e o = absent text (leading_test cs) (sym begins ∙ number_stops next text (token cs) r e o)

  module _ (m p : ℕ) (mode : is m (drop p text) ≡ token cs) where
    with_mode : next m (drop p text) ≡ leading_test cs
    with_mode = ap (number_then next) mode ∙ begins

    pub lacks_number : (r : Token) → meant text r ≡ token (drop p text) → Other r → FindsTest text (leading_test cs) None
    lacks_number r e o =
        absent text (leading_test cs) (sym with_mode ∙ number_stops (third m (drop p text)) text (token (drop p text)) r e o)

    module _ (n q : ℕ) (number : is n (drop q text) ≡ token (drop p text)) where
      with_number : third m (drop p text) n (drop q text) ≡ leading_test cs
      with_number = ap (number_then (third m (drop p text))) number ∙ with_mode

      pub lacks_readings : (r : Token) → meant text r ≡ token (drop q text) → Other r → FindsTest text (leading_test cs) None
      lacks_readings r e o =
          absent text (leading_test cs)
          (sym with_number ∙ number_stops (descriptions_then m (drop p text) n) text (token (drop q text)) r e o)

      pub finds_rest : (k u : ℕ) → is k (drop u text) ≡ token (drop q text) → (f : Found)
          → FindsTest text (descriptions_then m (drop p text) n k (drop u text)) f → FindsTest text (leading_test cs) f
      finds_rest k u e f g =
          subst (λ (o : Option TypedTest). FindsTest text o f) (ap (number_then (descriptions_then m (drop p text) n)) e ∙ with_number) g

-- ---- what a find says
module _ (text : List ℕ) where
  pub found_none_there : (o : Option TypedTest) (f : Found) → FindsTest text o f → f ≡ None → none ≡ o
  found_none_there o f (there t p places) e = let z : ◌≡◌ {A = ℕ} 0 1 = cc in absurd (omega arith)
  found_none_there o f nowhere e = refl

  -- a test that was found, and where its parts stand
  pub found_test : (o : Option TypedTest) (f : Found) → FindsTest text o f → (p : Place) → f ≡ Some p →
      (t : TypedTest) × (some t ≡ o) × TestPlaces text t p
  found_test o f (there t p' places) p e = let same : p' ≡ p = cc in (t, refl, subst (TestPlaces text t) same places)
  found_test o f nowhere p e = let z : ◌≡◌ {A = ℕ} 0 1 = cc in absurd (omega arith)

  -- the same of a test that is known to stand there
  pub found_places : (o : Option TypedTest) (f : Found) → FindsTest text o f → (p : Place) → f ≡ Some p →
      (t : TypedTest) → o ≡ some t → TestPlaces text t p
  found_places o f finds p e t here =
      let (t', same, places) = found_test o f finds p e in
      subst (λ (x : TypedTest). TestPlaces text x p) (some-injective t' t (same ∙ here)) places

-- ---- judging tests: those that are left, after the refusal so far, are judged as all are
-- the refusal after these tests where this one stood before them
abbrev pub faults : ℕ → List TypedTest → ℕ
faults r [] = r
faults r (t ∷ ts) = faults (fault_after r 0 (expected_in t)) ts

abbrev pub judgement : ℕ → Option (List TypedTest) → Option ℕ
judgement r none = none
judgement r (some ts) = some (faults r ts)

judgement_followed : (r : ℕ) (t : TypedTest) (o : Option (List TypedTest))
    → judgement (fault_after r 0 (expected_in t)) o ≡ judgement r (followed t o)
judgement_followed r t none = refl
judgement_followed r t (some ts) = refl

-- tests by whether a number is left, and by the first one
abbrev by_end : Bool → Option (List TypedTest)
by_end true = some []
by_end false = none

by_end_is : (d : Bool) → by_end d ≡ elim d [ true ↦ some [] | false ↦ none ]
by_end_is true = refl
by_end_is false = refl

tests_end : (cs : List ℕ) (d : Bool) → d ≡ done cs → by_end d ≡ tests_in 0 cs
unfolding tests_in
tests_end cs d e = ap by_end e ∙ by_end_is (done cs)

abbrev by_test : ℕ → Option TypedTest → Option (List TypedTest)
by_test n none = none
by_test n (some t) = followed t (tests_in n t.after)

by_test_is : (n : ℕ) (o : Option TypedTest)
    → by_test n o ≡ elim o [ none ↦ none | some t ↦ followed t (tests_in n t.after) ]
by_test_is n none = refl
by_test_is n (some t) = refl

tests_more : (n : ℕ) (cs : List ℕ) (o : Option TypedTest) → o ≡ leading_test cs → by_test n o ≡ tests_in (suc n) cs
unfolding tests_in
tests_more n cs o e = ap (by_test n) e ∙ by_test_is n (leading_test cs)

module _ (text : List ℕ) (whole : Option ℕ) (refusal at left : ℕ) (g : judgement refusal (tests_in left (drop at text)) ≡ whole) where
  module _ (end : left ≤ 0) (d : Bool) (e : d ≡ done (drop at text)) where
    judged_end : judgement refusal (by_end d) ≡ whole
    judged_end =
        let z : 0 ≡ left = omega arith in
        ap (judgement refusal) (tests_end (drop at text) d e ∙ ap (λ (n : ℕ). tests_in n (drop at text)) z) ∙ g

    pub judged_fine : d ≡ true → some refusal ≡ whole
    judged_fine h = ap (λ (b : Bool). judgement refusal (by_end b)) (sym h) ∙ judged_end

    pub judged_more : d ≡ false → none ≡ whole
    judged_more h = ap (λ (b : Bool). judgement refusal (by_end b)) (sym h) ∙ judged_end

  module _ (more : 0 < left) (f : Found) (find : FindsTest text (leading_test (drop at text)) f) where
    one_more : (o : Option TypedTest) → o ≡ leading_test (drop at text) → judgement refusal (by_test (left - 1) o) ≡ whole
    one_more o e =
        let z : suc (left - 1) ≡ left = omega arith in
        ap (judgement refusal) (tests_more (left - 1) (drop at text) o e ∙ ap (λ (n : ℕ). tests_in n (drop at text)) z) ∙ g

    pub judged_stops : f ≡ None → none ≡ whole
    judged_stops e = one_more none (found_none_there text (leading_test (drop at text)) f find e)

    pub judged_goes : (p : Place) → f ≡ Some p → (test : Test) → test ≡ expected_test p.mode p.number p.readings →
        (r : ℕ) → r ≡ fault_after refusal 0 test → judgement r (tests_in (left - 1) (drop p.next text)) ≡ whole
    judged_goes p e test te r re =
        let (t, same, places) = found_test text (leading_test (drop at text)) f find p e in
        let expected : expected_test p.mode p.number p.readings ≡ expected_in t =
        (λ j. expected_test (places.mode j) (places.number j) (places.readings j)) in
        let fault : r ≡ fault_after refusal 0 (expected_in t) = re ∙ ap (fault_after refusal 0) (te ∙ expected) in
        let rest : Option (List TypedTest) = tests_in (left - 1) t.after in
        ap (λ (l : List ℕ). judgement r (tests_in (left - 1) l)) (sym places.after)
        ∙ ap (λ (x : ℕ). judgement x rest) fault
        ∙ judgement_followed refusal t rest
        ∙ one_more (some t) same

-- ---- the judgement is the table's
-- so many tests are there, where there are tests
abbrev Many : ℕ → Option (List TypedTest) → Type 0
Many n none = Unit {0}
Many n (some ts) = length ts ≡ n

many_more : (n : ℕ) (t : TypedTest) (o : Option (List TypedTest)) → Many n o → Many (suc n) (followed t o)
many_more n t none h = tt
many_more n t (some ts) h = ap suc h

tests_many : (n : ℕ) (cs : List ℕ) → Many n (tests_in n cs)
tests_many zero cs = subst (Many 0) (tests_end cs (done cs) refl) (go (done cs))
  where
    go : (d : Bool) → Many 0 (by_end d)
    go true = refl
    go false = tt
tests_many (suc n) cs = subst (Many (suc n)) (tests_more n cs (leading_test cs) refl) (go (leading_test cs) (tests_many n))
  where
    go : (o : Option TypedTest) → ((r : List ℕ) → Many n (tests_in n r)) → Many (suc n) (by_test n o)
    go none h = tt
    go (some t) h = many_more n t (tests_in n t.after) (h t.after)

pub expected_many : (ts : List TypedTest) → length (all_expected ts) ≡ length ts
unfolding all_expected
expected_many [] = refl
expected_many (t ∷ ts) = ap suc (expected_many ts)

-- a number that goes from test to test as the refusal does is the refusal
faults_so_far : (ts : List TypedTest) (so_far : ℕ → ℕ)
    → ((i : ℕ) → fault_after (so_far i) 0 (get_or (all_expected ts) i no_test) ≡ so_far (suc i))
    → faults (so_far 0) ts ≡ so_far (length ts)
unfolding all_expected
faults_so_far [] so_far h = refl
faults_so_far (t ∷ ts) so_far h = ap (λ (r : ℕ). faults r ts) (h 0) ∙ faults_so_far ts (λ i. so_far (suc i)) (λ i. h (suc i))

faults_are : (ts : List TypedTest) (n : ℕ) → length ts ≡ n
    → table_fault 0 (all_expected ts) (length ts) ≡ faults (length_fault n) ts
faults_are ts n h =
    let tests : List Test = all_expected ts in
    sym (ap (λ (r : ℕ). faults r ts) (found_none 0 tests n (sym h ∙ sym (expected_many ts)))
    ∙ faults_so_far ts (table_fault 0 tests) (found_more 0 tests))

-- what comes of a judgement
abbrev number_in : Judgement → Option ℕ
number_in None = none
number_in (Some r) = some (number_of r)

pub judges : (n : ℕ) (cs : List ℕ) (j : Judgement) → number_in j ≡ judgement (length_fault n) (tests_in n cs) → Judges n (tests_in n cs) j
judges n cs j e = go j (tests_in n cs) (tests_many n cs) e
  where
    go : (j : Judgement) (o : Option (List TypedTest)) → Many n o → number_in j ≡ judgement (length_fault n) o → Judges n o j
    go None none h e = bad
    go None (some ts) h e = let z : ◌≡◌ {A = ℕ} 0 1 = cc in absurd (omega arith)
    go (Some r) none h e = let z : ◌≡◌ {A = ℕ} 0 1 = cc in absurd (omega arith)
    go (Some r) (some ts) h e = fine ts r h (some-injective _ _ e ∙ sym (faults_are ts n h))

-- the refusal so far, and else that of one record more
pub and_then_after : (v r : Result (Unit {0}) Refusal) (space : ℕ) (t : Test) → number_of r ≡ record_fault space t
    → number_of (result_and v r) ≡ fault_after (number_of v) space t
unfolding fault_after
and_then_after (Ok x) r space t e = e
and_then_after (Err TooMany) r space t e = refl
and_then_after (Err BeyondArea) r space t e = refl
and_then_after (Err OutOfTable) r space t e = refl
