-- A turn of the run over the tests: what it asks, and the next state. Assumes nothing.
use mathlib.Core.Path.{◌≡◌, sym, subst}
use mathlib.Core.List.{List}
use Prim.Native.Nat.{ℕ, suc, ◌<◌}
use lib.ListN.{length, get_or}
use Rattle.suite.specs.declared.test.Test.{Test}
use Rattle.suite.specs.Suite.{Night, no_test, Runnable, AsAnswered, noted_record, counts_sum, raised_at, begun_night, night_after}
use Rattle.suite.proofs.Runs.{next_state, ready}

abbrev Asks : Night → Test → ℕ → Type 0
Asks t x number = ((t.running.run < 64) × (t.running.good < 64)) × ((x.mode < 3) × ((number < 12) × (counts_sum t.counts < 64)))

module _ (ws : List ℕ) (ts : List Test) (y w : List ℕ) (i : ℕ) (t : Night) (state : t ≡ night_after ws ts (begun_night y w) i)
    (x : Test) (e : x ≡ get_or ts i no_test) (number readings : ℕ) (y' w' : List ℕ) where
  abbrev s : Night
  s = night_after ws ts (begun_night y w) i

  abbrev Answers : Night → Test → Type 0
  Answers u z = AsAnswered ws z (record { result = u.result; working = u.working }) number readings (record { result = y'; working = w' })

  abbrev stepped : Night → Test → Night
  stepped u z = record {
    counts = raised_at u.counts z.mode number;
    running = noted_record z number readings u.running;
    result = y';
    working = w';
  }

  pub turn_asks : (n : ℕ) → Runnable n (length ws) ts → i < n → Answers t x → Asks t x number
  turn_asks n f h =
      subst (λ (u : Night). Answers u x → Asks u x number) (sym state)
      (subst (λ (z : Test). Answers s z → Asks s z number) (sym e) (λ a. ready ws ts y w n f i h number a.0))

  pub turn_next : Answers t x → stepped t x ≡ night_after ws ts (begun_night y w) (suc i)
  turn_next =
      subst (λ (u : Night). Answers u x → stepped u x ≡ night_after ws ts (begun_night y w) (suc i)) (sym state)
      (subst (λ (z : Test). Answers s z → stepped s z ≡ night_after ws ts (begun_night y w) (suc i)) (sym e)
      (next_state ws ts (begun_night y w) i number readings y' w'))
