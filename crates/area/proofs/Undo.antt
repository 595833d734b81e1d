-- The laws of the undo log. Assumes nothing.
use mathlib.Core.Path.{◌≡◌, refl, sym, ap, ◌∙◌}
use mathlib.Core.List.{List}
use mathlib.Core.Logic.{◌⊎◌, inl, inr, ⊎_elim}
use Prim.Native.Nat.{ℕ, zero, suc, ◌+◌, ◌*◌, ◌-◌, ◌/◌, ◌%◌, ◌≤◌, ◌<◌}
use native.Mathlib.Nat.{le_trans}
use native.Mathlib.Omega.{arith}
use native.Mathlib.Decide.{ℕ_discrete}
use lib.ListN.{length, take, drop, set, get_or, length-set, length-take, length-drop}
use lib.Seq.{ext_get_or, take-set-le, drop-set-lt, take-set-lt, drop-set-add, set-set, set-get_or, get_or-take, get_or-drop, get_or-set_same}
use lib.Seq.{get_or-set_other, length-take-le}
use Rattle.area.specs.Map.{LOG, STACK, WORDS, SIZE}
use Rattle.area.specs.Log.{body, entries, back, past, Logged, Later, Stores, Undone}

-- the last entry first
back_last : (L : List ℕ) (m d : ℕ) (b : List ℕ) →
    back L m (suc d) b ≡ back L m d (set b (get_or L (m + d) 0 % 4096) (get_or L (m + d) 0 / 4096))
unfolding back
back_last L m zero b = let e : m + 0 ≡ m = omega arith in rw e refl
back_last L m (suc d) b =
    let e : suc m + d ≡ m + suc d = omega arith in
    ap (λ (t : List ℕ). set t (get_or L m 0 % 4096) (get_or L m 0 / 4096)) (rw e at (back_last L (suc m) d b))

-- only the entries that are taken back count
back_agree : (K L : List ℕ) (m d : ℕ) (b : List ℕ) → ((k : ℕ) → k < m + d → get_or K k 0 ≡ get_or L k 0) → back K m d b ≡ back L m d b
unfolding back
back_agree K L m zero b f = refl
back_agree K L m (suc d) b f =
    let h : back K (suc m) d b ≡ back L (suc m) d b = back_agree K L (suc m) d b (λ k l. f k (omega arith)) in
    rw (h, f m (omega arith)) refl

-- going back in two goes
back_on : (L : List ℕ) (m d e : ℕ) (b : List ℕ) → back L m (d + e) b ≡ back L m d (back L (m + d) e b)
unfolding back
back_on L m zero e b =
    let p : 0 + e ≡ e = omega arith in
    let q : m + 0 ≡ m = omega arith in
    rw (p, q) refl
back_on L m (suc d) e b =
    let p : suc d + e ≡ suc (d + e) = omega arith in
    let q : m + suc d ≡ suc m + d = omega arith in
    rw (p, q) (ap (λ (t : List ℕ). set t (get_or L m 0 % 4096) (get_or L m 0 / 4096)) (back_on L (suc m) d e b))

-- a word before the log, by the body
pub word : (w w' : List ℕ) → body w' ≡ body w → (j : ℕ) → j < LOG → get_or w' j 0 ≡ get_or w j 0
unfolding body
word w w' e j h = sym (get_or-take LOG w' j 0 h) ∙ ap (λ (t : List ℕ). get_or t j 0) e ∙ get_or-take LOG w j 0 h

-- a word from the log on
pub log_word : (w w' : List ℕ) → entries w' ≡ entries w → (j : ℕ) → get_or w' (LOG + j) 0 ≡ get_or w (LOG + j) 0
unfolding entries
log_word w w' e j = sym (get_or-drop LOG w' j 0) ∙ ap (λ (t : List ℕ). get_or t j 0) e ∙ get_or-drop LOG w j 0

-- ---- one more entry
module _ (n : ℕ) (w : List ℕ) (i v : ℕ) (g : Logged n w) (hi : i < LOG) (hv : v < 1048576) (hn : n < 4096) (room : SIZE ≤ length w) where
  abbrev packed : ℕ
  packed = i + 4096 * get_or w i 0

  abbrev stored : List ℕ
  stored = set (set w (LOG + n) packed) i v

  stored_body : body stored ≡ set (body w) i v
  unfolding body
  stored_body = take-set-lt LOG (set w (LOG + n) packed) i v hi
      ∙ ap (λ (t : List ℕ). set t i v) (take-set-le LOG w (LOG + n) packed (omega arith))

  -- the new log
  abbrev log' : List ℕ
  log' = set (entries w) n packed

  stored_log : entries stored ≡ log'
  unfolding entries
  stored_log = drop-set-lt LOG (set w (LOG + n) packed) i v hi ∙ drop-set-add LOG w n packed

  length_log : length (entries w) ≡ length w - LOG
  unfolding entries
  length_log = length-drop LOG w

  log_new : get_or log' n 0 ≡ packed
  log_new = let l : length (entries w) ≡ length w - LOG = length_log in get_or-set_same (entries w) n packed 0 (omega arith)

  -- what is taken back is what stood there
  put_back : set (set (body w) i v) (get_or log' n 0 % 4096) (get_or log' n 0 / 4096) ≡ body w
  unfolding body
  put_back =
      let p : packed % 4096 ≡ i = omega arith in
      let q : packed / 4096 ≡ get_or w i 0 = omega arith in
      rw (log_new, p, q) (set-set (take LOG w) i v (get_or w i 0) ∙ ap (set (take LOG w) i) (sym (get_or-take LOG w i 0 hi))
      ∙ set-get_or (take LOG w) i 0)

  stored_keeps : (m : ℕ) → m ≤ n → past m (n + 1) stored ≡ past m n w
  unfolding past
  stored_keeps m h =
      let e : n + 1 - m ≡ suc (n - m) = omega arith in
      let f : m + (n - m) ≡ n = omega arith in
      rw (stored_log, stored_body, e)
      (rw (f, put_back) at (back_last log' m (n - m) (set (body w) i v))
      ∙ back_agree log' (entries w) m (n - m) (body w) (λ k l. get_or-set_other (entries w) n k packed 0 (λ z. omega arith)))

  length_stored : length stored ≡ length w
  length_stored = simp length-set

  off : (j : ℕ) → (j ≡ i → ⊥) → (j ≡ LOG + n → ⊥) → get_or stored j 0 ≡ get_or w j 0
  off j a b = get_or-set_other (set w (LOG + n) packed) i j v 0 a ∙ get_or-set_other w (LOG + n) j packed 0 b

  stored_logged : Logged (n + 1) stored
  stored_logged = record { room = let l = length_stored in omega arith; small = λ j h. go j h (ℕ_discrete j i) }
    where
      go : (j : ℕ) → j < LOG → Dec (j ≡ i) → get_or stored j 0 < 1048576
      go j h (yes e) = rw (e, get_or-set_same (set w (LOG + n) packed) i v 0 (simp length-set (omega arith))) hv
      go j h (no e) = rw (off j e (λ z. omega arith)) (g.small j h)

  pub put_law : Stores n w i v (n + 1) stored
  put_law = record {
    next = refl;
    later = record {
      len = length_stored;
      more = omega arith;
      logged = stored_logged;
      keeps = stored_keeps;
      rest =
          λ j h. off j (λ e. omega arith) (λ e. omega arith);
    };
    now = stored_body;
    rest = off;
  }

-- ---- going back
-- the area at the entry w₀ has become w, with the entries from k on taken back
pub record Going (k n : ℕ) (w₀ w : List ℕ) : Type 0 where
  pub len : length w ≡ length w₀
  pub now : body w ≡ past k n w₀
  pub log : entries w ≡ entries w₀

pub going_start : (n : ℕ) (w : List ℕ) → Going n n w w
unfolding past back
going_start n w = let e : n - n ≡ 0 = omega arith in record { len = refl; now = rw e refl; log = refl }

pub going_back : (k n : ℕ) (w₀ w : List ℕ) → Going k n w₀ w → 0 < k → k ≤ n →
    Going (k - 1) n w₀ (set w (get_or w (LOG + (k - 1)) 0 % 4096) (get_or w (LOG + (k - 1)) 0 / 4096))
unfolding past back body entries
going_back k n w₀ w g h l =
    let j : suc (k - 1) ≡ k = omega arith in
    let e : n - (k - 1) ≡ suc (n - k) = omega arith in
    let p : get_or w (LOG + (k - 1)) 0 ≡ get_or (drop LOG w₀) (k - 1) 0 = log_word w₀ w g.log (k - 1) ∙ sym (get_or-drop LOG w₀ (k - 1) 0) in
    let b : get_or w (LOG + (k - 1)) 0 % 4096 < LOG = omega arith in
    record {
      len = simp length-set g.len;
      now = take-set-lt LOG w (get_or w (LOG + (k - 1)) 0 % 4096) (get_or w (LOG + (k - 1)) 0 / 4096) b
          ∙ rw (e, p, j) (ap (λ (t : List ℕ). set t (get_or (drop LOG w₀) (k - 1) 0 % 4096) (get_or (drop LOG w₀) (k - 1) 0 / 4096)) g.now);
      log = drop-set-lt LOG w (get_or w (LOG + (k - 1)) 0 % 4096) (get_or w (LOG + (k - 1)) 0 / 4096) b ∙ g.log;
    }

pub going_done : (m k n : ℕ) (w₀ w : List ℕ) → Going k n w₀ w → k ≡ m → Undone m n w₀ w
going_done m k n w₀ w g e = rw (← e) (record { len = g.len; now = g.now; log = g.log })

-- ---- for callers: back at the mark, the body is the one at the mark
past_now : (n : ℕ) (w : List ℕ) → past n n w ≡ body w
unfolding past back
past_now n w = let e : n - n ≡ 0 = omega arith in rw e refl

pub later_refl : (n : ℕ) (w : List ℕ) → Logged n w → Later n w n w
later_refl n w g = record { len = refl; more = omega arith; logged = g; keeps = λ m h. refl; rest = λ j h. refl }

pub later_trans : (a : ℕ) (u : List ℕ) (b : ℕ) (v : List ℕ) (c : ℕ) (w : List ℕ) → Later a u b v → Later b v c w → Later a u c w
later_trans a u b v c w p q = record {
  len = q.len ∙ p.len;
  more = le_trans p.more q.more;
  logged = q.logged;
  keeps = λ m h. q.keeps m (le_trans h p.more) ∙ p.keeps m h;
  rest = λ j h. q.rest j h ∙ p.rest j h;
}

-- the same words before the log
pub logged_same : (n : ℕ) (w w' : List ℕ) → Logged n w → length w' ≡ length w → ((j : ℕ) → j < LOG → get_or w' j 0 ≡ get_or w j 0) → Logged n w'
logged_same n w w' g e f = record { room = rw e g.room; small = λ i h. rw (f i h) (g.small i h) }

-- k entries of w are those of w', which has more; w'' is w' with the others taken back
module _ (k : ℕ) (w : List ℕ) (k' : ℕ) (w' w'' : List ℕ) (more : k ≤ k') (keeps : (m : ℕ) → m ≤ k →
    past m k' w' ≡ past m k w) (u : Undone k k' w' w'') where
  pub undone_is : body w'' ≡ body w
  undone_is = u.now ∙ keeps k (omega arith) ∙ past_now k w

  pub undone_logged : Logged k w → length w' ≡ length w → Logged k w''
  undone_logged g len = logged_same k w w'' g (u.len ∙ len) (word w w'' undone_is)

  pub undone_keeps : (m : ℕ) → m ≤ k → past m k w'' ≡ past m k w
  unfolding past
  undone_keeps m l =
      let q : k' - m ≡ (k - m) + (k' - k) = omega arith in
      let r : m + (k - m) ≡ k = omega arith in
      let t : back (entries w') m (k' - m) (body w') ≡ back (entries w') m (k - m) (back (entries w') k (k' - k) (body w')) =
      rw q (rw r at (back_on (entries w') m (k - m) (k' - k) (body w'))) in
      rw (u.log, u.now) (sym t ∙ keeps m l)

  pub undone_rest : (j : ℕ) → LOG ≤ j → get_or w'' j 0 ≡ get_or w' j 0
  undone_rest j h = let e : LOG + (j - LOG) ≡ j = omega arith in rw e at (log_word w' w'' u.log (j - LOG))

-- what a mark remembers is as it was
pub undone_later : (k : ℕ) (w : List ℕ) (k' : ℕ) (w' w'' : List ℕ) → Logged k w → Later k w k' w' → Undone k k' w' w'' → Later k w k w''
undone_later k w k' w' w'' g p u = record {
  len = u.len ∙ p.len;
  more = omega arith;
  logged = undone_logged k w k' w' w'' p.more p.keeps u g p.len;
  keeps = undone_keeps k w k' w' w'' p.more p.keeps u;
  rest = λ j h. undone_rest k w k' w' w'' p.more p.keeps u j (omega arith) ∙ p.rest j h;
}

-- ---- stores above the log
pub past_agree : (m n : ℕ) (w w' : List ℕ) → m ≤ n → length w' ≡ length w → LOG + n ≤ length w →
    ((j : ℕ) → j < LOG + n → get_or w' j 0 ≡ get_or w j 0) → past m n w' ≡ past m n w
unfolding past body entries
past_agree m n w w' h e l f =
    let b : take LOG w' ≡ take LOG w = ext_get_or 0 (take LOG w') (take LOG w) (simp length-take (rw e refl))
    (λ i p. let z = simp length-take at p in let q : i < LOG = omega arith in get_or-take LOG w' i 0 q ∙ f i (omega arith)
    ∙ sym (get_or-take LOG w i 0 q)) in
    rw b (back_agree (drop LOG w') (drop LOG w) m (n - m) (take LOG w) (λ k p. get_or-drop LOG w' k 0 ∙ f (LOG + k) (omega arith)
    ∙ sym (get_or-drop LOG w k 0)))

pub later_scratch : (a : ℕ) (u : List ℕ) (n : ℕ) (w w' : List ℕ) → Later a u n w → length w' ≡ length w →
    ((j : ℕ) → (j < LOG + n) ⊎ (WORDS ≤ j) → get_or w' j 0 ≡ get_or w j 0) → Later a u n w'
later_scratch a u n w w' p e f = record {
  len = e ∙ p.len;
  more = p.more;
  logged = logged_same n w w' p.logged e (λ j h. f j (inl (omega arith)));
  keeps = λ m h. past_agree m n w w' (le_trans h p.more) e p.logged.room (λ j h. f j (inl h)) ∙ p.keeps m h;
  rest = λ j h. f j (inr h) ∙ p.rest j h;
}

-- ---- one store, word by word
pub put_at : (k : ℕ) (w : List ℕ) (i v r : ℕ) (w' : List ℕ) → Stores k w i v r w' → i < LOG → LOG ≤ length w → get_or w' i 0 ≡ v
unfolding body
put_at k w i v r w' p h l =
    let e : length (take LOG w) ≡ LOG = length-take-le LOG w l in
    sym (get_or-take LOG w' i 0 h) ∙ ap (λ (t : List ℕ). get_or t i 0) p.now ∙ get_or-set_same (take LOG w) i v 0 (omega arith)

-- outside the log
pub put_off : (k : ℕ) (w : List ℕ) (i v r : ℕ) (w' : List ℕ) → Stores k w i v r w' → k < 4096 → (j : ℕ) → (j ≡ i → ⊥) →
    (j < LOG) ⊎ (STACK ≤ j) → get_or w' j 0 ≡ get_or w j 0
put_off k w i v r w' p h j n c = p.rest j n (λ e. ⊎_elim (λ l. omega arith) (λ l. omega arith) c)
