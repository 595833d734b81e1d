-- What a choice takes, one after the other, as it stands listed. Assumes nothing.
use Prim.Native.Nat.{ℕ, zero, suc, ◌+◌, ◌<◌}
use native.Mathlib.Omega.{arith}
use native.Mathlib.Numerals.{add-one}
use mathlib.Core.Path.{◌≡◌, refl, sym, ap, subst, ◌∙◌}
use mathlib.Core.List.Memᴰ
use mathlib.Core.List.{List, [], ◌∷◌, ◌++◌, Memᴰ}
use mathlib.Core.List.{append-nil}
use mathlib.Core.Logic.{⊎_elim}
use mathlib.Core.Bool.{Bool, true, false}
use lib.ListN.{length, get_or, take}
use Rattle.layout.specs.Standing.{Stands}
use Rattle.layout.proofs.Standing.{stands_length}
use Rattle.loading.specs.Entry.{Entry}
use Rattle.choosing.specs.Ways.{Take, take_word, words_of}
use Rattle.choosing.proofs.Nth.{entries_of, new_of}

-- the next one after the first i, of those that stand from p on
pub record Turn (w : List ℕ) (p : ℕ) (ts : List Take) (i : ℕ) : Type 0 where
  pub k : Take
  pub rest : List Take
  pub one : Memᴰ k ts
  pub next : take (suc i) ts ≡ take i ts ++ k ∷ []
  pub split : ts ≡ take i ts ++ k ∷ rest
  pub word : get_or w (p + i) 0 ≡ take_word k

pub turn : (w : List ℕ) (p q : ℕ) (ts : List Take) (i : ℕ) → Stands w p (words_of ts) q → i < length ts → Turn w p ts i
unfolding Stands
turn w p q [] i s h = absurd (omega arith)
turn w p q (k ∷ ts) zero s h =
    let e : p + 0 ≡ p = omega arith in
    record { k = k; rest = ts; one = Memᴰ.head refl; next = refl; split = refl; word = ap (λ (z : ℕ). get_or w z 0) e ∙ s.1 }
turn w p q (k ∷ ts) (suc i) s h =
    let r = turn w (p + 1) q ts i s.2 (omega arith) in
    let e : p + suc i ≡ p + 1 + i = omega arith in
    record {
      k = r.k;
      rest = r.rest;
      one = Memᴰ.tail r.one;
      next = ap (λ (l : List Take). k ∷ l) r.next;
      split = ap (λ (l : List Take). k ∷ l) r.split;
      word = ap (λ (z : ℕ). get_or w z 0) e ∙ r.word;
    }

pub turn_next : {w : List ℕ} {p : ℕ} {ts : List Take} {i : ℕ} (r : Turn w p ts i) → take (i + 1) ts ≡ take i ts ++ r.k ∷ []
turn_next {w} {p} {ts} {i} r = rw (add-one i) r.next

words_many : (ts : List Take) → length (words_of ts) ≡ length ts
words_many [] = refl
words_many (k ∷ ts) = ap suc (words_many ts)

pub turns_count : (w : List ℕ) (p : ℕ) (ts : List Take) (many : ℕ) → Stands w p (words_of ts) (p + many) → length ts ≡ many
turns_count w p ts many s = omega (arith, stands_length w (words_of ts) p (p + many) s, words_many ts)

-- ---- those that are to be pushed
abbrev pub news : List Take → List Entry
news ts = entries_of (new_of ts)

-- one before others
onto : Bool → Entry → List Entry → List Entry
onto b e l = elim b [ true ↦ e ∷ l | false ↦ l ]

news_cons : (k : Take) (ts : List Take) → news (k ∷ ts) ≡ onto k.new k.entry (news ts)
unfolding onto
news_cons k ts = go k.new
  where
    go : (b : Bool) → entries_of (elim b [ true ↦ k ∷ new_of ts | false ↦ new_of ts ]) ≡ onto b k.entry (news ts)
    go true = refl
    go false = refl

onto_append : (b : Bool) (e : Entry) (x y : List Entry) → onto b e (x ++ y) ≡ onto b e x ++ y
unfolding onto
onto_append true e x y = refl
onto_append false e x y = refl

pub news_append : (a b : List Take) → news (a ++ b) ≡ news a ++ news b
news_append [] b = refl
news_append (k ∷ a) b =
    news_cons k (a ++ b)
    ∙ ap (onto k.new k.entry) (news_append a b)
    ∙ onto_append k.new k.entry (news a) (news b)
    ∙ ap (λ (l : List Entry). l ++ news b) (sym (news_cons k a))

pub news_new : (a : List Take) (k : Take) → k.new ≡ true → news (a ++ k ∷ []) ≡ news a ++ k.entry ∷ []
unfolding onto
news_new a k e = news_append a (k ∷ []) ∙ ap (λ (l : List Entry). news a ++ l) (news_cons k [] ∙ ap (λ (b : Bool). onto b k.entry []) e)

pub news_old : (a : List Take) (k : Take) → k.new ≡ false → news (a ++ k ∷ []) ≡ news a
unfolding onto
news_old a k e =
    news_append a (k ∷ []) ∙ ap (λ (l : List Entry). news a ++ l) (news_cons k [] ∙ ap (λ (b : Bool). onto b k.entry []) e)
    ∙ append-nil (news a)

-- each of them is taken
pub record Newly (ts : List Take) (o : Entry) : Type 0 where
  pub k : Take
  pub one : Memᴰ k ts
  pub is : o ≡ k.entry

later_newly : (x : Take) (ts : List Take) (o : Entry) → Newly ts o → Newly (x ∷ ts) o
later_newly x ts o w = record { k = w.k; one = Memᴰ.tail w.one; is = w.is }

pub newly : (ts : List Take) (o : Entry) → Memᴰ o (news ts) → Newly ts o
unfolding onto
newly [] o m = absurd (Memᴰ.not-nil m)
newly (k ∷ ts) o m = go k.new (subst (Memᴰ o) (news_cons k ts) m) (newly ts o)
  where
    go : (b : Bool) → Memᴰ o (onto b k.entry (news ts)) → (Memᴰ o (news ts) → Newly ts o) → Newly (k ∷ ts) o
    go true m r = ⊎_elim (λ e. record { k = k; one = Memᴰ.head refl; is = e }) (λ j. later_newly k ts o (r j)) (Memᴰ.cases_cons m)
    go false m r = later_newly k ts o (r m)
