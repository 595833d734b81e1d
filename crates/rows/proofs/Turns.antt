-- Marking the groups, sign by sign from the last.
-- Assumes nothing.
use Prim.Native.Nat.{ℕ, suc, ◌+◌, ◌*◌, ◌-◌, ◌/◌, ◌<◌, ◌≤◌}
use mathlib.Core.Path.{◌≡◌, refl, sym, ap, subst, ◌∙◌}
use mathlib.Core.Bool.{Bool, true, false}
use mathlib.Core.List.{List, [], ◌∷◌}
use native.Mathlib.Omega.{arith}
use lib.ListN.{length, get_or, set}
use lib.Seq.{get_or-set_same, get_or-set_other}
use mir.Val.{bool_byte}
use Rattle.signs.specs.Limits.{kind_unit}
use Rattle.rows.specs.Tokens.{Token, token_word, token_words, AllSmall, MarkedSigns, flag_bit, top_flag, under_top, flag, flagging}
use Rattle.rows.specs.Tokens.{unmarked}
use Rattle.rows.specs.Memory.{ListedFrom}
use Rattle.rows.specs.Flagged.{last_of, word_of, Piled, SignTurning, SignTurned, Flagging}

pub byte_bit : (b : Bool) → bool_byte b ≡ flag_bit b
byte_bit true = refl
byte_bit false = refl

-- ---- lists in flags and in words
piled_off : (f bs : List Bool) (i : ℕ) (x : Bool) → length bs ≤ i → Piled f bs → Piled (set f i x) bs
piled_off f [] i x l p = tt
piled_off f (b ∷ bs) i x l p =
    (get_or-set_other f i (length bs) x false (λ e. absurd (omega arith)) ∙ p.0, piled_off f bs i x (omega arith) p.1)

piled_push : (f bs : List Bool) (b : Bool) (i : ℕ) → i < length f → i ≡ length bs → Piled f bs → Piled (set f i b) (b ∷ bs)
piled_push f bs b i l e p =
    (ap (λ (k : ℕ). get_or (set f i b) k false) (sym e) ∙ get_or-set_same f i b false l, piled_off f bs i b (omega arith) p)

piled_under : (f bs : List Bool) → Piled f bs → Piled f (under_top bs)
piled_under f [] p = tt
piled_under f (b ∷ bs) p = p.1

under_long : (bs : List Bool) → length (under_top bs) ≡ length bs - 1
under_long [] = refl
under_long (b ∷ bs) = omega arith

top_last : (f bs : List Bool) → Piled f bs → last_of f (length bs) ≡ top_flag bs
top_last f [] p = refl
top_last f (b ∷ bs) p = p.0

listed_off : (w : List ℕ) (i x m : ℕ) (l : List ℕ) → i < m → ListedFrom (word_of w) m l → ListedFrom (word_of (set w i x)) m l
listed_off w i x m [] b p = tt
listed_off w i x m (y ∷ l) b p =
    (get_or-set_other w i m x 0 (λ e. absurd (omega arith)) ∙ p.0, listed_off w i x (suc m) l (omega arith) p.1)

kind_is : (x k m : ℕ) → x ≡ k * kind_unit + m → m < kind_unit → x / kind_unit ≡ k
kind_is x k m e l = omega arith

-- ---- a sign
module _ (w : List ℕ) (i : ℕ) (f : List Bool) (top : ℕ) (il : i < length w) (tl : top < length f) where
  kind_of : (c : SignTurning w i f top) (k : ℕ) → word_of w i / kind_unit ≡ k → c.sign.0 ≡ k
  kind_of c k e = sym (kind_is (word_of w i) c.sign.0 c.sign.1 c.word c.small) ∙ e

  -- a flagged sign by its kind
  by_close : (t : Token) (y : MarkedSigns) → t.0 ≡ 41 → flag t y ≡ record { done = t ∷ y.done; flags = false ∷ y.flags }
  by_close t y e =
      subst (λ (k : ℕ). flag (k, t.1) y ≡ record { done = (k, t.1) ∷ y.done; flags = false ∷ y.flags }) (sym e) refl

  by_or : (t : Token) (y : MarkedSigns) → t.0 ≡ 124 → flag t y ≡ record { done = t ∷ y.done; flags = true ∷ under_top y.flags }
  by_or t y e =
      subst (λ (k : ℕ). flag (k, t.1) y ≡ record { done = (k, t.1) ∷ y.done; flags = true ∷ under_top y.flags }) (sym e) refl

  by_open : (t : Token) (y : MarkedSigns) → t.0 ≡ 40 →
      flag t y ≡ record { done = (40, flag_bit (top_flag y.flags)) ∷ y.done; flags = under_top y.flags }
  by_open t y e =
      subst (λ (k : ℕ). flag (k, t.1) y ≡ record { done = (40, flag_bit (top_flag y.flags)) ∷ y.done; flags = under_top y.flags })
      (sym e) refl

  abbrev Flag : SignTurning w i f top → MarkedSigns
  Flag c = flag c.sign c.after

  -- what becomes of the state, from the marks after the sign
  turned_as : (r : ℕ) (w' : List ℕ) (f' : List Bool) → ((j : ℕ) → j < i → word_of w' j ≡ word_of w j) → r ≤ suc top →
      ((c : SignTurning w i f top) → (y : MarkedSigns) × (Flag c ≡ y) × (r ≡ length y.flags) × Piled f' y.flags
      × ListedFrom (word_of w') i
      (token_words y.done)) →
      SignTurned w i f top r w' f'
  turned_as r w' f' front few h = record {
    front = front;
    few = few;
    high = λ c. let (y, e, a, b, d) = h c in a ∙ ap (λ (z : MarkedSigns). length z.flags) (sym e);
    flags = λ c. let (y, e, a, b, d) = h c in subst (λ (z : MarkedSigns). Piled f' z.flags) (sym e) b;
    done = λ c. let (y, e, a, b, d) = h c in subst (λ (z : MarkedSigns). ListedFrom (word_of w') i (token_words z.done)) (sym e) d;
  }

  pub turned_close : word_of w i / kind_unit ≡ 41 → SignTurned w i f top (top + 1) w (set f top false)
  turned_close k = turned_as (top + 1) w (set f top false) (λ j l. refl) (omega arith) (λ c.
      let h = c.high in (
        record { done = c.sign ∷ c.after.done; flags = false ∷ c.after.flags },
        by_close c.sign c.after (kind_of c 41 k),
        omega (arith, h),
        piled_push f c.after.flags false top tl h c.flags,
        (c.word, c.done),
      ))

  pub turned_or : (at : ℕ) → word_of w i / kind_unit ≡ 124 → at ≡ top - 1 → SignTurned w i f top (at + 1) w (set f at true)
  turned_or at k e = turned_as (at + 1) w (set f at true) (λ j b. refl) (omega arith) (λ c.
      let u = under_long c.after.flags in
      let h = c.high in
      let x : at ≡ length (under_top c.after.flags) = omega arith in (
        record { done = c.sign ∷ c.after.done; flags = true ∷ under_top c.after.flags },
        by_or c.sign c.after (kind_of c 124 k),
        omega (arith, x),
        piled_push f (under_top c.after.flags) true at (omega arith) x (piled_under f c.after.flags c.flags),
        (c.word, c.done),
      ))

  pub turned_open : (b : Bool) (r x : ℕ) → word_of w i / kind_unit ≡ 40 → b ≡ last_of f top → r ≡ top - 1 → x ≡ 2621440 + flag_bit b →
      SignTurned w i f top r (set w i x) f
  turned_open b r x k e q z = turned_as r (set w i x) f (λ j b. get_or-set_other w i j x 0 (λ v. absurd (omega arith))) (omega arith) (λ c.
      let u = under_long c.after.flags in
      let h = c.high in
      let v : b ≡ top_flag c.after.flags = e ∙ ap (last_of f) c.high ∙ top_last f c.after.flags c.flags in
      let y : flag_bit b ≡ flag_bit (top_flag c.after.flags) = ap flag_bit v in (
        record { done = (40, flag_bit (top_flag c.after.flags)) ∷ c.after.done; flags = under_top c.after.flags },
        by_open c.sign c.after (kind_of c 40 k),
        omega arith,
        piled_under f c.after.flags c.flags,
        (get_or-set_same w i x 0 il ∙ omega arith, listed_off w i x (suc i) (token_words c.after.done) (omega arith) c.done),
      ))

-- ---- all signs
-- signs that are left, the last one first
abbrev back : List Token → MarkedSigns → MarkedSigns
back [] y = y
back (t ∷ r) y = back r (flag t y)

abbrev turned_over : List Token → List Token → List Token
turned_over [] l = l
turned_over (t ∷ ts) l = turned_over ts (t ∷ l)

over_back : (r l : List Token) (y : MarkedSigns) → flagging (turned_over r l) y ≡ back r (flagging l y)
over_back [] l y = refl
over_back (t ∷ r) l y = over_back r (t ∷ l) y

over_over : (r l : List Token) → turned_over (turned_over r l) [] ≡ turned_over l r
over_over [] l = refl
over_over (t ∷ r) l = over_over r (t ∷ l)

abbrev PiledWords : List ℕ → List Token → Type 0
PiledWords w [] = Unit {0}
PiledWords w (t ∷ r) = (word_of w (length r) ≡ token_word t) × PiledWords w r

over_piled : (w : List ℕ) (ts r : List Token) → ListedFrom (word_of w) (length r) (token_words ts) → PiledWords w r →
    PiledWords w (turned_over ts r)
over_piled w [] r p q = q
over_piled w (t ∷ ts) r p q = over_piled w ts (t ∷ r) p.1 (p.0, q)

over_small : (ts r : List Token) → AllSmall ts → AllSmall r → AllSmall (turned_over ts r)
over_small [] r p q = q
over_small (t ∷ ts) r p q = over_small ts (t ∷ r) p.1 (p.0, q)

over_long : (ts r : List Token) → length (turned_over ts r) ≡ length ts + length r
over_long [] r = omega arith
over_long (t ∷ ts) r = let e = over_long ts (t ∷ r) in omega (arith, e)

piled_kept : (w w' : List ℕ) (r : List Token) (i : ℕ) → length r ≤ i → ((j : ℕ) → j < i → word_of w' j ≡ word_of w j) → PiledWords w r →
    PiledWords w' r
piled_kept w w' [] i l k p = tt
piled_kept w w' (t ∷ r) i l k p = (k (length r) (omega arith) ∙ p.0, piled_kept w w' r i (omega arith) k p.1)

pub record Going (ts : List Token) (n : ℕ) (w : List ℕ) (f : List Bool) (top i : ℕ) : Type 0 where
  pub rest : List Token
  pub small : AllSmall rest
  pub front : PiledWords w rest
  pub left : i ≡ length rest
  pub after : MarkedSigns
  pub flags : Piled f after.flags
  pub high : top ≡ length after.flags
  pub done : ListedFrom (word_of w) i (token_words after.done)
  pub whole : flagging ts unmarked ≡ back rest after
  pub few : top + i ≤ suc n

pub going_start : (w : List ℕ) (n : ℕ) (f : List Bool) (c : Flagging w n f) → Going c.signs n w (set f 0 false) 1 n
going_start w n f c =
    let ts = c.signs in
    let e : turned_over (turned_over ts []) [] ≡ ts = over_over ts [] in
    let l = over_long ts [] in
    let k = c.count in
    let room = c.room in
    let x : n ≡ length (turned_over ts []) = omega (arith, l, k) in
    record {
      rest = turned_over ts [];
      small = over_small ts [] c.small tt;
      front = over_piled w ts [] c.written tt;
      left = x;
      after = unmarked;
      flags = (get_or-set_same f 0 false false (omega (arith, room)), tt);
      high = refl;
      done = tt;
      whole = ap (λ (l : List Token). flagging l unmarked) (sym e) ∙ over_back (turned_over ts []) [] unmarked;
      few = omega arith;
    }

pub going_turning : (ts : List Token) (n : ℕ) (w : List ℕ) (f : List Bool) (top i : ℕ) → 0 < i → Going ts n w f top i → SignTurning w (i - 1) f top
going_turning ts n w f top i z g = go g.rest g.left g.small g.front where
  go : (r : List Token) → i ≡ length r → AllSmall r → PiledWords w r → SignTurning w (i - 1) f top
  go [] e s p = absurd (omega arith)
  go (t ∷ r) e s p =
      let x : length r ≡ i - 1 = omega arith in
      let y : i ≡ suc (i - 1) = omega arith in
      record {
        sign = t;
        small = s.0;
        word = ap (word_of w) (sym x) ∙ p.0;
        after = g.after;
        flags = g.flags;
        high = g.high;
        done = subst (λ (k : ℕ). ListedFrom (word_of w) k (token_words g.after.done)) y g.done;
      }

pub going_on : (ts : List Token) (n : ℕ) (w : List ℕ) (f : List Bool) (top i : ℕ) (z : 0 < i) (g : Going ts n w f top i) (r : ℕ) (w' : List ℕ)
    (f' : List Bool) →
    SignTurned w (i - 1) f top r w' f' → Going ts n w' f' r (i - 1)
going_on ts n w f top i z g r w' f' t = go g.rest g.left g.small g.front g.whole where
  go : (l : List Token) → i ≡ length l → AllSmall l → PiledWords w l → flagging ts unmarked ≡ back l g.after → Going ts n w' f' r (i - 1)
  go [] e s p q = absurd (omega arith)
  go (x ∷ l) e s p q =
      let k : length l ≡ i - 1 = omega arith in
      let y : i ≡ suc (i - 1) = omega arith in
      let c : SignTurning w (i - 1) f top = record {
        sign = x;
        small = s.0;
        word = ap (word_of w) (sym k) ∙ p.0;
        after = g.after;
        flags = g.flags;
        high = g.high;
        done = subst (λ (k : ℕ). ListedFrom (word_of w) k (token_words g.after.done)) y g.done;
      } in
      let few = t.few in
      let old = g.few in
      record {
        rest = l;
        small = s.1;
        front = piled_kept w w' l (i - 1) (omega arith) t.front p.1;
        left = sym k;
        after = flag x g.after;
        flags = t.flags c;
        high = t.high c;
        done = t.done c;
        whole = q;
        few = omega (arith, few, old);
      }

pub going_end : (ts : List Token) (n : ℕ) (w : List ℕ) (f : List Bool) (top i : ℕ) → i ≡ 0 → (g : Going ts n w f top i) →
    ListedFrom (word_of w) 0 (token_words (flagging ts unmarked).done)
    × (last_of f top ≡ top_flag (flagging ts unmarked).flags)
going_end ts n w f top i z g = go g.rest g.left g.whole where
  go : (l : List Token) → i ≡ length l → flagging ts unmarked ≡ back l g.after →
      ListedFrom (word_of w) 0 (token_words (flagging ts unmarked).done)
      × (last_of f top ≡ top_flag (flagging ts unmarked).flags)
  go (t ∷ l) e q = absurd (omega arith)
  go [] e q = (
    subst (λ (y : MarkedSigns). ListedFrom (word_of w) 0 (token_words y.done)) (sym q)
        (subst (λ (k : ℕ). ListedFrom (word_of w) k (token_words g.after.done)) z g.done),
    ap (last_of f) g.high ∙ top_last f g.after.flags g.flags ∙ ap (λ (y : MarkedSigns). top_flag y.flags) (sym q),
  )
