-- Along the signs: what was given, and what is still to come.
-- Assumes nothing.
use Prim.Native.Nat.{ℕ, suc, ◌+◌, ◌*◌, ◌-◌, ◌/◌, ◌%◌, ◌<◌, ◌≤◌}
use mathlib.Core.Path.{◌≡◌, refl, sym, ap, ap₂, subst, ◌∙◌}
use mathlib.Core.Bool.{Bool, true, false}
use mathlib.Core.List.{List, [], ◌∷◌}
use native.Mathlib.Omega.{arith}
use lib.ListN.{length, length-append}
use lib.Dec.{eqb}
use Rattle.theory.specs.Limits.{depth_limit}
use Rattle.signs.specs.Limits.{kind_unit}
use Rattle.signs.specs.Machine.{if_so}
use Rattle.rows.specs.Tokens.{Token, token_words, AllSmall}
use Rattle.rows.specs.Flagged.{word_of}
use Rattle.rows.specs.Machine.{ShallowAlts, Out, no_rows, ◌then◌, OpenFrame, Core, Pen, sign_gives, sign_moves, sign_turns, emit}
use Rattle.rows.specs.Machine.{first_given, first_core, first_pen, further_out}
use Rattle.rows.specs.Memory.{row_limit, stored, ListedFrom}
use Rattle.rows.specs.Held.{Held, with_alternative}
use Rattle.rows.proofs.Depth.{shallow_left}
use Rattle.rows.proofs.Given.{then_nothing, then_assoc}
use Rattle.rows.proofs.Steps.{stand_first, stand_flagged}
use Rattle.laying.specs.Table.{FourPut, AlternativePut}
use Rattle.laying.specs.Laying.{Tabs, Roomy, FewRows, LaidSoFar, SignComing, SignPassed, begun_at, WholeBegins, all_given}
use Rattle.laying.specs.Laying.{LaysOut, LaidAs}
use Rattle.laying.specs.declared.sign.At.{At}
use Rattle.std.specs.Prelude.{Option, Some, None}
use Rattle.laying.proofs.Held.{with_alts, hold_alternative, hold_root, memory_of, memory_held}

-- the signs from i on are still to come, and with what they give all is given
pub record Along (signs : List ℕ) (n i : ℕ) (all : Out) (T : Tabs) (at : At) : Type 0 where
  pub core : Core
  pub pen : Pen
  pub done : Out
  pub rest : List Token
  pub so_far : LaidSoFar T at core pen done
  pub total : done then emit rest core pen ≡ all
  pub count : i + length rest ≡ n
  pub written : ListedFrom (word_of signs) i (token_words rest)
  pub small : AllSmall rest
  pub high : length core.around ≤ i

-- a sign's word as its kind and its number
word_kind : (x k m : ℕ) → x ≡ k * kind_unit + m → m < kind_unit → x / kind_unit ≡ k
word_kind x k m e l = omega arith

word_number : (x k m : ℕ) → x ≡ k * kind_unit + m → m < kind_unit → x % kind_unit ≡ m
word_number x k m e l = omega arith

-- what is given so far is no more than all
part_few : (x y all : Out) → x then y ≡ all → FewRows all → FewRows x
part_few x y all e f =
    let arcs = ap (λ (z : Out). length z.arcs) e in
    let bears = ap (λ (z : Out). length z.bears) e in
    let shares = ap (λ (z : Out). length z.shares) e in
    let alts = ap (λ (z : Out). length z.alts) e in
    let arcs_both = length-append x.arcs y.arcs in
    let bears-both = length-append x.bears y.bears in
    let shares-both = length-append x.shares y.shares in
    let alts-both = length-append x.alts y.alts in
    let few_arcs = f.arcs in
    let few-bears = f.bears in
    let few-shares = f.shares in
    let few_alts = f.alts in
    record {
      arcs = omega (arith, arcs, arcs_both, few_arcs);
      bears = omega (arith, bears, bears-both, few-bears);
      shares = omega (arith, shares, shares-both, few-shares);
      alts = omega (arith, alts, alts-both, few_alts);
    }

-- what holds of both holds of either
either : {A : Type 0} (P : A → Type 0) (b : Bool) (x y : A) → P x → P y → P (if_so b x y)
either P true x y p q = p
either P false x y p q = q

fewer_out : (fs : List OpenFrame) → length (further_out fs) ≤ length fs
fewer_out [] = omega arith
fewer_out (f ∷ fs) = omega arith

-- a sign opens one group at most
around_more : (t : Token) (c : Core) (p : Pen) → length (sign_moves t c p).around ≤ suc (length c.around)
around_more t c p =
    let few : Core → Type 0 = λ (d : Core). length d.around ≤ suc (length c.around) in
    let further = fewer_out c.around in
    either few (eqb t.0 102) _ _ (omega arith)
    (either few (eqb t.0 40) _ _ (either few (eqb t.1 1) _ _ (omega arith) (omega arith))
    (either few (eqb t.0 41) _ _ (omega (arith, further)) (either few (eqb t.0 124) _ _ (omega arith) (omega arith))))

module _ (signs : List ℕ) (n i : ℕ) (all : Out) (T : Tabs) (at : At) (a : Along signs n i all T at) (less : i < n) where
  -- the sign that comes
  pub record Next : Type 0 where
    pub sign : Token
    pub others : List Token
    pub is : a.rest ≡ sign ∷ others
    pub token : (word_of signs i / kind_unit, word_of signs i % kind_unit) ≡ sign

  next : Next
  next = go a.rest refl a.count a.written a.small where
    go : (l : List Token) → a.rest ≡ l → i + length l ≡ n → ListedFrom (word_of signs) i (token_words l) → AllSmall l → Next
    go [] e q w s = absurd (omega arith)
    go (t ∷ ts) e q w s = record {
      sign = t;
      others = ts;
      is = e;
      token = ap₂ {C = Token} (λ (k m : ℕ). (k, m)) (word_kind (word_of signs i) t.0 t.1 w.0 s.0)
          (word_number (word_of signs i) t.0 t.1 w.0 s.0);
    }

  -- it is among all that is given
  next_total : (a.done then sign_gives next.sign a.core a.pen)
      then emit next.others (sign_moves next.sign a.core a.pen) (sign_turns next.sign a.core a.pen) ≡ all
  next_total =
      let t = next.sign in
      let c = a.core in
      let p = a.pen in
      then_assoc a.done (sign_gives t c p) (emit next.others (sign_moves t c p) (sign_turns t c p))
      ∙ ap (λ (l : List Token). a.done then emit l c p) (sym next.is) ∙ a.total

  next_small : AllSmall (next.sign ∷ next.others)
  next_small = subst AllSmall next.is a.small

  coming : FewRows all → n ≤ row_limit → Roomy T → SignComing T at next.sign
  coming few short room =
      let high = a.high in
      record {
        room = room;
        core = a.core;
        pen = a.pen;
        done = a.done;
        so_far = a.so_far;
        few = part_few (a.done then sign_gives next.sign a.core a.pen)
            (emit next.others (sign_moves next.sign a.core a.pen) (sign_turns next.sign a.core a.pen)) all next_total few;
        number = next_small.0;
        high = omega (arith, high, short, less);
      }

  -- by the word
  pub sign_comes : FewRows all → n ≤ row_limit → Roomy T → (x : ℕ) → x ≡ word_of signs i → SignComing T at (x / kind_unit, x % kind_unit)
  sign_comes few short room x e =
      subst (λ (y : ℕ). SignComing T at (y / kind_unit, y % kind_unit)) (sym e)
      (subst (SignComing T at) (sym next.token) (coming few short room))

  pub along_next : FewRows all → n ≤ row_limit → Roomy T → (x : ℕ) → x ≡ word_of signs i → (T' : Tabs) (r : At) (s : Option At) →
      s ≡ Some r → SignPassed T at (x / kind_unit, x % kind_unit) s T' → Along signs n (i + 1) all T' r
  unfolding coming
  along_next few short room x e T' r s on passed =
      let t = next.sign in
      let c = a.core in
      let p = a.pen in
      let by_word_lem = subst (λ (y : ℕ). SignPassed T at (y / kind_unit, y % kind_unit) (Some r) T') e
      (subst (λ (y : Option At). SignPassed T at (x / kind_unit, x % kind_unit) y T') on passed) in
      let by_sign_lem = subst (λ (s : Token). SignPassed T at s (Some r) T') next.token by_word_lem in
      let count = a.count in
      let long = ap (λ (l : List Token). length l) next.is in
      let high = a.high in
      let more = around_more t c p in
      let step : suc i ≡ i + 1 = omega arith in
      record {
        core = sign_moves t c p;
        pen = sign_turns t c p;
        done = a.done then sign_gives t c p;
        rest = next.others;
        so_far = by_sign_lem (coming few short room);
        total = next_total;
        count = omega (arith, count, long);
        written = subst (λ (j : ℕ). ListedFrom (word_of signs) j (token_words next.others)) step
            (subst (λ (l : List Token). ListedFrom (word_of signs) i (token_words l)) next.is a.written).1;
        small = next_small.1;
        high = omega (arith, high, more);
      }

  pub along_deep : FewRows all → n ≤ row_limit → Roomy T → (x : ℕ) → x ≡ word_of signs i → (T' : Tabs) (s : Option At) →
      s ≡ None → SignPassed T at (x / kind_unit, x % kind_unit) s T' → ShallowAlts depth_limit all.alts → ⊥
  unfolding coming
  along_deep few short room x e T' s deep passed shallow =
      let t = next.sign in
      let c = a.core in
      let p = a.pen in
      let by_word_lem = subst (λ (y : ℕ). SignPassed T at (y / kind_unit, y % kind_unit) None T') e
      (subst (λ (y : Option At). SignPassed T at (x / kind_unit, x % kind_unit) y T') deep passed) in
      let by_sign_lem = subst (λ (s : Token). SignPassed T at s None T') next.token by_word_lem in
      let given = a.done then sign_gives t c p in
      let others = emit next.others (sign_moves t c p) (sign_turns t c p) in
      by_sign_lem (coming few short room) (shallow_left depth_limit given.alts others.alts
      (subst (λ (y : Out). ShallowAlts depth_limit y.alts) (sym next_total) shallow))

-- all signs were gone through
pub along_done : (signs : List ℕ) (n i : ℕ) (all : Out) (T : Tabs) (at : At) → Along signs n i all T at → n ≤ i →
    LaidAs all (Some (record { arcs = at.spots - 1; atoms = at.bears; ties = at.ties; alts = at.alts })) T
along_done signs n i all T at a most = go a.rest refl where
  go : (l : List Token) → a.rest ≡ l → LaidAs all (Some (record { arcs = at.spots - 1; atoms = at.bears; ties = at.ties; alts = at.alts })) T
  go (t ∷ ts) e = let count = a.count in let long = ap (λ (l : List Token). length l) e in absurd (omega (arith, count, long, most))
  go [] e =
      let s = a.so_far in
      let v = s.views in
      let spots = v.spots in
      let count = s.stands.spots in
      let alts = v.alts in
      let number = s.stands.alts in
      let is : a.done ≡ all =
      sym (then_nothing a.done) ∙ ap (λ (l : List Token). a.done then emit l a.core a.pen) (sym e) ∙ a.total in
      subst (λ (y : Out). LaidAs y (Some (record { arcs = at.spots - 1; atoms = at.bears; ties = at.ties; alts = at.alts })) T) is (
        s.shallow,
        omega (arith, spots, count),
        v.bears,
        v.ties,
        omega (arith, alts, number),
        (s.memory, s.holds, subst (Held s.memory a.done) (sym alts) s.stands.held),
      )

-- before the first sign
module _ (T : Tabs) (ks' : List ℕ) where
  plain_begun : FourPut T.alts 0 0 0 0 0 ks' → LaidSoFar (with_alts T ks') (begun_at false) (first_core false) first_pen no_rows
  plain_begun put =
      let M = memory_of T in
      record {
        memory = stored (stored (stored (stored M 6 0 0) 7 0 0) 9 0 0) 8 0 0;
        holds = hold_root T M (memory_held T) ks' put;
        stands = stand_first (stored (stored M 6 0 0) 7 0 0);
        views = record {
          spots = refl;
          alts = refl;
          base = refl;
          home = refl;
          group = refl;
          depth = refl;
          cur = refl;
          start = refl;
          end = refl;
          bears = refl;
          ties = refl;
          height = refl;
        };
        frames = (omega arith, tt);
        shallow = tt;
      }

  flagged_begun : (ls : List ℕ) → FourPut T.alts 0 0 0 0 0 ls → AlternativePut ls 1 0 1 0 ks' →
      LaidSoFar (with_alts T ks') (begun_at true) (first_core true) first_pen (no_rows then first_given true)
  flagged_begun ls put alt =
      let M = memory_of T in
      let root = stored (stored (stored (stored M 6 0 0) 7 0 0) 9 0 0) 8 0 0 in
      record {
        memory = with_alternative root 1 0 1 0;
        holds = hold_alternative (with_alts T ls) root (hold_root T M (memory_held T) ls put) 1 0 1 0 ks' alt;
        stands = stand_flagged (stored (stored M 6 0 0) 7 0 0);
        views = record {
          spots = refl;
          alts = refl;
          base = refl;
          home = refl;
          group = refl;
          depth = refl;
          cur = refl;
          start = refl;
          end = refl;
          bears = refl;
          ties = refl;
          height = refl;
        };
        frames = (omega arith, tt);
        shallow = (omega arith, tt);
      }

  begun : (b : Bool) → WholeBegins T.alts b ks' → LaidSoFar (with_alts T ks') (begun_at b) (first_core b) first_pen (first_given b)
  begun true h = flagged_begun h.0 h.1 h.2
  begun false h = plain_begun h

  first_around : (b : Bool) → length (first_core b).around ≡ 0
  first_around true = refl
  first_around false = refl

  pub along_begin : (signs : List ℕ) (n : ℕ) (b : Bool) (r : At) → r ≡ begun_at b → WholeBegins T.alts b ks' → (c : LaysOut signs n b) →
      Along signs n 0 (all_given b c.marks) (with_alts T ks') r
  along_begin signs n b r e h c =
      let count = c.count in
      let around = first_around b in
      record {
        core = first_core b;
        pen = first_pen;
        done = first_given b;
        rest = c.marks;
        so_far = subst (λ (y : At). LaidSoFar (with_alts T ks') y (first_core b) first_pen (first_given b)) (sym e) (begun b h);
        total = refl;
        count = omega (arith, count);
        written = c.written;
        small = c.small;
        high = omega (arith, around);
      }

-- tables of the same lengths have the same room
pub roomy_as : (T T' : Tabs) → Roomy T → length T'.arcs ≡ length T.arcs → length T'.atoms ≡ length T.atoms →
    length T'.ties ≡ length T.ties → length T'.alts ≡ length T.alts → length T'.frames ≡ length T.frames → Roomy T'
roomy_as T T' r a b c d e =
    let arcs = r.arcs in
    let atoms = r.atoms in
    let ties = r.ties in
    let alts = r.alts in
    let frames = r.frames in
    record {
      arcs = omega (arith, a, arcs);
      atoms = omega (arith, b, atoms);
      ties = omega (arith, c, ties);
      alts = omega (arith, d, alts);
      frames = omega (arith, e, frames);
    }
