-- From the signs of a formula to marked signs, and from these to tables.
-- Assumes nothing.
use Prim.Native.Nat.{ℕ, suc, ◌+◌, ◌<◌, ◌≤◌}
use mathlib.Core.Path.{◌≡◌, refl, sym, ap, ap₂, subst, ◌∙◌}
use mathlib.Core.Logic.{inl, inr}
use mathlib.Core.Bool.{Bool, true, false}
use mathlib.Core.Option.{Option, none, some}
use mathlib.Core.List.{List, [], ◌∷◌}
use Rattle.std.specs.Prelude.{Some, None, Ok, Err}
use Rattle.std.specs.Prelude as rust
use native.Mathlib.Omega.{arith}
use lib.ListN.{length, get_or, take, length-take}
use lib.Seq.{get_or-take, take_all}
use lib.Dec.{eqb, ltb}
use borrow.Author.Tests.{ltb-true, ltb-false}
use Rattle.theory.specs.Limits.{depth_limit}
use Rattle.theory.specs.Descr.{Desc}
use Rattle.formulas.specs.Formula.{Formula, depth}
use Rattle.formulas.specs.Describe.{describe}
use Rattle.signs.specs.Limits.{formula_limit, kind_unit}
use Rattle.signs.specs.Machine.{if_so}
use Rattle.signs.specs.Signs.{Sign, nil_sign, top_sign, atom_sign, feature_sign, mark, sign_word, sign_words}
use Rattle.signs.specs.Grammar.{Reads}
use Rattle.signs.specs.Judged.{Good}
use Rattle.signs.proofs.Words.{Each, spelt_small}
use Rattle.signs.proofs.Words as signs
use Rattle.rows.specs.Tokens.{Token, sign_token, tokens, token_word, token_words, AllSmall, MarkedSigns, flag_bit, top_flag, flag}
use Rattle.rows.specs.Tokens.{flagging, unmarked}
use Rattle.rows.specs.Flagged.{word_of, Flagging, Flags}
use Rattle.rows.specs.Machine.{Out}
use Rattle.rows.specs.Given.{given}
use Rattle.rows.specs.Memory.{row_limit, ListedFrom}
use Rattle.rows.proofs.Bounds.{spelt_weight, whole_few}
use Rattle.rows.proofs.Depth.{depth_low, depth_high}
use Rattle.rows.proofs.Given.{whole_given}
use Rattle.rows.proofs.Lies.{alts_width}
use Rattle.rows.proofs.Numbered.{arcs_count, bears_count, shares_count}
use Rattle.laying.specs.Laying.{Tabs, Roomy, FewRows, all_given, LaysOut, LaidAs, LaidOut}
use Rattle.laying.specs.declared.laying.Rows.{Rows}
use Rattle.translate.specs.Translated.{Translated, Shallow}
use Rattle.translate.specs.Stages.{DescribedTo, TreeLaid, TreeTold, TreeRead, TreeMarked}
use Rattle.translate.specs.Answer.{Answer}
use Rattle.translate.specs.declared.answer.Refusal.TheVariants.{BadText, TooDeep, Clash, TooLong, NoRoom, LongText}

-- ---- marked signs
-- a sign's word is its token's
token_is : (s : Sign) → sign_word s ≡ token_word (sign_token s)
unfolding sign_word
token_is nil_sign = refl
token_is top_sign = refl
token_is (atom_sign a) = refl
token_is (feature_sign f) = refl
token_is (mark b) = omega arith

tokens_listed : (w : List ℕ) (m : ℕ) (σ : List Sign) → ListedFrom (word_of w) m (sign_words σ) → ListedFrom (word_of w) m (token_words (tokens σ))
unfolding sign_words
tokens_listed w m [] p = tt
tokens_listed w m (s ∷ σ) p = (p.0 ∙ token_is s, tokens_listed w (suc m) σ p.1)

-- a list stands where its words are read
listed_of : (v l : List ℕ) (m : ℕ) → ((i : ℕ) → i < length l → get_or v (m + i) 0 ≡ get_or l i 0) → ListedFrom (word_of v) m l
listed_of v [] m h = tt
listed_of v (x ∷ l) m h =
    let here : m + 0 ≡ m = omega arith in (
      subst (λ (k : ℕ). get_or v k 0 ≡ x) here (h 0 (omega arith)),
      listed_of v l (suc m) (λ i b.
          let next : m + suc i ≡ suc m + i = omega arith in
          subst (λ (k : ℕ). get_or v k 0 ≡ get_or l i 0) next (h (suc i) (omega arith))),
    )

taken_listed : (v : List ℕ) (n : ℕ) (l : List ℕ) → take n v ≡ l → ListedFrom (word_of v) 0 l
taken_listed v n l e =
    subst (ListedFrom (word_of v) 0) e (listed_of v (take n v) 0 (λ i b.
    let long = length-take n v in
    let same : 0 + i ≡ i = omega arith in
    ap (λ (k : ℕ). get_or v k 0) same ∙ sym (get_or-take n v i 0 (omega (arith, long, b)))))

tokens_small : (σ : List Sign) → Each signs.Fits σ → AllSmall (tokens σ)
tokens_small [] p = tt
tokens_small (nil_sign ∷ σ) p = (omega arith, tokens_small σ p.1)
tokens_small (top_sign ∷ σ) p = (omega arith, tokens_small σ p.1)
tokens_small (atom_sign a ∷ σ) p = let low = p.0 in (omega (arith, low), tokens_small σ p.1)
tokens_small (feature_sign f ∷ σ) p = let low = p.0 in (omega (arith, low), tokens_small σ p.1)
tokens_small (mark b ∷ σ) p = (omega arith, tokens_small σ p.1)

tokens_long : (σ : List Sign) → length (tokens σ) ≡ length σ
tokens_long [] = refl
tokens_long (s ∷ σ) = let e = tokens_long σ in omega (arith, e)

-- marking keeps the number of signs, and their numbers small
bit_small : (b : Bool) → flag_bit b < kind_unit
bit_small true = omega arith
bit_small false = omega arith

pub record Kept (n : ℕ) (y : MarkedSigns) : Type 0 where
  pub small : AllSmall y.done
  pub long : length y.done ≡ n

kept_either : (n : ℕ) (b : Bool) (x y : MarkedSigns) → Kept n x → Kept n y → Kept n (if_so b x y)
kept_either n true x y p q = p
kept_either n false x y p q = q

flag_kept : (t : Token) (y : MarkedSigns) (n : ℕ) → t.1 < kind_unit → Kept n y → Kept (suc n) (flag t y)
flag_kept t y n l k =
    let long = k.long in
    kept_either (suc n) (eqb t.0 41) _ _ (record { small = (l, k.small); long = omega (arith, long) })
    (kept_either (suc n) (eqb t.0 124) _ _ (record { small = (l, k.small); long = omega (arith, long) })
    (kept_either (suc n) (eqb t.0 40) _ _ (record { small = (bit_small (top_flag y.flags), k.small); long = omega (arith, long) })
    (record { small = (l, k.small); long = omega (arith, long) })))

flagging_kept : (ts : List Token) → AllSmall ts → Kept (length ts) (flagging ts unmarked)
flagging_kept [] p = record { small = tt; long = refl }
flagging_kept (t ∷ ts) p = flag_kept t (flagging ts unmarked) (length ts) p.0 (flagging_kept ts p.1)

-- the groups can be marked
pub flagging_of : (φ : Formula) (w : List ℕ) (n : ℕ) (f : List Bool) → length f ≡ suc row_limit → TreeRead φ w n → Flagging w n f
flagging_of φ w n f l c =
    let count = c.count in
    let few = c.few in
    let short = c.short in
    let long = tokens_long c.signs in
    record {
      signs = tokens c.signs;
      small = tokens_small c.signs (spelt_small c.spelt);
      count = omega (arith, count, long);
      written = tokens_listed w 0 c.signs (taken_listed w n (sign_words c.signs) c.written);
      long = c.long;
      room = omega (arith, few, short, l);
    }

pub marked_of : (φ : Formula) (w : List ℕ) (f : List Bool) (flagged : Bool) (w' : List ℕ) → length f ≡ suc row_limit →
    length w' ≡ length w → Flags w (length w) f flagged w' → TreeRead φ w (length w) → TreeMarked φ w' (length w') flagged
unfolding flagging_of
marked_of φ w f flagged w' l same h c =
    let at = flagging_of φ w (length w) f l c in
    let count = c.count in
    let few = c.few in
    record {
      text = c.text;
      signs = c.signs;
      short = c.short;
      spelt = c.spelt;
      formula = c.formula;
      count = omega arith;
      few = omega arith;
      long = omega arith;
      written = h.written at;
      whole = h.whole at;
    }

-- the words of the signs are a list of their own
pub read_whole : (φ : Formula) (w : List ℕ) (n : ℕ) → TreeRead φ w n → TreeRead φ (take n w) (length (take n w))
read_whole φ w n c =
    let long = length-take n w in
    let inside = c.long in
    let count = c.count in
    let few = c.few in
    let size : length (take n w) ≡ n = omega arith in
    record {
      text = c.text;
      signs = c.signs;
      short = c.short;
      spelt = c.spelt;
      formula = c.formula;
      count = omega arith;
      few = omega arith;
      long = omega arith;
      written = take_all (length (take n w)) (take n w) (omega arith) ∙ c.written;
    }

-- ---- tables
-- what the signs of a short text give is little
given_few : (φ : Formula) (w : List ℕ) (n : ℕ) (flagged : Bool) → TreeMarked φ w n flagged → FewRows (given 1 1 0 0 0 φ)
given_few φ w n flagged c =
    let weight = spelt_weight c.spelt in
    let few = whole_few c.formula in
    let short = c.short in
    let few_spots = few.0.spots in
    let few_atoms = few.0.atoms in
    let few_ties = few.0.ties in
    let few_alts = few.1 in
    let arcs = arcs_count 1 1 0 0 0 φ in
    let bears = bears_count 1 1 0 0 0 φ in
    let shares = shares_count 1 1 0 0 0 φ in
    let alts = alts_width 1 1 0 0 0 φ in
    record {
      arcs = omega (arith, weight, short, few_spots, arcs);
      bears = omega (arith, weight, short, few_atoms, bears);
      shares = omega (arith, weight, short, few_ties, shares);
      alts = omega (arith, weight, short, few_alts, alts);
    }

module _ (φ : Formula) (w : List ℕ) (n : ℕ) (flagged : Bool) (c : TreeMarked φ w n flagged) where
  abbrev marks : List Token
  marks = (flagging (tokens c.signs) unmarked).done

  -- marked signs give what the formula gives
  all_is : all_given flagged marks ≡ given 1 1 0 0 0 φ
  all_is =
      let g = whole_given c.formula in
      let done : marks ≡ g.marks = ap (λ (y : MarkedSigns). y.done) g.flags in
      let whole : flagged ≡ g.flag = c.whole ∙ ap (λ (y : MarkedSigns). top_flag y.flags) g.flags in
      ap₂ {C = Out} (λ (b : Bool) (l : List Token). all_given b l) whole done ∙ g.is

  pub lays_out : LaysOut w n flagged
  lays_out =
      let kept = flagging_kept (tokens c.signs) (tokens_small c.signs (spelt_small c.spelt)) in
      let long = kept.long in
      let tokens-are = tokens_long c.signs in
      let count = c.count in
      let few = c.few in
      let short = c.short in
      record {
        marks = marks;
        small = kept.small;
        count = omega (arith, long, tokens-are, count);
        long = c.long;
        short = omega (arith, few, short);
        written = c.written;
        few = subst FewRows (sym all_is) (given_few φ w n flagged c);
      }

  module _ (T : Tabs) (r : rust.Option Rows) (out : LaidOut w n flagged r T) where
    laid_as : LaidAs (given 1 1 0 0 0 φ) r T
    unfolding lays_out
    laid_as = subst (λ (x : Out). LaidAs x r T) all_is (out lays_out)

    -- alternatives nested too deep
    pub deep_told : r ≡ None → (room : List ℕ) → TreeTold φ room (Err TooDeep) room
    deep_told e room = go (ltb depth_limit (depth φ)) refl where
      go : (b : Bool) → ltb depth_limit (depth φ) ≡ b → TreeTold φ room (Err TooDeep) room
      go true l = inl (ltb-true depth_limit (depth φ) l, refl, refl)
      go false l =
          let low = ltb-false depth_limit (depth φ) l in
          let deep = subst (λ (y : rust.Option Rows). LaidAs (given 1 1 0 0 0 φ) y T) e laid_as in
          absurd (deep (depth_high depth_limit 1 1 0 0 0 φ (omega (arith, low))))

    module _ (rows : Rows) (e : r ≡ Some rows) where
      rows_laid : LaidAs (given 1 1 0 0 0 φ) (Some rows) T
      rows_laid = subst (λ (y : rust.Option Rows). LaidAs (given 1 1 0 0 0 φ) y T) e laid_as

      flat_is : depth φ ≤ depth_limit
      flat_is = let low = depth_low depth_limit 1 1 0 0 0 φ (omega arith) rows_laid.0 in omega (arith, low)

      -- the formula lies in the tables
      pub laid_of : Roomy T → TreeLaid φ T.arcs T.atoms T.ties T.alts rows.arcs rows.atoms rows.ties rows.alts
      laid_of room =
          let few = given_few φ w n flagged c in
          let few_arcs = few.arcs in
          let few-bears = few.bears in
          let few-shares = few.shares in
          let few_alts = few.alts in
          let (shallow, arcs, bears, shares, alts, (M, holds, held)) = rows_laid in
          let arc_room = room.arcs in
          let atom_room = room.atoms in
          let tie_room = room.ties in
          let alt_room = room.alts in
          record {
            text = c.text;
            signs = c.signs;
            short = c.short;
            spelt = c.spelt;
            formula = c.formula;
            flat = flat_is;
            frames = T.frames;
            memory = M;
            holds = holds;
            held = held;
            arcs = arcs;
            atoms = bears;
            ties = shares;
            alts = alts;
            few = omega (arith, few_alts, alts);
            arc_room = omega (arith, few_arcs, arcs, arc_room);
            atom_room = omega (arith, few-bears, bears, atom_room);
            tie_room = omega (arith, few-shares, shares, tie_room);
            alt_room = omega (arith, few_alts, alts, alt_room);
          }

      pub rows_told : (room : List ℕ) (s : Answer) (out' : List ℕ) → DescribedTo (describe φ) room s out' → TreeTold φ room s out'
      rows_told room s out' d = inr (flat_is, d)

-- ---- the answer
-- the text was read
pub read_of : (t w : List ℕ) (n : ℕ) (g : Good t w n) → length t ≤ formula_limit → row_limit ≤ length w → TreeRead g.tree w n
read_of t w n g short room =
    let few = g.few in
    record {
      text = t;
      signs = g.signs;
      short = short;
      spelt = g.spelt;
      formula = g.formula;
      count = g.count;
      few = g.few;
      long = omega (arith, few, short, room);
      written = g.written;
    }

described_to : (t room : List ℕ) (φ : Formula) (r : Answer) (out : List ℕ) → Shallow t φ → (d : Option Desc) → describe φ ≡ d →
    DescribedTo d room r out → Translated t room r out
described_to t room φ r out s none e (q, o) =
    subst (λ (y : Answer). Translated t room y out) (sym q) ((φ, s, e), o)
described_to t room φ (Err TooLong) out s (some d) e (l, o) = ((φ, d, record { shallow = s; is = e }, l), o)
described_to t room φ (Err (NoRoom n)) out s (some d) e (l, q, m, o) = ((φ, d, record { shallow = s; is = e }, l, q, m), o)
described_to t room φ (Ok n) out s (some d) e (l, q, m, o) = (φ, d, record { shallow = s; is = e }, l, q, m, o)
described_to t room φ (Err LongText) out s (some d) e h = absurd h
described_to t room φ (Err (BadText i)) out s (some d) e h = absurd h
described_to t room φ (Err TooDeep) out s (some d) e h = absurd h
described_to t room φ (Err Clash) out s (some d) e h = absurd h

pub told_translated : (t room : List ℕ) (φ : Formula) (r : Answer) (out : List ℕ) → length t ≤ formula_limit → Reads t φ →
    TreeTold φ room r out → Translated t room r out
told_translated t room φ r out short reads (inl (deep, q, o)) =
    subst (λ (y : Answer). Translated t room y out) (sym q) (short, (φ, reads, deep), o)
told_translated t room φ r out short reads (inr (flat, d)) =
    described_to t room φ r out (record { short = short; reads = reads; flat = flat }) (describe φ) refl d
