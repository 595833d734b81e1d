-- Each number of the writer is given exactly when its rule holds and no earlier one.
-- Assumes nothing.
use Prim.Native.Nat.{ℕ, zero, suc, ◌+◌, ◌*◌, ◌≤◌}
use native.Mathlib.Omega.{arith}
use mathlib.Core.Path.{◌≡◌, refl, sym, ◌∙◌}
use mathlib.Core.Bool.{Bool, true, false}
use mathlib.Core.List.{List, [], ◌∷◌}
use lib.ListN.{length, take, drop}
use lib.Dec.{leb, ltb}
use borrow.Author.Tests.{leb-true, leb-false, ltb-true, le-leb, lt-leb, lt-ltb}
use Rattle.theory.specs.Limits.{input_limit}
use Rattle.blocks.specs.Block.{whichever}
use Rattle.blocks.proofs.Whole.{whichever_true}
use Rattle.library.specs.Index.{entry_limit, identifier_limit}
use Rattle.library.specs.Read.{imaged}
use Rattle.library.proofs.Order.{imaged_image, image_imaged}
use Rattle.library_writing.specs.Write.{Written, listable, sound, need, write_answer}
use Rattle.library_writing.specs.Reasons.{Rises, Orderly, DescribesEach, WhyWritten, unlisted, malformed, short, fine}
use Rattle.std.specs.Prelude.{Ok, Err}
use Rattle.library_writing.specs.declared.write.WriteError.TheVariants.{NoRoom, Malformed, BadEntries}
use Rattle.library_writing.proofs.Asked.{listable_pairs}

false_true : false ≡ true → ⊥
false_true e = let z : ◌≡◌ {A = ℕ} 0 1 = cc in omega arith

not_true : (t : Bool) → ¬ (t ≡ true) → t ≡ false
not_true true h = absurd (h refl)
not_true false h = refl

-- ---- 47
listable_rises : (c low : ℕ) (es : List ℕ) → listable c low es ≡ true → Rises low es
unfolding listable
listable_rises c low [] l = tt
listable_rises zero low (id ∷ []) l = absurd (false_true l)
listable_rises (suc c) low (id ∷ []) l = absurd (false_true l)
listable_rises zero low (id ∷ (n ∷ es)) l = absurd (false_true l)
listable_rises (suc c) low (id ∷ (n ∷ es)) l =
    let rest = whichever (leb n input_limit) (listable c (id + 1) es) false in
    let a = whichever_true (leb low id) (whichever (ltb id identifier_limit) rest false) l in
    let b = whichever_true (ltb id identifier_limit) rest a.1 in
    let m = whichever_true (leb n input_limit) (listable c (id + 1) es) b.1 in (
      leb-true low id a.0,
      ltb-true id identifier_limit b.0,
      leb-true n input_limit m.0,
      listable_rises c (id + 1) es m.1,
    )

rises_listable : (c low : ℕ) (es : List ℕ) → length es ≤ 2 * c → Rises low es → listable c low es ≡ true
unfolding listable
rises_listable zero low [] h r = refl
rises_listable (suc c) low [] h r = refl
rises_listable c low (id ∷ []) h r = absurd r
rises_listable zero low (id ∷ (n ∷ es)) h r = absurd (omega arith)
rises_listable (suc c) low (id ∷ (n ∷ es)) h r =
    let a = le-leb low id r.0 in
    let b = lt-ltb id identifier_limit r.1 in
    let m = le-leb n input_limit r.2 in
    rw a (rw b (rw m (rises_listable c (id + 1) es (omega arith) r.3)))

listable_orderly : (es : List ℕ) → listable entry_limit 0 es ≡ true → Orderly es
listable_orderly es l = record { few = (listable_pairs entry_limit 0 es l).1; rises = listable_rises entry_limit 0 es l }

pub orderly_listable : (es : List ℕ) → Orderly es → listable entry_limit 0 es ≡ true
orderly_listable es o = rises_listable entry_limit 0 es o.few o.rises

-- ---- 45
sound_describes : (es ws : List ℕ) → sound es ws ≡ true → DescribesEach es ws
unfolding sound
sound_describes [] ws s = tt
sound_describes (id ∷ []) ws s = tt
sound_describes (id ∷ (n ∷ es)) ws s =
    let p = whichever_true (leb n (length ws)) (whichever (imaged (take n ws)) (sound es (drop n ws)) false) s in
    let q = whichever_true (imaged (take n ws)) (sound es (drop n ws)) p.1 in
    (leb-true n (length ws) p.0, imaged_image (take n ws) q.0, sound_describes es (drop n ws) q.1)

pub describes_sound : (es ws : List ℕ) → DescribesEach es ws → sound es ws ≡ true
unfolding sound
describes_sound [] ws d = refl
describes_sound (id ∷ []) ws d = refl
describes_sound (id ∷ (n ∷ es)) ws d =
    let a = le-leb n (length ws) d.0 in
    let b = image_imaged (take n ws) d.1 in
    rw a (rw b (describes_sound es (drop n ws) d.2))

-- ---- from the answer to the rule, and back
module _ (es ws : List ℕ) (room : ℕ) where
  pub write_why : WhyWritten es ws room (write_answer es ws room)
  unfolding write_answer
  write_why = go (listable entry_limit 0 es) refl (sound es ws) refl (leb (need es ws) room) refl
    where
      go : (l : Bool) → listable entry_limit 0 es ≡ l → (s : Bool) → sound es ws ≡ s → (m : Bool) → leb (need es ws) room ≡ m
          → WhyWritten es ws room
          (whichever l (whichever s (whichever m (Ok (need es ws)) (Err (NoRoom (need es ws)))) (Err Malformed)) (Err BadEntries))
      go false l s t m n = unlisted (λ o. false_true (sym l ∙ orderly_listable es o))
      go true l false t m n = malformed (listable_orderly es l) (λ d. false_true (sym t ∙ describes_sound es ws d))
      go true l true t false n =
          short (listable_orderly es l) (sound_describes es ws t) (leb-false (need es ws) room n)
      go true l true t true n =
          fine (listable_orderly es l) (sound_describes es ws t) (leb-true (need es ws) room n)

  pub write_because : (r : Written) → WhyWritten es ws room r → r ≡ write_answer es ws room
  unfolding write_answer
  write_because _ (unlisted o) =
      let l = not_true (listable entry_limit 0 es) (λ z. o (listable_orderly es z)) in
      rw l
  write_because _ (malformed o d) =
      let l = orderly_listable es o in
      let s = not_true (sound es ws) (λ z. d (sound_describes es ws z)) in
      rw l (rw s)
  write_because _ (short o d h) =
      let l = orderly_listable es o in
      let s = describes_sound es ws d in
      rw l (rw s (rw (lt-leb (need es ws) room h)))
  write_because _ (fine o d h) =
      let l = orderly_listable es o in
      let s = describes_sound es ws d in
      rw l (rw s (rw (le-leb (need es ws) room h)))
