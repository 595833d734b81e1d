-- Each return of `make` is what the mode makes. Assumes nothing.
use mathlib.Core.Path.{◌≡◌, sym, ◌∙◌, subst}
use mathlib.Core.List.{List}
use Prim.Native.Nat.{ℕ, ◌≤◌}
use native.Mathlib.Omega.{arith}
use Rattle.theory.specs.Descr.{Desc}
use mathlib.Core.Option.{none}
use Rattle.engine.specs.Marks.{all_kept}
use Rattle.engine.specs.Quickly.{quick_at, Leaves}
use Rattle.area.specs.Region.{loaded_words}
use Rattle.area.specs.declared.map.Nodes.{Nodes}
use Rattle.marks.specs.Marked.{marking}
use Rattle.opening.specs.Opening.{Read, Opening}
use Rattle.opening.specs.declared.Opened.{Opened}
use Rattle.std.specs.Prelude.{Result, Option, Ok, Err, Some, None}
use Rattle.std.specs.Option.{ok_or}
use Rattle.entering.specs.Stage.{Pair, Stage}
use Rattle.entering.specs.Moved.{Moved}
use Rattle.quick.specs.Quickened.{Quickening, Quickens}
use Rattle.showing.specs.Showing.{Showing, Shows}
use Rattle.showing.proofs.Fitting.{joined_showing, quick_showing}
use Rattle.answering.specs.declared.hand.Failure.{Failure}
use Rattle.answering.specs.declared.hand.Failure.TheVariants.{QuickFails}
use Rattle.answering.specs.Answer.{Made, done}
use Rattle.unify.specs.Making.{begun, Meant, Begun, Begins, Makes, Completing, Completes}
use Rattle.unify.proofs.Meaning.{meant_of, meant_join, meant_fails, meant_quick}

-- the descriptions that the inputs are
abbrev pub one : {a b w : List ℕ} → Opening w a b → Desc
one o = o.inputs.first.0

abbrev pub two : {a b w : List ℕ} → Opening w a b → Desc
two o = o.inputs.second.0

pub reads : {a b w : List ℕ} (o : Opening w a b) → Read a b (one o) (two o)
reads o = record {
  first_well = o.inputs.first.1;
  second_well = o.inputs.second.1;
  first_is = o.inputs.first.2;
  second_is =
      o.inputs.second.2;
}

-- the failure of a quick step that fails
pub quick_failed : (o : Option ℕ) (f : Failure) → o ≡ None → ◌≡◌ {A = Result ℕ Failure} (Err f) (ok_or o QuickFails) → f ≡ QuickFails
quick_failed None f e v = cc
quick_failed (Some k) f e v = let z : ◌≡◌ {A = ℕ} 0 1 = cc in absurd (omega arith)

module _ (mode : ℕ) (a b w : List ℕ) (r : Result Opened Failure) (w₁ : List ℕ) (g : Begins w a b r w₁) where
  pub makes_clash : (f : Failure) → r ≡ Err f → Makes mode w a b (Err f) w₁
  makes_clash f e = record {
    len = g.len;
    rest = λ j h. g.rest j (omega arith);
    told = λ d h q. clash d h (subst (Begun d h w₁) e (g.told d h q));
  }
    where
      clash : (d h : Desc) → Begun d h w₁ (Err f) → Meant mode d h w₁ (Err f)
      clash d h (i, is, c) = subst (λ (f : Failure). Meant mode d h w₁ (Err f)) (sym is) c

  module _ (n : Nodes) (k : ℕ) (q : r ≡ Ok (begun n k)) where
    opened : (d e : Desc) → Read a b d e → Begun d e w₁ (Ok (begun n k))
    opened d e h = subst (Begun d e w₁) q (g.told d e h)

    -- ---- mode 0
    pub asks_show : Opening w a b → Showing n.count k w₁
    asks_show o = let x = opened (one o) (two o) (reads o) in joined_showing n.count _ x.0 k w₁ x.3 x.4

    pub makes_join : mode ≡ 0 → (l : ℕ) (w₂ : List ℕ) → Shows n.count k w₁ l w₂ → Makes mode w a b (done l 0) w₂
    makes_join z l w₂ s = record {
      len = s.len ∙ g.len;
      rest = λ j h. s.rest j (omega arith)
          ∙ g.rest j (omega arith);
      told = λ d e h. subst (λ (m : ℕ). Meant m d e w₂ (done l 0)) (sym z) (told d e (opened d e h));
    }
      where
        told : (d e : Desc) → Begun d e w₁ (Ok (begun n k)) → Meant 0 d e w₂ (done l 0)
        told d e x = let y = s.told (joined_showing n.count _ x.0 k w₁ x.3 x.4) in
            meant_of x.0 0 w₂ (done l 0) d e x.1 x.2 (meant_join x.0 (marking w₁) w₂ l x.4 y.0 y.1)

    -- ---- modes 1 and 2
    pub asks_quick : Opening w a b → Quickening n.count k w₁
    asks_quick o = let x = opened (one o) (two o) (reads o) in record { t = loaded_words w₁; p = x.0; stage = x.3; every = x.4 }

    module _ (s : Option ℕ) (w₂ : List ℕ) (f : Quickens n.count k w₁ s w₂) where
      pub makes_quick_fails : 1 ≤ mode → s ≡ None → Makes mode w a b (Err QuickFails) w₂
      makes_quick_fails h e =
          let (m, c) = f.failing e in
          record {
            len = m.len ∙ g.len;
            rest = λ j l. m.rest j (omega arith)
                ∙ g.rest j (omega arith);
            told = λ d e z. told d e (opened d e z) c;
          }
        where
          told : (d e : Desc) → Begun d e w₁ (Ok (begun n k)) →
              ((t : List ℕ) (p : Pair n.count t) → Stage n.count t p k w₁ → marking w₁ ≡ all_kept → quick_at p.j ≡ none) →
              Meant mode d e w₂ (Err QuickFails)
          told d e x c =
              meant_of x.0 mode w₂ (Err QuickFails) d e x.1 x.2 (meant_fails x.0 mode w₂ h (c (loaded_words w₁) x.0 x.3 x.4))

      module _ (k' : ℕ) (e : s ≡ Some k') where
        moved : Moved k w₁ k' w₂
        moved = (f.standing k' e).0

        left : (d e : Desc) (x : Begun d e w₁ (Ok (begun n k))) → Leaves x.0.j (marking w₂) × Stage n.count (loaded_words w₁) x.0 k' w₂
        left d z x = (f.standing k' e).1 (loaded_words w₁) x.0 x.3 x.4

        pub asks_show_quick : Opening w a b → Showing n.count k' w₂
        asks_show_quick o = let x = opened (one o) (two o) (reads o) in let y = left (one o) (two o) x in
            quick_showing n.count (loaded_words w₁) x.0 k' w₂ y.1 y.0

        pub makes_quick : mode ≡ 1 → (l : ℕ) (w₃ : List ℕ) → Shows n.count k' w₂ l w₃ → Makes mode w a b (done l 0) w₃
        makes_quick z l w₃ v = record {
          len = v.len ∙ moved.len ∙ g.len;
          rest = λ j h. v.rest j (omega arith) ∙ moved.rest j (omega arith) ∙ g.rest j (omega arith);
          told = λ d e h. subst (λ (m : ℕ). Meant m d e w₃ (done l 0)) (sym z) (told d e (opened d e h));
        }
          where
            told : (d e : Desc) → Begun d e w₁ (Ok (begun n k)) → Meant 1 d e w₃ (done l 0)
            told d e x =
                let y = left d e x in
                let u = v.told (quick_showing n.count (loaded_words w₁) x.0 k' w₂ y.1 y.0) in
                meant_of x.0 1 w₃ (done l 0) d e x.1 x.2 (meant_quick x.0 (marking w₂) y.0 w₃ l u.0 u.1)

        pub asks_complete : Opening w a b → Completing n.count k' w₂
        asks_complete o = let x = opened (one o) (two o) (reads o) in let y = left (one o) (two o) x in
            record { t = loaded_words w₁; p = x.0; stage = y.1; left = y.0 }

        pub makes_full : mode ≡ 2 → (v : Made) (w₃ : List ℕ) → Completes n.count k' w₂ v w₃ → Makes mode w a b v w₃
        makes_full z v w₃ c = record {
          len = c.len ∙ moved.len ∙ g.len;
          rest = λ j h. c.rest j h ∙ moved.rest j (omega arith) ∙ g.rest j (omega arith);
          told = λ d e h. subst (λ (m : ℕ). Meant m d e w₃ v) (sym z) (told d e (opened d e h));
        }
          where
            told : (d e : Desc) → Begun d e w₁ (Ok (begun n k)) → Meant 2 d e w₃ v
            told d e x = let y = left d e x in meant_of x.0 2 w₃ v d e x.1 x.2 (c.told (loaded_words w₁) x.0 y.1 y.0)
