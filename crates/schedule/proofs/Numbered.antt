-- The number and the place of what `translate` answers are those of document 01's table, in its order of checks.
-- Assumes nothing.
use mathlib.Core.Path.{◌≡◌, refl, ◌∙◌}
use mathlib.Core.Bool.{Bool, true, false, cond, not, ◌&&◌}
use mathlib.Core.List.{List}
use Rattle.std.specs.Prelude.{Result, Ok, Err}
use Prim.Native.Nat.{ℕ}
use native.Mathlib.Omega.{arith}
use borrow.Author.Tests.{eqb-true, le-leb}
use lib.Dec.{leb, eqb}
use lib.ListN.{length}
use Rattle.head.specs.declared.state.Head.{Head}
use Rattle.orders.specs.Words.{items_of_all}
use Rattle.orders.specs.declared.order.Order.{Order}
use Rattle.plan.specs.Stored.{Plan, orders, refused, plan_of}
use Rattle.plan.proofs.Faults.{Stated, plan_of-stated}
use Rattle.schedule.specs.Schedule.{Schedule, schedule_from}
use Rattle.schedule.specs.Translate.{fit, schedule_of, answer_of_plan, translate_of, filled, tick_list, word_list, translated_number, translated_place, translation_number, translation_place}
use Rattle.schedule.specs.declared.Translation.{Translation}
use Rattle.schedule.specs.declared.TranslateError.{TranslateError}
use Rattle.schedule.proofs.Translating.{Told}

-- one clause for each line of the table
module _ (s : Head) (bs : List ℕ) (a b : ℕ) where
  abbrev sch : List Order → Schedule
  sch os = schedule_from s 0 (items_of_all os)

  pub translation-number : translated_number (translate_of s bs a b) ≡ translation_number s bs a b
  unfolding translate_of answer_of_plan schedule_of translation_number
  translation-number = go (fit s) refl (plan_of bs) refl (plan_of-stated bs)
    where
      go : (f : Bool) → fit s ≡ f → (p : Plan) → plan_of bs ≡ p → Stated p → translated_number (translate_of s bs a b) ≡ translation_number s bs a b
      go false h p e is = rw h
      go true h (orders os) e is = rw (h, e) (room (leb (length (sch os).list) a && leb (length (sch os).list) b) (length (sch os).list) (sch os).end)
        where
          room : (x : Bool) (n e : ℕ) → translated_number (cond x (Ok (record { count = n; end = e })) (Err (TranslateError.Short n))) ≡ cond (not x) 10 0
          room true n e = refl
          room false n e = refl
      go true h (refused n q) e is = rw (h, e, le-leb 0 a (omega arith), le-leb 0 b (omega arith)) (is ∙ fault (eqb n 0) refl)
        where
          fault : (x : Bool) → eqb n 0 ≡ x → n ≡ cond (not x) n 0
          fault false z = refl
          fault true z = eqb-true n 0 z

  pub translation-place : translated_place (translate_of s bs a b) ≡ translation_place s bs
  unfolding translate_of answer_of_plan schedule_of translation_place
  translation-place = go (fit s) refl (plan_of bs) refl
    where
      go : (f : Bool) → fit s ≡ f → (p : Plan) → plan_of bs ≡ p → translated_place (translate_of s bs a b) ≡ translation_place s bs
      go false h p e = rw h
      go true h (orders os) e = rw (h, e) (room (leb (length (sch os).list) a && leb (length (sch os).list) b) (length (sch os).list) (sch os).end)
        where
          room : (x : Bool) (n e : ℕ) → translated_place (cond x (Ok (record { count = n; end = e })) (Err (TranslateError.Short n))) ≡ 0
          room true n e = refl
          room false n e = refl
      go true h (refused n q) e = rw (h, e)

-- the promises of `translate`: what was told, and the number and place of the answer
abbrev pub Promised : Head → List ℕ → List ℕ → List ℕ → Result Translation TranslateError → List ℕ → List ℕ → Type 0
Promised s bs W T r W' T' =
    (r ≡ translate_of s bs (length W) (length T))
    × ((W' ≡ filled r (word_list (schedule_of s (plan_of bs))) W)
    × ((T' ≡ filled r (tick_list (schedule_of s (plan_of bs))) T)
    × ((translated_number r ≡ translation_number s bs (length W) (length T)) × (translated_place r ≡ translation_place s bs))))

module _ (s : Head) (bs W T : List ℕ) {r : Result Translation TranslateError} {W' T' : List ℕ} where
  pub promised : Told s bs W T r W' T' → Promised s bs W T r W' T'
  promised t = (
    t.0,
    (
      t.1.0,
      (
        t.1.1,
        (rw t.0 (translation-number s bs (length W) (length T)), rw t.0 (translation-place s bs (length W) (length T))),
      ),
    ),
  )

  pub told : Promised s bs W T r W' T' → Told s bs W T r W' T'
  told p = (p.0, (p.1.0, p.1.1.0))
