-- What an answer of translation says: an error's number is not 0 and its place fits 32 bits, and a head whose plan is done was fit.
-- Assumes nothing.
use mathlib.Core.Path.{◌≡◌, refl}
use mathlib.Core.Bool.{Bool, true, false, cond, ◌&&◌}
use mathlib.Core.List.{List, []}
use Prim.Native.Nat.{ℕ, zero, suc, ◌+◌, ◌<◌, ◌^◌}
use native.Mathlib.Omega.{arith}
use lib.Dec.{ltb, leb, eqb}
use lib.ListN.{length}
use mir.Syntax.{w8}
use mir.Val.{Fits}
use Rattle.head.specs.declared.state.Head.{Head}
use Rattle.orders.specs.Words.{items_of_all}
use Rattle.plan.specs.Stored.{Plan, orders, refused, byte_at, plan_of}
use Rattle.plan.specs.Judged.{fault_number}
use Rattle.plan.specs.declared.stored.Fault.{Fault}
use Rattle.plan.specs.declared.stored.Fault.TheVariants.{TooShort, OtherVersion, PlanLength, OrderLength, UnknownCode, CodeLength, FieldRange, TooMany}
use Rattle.schedule.specs.Schedule.{schedule_from}
use Rattle.std.specs.Prelude.{Ok}
use Rattle.schedule.specs.Translate.{fit, most_words, translate_of, translation_place, translate_error_number}
use Rattle.schedule.specs.declared.Translation.{Translation}
use Rattle.schedule.specs.declared.TranslateError.{TranslateError}
use Rattle.interface.proofs.Translation.{place-small}

pub some-number : (e : TranslateError) → eqb (translate_error_number e) 0 ≡ false
some-number TranslateError.StateUnfit = refl
some-number (TranslateError.Plan r) = go r.fault
  where
    go : (f : Fault) → eqb (fault_number f) 0 ≡ false
    go TooShort = refl
    go OtherVersion = refl
    go PlanLength = refl
    go OrderLength = refl
    go UnknownCode = refl
    go CodeLength = refl
    go FieldRange = refl
    go TooMany = refl
some-number (TranslateError.Short n) = refl

pub translation-small : (s : Head) (bs : List ℕ) → ((k : ℕ) → Fits w8 (byte_at bs k)) → translation_place s bs < 2 ^ 32
unfolding translation_place
translation-small s bs bytes = go (fit s) refl (plan_of bs) refl
  where
    go : (f : Bool) → fit s ≡ f → (q : Plan) → plan_of bs ≡ q → translation_place s bs < 2 ^ 32
    go false h q e = rw h (omega arith)
    go true h (refused n p) e = rw (h, e) (place-small bs (bytes 1).fits (bytes 2).fits n p e)
    go true h (orders os) e = rw (h, e) (omega arith)

pub translate-fit : (s : Head) (bs : List ℕ) {t : Translation} → translate_of s bs most_words most_words ≡ Ok t → fit s ≡ true
unfolding translate_of
translate-fit s bs {t} is = go (fit s) refl
  where
    go : (f : Bool) → fit s ≡ f → fit s ≡ true
    go false h = absurd (cc (rw h at is))
    go true h = h
