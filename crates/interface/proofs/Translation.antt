-- The exported translation: its answer's parts fit their bits, and the ways through it.
-- Assumes nothing.
use mathlib.Core.Path.{◌≡◌, refl, sym, ◌∙◌}
use mathlib.Core.Bool.{Bool, true, false, cond, not, ◌&&◌}
use mathlib.Core.List.{List, []}
use Prim.Native.Nat.{ℕ, zero, suc, ◌+◌, ◌<◌, ◌≤◌, ◌^◌}
use native.Mathlib.Omega.{arith}
use borrow.Author.Tests.{ltb-true, eqb-true, not-true, not-false}
use lib.Dec.{ltb, eqb, leb}
use lib.ListN.{length}
use mir.Syntax.{w8}
use mir.Val.{Fits}
use Rattle.head.specs.declared.state.Head.{Head}
use Rattle.orders.specs.declared.order.Order.{Order}
use Rattle.orders.specs.Words.{items_of_all}
use Rattle.plan.specs.Stored.{Plan, orders, refused, byte_at, pair_at, order_at, fault_at, before, header_fault, orders_from, most_orders, plan_of}
use Rattle.plan.proofs.Accepted.{AllFit, accepted-fit, accepted-few}
use Rattle.schedule.specs.Clock.{latest}
use Rattle.schedule.specs.Schedule.{Schedule, schedule_from}
use Rattle.schedule.specs.Translate.{fit, most_words, schedule_of, answer_of_plan, translate_of, filled, word_list, tick_list}
use Rattle.std.specs.Prelude.{Result, Ok, Err}
use Rattle.schedule.specs.declared.Translation.{Translation}
use Rattle.schedule.specs.declared.TranslateError.{TranslateError}
use Rattle.schedule.specs.Translate.{translate_error_number, translate_error_place}
use Rattle.schedule.proofs.Plans.{plan-count, plan-end}
use Rattle.head.specs.Row.{state_of}
use Rattle.interface.specs.State.{well_formed}
use Rattle.interface.specs.Plans.{translated_of, count_in, last_in, packed, translated_answer, Small}

pub differ : {A : Type 0} → ◌≡◌ {A = ℕ} 0 1 → A
differ z = absurd (omega arith)

-- a refusal's place is a place of the plan
pub before-refused : (o : Order) (r : Plan) (n p : ℕ) → before o r ≡ refused n p → r ≡ refused n p
before-refused o (orders os) n p e = differ (cc)
before-refused o (refused m q) n p e = e

place-within : (k : ℕ) (bs : List ℕ) (at n p : ℕ) → orders_from k bs at ≡ refused n p → p < length bs
unfolding orders_from
place-within zero bs at n p = go (ltb at (length bs)) refl
  where
    go : (b : Bool) → ltb at (length bs) ≡ b → cond b (refused 9 at) (orders []) ≡ refused n p → p < length bs
    go true q e = let same : at ≡ p = cc in rw same at (ltb-true at (length bs) q)
    go false q e = differ (cc)
place-within (suc k) bs at n p =
    go (place-within k bs (at + 1 + byte_at bs at) n p) (ltb at (length bs)) refl (eqb (fault_at bs at) 0) refl
  where
    go : let rest = orders_from k bs (at + 1 + byte_at bs at) in (rest ≡ refused n p → p < length bs)
        → (b : Bool) → ltb at (length bs) ≡ b → (f : Bool) → eqb (fault_at bs at) 0 ≡ f
        → cond b (cond f (before (order_at bs at) rest) (refused (fault_at bs at) at)) (orders []) ≡ refused n p → p < length bs
    go later true q true r e = later (before-refused (order_at bs at) (orders_from k bs (at + 1 + byte_at bs at)) n p e)
    go later true q false r e = let same : at ≡ p = cc in rw same at (ltb-true at (length bs) q)
    go later false q f r e = differ (cc)

module _ (bs : List ℕ) (high : byte_at bs 1 < 256) (low : byte_at bs 2 < 256) where
  pub place-small : (n p : ℕ) → plan_of bs ≡ refused n p → p < 2 ^ 32
  unfolding plan_of header_fault
  place-small n p = go (ltb (length bs) 3) (eqb (byte_at bs 0) 1) (eqb (length bs) (3 + pair_at bs 1)) refl
    where
      fault : Bool → Bool → Bool → ℕ
      fault s v l = cond s 2 (cond (not v) 3 (cond (not l) 4 0))

      go : (s v l : Bool) → eqb (length bs) (3 + pair_at bs 1) ≡ l
          → cond (eqb (fault s v l) 0) (orders_from most_orders bs 3) (refused (fault s v l) 0) ≡ refused n p → p < 2 ^ 32
      go true v l q e = let same : 0 ≡ p = cc in omega arith
      go false false l q e = let same : 0 ≡ p = cc in omega arith
      go false true false q e = let same : 0 ≡ p = cc in omega arith
      go false true true q e =
          omega (arith, eqb-true (length bs) (3 + pair_at bs 1) q, place-within most_orders bs 3 n p e)

  -- the parts of an answer fit their bits
  module _ (s : Head) (a b : ℕ) where
    plan-small : fit s ≡ true → (p : Plan) → plan_of bs ≡ p → Small (answer_of_plan p (schedule_of s p) a b)
    unfolding answer_of_plan schedule_of count_in last_in
    plan-small ok (refused n p) e = (omega arith, place-small n p e)
    plan-small ok (orders os) e =
        go (leb (length sch.list) a && leb (length sch.list) b) (plan-count s ok os all few) (plan-end s ok os all few)
      where
        sch : Schedule
        sch = schedule_from s 0 (items_of_all os)

        all : AllFit os
        all = accepted-fit bs os e

        few : length os ≤ most_orders
        few = accepted-few bs os e

        go : (x : Bool) → length sch.list ≤ most_words → sch.end ≤ latest → Small (cond x (Ok (record { count = length sch.list; end = sch.end })) (Err (TranslateError.Short (length sch.list))))
        go true n m = (omega arith, omega arith)
        go false n m = (omega arith, omega arith)

    translate-small : Small (translate_of s bs a b)
    unfolding translate_of count_in last_in
    translate-small = go (fit s) refl
      where
        go : (f : Bool) → fit s ≡ f → Small (cond f (answer_of_plan (plan_of bs) (schedule_of s (plan_of bs)) a b) (Err TranslateError.StateUnfit))
        go true ok = plan-small ok (plan_of bs) refl
        go false ok = (omega arith, omega arith)

-- the ways through `translated_number`
module _ (t : Result Translation TranslateError) (small : Small t) where
  pub done-count : {m : Translation} → t ≡ Ok m → m.count < 2 ^ 16
  unfolding count_in
  done-count e = rw e at small.0

  pub done-end : {m : Translation} → t ≡ Ok m → m.end < 2 ^ 32
  unfolding last_in
  done-end e = rw e at small.1

  module _ {f : TranslateError} (e : t ≡ Err f) where
    pub refused-count : {n : ℕ} → n ≡ count_in (Err f) → n < 2 ^ 16
    refused-count is = rw is (rw e at small.0)

    pub refused-place : {p : ℕ} → p ≡ translate_error_place f → p < 2 ^ 32
    unfolding last_in
    refused-place is = rw is (rw e at small.1)

-- r is what is answered
module _ (t : Result Translation TranslateError) (r : ℕ) where
  pub done-answer : {m : Translation} → t ≡ Ok m → r ≡ packed 0 m.count m.end → r ≡ translated_answer t
  unfolding translated_answer count_in last_in
  done-answer e is = is ∙ rw e

  pub refused-answer : {f : TranslateError} → t ≡ Err f → {x n p : ℕ} → x ≡ translate_error_number f → n ≡ count_in (Err f)
      → p ≡ translate_error_place f → r ≡ packed x n p → r ≡ translated_answer t
  unfolding translated_answer last_in
  refused-answer e own count place is = is ∙ rw (own, count, place, e)

-- the ways through the exported function: l is the state's array, i what `well_formed` answered, a and b the buffers' lengths
module _ (l bs : List ℕ) (a b : ℕ) (i : Bool) (is : i ≡ well_formed l) where
  module _ (bad : not i ≡ true) where
    ill : translated_of l bs a b ≡ Err TranslateError.StateUnfit
    unfolding translated_of
    ill = rw (sym is ∙ not-true i bad)

    pub translate-ill : (r : ℕ) → r ≡ translate_error_number TranslateError.StateUnfit → r ≡ translated_answer (translated_of l bs a b)
    unfolding translated_answer count_in last_in
    translate-ill r is = rw (ill, is)

    pub translate-ill-left : (old values : List ℕ) → old ≡ filled (translated_of l bs a b) values old
    unfolding filled
    translate-ill-left old values = rw ill

  module _ (good : not i ≡ false) (h : Head) (loaded : h ≡ state_of l) (t : Result Translation TranslateError) (translated : t ≡ translate_of h bs a b) where
    given : t ≡ translated_of l bs a b
    unfolding translated_of
    given = rw (sym is ∙ not-false i good, ← loaded) translated

    module _ (bytes : (k : ℕ) → Fits w8 (byte_at bs k)) where
      fits : Small t
      fits = rw translated (translate-small bs (bytes 1).fits (bytes 2).fits h a b)

      pub translate-count : count_in t < 2 ^ 16
      translate-count = fits.0

      pub translate-last : last_in t < 2 ^ 32
      translate-last = fits.1

    pub translate-answer : (r : ℕ) → r ≡ translated_answer t → r ≡ translated_answer (translated_of l bs a b)
    translate-answer r e = rw (← given) e

    pub translate-words : (after old : List ℕ) → after ≡ filled t (word_list (schedule_of h (plan_of bs))) old
        → after ≡ filled (translated_of l bs a b) (word_list (schedule_of (state_of l) (plan_of bs))) old
    translate-words after old e = rw (← given, ← loaded) e

    pub translate-ticks : (after old : List ℕ) → after ≡ filled t (tick_list (schedule_of h (plan_of bs))) old
        → after ≡ filled (translated_of l bs a b) (tick_list (schedule_of (state_of l) (plan_of bs))) old
    translate-ticks after old e = rw (← given, ← loaded) e
