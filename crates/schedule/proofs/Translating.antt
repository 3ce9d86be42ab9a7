-- The ways through `translate`. W and T are the two lists as they were lent.
-- Assumes nothing.
use mathlib.Core.Path.{◌≡◌, refl, sym, ap, ◌∙◌}
use mathlib.Core.Bool.{Bool, true, false, cond, not, ◌&&◌, and-false, and-true}
use mathlib.Core.List.{List, [], ◌∷◌, ◌++◌}
use Rattle.std.specs.Prelude.{Result, Ok, Err}
use Prim.Native.Nat.{ℕ, ◌+◌, ◌≤◌, ◌<◌}
use native.Mathlib.Omega.{arith}
use native.Mathlib.Nat.{zero-add}
use borrow.Author.Tests.{le-leb, lt-leb, not-true, not-false}
use lib.Dec.{leb}
use lib.ListN.{length, take, drop, length-map, length-append}
use lib.Seq.{sets, paste, take_at}
use Rattle.head.specs.Range.{in_range}
use Rattle.head.specs.Busy.{is_busy, at_rest}
use Rattle.head.specs.declared.state.Head.{Head}
use Rattle.orders.specs.Words.{items_of_all, words_of}
use Rattle.orders.specs.declared.order.Order.{Order}
use Rattle.plan.specs.Judged.{checked_header, refusal_of}
use Rattle.plan.specs.Stored.{Plan, orders, refused, orders_from, most_orders, plan_of, orders_in}
use Rattle.plan.specs.declared.stored.Fault.{Fault}
use Rattle.plan.specs.declared.stored.Refusal.{Refusal}
use Rattle.plan.proofs.Accepted.{accepted-fit, accepted-few}
use Rattle.plan.proofs.Faults.{err-is}
use Rattle.plan.proofs.Laid.{sets-front}
use Rattle.plan.proofs.Judging.{plan-header, plan-orders}
use Rattle.schedule.specs.Clock.{Near, clock_of, clocked_from, clock_through}
use Rattle.schedule.specs.Filled.{timed_by, word_total, laid_of, words_laid, ticks_laid}
use Rattle.schedule.specs.Schedule.{Timed, Schedule}
use Rattle.schedule.specs.Translate.{most_words, fit, schedule_of, answer_of_plan, translate_of, filled, tick_list, word_list}
use Rattle.schedule.specs.declared.Translation.{Translation}
use Rattle.schedule.specs.declared.TranslateError.{TranslateError}
use Rattle.schedule.specs.declared.clock.Clock.{Clock}
use Rattle.schedule.proofs.Clocked.{near_first}
use Rattle.schedule.proofs.OrderLaid.{words-then}
use Rattle.schedule.proofs.Plans.{fit-idle, plan-clocked, plan-count}

-- the timed words of orders are as many as their words
pub timed-long : (c : Clock) (os : List Order) → length (word_list (timed_by c os)) ≡ word_total os
unfolding items_of_all clocked_from word_total
timed-long c [] = refl
timed-long c (o ∷ os) =
    ap length (words-then c o (items_of_all os))
    ∙ length-append (words_of o) _
    ∙ ap (λ (n : ℕ). length (words_of o) + n) (timed-long (clock_through c _) os)

-- what was laid is a plan's
module _ (c : Clock) {t : Translation} where
  laid-plan : (p : Plan) → laid_of p c 0 ≡ Ok t → p ≡ orders (orders_in p)
  unfolding laid_of
  laid-plan (orders os) is = refl
  laid-plan (refused m q) is = cc

  laid-is : (p : Plan) → laid_of p c 0 ≡ Ok t → t ≡ record { count = 0 + word_total (orders_in p); end = (timed_by c (orders_in p)).end }
  unfolding laid_of
  laid-is (orders os) is = cc
  laid-is (refused m q) is = cc

  laid-count : (p : Plan) → laid_of p c 0 ≡ Ok t → t.count ≡ word_total (orders_in p)
  laid-count p is = let same = ap (λ (u : Translation). u.count) (laid-is p is) in omega arith

  laid-last : (p : Plan) → laid_of p c 0 ≡ Ok t → t.end ≡ (timed_by c (orders_in p)).end
  laid-last p is = ap (λ (u : Translation). u.end) (laid-is p is)

-- the first of a list that was laid from its front on, copied
pasted : (vs zeros own l : List ℕ) {n : ℕ} → length vs ≡ n → n ≤ length zeros → own ≡ sets zeros 0 vs → paste l 0 own n ≡ vs ++ drop (length vs) l
pasted vs zeros own l {n} long room is =
    let front = is ∙ sets-front vs zeros (omega arith) in
    let first : take n own ≡ vs = ap (take n) front ∙ take_at vs (drop (length vs) zeros) n long in
    rw (first, long, zero-add n)

abbrev pub Told : Head → List ℕ → List ℕ → List ℕ → Result Translation TranslateError → List ℕ → List ℕ → Type 0
Told s bs W T r W' T' =
    (r ≡ translate_of s bs (length W) (length T))
    × ((W' ≡ filled r (word_list (schedule_of s (plan_of bs))) W) × (T' ≡ filled r (tick_list (schedule_of s (plan_of bs))) T))

module _ (s : Head) (bs W T : List ℕ) {f : Bool} (is-fit : f ≡ fit s) where
  pub way-unfit : not f ≡ true → Told s bs W T (Err TranslateError.StateUnfit) W T
  unfolding translate_of filled
  way-unfit h = rw (← is-fit, not-true f h) (refl, (refl, refl))

  module _ (passed : not f ≡ false) where
    fits : fit s ≡ true
    fits = sym is-fit ∙ not-false f passed

    pub way-near : Near 0 (clock_of s 0)
    way-near = near_first s 0 (fit-idle s fits).ranged

    pub way-header : {f : Fault} → Err f ≡ checked_header bs
        → Told s bs W T (Err (TranslateError.Plan (record { fault = f; place = 0 }))) W T
    unfolding translate_of filled answer_of_plan
    way-header e = rw (plan-header bs e, fits, err-is _ _ e) (refl, (refl, refl))

    module _ {u : Unit {0}} (header : Ok u ≡ checked_header bs) where
      read : plan_of bs ≡ orders_from most_orders bs 3
      read = plan-orders bs header

      -- what was laid is refused where it is not done
      pub way-refused : {r : Result Translation TranslateError} {f : Refusal} → r ≡ Err (TranslateError.Plan f)
          → Err f ≡ laid_of (orders_from most_orders bs 3) (clock_of s 0) 0 → Told s bs W T r W T
      unfolding laid_of translate_of filled answer_of_plan
      way-refused {r} {f} answered is = rw answered (go (orders_from most_orders bs 3) read is)
        where
          go : (p : Plan) → plan_of bs ≡ p → Err f ≡ laid_of p (clock_of s 0) 0 → Told s bs W T (Err (TranslateError.Plan f)) W T
          go (orders os) e is = cc
          go (refused n p) e is = let same : f ≡ refusal_of n p = cc in rw (same, e, fits) (refl, (refl, refl))

      module _ {t : Translation} (done : Ok t ≡ laid_of (orders_from most_orders bs 3) (clock_of s 0) 0) where
        whole : laid_of (plan_of bs) (clock_of s 0) 0 ≡ Ok t
        whole = ap (λ (p : Plan). laid_of p (clock_of s 0) 0) read ∙ sym done

        plan : plan_of bs ≡ orders (orders_in (plan_of bs))
        plan = laid-plan (clock_of s 0) (plan_of bs) whole

        count : t.count ≡ word_total (orders_in (plan_of bs))
        count = laid-count (clock_of s 0) (plan_of bs) whole

        last : t.end ≡ (timed_by (clock_of s 0) (orders_in (plan_of bs))).end
        last = laid-last (clock_of s 0) (plan_of bs) whole

        same : schedule_of s (plan_of bs) ≡ timed_by (clock_of s 0) (orders_in (plan_of bs))
        unfolding schedule_of
        same =
            ap (schedule_of s) plan
            ∙ plan-clocked s fits (orders_in (plan_of bs)) (accepted-fit bs (orders_in (plan_of bs)) plan)

        long : length (schedule_of s (plan_of bs)).list ≡ t.count
        long =
            sym (length-map (schedule_of s (plan_of bs)).list (λ (x : Timed). x.word))
            ∙ ap (λ (x : Schedule). length (word_list x)) same
            ∙ timed-long (clock_of s 0) (orders_in (plan_of bs))
            ∙ sym count

        answer : translate_of s bs (length W) (length T)
            ≡ cond (leb t.count (length W) && leb t.count (length T)) (Ok (record { count = t.count; end = (schedule_of s (plan_of bs)).end })) (Err (TranslateError.Short t.count))
        unfolding translate_of answer_of_plan
        answer = rw (fits) (ap (λ (p : Plan). answer_of_plan p (schedule_of s (plan_of bs)) (length W) (length T)) plan ∙ rw long)

        pub way-few : t.count ≤ most_words
        unfolding schedule_of
        way-few =
            let os = orders_in (plan_of bs) in
            let all = accepted-fit bs os plan in
            omega (arith, long, ap (λ (p : Plan). length (schedule_of s p).list) plan, plan-count s fits os all (accepted-few bs os plan))

        pub way-short-words : length W < t.count → Told s bs W T (Err (TranslateError.Short t.count)) W T
        unfolding filled
        way-short-words h = (sym (answer ∙ rw (lt-leb t.count (length W) h)), (refl, refl))

        -- a list with the plan's values from its front on, copied
        copied : (values : Schedule → List ℕ) (own zeros old : List ℕ) → length (values (timed_by (clock_of s 0) (orders_in (plan_of bs)))) ≡ t.count
            → length zeros ≡ most_words → own ≡ sets zeros 0 (values (timed_by (clock_of s 0) (orders_in (plan_of bs))))
            → paste old 0 own t.count ≡ values (schedule_of s (plan_of bs)) ++ drop (length (values (schedule_of s (plan_of bs)))) old
        copied values own zeros old n room is =
            pasted (values (timed_by (clock_of s 0) (orders_in (plan_of bs)))) zeros own old n (omega (arith, way-few)) is
            ∙ ap (λ (x : Schedule). values x ++ drop (length (values x)) old) (sym same)

        module _ (room : t.count ≤ length W) where
          pub way-short-ticks : length T < t.count → Told s bs W T (Err (TranslateError.Short t.count)) W T
          unfolding filled
          way-short-ticks h = (sym (answer ∙ rw (le-leb t.count (length W) room, lt-leb t.count (length T) h)), (refl, refl))

          pub way-done : t.count ≤ length T → (own times zeros naughts : List ℕ) → length zeros ≡ most_words → length naughts ≡ most_words
              → own ≡ words_laid (orders_from most_orders bs 3) (clock_of s 0) 0 zeros
              → times ≡ ticks_laid (orders_from most_orders bs 3) (clock_of s 0) 0 naughts
              → {xs ys : List ℕ} → xs ≡ paste W 0 own t.count → ys ≡ paste T 0 times t.count → Told s bs W T (Ok t) xs ys
          unfolding filled words_laid ticks_laid
          way-done fitting own times zeros naughts zl nl w v iw it =
              let counted = timed-long (clock_of s 0) (orders_in (plan_of bs)) ∙ sym count in
              let list = sym read ∙ plan in (
                sym (answer ∙ rw (le-leb t.count (length W) room, le-leb t.count (length T) fitting, same, ← last)),
                (
                  iw ∙ copied word_list own zeros W counted zl (rw list at w),
                  it ∙ copied tick_list times naughts T (both (clock_of s 0) (orders_in (plan_of bs)) ∙ counted) nl (rw list at v),
                ),
              )
            where
              both : (c : Clock) (os : List Order) → length (tick_list (timed_by c os)) ≡ length (word_list (timed_by c os))
              both c os =
                  length-map (timed_by c os).list (λ (x : Timed). x.tick) ∙ sym (length-map (timed_by c os).list (λ (x : Timed). x.word))

-- `is_fit`: r is whether nothing moves
module _ (s : Head) (r : Bool) (rest : r ≡ at_rest s) where
  pub way-moving : not r ≡ true → false ≡ fit s
  unfolding fit
  way-moving e = rw (← rest, not-true r e) (sym (and-false (in_range s && not (is_busy s))))

  pub way-resting : not r ≡ false → (i b : Bool) → i ≡ in_range s → b ≡ is_busy s → (i && not b) ≡ fit s
  unfolding fit
  way-resting e i b ranged busy = rw (← rest, not-false r e, ranged, busy) (sym (and-true (in_range s && not (is_busy s))))
