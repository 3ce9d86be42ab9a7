-- Demands 2 and 3 of what `translate` writes: its three promises alone give them, for every head, plan and pair of buffers.
-- Assumes nothing.
use mathlib.Core.Path.{◌≡◌, refl, sym, ap, ◌∙◌}
use mathlib.Core.Bool.{Bool, true, false, cond, ◌&&◌}
use mathlib.Core.List.{List, [], ◌∷◌, map}
use Rattle.std.specs.Prelude.{Result, Ok, Err}
use Prim.Native.Nat.{ℕ, ◌≤◌}
use native.Mathlib.Omega.{arith}
use lib.Dec.{leb}
use lib.ListN.{length, take, drop, length-map, length-append}
use lib.Seq.{take_at}
use Rattle.head.specs.declared.state.Head.{Head}
use Rattle.orders.specs.Words.{items_of_all}
use Rattle.orders.specs.declared.order.Order.{Order}
use Rattle.plan.specs.Stored.{Plan, orders, refused, plan_of, orders_in}
use Rattle.plan.proofs.Accepted.{accepted-fit, accepted-few}
use Rattle.plan.proofs.Logging.{log-few}
use Rattle.schedule.specs.Schedule.{Timed, Schedule, schedule_from, Rising}
use Rattle.schedule.specs.Translate.{fit, most_words, schedule_of, answer_of_plan, translate_of, filled, tick_list, word_list}
use Rattle.schedule.specs.declared.Translation.{Translation}
use Rattle.schedule.specs.declared.TranslateError.{TranslateError}
use Rattle.schedule.proofs.Accepted.{accepted-done}
use Rattle.schedule.proofs.Plans.{plan-rising, plan-count, plan-end}
use Rattle.run.specs.Run.{moments_of, log_of}
use Rattle.run.specs.Claim.{paired, Demands}
use Rattle.run.proofs.Whole.{run-whole}
use Rattle.run.proofs.Timing.{run-timed}

-- the ticks and the words of a list make the list
pub paired-back : (l : List Timed) → paired (map (λ (x : Timed). x.tick) l) (map (λ (x : Timed). x.word) l) ≡ l
unfolding paired
paired-back [] = refl
paired-back (x ∷ xs) = ap (λ (l : List Timed). x ∷ l) (paired-back xs)

-- what the answer says, n words and the end e
pub record Answered (p : Plan) (sch : Schedule) (n e : ℕ) : Type 0 where
  pub accepted : p ≡ orders (orders_in p)
  pub count : n ≡ length sch.list
  pub end : e ≡ sch.end

answered : (p : Plan) (sch : Schedule) (a b n e : ℕ) → Ok (record { count = n; end = e }) ≡ answer_of_plan p sch a b → Answered p sch n e
unfolding answer_of_plan
answered (refused m q) sch a b n e h = cc
answered (orders os) sch a b n e h = go (leb (length sch.list) a && leb (length sch.list) b) h
  where
    go : (x : Bool)
        → ◌≡◌ {A = Result Translation TranslateError} (Ok (record { count = n; end = e })) (cond x (Ok (record { count = length sch.list; end = sch.end })) (Err (TranslateError.Short (length sch.list))))
        → Answered (orders os) sch n e
    go true k =
        let same : ◌≡◌ {A = Translation} (record { count = n; end = e }) (record { count = length sch.list; end = sch.end }) = cc in
        record { accepted = refl; count = ap (λ (t : Translation). t.count) same; end = ap (λ (t : Translation). t.end) same }
    go false k = cc

-- the schedule of an accepted plan
module _ (s : Head) (bs : List ℕ) (os : List Order) (h : fit s ≡ true) (e : plan_of bs ≡ orders os) where
  schedule-demands : (sch : Schedule) → sch ≡ schedule_from s 0 (items_of_all os) → (n : ℕ) → n ≡ length sch.list
      → Demands s bs os sch.list n sch.end
  schedule-demands sch is n long =
      let all = accepted-fit bs os e in
      let few = accepted-few bs os e in
      record {
        accepted = e;
        few = few;
        fits = h;
        earliest = rw is (run-timed s os h all);
        counted = sym long;
        most = rw (long, is) (plan-count s h os all few);
        ends = rw is (plan-end s h os all few);
        run = rw is (run-whole s os h all);
      }

-- `translate` answered n words and the end e; W and T are the buffers as they were lent, W' and T' as they came back
module _ (s : Head) (bs W T W' T' : List ℕ) (n e : ℕ)
    (answer : Ok (record { count = n; end = e }) ≡ translate_of s bs (length W) (length T))
    (words : W' ≡ filled (Ok (record { count = n; end = e })) (word_list (schedule_of s (plan_of bs))) W)
    (ticks : T' ≡ filled (Ok (record { count = n; end = e })) (tick_list (schedule_of s (plan_of bs))) T) where
  done-fit : (x : Bool) → fit s ≡ x → fit s ≡ true
  unfolding translate_of
  done-fit true h = h
  done-fit false h = let k = rw h at answer in cc

  pub translated-fit : fit s ≡ true
  translated-fit = done-fit (fit s) refl

  done : Answered (plan_of bs) (schedule_of s (plan_of bs)) n e
  unfolding translate_of
  done = answered (plan_of bs) (schedule_of s (plan_of bs)) (length W) (length T) n e (rw translated-fit at answer)

  pub translated-schedule : schedule_of s (plan_of bs) ≡ schedule_from s 0 (items_of_all (orders_in (plan_of bs)))
  unfolding schedule_of
  translated-schedule = ap (schedule_of s) done.accepted

  pub translated-end : e ≡ (schedule_of s (plan_of bs)).end
  translated-end = done.end

  -- a buffer that was filled with a number of each timed word
  module _ (f : Timed → ℕ) (old new : List ℕ) (is : new ≡ filled (Ok (record { count = n; end = e })) (map f (schedule_of s (plan_of bs)).list) old) where
    abbrev values : List ℕ
    values = map f (schedule_of s (plan_of bs)).list

    long : length values ≡ n
    long = length-map (schedule_of s (plan_of bs)).list f ∙ sym done.count

    front : take n new ≡ map f (schedule_of s (plan_of bs)).list
    unfolding filled
    front = ap (take n) is ∙ take_at values (drop (length values) old) n long

    room : n ≤ length new
    unfolding filled
    room = omega (arith, ap length is, length-append values (drop (length values) old), long)

  pub room-words : n ≤ length W'
  room-words = room (λ (x : Timed). x.word) W W' words

  pub room-ticks : n ≤ length T'
  room-ticks = room (λ (x : Timed). x.tick) T T' ticks

  pub translated-list : paired (take n T') (take n W') ≡ (schedule_of s (plan_of bs)).list
  translated-list =
      rw (front (λ (x : Timed). x.tick) T T' ticks, front (λ (x : Timed). x.word) W W' words) (paired-back (schedule_of s (plan_of bs)).list)

  -- demands 2 and 3 of the first n places of the buffers
  pub translated-demands : Demands s bs (orders_in (plan_of bs)) (paired (take n T') (take n W')) n e
  translated-demands =
      rw (translated-list, done.end)
      (schedule-demands s bs (orders_in (plan_of bs)) translated-fit done.accepted (schedule_of s (plan_of bs)) translated-schedule n done.count)

  -- at most one act an order, so at most 64
  pub translated-acts : length (log_of (moments_of e 0 (paired (take n T') (take n W')) s)) ≤ 64
  translated-acts =
      let os = orders_in (plan_of bs) in
      omega (arith, ap length translated-demands.run.log, log-few s.settings os, translated-demands.few)

  pub translated-rising : Rising 0 (paired (take n T') (take n W')) e
  translated-rising =
      let os = orders_in (plan_of bs) in
      rw (translated-list, done.end, translated-schedule) (plan-rising s translated-fit os (accepted-fit bs os done.accepted))

-- Any accepted plan, a head that is fit and buffers of at least 256 places: `translate` answers no refusal, and demands 2 and 3 hold of what it
-- leaves in the buffers
module _ (s : Head) (bs W T W' T' : List ℕ) (os : List Order)
    (fits : fit s ≡ true)
    (accepted : plan_of bs ≡ orders os)
    (room_w : most_words ≤ length W)
    (room_t : most_words ≤ length T)
    (words : W' ≡ filled (translate_of s bs (length W) (length T)) (word_list (schedule_of s (plan_of bs))) W)
    (ticks : T' ≡ filled (translate_of s bs (length W) (length T)) (tick_list (schedule_of s (plan_of bs))) T) where
  abbrev n : ℕ
  n = length (schedule_from s 0 (items_of_all os)).list

  abbrev end : ℕ
  end = (schedule_from s 0 (items_of_all os)).end

  pub accepted-answer : translate_of s bs (length W) (length T) ≡ Ok (record { count = n; end = end })
  accepted-answer = accepted-done s bs os fits accepted (length W) (length T) room_w room_t

  pub accepted-demands : Demands s bs os (paired (take n T') (take n W')) n end
  accepted-demands =
      let is : orders_in (plan_of bs) ≡ os = ap orders_in accepted in
      rw is at
      (translated-demands s bs W T W' T' n end (sym accepted-answer) (rw accepted-answer at words) (rw accepted-answer at ticks))
