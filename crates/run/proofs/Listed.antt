-- A list of timed words in one call is a run as demand 3 has it, from its first tick to the one after its last; and so the list of an
-- accepted plan leaves what the plan says.
-- Assumes nothing.
use mathlib.Core.Path.{◌≡◌, refl, sym, ap, ◌∙◌}
use mathlib.Core.Bool.{true, not, ◌&&◌, false≢true}
use mathlib.Core.List.{List, [], ◌∷◌, ◌++◌}
use mathlib.Core.Option.{some}
use Prim.Native.Nat.{ℕ, zero, suc, ◌+◌, ◌-◌, ◌≤◌}
use native.Mathlib.Omega.{arith}
use native.Mathlib.Nat.{sub-zero}
use borrow.Author.Tests.{lt-ltb, eq-eqb, le-leb, not-true}
use lib.ListN.{length, take, length-take}
use Rattle.words.proofs.Tests.{and_left, and_right}
use Rattle.head.specs.Range.{in_range}
use Rattle.head.specs.Busy.{is_busy, at_rest}
use Rattle.head.specs.Word.{answer_of}
use Rattle.head.specs.Tick.{tick_of, ticks_of}
use Rattle.head.specs.Numbers.{act_number, cause_number, outcome_number}
use Rattle.timed.specs.List.{rising, most_words, is_list}
use Rattle.head.specs.List.{gap_after, stepped, head_listed, outcomes_listed, numbers_listed, list_of}
use Rattle.head.specs.declared.state.Head.{Head}
use Rattle.head.specs.declared.word.Act.TheVariants.{None, Exposure, Request, Cover}
use Rattle.head.specs.declared.word.Cause.{Cause}
use Rattle.head.specs.declared.word.Cause.TheVariants.{State, Busy, CoverMoving, UnknownWord, Range, Turn}
use Rattle.head.specs.declared.word.Outcome.{Outcome}
use Rattle.head.specs.declared.word.Outcome.TheVariants.{Taken, Ignored}
use Rattle.std.specs.Prelude.{Ok}
use Rattle.head.proofs.Ticks.{ticks-settings}
use Rattle.head.proofs.BusyTicks.{ticks-still}
use Rattle.head.proofs.Giving.{listed-keeps}
use Rattle.orders.specs.declared.order.Order.{Order}
use Rattle.plan.specs.Stored.{plan_of, orders_in}
use Rattle.schedule.specs.Earliest.{is_taken}
use Rattle.schedule.specs.Schedule.{Rising}
use Rattle.schedule.specs.Translate.{fit, schedule_of, translate_of, filled, tick_list, word_list}
use Rattle.run.specs.Run.{Moment, answered, next, head_after}
use Rattle.run.specs.Claim.{AllObeyed, paired, Demands}
use Rattle.run.specs.Listed.{NoCause, clock_after, InOneCall}
use Rattle.run.proofs.Segments.{quiet}
use Rattle.run.proofs.Accepted.{translated-demands, translated-rising, room-words, room-ticks}
use Rattle.run.proofs.NextWord.{rising-end, ran_from, last_of, given, first_head, first-moments, none-head}
use Rattle.run.proofs.Rehearsing.{paired_long}

-- the ticks from the clock t to the first word
abbrev until_first : ℕ → List ℕ → ℕ
until_first t [] = 0
until_first t (u ∷ ts) = u - t

-- a word's own tick, and those to the next word
gap-own : (u : ℕ) (ws ts : List ℕ) (end : ℕ) → length ws ≡ length ts → Rising (u + 1) (paired ts ws) end
    → gap_after u ts ≡ suc (until_first (u + 1) ts)
unfolding gap_after paired
gap-own u ws [] end even r = refl
gap-own u [] (v ∷ ts) end even r = absurd (omega arith)
gap-own u (w ∷ ws) (v ∷ ts) end even r = let first = r.0 in omega arith

-- a word that is taken has no cause's number
cause-range : (c : Cause) → (21 ≤ cause_number c) × (cause_number c ≤ 25)
unfolding cause_number
cause-range State = (omega arith, omega arith)
cause-range Busy = (omega arith, omega arith)
cause-range CoverMoving = (omega arith, omega arith)
cause-range UnknownWord = (omega arith, omega arith)
cause-range Range = (omega arith, omega arith)
cause-range Turn = (omega arith, omega arith)

no-cause : (o : Outcome) → is_taken o ≡ true → (c : Cause) → outcome_number o ≡ cause_number c → ⊥
unfolding is_taken outcome_number act_number
no-cause (Ignored d) e c n = false≢true e
no-cause (Taken None) e c n = omega (arith, n, (cause-range c).0)
no-cause (Taken Exposure) e c n = omega (arith, n, (cause-range c).0)
no-cause (Taken Request) e c n = omega (arith, n, (cause-range c).0)
no-cause (Taken (Cover b)) e c n = omega (arith, n, (cause-range c).1)

-- the run of a list with rising ticks from the clock t on
module _ (end : ℕ) where
  pub list-head : (ws ts : List ℕ) (t : ℕ) (s : Head) → length ws ≡ length ts → Rising t (paired ts ws) end
      → last_of end t (paired ts ws) s ≡ ticks_of (end - clock_after t ts) (head_listed ws ts (ticks_of (until_first t ts) s))
  unfolding paired head_listed stepped ticks_of next answered
  list-head [] [] t s even r = none-head (end - t) t s
  list-head [] (u ∷ ts) t s even r = absurd (omega arith)
  list-head (w ∷ ws) [] t s even r = absurd (omega arith)
  list-head (w ∷ ws) (u ∷ ts) t s even r =
      let found = ticks_of (u - t) s in
      let e : length ws ≡ length ts = omega arith in
      first_head t end u w (paired ts ws) s r
      ∙ list-head ws ts (u + 1) (next found (some w)) e r.1
      ∙ rw (gap-own u ws ts end e r.1)

  -- what is obeyed after a stretch without words
  obeyed-rest : (n : ℕ) (s : Head) (ms : List Moment) → AllObeyed (quiet n s ++ ms) → AllObeyed ms
  unfolding quiet
  obeyed-rest zero s ms h = h
  obeyed-rest (suc n) s ms h = obeyed-rest n (tick_of s).head ms h.1

  pub list-taken : (ws ts : List ℕ) (t : ℕ) (s : Head) → length ws ≡ length ts → Rising t (paired ts ws) end
      → AllObeyed (ran_from end t (paired ts ws) s) → NoCause (numbers_listed ws ts (ticks_of (until_first t ts) s))
  unfolding paired numbers_listed outcomes_listed stepped ticks_of next answered
  list-taken [] [] t s even r o = tt
  list-taken [] (u ∷ ts) t s even r o = absurd (omega arith)
  list-taken (w ∷ ws) [] t s even r o = absurd (omega arith)
  list-taken (w ∷ ws) (u ∷ ts) t s even r o =
      let found = ticks_of (u - t) s in
      let then = next found (some w) in
      let e : length ws ≡ length ts = omega arith in
      let ms = given found w ∷ ran_from end (u + 1) (paired ts ws) then in
      let all : AllObeyed ms = obeyed-rest (u - t) s ms (rw (first-moments t end u w (paired ts ws) s r) at o) in (
        no-cause (answer_of found w).outcome (all.0 w refl).0,
        rw (gap-own u ws ts end e r.1) (list-taken ws ts (u + 1) then e r.1 all.1),
      )

  list-rises : (ws ts : List ℕ) (t : ℕ) → length ws ≡ length ts → Rising t (paired ts ws) end → rising ts ≡ true
  unfolding paired rising
  list-rises ws [] t even r = refl
  list-rises ws (u ∷ []) t even r = refl
  list-rises [] (u ∷ (v ∷ ts)) t even r = absurd (omega arith)
  list-rises (w ∷ []) (u ∷ (v ∷ ts)) t even r = absurd (omega arith)
  list-rises (w ∷ (x ∷ ws)) (u ∷ (v ∷ ts)) t even r =
      let next = r.1.0 in rw (lt-ltb u v (omega arith)) (list-rises (x ∷ ws) (v ∷ ts) (u + 1) (omega arith) r.1)

-- the clock after the last word is within the run
clock-within : (ws ts : List ℕ) (t end : ℕ) → length ws ≡ length ts → Rising t (paired ts ws) end → clock_after t ts ≤ end
unfolding paired
clock-within ws [] t end even r = rising-end t (paired [] ws) end r
clock-within [] (u ∷ ts) t end even r = absurd (omega arith)
clock-within (w ∷ ws) (u ∷ ts) t end even r = clock-within ws ts (u + 1) end (omega arith) r.1

-- a head that is fit, words and ticks that keep demand 3 with the orders of a plan
module _ (s : Head) (bs : List ℕ) (os : List Order) (ws ts : List ℕ) (n end : ℕ)
    (even : length ws ≡ length ts)
    (d : Demands s bs os (paired ts ws) n end)
    (r : Rising 0 (paired ts ws) end) where
  fit-still : (m : ℕ) → ticks_of m s ≡ s
  unfolding fit
  fit-still m =
      let most = and_left (in_range s && not (is_busy s)) (at_rest s) d.fits in
      ticks-still s (and_left (in_range s) (not (is_busy s)) most) m
      (not-true (is_busy s) (and_right (in_range s) (not (is_busy s)) most))
      (and_right (in_range s && not (is_busy s)) (at_rest s) d.fits)

  ranged : in_range s ≡ true
  unfolding fit
  ranged = and_left (in_range s) (not (is_busy s)) (and_left (in_range s && not (is_busy s)) (at_rest s) d.fits)

  at-end : head_after end 0 (paired ts ws) s ≡ ticks_of (end - clock_after 0 ts) (head_listed ws ts s)
  at-end = rw (sub-zero end, fit-still (until_first 0 ts)) at (list-head end ws ts 0 s even r)

  long : length ws ≤ most_words
  long = omega (arith, paired_long ts ws, d.counted, d.most)

  done : (room : ℕ) → length ws ≤ room → list_of s ws ts room ≡ record { head = head_listed ws ts s; answer = Ok tt }
  unfolding list_of is_list
  done room fits =
      rw (
        ranged,
        eq-eqb (length ws) (length ts) even,
        le-leb (length ws) most_words long,
        list-rises end ws ts 0 even r,
        le-leb (length ws) room fits,
      )

  pub demands-listed : InOneCall s os ws ts end
  demands-listed =
      record {
        answer = done;
        taken = rw (fit-still (until_first 0 ts)) at (list-taken end ws ts 0 s even r (rw (sub-zero end) d.run.obeyed));
        settings =
            sym (ticks-settings (end - clock_after 0 ts) (head_listed ws ts s) (listed-keeps ws ts s ranged))
            ∙ ap (λ (h : Head). h.settings) (sym at-end)
            ∙ d.run.settings;
        later = clock-within ws ts 0 end even r;
        rest = at-end;
      }

-- `translate` answered n words and the end e; W and T are the buffers as they were lent, W' and T' as they came back
module _ (s : Head) (bs W T W' T' : List ℕ) (n e : ℕ)
    (answer : Ok (record { count = n; end = e }) ≡ translate_of s bs (length W) (length T))
    (words : W' ≡ filled (Ok (record { count = n; end = e })) (word_list (schedule_of s (plan_of bs))) W)
    (ticks : T' ≡ filled (Ok (record { count = n; end = e })) (tick_list (schedule_of s (plan_of bs))) T) where
  pub translated-listed : InOneCall s (orders_in (plan_of bs)) (take n W') (take n T') e
  translated-listed =
      let a = room-words s bs W T W' T' n e answer words ticks in
      let b = room-ticks s bs W T W' T' n e answer words ticks in
      let even : length (take n W') ≡ length (take n T') = omega (arith, length-take n W', length-take n T') in
      demands-listed s bs (orders_in (plan_of bs)) (take n W') (take n T') n e even
      (translated-demands s bs W T W' T' n e answer words ticks)
      (translated-rising s bs W T W' T' n e answer words ticks)
