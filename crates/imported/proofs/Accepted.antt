-- The listing of every accepted plan, read and inspected: its words and ticks come back, every word is taken, no exposure has an incomplete
-- mirror set, and none begins while something moves.
-- Assumes nothing.
use mathlib.Core.Path.{◌≡◌, refl, ◌∙◌}
use mathlib.Core.Bool.{Bool, true, false, not, ◌&&◌}
use mathlib.Core.List.{List, [], ◌∷◌}
use Prim.Native.Nat.{ℕ, ◌+◌, ◌≤◌}
use native.Mathlib.Omega.{arith}
use borrow.Author.Tests.{eqb-true, le-ltb}
use lib.Dec.{eqb, ltb}
use lib.ListN.{length}
use Rattle.head.specs.State.{power_on}
use Rattle.head.specs.Busy.{at_rest}
use Rattle.head.specs.Numbers.{is_cause}
use Rattle.head.specs.List.{stepped}
use Rattle.head.specs.declared.state.Head.{Head}
use Rattle.orders.specs.declared.order.Order.{Order}
use Rattle.plan.specs.Stored.{orders, plan_of}
use Rattle.schedule.specs.Translate.{most_words, schedule_of, word_list, tick_list}
use Rattle.schedule.proofs.Accepted.{accepted-done}
use Rattle.run.specs.Listed.{Ready}
use Rattle.run.proofs.Ready.{power-on-fit, power-on-ready}
use Rattle.layout.specs.Numbers.{bit}
use Rattle.text.specs.Listing as Listing
use Rattle.text.specs.Listing.{plan_text}
use Rattle.import.proofs.Round.{ReadsAs, plan-read}
use Rattle.inspection.specs.Rows.{number_of}
use Rattle.inspection.specs.Counts.{none, counted, counts_from, findings}
use Rattle.inspection.specs.Inspection.{counts_of, inspection_text}
use Rattle.inspection.specs.declared.counts.Counts.{Counts}
use Rattle.imported.specs.Printed.{printed_by, printed_for}

-- a word that is taken, and an exposure that finds nothing amiss
module _ (c : Counts) (n : ℕ) (s : Head) (taken : is_cause n ≡ false) (ready : n ≡ 1 → (at_rest s ≡ true) × (s.begun.count ≡ 0)) where
  no-finding : findings (counted c n s.begun.count (at_rest s)) ≡ findings c
  unfolding findings counted
  no-finding = go (eqb n 1) refl
    where
      go : (x : Bool) → eqb n 1 ≡ x
          → c.ignored + bit (is_cause n) + (c.incomplete + bit (eqb n 1 && ltb 0 s.begun.count)) + (c.moving + bit (eqb n 1 && not (at_rest s)))
          ≡ c.ignored + c.incomplete + c.moving
      go true e = let found = ready (eqb-true n 1 e) in rw (taken, e, found.0, found.1) (omega arith)
      go false e = rw (taken, e) (omega arith)

ready-clean : (c : Counts) (ws ts : List ℕ) (s : Head) → Ready ws ts s → findings (counts_from c ws ts s) ≡ findings c
unfolding counts_from
ready-clean c [] ts s r = refl
ready-clean c (w ∷ ws) [] s r = refl
ready-clean c (w ∷ ws) (t ∷ ts) s r =
    ready-clean (counted c (number_of s w) s.begun.count (at_rest s)) ws ts (stepped s w t ts) r.2
    ∙ no-finding c (number_of s w) s r.0 r.1

-- what is left of no findings
none_each : (c : Counts) → findings c ≡ 0 → (c.ignored ≡ 0) × ((c.incomplete ≡ 0) × (c.moving ≡ 0))
unfolding findings
none_each c h = (omega arith, (omega arith, omega arith))

-- the listing program prints the listing of an accepted plan
listing-printed : (bs : List ℕ) (os : List Order) → plan_of bs ≡ orders os → length bs ≤ 4096 → Listing.printed_for bs ≡ plan_text power_on bs
unfolding Listing.printed_for Listing.answer_text Listing.listed_of Listing.listed_by
listing-printed bs os e few =
    rw (le-ltb 4096 (length bs) few, accepted-done power_on bs os power-on-fit e most_words most_words (omega arith) (omega arith))

-- what is said of an accepted plan, its words and its ticks: what the listing program prints for it, that this reads back, and what the
-- inspection of it prints and counts
pub record RoundTrip (bs ws ts : List ℕ) : Type 0 where
  pub listed : length bs ≤ 4096 → Listing.printed_for bs ≡ plan_text power_on bs
  pub read : ReadsAs (plan_text power_on bs) ws ts
  pub printed : printed_for (plan_text power_on bs) ≡ inspection_text ws ts
  pub ignored : (counts_of ws ts).ignored ≡ 0
  pub incomplete : (counts_of ws ts).incomplete ≡ 0
  pub moving : (counts_of ws ts).moving ≡ 0

pub accepted-inspected : (bs : List ℕ) (os : List Order) → plan_of bs ≡ orders os
    → RoundTrip bs (word_list (schedule_of power_on (plan_of bs))) (tick_list (schedule_of power_on (plan_of bs)))
unfolding printed_for printed_by findings
accepted-inspected bs os e =
    let sch = schedule_of power_on (plan_of bs) in
    let back = plan-read power_on bs e power-on-fit in
    let clean = none_each (counts_of (word_list sch) (tick_list sch)) (ready-clean none (word_list sch) (tick_list sch) power_on (power-on-ready bs os e)) in
    record {
      listed = listing-printed bs os e;
      read = back;
      printed = rw (back.done, back.words, back.ticks);
      ignored = clean.0;
      incomplete = clean.1.0;
      moving = clean.1.1;
    }
