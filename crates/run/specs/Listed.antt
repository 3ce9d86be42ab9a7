-- Document 02, request P1, beside demand 3: the list of an accepted plan handed to the head in one call.
-- Assumes nothing.
use Rattle.std.specs.Prelude.{ℕ, ◌+◌, ◌-◌, ◌≤◌, ◌≡◌, true, false, List, [], ◌∷◌, length, Ok}
use Rattle.head.specs.Busy.{at_rest}
use Rattle.head.specs.Word.{answer_of}
use Rattle.head.specs.Tick.{ticks_of}
use Rattle.head.specs.Numbers.{cause_number, outcome_number, is_cause}
use Rattle.head.specs.List.{stepped, head_listed, numbers_listed, list_of}
use Rattle.head.specs.declared.state.Head.{Head}
use Rattle.head.specs.declared.word.Cause.{Cause}
use Rattle.orders.specs.declared.order.Order.{Order}
use Rattle.plan.specs.Reading.{settings_read}
use Rattle.run.specs.Run.{head_after}
use Rattle.run.specs.Claim.{paired}

-- No number is a cause's.
abbrev pub NoCause : List ℕ → Type 0
NoCause [] = Unit {0}
NoCause (n ∷ ns) = ((c : Cause) → n ≡ cause_number c → ⊥) × NoCause ns

-- The clock after the last word's own tick, or t where there is no word.
abbrev pub clock_after : ℕ → List ℕ → ℕ
clock_after t [] = t
clock_after t (u ∷ ts) = clock_after (u + 1) ts

-- Every word is taken, and each exposure begins while nothing moves and no mirror set is begun.
abbrev pub Ready : List ℕ → List ℕ → Head → Type 0
Ready [] ts s = Unit {0}
Ready (w ∷ ws) [] s = Unit {0}
Ready (w ∷ ws) (t ∷ ts) s =
    (is_cause (outcome_number (answer_of s w).outcome) ≡ false)
    × (outcome_number (answer_of s w).outcome ≡ 1 → (at_rest s ≡ true) × (s.begun.count ≡ 0))
    × Ready ws ts (stepped s w t ts)

-- The claim for a head, the orders of a plan that was translated for it, the words and ticks of the translation, and its end.
pub record InOneCall (s : Head) (os : List Order) (words ticks : List ℕ) (end : ℕ) : Type 0 where
  -- The call takes the list: any buffer that has a place for each outcome will do.
  pub answer : (room : ℕ) → length words ≤ room → list_of s words ticks room ≡ record { head = head_listed words ticks s; answer = Ok tt }
  -- No outcome is a cause: every word was taken.
  pub taken : NoCause (numbers_listed words ticks s)
  -- The last settings are those of the plan, read order by order without any words.
  pub settings : (head_listed words ticks s).settings ≡ settings_read s.settings os
  -- The plan may end later than the list, which ends with its last word's own tick. Ticks alone lead from there to the end of demand 3's
  -- run, so that at the end of the list an acquisition may be under way, or mirror and cover move.
  pub later : clock_after 0 ticks ≤ end
  pub rest : head_after end 0 (paired ticks words) s ≡ ticks_of (end - clock_after 0 ticks) (head_listed words ticks s)
