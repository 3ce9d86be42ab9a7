-- `merge::turns::turn_at` meets its contract.
use native.Mathlib.Omega.{arith}
use borrow.Author.Rules.{rules}
use Rattle.merge.specs.ByPlaces.{ccd-over, infrared-over}
use Rattle.merge.proofs.Stepping.{turn-ccd, turn-infrared}
use Rattle.merge.proofs.turns.turn_at.Goals as goal

pub returns-in_err-mine : goal.returns-in_err-mine
returns-in_err-mine c = rw c.from_residual.ensures (ccd-over (omega (arith, c.in_err-mine.ensures.lookup)))

pub returns-in_err-other : goal.returns-in_err-other
returns-in_err-other c =
    rw c.from_residual-in_err-other.ensures (infrared-over (omega (arith, c.in_err-other.ensures.lookup)))

pub returns-then-first-second : goal.returns-then-first-second
returns-then-first-second c = search (rules, turn-ccd)

pub returns : goal.returns
returns c = search (rules, turn-infrared)
