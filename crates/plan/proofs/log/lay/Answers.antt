-- `plan::log::lay` meets its contract.
use mathlib.Core.Path.{sym, ◌∙◌}
use Prim.Native.Nat.{◌+◌, ◌*◌, ◌≤◌}
use native.Mathlib.Omega.{arith}
use lib.ListN.{length, drop, drop_of_length-le}
use Rattle.plan.proofs.Laid.{sets-past}
use Rattle.plan.proofs.log.lay.Goals as goal

pub returns-then-rows-k : goal.returns-then-rows-k
returns-then-rows-k c =
    let a = c.args in
    let past : length a.rows.now ≤ 21 * a.k = omega arith in
    sets-past a.row a.rows.now (21 * a.k) past

pub returns-then-rows-from : goal.returns-then-rows-from
returns-then-rows-from c =
    let a = c.args in
    let at = c.loop-i in
    let past : length at.rows ≤ 21 * a.k + at.i = omega arith in
    sets-past (drop at.i a.row) at.rows (21 * a.k + at.i) past ∙ sym at.invariant.left

pub returns : goal.returns
returns c =
    let at = c.loop-i in
    let all : length c.args.row ≤ at.i = omega arith in
    sym (at.invariant.left ∙ rw (drop_of_length-le c.args.row all))
