-- `run::rehearse::run_words` meets its contract. The loop's invariant: i words have been given.
use mathlib.Core.Path.{◌∙◌}
use Prim.Native.Nat.{◌<◌, ◌≤◌}
use native.Mathlib.Omega.{arith}
use Rattle.plan.specs.Rows.{end_row}
use Rattle.run.proofs.Rehearsing.{running-first, running-ends, running-after, running-before, running-room, running-next, running-last, running-acts, running-rows, running-times}
use Rattle.run.proofs.rehearse.run_words.Goals as goal

pub loop-i-init : goal.loop-i-init
loop-i-init c =
    let p = c.requires in
    running-first p.count_in_bounds_1 p.count_in_bounds_2 p.rising p.words_in_bounds

pub overflow_sub-tick : goal.overflow_sub-tick
overflow_sub-tick c =
    let a = c.args in
    let at = c.loop-i in
    let more : at.i < a.count = omega arith in
    omega (arith, running-after at.invariant more)

pub give-given-requires : goal.give-given-requires
give-given-requires c =
    let a = c.args in
    let at = c.loop-i in
    let more : at.i < a.count = omega arith in
    rw c.pass-found.ensures (running-room at.invariant more)

pub overflow_add-clock : goal.overflow_add-clock
overflow_add-clock c =
    let a = c.args in
    let at = c.loop-i in
    let more : at.i < a.count = omega arith in
    omega (arith, running-before at.invariant more, c.ranges.end)

pub loop-i-preserved : goal.loop-i-preserved
loop-i-preserved c =
    let a = c.args in
    let at = c.loop-i in
    let more : at.i < a.count = omega arith in
    let e = c.give-given.ensures in
    running-next at.invariant more c.pass-found.ensures e.head_value (e.acts_value, (e.rows_after, e.times_after))

pub overflow_sub-end : goal.overflow_sub-end
overflow_sub-end c =
    let a = c.args in
    let at = c.loop-i in
    omega (arith, running-ends at.invariant)

pub returns : goal.returns
unfolding end_row
returns c =
    let a = c.args in
    let at = c.loop-i in
    let all : a.count ≤ at.i = omega arith in
    let last = c.pass-last.ensures in
    let laid = rw c.settings_row.ensures at c.lay.ensures in
    record {
      head_value = running-last at.invariant all last;
      acts_value = running-acts at.invariant all;
      rows_after = running-rows at.invariant all last laid;
      times_after = running-times at.invariant all;
    }
