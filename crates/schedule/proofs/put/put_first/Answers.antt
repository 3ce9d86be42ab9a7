-- `schedule::put::put_first` meets its contract: a word and its tick are written after another.
use mathlib.Core.Path.{◌∙◌}
use Prim.Native.Nat.{◌+◌}
use lib.ListN.{length-set}
use borrow.Author.Rules.{rules}
use Rattle.schedule.proofs.Laying.{words-next, words-last, ticks-next, ticks-last}
use Rattle.schedule.proofs.put.put_first.Goals as goal

pub loop-i-preserved : goal.loop-i-preserved
loop-i-preserved g c =
    let at = c.loop-i in
    record {
      words_long = length-set at.words (c.args.from + at.i) _ ∙ at.invariant.words_long;
      ticks_long = length-set at.ticks (c.args.from + at.i) (c.args.tick + at.i) ∙ at.invariant.ticks_long;
      words_left = words-next at.words c.args.list c.args.from g.row.N at.i at.invariant.words_left c.loop-i-test.true (search rules);
      ticks_left = ticks-next at.ticks c.args.from c.args.tick g.row.N at.i at.invariant.ticks_left c.loop-i-test.true;
    }

pub returns-clause-words_after : goal.returns-clause-words_after
returns-clause-words_after g c = words-last c.loop-i.words c.args.list c.args.from g.row.N c.loop-i.i c.loop-i.invariant.words_left c.loop-i-test.false

pub returns-clause-ticks_after : goal.returns-clause-ticks_after
returns-clause-ticks_after g c = ticks-last c.loop-i.ticks c.args.from c.args.tick g.row.N c.loop-i.i c.loop-i.invariant.ticks_left c.loop-i-test.false
