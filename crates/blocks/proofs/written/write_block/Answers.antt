-- `blocks::written::write_block` meets its contract.
use Rattle.blocks.specs.Written.{written_if, buffer_after}
use Rattle.blocks.proofs.Copied.{copied-both}
use Rattle.blocks.proofs.Judged.{unequal, equal, stops, passes}
use borrow.Author.Rules.{rules}
use Rattle.blocks.proofs.written.write_block.Goals as goal

pub returns-then-buffer-size : goal.returns-then-buffer-size
unfolding written_if buffer_after
returns-then-buffer-size c = search (rules, unequal)

pub returns-then-not-in_range : goal.returns-then-not-in_range
unfolding written_if buffer_after
returns-then-not-in_range c = search (rules, equal, stops)

pub returns : goal.returns
unfolding written_if buffer_after
returns c =
    record {
      value = search (rules, equal, passes);
      buffer_after =
          copied-both c.args.buffer.now c.copy_from_slice.new.self c.copy_from_slice-2.new.self c.args.readings.now c.args.status.now c.copy_from_slice.ensures.after c.copy_from_slice-2.ensures.after;
    }
