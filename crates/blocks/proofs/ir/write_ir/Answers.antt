-- `blocks::ir::write_ir` meets its contract.
use Rattle.std.proofs.Common.{◌≡◌, ◌∙◌, ap}
use Rattle.blocks.specs.Numbers.{written_number, written_place}
use Rattle.blocks.specs.Written.{written_of, buffer_after}
use Rattle.blocks.specs.Ir.{ir_words, ir_status, ir_block_of}
use Rattle.blocks.proofs.Numbered.{written-number, written-place}
use Rattle.blocks.proofs.Writing.{written-by, written-left}
use borrow.Author.Rules.{rules}
use Rattle.blocks.proofs.ir.write_ir.Goals as goal

pub returns : goal.returns
unfolding ir_block_of written_of
returns c =
    let is : c.write_block.result ≡ written_of ir_words c.args.head c.args.buffer.now =
    search (rules, written-by 14 6) in
    let left : c.write_block.new.buffer ≡ buffer_after c.write_block.result (ir_block_of c.args.head c.args.flags c.args.acquired c.args.readings c.args.bits) c.args.buffer.now =
    search (rules, written-left ir_status) in
    record {
      value = is;
      number = ap written_number is ∙ written-number ir_words c.args.head c.args.buffer.now;
      place = ap written_place is ∙ written-place ir_words c.args.head c.args.buffer.now;
      buffer_after = left;
    }
