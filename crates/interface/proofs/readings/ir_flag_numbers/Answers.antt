-- `interface::readings::ir_flag_numbers` meets its contract.
use Rattle.std.proofs.Common.{rules}
use Rattle.bitfields.proofs.Flags.{flag-number}
use Rattle.interface.proofs.readings.ir_flag_numbers.Goals as goal

pub returns : goal.returns
returns c = search (rules, flag-number)
