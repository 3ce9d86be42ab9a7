-- `interface::answers::flag_bits` meets its contract.
use Rattle.std.proofs.Common.{◌≤◌, Bool, true, false, arith}
use mir.Val.{bool_byte}
use Rattle.bitfields.proofs.Flags.{flag-number}
use Rattle.interface.specs.Stepping.{flag_bits}
use Rattle.interface.proofs.answers.flag_bits.Goals as goal

flag-most : (b : Bool) → bool_byte b ≤ 1
flag-most true = omega arith
flag-most false = omega arith

pub returns : goal.returns
unfolding flag_bits
returns c =
    let f = c.args.flags in
    record {
      value = simp (c.from.ensures, c.from-2.ensures, c.from-3.ensures, c.from-4.ensures, c.from-5.ensures, flag-number);
      upper_bound =
          omega (arith, flag-most f.irtime, flag-most f.irword, flag-most f.scan, flag-most f.vistime, flag-most f.visword);
    }
