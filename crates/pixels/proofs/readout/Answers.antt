-- `pixels::readout` meets its contract.
use Rattle.std.proofs.Common.{◌≡◌, ◌∙◌, ap, sym}
use Rattle.std.specs.Prelude.{Ok}
use Rattle.std.proofs.lemmas.Result.{err_from_is_err_and}
use Rattle.pixels.specs.Measured.{readout_of}
use Rattle.pixels.proofs.Maps.{counted-few, readout-by, readout-number}
use Rattle.pixels.proofs.readout.Goals as goal

pub readout_time-requires : goal.readout_time-requires
readout_time-requires c = counted-few c.args.map.now (sym c.lighted.ensures.value ∙ c.in_ok-lit.was)

pub returns-in_err-lit : goal.returns-in_err-lit
returns-in_err-lit c =
    let p = err_from_is_err_and c.from_residual.result c.from_residual.ensures.1 in
    let is : c.from_residual.result ≡ readout_of c.args.map.now =
    rw (readout-by c.args.map.now, ← c.lighted.ensures.value, c.in_err-lit.was) (rw (p.1, p.2)) in
    record { value = is; number = readout-number c.args.map.now c.from_residual.result is }

pub returns : goal.returns
returns c =
    let is : Ok c.readout_time.result ≡ readout_of c.args.map.now =
    rw (readout-by c.args.map.now, ← c.lighted.ensures.value, c.in_ok-lit.was) (ap Ok c.readout_time.ensures) in
    record { value = is; number = readout-number c.args.map.now _ is }
