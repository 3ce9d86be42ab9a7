-- `requests::refused` meets its contract.
use Rattle.std.proofs.Common.{◌≡◌, ◌∙◌, sym, true, false}
use Rattle.requests.specs.Codec.{is_known}
use Rattle.requests.proofs.Rows.{any-known}
use Rattle.requests.proofs.refused.Goals as goal

pub returns-then-has_code : goal.returns-then-has_code
returns-then-has_code c =
    let known : is_known c.args.rows.now c.args.code ≡ true =
    sym (any-known c.args.code c.args.rows.now) ∙ sym c.has_code.ensures ∙ c.if-has_code.true in
    rw known

pub returns-else-has_code : goal.returns-else-has_code
returns-else-has_code c =
    let known : is_known c.args.rows.now c.args.code ≡ false =
    sym (any-known c.args.code c.args.rows.now) ∙ sym c.has_code.ensures ∙ c.if-has_code.false in
    rw known
