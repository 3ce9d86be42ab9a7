-- `head::state::Head::pass` meets its contract.
use mathlib.Core.Path.{sym, ◌∙◌}
use Rattle.head.proofs.Ticks.{ticks-elapsed, ticks-out}
use Rattle.head.proofs.state.Head.pass.Goals as goal

pub returns-then-in_range : goal.returns-then-in_range
returns-then-in_range c =
    let a = c.args in
    let test = c.in_range in
    c.later.ensures ∙ sym (ticks-elapsed a.n a.self (sym test.ensures ∙ c.if-in_range.true))

pub returns : goal.returns
returns c =
    let a = c.args in
    let test = c.in_range in
    sym (ticks-out a.n a.self (sym test.ensures ∙ c.if-in_range.false))
