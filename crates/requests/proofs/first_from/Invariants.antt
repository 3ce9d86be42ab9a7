-- `requests::first_from` meets its contract: no row before this one has the word.
use Rattle.std.proofs.Common.{◌≡◌, drop}
use Rattle.requests.specs.Rows.{first_from}
use Rattle.requests.proofs.first_from.Given as goal

abbrev pub invariant-loop-i : goal.invariant-loop-i
invariant-loop-i l = first_from (drop l.start l.rows) l.start l.code l.value ≡ first_from (drop l.i l.rows) l.i l.code l.value
