-- `texts::why::unpacked_why` meets its contract.
use Rattle.texts.proofs.Unpacking.{unpack-state, unpack-cover, unpack-busy, unpack-unknown, unpack-range, unpack-turn, unpack-taken}
use borrow.Author.Rules.{rules}
use Rattle.texts.proofs.why.unpacked_why.Goals as goal

pub returns-then-number-eq21 : goal.returns-then-number-eq21
returns-then-number-eq21 c = search (rules, unpack-state)

pub returns-then-answer-ge-COVER_BIT : goal.returns-then-answer-ge-COVER_BIT
returns-then-answer-ge-COVER_BIT c = search (rules, unpack-cover)

pub returns-then-number-eq22 : goal.returns-then-number-eq22
returns-then-number-eq22 c = search (rules, unpack-busy)

pub returns-then-number-eq23 : goal.returns-then-number-eq23
returns-then-number-eq23 c = search (rules, unpack-unknown)

pub returns-then-number-eq24 : goal.returns-then-number-eq24
returns-then-number-eq24 c = search (rules, unpack-range)

pub returns-then-number-eq25 : goal.returns-then-number-eq25
returns-then-number-eq25 c = search (rules, unpack-turn)

pub returns : goal.returns
returns c = search (rules, unpack-taken)
