-- `interface::why::detail_bits` meets its contract.
use Rattle.interface.proofs.Packing.{bits-taken, bits-state, bits-busy, bits-cover, bits-unknown, bits_range, bits-turn}
use borrow.Author.Rules.{rules}
use Rattle.interface.proofs.why.detail_bits.Goals as goal

pub returns-in-Taken : goal.returns-in-Taken
returns-in-Taken c = search (rules, bits-taken)

pub returns-in-StateOutOfRange : goal.returns-in-StateOutOfRange
returns-in-StateOutOfRange c = search (rules, bits-state)

pub returns-in-HeadBusy : goal.returns-in-HeadBusy
returns-in-HeadBusy c = search (rules, bits-busy)

pub returns-in-CoverMoves : goal.returns-in-CoverMoves
returns-in-CoverMoves c = search (rules, bits-cover)

pub returns-in-UnknownIdentifier : goal.returns-in-UnknownIdentifier
returns-in-UnknownIdentifier c = search (rules, bits-unknown)

pub returns-in-DataOutOfRange : goal.returns-in-DataOutOfRange
returns-in-DataOutOfRange c = search (rules, bits_range)

pub returns-in-OutOfTurn : goal.returns-in-OutOfTurn
returns-in-OutOfTurn c = search (rules, bits-turn)
