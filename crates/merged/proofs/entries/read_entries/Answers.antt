-- `merged::entries::read_entries` meets its contract.
use borrow.Author.Rules.{rules}
use Rattle.merged.proofs.Packing.{read_answer, read-entries}
use Rattle.merged.proofs.entries.read_entries.Goals as goal

pub returns : goal.returns
returns c = record { value = search (rules, read_answer); list_after = search (rules, read-entries) }
