-- `requests::decode` meets its contract.
use borrow.Author.Rules.{rules}
use Rattle.requests.proofs.Ways.{decode-none, decode-one, decode-shared, finding-number}
use Rattle.requests.proofs.decode.Goals as goal

pub returns-then-place-ge-REQUESTS : goal.returns-then-place-ge-REQUESTS
returns-then-place-ge-REQUESTS c = search (rules, decode-none, finding-number)

pub returns-then-second-ge-REQUESTS : goal.returns-then-second-ge-REQUESTS
returns-then-second-ge-REQUESTS c = search (rules, decode-one, finding-number)

pub returns : goal.returns
returns c = search (rules, decode-shared, finding-number)
