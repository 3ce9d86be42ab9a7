-- `requests::encode` meets its contract.
use Rattle.requests.proofs.Encoding.{encode-unknown, encode-out, encode-made, encode-fits, code_fits, encoding-number}
use borrow.Author.Rules.{rules}
use Rattle.requests.proofs.encode.Goals as goal

pub returns-then-at-ge-REQUESTS : goal.returns-then-at-ge-REQUESTS
returns-then-at-ge-REQUESTS c = rw (← c.from-at.ensures) (search (rules, encode-unknown, encoding-number))

pub overflow_mul-result : goal.overflow_mul-result
overflow_mul-result c = rw c.from-at.ensures (search (rules, code_fits))

pub overflow_add-result : goal.overflow_add-result
overflow_add-result c = rw c.from-at.ensures (search (rules, encode-fits))

pub returns-then-is_allowed : goal.returns-then-is_allowed
returns-then-is_allowed c = rw (← c.from-at.ensures) (search (rules, encode-made, encoding-number))

pub returns : goal.returns
returns c = rw (← c.from-at.ensures) (search (rules, encode-out, encoding-number))
