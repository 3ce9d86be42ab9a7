-- `plan::stored::header_fault` meets its contract: each way through the header is a law of `Judging`.
use mathlib.Core.Path.{refl}
use borrow.Author.Rules.{rules}
use Rattle.plan.proofs.Faults.{unless-none, unless-some}
use Rattle.plan.proofs.Judging.{header-short, header-version, header-length, header-whole}
use Rattle.plan.proofs.stored.header_fault.Goals as goal

pub returns-then-plan-lt-HEADER : goal.returns-then-plan-lt-HEADER
returns-then-plan-lt-HEADER c = record { value = unless-some _ _ _ (search (rules, header-short)); number = search (rules, header-short) }

pub returns-then-plan-ne-VERSION : goal.returns-then-plan-ne-VERSION
returns-then-plan-ne-VERSION c = record { value = unless-some _ _ _ (search (rules, header-version)); number = search (rules, header-version) }

pub returns-then-plan-pair_at : goal.returns-then-plan-pair_at
returns-then-plan-pair_at c = record { value = unless-some _ _ _ (search (rules, header-length)); number = search (rules, header-length) }

pub returns : goal.returns
returns c = record { value = unless-none _ _ (search (rules, header-whole)) refl; number = search (rules, header-whole) }
