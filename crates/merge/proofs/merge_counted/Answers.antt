-- `merge::merge_counted` meets its contract.
use mathlib.Core.Path.{ap, ◌∙◌}
use borrow.Author.Rules.{rules}
use Rattle.merge.specs.Answer.{merged_of}
use Rattle.merge.specs.declared.answer.Merged.{Merged}
use Rattle.merge.proofs.Answers.{count-few}
use Rattle.merge.proofs.merge_counted.Goals as goal

pub told-requires : goal.told-requires
told-requires c = search (rules, count-few)

pub returns-clause-number_value : goal.returns-clause-number_value
unfolding merged_of
returns-clause-number_value c = ap (λ (m : Merged). m.number) c.told.ensures ∙ c.merge_into-answer.ensures.result_value
