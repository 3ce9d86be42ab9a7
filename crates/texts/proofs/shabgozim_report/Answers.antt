-- `texts::shabgozim_report` meets its contract.
use Rattle.interface.proofs.Ways.{long}
use Rattle.texts.proofs.Reporting.{report-ill, report-ill-left, report-ill-state}
use borrow.Author.Rules.{rules}
use Rattle.texts.proofs.shabgozim_report.Goals as goal

pub returns-then-not-well_formed : goal.returns-then-not-well_formed
returns-then-not-well_formed c = search (rules, report-ill, report-ill-left, report-ill-state)

pub put_report-requires : goal.put_report-requires
put_report-requires c = search (rules, long)
