use Rattle.std.proofs.Common.{refl}
use Rattle.grid_report.proofs.ReportLemmas.{report_ended, report_unread}
use Rattle.grid_report.proofs.telling.report.Goals as goal

pub returns-in-Ok : goal.returns-in-Ok
returns-in-Ok g c = report_ended c.args.report _ _ _ _ _ _ _ c.in-Ok.ensures c.write_report.ensures

pub returns-in-Err : goal.returns-in-Err
returns-in-Err g c = report_unread c.args.report _ _ _ _ c.in-Err.why _ c.in-Err.ensures c.unread_status.ensures refl
