use Rattle.std.proofs.Common.{refl}
use Rattle.grid_report.specs.Writes.{in_part, whole}
use Rattle.grid_report.proofs.telling.write_text.Goals as goal

pub returns-in-Ok : goal.returns-in-Ok
returns-in-Ok g c = whole c.ending_status.ensures c.in-Ok.ensures.ok

pub returns-in-Err : goal.returns-in-Err
returns-in-Err g c = in_part refl (c.in-Err.ensures.cause.failed refl) c.in-Err.ensures.err
