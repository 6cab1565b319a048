use Rattle.http_frames.specs.declared.frames.TheConstants.{LIMITS}
use Rattle.grid_teams_shared.specs.Heads.{fed_of}
use Rattle.grid_teams_shared.proofs.heads.read_on.Goals as goal

pub returns-in-Refused-clause-on : goal.returns-in-Refused-clause-on
returns-in-Refused-clause-on g c = λ old r. let x = c.in-Refused.ensures.told LIMITS (fed_of c.args.ahead.now) r.fed in (r, x.0, x.1)
