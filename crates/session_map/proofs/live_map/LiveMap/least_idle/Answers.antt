use Rattle.std.proofs.Common.{sym, ◌∙◌}
use Rattle.session_map.proofs.Idle.{least-idle, none-idle}
use Rattle.session_map.proofs.live_map.LiveMap.least_idle.Goals as goal

pub returns-then-is_quiet : goal.returns-then-is_quiet
returns-then-is_quiet c =
    let proved = c.history_laws.ensures in
    record { of = λ g H s l. none-idle proved c.args.self.now H c.args.idle_ms c.args.at.0 s (sym c.is_quiet.ensures ∙ c.if-is_quiet.true) }

pub returns : goal.returns
returns c =
    let proved = c.history_laws.ensures in
    record { of = λ g H s l. c.least_idle_of.ensures ∙ least-idle proved c.args.self.now H c.args.idle_ms c.args.at.0 s }
