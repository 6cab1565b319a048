use Rattle.std.proofs.Common.{max, ap, ◌∙◌}
use Rattle.hub_tables.proofs.tables.HubTables.raised.Goals as goal

pub returns : goal.returns
returns c = record { of = λ d H s l. c.not_before.ensures ∙ ap (max c.args.at.0) s.tells_clock }
