use Rattle.std.proofs.Common.{refl}
use Rattle.grid_types.specs.Calls.{Call}
use Rattle.conn_script.specs.declared.wants.HubAnswer.TheVariants as answers
use Rattle.local_driver.proofs.CallLemmas.{made}
use Rattle.local_driver.proofs.calls.sessions.lookup.Goals as goal

pub returns : goal.returns
returns g c = λ at. made (g.H.OwnHub.own.shown c.args.hub.now) (Call.lookup c.args.session) at (answers.Lookup c.lookup.result) (g.H.OwnHub.own.shown c.args.hub.now) refl tt refl (c.lookup.ensures at)
