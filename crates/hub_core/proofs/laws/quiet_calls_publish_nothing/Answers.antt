use Rattle.hub_core.proofs.SilentLemmas.{quiet-calls}
use Rattle.hub_core.proofs.laws.quiet_calls_publish_nothing.Goals as goal

pub returns : goal.returns
returns c = quiet-calls
