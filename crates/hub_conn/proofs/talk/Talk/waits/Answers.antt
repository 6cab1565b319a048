use Rattle.std.proofs.Common.{◌∙◌, sym}
use Rattle.hub_conn.proofs.AwaitLemmas.{waits_as, waits_none}
use Rattle.hub_conn.proofs.talk.Talk.waits.Goals as goal

pub returns-in-Running : goal.returns-in-Running
returns-in-Running c = c.waits.ensures ∙ sym (waits_as c.args.self.now c.in-Running.run' c.in-Running.is)

pub returns-in_default : goal.returns-in_default
returns-in_default c = sym (waits_none c.args.self.now c.in_default.not-Running)
