use Rattle.std.proofs.Common.{◌∙◌, ap}
use Rattle.grid_replay.specs.Lasts.{last_in}
use Rattle.grid_replay.proofs.ReplayLemmas.{knows}
use Rattle.grid_replay.proofs.replay.Replay.last_at.Goals as goal

pub returns : goal.returns
returns c = λ H shows. knows c.args.self.now c.args.slot c.last_in.result (c.last_in.ensures ∙ ap (last_in c.args.slot) c.as_slice.ensures.value) H shows
