use Rattle.std.proofs.Common.{◌∙◌, ap, max}
use Rattle.grid_replay.proofs.ReplayLemmas.{hears-all}
use Rattle.grid_replay.proofs.replay.ReplayListener.hear.Goals as goal

pub returns-in-Ok : goal.returns-in-Ok
returns-in-Ok c = hears-all c.args.self.now c.follow.new.self c.note_caller.new.self c.args.ledger.now c.args.caller c.args.change.now c.in-Ok.ensures.hears c.note_caller.ensures.items c.note_caller.ensures.stays (c.note_caller.ensures.most ∙ ap (max c.args.caller) c.follow.ensures.most)
