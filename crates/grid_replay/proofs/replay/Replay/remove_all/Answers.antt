use Rattle.grid_replay.proofs.ReplayLemmas.{on-ok, removes-all}
use Rattle.grid_replay.proofs.replay.Replay.remove_all.Goals as goal

pub returns-clause-adds : goal.returns-clause-adds
returns-clause-adds c = on-ok c.push_removals.result (λ added. removes-all c.args.self.now (record { items = c.push_removals.new.items; stays = c.args.self.now.stays; most_caller = c.args.self.now.most_caller }) c.args.uses.now added) c.push_removals.ensures
