use Rattle.std.proofs.Common.{is_ok}
use Rattle.hub_cell.specs.Passes.{IsOf}
use Rattle.hub_server.proofs.CrowdLemmas.{all_pushed}
use Rattle.hub_server.proofs.passes.keep_pass.Goals as goal

pub returns : goal.returns
returns c =
    all_pushed (IsOf c.args.hub.now) (is_ok c.push.result) c.args.passes.now.items c.args.pass c.push.new.self.items
    c.push.ensures.items c.requires.all c.requires.own
