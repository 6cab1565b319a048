use Rattle.std.proofs.Common.{is_ok, subst, sym}
use Rattle.hub_cell.specs.Passes.{IsOf}
use Rattle.hub_server.proofs.CrowdLemmas.{all_pushed}
use Rattle.hub_server.proofs.crowd.Crowd.leave.Goals as goal

pub returns-in-Some : goal.returns-in-Some
returns-in-Some g c = λ hub crowd.
    let taken = c.in-Some.ensures.seated hub c.args.self.now.clock crowd.seated in
    c.leave_free.ensures hub (record {
      seated = taken.0;
      root = crowd.root;
      reader = crowd.reader;
      passes = all_pushed (IsOf hub) (is_ok c.push.result) c.args.self.now.passes.items c.into_pass.result
          c.push.new.self.items c.push.ensures.items crowd.passes
          (subst (IsOf hub) (sym c.into_pass.ensures) taken.1.own);
    })
