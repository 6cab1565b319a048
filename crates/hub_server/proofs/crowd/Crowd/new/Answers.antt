use Rattle.std.proofs.Common.{All, subst, sym}
use Rattle.std.proofs.lemmas.List.Elements.{All-nil}
use Rattle.hub_cell.specs.Passes.{IsOf}
use Rattle.hub_server.proofs.crowd.Crowd.new.Goals as goal

pub returns : goal.returns
returns g c = λ hub root reader. record {
  seated = c.in_ok-places.ensures.seated hub c.args.clock;
  root = root;
  reader = reader;
  passes = subst (All (IsOf hub)) (sym c.in_ok-passes.ensures.items) (All-nil (IsOf hub));
}
