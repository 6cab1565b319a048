use Rattle.std.proofs.Common.{refl, ◌∙◌, ap, arith}
use Rattle.node_client.specs.Asks.{session_path}
use Rattle.node_client.specs.Places.{at_quit, at_free}
use Rattle.node_client.specs.Carrying.{by_quit, at_once}
use Rattle.node_client.proofs.carry.Carry.close.Goals as goal

pub returns-then-quit : goal.returns-then-quit
returns-then-quit c = record {
  to = at_quit c.args.closing;
  closes = by_quit (grind arith);
  is_in = λ r. (refl, c.of-path.ensures ∙ ap session_path c.session.ensures);
  fresh = refl;
  less = omega arith;
  tokens = refl;
  short_is = refl;
}

pub returns-else-quit : goal.returns-else-quit
returns-else-quit c = record {
  to = at_free c.args.closing;
  closes = at_once (grind arith);
  is_in = λ r. refl;
  fresh = refl;
  less = omega arith;
  tokens = refl;
  short_is = refl;
}
