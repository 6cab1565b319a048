use Rattle.std.proofs.Common.{rules, [], refl, arith}
use Rattle.hub_cell.proofs.hub.SharedHub.new.Goals as goal

pub begin-requires-clause-start : goal.begin-requires-clause-start
begin-requires-clause-start g c = record {
  start = [];
  core_stands = search rules;
  map_stands = record { shows = search rules; none_pending = search rules };
  holds = tt;
  goes = record { low = omega arith; own = refl; later = λ n h. refl };
}
