use Rattle.std.proofs.Common.{◌≡◌, true, sym, subst}
use Rattle.conn_script.specs.declared.turn.Run.{Run}
use Rattle.conn_script.specs.Moving.{AsksForItself, run_is_fresh}
use Rattle.conn_script.specs.declared.wants.Want.TheVariants as wants
use Rattle.conn_script.proofs.WantLemmas.{call_asks}
use Rattle.conn_script.proofs.turn.Run.own_want.Goals as goal

pub returns-in-Calling : goal.returns-in-Calling
returns-in-Calling c = subst (λ (r : Run). AsksForItself r wants.Hub) (sym c.in-Calling.is)
    (call_asks c.in-Calling.field-0 (subst (λ (r : Run). run_is_fresh r ≡ true) c.in-Calling.is c.requires))
