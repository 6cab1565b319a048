use Rattle.std.proofs.Common.{◌≡◌, true, sym, subst}
use Rattle.conn_script.specs.declared.turn.Run.{Run}
use Rattle.conn_script.specs.Moving.{AsksForItself, run_is_fresh}
use Rattle.conn_script.specs.declared.wants.Want.TheVariants as wants
use Rattle.conn_script.proofs.WantLemmas.{call_asks, for_any}
use Rattle.conn_script.proofs.turn.Run.wanted.Goals as goal

pub returns-in-Calling : goal.returns-in-Calling
returns-in-Calling c = for_any c.args.self.now c.args.whole wants.Hub
    (subst (λ (r : Run). AsksForItself r wants.Hub) (sym c.in-Calling.is)
    (call_asks c.in-Calling.field-0 (subst (λ (r : Run). run_is_fresh r ≡ true) c.in-Calling.is c.requires)))

pub returns-in-Deleting : goal.returns-in-Deleting
returns-in-Deleting c = for_any c.args.self.now c.args.whole c.delete_wanted.result
    (subst (λ (r : Run). AsksForItself r c.delete_wanted.result) (sym c.in-Deleting.is) c.delete_wanted.ensures)

pub returns-in-Creating : goal.returns-in-Creating
returns-in-Creating c = for_any c.args.self.now c.args.whole c.create_wanted.result
    (subst (λ (r : Run). AsksForItself r c.create_wanted.result) (sym c.in-Creating.is) c.create_wanted.ensures)
