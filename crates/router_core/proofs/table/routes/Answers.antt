use Rattle.router_core.specs.Rows.{rows}
use Rattle.router_core.proofs.Inserts.{inserted_after}
use Rattle.router_core.proofs.table.routes.Goals as goal

pub returns : goal.returns
unfolding rows
returns c =
    let a = inserted_after _ _ _ _ _ _ c.new-router.ensures c.in_ok-insert.ensures in
    let b = inserted_after _ _ _ _ _ _ a c.in_ok-insert-2.ensures in
    let d = inserted_after _ _ _ _ _ _ b c.in_ok-insert-3.ensures in
    let e = inserted_after _ _ _ _ _ _ d c.in_ok-insert-4.ensures in
    let f = inserted_after _ _ _ _ _ _ e c.in_ok-insert-5.ensures in
    let g = inserted_after _ _ _ _ _ _ f c.in_ok-insert-6.ensures in
    let h = inserted_after _ _ _ _ _ _ g c.in_ok-insert-7.ensures in
    let i = inserted_after _ _ _ _ _ _ h c.in_ok-insert-8.ensures in
    record { ok = inserted_after _ _ _ _ _ _ i c.in_ok-insert-9.ensures }
