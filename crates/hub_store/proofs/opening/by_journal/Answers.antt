use Rattle.std.proofs.Common.{arith, refl}
use Rattle.hub_store.proofs.OpenLemmas.{valid_behind}
use Rattle.hub_store.proofs.opening.by_journal.Goals as goal

pub begin_behind-requires-clause-valid : goal.begin_behind-requires-clause-valid
begin_behind-requires-clause-valid g c =
    let found = c.requires.found in
    valid_behind c.args.told _ (record { timeout = refl; idle = refl; lapse = refl; down = refl; queue = refl; rejects = refl })
    (omega (arith, c.next_node.ensures.of found.history found.stands_for.stands, found.left.journal.is_valid.first_node))
    (omega (arith, c.next_request.ensures.of found.history found.stands_for.stands, found.left.journal.is_valid.first_request)) c.requires.valid
