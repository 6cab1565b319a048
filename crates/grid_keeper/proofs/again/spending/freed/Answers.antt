use Rattle.std.proofs.Common.{refl, ap, subst, length, Some, ◌<◌}
use Rattle.std.specs.Ordering.{nat_cmp}
use Rattle.std.specs.BTreeMap.{get}
use Rattle.grid_types.specs.Calls.{Call, Reply}
use Rattle.hub_core.specs.HubView.{past}
use Rattle.grid_journal.specs.declared.rows.Row.TheVariants as row
use Rattle.grid_keeper.specs.Holds.{place_of, open_after, HoldsAll}
use Rattle.grid_keeper.proofs.HoldsLemmas.{served, absent, may-free}
use Rattle.grid_keeper.proofs.ThereLemmas.{all_there, freed-given, freed_spared}
use Rattle.grid_keeper.proofs.AgainLemmas.{went_always, freed-grows, slot_there, stuck, no_freed}
use Rattle.grid_keeper.proofs.again.spending.freed.Goals as goal

pub returns : goal.returns
returns c =
    let old = c.args.hub.now in
    let new = c.freed.new.self in
    let closing = c.in-Some.closing in
    let good = c.in-Some.ensures.good _ c.requires.holds.holds in
    let left = c.take_closing.new.self in
    let held = c.in-Some.ensures.stays _ c.requires.holds.holds in
    let gone = absent (get nat_cmp left.closings) (place_of closing.slot) (place_of c.args.slot) good.0 c.in-Some.ensures.gone in
    let serves = c.freed.ensures 0 in
    let same = slot_there closing.slot c.args.slot (subst (λ n. n < 65_536) c.index_of-index.ensures c.index_of-index.type_inv) c.requires.fits.1 good.0 in
    let spares = freed_spared (past old) left closing c.args.slot same (c.in-Some.ensures.others (open_after (past old)) c.requires.holds.complete) in
    let there = all_there c.tokens_come_from_replies.ensures old.config (past old) (past new) (Call.freed closing) 0 (Some Reply.is_freed) left
    c.journal-before.ensures.legal serves.serves.answers refl spares (freed-given left) in
    let all : HoldsAll (past new) left = record { holds = served _ _ _ _ _ _ left serves.serves gone held; complete = there } in
    went_always old new left (row.Freed c.args.slot) (Call.freed closing) (Some Reply.is_freed) _ _ (ap length c.journal-before.ensures.journal) (ap length c.journal.ensures.journal) c.requires.fits (closing, same, refl)
    (freed-grows old.config (past old) closing 0) (may-free _ _ closing good) refl serves all

pub returns-in_default : goal.returns-in_default
returns-in_default c = stuck c.args.hub.now c.take_closing.new.self (row.Freed c.args.slot) (no_freed _ (past c.args.hub.now) c.args.left.now c.args.slot c.requires.holds.complete (c.in_default.ensures.none refl))
