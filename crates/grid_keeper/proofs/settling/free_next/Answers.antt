use Rattle.std.proofs.Common.{◌≡◌, sym, subst, Some, None}
use Rattle.grid_types.specs.declared.entry.FailWhy.TheVariants as why
use Rattle.std.specs.Ordering.{nat_cmp}
use Rattle.std.specs.BTreeMap.{get}
use Rattle.hub_core.specs.HubView.{past}
use Rattle.grid_keeper.proofs.AlongLemmas.{along_same}
use Rattle.grid_keeper.proofs.SettleLemmas.{freed_step}
use Rattle.grid_keeper.proofs.settling.free_next.Goals as goal

pub returns-in_default-clause-went : goal.returns-in_default-clause-went
returns-in_default-clause-went g c = along_same g.K.Keeper.disk c.args.hub.now c.requires.ready.open_now

pub returns-clause-step : goal.returns-clause-step
returns-clause-step g c =
    let lost = c.in-Some.ensures.pops (past c.args.hub.now.hub) c.requires.ready.all.holds in (
      freed_step g.K.Keeper.disk c.tokens_come_from_replies.ensures c.args.hub.now c.finish.new.hub c.args.left.now c.pop_closing.new.self c.in-Some.closing c.requires.ready c.journal-legal.ensures.legal lost c.in_ok-finish.ensures.freed,
      λ r. subst (λ m. get nat_cmp m r ≡ None) (sym c.in-Some.ensures.reservations) (c.requires.none r),
    )
