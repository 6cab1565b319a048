use Rattle.std.proofs.Common.{sym, subst}
use Rattle.grid_types.specs.declared.entry.Change.{Change}
use Rattle.grid_ledger.specs.LedgerStands.{Hears}
use Rattle.grid_replay.specs.Replays.{Follows}
use Rattle.grid_replay.proofs.ReplayLemmas.{on-both, on-ok, hears-bound, hears-ended, hears-failed, hears-lapsed}
use Rattle.grid_replay.proofs.replay.Replay.follow.Goals as goal

pub returns-in-Bound-clause-hears : goal.returns-in-Bound-clause-hears
returns-in-Bound-clause-hears c = on-both c.bind.result
    (λ puts leaves. subst (λ (ch : Change). Hears Follows c.args.self.now c.bind.new.self c.args.ledger.now c.args.caller ch) (sym c.in-Bound.is)
    (hears-bound c.history_laws.ensures c.args.self.now c.bind.new.self c.args.ledger.now c.args.caller _ _ _ _ _ puts leaves)) c.bind.ensures.puts c.bind.ensures.leaves

pub returns-in-Failed-clause-hears : goal.returns-in-Failed-clause-hears
returns-in-Failed-clause-hears c = on-ok c.leave.result
    (λ leaves. subst (λ (ch : Change). Hears Follows c.args.self.now c.leave.new.self c.args.ledger.now c.args.caller ch) (sym c.in-Failed.is)
    (hears-failed c.args.self.now c.leave.new.self c.args.ledger.now c.args.caller _ _ _ _ _ _ c.leave.ensures.items leaves)) c.leave.ensures.leaves

pub returns-in-Ended-clause-hears : goal.returns-in-Ended-clause-hears
returns-in-Ended-clause-hears c = on-ok c.remove.result
    (λ ends. subst (λ (ch : Change). Hears Follows c.args.self.now c.remove.new.self c.args.ledger.now c.args.caller ch) (sym c.in-Ended.is)
    (hears-ended c.history_laws.ensures c.args.self.now c.remove.new.self c.args.ledger.now c.args.caller _ _ _ ends c.remove.ensures.stays)) c.remove.ensures.ends

pub returns-in-Lapsed-clause-hears : goal.returns-in-Lapsed-clause-hears
returns-in-Lapsed-clause-hears c = on-ok c.remove_all.result
    (λ adds. subst (λ (ch : Change). Hears Follows c.args.self.now c.remove_all.new.self c.args.ledger.now c.args.caller ch) (sym c.in-Lapsed.is)
    (hears-lapsed c.history_laws.ensures c.args.self.now c.remove_all.new.self c.args.ledger.now c.uses.result.now c.args.caller _ _ c.uses.ensures adds c.remove_all.ensures.stays)) c.remove_all.ensures.adds
