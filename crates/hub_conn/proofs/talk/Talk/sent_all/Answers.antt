use Rattle.std.proofs.Common.{sym, subst, []}
use Rattle.std.specs.Prelude.{Ok}
use Rattle.hub_conn.specs.declared.talk.Then.{Then}
use Rattle.hub_conn.specs.Talk.{Cause, Settles, SentAll, HoldsNext}
use Rattle.hub_conn.proofs.StateLemmas.{done_settles}
use Rattle.hub_conn.specs.Work.{bytes_left}
use Rattle.hub_conn.proofs.WorkLemmas.{done_leaves, next_leaves}
use Rattle.hub_conn.proofs.talk.Talk.sent_all.Goals as goal

pub returns-in-End-clause-settles : goal.returns-in-End-clause-settles
returns-in-End-clause-settles c =
    let cause = subst (λ (t : Then). HoldsNext c.args.self.now t) c.in-End.is c.requires in
    subst (λ (k : Cause). Settles c.end_so.new.self k []) cause
    (done_settles c.end_so.new.self (Ok (record { frames = c.args.self.now.frames; end = c.in-End.end; short = c.args.self.now.short })) c.end_so.ensures)

pub returns-in-End-clause-all : goal.returns-in-End-clause-all
returns-in-End-clause-all c = subst (λ (t : Then). SentAll c.args.self.now t c.end_so.new.self) (sym c.in-End.is) c.end_so.ensures

pub returns-in-Next-clause-all : goal.returns-in-Next-clause-all
returns-in-Next-clause-all c = subst (λ (t : Then). SentAll c.args.self.now t c.look.new.self) (sym c.in-Next.is) c.look.ensures.looks

pub returns-in-End-clause-less : goal.returns-in-End-clause-less
returns-in-End-clause-less c = done_leaves _ c.end_so.new.self (Ok (record { frames = c.args.self.now.frames; end = c.in-End.end; short = c.args.self.now.short })) c.end_so.ensures

pub returns-in-Next-clause-less : goal.returns-in-Next-clause-less
returns-in-Next-clause-less c = next_leaves c.args.then c.args.self.now.continued (bytes_left c.args.self.now) c.look.new.self c.in-Next.is c.look.ensures.less
