use Rattle.std.specs.Prelude.{Result, Ok, Err, OnOk}
use Rattle.hub_core.proofs.LapsingLemmas.{on-node}
use Rattle.hub_core.proofs.hub.HubCore.push_sessions.Goals as goal

on-ok : {U E : Type 0} {P Q : Type 0} (r : Result U E) → (P → Q) → OnOk r P → OnOk r Q
on-ok (Ok u) f h = f h
on-ok (Err e) f h = tt

pub returns : goal.returns
returns c = on-ok c.push_busy.result
    (λ e. on-node c.args.self.now c.args.node c.uses.result.now c.args.sessions.now c.push_busy.new.sessions (λ H s r. c.uses.ensures.of c.args.self.now.config H s.tables_stand s.is_legal r) e) c.push_busy.ensures
