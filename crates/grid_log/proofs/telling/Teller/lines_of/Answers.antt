use Rattle.std.proofs.Common.{ap}
use Rattle.std.specs.Prelude.{codes, option_copied}
use Rattle.std.proofs.lemmas.Result.{IfOk-weaker}
use Rattle.grid_log.specs.declared.telling.TheConstants.{DRAINING, SUSPECT}
use Rattle.grid_log.specs.Events.{change_events}
use Rattle.grid_log.specs.Past.{name_in, queued_in}
use Rattle.grid_log.specs.Recalls.{recalled}
use Rattle.grid_log.proofs.LineLemmas.{node_told, request_told}
use Rattle.grid_log.proofs.telling.Teller.lines_of.Goals as goal

pub returns-in-Suspected : goal.returns-in-Suspected
returns-in-Suspected c =
    let past = c.args.past.now in
    let entry = c.args.entry.now in
    IfOk-weaker c.of_node.result _ _ (λ bytes h.
    node_told c.args.self.now.form (codes "node suspect") SUSPECT.now c.in-Suspected.node c.in-Suspected.at.0 (option_copied c.name_of.result) (name_in (recalled past).nodes c.in-Suspected.node)
    (change_events (recalled past) entry.caller entry.change) bytes.items h c.name_of.ensures
    (ap (change_events (recalled past) entry.caller) c.in-Suspected.is))
    c.of_node.ensures

pub returns-in-Draining : goal.returns-in-Draining
returns-in-Draining c =
    let past = c.args.past.now in
    let entry = c.args.entry.now in
    IfOk-weaker c.of_node-in-Draining.result _ _ (λ bytes h.
    node_told c.args.self.now.form (codes "node draining") DRAINING.now c.in-Draining.node c.in-Draining.at.0 (option_copied c.name_of-in-Draining.result) (name_in (recalled past).nodes c.in-Draining.node)
    (change_events (recalled past) entry.caller entry.change) bytes.items h c.name_of-in-Draining.ensures
    (ap (change_events (recalled past) entry.caller) c.in-Draining.is))
    c.of_node-in-Draining.ensures

pub returns-in-TimedOut : goal.returns-in-TimedOut
returns-in-TimedOut c =
    let past = c.args.past.now in
    let entry = c.args.entry.now in
    IfOk-weaker c.of_request.result _ _ (λ bytes h.
    request_told c.args.self.now.form (codes "request timed out") c.in-TimedOut.request c.in-TimedOut.at.0 (c.queued-in-TimedOut.result) (queued_in (recalled past).unsettled c.in-TimedOut.request)
    (change_events (recalled past) entry.caller entry.change) bytes.items h c.queued-in-TimedOut.ensures
    (ap (change_events (recalled past) entry.caller) c.in-TimedOut.is))
    c.of_request.ensures

pub returns-in-Cleared : goal.returns-in-Cleared
returns-in-Cleared c =
    let past = c.args.past.now in
    let entry = c.args.entry.now in
    IfOk-weaker c.of_request-in-Cleared.result _ _ (λ bytes h.
    request_told c.args.self.now.form (codes "request cleared") c.in-Cleared.request c.in-Cleared.at.0 (c.queued-in-Cleared.result) (queued_in (recalled past).unsettled c.in-Cleared.request)
    (change_events (recalled past) entry.caller entry.change) bytes.items h c.queued-in-Cleared.ensures
    (ap (change_events (recalled past) entry.caller) c.in-Cleared.is))
    c.of_request-in-Cleared.ensures
