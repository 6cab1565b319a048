use Rattle.std.proofs.Common.{rules}
use Rattle.kept_play.proofs.PlayLemmas.{runs_over, served_over, tells_over}
use Rattle.kept_play.proofs.playing.serve_over.Goals as goal

pub returns-clause-served : goal.returns-clause-served
returns-clause-served g c =
    let e = c.serve_kept-ended in
    let s = served_over g.P.Keeper.disk g.P.Keeper.faults c.args.own.now e.result c.args.hub.now e.new.hub c.args.nodes.now e.new.nodes c.new-clock.result e.new.clock _ _ c.end_status.result
    c.served_is_a_talk.ensures.talk c.new-clock.ensures.at c.end_status.ensures e.ensures.served e.ensures.kept e.ensures.went.same_config in
    search (rules, s)

pub returns-clause-runs : goal.returns-clause-runs
returns-clause-runs g c = runs_over g.P.Keeper.disk g.P.Keeper.faults c.serve_kept-ended.result c.args.hub.now c.serve_kept-ended.new.hub c.serve_kept-ended.ensures.kept

pub returns-clause-tells : goal.returns-clause-tells
returns-clause-tells g c =
    let e = c.serve_kept-ended in
    let s = tells_over g.P.Keeper.disk g.P.Keeper.faults c.args.own.now e.result c.args.hub.now e.new.hub c.args.nodes.now e.new.nodes c.new-clock.result e.new.clock _ _ c.end_status.result
    c.served_is_a_talk.ensures.statuses c.end_status.ensures e.ensures.served e.ensures.kept in
    search (rules, s)
