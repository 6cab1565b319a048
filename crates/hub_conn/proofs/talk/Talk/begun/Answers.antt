use Rattle.std.proofs.Common.{sym, subst, List}
use Rattle.node_client.specs.Held.{Token}
use Rattle.conn_script.specs.Routing.{FirstTurn}
use Rattle.hub_conn.specs.declared.inbox.Inbox.{Inbox}
use Rattle.hub_conn.specs.Inbox.{HoldsWhole, HoldsSomeWhole}
use Rattle.hub_conn.specs.Talk.{Settles, of_nothing}
use Rattle.hub_conn.proofs.FeedLemmas.{beginning_some, feeds_begun, answerable_kept}
use Rattle.hub_conn.proofs.talk.Talk.begun.Goals as goal

pub first-turn-requires : goal.first-turn-requires
first-turn-requires c =
    let x = beginning_some c.args.self.now c.requires.beginning c.requires.stands in
    subst (λ (i : Inbox). HoldsSomeWhole i) (sym c.keep_router.ensures.rests.same.inbox) (x.0, x.1, x.2)

pub turn-requires-clause-front : goal.turn-requires-clause-front
turn-requires-clause-front c =
    answerable_kept c.args.self.now c.keep_router.new.self c.keep_router.ensures.rests
    (beginning_some c.args.self.now c.requires.beginning c.requires.stands)

pub turn-requires-clause-fresh : goal.turn-requires-clause-fresh
turn-requires-clause-fresh c = c.first-turn.ensures.ready.fresh

pub returns : goal.returns
returns c =
    let kept = c.keep_router.new.self in
    let rests = c.keep_router.ensures.rests in
    feeds_begun c.args.self.now kept c.turn.new.self c.first-turn.result c.requires.beginning rests
    (subst (λ (ts : List Token). Settles c.turn.new.self of_nothing ts) c.first-turn.ensures.ready.holds c.turn.ensures.settles) c.turn.ensures.goes
    (λ rest f x. subst (λ closes. FirstTurn f c.first-turn.result closes) rests.closing
    (c.first-turn.ensures.turns rest f (subst (λ (i : Inbox). HoldsWhole i rest f) (sym rests.same.inbox) x)))
    (λ o. c.first_turns_are_within.ensures c.first-turn.result c.first-turn.ensures.ready o) c.turn.ensures.less
