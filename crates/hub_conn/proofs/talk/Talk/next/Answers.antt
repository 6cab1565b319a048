use Rattle.std.proofs.Common.{arith}
use Rattle.hub_conn.proofs.TalkLemmas.{hands_read, hands_continue, hands_write, hands_begin, hands_run, hands_own, hands_done}
use Rattle.hub_conn.proofs.FeedLemmas.{running_some, continuing_some, writing_some}
use Rattle.hub_conn.proofs.talk.Talk.next.Goals as goal

pub whole-requires : goal.whole-requires
whole-requires c = let x = running_some c.args.self.now c.in-Running.run' c.in-Running.is c.requires.stands in (x.0, x.1, x.2)

pub continue_from-requires : goal.continue_from-requires
continue_from-requires c = omega (arith, (continuing_some c.args.self.now c.in-Continuing.sent c.in-Continuing.is c.requires.stands).1)

pub returns-in-Reading : goal.returns-in-Reading
returns-in-Reading c =
    hands_read (λ limits buf h parts behind x. c.stays.ensures.some limits buf h parts behind x) (λ limits h x. c.one_head.ensures.none limits h x)
    c.args.self.now c.min.result c.in-Reading.is c.min.ensures

pub returns-in-Continuing : goal.returns-in-Continuing
returns-in-Continuing c =
    hands_continue c.args.self.now c.in-Continuing.sent c.continue_from.result c.in-Continuing.is c.continue_from.ensures
    (continuing_some c.args.self.now c.in-Continuing.sent c.in-Continuing.is c.requires.stands).1

pub returns-in-None : goal.returns-in-None
returns-in-None c =
    hands_run c.args.self.now c.in-Running.run' c.wanted.result c.in-Running.is c.whole.result c.wanted.ensures (λ rest f x. c.whole.ensures rest f x)

pub returns-in-Some : goal.returns-in-Some
returns-in-Some c = hands_own c.args.self.now c.in-Running.run' c.in-Some.want c.in-Running.is c.in-Some.ensures

pub returns-in-Beginning : goal.returns-in-Beginning
returns-in-Beginning c = hands_begin (λ limits buf h parts behind x. c.stays.ensures.some limits buf h parts behind x) c.args.self.now c.in-Beginning.is

pub returns-in-Done : goal.returns-in-Done
returns-in-Done c = hands_done c.args.self.now c.in-Done.result c.in-Done.is

pub piece-requires : goal.piece-requires
piece-requires c = omega (arith, (writing_some c.args.self.now c.in-Writing.out c.in-Writing.is c.requires.stands).1)

pub returns-in-Writing : goal.returns-in-Writing
returns-in-Writing c = hands_write c.args.self.now c.in-Writing.out c.piece.result c.in-Writing.is c.piece.ensures
