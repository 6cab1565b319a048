use Rattle.std.proofs.Common.{◌∙◌, arith, sym}
use Rattle.conn_script.specs.declared.wants.Answer.TheVariants as told
use Rattle.hub_conn.specs.declared.talk.State.TheVariants as states
use Rattle.hub_conn.proofs.AwaitLemmas.{awaits_at, writing_only}
use Rattle.hub_conn.proofs.FeedLemmas.{continuing_some, writing_some, holds_kept, next_kept, written_within, feeds_sent, feeds_continued}
use Rattle.hub_conn.proofs.talk.Talk.wrote.Goals as goal

pub continued_by-requires-clause-holds : goal.continued_by-requires-clause-holds
continued_by-requires-clause-holds c =
    holds_kept c.args.self.now c.take_state.new.self c.take_state.ensures.rests
    (continuing_some c.args.self.now c.in-Continuing.sent (sym c.take_state.ensures.taken ∙ c.in-Continuing.is) c.requires.stands).0

pub continued_by-requires-clause-within : goal.continued_by-requires-clause-within
continued_by-requires-clause-within c =
    let is = sym c.take_state.ensures.taken ∙ c.in-Continuing.is in
    omega (
      arith,
      awaits_at c.args.self.now (states.Continuing c.in-Continuing.sent) (told.Wrote c.args.count) is c.requires.awaits,
      (continuing_some c.args.self.now c.in-Continuing.sent is c.requires.stands).1,
    )

pub sent_by-requires-clause-holds : goal.sent_by-requires-clause-holds
sent_by-requires-clause-holds c =
    next_kept c.args.self.now c.take_state.new.self c.in-Writing.out.then c.take_state.ensures.rests
    (writing_some c.args.self.now c.in-Writing.out (sym c.take_state.ensures.taken ∙ c.in-Writing.is) c.requires.stands).0

pub sent_by-requires-clause-within : goal.sent_by-requires-clause-within
sent_by-requires-clause-within c =
    let is = sym c.take_state.ensures.taken ∙ c.in-Writing.is in
    omega (
      arith,
      (written_within c.args.self.now c.in-Writing.out c.args.count is c.requires.awaits).1,
      (writing_some c.args.self.now c.in-Writing.out is c.requires.stands).1,
    )

pub unreachable-requires : goal.unreachable-requires
unreachable-requires c =
    writing_only c.args.self.now c.args.count c.requires.awaits (λ sent e. c.in_default.not-Continuing sent (c.take_state.ensures.taken ∙ e))
    (λ out e. c.in_default.not-Writing out (c.take_state.ensures.taken ∙ e))

pub returns-in-Continuing : goal.returns-in-Continuing
returns-in-Continuing c =
    feeds_continued c.args.self.now c.take_state.new.self c.continued_by.new.self c.in-Continuing.sent c.args.count (sym c.take_state.ensures.taken ∙ c.in-Continuing.is)
    c.take_state.ensures.rests c.continued_by.ensures.settles c.continued_by.ensures.goes c.continued_by.ensures.less

pub returns-in-Writing : goal.returns-in-Writing
returns-in-Writing c =
    feeds_sent c.args.self.now c.take_state.new.self c.sent_by.new.self c.in-Writing.out c.args.count (sym c.take_state.ensures.taken ∙ c.in-Writing.is)
    (written_within c.args.self.now c.in-Writing.out c.args.count (sym c.take_state.ensures.taken ∙ c.in-Writing.is) c.requires.awaits).0
    c.take_state.ensures.rests c.sent_by.ensures.settles c.sent_by.ensures.goes c.sent_by.ensures.less c.sent_by.ensures.stays
