use Rattle.std.proofs.Common.{sym}
use Rattle.http_frames.specs.declared.frames.TheConstants.{LIMITS}
use Rattle.hub_conn.proofs.InboxLemmas.{sees_whole, sees_refused}
use Rattle.hub_conn.proofs.inbox.Inbox.see.Goals as goal

pub returns-in-Whole : goal.returns-in-Whole
returns-in-Whole c = λ filled bytes holds.
    sees_whole c.args.self.now c.in-Whole.frame bytes holds c.in-Whole.ensures.told
    (sym (c.in-Whole.ensures.whole (LIMITS, holds.0, holds.1.stands)))

pub returns-in-Refused : goal.returns-in-Refused
returns-in-Refused c = λ filled bytes holds.
    sees_refused c.args.self.now c.in-Refused.why bytes holds c.in-Refused.ensures.told
    (λ limits buf more w x. c.stays.ensures.refused limits buf more w x) (λ limits buf w some x. c.one_head.ensures.fault limits buf w some x)
