use Rattle.std.proofs.Common.{arith, refl, ◌-◌, length-drop}
use Rattle.http_frames.specs.declared.frames.TheConstants.{LIMITS}
use Rattle.hub_conn.proofs.InboxLemmas.{leaves_rest}
use Rattle.hub_conn.proofs.inbox.Inbox.next.Goals as goal

pub returns : goal.returns
returns c = λ bytes f x.
    let old = c.args.self.now in
    leaves_rest (λ limits buf more h parts behind w. c.stays.ensures.whole limits buf more h parts behind w) old
    (record { reader = c.next.new.self; piece = old.piece; fed = old.fed }) bytes f (c.len.result - old.fed) x
    (c.next.ensures LIMITS x.0 x.1.stands) refl refl
    (omega (arith, c.len.ensures, old.piece.ok.0, length-drop old.fed old.piece.items))
