use Rattle.std.proofs.Common.{◌∙◌, ◌+◌, ℕ, List, drop, refl, ap, subst, arith, length-drop}
use Rattle.http_frames.specs.Feeding.{Feeds}
use Rattle.hub_conn.specs.declared.inbox.Inbox.{Inbox}
use Rattle.hub_conn.specs.Inbox.{Holds, unread}
use Rattle.hub_conn.proofs.InboxLemmas.{reads_further}
use Rattle.hub_conn.proofs.inbox.Inbox.fill.Goals as goal

pub loop-self-preserved : goal.loop-self-preserved
loop-self-preserved c =
    let old = c.loop-self.self in
    let n = c.in_ok-n.n in
    let new : Inbox = record { reader = c.feed.new.self; piece = old.piece; fed = old.fed + n } in
    let fed : Feeds old.reader (unread old) n new.reader =
    subst (λ (p : List ℕ). Feeds old.reader p n new.reader) (c.behind-rest.ensures ∙ ap (λ (p : List ℕ). drop old.fed p) c.as_slice.ensures.value) c.in_ok-n.ensures.fed in
    let step : (bytes : List ℕ) → Holds old bytes → Holds new bytes = λ bytes h. reads_further old new bytes n h fed refl refl in
    let inv = c.loop-self.invariant in (
      (inv.0.0, step inv.0.0 inv.0.1),
      (λ bytes h. step bytes (inv.1 bytes h)),
      omega (arith, inv.2, length-drop old.fed old.piece.items, length-drop (old.fed + n) old.piece.items),
    )
