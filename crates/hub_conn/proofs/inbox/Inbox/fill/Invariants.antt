use Rattle.std.proofs.Common.{◌-◌, ◌≤◌, ℕ, List, length}
use Rattle.hub_conn.specs.Inbox.{Holds, HoldsSome, unread}
use Rattle.hub_conn.proofs.inbox.Inbox.fill.Given as goal

abbrev pub invariant-loop-self : goal.invariant-loop-self
invariant-loop-self l =
    HoldsSome l.self × ((bytes : List ℕ) → Holds l.fn.self bytes → Holds l.self bytes) × (length (unread l.self) ≤ length (unread l.fn.self))

abbrev pub decreases-loop-self : goal.decreases-loop-self
decreases-loop-self l = length l.self.piece.items - l.self.fed
