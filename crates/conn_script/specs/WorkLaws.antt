-- What holds of the work of scripts.
use Rattle.std.specs.Prelude.{◌≤◌, []}
use Rattle.conn_script.specs.declared.turn.Turn.{Turn}
use Rattle.conn_script.specs.Moving.{IsReady}
use Rattle.conn_script.specs.Work.{Outlook, turn_work, queue_work}

-- a script that holds no token and may be asked what it wants has no more to do than one whose request is not queued yet
abbrev pub FirstIsWithin : Type 0
FirstIsWithin = (t : Turn) → IsReady t [] → (o : Outlook) → turn_work t o ≤ queue_work
