-- A connection that no hub serves is answered.
use Rattle.std.specs.Prelude.{◌≡◌, ℕ, false, List, [], ◌∷◌, Result, Ok, Err}
use Rattle.grid_outside.specs.Told.{LinkView}
use Rattle.conn_script.specs.declared.wants.ConnFault.{ConnFault}
use Rattle.conn_script.specs.declared.wants.ConnFault.TheVariants as faults
use Rattle.conn_script.specs.declared.wants.End.{End}
use Rattle.conn_script.specs.declared.wants.End.TheVariants as ends
use Rattle.conn_script.specs.declared.wants.Served.{Served}
use Rattle.grid_teams_shared.specs.Links.{Took, TookFront}

-- a connection without an answered request, that ended so
abbrev pub served_none : End → Served
served_none end = record { frames = 0; end = end; short = false }

-- how it ended where the input ended before a head
abbrev pub cut_end : List ℕ → End
cut_end [] = ends.Closed
cut_end (byte ∷ bytes) = ends.Cut 0

-- The response was written whole, and the connection ends so; or a write failed; or there was no memory, and nothing was done.
abbrev pub Tells : List ℕ → End → LinkView → Result Served ConnFault → LinkView → Type 0
Tells response end old (Ok served) new = (served ≡ served_none end) × Took old response new
Tells response end old (Err faults.Write) new = TookFront old response new
Tells response end old (Err faults.Memory) new = new ≡ old
Tells response end old (Err faults.Read) new = ⊥
