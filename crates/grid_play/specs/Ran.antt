-- What each status of `run` means.
use Rattle.std.specs.Prelude.{◌≡◌, ◌≢◌, ◌⊎◌, ℕ, ◌<◌, ◌^◌, Bool, true, false, List, Result, Ok, Err, IfOk}
use Rattle.grid_types.specs.declared.config.HubConfig.{HubConfig}
use Rattle.grid_outside.specs.Counts.{Rose}
use Rattle.grid_outside.specs.Told.{LinkView, SinkView}
use Rattle.node_client.specs.Steps.{Step}
use Rattle.conn_script.specs.declared.wants.ConnFault.{ConnFault}
use Rattle.conn_script.specs.declared.wants.ConnFault.TheVariants as faults
use Rattle.conn_script.specs.declared.wants.End.{End}
use Rattle.conn_script.specs.declared.wants.End.TheVariants as ends
use Rattle.conn_script.specs.declared.wants.Served.{Served}
use Rattle.hub_links.specs.Links.{Moved, RoseFor}
use Rattle.hub_conn.specs.Talk.{result_cause}
use Rattle.grid_simulate.specs.Writing.{WroteAll, BrokeOff}
use Rattle.play_words.specs.declared.play.PlayNode.{PlayNode}
use Rattle.play_words.specs.Words.{Plays, IsSimulate}
use Rattle.grid_play.specs.Played.{Played}

-- ---- the words

abbrev pub FitPlay : List (List ℕ) → Type 0
FitPlay words = (config : HubConfig) × (nodes : List PlayNode) × Plays words config nodes

abbrev pub FitSimulate : List (List ℕ) → Type 0
FitSimulate words = (number : ℕ) × (number < 2 ^ 64) × IsSimulate words number

-- the words fit
abbrev pub Fit : List (List ℕ) → Type 0
Fit words = FitPlay words ⊎ FitSimulate words

-- ---- a play

-- the limit, then want of memory that the connection went on after
abbrev pub end_status : End → Bool → ℕ
end_status ends.Limit short = 6
end_status ends.Closed true = 5
end_status ends.Closed false = 0
end_status ends.Asked true = 5
end_status ends.Asked false = 0
end_status (ends.Refused why at) true = 5
end_status (ends.Refused why at) false = 0
end_status (ends.Cut at) true = 5
end_status (ends.Cut at) false = 0
end_status ends.HubSpent true = 5
end_status ends.HubSpent false = 0

abbrev pub status_of : Result Served ConnFault → ℕ
status_of (Ok served) = end_status served.end served.short
status_of (Err faults.Read) = 3
status_of (Err faults.Write) = 4
status_of (Err faults.Memory) = 5

-- the hub was never spent
abbrev pub IsUnspent : Result Served ConnFault → Type 0
IsUnspent ended = IfOk ended (λ served. served.end ≢ ends.HubSpent)

-- The connection was served and ended so: bytes were read, steps made and bytes written in this call that are a conversation, and what
-- its end blames has happened. Where it blames nothing outside, as out of memory, the end of input was not read.
pub record ServedSo (c : HubConfig) (nodes : List PlayNode) (ended : Result Served ConnFault) (old new : LinkView) : Type 0 where
  pub bytes : List ℕ
  pub steps : List Step
  pub written : List ℕ
  pub played : Played c nodes ended bytes steps written
  pub moved : Moved old bytes written new
  pub blames : RoseFor (result_cause ended) old new
  pub unspent : IsUnspent ended

-- a connection was served, and its end tells the status
pub record RanTo (c : HubConfig) (nodes : List PlayNode) (status : ℕ) (old new : LinkView) : Type 0 where
  pub ended : Result Served ConnFault
  pub served : ServedSo c nodes ended old new
  pub status_is : status ≡ status_of ended

-- or there was no memory for hub and nodes, and nothing was read or written
abbrev pub Ran : HubConfig → List PlayNode → ℕ → LinkView → LinkView → Type 0
Ran c nodes status old new = RanTo c nodes status old new ⊎ ((status ≡ 5) × (new ≡ old))

-- ---- a simulation

-- 0, the whole summary was written; 4, a write failed behind a front of it; 5, there was no memory, and nothing was written
pub record Summed (number status : ℕ) (old new : SinkView) : Type 0 where
  pub statuses : (status ≡ 0) ⊎ ((status ≡ 4) ⊎ (status ≡ 5))
  pub whole : status ≡ 0 → WroteAll number old.taken new.taken
  pub broken : status ≡ 4 → BrokeOff number old.taken new.taken × Rose old.faults new.faults
  pub nothing : status ≡ 5 → new.taken ≡ old.taken
