-- What holds of a connection at some of its wants, for drivers that have to come to an end.
use Rattle.std.specs.Prelude.{◌≡◌, ℕ, ◌+◌, ◌≤◌, true, List, [], length, Option}
use Rattle.grid_types.specs.declared.capabilities.Cap.{Cap}
use Rattle.grid_types.specs.Calls.{Call}
use Rattle.node_client.specs.Steps.{Step}
use Rattle.conn_script.specs.NewSession.{poll_pause}
use Rattle.conn_script.specs.Pauses.{ends_early}
use Rattle.conn_script.specs.Wanted.{to_read, to_call, to_pause}
use Rattle.conn_script.specs.declared.wants.TheConstants.{LIMIT}
use Rattle.hub_conn.specs.declared.talk.Talk.{Talk}
use Rattle.hub_conn.specs.Talk.{Stands, tokens}

-- A pause is wanted between two polls or withdrawals of a request, right behind one that was told to wait or a poll that found no
-- memory. A request is queued while no token is held. What is read stays within the limit of a connection.
pub record WantLaws : Type 0 where
  pub pauses : (talk : Talk) (own : Option (List ℕ)) (ms : ℕ) (bytes : List ℕ) (steps : List Step) (written : List ℕ) →
      Stands talk own (to_pause ms) bytes steps written → (ms ≡ poll_pause) × (ends_early steps ≡ true)
  pub enqueues : (talk : Talk) (own : Option (List ℕ)) (choices : List (List Cap)) (bytes : List ℕ) (steps : List Step) (written : List ℕ) →
      Stands talk own (to_call (Call.enqueue choices)) bytes steps written → tokens talk ≡ []
  pub reads : (talk : Talk) (own : Option (List ℕ)) (most : ℕ) (bytes : List ℕ) (steps : List Step) (written : List ℕ) →
      Stands talk own (to_read most) bytes steps written → length bytes + most ≤ LIMIT
