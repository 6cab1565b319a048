use Rattle.std.proofs.Common.{refl}
use Rattle.hub_tables.proofs.NoteLemmas.{keeps}
use Rattle.hub_tables.proofs.tables.HubTables.ready.Goals as goal

pub returns-clause-keeps : goal.returns-clause-keeps
returns-clause-keeps c = keeps _ _ refl refl refl refl refl
    (record { nodes = λ d H s l. s.nodes_stand; slots = λ d H s l. s.slots_stand; requests = λ d H s l. s.requests_stand; sessions = λ d H s l. c.ready.ensures.keeps.still H s.sessions_stand })
