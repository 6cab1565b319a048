use Rattle.std.proofs.Common.{refl}
use Rattle.hub_tables.proofs.NoteLemmas.{keeps}
use Rattle.hub_tables.proofs.tables.HubTables.note_signs.Goals as goal

pub returns-clause-kept : goal.returns-clause-kept
returns-clause-kept c = keeps _ _ refl refl refl refl refl (record { nodes = λ d H s l. c.note_quiet.ensures.kept.still H s.nodes_stand; slots = λ d H s l. s.slots_stand; requests = λ d H s l. s.requests_stand; sessions = λ d H s l. s.sessions_stand })
