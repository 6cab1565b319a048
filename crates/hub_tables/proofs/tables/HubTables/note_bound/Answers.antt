use Rattle.std.proofs.Common.{refl}
use Rattle.hub_tables.proofs.NoteLemmas.{any-err, given, noted-given, keeps}
use Rattle.hub_tables.proofs.tables.HubTables.note_bound.Goals as goal

pub returns-in_err-bound-clause-refused : goal.returns-in_err-bound-clause-refused
returns-in_err-bound-clause-refused c = any-err _ (keeps _ _ refl refl refl refl refl
    (record { nodes = λ d H s l. s.nodes_stand; slots = λ d H s l. s.slots_stand; requests = λ d H s l. s.requests_stand; sessions = λ d H s l. c.in_err-bound.ensures.refused.still H s.sessions_stand }))

pub returns-clause-noted : goal.returns-clause-noted
returns-clause-noted c = noted-given c.table_laws.ensures _ _ _ _ _
    (record { nodes = given (c.bound-3.ensures _); slots = given c.bound-2.ensures.stands; requests = c.bound-4.ensures.stands _; sessions = c.in_ok-bound.ensures.stands _ })
    (record { nodes = λ d H e l. e; requests = λ d H e l. e; clock = c.not_before-self.ensures; below = λ d H s l. refl; from = refl })
