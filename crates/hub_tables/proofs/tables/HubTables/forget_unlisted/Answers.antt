use Rattle.std.proofs.Common.{refl}
use Rattle.hub_tables.proofs.NoteLemmas.{keeps, listed-still, used-still, unlisted}
use Rattle.hub_tables.proofs.tables.HubTables.forget_unlisted.Goals as goal

pub returns-then-is_registered-clause-gone : goal.returns-then-is_registered-clause-gone
returns-then-is_registered-clause-gone c = record { of = λ d H s l u. listed-still H _ _ (c.is_registered.ensures.of d H s.nodes_stand l) c.if-is_registered.true u }

pub returns-then-has_slot_in_use-clause-gone : goal.returns-then-has_slot_in_use-clause-gone
returns-then-has_slot_in_use-clause-gone c = record { of = λ d H s l u. used-still H _ _ (c.has_slot_in_use.ensures.of d H s.slots_stand l) c.if-has_slot_in_use.true u }

pub returns-clause-keeps : goal.returns-clause-keeps
returns-clause-keeps c = keeps _ _ refl refl refl refl refl
    (record {
      nodes = λ d H s l. c.forget.ensures.stands.still d H s.nodes_stand l
          (unlisted H _ _ _ (c.is_registered.ensures.of d H s.nodes_stand l) (c.has_slot_in_use.ensures.of d H s.slots_stand l) c.if-is_registered.false c.if-has_slot_in_use.false);
      slots = λ d H s l. c.forget-2.ensures.stands.still d H s.slots_stand l
          (unlisted H _ _ _ (c.is_registered.ensures.of d H s.nodes_stand l) (c.has_slot_in_use.ensures.of d H s.slots_stand l) c.if-is_registered.false c.if-has_slot_in_use.false);
      requests = λ d H s l. s.requests_stand;
      sessions = λ d H s l. s.sessions_stand;
    })

pub returns-clause-gone : goal.returns-clause-gone
returns-clause-gone c = record { of = λ d H s l u. record { no_node = c.forget.ensures.gone; no_slots = c.forget-2.ensures.gone } }
