use Rattle.std.proofs.Common.{◌≡◌, ◌<◌, ◌≤◌, true, length, nat_eq, ap, ◌∙◌, arith, List}
use Rattle.grid_types.specs.declared.capabilities.SlotGroup.{SlotGroup}
use Rattle.grid_types.specs.Nodes.{stereotypes}
use Rattle.hub_walks.proofs.RowLemmas.{sizes-agree}
use Rattle.hub_walks.proofs.best.with_slots.Goals as goal
use Rattle.hub_walks.proofs.best.with_slots.Goals.{then-free-gt65536-via-then-free-gt65536, then-free-gt65536-via-else-free-gt65536+then-not-has_slots}

pub returns-then-free-gt65536-clause-answer : goal.returns-then-free-gt65536-clause-answer
returns-then-free-gt65536-clause-answer g c =
    let proved = c.walk_laws.ensures in
    elim c.then-free-gt65536.branch [
      | then-free-gt65536-via-then-free-gt65536 w ↦ record {
        of = λ d H st l on own.
            let sizes = sizes-agree proved d H c.args.facts.node c.args.registration.now c.free_at-free.result.now l own (c.free_at-free.ensures.of d H st l on) in
            let few : length c.free_at-free.result.now ≤ 64 = sizes.0 in
            let many : 65536 < length c.free_at-free.result.now = w.if-free-gt65536.true in
            absurd (omega arith);
      }
      | then-free-gt65536-via-else-free-gt65536+then-not-has_slots w ↦ record {
        of = λ d H st l on own.
            let sizes = sizes-agree proved d H c.args.facts.node c.args.registration.now c.free_at-free.result.now l own (c.free_at-free.ensures.of d H st l on) in
            let whole : w.has_slots.result ≡ true = w.has_slots.ensures ∙ ap (λ (gs : List SlotGroup). nat_eq (length (stereotypes gs)) (length c.free_at-free.result.now)) c.items-groups.ensures ∙ sizes.1 in
            let no = w.if-not-has_slots.true in
            absurd (cc);
      }
    ]
