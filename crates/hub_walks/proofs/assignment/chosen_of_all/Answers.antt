use Rattle.std.proofs.Common.{◌≤◌, ◌+◌, ◌*◌, ℕ, List, subst, arith}
use Rattle.std.specs.Prelude.{Option, None}
use Rattle.hub_walks.specs.First.{IsWalked, IsNext, choices_passed, groups_up}
use Rattle.hub_walks.proofs.KindLemmas.{cost-passed}
use Rattle.grid_types.specs.History.{nodes}
use Rattle.grid_types.specs.declared.entry.Entry.{Entry}
use Rattle.hub_walks.proofs.WaitingLemmas.{next-from}
use Rattle.hub_walks.proofs.ChosenLemmas.{walk-begins, walk-goes-on, chosen-is, chosen-nothing}
use Rattle.hub_walks.proofs.assignment.chosen_of_all.Goals as goal

-- a walk has come to this request with so many steps
abbrev At : List Entry → ℕ → ℕ → ℕ → Option ℕ → Type 0
At H m s t next = IsNext H next × (t ≤ s + choices_passed H m next * groups_up H (nodes H))

pub loop-next-init : goal.loop-next-init
loop-next-init g c =
    let proved = c.walk_laws.ensures in (
      record { of = λ d H st l below. walk-begins H c.args.at.0 c.args.first _ below (next-from proved d H c.args.first _ l (c.next_waiting-next.ensures.of d H st.requests_stand l)) },
      record {
        of = λ d H st l. ((next-from proved d H c.args.first _ l (c.next_waiting-next.ensures.of d H st.requests_stand l)).waits, omega arith);
      },
    )

pub returns-in-Some-assignment_of-clause-answer : goal.returns-in-Some-assignment_of-clause-answer
returns-in-Some-assignment_of-clause-answer g c =
    let proved = c.walk_laws.ensures in
    record {
      of = λ d H st l below.
          let w = subst (λ (o : Option ℕ). IsWalked H c.args.at.0 o) c.in-Some.is (c.loop-next.invariant.0.of d H st l below) in
          chosen-is proved H c.args.at.0 c.in-Some.request _ (c.in-Some-assignment_of.ensures.answer.of d H st l w.waits w.passed) w.passed;
    }

pub loop-next-preserved : goal.loop-next-preserved
loop-next-preserved g c =
    let proved = c.walk_laws.ensures in (
      record {
        of = λ d H st l below.
            let w = subst (λ (o : Option ℕ). IsWalked H c.args.at.0 o) c.in-Some.is (c.loop-next.invariant.0.of d H st l below) in
            walk-goes-on H c.args.at.0 c.in-Some.request _ w (c.in_default-assignment_of.ensures.answer.of d H st l w.waits w.passed) (next-from proved d H _ _ l (c.waiting_after-next.ensures.first.of d H st.requests_stand l));
      },
      record {
        of = λ d H st l.
            let w = subst (λ (o : Option ℕ). At H c.args.at.0 c.args.steps.now c.loop-next.steps o) c.in-Some.is (c.loop-next.invariant.1.of d H st l) in (
              (next-from proved d H _ _ l (c.waiting_after-next.ensures.first.of d H st.requests_stand l)).waits,
              cost-passed proved d H c.args.at.0 c.in-Some.request (groups_up H (nodes H)) _ _ _ _ c.waiting_after-next.ensures.later w.1 (c.in_default-assignment_of.ensures.cost.of d H st l w.0),
            );
      },
    )

pub returns-clause-answer : goal.returns-clause-answer
returns-clause-answer g c =
    let proved = c.walk_laws.ensures in
    record {
      of = λ d H st l below.
          let w = subst (λ (o : Option ℕ). IsWalked H c.args.at.0 o) c.in_default.is (c.loop-next.invariant.0.of d H st l below) in
          chosen-nothing proved H c.args.at.0 (λ q k s. w.passed q k s tt);
    }

pub returns-in-Some-assignment_of-clause-cost : goal.returns-in-Some-assignment_of-clause-cost
returns-in-Some-assignment_of-clause-cost g c =
    let proved = c.walk_laws.ensures in
    record {
      of = λ d H st l.
          let w = subst (λ (o : Option ℕ). At H c.args.at.0 c.args.steps.now c.loop-next.steps o) c.in-Some.is (c.loop-next.invariant.1.of d H st l) in
          cost-passed proved d H c.args.at.0 c.in-Some.request (groups_up H (nodes H)) _ _ _ None tt w.1 (c.in-Some-assignment_of.ensures.cost.of d H st l w.0);
    }

pub returns-clause-cost : goal.returns-clause-cost
returns-clause-cost g c = record {
  of = λ d H st l. let w = subst (λ (o : Option ℕ). At H c.args.at.0 c.args.steps.now c.loop-next.steps o) c.in_default.is (c.loop-next.invariant.1.of d H st l) in w.1;
}
