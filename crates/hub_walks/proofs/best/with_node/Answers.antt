use Rattle.std.proofs.Common.{rules, ◌≡◌, ℕ, true, false, refl, sym, ◌∙◌, subst}
use Rattle.grid_types.specs.Nodes.{is_up}
use Rattle.grid_types.specs.Requests.{is_barred}
use Rattle.grid_types.specs.Fit.{has_sessions_left}
use Rattle.node_registry.specs.Table.{last_turn}
use Rattle.hub_walks.specs.First.{row_with, with_open}
use Rattle.hub_walks.proofs.VisitLemmas.{one-number, facts-told, passed, opened, closed, barred-closed, spent-closed, all-open}
use Rattle.hub_walks.specs.Laws.{laws}
use Rattle.hub_walks.proofs.best.with_node.Goals as goal
use Rattle.hub_walks.proofs.best.with_node.Goals.{then-facts-via-then-facts, then-facts-via-else-facts+then-is_behind, then-has-via-then-has, then-has-via-else-has+then-not-has_sessions_left}

pub returns-then-facts-clause-answer : goal.returns-then-facts-clause-answer
returns-then-facts-clause-answer g c =
    let proved = c.walk_laws.ensures in
    record {
      of = λ d H st l r n at t.
          let node = c.in-Some.node in
          let tells = c.in-Some.ensures.row.of d H st.nodes_stand l in
          let told = facts-told H (last_turn c.args.nodes.now) node c.load_at.result c.turn.result c.registration-registration.result.now (c.load_at.ensures.of d H st.slots_stand l)
          (c.registration-registration.ensures.of H node tells) (c.turn.ensures ∙ c.in-Some.ensures.turn) in
          let Passed : ℕ → Type 0 = λ m. c.args.best ≡ with_open H (last_turn c.args.nodes.now) r c.args.wanted.now c.args.best m in
          subst Passed (one-number node n _ c.in-Some.ensures.number at)
          (elim c.then-facts.branch [
            | then-facts-via-then-facts w ↦ passed H (last_turn c.args.nodes.now) r node c.args.wanted.now c.args.best _ told ((laws proved).kept-full c.args.wanted.now c.args.best (row_with H _) w.if-facts.true)
            | then-facts-via-else-facts+then-is_behind w ↦ passed H (last_turn c.args.nodes.now) r node c.args.wanted.now c.args.best _ told (sym (w.is_behind.ensures.kept w.if-is_behind.true c.args.wanted.now (row_with H _) refl))
          ]);
    }

pub returns-then-has-clause-answer : goal.returns-then-has-clause-answer
returns-then-has-clause-answer g c = record {
  of = λ d H st l r n at t.
      let node = c.in-Some.node in
      let tells = c.in-Some.ensures.row.of d H st.nodes_stand l in
      let Passed : ℕ → Type 0 = λ m. c.args.best ≡ with_open H (last_turn c.args.nodes.now) r c.args.wanted.now c.args.best m in
      subst Passed (one-number node n _ c.in-Some.ensures.number at)
      (elim c.then-has.branch [
        | then-has-via-then-has w ↦ closed H (last_turn c.args.nodes.now) r node c.args.wanted.now c.args.best (barred-closed H r node (sym (t.tells node) ∙ sym c.has.ensures ∙ w.if-has.true))
        | then-has-via-else-has+then-not-has_sessions_left w ↦ closed H (last_turn c.args.nodes.now) r node c.args.wanted.now c.args.best
            (spent-closed H r node (sym (w.has_sessions_left.ensures.of H node tells (w.held_at.ensures.of d H st.slots_stand l)) ∙ w.if-not-has_sessions_left.true))
      ]);
}

pub returns-clause-answer : goal.returns-clause-answer
returns-clause-answer g c =
    let proved = c.walk_laws.ensures in
    record {
      of = λ d H st l r n at t.
          let node = c.in-Some.node in
          let tells = c.in-Some.ensures.row.of d H st.nodes_stand l in
          let own = c.registration-registration.ensures.of H node tells in
          let up : is_up H node ≡ true = search (rules, c.is_up.ensures.of H node tells) in
          let told = facts-told H (last_turn c.args.nodes.now) node c.load_at.result c.turn.result c.registration-registration.result.now (c.load_at.ensures.of d H st.slots_stand l) own (c.turn.ensures ∙ c.in-Some.ensures.turn) in
          let Opened : ℕ → Type 0 = λ m. c.with_slots.result ≡ with_open H (last_turn c.args.nodes.now) r c.args.wanted.now c.args.best m in
          let untried : is_barred H r node ≡ false = sym (t.tells node) ∙ sym c.has.ensures ∙ c.if-has.false in
          let left : has_sessions_left H node ≡ true = sym (c.has_sessions_left.ensures.of H node tells (c.held_at.ensures.of d H st.slots_stand l)) ∙ c.if-not-has_sessions_left.false in
          subst Opened (one-number node n _ c.in-Some.ensures.number at)
          (opened H (last_turn c.args.nodes.now) r node c.args.wanted.now c.args.best c.with_slots.result _ told
          (c.with_slots.ensures.answer.of d H st.slots_stand l ((laws proved).history.up-registered H node up) own) (all-open H r node up untried left));
    }
