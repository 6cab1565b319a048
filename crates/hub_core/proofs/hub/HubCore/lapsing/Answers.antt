use Rattle.std.proofs.Common.{◌≡◌, ◌∙◌, ℕ, ◌+◌, max, List, sym, ap, subst}
use Rattle.grid_types.specs.History.{clock}
use Rattle.grid_types.specs.HubAnswers.{lapsed_nodes}
use Rattle.grid_types.specs.Calls.{Call}
use Rattle.hub_core.specs.Ahead.{Publishes, removals_of, all_on}
use Rattle.hub_core.proofs.LapsingLemmas.{Comes, comes-first, comes-next, comes-last, lapsed-registered, sweep-publishes}
use Rattle.hub_core.proofs.hub.HubCore.lapsing.Goals as goal

pub loop-node-init : goal.loop-node-init
loop-node-init c = record {
  of = λ H s. subst (λ (z : List (List ℕ)). Comes c.args.self.now.config c.raised-now.result.0 0 z H) (sym c.new-sessions.ensures) (comes-first c.args.self.now.config c.raised-now.result.0 H);
}

pub loop-node-preserved : goal.loop-node-preserved
loop-node-preserved c =
    let proved = c.history_laws.ensures in
    record {
      of = λ H s.
          let g = c.args.self.now.config in
          let m = c.raised-now.result.0 in
          let n = c.in-Some.node in
          let there = sym (c.in-Some.ensures.first.of g H s.tables_stand s.is_legal) in
          let more = c.in_ok-push_sessions.ensures.of H s (lapsed-registered g H m c.loop-node.from n there) in
          subst (λ (z : ℕ). Comes g m (z + 1) c.push_sessions.new.sessions H) (sym c.from-from.ensures)
          (comes-next proved g m c.loop-node.from n c.loop-node.sessions c.push_sessions.new.sessions H s.is_legal there (c.loop-node.invariant.of H s) more);
    }

pub returns : goal.returns
returns c =
    let proved = c.history_laws.ensures in
    record {
      of = λ H s k.
          let g = c.args.self.now.config in
          let m = c.raised-now.result.0 in
          let raised : m ≡ max c.args.at.0 (clock H) = c.raised-now.ensures.of g H s.tables_stand s.is_legal in
          let all : c.loop-node.sessions ≡ all_on H (lapsed_nodes g H m) = comes-last g m c.loop-node.from c.loop-node.sessions H (sym (c.in_default.ensures.first.of g H s.tables_stand s.is_legal)) (c.loop-node.invariant.of H s) in
          subst (λ (z : List (List ℕ)). Publishes g H k Call.sweep c.args.at.0 (removals_of z)) (sym (all ∙ ap (λ (z : ℕ). all_on H (lapsed_nodes g H z)) raised)) (sweep-publishes proved g H k c.args.at.0 s.is_legal);
    }
