use Rattle.std.proofs.Common.{ℕ, List, [], true, sym, ap, subst, ◌≡◌, ◌∙◌, arith}
use Rattle.std.specs.List.{list_all}
use Rattle.hub_core.specs.HubView.{HubView}
use Rattle.loop_node.specs.Sessions.{Node}
use Rattle.loop_node.specs.Links.{Differ}
use Rattle.loop_node.specs.Sizes.{short_texts}
use Rattle.grid_simulate.specs.Crew.{crew}
use Rattle.grid_simulate.specs.Joining.{gathered}
use Rattle.grid_simulate.proofs.CrewLemmas.{crew_none, crew_more, crew_short, crew_differ}
use Rattle.grid_simulate.proofs.simulation.Simulation.new.Goals as goal

pub loop-i-init : goal.loop-i-init
loop-i-init c = record {
  config = ap (λ (h : HubView). h.config) c.in_ok-hub.ensures ∙ c.simulated_config.ensures.is;
  come = ap (λ (l : List Node). gathered c.args.number c.in_ok-hub.hub l) c.new-nodes.ensures ∙ ap (λ (h : HubView). gathered c.args.number h []) c.in_ok-hub.ensures ∙ sym (crew_none c.args.number);
}

pub loop-i-preserved : goal.loop-i-preserved
loop-i-preserved c = record {
  config = c.join.ensures.config;
  come = crew_more c.args.number c.loop-i.i (gathered c.loop-i.drawn c.loop-i.hub c.loop-i.nodes) (gathered c.join.new.number c.join.new.hub c.join.new.nodes) c.loop-i.invariant.come c.in_ok-join.ensures.joined;
}

pub new-reached-requires-clause-differ : goal.new-reached-requires-clause-differ
new-reached-requires-clause-differ c = subst (λ (l : List Node). Differ l) (sym (ap (λ w. w.nodes) c.loop-i.invariant.come)) (crew_differ c.args.number c.loop-i.i)

pub new-reached-requires-clause-short : goal.new-reached-requires-clause-short
new-reached-requires-clause-short c = subst (λ (l : List Node). list_all short_texts l ≡ true) (sym (ap (λ w. w.nodes) c.loop-i.invariant.come)) (crew_short c.args.number c.loop-i.i)

pub returns-clause-crew : goal.returns-clause-crew
returns-clause-crew c =
    let all : c.loop-i.i ≡ 8 = omega (arith, c.loop-i-test.false, c.loop-i.auto.i-end) in
    c.at_rest.ensures.world ∙ ap (λ (l : List Node). gathered c.loop-i.drawn c.loop-i.hub l) c.new-reached.ensures ∙ c.loop-i.invariant.come ∙ ap (λ (i : ℕ). crew c.args.number i) all
