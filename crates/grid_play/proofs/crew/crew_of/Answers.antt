use Rattle.std.proofs.Common.{◌≡◌, true, List, sym, ap, subst, ◌∙◌}
use Rattle.std.specs.List.{list_all}
use Rattle.loop_node.specs.Links.{Differ}
use Rattle.loop_node.specs.Sessions.{Node}
use Rattle.loop_node.specs.Sizes.{short_texts}
use Rattle.grid_play.specs.Crew.{Crew, gathered}
use Rattle.grid_play.proofs.CrewLemmas.{crew_differ, crew_short, joined_first}
use Rattle.grid_play.proofs.crew.crew_of.Goals as goal

pub new-reached-requires-clause-differ : goal.new-reached-requires-clause-differ
new-reached-requires-clause-differ c =
    let joined = joined_first c.args.config c.in_ok-hub.hub c.new-list.result c.new-numbers.result.items c.args.played.now
    (gathered c.register_all.new.hub c.register_all.new.nodes c.register_all.new.numbers.items) c.in_ok-hub.ensures c.new-list.ensures c.new-numbers.ensures.items c.in_ok-register_all.ensures.joined in
    subst (λ (l : List Node). Differ l) (sym (ap (λ (w : Crew). w.nodes) joined)) (crew_differ c.args.config c.args.played.now)

pub new-reached-requires-clause-short : goal.new-reached-requires-clause-short
new-reached-requires-clause-short c =
    let joined = joined_first c.args.config c.in_ok-hub.hub c.new-list.result c.new-numbers.result.items c.args.played.now
    (gathered c.register_all.new.hub c.register_all.new.nodes c.register_all.new.numbers.items) c.in_ok-hub.ensures c.new-list.ensures c.new-numbers.ensures.items c.in_ok-register_all.ensures.joined in
    subst (λ (l : List Node). list_all short_texts l ≡ true) (sym (ap (λ (w : Crew). w.nodes) joined)) (crew_short c.args.config c.args.played.now c.requires.fit)

pub returns-clause-config : goal.returns-clause-config
returns-clause-config c = c.register_all.ensures.config ∙ ap (λ h. h.config) c.in_ok-hub.ensures

pub returns-clause-crew : goal.returns-clause-crew
returns-clause-crew c =
    let joined = joined_first c.args.config c.in_ok-hub.hub c.new-list.result c.new-numbers.result.items c.args.played.now
    (gathered c.register_all.new.hub c.register_all.new.nodes c.register_all.new.numbers.items) c.in_ok-hub.ensures c.new-list.ensures c.new-numbers.ensures.items c.in_ok-register_all.ensures.joined in
    ap (λ (l : List Node). gathered c.register_all.new.hub l c.register_all.new.numbers.items) c.new-reached.ensures ∙ joined
