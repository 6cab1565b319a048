use Rattle.std.proofs.Common.{◌<◌, ◌^◌, List, length, ap, sym, subst, ◌∙◌, arith}
use Rattle.grid_types.specs.Config.{IsValid, default_config}
use Rattle.loop_node.specs.Sessions.{Node}
use Rattle.play_words.specs.declared.play.PlayNode.{PlayNode}
use Rattle.grid_play.specs.Crew.{AllFit, Crew, first_crew}
use Rattle.grid_play.specs.Talks.{AscendFrom, standing}
use Rattle.grid_teams_top.proofs.playing.start.Goals as goal

pub crew_of-requires-clause-valid : goal.crew_of-requires-clause-valid
crew_of-requires-clause-valid c = subst IsValid (sym c.usual_config.ensures) (record {
  timeout_least = omega arith;
  timeout_most = omega arith;
  idle_least = omega arith;
  idle_most = omega arith;
  lapse_least = omega arith;
  lapse_most = omega arith;
  queue_least = omega arith;
  queue_most = omega arith;
  first_node = omega arith;
  first_request = omega arith;
  down_least = omega arith;
  down_most = omega arith;
})

pub crew_of-requires-clause-fit : goal.crew_of-requires-clause-fit
crew_of-requires-clause-fit c = subst (λ (l : List PlayNode). AllFit l) (sym c.items.ensures) c.requires.fit

pub crew_of-requires-clause-few : goal.crew_of-requires-clause-few
crew_of-requires-clause-few c = subst (λ (l : List PlayNode). length l < 2 ^ 16) (sym c.items.ensures) c.requires.few

pub returns-clause-plays : goal.returns-clause-plays
returns-clause-plays c =
    let crew = c.in_ok-crew.ensures.crew ∙ (λ i. first_crew (c.usual_config.ensures i) (c.items.ensures i)) in
    record {
      name_is = c.in_ok-name.ensures ∙ c.as_str.ensures.bytes;
      config_is = c.in_ok-crew.ensures.config ∙ c.usual_config.ensures;
      numbers_are = ap (λ (w : Crew). w.numbers) crew;
      numbered = subst (λ (ns : List Node). AscendFrom 1 ns) (sym (ap (λ (w : Crew). w.nodes) crew)) (c.one_talk.ensures.crews default_config c.args.said.now.nodes c.requires.few);
    }

pub returns-clause-stands : goal.returns-clause-stands
returns-clause-stands c =
    let crew = c.in_ok-crew.ensures.crew ∙ (λ i. first_crew (c.usual_config.ensures i) (c.items.ensures i)) in
    λ i. standing (crew i).history (crew i).nodes (c.new.ensures.at i)
