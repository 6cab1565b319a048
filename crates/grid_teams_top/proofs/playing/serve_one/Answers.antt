use Rattle.std.proofs.Common.{ℕ, List, refl, ap, sym, subst, ◌∙◌}
use Rattle.std.specs.Prelude.{Result, Ok}
use Rattle.grid_types.specs.Config.{default_config}
use Rattle.hub_core.specs.HubView.{past}
use Rattle.grid_outside.specs.Memory.{ClockGives, clock_at, clock_pauses, clock_view}
use Rattle.conn_script.specs.declared.wants.ConnFault.{ConnFault}
use Rattle.conn_script.specs.declared.wants.Served.{Served}
use Rattle.local_driver.specs.Served.{ServedLocally, outside_of}
use Rattle.local_driver.specs.World.{world_of}
use Rattle.loop_node.specs.LinkedNodes.{nodes_reached}
use Rattle.grid_play.specs.Crew.{first_crew}
use Rattle.grid_play.specs.Talks.{standing}
use Rattle.grid_teams_top.specs.Blocks.{block_view, standing_of}
use Rattle.grid_teams_top.specs.Play.{TeamServes}
use Rattle.grid_teams_top.proofs.BlockLemmas.{reached_give, team_serves}
use Rattle.grid_teams_top.proofs.TeamBlockLemmas.{if_ok}
use Rattle.grid_teams_top.proofs.playing.serve_one.Goals as goal

pub returns : goal.returns
returns c =
    let e = c.serve_local-ended in
    let old = c.args.team.now in
    let first = c.new-link.result in
    let last = e.new.link in
    let bytes = c.args.bytes.now in
    let now = outside_of (world_of old.hub old.nodes old.clock (clock_view old.clock)) (block_view first) in
    let then_ = outside_of (world_of e.new.hub e.new.nodes e.new.clock (clock_view e.new.clock)) (block_view last) in
    if_ok c.answer_of.result c.answer_of.ensures (λ out x said plays.
    let locally = subst (λ (r : Result Served ConnFault). ServedLocally reached_give ClockGives c.as_slice.result.now now r then_) x.1 e.ensures.served in
    let same = e.ensures.same ∙ ap (λ b. b.now) c.new-link.ensures.bytes in
    let serves = team_serves ClockGives said x.0 old.hub e.new.hub old.nodes e.new.nodes old.clock e.new.clock (clock_view old.clock) (clock_view e.new.clock)
    (clock_pauses old.clock) c.as_slice.result.now first last bytes (c.as_slice.ensures.value ∙ plays.numbers_are) plays.config_is plays.numbered refl c.new-link.ensures.view
    same last.whole c.requires locally x.2 c.fixed_limits.ensures.read c.talks_stand.ensures in
    let own = (first_crew default_config said.nodes).numbers in
    let old_standing = standing_of old in
    let new_standing = standing (past e.new.hub) (nodes_reached e.new.nodes) (clock_at e.new.clock) in (
      subst (λ (o : List ℕ). TeamServes said old_standing bytes o new_standing) (sym x.3) serves,
      record {
        name_is = plays.name_is;
        config_is = locally.served.onward.went.config ∙ plays.config_is;
        numbers_are = plays.numbers_are;
        numbered = c.one_talk.ensures.numbers default_config own old_standing new_standing bytes (Ok serves.served) serves.steps last.taken.items serves.numbered serves.talks;
      },
    ))
