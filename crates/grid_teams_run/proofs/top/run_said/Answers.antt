use Rattle.std.proofs.Common.{List, sym, subst, refl}
use Rattle.grid_teams_top.specs.declared.playing.PlayingTeam.{PlayingTeam}
use Rattle.grid_teams_top.specs.Blocks.{standings}
use Rattle.grid_teams_run.specs.Teams.{AllStarted}
use Rattle.grid_teams_top.specs.Play.{first_standings}
use Rattle.grid_teams_run.specs.declared.run_end.RunEnd.TheVariants as ends
use Rattle.grid_teams_run.proofs.RunLemmas.{nothing_run, runs_from}
use Rattle.grid_teams_run.proofs.StartLemmas.{started_first, started_play}
use Rattle.grid_teams_run.proofs.top.run_said.Goals as goal

pub returns-in-Ok : goal.returns-in-Ok
returns-in-Ok g c =
    let said = c.args.said.now in
    let teams = c.as_mut_slice.result.now in
    let started = subst (λ (ts : List PlayingTeam). AllStarted said ts) (sym c.as_mut_slice.ensures.value) c.in-Ok.ensures in
    record {
      end = c.serve_all.result;
      status_is = c.status_of.ensures;
      runs = runs_from said (first_standings said) (standings teams) c.serve_all.result _ _ (started_first said teams started)
          (c.serve_all.ensures said (started_play said teams started));
    }

pub returns-in-Err : goal.returns-in-Err
returns-in-Err g c = record { end = ends.Memory; status_is = refl; runs = nothing_run c.args.said.now (first_standings c.args.said.now) _ }
