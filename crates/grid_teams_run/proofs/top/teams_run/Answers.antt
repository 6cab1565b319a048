use Rattle.std.proofs.Common.{List, sym, subst, ◌∙◌, refl, arith}
use Rattle.team_words.specs.declared.team_play.TeamPlay.{TeamPlay}
use Rattle.grid_teams_top.specs.Play.{first_standings}
use Rattle.grid_teams_run.specs.Running.{Ran, run_of}
use Rattle.grid_teams_run.specs.Teams.{AllMayStart}
use Rattle.grid_teams_run.specs.declared.run_end.RunEnd.TheVariants as ends
use Rattle.grid_teams_run.proofs.RunLemmas.{not_two, nothing_run}
use Rattle.grid_teams_run.proofs.StartLemmas.{may_start}
use Rattle.grid_teams_run.proofs.top.teams_run.Goals as goal

pub run_said-requires : goal.run_said-requires
run_said-requires g c =
    subst (λ (ts : List TeamPlay). AllMayStart ts) (sym c.as_slice.ensures.value) (may_start c.said_nodes_fit.ensures.node c.args.words.now c.in-Ok.said.items c.in-Ok.ensures.ok)

pub returns-in-Ok-clause-words : goal.returns-in-Ok-clause-words
returns-in-Ok-clause-words g c = (
  λ e. absurd (not_two c.run_said.ensures.end (sym c.run_said.ensures.status_is ∙ e)),
  λ none. absurd (none (c.in-Ok.said.items, c.in-Ok.ensures.ok)),
)

pub returns-in-Ok-clause-untouched : goal.returns-in-Ok-clause-untouched
returns-in-Ok-clause-untouched g c = λ e. absurd (not_two c.run_said.ensures.end (sym c.run_said.ensures.status_is ∙ e))

pub returns-in-Ok-clause-ran : goal.returns-in-Ok-clause-ran
returns-in-Ok-clause-ran g c = λ said says.
    let same = c.as_slice.ensures.value ∙ c.words_say_one_list.ensures c.args.words.now c.in-Ok.said.items said c.in-Ok.ensures.ok says in
    subst (λ (ts : List TeamPlay). Ran ts c.run_said.result
    (run_of (g.S.Source.view c.args.input.now) (g.K.Sink.view c.args.output.now).taken (g.K.Sink.view c.args.output.now).faults)
    (run_of (g.S.Source.view c.run_said.new.input) (g.K.Sink.view c.run_said.new.output).taken (g.K.Sink.view c.run_said.new.output).faults))
    same c.run_said.ensures

pub returns-in-Err-Refused-clause-words : goal.returns-in-Err-Refused-clause-words
returns-in-Err-Refused-clause-words g c = (λ _ fit. c.in-Err-Refused.ensures.refused c.in-Err-Refused.field-0-is fit.0 fit.1, λ _. refl)

pub returns-in-Err-Refused-clause-ran : goal.returns-in-Err-Refused-clause-ran
returns-in-Err-Refused-clause-ran g c = λ said says. absurd (c.in-Err-Refused.ensures.refused c.in-Err-Refused.field-0-is said says)

pub returns-in-Err-Memory-clause-words : goal.returns-in-Err-Memory-clause-words
returns-in-Err-Memory-clause-words g c = (λ e. absurd (omega (arith, e)), λ none. absurd (none (c.in-Err-Memory.ensures.memory c.in-Err-Memory.field-0-is)))

pub returns-in-Err-Memory-clause-ran : goal.returns-in-Err-Memory-clause-ran
returns-in-Err-Memory-clause-ran g c = λ said says. record { end = ends.Memory; status_is = refl; runs = nothing_run said (first_standings said) _ }
