use Rattle.std.proofs.Common.{◌<◌, ◌^◌, List, length, refl, sym, subst, inr, arith}
use Rattle.play_words.specs.declared.play.PlayNode.{PlayNode}
use Rattle.grid_play.specs.Crew.{AllFit}
use Rattle.grid_play.proofs.RunLemmas.{is_any_status, not_two, plays_few, plays_fit, plays_valid, same_ran_at}
use Rattle.grid_play.proofs.top.run_play.Goals as goal

pub play_to_end-requires-clause-valid : goal.play_to_end-requires-clause-valid
play_to_end-requires-clause-valid g c = plays_valid c.args.words.now c.in-Ok.said.config c.in-Ok.said.nodes c.in-Ok.ensures.ok

pub play_to_end-requires-clause-fit : goal.play_to_end-requires-clause-fit
play_to_end-requires-clause-fit g c =
    subst (λ (l : List PlayNode). AllFit l) (sym c.items.ensures) (plays_fit c.args.words.now c.in-Ok.said.config c.in-Ok.said.nodes c.in-Ok.ensures.ok)

pub play_to_end-requires-clause-few : goal.play_to_end-requires-clause-few
play_to_end-requires-clause-few g c =
    subst (λ (l : List PlayNode). length l < 2 ^ 16) (sym c.items.ensures) (plays_few c.args.words.now c.in-Ok.said.config c.in-Ok.said.nodes c.in-Ok.ensures.ok)

pub returns-in-Ok-clause-words : goal.returns-in-Ok-clause-words
returns-in-Ok-clause-words g c = (
  λ e. absurd (not_two c.play_to_end.result c.play_to_end.ensures.statuses e),
  λ none. absurd (none (c.in-Ok.said.config, c.in-Ok.said.nodes, c.in-Ok.ensures.ok)),
)

pub returns-in-Ok-clause-untouched : goal.returns-in-Ok-clause-untouched
returns-in-Ok-clause-untouched g c = λ e. absurd (not_two c.play_to_end.result c.play_to_end.ensures.statuses e)

pub returns-in-Ok-clause-ran : goal.returns-in-Ok-clause-ran
returns-in-Ok-clause-ran g c = λ d others q.
    same_ran_at c.words_say_one_play.ensures c.args.words.now c.in-Ok.said.config d c.in-Ok.said.nodes c.items.result.now others c.play_to_end.result _ _ c.in-Ok.ensures.ok
    c.items.ensures c.play_to_end.ensures.ran q

pub returns-in-Ok-clause-statuses : goal.returns-in-Ok-clause-statuses
returns-in-Ok-clause-statuses g c = is_any_status c.play_to_end.result c.play_to_end.ensures.statuses

pub returns-in-Err-Refused-clause-words : goal.returns-in-Err-Refused-clause-words
returns-in-Err-Refused-clause-words g c = (λ _ fit. c.in-Err-Refused.ensures.refused c.in-Err-Refused.field-0-is fit.0 fit.1 fit.2, λ _. refl)

pub returns-in-Err-Refused-clause-ran : goal.returns-in-Err-Refused-clause-ran
returns-in-Err-Refused-clause-ran g c = λ d others q. absurd (c.in-Err-Refused.ensures.refused c.in-Err-Refused.field-0-is d others q)

pub returns-in-Err-Memory-clause-words : goal.returns-in-Err-Memory-clause-words
returns-in-Err-Memory-clause-words g c = (λ e. absurd (omega (arith, e)), λ none. absurd (none (c.in-Err-Memory.ensures.memory c.in-Err-Memory.field-0-is)))

pub returns-in-Err-Memory-clause-ran : goal.returns-in-Err-Memory-clause-ran
returns-in-Err-Memory-clause-ran g c = λ d others q. inr (refl, refl)
