use Rattle.std.proofs.Common.{◌<◌, ◌^◌, List, length, refl, sym, subst, inl, inr, arith}
use Rattle.play_words.specs.declared.play.PlayNode.{PlayNode}
use Rattle.grid_play.specs.Crew.{AllFit}
use Rattle.kept_play.proofs.PlayLemmas.{same_kept}
use Rattle.kept_play.proofs.StatusLemmas.{any_status, not_two}
use Rattle.kept_play.proofs.top.kept_run.Goals as goal

pub open_and_play-requires-clause-valid : goal.open_and_play-requires-clause-valid
open_and_play-requires-clause-valid g c = c.said_nodes_fit.ensures.hub c.args.words.now c.in-Ok.said.config c.in-Ok.said.nodes c.in-Ok.ensures.ok

pub open_and_play-requires-clause-fit : goal.open_and_play-requires-clause-fit
open_and_play-requires-clause-fit g c =
    subst (λ (l : List PlayNode). AllFit l) (sym c.items.ensures) (c.said_nodes_fit.ensures.crew c.args.words.now c.in-Ok.said.config c.in-Ok.said.nodes c.in-Ok.ensures.ok).0

pub open_and_play-requires-clause-few : goal.open_and_play-requires-clause-few
open_and_play-requires-clause-few g c =
    subst (λ (l : List PlayNode). length l < 2 ^ 16) (sym c.items.ensures) (c.said_nodes_fit.ensures.crew c.args.words.now c.in-Ok.said.config c.in-Ok.said.nodes c.in-Ok.ensures.ok).1

pub returns-in-Ok-clause-words : goal.returns-in-Ok-clause-words
returns-in-Ok-clause-words g c = (
  λ e. absurd (not_two _ _ c.open_and_play.result.0 _ _ c.open_and_play.ensures.tells e),
  λ none. absurd (none (c.in-Ok.said.config, c.in-Ok.said.nodes, c.in-Ok.ensures.ok)),
)

pub returns-in-Ok-clause-untouched : goal.returns-in-Ok-clause-untouched
returns-in-Ok-clause-untouched g c = λ e. absurd (not_two _ _ c.open_and_play.result.0 _ _ c.open_and_play.ensures.tells e)

pub returns-in-Ok-clause-kept : goal.returns-in-Ok-clause-kept
returns-in-Ok-clause-kept g c = λ d others q.
    same_kept g.P.Keeper.disk c.words_say_one_play.ensures c.args.words.now c.in-Ok.said.config d c.in-Ok.said.nodes c.items.result.now others c.open_and_play.result.0 _ _ c.args.keeper
    c.open_and_play.result.1 c.in-Ok.ensures.ok c.items.ensures c.open_and_play.ensures.kept q

pub returns-in-Ok-clause-statuses : goal.returns-in-Ok-clause-statuses
returns-in-Ok-clause-statuses g c = any_status _ _ c.open_and_play.result.0 _ _ c.open_and_play.ensures.tells

pub returns-in-Err-Refused-clause-words : goal.returns-in-Err-Refused-clause-words
returns-in-Err-Refused-clause-words g c = (λ _ fit. c.in-Err-Refused.ensures.refused c.in-Err-Refused.field-0-is fit.0 fit.1 fit.2, λ _. refl)

pub returns-in-Err-Refused-clause-kept : goal.returns-in-Err-Refused-clause-kept
returns-in-Err-Refused-clause-kept g c = λ d others q. absurd (c.in-Err-Refused.ensures.refused c.in-Err-Refused.field-0-is d others q)

pub returns-in-Err-Memory-clause-words : goal.returns-in-Err-Memory-clause-words
returns-in-Err-Memory-clause-words g c = (λ e. absurd (omega (arith, e)), λ none. absurd (none (c.in-Err-Memory.ensures.memory c.in-Err-Memory.field-0-is)))

pub returns-in-Err-Memory-clause-kept : goal.returns-in-Err-Memory-clause-kept
returns-in-Err-Memory-clause-kept g c = λ d others q. inr (record { why = inl (inl refl); same_link = refl; same_disk = refl })
