use Rattle.std.proofs.Common.{List, length, sym, ap, ◌∙◌}
use Rattle.grid_types.specs.declared.entry.Entry.{Entry}
use Rattle.grid_types.specs.History.{history_of}
use Rattle.grid_types.specs.Sessions.{live_bindings}
use Rattle.hub_core.specs.HubView.{past}
use Rattle.grid_simulate.specs.Counts.{count, is_queued, is_bound, is_timed_out, is_refused, is_cleared, is_retried, is_ended, is_lapsed}
use Rattle.grid_simulate.proofs.CountLemmas.{summary_is}
use Rattle.grid_simulate.proofs.summary.Summary.of.Goals as goal

pub returns : goal.returns
returns c =
    let journal = c.journal-journal.ensures.journal in
    sym (summary_is (past c.args.hub.now) c.count.result c.count-2.result c.count-3.result c.count-4.result c.count-5.result c.in_ok-waiting.waiting c.count-6.result c.count-7.result c.count-8.result c.live_count.result
    (c.count.ensures ∙ ap (λ (l : List Entry). count is_queued (history_of l)) journal)
    (c.count-2.ensures ∙ ap (λ (l : List Entry). count is_bound (history_of l)) journal)
    (c.count-3.ensures ∙ ap (λ (l : List Entry). count is_timed_out (history_of l)) journal)
    (c.count-4.ensures ∙ ap (λ (l : List Entry). count is_refused (history_of l)) journal)
    (c.count-5.ensures ∙ ap (λ (l : List Entry). count is_cleared (history_of l)) journal)
    c.in_ok-waiting.ensures
    (c.count-6.ensures ∙ ap (λ (l : List Entry). count is_retried (history_of l)) journal)
    (c.count-7.ensures ∙ ap (λ (l : List Entry). count is_ended (history_of l)) journal)
    (c.count-8.ensures ∙ ap (λ (l : List Entry). count is_lapsed (history_of l)) journal)
    (c.live_count.ensures ∙ ap (λ (l : List Entry). length (live_bindings (history_of l))) journal))
