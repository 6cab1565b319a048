use Rattle.std.proofs.Common.{◌≡◌, ℕ, List, true, ap, map, subst, ◌∙◌}
use Rattle.std.proofs.lemmas.Result.{IfOk-weaker}
use Rattle.std.specs.Prelude.{codes}
use Rattle.std.specs.Str.{bytes_eq}
use Rattle.clap.specs.Words.{found_of, rows_of}
use Rattle.server_words.specs.Journals.{is_sync, file_told, sync_told}
use Rattle.server_words.specs.HubOptions.{hub_command}
use Rattle.server_words.proofs.Building.{rows_as, taken_as}
use Rattle.server_words.proofs.JournalLemmas.{no_sync}
use Rattle.server_words.proofs.RefusalLemmas.{not_taken, same_fault}
use Rattle.server_words.proofs.journal.hub_journal.Goals as goal

pub returns-in-Ok-clause-told : goal.returns-in-Ok-clause-told
returns-in-Ok-clause-told c =
    let texts = ap (map (λ s. s.now)) c.as_slice.ensures.value ∙ c.in_ok-texts.ensures in
    let rows = rows_as hub_command _ c.args.words.now (rows_of (found_of c.in-Ok.matches)) texts c.in-Ok.ensures.rows in
    IfOk-weaker c.journal_told.result _ _ (λ told h. record {
      taken = taken_as hub_command _ c.args.words.now texts c.in-Ok.ensures.taken;
      sync = subst (λ (text : List ℕ). is_sync text ≡ true) (ap sync_told rows) h;
    }) c.journal_told.ensures.sync

pub returns-in-Ok-clause-file : goal.returns-in-Ok-clause-file
returns-in-Ok-clause-file c =
    let texts = ap (map (λ s. s.now)) c.as_slice.ensures.value ∙ c.in_ok-texts.ensures in
    let rows = rows_as hub_command _ c.args.words.now (rows_of (found_of c.in-Ok.matches)) texts c.in-Ok.ensures.rows in
    IfOk-weaker c.journal_told.result _ _ (λ told h. h ∙ ap file_told rows) c.journal_told.ensures.file

pub returns-in-Ok-clause-each : goal.returns-in-Ok-clause-each
returns-in-Ok-clause-each c =
    let texts = ap (map (λ s. s.now)) c.as_slice.ensures.value ∙ c.in_ok-texts.ensures in
    let rows = rows_as hub_command _ c.args.words.now (rows_of (found_of c.in-Ok.matches)) texts c.in-Ok.ensures.rows in
    IfOk-weaker c.journal_told.result _ _ (λ told h. h ∙ ap (λ (text : List ℕ). bytes_eq text (codes "each")) (ap sync_told rows)) c.journal_told.ensures.each

pub returns-in-Ok-clause-refused : goal.returns-in-Ok-clause-refused
returns-in-Ok-clause-refused c = λ refused tells.
    let texts = ap (map (λ s. s.now)) c.as_slice.ensures.value ∙ c.in_ok-texts.ensures in
    let rows = rows_as hub_command _ c.args.words.now (rows_of (found_of c.in-Ok.matches)) texts c.in-Ok.ensures.rows in
    no_sync _ c.args.words.now (ap sync_told rows) (c.journal_told.ensures.refused refused) tells

pub returns-clause-refused : goal.returns-clause-refused
returns-clause-refused c = λ refused tells.
    let texts = ap (map (λ s. s.now)) c.as_slice.ensures.value ∙ c.in_ok-texts.ensures in
    not_taken _ c.args.words.now texts (c.in-Err.ensures.refused (same_fault _ _ refused)) tells.taken
