use Rattle.std.proofs.Common.{ap, map, ◌∙◌}
use Rattle.clap.specs.Words.{found_of, rows_of}
use Rattle.server_words.specs.HubOptions.{hub_command, hub_told}
use Rattle.server_words.proofs.Building.{rows_as, taken_as}
use Rattle.server_words.proofs.RefusalLemmas.{not_taken, same_fault}
use Rattle.server_words.proofs.hub.hub_words.Goals as goal

pub returns-in-Ok-clause-taken : goal.returns-in-Ok-clause-taken
returns-in-Ok-clause-taken c =
    let texts = ap (map (λ s. s.now)) c.as_slice.ensures.value ∙ c.in_ok-texts.ensures in
    taken_as hub_command _ c.args.words.now texts c.in-Ok.ensures.taken

pub returns-in-Ok-clause-said : goal.returns-in-Ok-clause-said
returns-in-Ok-clause-said c =
    let texts = ap (map (λ s. s.now)) c.as_slice.ensures.value ∙ c.in_ok-texts.ensures in
    c.told.ensures.told ∙ ap hub_told (rows_as hub_command _ c.args.words.now (rows_of (found_of c.in-Ok.matches)) texts c.in-Ok.ensures.rows)

pub returns-clause-refused : goal.returns-clause-refused
returns-clause-refused c = λ refused taken.
    let texts = ap (map (λ s. s.now)) c.as_slice.ensures.value ∙ c.in_ok-texts.ensures in
    not_taken _ c.args.words.now texts (c.in-Err.ensures.refused (same_fault _ _ refused)) taken
