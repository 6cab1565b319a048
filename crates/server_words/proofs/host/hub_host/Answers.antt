use Rattle.std.proofs.Common.{◌≡◌, ℕ, List, ap, map, subst, sym, ◌∙◌}
use Rattle.std.proofs.lemmas.Result.{IfOk-weaker}
use Rattle.clap.specs.Words.{found_of, rows_of}
use Rattle.server_words.specs.Hosts.{IsHostText, host_said, host_told}
use Rattle.server_words.specs.HubOptions.{hub_command}
use Rattle.server_words.proofs.Building.{rows_as, taken_as}
use Rattle.server_words.proofs.HostLemmas.{always}
use Rattle.server_words.proofs.RefusalLemmas.{not_taken, same_fault}
use Rattle.server_words.proofs.host.hub_host.Goals as goal

pub returns-in-Ok-clause-taken : goal.returns-in-Ok-clause-taken
returns-in-Ok-clause-taken c =
    let texts = ap (map (λ s. s.now)) c.as_slice.ensures.value ∙ c.in_ok-texts.ensures in
    always c.host_told.result _ (taken_as hub_command _ c.args.words.now texts c.in-Ok.ensures.taken)

pub returns-in-Ok-clause-said : goal.returns-in-Ok-clause-said
returns-in-Ok-clause-said c =
    let texts = ap (map (λ s. s.now)) c.as_slice.ensures.value ∙ c.in_ok-texts.ensures in
    let rows = rows_as hub_command _ c.args.words.now (rows_of (found_of c.in-Ok.matches)) texts c.in-Ok.ensures.rows in
    let written : host_told (rows_of (found_of c.in-Ok.matches)) ≡ host_said c.args.words.now = ap host_told rows in
    IfOk-weaker c.host_told.result _ _ (λ ip h. subst (λ (text : List ℕ). IsHostText text ip) written h) c.host_told.ensures.said

pub returns-in-Ok-clause-refused : goal.returns-in-Ok-clause-refused
returns-in-Ok-clause-refused c = λ refused tells.
    let texts = ap (map (λ s. s.now)) c.as_slice.ensures.value ∙ c.in_ok-texts.ensures in
    let rows = rows_as hub_command _ c.args.words.now (rows_of (found_of c.in-Ok.matches)) texts c.in-Ok.ensures.rows in
    let written : host_told (rows_of (found_of c.in-Ok.matches)) ≡ host_said c.args.words.now = ap host_told rows in
    c.host_told.ensures.refused refused tells.ip (subst (λ (text : List ℕ). IsHostText text tells.ip) (sym written) tells.written)

pub returns-clause-refused : goal.returns-clause-refused
returns-clause-refused c = λ refused tells.
    let texts = ap (map (λ s. s.now)) c.as_slice.ensures.value ∙ c.in_ok-texts.ensures in
    not_taken _ c.args.words.now texts (c.in-Err.ensures.refused (same_fault _ _ refused)) tells.taken
