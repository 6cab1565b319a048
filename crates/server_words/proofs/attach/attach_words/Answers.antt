use Rattle.std.proofs.Common.{◌≡◌, ap, map, subst, true, List, ◌∙◌}
use Rattle.std.proofs.lemmas.Result.{IfErr-weaker}
use Rattle.clap.specs.Words.{Row, found_of, rows_of}
use Rattle.std.specs.Prelude.{is_some}
use Rattle.server_words.specs.Addresses.{bare_address, is_reachable}
use Rattle.server_words.specs.AttachOptions.{TextsFit, attach_command, attach_driver, attach_hub, attach_own}
use Rattle.server_words.specs.OwnCapabilities.{own_caps}
use Rattle.server_words.proofs.AttachLemmas.{both, cause_refuses, fault_kept, said_as, value_cause, word_cause}
use Rattle.server_words.proofs.Building.{rows_as, taken_as}
use Rattle.server_words.proofs.attach.attach_words.Goals as goal

pub returns-clause-fits : goal.returns-clause-fits
returns-clause-fits c =
    let texts = ap (map (λ s. s.now)) c.as_slice.ensures.value ∙ c.in_ok-texts.ensures in
    let rows = rows_as attach_command _ c.args.words.now (rows_of (found_of c.in_ok-matches.matches)) texts c.in_ok-matches.ensures.rows in
    both c.told.result _ _ _ _ _ (λ w hub driver fit own. record {
      taken = taken_as attach_command _ c.args.words.now texts c.in_ok-matches.ensures.taken;
      hub = subst (λ (found : List Row). is_reachable (bare_address (attach_hub found)) ≡ true) rows hub;
      driver = subst (λ (found : List Row). is_reachable (bare_address (attach_driver found)) ≡ true) rows driver;
      texts = subst TextsFit rows fit;
      own = subst (λ (found : List Row). is_some (own_caps (attach_own found)) ≡ true) rows own;
    }) c.told.ensures.hub c.told.ensures.driver c.told.ensures.texts c.told.ensures.own

pub returns-clause-said : goal.returns-clause-said
returns-clause-said c =
    let texts = ap (map (λ s. s.now)) c.as_slice.ensures.value ∙ c.in_ok-texts.ensures in
    let rows = rows_as attach_command _ c.args.words.now (rows_of (found_of c.in_ok-matches.matches)) texts c.in_ok-matches.ensures.rows in
    said_as c.told.result (rows_of (found_of c.in_ok-matches.matches)) c.args.words.now rows c.told.ensures.told

pub returns-clause-why : goal.returns-clause-why
returns-clause-why c =
    let texts = ap (map (λ s. s.now)) c.as_slice.ensures.value ∙ c.in_ok-texts.ensures in
    let rows = rows_as attach_command _ c.args.words.now (rows_of (found_of c.in_ok-matches.matches)) texts c.in_ok-matches.ensures.rows in
    IfErr-weaker c.told.result _ _ (λ f h. value_cause f (rows_of (found_of c.in_ok-matches.matches)) c.args.words.now rows h) c.told.ensures.why

pub returns-clause-refused : goal.returns-clause-refused
returns-clause-refused c =
    let texts = ap (map (λ s. s.now)) c.as_slice.ensures.value ∙ c.in_ok-texts.ensures in
    let rows = rows_as attach_command _ c.args.words.now (rows_of (found_of c.in_ok-matches.matches)) texts c.in_ok-matches.ensures.rows in
    IfErr-weaker c.told.result _ _
    (λ f h other fits. cause_refuses f c.args.words.now (value_cause f (rows_of (found_of c.in_ok-matches.matches)) c.args.words.now rows h) other fits) c.told.ensures.why

pub returns-in_err-matches-clause-refused : goal.returns-in_err-matches-clause-refused
returns-in_err-matches-clause-refused c =
    let texts = ap (map (λ s. s.now)) c.as_slice.ensures.value ∙ c.in_ok-texts.ensures in
    let cause = word_cause c.in_err-matches.field-0.0 _ c.args.words.now texts c.in_err-matches.ensures.why in
    fault_kept c.from_residual-in_err-matches.result c.in_err-matches.field-0.0 _ c.from_residual-in_err-matches.ensures.1
    (λ other fits. cause_refuses c.in_err-matches.field-0.0 c.args.words.now cause other fits)
