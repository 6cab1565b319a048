use Rattle.std.proofs.Common.{◌≡◌, ℕ, List, true, false, ap, subst, ◌∙◌, arith}
use Rattle.clap.specs.Words.{found_of, rows_of}
use Rattle.server_words.specs.Addresses.{bare_address, is_reachable}
use Rattle.server_words.proofs.AttachLemmas.{slots_fit, told_as}
use Rattle.server_words.proofs.Limits.{wider}
use Rattle.server_words.proofs.attach.told.Goals as goal

pub number-requires : goal.number-requires
number-requires c = record { small = wider _ 1 64 (omega arith) (slots_fit (rows_of (found_of c.args.matches.now)) c.requires) }

pub overflow_cast-result : goal.overflow_cast-result
overflow_cast-result c =
    let slots = c.number.ensures.within 1 64 (slots_fit (rows_of (found_of c.args.matches.now)) c.requires) (omega arith) (omega arith) in
    omega (arith, slots)

pub returns-in_default-clause-why : goal.returns-in_default-clause-why
returns-in_default-clause-why c =
    subst (λ (text : List ℕ). is_reachable (bare_address text) ≡ false) c.text.ensures c.in_default.ensures.none

pub returns-in_default-address_in-clause-why : goal.returns-in_default-address_in-clause-why
returns-in_default-address_in-clause-why c =
    subst (λ (text : List ℕ). is_reachable (bare_address text) ≡ false) c.text-2.ensures c.in_default-address_in.ensures.none

pub returns-clause-driver : goal.returns-clause-driver
returns-clause-driver c =
    subst (λ (text : List ℕ). is_reachable (bare_address text) ≡ true) c.text-2.ensures c.in-Some-address_in.ensures.taken

pub returns-clause-told : goal.returns-clause-told
returns-clause-told c =
    told_as (rows_of (found_of c.args.matches.now)) c.in-Some.hub c.in-Some-address_in.driver c.in-Ok.called.name c.in-Ok.called.browser c.in-Ok.called.version c.in-Ok.called.platform
    c.number.result c.in_ok-own.own c.truth.result
    (c.in-Some.ensures.some ∙ ap bare_address c.text.ensures) (c.in-Some-address_in.ensures.some ∙ ap bare_address c.text-2.ensures)
    c.in-Ok.ensures.name c.in-Ok.ensures.browser c.in-Ok.ensures.version c.in-Ok.ensures.platform
    c.number.ensures.value c.in_ok-own.ensures.ok c.truth.ensures
