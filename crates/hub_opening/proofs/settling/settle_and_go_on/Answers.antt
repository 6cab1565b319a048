use Rattle.std.proofs.Common.{ℕ, ◌+◌, sym, ap, ◌∙◌, subst}
use Rattle.std.proofs.lemmas.Result.{err_from_is_err_and}
use Rattle.grid_types.specs.declared.config.HubConfig.{HubConfig}
use Rattle.grid_types.specs.Config.{IsValid}
use Rattle.grid_ledger.specs.declared.ledger.GridLedger.{GridLedger}
use Rattle.hub_cell.specs.Passes.{BeginsAs}
use Rattle.hub_opening.proofs.SettlingLemmas.{begun, continues, handed, why_not}
use Rattle.hub_opening.proofs.settling.settle_and_go_on.Goals as goal

pub go_on-requires-clause-valid : goal.go_on-requires-clause-valid
go_on-requires-clause-valid g c =
    let a = c.args in let r = c.requires.read in
    let to = c.in_ok-settled.ensures.settles r.history (begun a.ledger a.listener a.keeping a.most_caller c.new-opening.result r.history c.new-opening.ensures r.has_read) in
    let same = to.hands_over.same_config ∙ ap (λ (z : GridLedger). z.config) c.new-opening.ensures.same_ledger in
    subst (λ (z : HubConfig). IsValid z) (sym same) c.requires.valid

pub go_on-requires-clause-handed : goal.go_on-requires-clause-handed
go_on-requires-clause-handed g c =
    let a = c.args in let r = c.requires.read in
    handed c.new-opening.result _ r.history (c.in_ok-settled.ensures.settles r.history (begun a.ledger a.listener a.keeping a.most_caller c.new-opening.result r.history c.new-opening.ensures r.has_read))

pub returns-in-Ok-clause-goes_on : goal.returns-in-Ok-clause-goes_on
returns-in-Ok-clause-goes_on g c = record {
  of = λ H r.
      let a = c.args in
      let to = c.in_ok-settled.ensures.settles H (begun a.ledger a.listener a.keeping a.most_caller c.new-opening.result H c.new-opening.ensures r) in
      continues a.ledger c.new-opening.result _ H _ _ _ to (ap (λ (z : GridLedger). z.config) c.new-opening.ensures.same_ledger) c.in-Ok.ensures.stands c.in-Ok.ensures.keeping c.in-Ok.ensures.first;
}

pub returns-in-Ok-clause-pass : goal.returns-in-Ok-clause-pass
returns-in-Ok-clause-pass g c = (subst (λ (n : ℕ). BeginsAs n c.in-Ok.begun.1) (sym c.in-Ok.ensures.first) c.in-Ok.ensures.pass.0, c.in-Ok.ensures.pass.1)

pub returns-in-Ok-clause-next : goal.returns-in-Ok-clause-next
returns-in-Ok-clause-next g c =
    let a = c.args in let r = c.requires.read in
    let to = c.in_ok-settled.ensures.settles r.history (begun a.ledger a.listener a.keeping a.most_caller c.new-opening.result r.history c.new-opening.ensures r.has_read) in
    c.in-Ok.ensures.first ∙ (to.next ∙ ap (λ (n : ℕ). n + 1) c.new-opening.ensures.same_most)

pub returns-in_err-settled-clause-reason : goal.returns-in_err-settled-clause-reason
returns-in_err-settled-clause-reason g c =
    let a = c.args in
    let p = err_from_is_err_and c.from_residual.result c.from_residual.ensures.1 in
    rw (p.1, p.2) (why_not a.ledger a.listener a.keeping a.most_caller a.at.0 c.new-opening.result c.in_err-settled.field-0.0.keeper c.in_err-settled.field-0.0.fault c.new-opening.ensures c.in_err-settled.ensures.reason)
