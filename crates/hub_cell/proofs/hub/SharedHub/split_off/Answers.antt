use Rattle.std.proofs.Common.{◌≡◌, ℕ, sym, subst}
use Rattle.std.specs.Prelude.{IfOk, IfErr, OnOk}
use Rattle.turn_cell.specs.declared.views.View.{View}
use Rattle.turn_cell.specs.Rule.{NotAmong, numbers_of}
use Rattle.turn_cell.specs.Steps.{opened_at, IsExact}
use Rattle.hub_cell.specs.declared.grid.Grid.{Grid}
use Rattle.hub_cell.specs.Passes.{knows, reader_of, IsFault, IsOf}
use Rattle.hub_cell.specs.Shared.{LooksOnce}
use Rattle.hub_cell.proofs.LentLemmas.{lender-of}
use Rattle.hub_cell.proofs.hub.SharedHub.split_off.Goals as goal

pub keep_up-requires-clause-lender : goal.keep_up-requires-clause-lender
keep_up-requires-clause-lender g c = lender-of c.args.self.now (reader_of c.args.pass.now) c.args.pass.now.lender c.split_alone-split.new.pass.lender c.split_alone-split.ensures.spares.1 c.requires.2

pub returns-clause-turn : goal.returns-clause-turn
returns-clause-turn g c = subst (λ (v : View Grid). OnOk c.split_alone-split.result (LooksOnce (knows c.args.pass.now) v)) (sym c.keep_up.ensures.same.0) c.split_alone-split.ensures.turn

pub returns-clause-split : goal.returns-clause-split
returns-clause-split g c =
    subst (λ (v : View Grid). IfOk c.split_alone-split.result (λ p. IsOf c.args.self.now p × ((n : ℕ) × (knows p ≡ opened_at n v)) × IsExact (knows p))) (sym c.keep_up.ensures.same.0) c.split_alone-split.ensures.split

pub returns-clause-number : goal.returns-clause-number
returns-clause-number g c = subst (λ (v : View Grid). IfOk c.split_alone-split.result (λ p. NotAmong (knows p).number (numbers_of v))) (sym c.keep_up.ensures.same.0) c.split_alone-split.ensures.number

pub returns-clause-fault : goal.returns-clause-fault
returns-clause-fault g c = subst (λ (v : View Grid). IfErr c.split_alone-split.result (IsFault c.args.self.now (knows c.args.pass.now) v)) (sym c.keep_up.ensures.same.0) c.split_alone-split.ensures.fault
