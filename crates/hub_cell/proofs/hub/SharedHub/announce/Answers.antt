use Rattle.std.proofs.Common.{sym, subst}
use Rattle.std.specs.Prelude.{IfOk, IfErr}
use Rattle.turn_cell.specs.declared.views.View.{View}
use Rattle.hub_cell.specs.declared.grid.Grid.{Grid}
use Rattle.hub_cell.specs.Passes.{knows, config_of, reader_of}
use Rattle.hub_cell.specs.Shared.{SharedServes}
use Rattle.hub_cell.specs.Unanswered.{IsUnanswered}
use Rattle.hub_cell.proofs.LentLemmas.{lender-of}
use Rattle.hub_cell.proofs.hub.SharedHub.announce.Goals as goal

pub keep_up-requires-clause-lender : goal.keep_up-requires-clause-lender
keep_up-requires-clause-lender g c = lender-of c.args.self.now (reader_of c.args.pass.now) c.args.pass.now.lender c.announce_alone-asked.new.pass.lender c.announce_alone-asked.ensures.spares.1 c.requires.own.2

pub returns-clause-serves : goal.returns-clause-serves
returns-clause-serves g c =
    subst (λ (v : View Grid). IfOk c.announce_alone-asked.result (λ a. SharedServes (config_of c.args.self.now) (knows c.args.pass.now) (g.Q.Announces.call c.args.question) (g.Q.Announces.at c.args.question) (g.Q.Announces.reply a) v)) (sym c.keep_up.ensures.same.0)
    c.announce_alone-asked.ensures.serves

pub returns-clause-unanswered : goal.returns-clause-unanswered
returns-clause-unanswered g c =
    subst (λ (v : View Grid). IfErr c.announce_alone-asked.result (IsUnanswered c.args.self.now (knows c.args.pass.now) c.args.question (g.Q.Announces.call c.args.question) (g.Q.Announces.lacks c.args.question) v)) (sym c.keep_up.ensures.same.0)
    c.announce_alone-asked.ensures.unanswered
