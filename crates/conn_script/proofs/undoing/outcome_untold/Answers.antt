use Rattle.conn_script.proofs.UndoLemmas.{created_leads, settled_leads}
use Rattle.conn_script.proofs.undoing.outcome_untold.Goals as goal

pub returns-in-Created-clause-leads : goal.returns-in-Created-clause-leads
returns-in-Created-clause-leads c =
    created_leads c.args.outcome.now c.in-Created.session c.in-Created.caps c.in-Created.slot c.in-Created.address c.in-Created.binding c.in-Created.is

pub returns-in_default-clause-leads : goal.returns-in_default-clause-leads
returns-in_default-clause-leads c = settled_leads c.args.outcome.now c.in_default.not-Created
