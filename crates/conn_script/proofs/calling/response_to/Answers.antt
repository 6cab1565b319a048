use Rattle.std.proofs.Common.{refl}
use Rattle.std.specs.Prelude.{decimal}
use Rattle.grid_types.specs.Calls.{Reply}
use Rattle.conn_script.specs.declared.calling.Asked.TheVariants as asked
use Rattle.conn_script.specs.declared.wants.HubAnswer.TheVariants as answers
use Rattle.conn_script.specs.Responses.{success}
use Rattle.conn_script.proofs.CallLemmas.{told_responds, responds_clear, kept_responds, asked_beat, asked_drain, asked_remove}
use Rattle.conn_script.proofs.calling.response_to.Goals as goal

pub returns-in-Beat : goal.returns-in-Beat
returns-in-Beat c =
    kept_responds c.args.answer.now (answers.Beat c.in-Beat.answer) c.args.asked asked.Beat c.args.close c.beaten.result c.in-Beat.is
    (asked_beat c.args.answer.now c.in-Beat.answer c.args.asked c.in-Beat.is c.requires) c.beaten.ensures

pub returns-in-Drain : goal.returns-in-Drain
returns-in-Drain c =
    kept_responds c.args.answer.now (answers.Drain c.in-Drain.answer) c.args.asked asked.Drain c.args.close c.drained.result c.in-Drain.is
    (asked_drain c.args.answer.now c.in-Drain.answer c.args.asked c.in-Drain.is c.requires) c.drained.ensures

pub returns-in-Remove : goal.returns-in-Remove
returns-in-Remove c =
    kept_responds c.args.answer.now (answers.Remove c.in-Remove.answer) c.args.asked asked.Remove c.args.close c.removed.result c.in-Remove.is
    (asked_remove c.args.answer.now c.in-Remove.answer c.args.asked c.in-Remove.is c.requires) c.removed.ensures

pub returns-in-Clear : goal.returns-in-Clear
returns-in-Clear c =
    told_responds c.args.answer.now (answers.Clear c.in-Clear.count) c.args.asked (Reply.cleared c.in-Clear.count) (success (decimal c.in-Clear.count)) c.args.close c.cleared.result c.in-Clear.is refl
    (responds_clear c.args.answer.now c.in-Clear.count c.args.asked (Reply.cleared c.in-Clear.count) (success (decimal c.in-Clear.count)) c.in-Clear.is c.requires refl) c.cleared.ensures
