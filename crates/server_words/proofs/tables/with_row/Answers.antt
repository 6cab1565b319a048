use Rattle.std.proofs.Common.{refl}
use Rattle.std.proofs.lemmas.Result.{IfOk-weaker}
use Rattle.server_words.proofs.Building.{with_option}
use Rattle.server_words.proofs.tables.with_row.Goals as goal

pub returns : goal.returns
returns c = IfOk-weaker c.arg.result _ _ (λ d added. with_option _ _ c.args.command d c.option_of.result refl added c.option_of.ensures.local c.option_of.ensures.rule) c.arg.ensures
