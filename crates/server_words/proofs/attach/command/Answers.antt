use Rattle.std.proofs.lemmas.Result.{IfOk-weaker}
use Rattle.std.specs.Prelude.{codes}
use Rattle.server_words.specs.AttachOptions.{attach_command, attach_rules}
use Rattle.server_words.proofs.AttachLemmas.{attach_simple}
use Rattle.server_words.proofs.Building.{all_options, started}
use Rattle.server_words.proofs.attach.command.Goals as goal

pub returns-clause-app : goal.returns-clause-app
unfolding attach_command
returns-clause-app c =
    let begun = started (codes "grid_attach") c.new.result c.no_binary_name-bare.result c.new.ensures.app c.no_binary_name-bare.ensures in
    IfOk-weaker c.with_options.result _ _ (λ d built. all_options _ _ _ attach_rules begun built) c.with_options.ensures

pub returns-clause-simple : goal.returns-clause-simple
unfolding attach_command
returns-clause-simple c =
    let begun = started (codes "grid_attach") c.new.result c.no_binary_name-bare.result c.new.ensures.app c.no_binary_name-bare.ensures in
    IfOk-weaker c.with_options.result _ _ (λ d built. attach_simple _ (all_options _ _ _ attach_rules begun built)) c.with_options.ensures
