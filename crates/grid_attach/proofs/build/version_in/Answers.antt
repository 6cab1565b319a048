use Rattle.std.proofs.Common.{◌∙◌, ap}
use Rattle.std.specs.Prelude.{Option, option_and_then}
use Rattle.serde_json.specs.Data.{Data}
use Rattle.serde_json.specs.Find.{as_str}
use Rattle.grid_attach.specs.Builds.{short_word, version_of_text}
use Rattle.grid_attach.proofs.build.version_in.Goals as goal

pub returns-in-Some-as_str : goal.returns-in-Some-as_str
returns-in-Some-as_str c =
    c.short_word.ensures ∙ ap short_word c.first_word.ensures ∙ ap version_of_text c.in-Some-as_str.ensures
    ∙ ap (λ (found : Option Data). version_of_text (option_and_then as_str found)) c.in-Some.ensures

pub returns-in-None : goal.returns-in-None
returns-in-None c =
    ap version_of_text c.in-None.ensures
    ∙ ap (λ (found : Option Data). version_of_text (option_and_then as_str found)) c.in-Some.ensures
