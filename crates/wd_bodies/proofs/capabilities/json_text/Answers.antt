use Rattle.std.proofs.Common.{◌∙◌}
use Rattle.serde_json.proofs.FreeTexts.{text_of_str}
use Rattle.wd_bodies.proofs.Quoted.{quoted-json_string}
use Rattle.wd_bodies.proofs.capabilities.json_text.Goals as goal

pub returns-in-Ok : goal.returns-in-Ok
returns-in-Ok c =
    let h = c.in-Ok.ensures.events in
    c.from_string.ensures ∙ text_of_str _ h.0 _ h.1 h.2 ∙ quoted-json_string _
