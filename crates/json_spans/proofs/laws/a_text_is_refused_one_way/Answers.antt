use Rattle.json_spans.proofs.OneFault.{refused_one_way, not_both}
use Rattle.json_spans.proofs.laws.a_text_is_refused_one_way.Goals as goal

pub returns : goal.returns
returns c = record { fault = refused_one_way; read = not_both }
