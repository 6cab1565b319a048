use Rattle.json_spans.proofs.OneTree.{read_one_way}
use Rattle.json_spans.proofs.laws.a_text_is_read_one_way.Goals as goal

pub returns : goal.returns
returns c = read_one_way
