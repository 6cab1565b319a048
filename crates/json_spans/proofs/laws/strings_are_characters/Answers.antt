use Rattle.json_spans.proofs.Characters.{read_is}
use Rattle.json_spans.proofs.laws.strings_are_characters.Goals as goal

pub returns : goal.returns
returns c = read_is
