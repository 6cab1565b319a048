use Rattle.std.proofs.Common.{Result, Ok, Err, IfOk}
use Rattle.json_spans.specs.Span.{part_of}
use Rattle.json_spans.proofs.Characters.{is_meaning}
use Rattle.json_spans.proofs.strings.text.Goals as goal

if_ok : {A E : Type 0} (r : Result A E) (P Q : A → Type 0) → ((a : A) → P a → Q a) → IfOk r P → IfOk r Q
if_ok (Ok a) P Q f h = f a h
if_ok (Err e) P Q f h = tt

pub returns-clause-characters : goal.returns-clause-characters
returns-clause-characters c = if_ok c.read_text.result _ _ (λ t h. is_meaning (part_of c.args.span) t h) c.read_text.ensures
