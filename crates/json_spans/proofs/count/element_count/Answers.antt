use Rattle.std.proofs.Common.{◌∙◌}
use Rattle.json_spans.specs.Span.{part_of}
use Rattle.json_spans.proofs.Counting.{not_list}
use Rattle.json_spans.proofs.count.element_count.Goals as goal

pub returns-in_default : goal.returns-in_default
returns-in_default c = not_list (part_of c.args.span) (λ e. c.in_default.not-List (c.kind.ensures ∙ e))
