use Rattle.json_spans.specs.Span.{part_of}
use Rattle.loop_node.proofs.ReadingLemmas.{value_of, shown, read_value, read_none}
use Rattle.loop_node.proofs.reading.object_of.Goals as goal

pub object_in-requires : goal.object_in-requires
object_in-requires c =
    let cut = c.in-Ok.ensures.ok.1 in
    (value_of _ (part_of c.in-Ok.value) cut, shown _ (part_of c.in-Ok.value) cut)

pub returns-in-Ok : goal.returns-in-Ok
returns-in-Ok c = read_value _ (part_of c.in-Ok.value) _ c.in-Ok.ensures.ok.0 c.in-Ok.ensures.ok.1 c.object_in.ensures

pub returns-in-Err : goal.returns-in-Err
returns-in-Err c = read_none _ _ c.in-Err.ensures.refused
