use Rattle.std.proofs.Common.{◌+◌, take, drop, sym, ◌∙◌, arith}
use Rattle.std.proofs.lemmas.List.{length-take-le}
use Rattle.loop_node.proofs.SeekLemmas.{split_at}
use Rattle.loop_node.proofs.links.place_of.Goals as goal

pub returns-then-is_at : goal.returns-then-is_at
returns-then-is_at c =
    let nodes = c.args.nodes.now in
    let i = c.loop-index.index in
    record {
      before = take i nodes;
      node = c.index-nodes-index.result;
      behind = drop (i + 1) nodes;
      are = split_at nodes i c.index-nodes-index.result (omega arith) c.index-nodes-index.is;
      place_is = sym (length-take-le i nodes (omega arith));
      at = sym c.is_at.ensures ∙ c.if-is_at.true;
    }
