use Rattle.std.proofs.Common.{ap, ◌∙◌}
use Rattle.std.specs.List.{list_all}
use Rattle.loop_node.specs.Sizes.{has_short_url}
use Rattle.loop_node.proofs.NodeLemmas.{take_at}
use Rattle.loop_node.proofs.ListLemmas.{all_but}
use Rattle.loop_node.proofs.node.take_out.Goals as goal

pub returns-clause-without : goal.returns-clause-without
returns-clause-without c = λ id f. c.remove.ensures.by_index.2 ∙ take_at id c.args.sessions.now.items c.args.place f

pub returns-clause-short : goal.returns-clause-short
returns-clause-short c = λ all. ap (list_all has_short_url) c.remove.ensures.by_index.2 ∙ all_but has_short_url c.args.sessions.now.items c.args.place all
