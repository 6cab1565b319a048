use Rattle.loop_node.specs.Sizes.{has_short_url}
use Rattle.loop_node.proofs.NodeLemmas.{put_at}
use Rattle.loop_node.proofs.ListLemmas.{all_set}
use Rattle.loop_node.proofs.node.put_url.Goals as goal

pub returns-clause-moved : goal.returns-clause-moved
returns-clause-moved c = λ id f. put_at id c.args.url c.args.sessions.now.items c.args.place c.index_mut.result.now f c.index_mut.ensures.value

pub returns-clause-short : goal.returns-clause-short
returns-clause-short c = λ all one. all_set has_short_url c.args.sessions.now.items c.args.place _ all one
