use Rattle.play_words.proofs.PlayLemmas.{node_said}
use Rattle.play_words.proofs.nodes.is_node.Goals as goal

pub returns-in-Some-number_of-clause-some : goal.returns-in-Some-number_of-clause-some
returns-in-Some-number_of-clause-some c = λ _.
    node_said c.args.word.now c.args.slots.now c.in-Some._said.browser.now c.in-Some._said.version.now c.in-Some._said.refuses c.in-Some-number_of._count c.in-Some.ensures.some
    c.in-Some-number_of.ensures.some

pub returns-in-None-clause-none : goal.returns-in-None-clause-none
returns-in-None-clause-none c = λ _ node s. c.in-None.ensures.none node.browser node.version node.refuses s.word_is
