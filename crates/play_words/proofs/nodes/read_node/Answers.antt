use Rattle.play_words.proofs.nodes.read_node.Goals as goal

pub returns-in_default-clause-refused : goal.returns-in_default-clause-refused
returns-in_default-clause-refused c = λ _ node said. c.in_default.ensures.none node.browser node.version node.refuses said.word_is
