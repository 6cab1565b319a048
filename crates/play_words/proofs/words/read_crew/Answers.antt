use Rattle.std.proofs.Common.{◌<◌, ◌++◌, length, subst, sym, ap, ◌∙◌, List, arith}
use Rattle.std.proofs.lemmas.Bool.Decides.{nat_tests}
use Rattle.play_words.specs.declared.play.PlayNode.{PlayNode}
use Rattle.play_words.specs.Words.{SaysCrew}
use Rattle.play_words.proofs.PlayLemmas.{all_said, nodes_length}
use Rattle.play_words.proofs.words.read_crew.Goals as goal
use Rattle.play_words.proofs.words.read_crew.Goals.{then-is_empty-via-then-is_empty, then-is_empty-via-else-is_empty+then-words-gt-MOST_NODE_WORDS}

pub returns-then-is_empty-clause-refused : goal.returns-then-is_empty-clause-refused
returns-then-is_empty-clause-refused c = λ _ nodes crew.
    let size = nodes_length c.args.words.now nodes crew.nodes_are in
    let some = crew.some in
    let few = crew.few in
    elim c.then-is_empty.branch [
      | then-is_empty-via-then-is_empty w ↦ grind (arith, nat_tests)
      | then-is_empty-via-else-is_empty+then-words-gt-MOST_NODE_WORDS w ↦ omega (arith, size, few)
    ]

pub returns-in-Ok-clause-ok : goal.returns-in-Ok-clause-ok
returns-in-Ok-clause-ok c =
    let said = c.in-Ok.ensures.ok in
    let size = nodes_length c.args.words.now said.0 said.1 in
    let filled : 0 < length c.args.words.now = grind (arith, nat_tests) in
    let few = c.if-words-gt-MOST_NODE_WORDS.false in
    let is = said.2 ∙ ap (λ (nodes : List PlayNode). nodes ++ said.0) c.new-nodes.ensures in
    subst (SaysCrew c.args.words.now) (sym is) (record { nodes_are = said.1; some = omega (arith, size, filled); few = omega (arith, size, few) })

pub returns-then-not-are_nodes-clause-refused : goal.returns-then-not-are_nodes-clause-refused
returns-then-not-are_nodes-clause-refused c = λ _ nodes crew. c.are_nodes.ensures.none c.if-not-are_nodes.true nodes crew.nodes_are

pub returns-in-Err-clause-memory : goal.returns-in-Err-clause-memory
returns-in-Err-clause-memory c = λ _. all_said c.args.words.now (c.are_nodes.ensures.some c.if-not-are_nodes.false) (grind (arith, nat_tests)) c.if-words-gt-MOST_NODE_WORDS.false
