use Rattle.std.proofs.Common.{◌<◌, length, ap, ◌∙◌, List, arith}
use Rattle.std.proofs.lemmas.Bool.Decides.{nat_tests}
use Rattle.team_words.specs.declared.team_play.TeamPlay.{TeamPlay}
use Rattle.team_words.specs.Teams.{all_put}
use Rattle.team_words.proofs.TeamNodeLemmas.{all_said, nodes_length}
use Rattle.team_words.proofs.words.read_crews.Goals as goal
use Rattle.team_words.proofs.words.read_crews.Goals.{then-is_empty-via-then-is_empty, then-is_empty-via-else-is_empty+then-words-gt-MOST_NODE_WORDS}

pub returns-then-is_empty-clause-refused : goal.returns-then-is_empty-clause-refused
returns-then-is_empty-clause-refused c = λ _ teams crews.
    let size = nodes_length c.args.words.now crews.nodes crews.nodes_are in
    let some = crews.some in
    let few = crews.few in
    elim c.then-is_empty.branch [
      | then-is_empty-via-then-is_empty w ↦ grind (arith, nat_tests)
      | then-is_empty-via-else-is_empty+then-words-gt-MOST_NODE_WORDS w ↦ omega (arith, size, few)
    ]

pub returns-in-Ok-clause-ok : goal.returns-in-Ok-clause-ok
returns-in-Ok-clause-ok c =
    let said = c.in-Ok.ensures.ok in
    let size = nodes_length c.args.words.now said.0 said.1 in
    let filled : 0 < length c.args.words.now = grind (arith, nat_tests) in
    let few = c.if-words-gt-MOST_NODE_WORDS.false in
    record {
      nodes = said.0;
      nodes_are = said.1;
      some = omega (arith, size, filled);
      few = omega (arith, size, few);
      teams_are = said.2 ∙ ap (λ (ts : List TeamPlay). all_put ts said.0) c.new-teams.ensures.items;
    }

pub returns-in-Err-clause-memory : goal.returns-in-Err-clause-memory
returns-in-Err-clause-memory c = λ _.
    all_said c.args.words.now (c.are_team_nodes.ensures.some c.if-not-are_team_nodes.false) (grind (arith, nat_tests)) c.if-words-gt-MOST_NODE_WORDS.false
