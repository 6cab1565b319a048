use Rattle.std.proofs.Common.{ℕ, List, true, sym, ap, subst, ◌∙◌}
use Rattle.play_words.specs.declared.play.PlayNode.{PlayNode}
use Rattle.play_words.specs.Words.{SaysNode}
use Rattle.team_words.specs.Words.{is_team_name}
use Rattle.team_words.proofs.TeamNodeLemmas.{node_said}
use Rattle.team_words.proofs.nodes.is_team_node.Goals as goal

pub returns-then-is_team_name-clause-some : goal.returns-then-is_team_name-clause-some
returns-then-is_team_name-clause-some c = λ e.
    let node = subst (λ (w : List ℕ). (n : PlayNode) × SaysNode w c.args.slots.now n) c.as_str-then-is_team_name.ensures.bytes
    (subst (λ (s : List ℕ). (n : PlayNode) × SaysNode c.as_str-then-is_team_name.result.now s n) c.as_str-then-is_team_name-2.ensures.bytes (c.is_node.ensures.some e)) in
    let name = ap is_team_name (sym (c.as_bytes.ensures.value ∙ c.as_str.ensures.bytes)) ∙ sym c.is_team_name.ensures ∙ c.if-is_team_name.true in
    node_said c.args.team.now c.args.word.now c.args.slots.now name node
