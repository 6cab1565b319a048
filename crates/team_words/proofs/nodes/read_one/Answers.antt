use Rattle.std.proofs.Common.{ℕ, List, not, refl, sym, ap, subst, ◌∙◌}
use Rattle.play_words.specs.Words.{SaysNode}
use Rattle.team_words.specs.Teams.{put_in}
use Rattle.team_words.specs.Words.{is_team_name}
use Rattle.team_words.proofs.nodes.read_one.Goals as goal

pub returns-clause-ok : goal.returns-clause-ok
returns-clause-ok c =
    let node = c.in_ok-node.node in
    let says = subst (λ (w : List ℕ). SaysNode w c.args.slots.now node) c.as_str-description.ensures.bytes
    (subst (λ (s : List ℕ). SaysNode c.as_str-description.result.now s node) c.as_str-count.ensures.bytes c.in_ok-node.ensures.ok) in
    let name = ap is_team_name (sym (c.as_bytes.ensures.value ∙ c.as_str-name.ensures.bytes)) ∙ sym c.is_team_name.ensures ∙ c.if-not-is_team_name.false in (
      record { team = c.args.team.now; node = node },
      record { is_name = name; named = refl; node_is = says },
      c.in_ok-put.ensures ∙ ap (λ (n : List ℕ). put_in c.args.teams.now.items n node) c.as_str-name.ensures.bytes,
    )
