use Rattle.std.proofs.Common.{◌+◌, ◌*◌, ◌^◌, ◌∙◌, ap}
use Rattle.std.proofs.lemmas.Bool.{false≢true}
use Rattle.std.specs.Int.{to_be_bytes, w128}
use Rattle.uuid.specs.Text.{hyphenated_text, lower}
use Rattle.loop_node.specs.Sessions.{session_id}
use Rattle.grid_types.specs.Names.{is_session_name}
use Rattle.loop_node.proofs.SessionLemmas.{text_named}
use Rattle.loop_node.proofs.node.session_of.Goals as goal

pub unreachable-requires : goal.unreachable-requires
unreachable-requires c =
    let text = c.as_bytes.ensures.value ∙ c.encode_lower-text.ensures.text in
    false≢true (c.in-None.ensures.variant ∙ ap is_session_name text ∙ text_named _)

pub returns : goal.returns
unfolding session_id
returns c =
    c.in-Some.ensures.value ∙ c.as_bytes.ensures.value ∙ c.encode_lower-text.ensures.text
    ∙ ap (hyphenated_text lower) (c.hyphenated.ensures ∙ c.from_u64_pair-id.ensures ∙ ap (λ k. to_be_bytes w128 (k * 2 ^ 64 + c.args.n)) c.from.ensures)
