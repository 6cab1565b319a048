use Rattle.std.proofs.Common.{◌≡◌, ◌++◌, codes, string_bytes, append_assoc}
use Rattle.std.specs.List.{join_with_byte}
use Rattle.grid_types.specs.Capabilities.{written_caps}
use Rattle.hub_status.specs.Status.{written_group, written_states}
use Rattle.hub_status.proofs.nodes.push_group.Goals as goal

pub returns : goal.returns
unfolding written_group
returns c =
    let a : string_bytes c.push_str-3.new.self ≡ string_bytes c.push_states.new.text ++ codes "]}" = c.in_ok-push_str-3.ensures.bytes in
    let b : string_bytes c.push_states.new.text ≡ string_bytes c.push_str-2.new.self ++ join_with_byte 44 (written_states c.args.first c.args.slots.now) = c.in_ok-push_states.ensures in
    let d : string_bytes c.push_str-2.new.self ≡ string_bytes c.push_caps.new.text ++ codes ",\"states\":[" = c.in_ok-push_str-2.ensures.bytes in
    let e : string_bytes c.push_caps.new.text ≡ string_bytes c.push_str.new.self ++ written_caps c.args.group.now.stereotype = c.in_ok-push_caps.ensures in
    let f : string_bytes c.push_str.new.self ≡ string_bytes c.args.text.now ++ codes "{\"stereotype\":" = c.in_ok-push_str.ensures.bytes in
    rw (a, b, d, e, f) (simp append_assoc)
