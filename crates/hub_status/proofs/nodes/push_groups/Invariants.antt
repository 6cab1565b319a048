use Rattle.std.proofs.Common.{◌≡◌, ◌+◌, ◌++◌, length, take, drop, string_bytes}
use Rattle.std.specs.List.{join_with_byte}
use Rattle.hub_status.specs.Status.{written_groups}
use Rattle.hub_status.proofs.nodes.push_groups.Given as goal

abbrev pub invariant-loop-index : goal.invariant-loop-index
invariant-loop-index l = record {
  counted : l.first + length l.rest ≡ length l.slots;
  written : string_bytes l.text ≡ string_bytes l.fn.text ++ join_with_byte 44 (take l.index (written_groups 0 l.groups l.slots));
  left : drop l.index (written_groups 0 l.groups l.slots) ≡ written_groups l.first (drop l.index l.groups) l.rest;
}
