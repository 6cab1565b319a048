use Rattle.std.proofs.Common.{◌≡◌, ◌++◌, length, take, drop, min, string_bytes, ℕ, ap, ◌∙◌, arith, append_assoc}
use Rattle.std.proofs.lemmas.List.{take_all}
use Rattle.hub_status.specs.Status.{written_group, written_groups}
use Rattle.hub_status.specs.Joined.{comma}
use Rattle.hub_status.proofs.Rows.{length-written_groups, group-written, groups-left}
use Rattle.hub_status.proofs.nodes.push_groups.Goals as goal

pub returns : goal.returns
returns c =
    let long = length-written_groups 0 c.args.groups.now c.args.slots.now in
    let all = take_all c.loop-index.index (written_groups 0 c.args.groups.now c.args.slots.now) (omega arith) in
    let written = c.loop-index.invariant.written in
    rw all at written

pub loop-index-preserved : goal.loop-index-preserved
loop-index-preserved c =
    let W = written_groups 0 c.args.groups.now c.args.slots.now in
    let long = length-written_groups 0 c.args.groups.now c.args.slots.now in
    let inv = c.loop-index.invariant in
    let own : c.split_at.result.0.now ≡ take (min c.index-groups-index.result.count (length c.loop-index.rest.now)) c.loop-index.rest.now =
    c.split_at.ensures.front ∙ ap (λ (n : ℕ). take n c.loop-index.rest.now) c.slots_of.ensures in
    let others : c.split_at.result.1.now ≡ drop (min c.index-groups-index.result.count (length c.loop-index.rest.now)) c.loop-index.rest.now =
    c.split_at.ensures.back ∙ ap (λ (n : ℕ). drop n c.loop-index.rest.now) c.slots_of.ensures in
    let step = group-written W c.loop-index.index c.loop-index.first c.args.groups.now c.loop-index.rest.now c.split_at.result.0.now c.index-groups-index.result
    long (omega arith) c.index-groups-index.is own inv.left in
    let a : string_bytes c.push_group.new.text ≡ string_bytes c.push_comma.new.text ++ written_group c.loop-index.first c.index-groups-index.result c.split_at.result.0.now =
    c.in_ok-push_group.ensures in
    let b : string_bytes c.push_comma.new.text ≡ string_bytes c.loop-index.text ++ comma c.loop-index.index = c.in_ok-push_comma.ensures in
    record {
      counted = omega (arith, c.split_at.ensures.front_len, c.split_at.ensures.back_len);
      written = rw (a, b, inv.written, step) (simp append_assoc);
      left = groups-left W c.loop-index.index c.loop-index.first c.args.groups.now c.loop-index.rest.now c.split_at.result.0.now c.split_at.result.1.now c.index-groups-index.result
          (omega arith) c.index-groups-index.is own others inv.left;
    }
