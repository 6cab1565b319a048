use Rattle.std.proofs.Common.{◌≡◌, ◌+◌, ◌++◌, ◌∷◌, ◌<◌, ◌==◌, [], ℕ, List, cond, length, map, take, string_bytes, sym, ap, ◌∙◌, arith, append_assoc}
use Rattle.std.proofs.lemmas.List.{take_all, length-append}
use Rattle.std.proofs.lemmas.Bool.Decides.{nat_tests}
use Rattle.std.proofs.lemmas.Grind.{common_steps}
use Rattle.std.specs.List.{join_with_byte}
use Rattle.grid_types.specs.declared.capabilities.Cap.{Cap}
use Rattle.grid_types.specs.Capabilities.{written_member}
use Rattle.wd_bodies.specs.Bodies.{is_for_nodes, for_nodes}
use Rattle.wd_bodies.proofs.Joined.{kept-more, kept-same, joined-after}
use Rattle.wd_bodies.proofs.capabilities.push_for_nodes.Goals as goal
use Rattle.wd_bodies.proofs.capabilities.push_for_nodes.Goals.{then-is_for_nodes+in_ok-push_after, else-is_for_nodes}

pub returns : goal.returns
returns c = let all = take_all c.loop-member.member-index c.args.members.now (omega arith) in grind (arith, common_steps)

pub loop-member-preserved : goal.loop-member-preserved
loop-member-preserved c =
    let members = c.args.members.now in
    let i = c.loop-member.member-index in
    let member = c.member-item.result in
    let within : i < length members = omega arith in
    elim c.if-is_for_nodes.branch [
      | then-is_for_nodes+in_ok-push_after w ↦
          let more = kept-more is_for_nodes members i member within c.member-item.is (sym c.is_for_nodes.ensures ∙ w.if-is_for_nodes.true) in
          let joined = joined-after 44 written_member (for_nodes (take i members)) member c.loop-member.is_first c.loop-member.invariant.first in
          let length_more : length (for_nodes (take (i + 1) members)) ≡ length (for_nodes (take i members)) + 1 = ap length more ∙ length-append (for_nodes (take i members)) (member ∷ []) in
          let same_text = ap (λ (kept : List Cap). join_with_byte 44 (map written_member kept)) more ∙ joined in
          let last = cond c.loop-member.is_first (written_member member) (44 ∷ written_member member) in
          record {
            written = ap string_bytes w.text-is ∙ w.in_ok-push_after.ensures
                ∙ ap (λ (text : List ℕ). text ++ last) c.loop-member.invariant.written
                ∙ append_assoc (string_bytes c.args.text.now) (join_with_byte 44 (map written_member (for_nodes (take i members)))) last
                ∙ ap (λ (text : List ℕ). string_bytes c.args.text.now ++ text) (sym same_text);
            first = grind (arith, nat_tests);
          }
      | else-is_for_nodes w ↦
          let same = kept-same is_for_nodes members i member within c.member-item.is (sym c.is_for_nodes.ensures ∙ w.if-is_for_nodes.false) in
          record {
            written = ap string_bytes w.text-is ∙ c.loop-member.invariant.written
                ∙ ap (λ (kept : List Cap). string_bytes c.args.text.now ++ join_with_byte 44 (map written_member kept)) (sym same);
            first = w.is_first-is ∙ c.loop-member.invariant.first ∙ ap (λ (kept : List Cap). length kept == 0) (sym same);
          }
    ]
