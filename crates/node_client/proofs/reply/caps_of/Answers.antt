use Rattle.std.proofs.Common.{◌≡◌, List, ◌+◌, [], ◌∷◌, ◌++◌, drop, sym, ap, ◌∙◌, append_assoc, append-nil}
use Rattle.grid_types.specs.declared.capabilities.Cap.{Cap}
use Rattle.caps_merge.specs.Placed.{Member}
use Rattle.caps_merge.specs.Merging.{cap_of}
use Rattle.node_client.specs.Replies.{caps_of}
use Rattle.node_client.proofs.MemberLemmas.{next_pair, all_pairs}
use Rattle.node_client.proofs.reply.caps_of.Goals as goal

one_more : (ms rest : List Member) (m : Member) (caps new : List Cap) (left : List Member) → caps_of ms ≡ caps ++ caps_of left → left ≡ m ∷ rest → new ≡ caps ++ cap_of m ∷ [] →
    caps_of ms ≡ new ++ caps_of rest
one_more ms rest m caps new left so is add =
    so ∙ ap (λ (xs : List Member). caps ++ caps_of xs) is ∙ sym (append_assoc caps (cap_of m ∷ []) (caps_of rest)) ∙ ap (λ (xs : List Cap). xs ++ caps_of rest) (sym add)

pub push_cap-requires : goal.push_cap-requires
push_cap-requires c =
    let n = next_pair c.args.members.now c.requires.0 c.loop-member.member-index c.member-item.result c.requires.1 c.loop-member-test.true c.member-item.is in
    (n.m, n.shown)

pub loop-member-preserved : goal.loop-member-preserved
loop-member-preserved c = λ ms h.
    let n = next_pair c.args.members.now ms c.loop-member.member-index c.member-item.result h c.loop-member-test.true c.member-item.is in
    one_more ms (drop (c.loop-member.member-index + 1) ms) n.m c.loop-member.caps c.push_cap.new.caps (drop c.loop-member.member-index ms) (c.loop-member.invariant ms h) n.left (c.in_ok-push_cap.ensures n.m n.shown)

pub returns : goal.returns
returns c = λ ms h.
    sym (c.loop-member.invariant ms h ∙ ap (λ (xs : List Member). c.loop-member.caps ++ caps_of xs) (all_pairs c.args.members.now ms c.loop-member.member-index h c.loop-member-test.false) ∙ append-nil c.loop-member.caps)
