use Rattle.std.proofs.Common.{ℕ, List, ◌+◌, ◌++◌, drop, take, subst, arith, length-drop}
use Rattle.http_frames.specs.Feeding.{Fed, Feeds}
use Rattle.grid_teams_top.proofs.HeadLemmas.{further}
use Rattle.grid_teams_top.proofs.heads.feed_head.Goals as goal

pub parts-preserved : goal.parts-preserved
parts-preserved c =
    let bytes = c.args.bytes.now in
    let at = c.parts.at in
    let n = c.in_ok-count.count in
    let inv = c.parts.invariant in
    let new = c.feed.new.self in
    let feeds : Feeds c.parts.reader (drop at bytes) n new =
    subst (λ (p : List ℕ). Feeds c.parts.reader p n new) c.behind.ensures c.in_ok-count.ensures.fed in
    record {
      stands = (inv.stands.0, inv.stands.1 ++ take n (drop at bytes), feeds.fed inv.stands.0 inv.stands.1 inv.stands.2);
      within = omega (arith, feeds.inside, length-drop at bytes, inv.within);
      fed = λ limits before f. subst (λ (t : List ℕ). Fed limits new t) (further before bytes at n) (feeds.fed limits (before ++ take at bytes) (inv.fed limits before f));
    }

pub returns : goal.returns
returns c = λ limits before f. record {
  count = c.parts.at;
  within = c.parts.invariant.within;
  fed = c.parts.invariant.fed limits before f;
  told = c.reads_on.ensures.over c.parts-test.false limits _ (c.parts.invariant.fed limits before f);
}
