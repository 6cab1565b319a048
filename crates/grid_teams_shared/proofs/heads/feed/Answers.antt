use Rattle.std.proofs.Common.{ℕ, List, ◌∙◌, ap, drop, subst, arith, length-drop}
use Rattle.http_frames.specs.declared.frames.TheConstants.{LIMITS}
use Rattle.http_frames.specs.Feeding.{Fed, Feeds}
use Rattle.grid_teams_shared.specs.Heads.{fed_of}
use Rattle.grid_teams_shared.proofs.HeadLemmas.{fed_further}
use Rattle.grid_teams_shared.proofs.heads.feed.Goals as goal

pub returns-in-Ok : goal.returns-in-Ok
returns-in-Ok c = λ old new r.
    let bytes = c.args.ahead.now.bytes.items in
    let at = c.args.ahead.now.fed in
    let n = c.in-Ok.count in
    let reader = c.feed.new.self in
    let feeds : Feeds c.args.ahead.now.reader (drop at bytes) n reader =
    subst (λ (p : List ℕ). Feeds c.args.ahead.now.reader p n reader) (c.behind.ensures ∙ ap (drop at) c.as_slice.ensures.value) c.in-Ok.ensures.fed in
    record {
      within = omega (arith, feeds.inside, length-drop at bytes, r.within);
      fed = subst (λ (t : List ℕ). Fed LIMITS reader t) (fed_further bytes at n) (feeds.fed LIMITS (fed_of c.args.ahead.now) r.fed);
      gave = r.gave;
      unended = r.unended;
      few = r.few;
    }
