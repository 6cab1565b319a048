use Rattle.std.proofs.Common.{◌≡◌, ℕ, ◌≤◌, List, ◌∙◌, refl, sym, subst, arith, length, take, length-append}
use Rattle.http_frames.specs.declared.frames.TheConstants.{LIMITS}
use Rattle.grid_outside.specs.Counts.{Rose}
use Rattle.http_frames.specs.Feeding.{Fed}
use Rattle.grid_teams_shared.specs.Heads.{AwaitsHead, MOST}
use Rattle.grid_teams_shared.specs.Links.{Gave}
use Rattle.grid_teams_shared.proofs.HeadLemmas.{few_awaited, few_more, take_all, take_within}
use Rattle.grid_teams_shared.proofs.LinkLemmas.{gave_end, gave_on, gave_same, rose_from, some_more}
use Rattle.grid_teams_shared.proofs.heads.read.Goals as goal

pub returns-in-Ok-eq0-clause-on : goal.returns-in-Ok-eq0-clause-on
returns-in-Ok-eq0-clause-on g c = λ old r w.
    let mid = g.L.Link.view c.args.link.now in
    let new = g.L.Link.view c.read.new.self in
    let bytes = c.args.ahead.now.bytes.items in
    let none : c.in-Ok-eq0.field-0 ≡ 0 = omega (arith, c.in-Ok-eq0.field-0-test) in
    let e = c.in-Ok-eq0.ensures in (
      record {
        gave = gave_end old mid new bytes _ _ none r.gave e.given e.taken e.cause.later e.write_faults e.ends;
        few = r.few;
        awaits = subst (λ (b : List ℕ). AwaitsHead LIMITS b) (take_all bytes c.args.ahead.now.fed w.0) w.1;
      },
      subst (λ (n : ℕ). Rose n new.ends) r.unended (e.end none c.requires.room),
    )

pub returns-in-Err-extend_from_slice-clause-on : goal.returns-in-Err-extend_from_slice-clause-on
returns-in-Err-extend_from_slice-clause-on g c = λ old r w.
    let mid = g.L.Link.view c.args.link.now in
    let new = g.L.Link.view c.read.new.self in
    let bytes = c.args.ahead.now.bytes.items in
    let e = c.in-Ok.ensures in
    record {
      bytes = _;
      some = some_more bytes c.read.new.into c.in-Ok.count (omega (arith, c.in-Ok.count-test)) (omega (arith, e.count, c.read.auto.into));
      gave = gave_on old mid new bytes _ r.gave e.given e.taken e.cause.later e.write_faults e.ends;
      unended = e.goes_on (omega (arith, c.in-Ok.count-test)) ∙ r.unended;
      few = few_more bytes c.read.new.into c.in-Ok.count (few_awaited bytes (subst (λ (b : List ℕ). AwaitsHead LIMITS b) (take_all bytes c.args.ahead.now.fed w.0) w.1)) (omega (arith, e.count, c.requires.few));
    }

pub returns-in-Err-clause-on : goal.returns-in-Err-clause-on
returns-in-Err-clause-on g c = λ old r w.
    let mid = g.L.Link.view c.args.link.now in
    let new = g.L.Link.view c.read.new.self in
    let bytes = c.args.ahead.now.bytes.items in
    let e = c.in-Err.ensures in (
      record {
        gave = gave_same old mid new bytes r.gave e.err e.taken e.cause.later e.write_faults e.ends;
        few = r.few;
        awaits = subst (λ (b : List ℕ). AwaitsHead LIMITS b) (take_all bytes c.args.ahead.now.fed w.0) w.1;
      },
      e.failed ∙ r.unended,
      rose_from old.read_faults mid.read_faults new.read_faults r.gave.read_faults (e.cause.failed refl),
    )

pub returns-in-Ok-extend_from_slice-clause-on : goal.returns-in-Ok-extend_from_slice-clause-on
returns-in-Ok-extend_from_slice-clause-on g c = λ old r w.
    let mid = g.L.Link.view c.args.link.now in
    let new = g.L.Link.view c.read.new.self in
    let bytes = c.args.ahead.now.bytes.items in
    let n = c.in-Ok.count in
    let reader = c.args.ahead.now.reader in
    let fed = c.args.ahead.now.fed in
    let e = c.in-Ok.ensures in
    let items = c.in-Ok-extend_from_slice.ensures.items in
    let piece = take n c.read.new.into in
    let awaits = subst (λ (b : List ℕ). AwaitsHead LIMITS b) (take_all bytes fed w.0) w.1 in
    let small = few_more bytes c.read.new.into n (few_awaited bytes awaits) (omega (arith, e.count, c.requires.few)) in
    record {
      within = subst (λ (b : List ℕ). fed ≤ length b) (sym items) (omega (arith, r.within, length-append bytes piece));
      fed = subst (λ (b : List ℕ). Fed LIMITS reader (take fed b)) (sym items) (subst (λ (b : List ℕ). Fed LIMITS reader b) (sym (take_within fed bytes piece r.within)) r.fed);
      gave = subst (λ (b : List ℕ). Gave old b new) (sym items) (gave_on old mid new bytes piece r.gave e.given e.taken e.cause.later e.write_faults e.ends);
      unended = e.goes_on (omega (arith, c.in-Ok.count-test)) ∙ r.unended;
      few = subst (λ (b : List ℕ). length b ≤ MOST) (sym items) small;
    }
