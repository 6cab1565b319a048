use Rattle.std.proofs.Common.{◌<◌, ◌≤◌, arith, refl, subst, sym}
use Rattle.std.specs.Prelude.{Ok}
use Rattle.http_frames.specs.declared.frames.TheConstants.{LIMITS}
use Rattle.conn_script.specs.declared.wants.Served.{Served}
use Rattle.conn_script.specs.declared.wants.TheConstants.{LIMIT}
use Rattle.grid_teams_shared.specs.Heads.{MOST}
use Rattle.grid_teams_shared.specs.Serving.{by_none}
use Rattle.grid_teams_shared.specs.Unserved.{Headless, headless, unread}
use Rattle.grid_teams_shared.proofs.HeadLemmas.{reading_none}
use Rattle.grid_teams_shared.proofs.UnservedLemmas.{cut_off, read_failed, refused_so, unread_so}
use Rattle.grid_teams_shared.proofs.serving.serve_teams_shared.Goals as goal

pub read_head-requires : goal.read_head-requires
read_head-requires g c =
    let first = g.L.Link.view c.args.link.now in
    (first, reading_none first c.new-ahead.result c.new-ahead.ensures.fed.0 c.new-ahead.ensures.fed.1 c.new-ahead.ensures.bytes)

pub serve_named-requires-clause-accepted : goal.serve_named-requires-clause-accepted
serve_named-requires-clause-accepted g c =
    let first = g.L.Link.view c.args.link.now in
    (first, c.in-Accepted.ensures.ended first (reading_none first c.new-ahead.result c.new-ahead.ensures.fed.0 c.new-ahead.ensures.fed.1 c.new-ahead.ensures.bytes))

pub returns-in-Accepted-clause-serves : goal.returns-in-Accepted-clause-serves
returns-in-Accepted-clause-serves g c =
    let first = g.L.Link.view c.args.link.now in
    c.serve_named.ensures.serves first (c.in-Accepted.ensures.ended first (reading_none first c.new-ahead.result c.new-ahead.ensures.fed.0 c.new-ahead.ensures.fed.1 c.new-ahead.ensures.bytes))

pub returns-in-Refused-clause-serves : goal.returns-in-Refused-clause-serves
returns-in-Refused-clause-serves g c =
    let first = g.L.Link.view c.args.link.now in
    let mid = g.L.Link.view c.read_head.new.link in
    let some : 0 < LIMITS.head = omega (arith, c.fixed_limits.ensures.head) in
    let most : MOST ≤ LIMIT = omega (arith, c.fixed_limits.ensures.head, c.fixed_limits-2.ensures.read, c.fixed_limits-3.ensures.piece) in
    let x = c.in-Refused.ensures.ended first (reading_none first c.new-ahead.result c.new-ahead.ensures.fed.0 c.new-ahead.ensures.fed.1 c.new-ahead.ensures.bytes) in
    by_none refl refl refl (headless (refused_so c.stays.ensures.refused c.refused_heads_stay.ensures c.one_head.ensures.fault some most c.in-Refused.why first mid _
    c.read_head.new.ahead x.0 x.1 x.2 _ c.refuse.ensures.tells))

pub returns-in-Ended-clause-serves : goal.returns-in-Ended-clause-serves
returns-in-Ended-clause-serves g c =
    let first = g.L.Link.view c.args.link.now in
    let last = g.L.Link.view c.read_head.new.link in
    let most : MOST < LIMIT = omega (arith, c.fixed_limits.ensures.head, c.fixed_limits-2.ensures.read, c.fixed_limits-3.ensures.piece) in
    let x = c.in-Ended.ensures.ended first (reading_none first c.new-ahead.result c.new-ahead.ensures.fed.0 c.new-ahead.ensures.fed.1 c.new-ahead.ensures.bytes) in
    by_none refl refl refl (headless (subst (λ (s : Served). Headless first (Ok s) last) (sym c.cut_off.ensures)
    (cut_off most first last c.read_head.new.ahead x.0 x.1)))

pub returns-in-ReadFailed-clause-serves : goal.returns-in-ReadFailed-clause-serves
returns-in-ReadFailed-clause-serves g c =
    let first = g.L.Link.view c.args.link.now in
    let last = g.L.Link.view c.read_head.new.link in
    let most : MOST < LIMIT = omega (arith, c.fixed_limits.ensures.head, c.fixed_limits-2.ensures.read, c.fixed_limits-3.ensures.piece) in
    let x = c.in-ReadFailed.ensures.ended first (reading_none first c.new-ahead.result c.new-ahead.ensures.fed.0 c.new-ahead.ensures.fed.1 c.new-ahead.ensures.bytes) in
    by_none refl refl refl (headless (read_failed most first last c.read_head.new.ahead x.0 x.2))

pub returns-clause-serves : goal.returns-clause-serves
returns-clause-serves g c =
    let first = g.L.Link.view c.args.link.now in
    let most : MOST ≤ LIMIT = omega (arith, c.fixed_limits.ensures.head, c.fixed_limits-2.ensures.read, c.fixed_limits-3.ensures.piece) in
    by_none refl refl refl (unread (unread_so first _ most
    (c.in-NoMemory.ensures.ended first (reading_none first c.new-ahead.result c.new-ahead.ensures.fed.0 c.new-ahead.ensures.fed.1 c.new-ahead.ensures.bytes))))
