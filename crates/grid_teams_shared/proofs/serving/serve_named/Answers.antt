use Rattle.std.proofs.Common.{◌≤◌, ℕ, List, arith, length, refl, subst, sym}
use Rattle.http_frames.specs.declared.frames.TheConstants.{LIMITS}
use Rattle.conn_script.specs.declared.wants.TheConstants.{LIMIT}
use Rattle.grid_teams.specs.Naming.{IsTeamName}
use Rattle.grid_teams.specs.declared.naming.TeamName.TheVariants as team
use Rattle.grid_teams.specs.declared.telling.TheConstants.{NOT_NAMED, NO_SUCH_TEAM}
use Rattle.grid_teams_shared.specs.Heads.{MOST, fed_of}
use Rattle.grid_teams_shared.specs.Links.{Gave}
use Rattle.grid_teams_shared.specs.Serving.{by_none, by_team}
use Rattle.grid_teams_shared.specs.Unserved.{unknown, unnamed}
use Rattle.grid_teams_shared.proofs.ServedLemmas.{by_name, name_of_all}
use Rattle.grid_teams_shared.proofs.UnservedLemmas.{told_off}
use Rattle.grid_teams_shared.proofs.serving.serve_named.Goals as goal

pub unreachable-requires : goal.unreachable-requires
unreachable-requires g c =
    let x = c.requires.accepted.1 in
    c.in-NoHead.ensures LIMITS (fed_of c.args.ahead.now) x.0.fed x.1.0 x.1.1

pub returns-in-Some-clause-serves : goal.returns-in-Some-clause-serves
returns-in-Some-clause-serves g c = λ first x.
    let ahead = c.args.ahead.now in
    let mid = g.L.Link.view c.args.link.now in
    let again = c.as_slice.result.now in
    let same = sym c.as_slice.ensures.value in
    let most : MOST ≤ LIMIT = omega (arith, c.fixed_limits.ensures.head, c.fixed_limits-2.ensures.read, c.fixed_limits-3.ensures.piece) in
    let named = name_of_all c.one_head.ensures.stays ahead (team.Named c.in-Named.name) x.1 (c.in-Named.ensures LIMITS (fed_of ahead) x.0.fed) in
    let few : length ahead.bytes.items ≤ LIMIT = omega (arith, x.0.few, most) in
    let served = c.serve_at.ensures.served in
    by_team (by_name c.last_bytes_are_untold.ensures g.N.NodeLink.gives g.C.Clock.gives first mid again
    (subst (λ (b : List ℕ). Gave first b mid) same x.0.gave) x.0.unended _ c.in-Some.place _ _ _ _ _ _ c.in-Named.name
    (subst (λ (b : List ℕ). length b ≤ LIMIT) same few) (subst (λ (b : List ℕ). IsTeamName LIMITS b (team.Named c.in-Named.name)) same named)
    (sym c.in-Some.ensures.place) served.0 served.1)

pub returns-in-None-clause-serves : goal.returns-in-None-clause-serves
returns-in-None-clause-serves g c = λ first x.
    let ahead = c.args.ahead.now in
    let mid = g.L.Link.view c.args.link.now in
    let most : MOST ≤ LIMIT = omega (arith, c.fixed_limits.ensures.head, c.fixed_limits-2.ensures.read, c.fixed_limits-3.ensures.piece) in
    let named = name_of_all c.one_head.ensures.stays ahead (team.Named c.in-Named.name) x.1 (c.in-Named.ensures LIMITS (fed_of ahead) x.0.fed) in
    let few : length ahead.bytes.items ≤ LIMIT = omega (arith, x.0.few, most) in
    by_none refl refl refl (unknown c.in-Named.name (sym c.in-None.ensures.place)
    (told_off (team.Named c.in-Named.name) NO_SUCH_TEAM.now first mid _ ahead.bytes.items named x.0.gave x.0.unended few _ c.tell.ensures.tells))

pub returns-in-Unnamed-clause-serves : goal.returns-in-Unnamed-clause-serves
returns-in-Unnamed-clause-serves g c = λ first x.
    let ahead = c.args.ahead.now in
    let mid = g.L.Link.view c.args.link.now in
    let most : MOST ≤ LIMIT = omega (arith, c.fixed_limits.ensures.head, c.fixed_limits-2.ensures.read, c.fixed_limits-3.ensures.piece) in
    let named = name_of_all c.one_head.ensures.stays ahead team.Unnamed x.1 (c.in-Unnamed.ensures LIMITS (fed_of ahead) x.0.fed) in
    let few : length ahead.bytes.items ≤ LIMIT = omega (arith, x.0.few, most) in
    by_none refl refl refl (unnamed (told_off team.Unnamed NOT_NAMED.now first mid _ ahead.bytes.items named x.0.gave x.0.unended few _ c.tell-in-Unnamed.ensures.tells))
