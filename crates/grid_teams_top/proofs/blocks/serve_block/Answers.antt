use Rattle.std.proofs.Common.{[], ◌<◌, arith}
use Rattle.http_frames.specs.declared.frames.TheConstants.{LIMITS}
use Rattle.grid_teams.specs.declared.naming.TeamName.TheVariants as team
use Rattle.grid_teams_top.proofs.TeamBlockLemmas.{answered_block, by_name, if_ok, name_of_all, without_head, without_name}
use Rattle.grid_teams_top.proofs.blocks.serve_block.Goals as goal

pub returns-in-Named : goal.returns-in-Named
returns-in-Named c =
    let read = c.in_ok-feed_head.ensures LIMITS [] c.new-reader.ensures in
    let named = name_of_all c.one_head.ensures.stays c.refused_heads_stay.ensures c.feed_head.new.reader c.args.bytes.now (team.Named c.in-Named.name) read c.in-Named.ensures in
    if_ok c.serve_named.result c.serve_named.ensures (λ out x said all. by_name said c.args.teams.now c.args.bytes.now out c.in-Named.name c.serve_named.new.teams named x all)

pub returns-in-Unnamed : goal.returns-in-Unnamed
returns-in-Unnamed c =
    let read = c.in_ok-feed_head.ensures LIMITS [] c.new-reader.ensures in
    let named = name_of_all c.one_head.ensures.stays c.refused_heads_stay.ensures c.feed_head.new.reader c.args.bytes.now team.Unnamed read c.in-Unnamed.ensures in
    if_ok c.failure.result c.failure.ensures (λ out x said all. without_name said c.args.teams.now c.args.bytes.now out named x all)

pub returns : goal.returns
returns c =
    let read = c.in_ok-feed_head.ensures LIMITS [] c.new-reader.ensures in
    let never = name_of_all c.one_head.ensures.stays c.refused_heads_stay.ensures c.feed_head.new.reader c.args.bytes.now team.NoHead read c.in-NoHead.ensures in
    let some : 0 < LIMITS.head = omega (arith, c.fixed_limits.ensures.head) in
    if_ok c.refuse.result c.refuse.ensures (λ out x said all.
    let r = answered_block c.one_reading.ensures.connection c.one_head.ensures.fault c.stays.ensures.refused some c.fixed_limits-2.ensures.read
    c.feed_head.new.reader c.args.bytes.now out read c.in-NoHead.ensures x never c.requires in
    without_head said c.args.teams.now c.args.bytes.now out r.0 never r.1 all)
