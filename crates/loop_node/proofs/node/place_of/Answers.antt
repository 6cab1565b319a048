use Rattle.std.proofs.Common.{◌≡◌, ◌+◌, true, bytes_eq, take, drop, sym, arith}
use Rattle.std.proofs.lemmas.List.{length-take-le}
use Rattle.loop_node.specs.Sessions.{has_id}
use Rattle.loop_node.proofs.SeekLemmas.{split_at, none_at_all}
use Rattle.loop_node.proofs.NodeLemmas.{url_none}
use Rattle.loop_node.proofs.node.place_of.Goals as goal

pub returns-then-eq : goal.returns-then-eq
returns-then-eq c =
    let sessions = c.args.sessions.now in
    let i = c.loop-index.index in
    let same : bytes_eq c.index-sessions-index.result.id c.args.id.now ≡ true = grind arith in
    record {
      front = take i sessions;
      session = c.index-sessions-index.result;
      rest = drop (i + 1) sessions;
      are = split_at sessions i c.index-sessions-index.result (omega arith) c.index-sessions-index.is;
      place_is = sym (length-take-le i sessions (omega arith));
      none_before = c.loop-index.invariant;
      has = same;
    }

pub returns : goal.returns
returns c = url_none c.args.id.now c.args.sessions.now (none_at_all (has_id c.args.id.now) c.args.sessions.now c.loop-index.index (omega arith) c.loop-index.invariant)
