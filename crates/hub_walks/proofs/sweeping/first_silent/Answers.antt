use Rattle.std.proofs.Common.{◌≡◌, ◌<◌, ◌≤◌, length, ◌∙◌, arith}
use Rattle.node_registry.specs.Table.{known}
use Rattle.hub_walks.specs.Sweeping.{is_silent, is_from}
use Rattle.hub_walks.proofs.SweepingLemmas.{silent-listed, first-known, first-end}
use Rattle.hub_walks.proofs.QuietLemmas.{below-kept, found-kept, none-kept, heard-none}
use Rattle.hub_walks.proofs.sweeping.first_silent.Goals as goal
use Rattle.hub_walks.proofs.sweeping.first_silent.Goals.{in-Some+else-from, in_default}

pub returns-then-is_heard-clause-first : goal.returns-then-is_heard-clause-first
returns-then-is_heard-clause-first c = record { of = λ d H s l. heard-none c.args.config.now H c.args.at.0 c.args.from (c.is_heard.ensures.sure.of d H s l c.if-is_heard.true) }

pub returns-then-from-clause-first : goal.returns-then-from-clause-first
returns-then-from-clause-first c =
    let proved = c.walk_laws.ensures in
    record {
      of = λ d H s l.
          found-kept c.args.from (is_silent c.args.config.now H c.args.at.0) (known c.args.nodes.now) c.loop-index.index c.in-Some.node c.from.result _ (c.in-Some.ensures.of d H s l) c.if-from.true c.from.ensures
          (c.loop-index.invariant.of d H s l) ∙ first-known proved c.args.nodes.now H c.args.from (is_silent c.args.config.now H c.args.at.0) s (silent-listed c.args.config.now H c.args.at.0);
    }

pub loop-index-preserved : goal.loop-index-preserved
loop-index-preserved c =
    elim c.match-silent_at.branch [
      | in-Some+else-from w ↦ record {
        of = λ d H s l.
            below-kept c.args.from (is_silent c.args.config.now H c.args.at.0) (known c.args.nodes.now) c.loop-index.index w.in-Some.node w.from.result _ (w.in-Some.ensures.of d H s l) w.if-from.false w.from.ensures
            (c.loop-index.invariant.of d H s l);
      }
      | in_default w ↦ (let below : c.loop-index.index < length (known c.args.nodes.now) = (let e : c.count-index-end.result ≡ length (known c.args.nodes.now) = c.count-index-end.ensures in omega arith) in
          record { of = λ d H s l. none-kept c.args.from (is_silent c.args.config.now H c.args.at.0) (known c.args.nodes.now) c.loop-index.index _ (w.in_default.ensures.of d H s l) below (c.loop-index.invariant.of d H s l) })
    ]

pub returns-clause-first : goal.returns-clause-first
returns-clause-first c =
    let proved = c.walk_laws.ensures in
    record {
      of = λ d H s l.
          let past : length (known c.args.nodes.now) ≤ c.loop-index.index = (let e : c.count-index-end.result ≡ length (known c.args.nodes.now) = c.count-index-end.ensures in omega arith) in
          first-end (is_from c.args.from (is_silent c.args.config.now H c.args.at.0)) (known c.args.nodes.now) c.loop-index.index _ past (c.loop-index.invariant.of d H s l)
          ∙ first-known proved c.args.nodes.now H c.args.from (is_silent c.args.config.now H c.args.at.0) s (silent-listed c.args.config.now H c.args.at.0);
    }
