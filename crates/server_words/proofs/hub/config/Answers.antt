use Rattle.std.proofs.Common.{arith}
use Rattle.clap.specs.Words.{found_of, rows_of}
use Rattle.server_words.proofs.Limits.{valid_config, wider, wait_fits, idle_fits, queue_fits}
use Rattle.server_words.proofs.hub.config.Goals as goal

pub number-requires : goal.number-requires
number-requires c = record { small = wider _ 1 86_400 (omega arith) (wait_fits (rows_of (found_of c.args.matches.now)) c.requires) }

pub number-requires-2 : goal.number-requires-2
number-requires-2 c = record { small = wider _ 10 86_400 (omega arith) (idle_fits (rows_of (found_of c.args.matches.now)) c.requires) }

pub number-requires-3 : goal.number-requires-3
number-requires-3 c = record { small = wider _ 1 10_000 (omega arith) (queue_fits (rows_of (found_of c.args.matches.now)) c.requires) }

pub returns-clause-valid : goal.returns-clause-valid
returns-clause-valid c =
    let wait = c.number.ensures.within 1 86_400 (wait_fits (rows_of (found_of c.args.matches.now)) c.requires) (omega arith) (omega arith) in
    let idle = c.number-2.ensures.within 10 86_400 (idle_fits (rows_of (found_of c.args.matches.now)) c.requires) (omega arith) (omega arith) in
    let queue = c.number-3.ensures.within 1 10_000 (queue_fits (rows_of (found_of c.args.matches.now)) c.requires) (omega arith) (omega arith) in
    valid_config c.from.result c.from-2.result c.number-3.result c.truth.result c.default.result c.default.ensures (omega (arith, wait, c.from.ensures)) (omega (arith, wait, c.from.ensures))
    (omega (arith, idle, c.from-2.ensures)) (omega (arith, idle, c.from-2.ensures)) queue.0 queue.1
