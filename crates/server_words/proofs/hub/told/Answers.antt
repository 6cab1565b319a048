use Rattle.std.proofs.Common.{arith}
use Rattle.clap.specs.Words.{found_of, rows_of}
use Rattle.server_words.proofs.Limits.{wider, port_fits, handlers_fit, workers_fit, connections_fit}
use Rattle.server_words.proofs.hub.told.Goals as goal

pub number-requires : goal.number-requires
number-requires c = record { small = wider _ 1 65_535 (omega arith) (port_fits (rows_of (found_of c.args.matches.now)) c.requires) }

pub overflow_cast-result : goal.overflow_cast-result
overflow_cast-result c =
    let port = c.number.ensures.within 1 65_535 (port_fits (rows_of (found_of c.args.matches.now)) c.requires) (omega arith) (omega arith) in
    omega (arith, port)

pub number-requires-2 : goal.number-requires-2
number-requires-2 c = record { small = wider _ 1 128 (omega arith) (handlers_fit (rows_of (found_of c.args.matches.now)) c.requires) }

pub number-requires-3 : goal.number-requires-3
number-requires-3 c = record { small = wider _ 0 64 (omega arith) (workers_fit (rows_of (found_of c.args.matches.now)) c.requires) }

pub number-requires-4 : goal.number-requires-4
number-requires-4 c = record { small = wider _ 1 20_000 (omega arith) (connections_fit (rows_of (found_of c.args.matches.now)) c.requires) }

pub returns-clause-within : goal.returns-clause-within
returns-clause-within c =
    let handlers = c.number-2.ensures.within 1 128 (handlers_fit (rows_of (found_of c.args.matches.now)) c.requires) (omega arith) (omega arith) in
    let workers = c.number-3.ensures.within 0 64 (workers_fit (rows_of (found_of c.args.matches.now)) c.requires) (omega arith) (omega arith) in
    let connections = c.number-4.ensures.within 1 20_000 (connections_fit (rows_of (found_of c.args.matches.now)) c.requires) (omega arith) (omega arith) in
    record {
      some_handler = handlers.0;
      handlers = handlers.1;
      workers = workers.1;
      some_connection = connections.0;
      connections = connections.1;
    }
