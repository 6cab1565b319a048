use Rattle.session_map.proofs.Runs.{no_row, row_tells}
use Rattle.session_map.proofs.live_map.LiveMap.run_of.Goals as goal

pub returns-in-Some : goal.returns-in-Some
returns-in-Some c = record { of = λ d H s l. row_tells H c.args.binding c.in-Some.session (c.in-Some.ensures.of d H s l) }

pub returns-in-None : goal.returns-in-None
returns-in-None c =
    let proved = c.history_laws.ensures in
    record { of = λ d H s l. no_row proved H c.args.binding (c.in-None.ensures.of d H s l) }
