use Rattle.std.proofs.Common.{◌≡◌}
use Rattle.std.specs.Prelude.{Some, IfSome}
use Rattle.grid_log.specs.Logs.{Output, Start, input_of, output_of, waited}
use Rattle.grid_log.specs.Logging.{HasLogged}
use Rattle.grid_log.proofs.FollowLemmas.{HasFollowed}
use Rattle.grid_log.proofs.log.Logging.follow_on.Given as goal

-- what was logged at the start has been followed since
abbrev pub invariant-loop-done : goal.invariant-loop-done
invariant-loop-done g l = record {
  followed : (old : Start) (before : Output) →
      HasLogged old (input_of (g.S.Source.view l.fn.input).given (g.S.Source.view l.fn.input).ends (g.S.Source.view l.fn.input).faults)
      before (output_of (g.K.Sink.view l.fn.output).taken (g.K.Sink.view l.fn.output).faults) l.fn.self →
      HasFollowed l.done old (input_of (g.S.Source.view l.input).given (g.S.Source.view l.input).ends (g.S.Source.view l.input).faults)
      before (output_of (g.K.Sink.view l.output).taken (g.K.Sink.view l.output).faults) l.self;
  pauses : IfSome (g.C.Clock.view l.fn.clock).pauses (λ p. (g.C.Clock.view l.clock).pauses ≡ Some (waited l.done p));
  teller : l.self.teller ≡ l.fn.self.teller;
}
