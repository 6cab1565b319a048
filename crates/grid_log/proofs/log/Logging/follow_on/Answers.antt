use Rattle.std.proofs.Common.{◌≡◌, ◌+◌, ℕ, refl, sym, ◌∙◌, ap, subst, arith}
use Rattle.std.specs.Prelude.{Some, IfSome}
use Rattle.grid_log.specs.declared.telling.Teller.{Teller}
use Rattle.grid_log.specs.Logs.{FoundEnds, waited}
use Rattle.grid_log.proofs.LogLemmas.{ends_as}
use Rattle.grid_log.proofs.FollowLemmas.{followed_first, found_last, pause_more, pauses_none, went_on}
use Rattle.grid_log.proofs.log.Logging.follow_on.Goals as goal

pub loop-done-init : goal.loop-done-init
loop-done-init g c = record {
  followed = λ old before h. followed_first old _ before _ c.args.self.now h;
  pauses = pauses_none _;
  teller = refl;
}

pub loop-done-preserved : goal.loop-done-preserved
loop-done-preserved g c = record {
  followed = λ old before h.
      went_on c.loop-done.done old _ _ before _ _ c.loop-done.self c.run-status.new.self _ c.loop-done.self.teller.form c.run-status.result (c.loop-done.invariant.followed old before h)
      c.run-status.ensures.goes c.run-status.ensures.stays (c.may_go_on.ensures.0 c.if-not-may_go_on.false) c.go_on.ensures.read c.go_on.ensures.again refl refl c.go_on.ensures.config;
  pauses = pause_more _ (g.C.Clock.view c.loop-done.clock).pauses _ c.loop-done.done _ _ c.loop-done.invariant.pauses c.pause.ensures.told;
  teller = c.run-status.ensures.teller ∙ c.loop-done.invariant.teller;
}

pub returns : goal.returns
returns g c =
    let all : c.loop-done.done ≡ c.args.pauses = omega arith in
    record {
      goes = λ old before h.
          ends_as old _ before _ c.loop-done.self.teller.form c.args.self.now.teller.form c.run.result c.run.result
          (c.run.ensures.goes old before (c.loop-done.invariant.followed old before h).logged)
          (ap (λ (t : Teller). t.form) (sym c.loop-done.invariant.teller)) refl;
      waits = λ old before h may. record {
        paused_so = subst (λ (n : ℕ). IfSome (g.C.Clock.view c.args.clock.now).pauses (λ p. (g.C.Clock.view c.loop-done.clock).pauses ≡ Some (waited n p))) all c.loop-done.invariant.pauses;
        found_ends = subst (λ (n : ℕ). FoundEnds (n + 1) old.input.ends (g.S.Source.view c.run.new.input).ends) all
            (found_last c.loop-done.done old _ _ before _ _ c.loop-done.self c.loop-done.self.teller.form c.run.result (c.loop-done.invariant.followed old before h) c.run.ensures.goes may);
      };
    }

pub returns-then-not-may_go_on-clause-goes : goal.returns-then-not-may_go_on-clause-goes
returns-then-not-may_go_on-clause-goes g c = λ old before h.
    ends_as old _ before _ c.loop-done.self.teller.form c.args.self.now.teller.form c.run-status.result c.run-status.result
    (c.run-status.ensures.goes old before (c.loop-done.invariant.followed old before h).logged)
    (ap (λ (t : Teller). t.form) (sym c.loop-done.invariant.teller)) refl
