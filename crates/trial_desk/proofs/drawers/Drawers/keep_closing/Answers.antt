use Rattle.std.proofs.Common.{ℕ, subst, sym, ap, ◌∙◌}
use Rattle.trial_desk.specs.Holds.{place_of, IsClosing}
use Rattle.trial_desk.proofs.KeptLemmas.{put-in, left-alone}
use Rattle.trial_desk.proofs.drawers.Drawers.keep_closing.Goals as goal

pub returns-in-Ok : goal.returns-in-Ok
returns-in-Ok c = λ H held good. record {
  tickets_good = held.tickets_good;
  reservations_good = held.reservations_good;
  closings_good = put-in (IsClosing H) c.args.self.now.closings c.insert.new.self c.place_of.result c.args.closing c.in-Ok.ensures.updates held.closings_good (subst (λ (k : ℕ). IsClosing H k c.args.closing) (sym (c.place_of.ensures ∙ ap place_of c.slot.ensures)) good);
}

pub returns-in-Err : goal.returns-in-Err
returns-in-Err c = λ H held good. record {
  tickets_good = held.tickets_good;
  reservations_good = held.reservations_good;
  closings_good = left-alone (IsClosing H) c.args.self.now.closings c.insert.new.self c.in-Err.ensures.err held.closings_good;
}
