use Rattle.std.proofs.Common.{ℕ, subst, sym}
use Rattle.trial_desk.specs.Holds.{IsTicket}
use Rattle.trial_desk.proofs.KeptLemmas.{put-in, left-alone}
use Rattle.trial_desk.proofs.drawers.Drawers.keep_ticket.Goals as goal

pub returns-in-Ok : goal.returns-in-Ok
returns-in-Ok c = λ H held good. record {
  tickets_good = put-in (IsTicket H) c.args.self.now.tickets c.insert.new.self c.request.result c.args.ticket c.in-Ok.ensures.updates held.tickets_good (subst (λ (k : ℕ). IsTicket H k c.args.ticket) (sym (c.request.ensures)) good);
  reservations_good = held.reservations_good;
  closings_good = held.closings_good;
}

pub returns-in-Err : goal.returns-in-Err
returns-in-Err c = λ H held good. record {
  tickets_good = left-alone (IsTicket H) c.args.self.now.tickets c.insert.new.self c.in-Err.ensures.err held.tickets_good;
  reservations_good = held.reservations_good;
  closings_good = held.closings_good;
}
