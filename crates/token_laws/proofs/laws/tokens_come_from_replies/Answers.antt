use Rattle.token_laws.proofs.TicketLemmas.{tickets-come}
use Rattle.token_laws.proofs.ReservationLemmas.{reservations-come}
use Rattle.token_laws.proofs.ClosingLemmas.{closings-come}
use Rattle.token_laws.proofs.laws.tokens_come_from_replies.Goals as goal

pub returns : goal.returns
returns c = record {
  tickets = tickets-come;
  reservations = reservations-come;
  closings = closings-come c.live_is_running.ensures;
}
