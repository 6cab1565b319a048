mod TicketLemmas
mod ReservationLemmas
mod ClosingLemmas
