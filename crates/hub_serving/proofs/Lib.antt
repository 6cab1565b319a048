mod OnwardLemmas
mod CallLemmas
mod TurnLemmas
mod ServedLemmas
mod SeatedLemmas
mod SeatLemmas
mod TableLemmas
mod StillLemmas
