-- How many bytes a connection holds.
use Rattle.std.proofs.Common.{◌≡◌, ℕ, ◌+◌, ◌<◌, ◌≤◌, ◌^◌, true, List, ap, ◌∙◌, arith}
use Rattle.std.specs.Prelude.{Option}
use Rattle.http_frames.specs.Frames.{Request}
use Rattle.node_client.specs.Steps.{Step}
use Rattle.hub_conn.specs.declared.inbox.Inbox.{Inbox}
use Rattle.hub_conn.specs.declared.talk.Talk.{Talk}
use Rattle.hub_conn.specs.declared.talk.State.{State}
use Rattle.hub_conn.specs.declared.talk.State.TheVariants as states
use Rattle.hub_conn.specs.declared.talk.Then.{Then}
use Rattle.hub_conn.specs.declared.talk.Then.TheVariants as after
use Rattle.hub_conn.proofs.PassLemmas.{relays_write_none}
use Rattle.hub_conn.specs.Inbox.{keeps_bytes, most_read, HoldsSome, HoldsWhole}
use Rattle.hub_conn.specs.Talk.{Stands, StandsIn, StandsForSome, IsWriting, IsKept, is_serving, is_serving_in, kept_bytes, writes_bytes}

whole_holds : (inbox : Inbox) (rest : List ℕ) (f : Request) → HoldsWhole inbox rest f → HoldsSome inbox
whole_holds inbox rest f x = (rest, (x.0, x.1, x.2))

writing_holds : (t : Then) (talk : Talk) (own : Option (List ℕ)) (bytes : List ℕ) (steps : List Step) (all : List ℕ) → IsWriting t talk own bytes steps all → HoldsSome talk.inbox
writing_holds after.Next talk own bytes steps all x = (x.0, x.2)
writing_holds (after.End end) talk own bytes steps all x = x.2

pub serving_holds : (talk : Talk) → is_serving talk ≡ true → StandsForSome talk → HoldsSome talk.inbox
unfolding Stands is_serving
serving_holds talk serves (own, w, bytes, steps, written, st) = by_state talk.state serves st
  where
    by_state : (s : State) → is_serving_in s ≡ true → StandsIn s talk own w bytes steps written → HoldsSome talk.inbox
    by_state states.Reading e x = (x.rest, x.in_state.3)
    by_state (states.Continuing sent) e x = (x.rest, x.in_state.3)
    by_state states.Beginning e x = whole_holds talk.inbox x.rest x.in_state.1 x.in_state.2.holds
    by_state (states.Running run) e x = whole_holds talk.inbox x.rest x.in_state.0 x.in_state.1.holds
    by_state (states.Writing out) e x = writing_holds out.then talk own bytes steps _ x.writing
    by_state (states.Undoing fault u) e x = absurd cc
    by_state (states.Done result) e x = absurd cc

pub is_kept : (talk : Talk) (read response count : ℕ) → ((HoldsSome talk.inbox → (read ≡ keeps_bytes talk.inbox) × (read ≤ most_read))) → response ≡ writes_bytes talk → response < 2 ^ 63 →
    (read + response < 2 ^ 64 → count ≡ read + response) → is_serving talk ≡ true → StandsForSome talk → IsKept talk count
unfolding kept_bytes writes_bytes
is_kept talk read response count told writes few adds serves some =
    let x = told (serving_holds talk serves some) in
    let sum : count ≡ read + response = adds (omega (arith, x.1, few)) in record {
      count_is = sum ∙ ap (λ (n : ℕ). n + response) x.0 ∙ ap (λ (n : ℕ). keeps_bytes talk.inbox + n) writes;
      within = omega (arith, sum, x.1, writes);
      no_response = relays_write_none talk;
    }
