-- The call that is wanted, and the tokens that are held beside it.
use Rattle.std.proofs.Common.{◌≡◌, ◌⊎◌, ℕ, ◌≤◌, true, false, List, [], ◌∷◌, ◌++◌, length, refl, sym, ap, ◌∙◌, subst, arith, length-append, inl, inr}
use Rattle.std.specs.Prelude.{Option, Result}
use Rattle.grid_types.specs.Calls.{Call}
use Rattle.grid_types.specs.HandedIn.{hands_ticket}
use Rattle.grid_types.specs.Tokens.{Ticket, Reservation}
use Rattle.http_frames.specs.Frames.{Request}
use Rattle.node_client.specs.Held.{Token, of_ticket, of_reservation, of_closing, carry_tokens}
use Rattle.node_client.specs.Places as places
use Rattle.node_client.specs.Places.{Place, at_start, at_bind, at_return, at_fail, at_quit, at_free, at_end, wanted_at}
use Rattle.node_client.specs.Carrying.{FailsRightly}
use Rattle.node_client.specs.StandLaws.{StandLaws}
use Rattle.node_client.specs.Steps.{Step}
use Rattle.conn_script.specs.declared.calling.Calling.TheVariants as calling
use Rattle.conn_script.specs.declared.deleting.Deleting.{Deleting}
use Rattle.conn_script.specs.declared.deleting.Deleting.TheVariants as deleting
use Rattle.conn_script.specs.declared.relaying.Relaying.{Relaying}
use Rattle.conn_script.specs.declared.relaying.Relaying.TheVariants as relaying
use Rattle.conn_script.specs.declared.creating.Creating.TheVariants as creating
use Rattle.conn_script.specs.declared.turn.Run.{Run}
use Rattle.conn_script.specs.declared.turn.Run.TheVariants as run
use Rattle.conn_script.specs.declared.undoing.Undoing.{Undoing}
use Rattle.conn_script.specs.declared.undoing.Undoing.TheVariants as undo
use Rattle.conn_script.specs.declared.wants.ConnFault.{ConnFault}
use Rattle.conn_script.specs.declared.wants.Served.{Served}
use Rattle.conn_script.specs.Creating.{Aim, want_of}
use Rattle.conn_script.specs.Deleting.{DeleteWants}
use Rattle.conn_script.specs.Relaying.{RelayWants}
use Rattle.conn_script.specs.Running.{RunWants, run_tokens, delete_tokens}
use Rattle.conn_script.specs.Undo.{UndoWants, undo_tokens}
use Rattle.conn_script.specs.Wanted.{Wanted, to_read, to_write, to_begin, to_call, to_ask, to_pause, over, call_of, call_tokens, is_rightful}
use Rattle.hub_conn.specs.declared.talk.Talk.{Talk}
use Rattle.hub_conn.specs.declared.talk.State.{State}
use Rattle.hub_conn.specs.declared.talk.State.TheVariants as states
use Rattle.hub_conn.specs.CallLaws.{AreBeside, HoldsNoneAt}
use Rattle.hub_conn.specs.Talk.{Stands, StandsIn, tokens, state_tokens}

same_call : (a b : Call) → to_call a ≡ to_call b → a ≡ b
same_call a b e = cc

-- ---- tokens that are left

-- where a call brings as many tokens as are held, none is left
none_left : (call : Call) (ts xs left : List Token) → length ts ≤ length xs → ts ≡ xs ++ left → AreBeside call left
none_left call ts xs [] few e = tt
none_left call ts xs (t ∷ left) few e = absurd (omega (arith, few, ap length e, length-append xs (t ∷ left)))

nothing_held : (call : Call) (left : List Token) → [] ≡ call_tokens call ++ left → AreBeside call left
nothing_held call left e = none_left call [] (call_tokens call) left (omega arith) e

-- the one that is held is that of the call
one_held : (call k : Call) (t : Token) (left : List Token) → to_call call ≡ to_call k → length (call_tokens k) ≡ 1 → t ∷ [] ≡ call_tokens call ++ left → AreBeside call left
one_held call k t left e one keeps =
    none_left call (t ∷ []) (call_tokens call) left (omega (arith, ap (λ (c : Call). length (call_tokens c)) (same_call call k e), one)) keeps

-- beside one token of a start at most there is its ticket
ticket_left : (ts : List Token) (t : Ticket) (u : Token) (left : List Token) → length ts ≤ 1 → ts ++ of_ticket t ∷ [] ≡ u ∷ left → (left ≡ []) ⊎ (left ≡ of_ticket t ∷ [])
ticket_left [] t u left few e = inl (let is : left ≡ [] = cc in is)
ticket_left (x ∷ []) t u left few e = inr (let is : left ≡ of_ticket t ∷ [] = cc in is)
ticket_left (x ∷ y ∷ ts) t u left few e = absurd (omega (arith, few))

beside_ticket : (call : Call) (t : Ticket) (left : List Token) → hands_ticket call t.request ≡ false → (left ≡ []) ⊎ (left ≡ of_ticket t ∷ []) → AreBeside call left
beside_ticket call t left other (inl e) = subst (AreBeside call) (sym e) tt
beside_ticket call t left other (inr e) = subst (AreBeside call) (sym e) (other, tt)

start_left : (ts : List Token) (t : Ticket) (call k : Call) (u : Token) (left : List Token) → to_call call ≡ to_call k → call_tokens k ≡ u ∷ [] → hands_ticket k t.request ≡ false →
    length ts ≤ 1 → ts ++ of_ticket t ∷ [] ≡ call_tokens call ++ left → AreBeside call left
start_left ts t call k u left e brings other few keeps =
    let is : call ≡ k = same_call call k e in
    beside_ticket call t left (ap (λ (c : Call). hands_ticket c t.request) is ∙ other)
    (ticket_left ts t u left few (keeps ∙ ap (λ (xs : List Token). xs ++ left) (ap call_tokens is ∙ brings)))

delete_left : (d : Deleting) (call : Call) (left : List Token) → DeleteWants d (to_call call) → delete_tokens d ≡ call_tokens call ++ left → AreBeside call left
delete_left (deleting.Lookup id) call left w e = nothing_held call left e
delete_left (deleting.LookingUp id) call left w e = nothing_held call left e
delete_left (deleting.End id b) call left w e = nothing_held call left e
delete_left (deleting.Ending id b) call left w e = nothing_held call left e
delete_left (deleting.Quit c path) call left w e = absurd cc
delete_left (deleting.Free c q) call left w e = one_held call (Call.freed c) (of_closing c) left w refl e
delete_left (deleting.Freeing q) call left w e = nothing_held call left e

undo_left : (u : Undoing) (call : Call) (left : List Token) → UndoWants u (to_call call) → undo_tokens u ≡ call_tokens call ++ left → AreBeside call left
undo_left (undo.Withdraw t) call left w e = one_held call (Call.withdraw t) (of_ticket t) left w refl e
undo_left undo.Withdrawing call left w e = nothing_held call left e
undo_left (undo.Waiting t) call left w e = absurd cc
undo_left (undo.End s b) call left w e = nothing_held call left e
undo_left (undo.Ending s b) call left w e = nothing_held call left e
undo_left (undo.Quit c path) call left w e = absurd cc
undo_left (undo.Free c) call left w e = one_held call (Call.freed c) (of_closing c) left w refl e
undo_left undo.Freeing call left w e = nothing_held call left e
undo_left undo.Over call left w e = absurd w

place_left : (ts : List Token) (t : Ticket) (r : Reservation) (place : Place) (call : Call) (left : List Token) → want_of (wanted_at r place) (to_call call) → length ts ≤ 1 →
    ts ++ of_ticket t ∷ [] ≡ call_tokens call ++ left → AreBeside call left
place_left ts t r (at_bind session caps) call left w few e = start_left ts t call (Call.bind r session caps) (of_reservation r) left w refl refl few e
place_left ts t r (at_fail why) call left w few e = start_left ts t call (Call.fail r why) (of_reservation r) left w refl refl few e
place_left ts t r (at_free c) call left w few e = start_left ts t call (Call.freed c) (of_closing c) left w refl refl few e
place_left ts t r at_start call left w few e = absurd cc
place_left ts t r (at_return session) call left w few e = absurd cc
place_left ts t r (at_quit c) call left w few e = absurd cc
place_left ts t r (at_end end) call left w few e = absurd w

run_left : StandLaws → (f : Request) (r : Run) (aim : Aim) (call : Call) (left : List Token) → RunWants f r aim (to_call call) → run_tokens r ≡ call_tokens call ++ left →
    AreBeside call left
run_left stand f (run.Calling (calling.Ask c asked)) aim call left w e =
    none_left call (call_tokens (call_of c)) (call_tokens call) left (omega (arith, ap (λ (k : Call). length (call_tokens k)) (same_call call (call_of c) w.1.0))) e
run_left stand f (run.Calling (calling.Asked asked)) aim call left w e = nothing_held call left e
run_left stand f (run.Deleting d) aim call left w e = delete_left d call left w.1 e
run_left stand f (run.Relaying r) aim call left w e = nothing_held call left e
run_left stand f (run.Creating (creating.Enqueue choices)) aim call left w e = nothing_held call left e
run_left stand f (run.Creating creating.Enqueuing) aim call left w e = nothing_held call left e
run_left stand f (run.Creating (creating.Poll t)) aim call left w e = one_held call (Call.poll t) (of_ticket t) left w.1 refl e
run_left stand f (run.Creating (creating.Polling n)) aim call left w e = nothing_held call left e
run_left stand f (run.Creating (creating.Pausing t)) aim call left (a, w) e = absurd cc
run_left stand f (run.Creating (creating.Starting t carry)) aim call left (r, so_far, a, place, st, w) e =
    place_left (carry_tokens carry) t r place call left w (stand.hold_one carry) e

pub left_beside : StandLaws → (talk : Talk) (own : Option (List ℕ)) (call : Call) (bytes : List ℕ) (steps : List Step) (written : List ℕ) (left : List Token) →
    Stands talk own (to_call call) bytes steps written → tokens talk ≡ call_tokens call ++ left → AreBeside call left
unfolding Stands tokens
left_beside stand talk own call bytes steps written left st keeps = by_state talk.state st keeps
  where
    by_state : (s : State) → StandsIn s talk own (to_call call) bytes steps written → state_tokens s ≡ call_tokens call ++ left → AreBeside call left
    by_state states.Reading x e = nothing_held call left e
    by_state (states.Continuing sent) x e = nothing_held call left e
    by_state states.Beginning x e = nothing_held call left e
    by_state (states.Running r) x e = run_left stand x.in_state.0 r x.aim call left x.in_state.2.wants e
    by_state (states.Writing out) x e = nothing_held call left e
    by_state (states.Undoing fault u) x e = undo_left u call left x.wants e
    by_state (states.Done result) x e = nothing_held call left e

-- ---- what a call brings beside tokens

rightful_as : (call k : Call) → to_call call ≡ to_call k → is_rightful k ≡ true → is_rightful call ≡ true
rightful_as call k e right = ap is_rightful (same_call call k e) ∙ right

place_rightful : (r : Reservation) (place : Place) (call : Call) → FailsRightly place → want_of (wanted_at r place) (to_call call) → is_rightful call ≡ true
place_rightful r (at_bind session caps) call right w = rightful_as call (Call.bind r session caps) w refl
place_rightful r (at_fail why) call right w = rightful_as call (Call.fail r why) w right
place_rightful r (at_free c) call right w = rightful_as call (Call.freed c) w refl
place_rightful r at_start call right w = absurd cc
place_rightful r (at_return session) call right w = absurd cc
place_rightful r (at_quit c) call right w = absurd cc
place_rightful r (at_end end) call right w = absurd w

delete_rightful : (d : Deleting) (call : Call) → DeleteWants d (to_call call) → is_rightful call ≡ true
delete_rightful (deleting.Lookup id) call w = rightful_as call (Call.lookup id) w refl
delete_rightful (deleting.LookingUp id) call w = rightful_as call (Call.lookup id) w refl
delete_rightful (deleting.End id b) call w = rightful_as call (Call.end id b) w refl
delete_rightful (deleting.Ending id b) call w = rightful_as call (Call.end id b) w refl
delete_rightful (deleting.Quit c path) call w = absurd cc
delete_rightful (deleting.Free c q) call w = rightful_as call (Call.freed c) w refl
delete_rightful (deleting.Freeing q) call (c, w) = rightful_as call (Call.freed c) w refl

relay_rightful : (f : Request) (r : Relaying) (call : Call) → RelayWants f r (to_call call) → is_rightful call ≡ true
relay_rightful f (relaying.Lookup id target) call w = rightful_as call (Call.lookup id) w refl
relay_rightful f (relaying.LookingUp id target) call w = rightful_as call (Call.lookup id) w refl
relay_rightful f (relaying.Touch id b address target) call w = rightful_as call (Call.touch id b) w refl
relay_rightful f (relaying.Touching id b address target) call w = rightful_as call (Call.touch id b) w refl
relay_rightful f (relaying.Exchange address target) call w = absurd cc

undo_rightful : (u : Undoing) (call : Call) → UndoWants u (to_call call) → is_rightful call ≡ true
undo_rightful (undo.Withdraw t) call w = rightful_as call (Call.withdraw t) w refl
undo_rightful undo.Withdrawing call (t, w) = rightful_as call (Call.withdraw t) w refl
undo_rightful (undo.Waiting t) call w = absurd cc
undo_rightful (undo.End s b) call w = rightful_as call (Call.end s b) w refl
undo_rightful (undo.Ending s b) call w = rightful_as call (Call.end s b) w refl
undo_rightful (undo.Quit c path) call w = absurd cc
undo_rightful (undo.Free c) call w = rightful_as call (Call.freed c) w refl
undo_rightful undo.Freeing call (c, w) = rightful_as call (Call.freed c) w refl
undo_rightful undo.Over call w = absurd w

run_rightful : StandLaws → (f : Request) (r : Run) (aim : Aim) (call : Call) → RunWants f r aim (to_call call) → is_rightful call ≡ true
run_rightful stand f (run.Calling (calling.Ask c asked)) aim call w = rightful_as call (call_of c) w.1.0 w.1.3
run_rightful stand f (run.Calling (calling.Asked asked)) aim call w = rightful_as call w.1.0 w.1.1 w.1.4
run_rightful stand f (run.Deleting d) aim call w = delete_rightful d call w.1
run_rightful stand f (run.Relaying r) aim call w = relay_rightful f r call w.1
run_rightful stand f (run.Creating (creating.Enqueue choices)) aim call w = rightful_as call (Call.enqueue choices) w.1 refl
run_rightful stand f (run.Creating creating.Enqueuing) aim call (a, choices, w) = rightful_as call (Call.enqueue choices) w refl
run_rightful stand f (run.Creating (creating.Poll t)) aim call w = rightful_as call (Call.poll t) w.1 refl
run_rightful stand f (run.Creating (creating.Polling n)) aim call (a, t, w, is) = rightful_as call (Call.poll t) w refl
run_rightful stand f (run.Creating (creating.Pausing t)) aim call (a, w) = absurd cc
run_rightful stand f (run.Creating (creating.Starting t carry)) aim call (r, so_far, a, place, st, w) =
    place_rightful r place call (stand.fail_rightly carry r place so_far st) w

no_read : (call : Call) (most : ℕ) → to_call call ≡ to_read most → ⊥
no_read call most e = cc

no_write : (call : Call) (text : List ℕ) → to_call call ≡ to_write text → ⊥
no_write call text e = cc

no_begin : (call : Call) → to_call call ≡ to_begin → ⊥
no_begin call e = cc

no_end : (call : Call) (result : Result Served ConnFault) → to_call call ≡ over result → ⊥
no_end call result e = cc

pub rightful : StandLaws → (talk : Talk) (own : Option (List ℕ)) (call : Call) (bytes : List ℕ) (steps : List Step) (written : List ℕ) →
    Stands talk own (to_call call) bytes steps written → is_rightful call ≡ true
unfolding Stands
rightful stand talk own call bytes steps written st = by_state talk.state st
  where
    by_state : (s : State) → StandsIn s talk own (to_call call) bytes steps written → is_rightful call ≡ true
    by_state states.Reading x = absurd (no_read call _ x.in_state.1)
    by_state (states.Continuing sent) x = absurd (no_write call _ x.in_state.1)
    by_state states.Beginning x = absurd (no_begin call x.in_state.3)
    by_state (states.Running r) x = run_rightful stand x.in_state.0 r x.aim call x.in_state.2.wants
    by_state (states.Writing out) x = absurd (no_write call _ x.wants)
    by_state (states.Undoing fault u) x = undo_rightful u call x.wants
    by_state (states.Done result) x = absurd (no_end call result x.0)

-- ---- where no token is held

nothing_at : (w : Wanted) → HoldsNoneAt w []
nothing_at (to_read most) = refl
nothing_at (to_write unsent) = refl
nothing_at to_begin = refl
nothing_at (to_call call) = tt
nothing_at (to_ask address ask) = tt
nothing_at (to_pause ms) = tt
nothing_at (over result) = refl

none_as : (v w : Wanted) (ts : List Token) → w ≡ v → HoldsNoneAt v ts → HoldsNoneAt w ts
none_as v w ts e x = subst (λ (z : Wanted). HoldsNoneAt z ts) (sym e) x

delete_none : (d : Deleting) (w : Wanted) (ts : List Token) → DeleteWants d w → HoldsNoneAt w ts
delete_none (deleting.Lookup id) w ts x = none_as (to_call (Call.lookup id)) w ts x tt
delete_none (deleting.LookingUp id) w ts x = none_as (to_call (Call.lookup id)) w ts x tt
delete_none (deleting.End id b) w ts x = none_as (to_call (Call.end id b)) w ts x tt
delete_none (deleting.Ending id b) w ts x = none_as (to_call (Call.end id b)) w ts x tt
delete_none (deleting.Quit c path) w ts x = none_as (to_ask _ _) w ts x tt
delete_none (deleting.Free c q) w ts x = none_as (to_call (Call.freed c)) w ts x tt
delete_none (deleting.Freeing q) w ts (c, x) = none_as (to_call (Call.freed c)) w ts x tt

relay_none : (f : Request) (r : Relaying) (w : Wanted) (ts : List Token) → RelayWants f r w → HoldsNoneAt w ts
relay_none f (relaying.Lookup id target) w ts x = none_as (to_call (Call.lookup id)) w ts x tt
relay_none f (relaying.LookingUp id target) w ts x = none_as (to_call (Call.lookup id)) w ts x tt
relay_none f (relaying.Touch id b address target) w ts x = none_as (to_call (Call.touch id b)) w ts x tt
relay_none f (relaying.Touching id b address target) w ts x = none_as (to_call (Call.touch id b)) w ts x tt
relay_none f (relaying.Exchange address target) w ts x = none_as (to_ask _ _) w ts x tt

undo_none : (u : Undoing) (w : Wanted) (ts : List Token) → UndoWants u w → HoldsNoneAt w ts
undo_none (undo.Withdraw t) w ts x = none_as (to_call (Call.withdraw t)) w ts x tt
undo_none undo.Withdrawing w ts (t, x) = none_as (to_call (Call.withdraw t)) w ts x tt
undo_none (undo.Waiting t) w ts x = none_as (to_pause _) w ts x tt
undo_none (undo.End s b) w ts x = none_as (to_call (Call.end s b)) w ts x tt
undo_none (undo.Ending s b) w ts x = none_as (to_call (Call.end s b)) w ts x tt
undo_none (undo.Quit c path) w ts x = none_as (to_ask _ _) w ts x tt
undo_none (undo.Free c) w ts x = none_as (to_call (Call.freed c)) w ts x tt
undo_none undo.Freeing w ts (c, x) = none_as (to_call (Call.freed c)) w ts x tt
undo_none undo.Over w ts x = absurd x

start_none : (v : places.Wanted) (w : Wanted) (ts : List Token) → want_of v w → HoldsNoneAt w ts
start_none (places.to_ask address ask) w ts x = none_as (to_ask address ask) w ts x tt
start_none (places.to_call call) w ts x = none_as (to_call call) w ts x tt
start_none (places.over e) w ts x = absurd x

run_none : (f : Request) (r : Run) (aim : Aim) (w : Wanted) (ts : List Token) → RunWants f r aim w → HoldsNoneAt w ts
run_none f (run.Calling (calling.Ask c asked)) aim w ts x = none_as (to_call (call_of c)) w ts x.1.0 tt
run_none f (run.Calling (calling.Asked asked)) aim w ts x = none_as (to_call x.1.0) w ts x.1.1 tt
run_none f (run.Deleting d) aim w ts x = delete_none d w ts x.1
run_none f (run.Relaying r) aim w ts x = relay_none f r w ts x.1
run_none f (run.Creating (creating.Enqueue choices)) aim w ts x = none_as (to_call (Call.enqueue choices)) w ts x.1 tt
run_none f (run.Creating creating.Enqueuing) aim w ts (a, choices, x) = none_as (to_call (Call.enqueue choices)) w ts x tt
run_none f (run.Creating (creating.Poll t)) aim w ts x = none_as (to_call (Call.poll t)) w ts x.1 tt
run_none f (run.Creating (creating.Polling n)) aim w ts (a, t, x, is) = none_as (to_call (Call.poll t)) w ts x tt
run_none f (run.Creating (creating.Pausing t)) aim w ts x = none_as (to_pause _) w ts x.1 tt
run_none f (run.Creating (creating.Starting t carry)) aim w ts (r, so_far, a, place, st, x) = start_none (wanted_at r place) w ts x

pub none_held : (talk : Talk) (own : Option (List ℕ)) (w : Wanted) (bytes : List ℕ) (steps : List Step) (written : List ℕ) →
    Stands talk own w bytes steps written → HoldsNoneAt w (tokens talk)
unfolding Stands tokens
none_held talk own w bytes steps written st = by_state talk.state st
  where
    by_state : (s : State) → StandsIn s talk own w bytes steps written → HoldsNoneAt w (state_tokens s)
    by_state states.Reading x = nothing_at w
    by_state (states.Continuing sent) x = nothing_at w
    by_state states.Beginning x = nothing_at w
    by_state (states.Running r) x = run_none x.in_state.0 r x.aim w (run_tokens r) x.in_state.2.wants
    by_state (states.Writing out) x = nothing_at w
    by_state (states.Undoing fault u) x = undo_none u w (undo_tokens u) x.wants
    by_state (states.Done result) x = nothing_at w
