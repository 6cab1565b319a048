-- What a script wants.
use Rattle.std.proofs.Common.{◌≡◌, ◌⊎◌, ℕ, Bool, true, false, ◌&&◌, ◌||◌, List, refl, sym, ◌∙◌, ap, subst, inl, inr}
use Rattle.std.specs.Prelude.{Option, None, Some, is_some}
use Rattle.grid_types.specs.Calls.{Call}
use Rattle.grid_types.specs.Tokens.{Ticket, Closing}
use Rattle.node_client.specs.declared.carry.Carry.{Carry}
use Rattle.node_client.specs.declared.path.SessionPath.{SessionPath}
use Rattle.node_client.specs.declared.wants.CarryWant.{CarryWant}
use Rattle.node_client.specs.declared.wants.CarryWant.TheVariants as carried
use Rattle.node_client.specs.Carrying as carrying
use Rattle.node_client.specs.Carrying.{awaited, held, is_fresh, HandsOut}
use Rattle.node_client.specs.Places as places
use Rattle.conn_script.specs.declared.calling.Calling.{Calling}
use Rattle.conn_script.specs.declared.calling.Calling.TheVariants as calling
use Rattle.conn_script.specs.declared.deleting.Deleting.{Deleting}
use Rattle.conn_script.specs.declared.deleting.Deleting.TheVariants as deleting
use Rattle.conn_script.specs.declared.relaying.Relaying.{Relaying}
use Rattle.conn_script.specs.declared.relaying.Relaying.TheVariants as relaying
use Rattle.conn_script.specs.declared.creating.Creating.{Creating}
use Rattle.conn_script.specs.declared.creating.Creating.TheVariants as creating
use Rattle.conn_script.specs.declared.turn.Run.{Run}
use Rattle.conn_script.specs.declared.turn.Run.TheVariants as run
use Rattle.conn_script.specs.declared.wants.Want.{Want}
use Rattle.conn_script.specs.declared.request.Whole.{Whole}
use Rattle.conn_script.specs.declared.undoing.Undoing.{Undoing}
use Rattle.conn_script.specs.declared.undoing.Undoing.TheVariants as undo
use Rattle.conn_script.specs.declared.wants.Want.TheVariants as wants
use Rattle.conn_script.specs.Wanted.{Wanted, to_call, IsCall, Kind, kind_of, call_of}
use Rattle.conn_script.specs.Creating.{want_of}
use Rattle.conn_script.specs.Running.{start_held}
use Rattle.conn_script.specs.Moving.{AsksFor, AsksForItself, IsStartWant, start_goes_on, call_is_fresh, delete_is_fresh, relay_is_fresh, create_is_fresh}
use Rattle.conn_script.specs.Undo.{UndoAsksFor, undo_goes_on}

calls : (w : Wanted) (call : Call) → w ≡ to_call call → IsCall w
calls w call e = subst IsCall (sym e) tt

-- what the request tells nothing of is wanted for each request
pub for_any : (r : Run) (whole : Whole) (want : Want) → AsksForItself r want → AsksFor r whole want
for_any r whole want asks = record {
  readies = asks.readies;
  of_script = asks.of_script;
  shows = λ f aim w of x. asks.shows f aim w x;
}

pub call_asks : (c : Calling) → call_is_fresh c ≡ true → AsksForItself (run.Calling c) wants.Hub
call_asks (calling.Ask call asked) fresh = record {
  readies = (kind_of (call_of call), refl);
  of_script = tt;
  shows = λ f aim w x. calls w (call_of call) x.1.0;
}
call_asks (calling.Asked asked) fresh = absurd cc

pub delete_asks : (d : Deleting) → delete_is_fresh d ≡ true → ((c : Closing) (path : SessionPath) → ¬ (d ≡ deleting.Quit c path)) →
    AsksForItself (run.Deleting d) wants.Hub
delete_asks (deleting.Lookup id) fresh n = record { readies = (Kind.lookup, refl); of_script = tt; shows = λ f aim w x. calls w (Call.lookup id) x.1 }
delete_asks (deleting.End id b) fresh n = record { readies = (Kind.end, refl); of_script = tt; shows = λ f aim w x. calls w (Call.end id b) x.1 }
delete_asks (deleting.Free c q) fresh n = record { readies = (Kind.freed, refl); of_script = tt; shows = λ f aim w x. calls w (Call.freed c) x.1 }
delete_asks (deleting.Quit c path) fresh n = absurd (n c path refl)
delete_asks (deleting.LookingUp id) fresh n = absurd cc
delete_asks (deleting.Ending id b) fresh n = absurd cc
delete_asks (deleting.Freeing q) fresh n = absurd cc

pub relay_asks : (r : Relaying) → relay_is_fresh r ≡ true → ((address target : List ℕ) → ¬ (r ≡ relaying.Exchange address target)) →
    AsksForItself (run.Relaying r) wants.Hub
relay_asks (relaying.Lookup id target) fresh n = record { readies = (Kind.lookup, refl); of_script = tt; shows = λ f aim w x. calls w (Call.lookup id) x.1 }
relay_asks (relaying.Touch id b address target) fresh n = record { readies = (Kind.touch, refl); of_script = tt; shows = λ f aim w x. calls w (Call.touch id b) x.1 }
relay_asks (relaying.Exchange address target) fresh n = absurd (n address target refl)
relay_asks (relaying.LookingUp id target) fresh n = absurd cc
relay_asks (relaying.Touching id b address target) fresh n = absurd cc

pub create_asks : (k : Creating) → create_is_fresh k ≡ true → ((t : Ticket) → ¬ (k ≡ creating.Pausing t)) →
    ((t : Ticket) (carry : Carry) → ¬ (k ≡ creating.Starting t carry)) → AsksForItself (run.Creating k) wants.Hub
create_asks (creating.Enqueue choices) fresh n m = record { readies = (Kind.enqueue, refl); of_script = tt; shows = λ f aim w x. calls w (Call.enqueue choices) x.1 }
create_asks (creating.Poll t) fresh n m = record { readies = (Kind.poll, refl); of_script = tt; shows = λ f aim w x. calls w (Call.poll t) x.1 }
create_asks (creating.Pausing t) fresh n m = absurd (n t refl)
create_asks (creating.Starting t carry) fresh n m = absurd (m t carry refl)
create_asks creating.Enqueuing fresh n m = absurd cc
create_asks (creating.Polling k) fresh n m = absurd cc

-- ---- a start

and_left : (a b : Bool) → (a && b) ≡ true → a ≡ true
and_left true b e = refl
and_left false b e = e

pub goes_fresh : (carry : Carry) → start_goes_on carry ≡ true → is_fresh carry ≡ true
goes_fresh carry e = and_left (is_fresh carry) (is_some (awaited carry) || is_some (held carry)) e

pub not_over : (carry : Carry) → start_goes_on carry ≡ true → awaited carry ≡ None → held carry ≡ None → ⊥
not_over carry e a h = both (is_fresh carry) (awaited carry) (held carry) e a h
  where
    both : (f : Bool) (x y : Option carrying.Kind) → (f && (is_some x || is_some y)) ≡ true → x ≡ None → y ≡ None → ⊥
    both true None None e a h = cc
    both false None None e a h = cc
    both f (Some k) y e a h = cc
    both f None (Some k) e a h = cc

a_call : (v : places.Wanted) (w : Wanted) → places.IsBind v ⊎ (places.IsFail v ⊎ places.IsFreed v) → want_of v w → IsCall w
a_call (places.to_call call) w o e = calls w call e
a_call (places.to_ask address ask) w (inl o) e = absurd o
a_call (places.to_ask address ask) w (inr (inl o)) e = absurd o
a_call (places.to_ask address ask) w (inr (inr o)) e = absurd o
a_call (places.over end) w o e = absurd e

holds : (carry : Carry) (k : carrying.Kind) (kind : Kind) → is_fresh carry ≡ true → held carry ≡ Some k → start_held true (Some k) ≡ Some kind →
    start_held (is_fresh carry) (held carry) ≡ Some kind
holds carry k kind fresh h e =
    ap (λ (b : Bool). start_held b (held carry)) fresh ∙ ap (λ (o : Option carrying.Kind). start_held true o) h ∙ e

pub start_asks : (carry : Carry) (want : CarryWant) → is_fresh carry ≡ true → HandsOut carry want → ((e : _) → ¬ (want ≡ carried.Done e)) →
    ((a : _) (r : _) → ¬ (want ≡ carried.Node a r)) → IsStartWant carry wants.Hub
start_asks carry carried.Bind fresh x n m = record {
  readies = (Kind.bind, holds carry carrying.Bind Kind.bind fresh x.readies.0 refl);
  of_script = tt;
  shows = λ r place so_far w st e. a_call (places.wanted_at r place) w (inl (x.tells r place so_far st).shows) e;
}
start_asks carry carried.Fail fresh x n m = record {
  readies = (Kind.fail, holds carry carrying.Fail Kind.fail fresh x.readies.0 refl);
  of_script = tt;
  shows = λ r place so_far w st e. a_call (places.wanted_at r place) w (inr (inl (x.tells r place so_far st).shows)) e;
}
start_asks carry carried.Freed fresh x n m = record {
  readies = (Kind.freed, holds carry carrying.Freed Kind.freed fresh x.readies.0 refl);
  of_script = tt;
  shows = λ r place so_far w st e. a_call (places.wanted_at r place) w (inr (inr (x.tells r place so_far st).shows)) e;
}
start_asks carry (carried.Node a r) fresh x n m = absurd (m a r refl)
start_asks carry (carried.Done e) fresh x n m = absurd (n e refl)

-- ---- the end of a session

pub undo_asks : (u : Undoing) → undo_goes_on u ≡ true → ((t : Ticket) → ¬ (u ≡ undo.Waiting t)) → ((c : Closing) (path : SessionPath) → ¬ (u ≡ undo.Quit c path)) →
    UndoAsksFor u wants.Hub
undo_asks (undo.Withdraw t) goes m n = record { readies = (Kind.withdraw, refl); of_script = tt; shows = λ w x. calls w (Call.withdraw t) x }
undo_asks undo.Withdrawing goes m n = absurd cc
undo_asks (undo.Waiting t) goes m n = absurd (m t refl)
undo_asks (undo.End s b) goes m n = record { readies = (Kind.end, refl); of_script = tt; shows = λ w x. calls w (Call.end s b) x }
undo_asks (undo.Free c) goes m n = record { readies = (Kind.freed, refl); of_script = tt; shows = λ w x. calls w (Call.freed c) x }
undo_asks (undo.Quit c path) goes m n = absurd (n c path refl)
undo_asks (undo.Ending s b) goes m n = absurd cc
undo_asks undo.Freeing goes m n = absurd cc
undo_asks undo.Over goes m n = absurd cc
