-- What came of a call that a connection hands out, on the hub of one thread.
use Rattle.std.specs.Prelude.{◌≡◌, ℕ, true, false, List, Option, Result, Ok, Err}
use Rattle.grid_types.specs.declared.entry.Entry.{Entry}
use Rattle.grid_types.specs.declared.names.SlotId.{SlotId}
use Rattle.grid_types.specs.Tokens.{ticket_of, reservation_of, is_good_ticket, is_good_reservation, is_good_closing}
use Rattle.grid_types.specs.Calls.{Call, Reply}
use Rattle.grid_types.specs.HandedIn.{hands_ticket, hands_reservation, hands_closing}
use Rattle.hub_core.specs.HubView.{HubView, past}
use Rattle.hub_core.specs.Serves.{GivesGood, MayCall}
use Rattle.conn_script.specs.declared.wants.HubAnswer.{HubAnswer}
use Rattle.conn_script.specs.Wanted.{FitsKind, Keeps, kind_of, reply_of, is_spent}
use Rattle.own_hub.specs.Own.{Own, Goes, Stops}
use Rattle.local_driver.specs.World.{AnswersAt}

-- What the hub asks of a call that a connection hands out; choices are always of the size that is asked. No request is withdrawn, since
-- this driver never looks whether its client has left.
abbrev pub MayMake : List Entry → Call → Type 0
MayMake H (Call.enqueue choices) = Unit {0}
MayMake H (Call.withdraw t) = ⊥
MayMake H call = MayCall H 0 call

-- The tokens of the reply are good and tell what is so. Each token that was good and was not handed in is good still, and tells the
-- same.
pub record ServesOn (old : HubView) (call : Call) (at : ℕ) (reply : Option Reply) (new : HubView) : Type 0 where
  pub config : new.config ≡ old.config
  pub answers : AnswersAt old.config (past old) call at reply (past new)
  pub gives : GivesGood (past new) 0 reply
  pub keeps_tickets : (r : ℕ) → is_good_ticket (past old) 0 r ≡ true → hands_ticket call r ≡ false →
      (is_good_ticket (past new) 0 r ≡ true) × (ticket_of (past new) r ≡ ticket_of (past old) r)
  pub keeps_reservations : (r : ℕ) (s : SlotId) → is_good_reservation (past old) 0 r s ≡ true → hands_reservation call r s ≡ false →
      (is_good_reservation (past new) 0 r s ≡ true) × (reservation_of (past new) r s ≡ reservation_of (past old) r s)
  pub keeps_closings : (s : SlotId) → is_good_closing (past old) 0 s ≡ true → hands_closing call s ≡ false → is_good_closing (past new) 0 s ≡ true

-- The answer is one to such a call, and what was handed in comes back where it is out of memory. This hub is never spent.
pub record Made (old : HubView) (call : Call) (at : ℕ) (answer : HubAnswer) (new : HubView) : Type 0 where
  pub fits : FitsKind answer (kind_of call)
  pub keeps : Keeps answer call
  pub unspent : is_spent answer ≡ false
  pub serves : ServesOn old call at (reply_of answer) new

module _ {S F : Type 0} (own : Own S F) where
  -- the same on a driver's hub, which goes on
  pub record MadeOn (old : S) (call : Call) (at : ℕ) (answer : HubAnswer) (new : S) : Type 0 where
    pub made : Made (own.shown old) call at answer (own.shown new)
    pub goes : Goes own old new

  -- or has met a fault
  abbrev pub MadeOrStops : S → Call → ℕ → Result HubAnswer F → S → Type 0
  MadeOrStops old call at (Ok answer) new = MadeOn old call at answer new
  MadeOrStops old call at (Err fault) new = Stops own old fault new
