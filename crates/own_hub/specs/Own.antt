-- What the calls of a driver on a hub promise, whichever hub it is.
use Rattle.std.specs.Prelude.{◌≡◌, ℕ, Bool, true, false, Option, Some, Result, Ok, Err}
use Rattle.grid_types.specs.Calls.{Call, Reply}
use Rattle.hub_core.specs.HubView.{HubView, ServesLocally}

-- what is told of a hub on which a driver makes its calls, with the faults that it may have
pub record Own (S F : Type 0) : Type 1 where
  -- the hub of one thread that it is
  pub shown : S → HubView
  -- it takes calls
  pub IsOpen : S → Type 0
  -- what is told besides of calls that led from the one to the other
  pub Along : S → S → Type 0
  -- what is told besides of calls the last of which met this fault
  pub Stopped : S → F → S → Type 0

-- room was made, or there is none
abbrev pub HasRoom : Bool → HubView → HubView → Type 0
HasRoom true old new = new ≡ record old { room = true }
HasRoom false old new = new ≡ old

-- the replies of the calls whose answers are no enums
abbrev pub cleared_reply : ℕ → Option Reply
cleared_reply count = Some (Reply.cleared count)

abbrev pub freed_reply : Unit {0} → Option Reply
freed_reply answer = Some Reply.is_freed

module _ {S F : Type 0} (own : Own S F) where
  -- it takes calls still, and what was told of the calls so far is told of these too
  pub record Goes (old new : S) : Type 0 where
    pub is_open : own.IsOpen new
    pub along : (first : S) → own.Along first old → own.Along first new

  -- a call met a fault, behind all calls so far
  abbrev pub Stops : S → F → S → Type 0
  Stops old fault new = (first : S) → own.Along first old → own.Stopped first fault new

  -- after some calls it takes calls still, or has met a fault
  abbrev pub GoesOrStops : {A : Type 0} → S → Result A F → S → Type 0
  GoesOrStops old (Ok answer) new = Goes old new
  GoesOrStops old (Err fault) new = Stops old fault new

  -- a call was answered as by the hub of one thread
  pub record HasAnswered (old : S) (call : Call) (at : ℕ) (reply : Option Reply) (new : S) : Type 0 where
    pub serves : ServesLocally (own.shown old) call at reply (own.shown new)
    pub goes : Goes old new

  -- or has met a fault
  abbrev pub AnswersOrStops : {A : Type 0} → (A → Option Reply) → S → Call → ℕ → Result A F → S → Type 0
  AnswersOrStops reply_of old call at (Ok answer) new = HasAnswered old call at (reply_of answer) new
  AnswersOrStops reply_of old call at (Err fault) new = Stops old fault new

  -- room was made, or there is none
  pub record Roomed (has : Bool) (old new : S) : Type 0 where
    pub room : HasRoom has (own.shown old) (own.shown new)
    pub goes : Goes old new
