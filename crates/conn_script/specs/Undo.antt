-- What is done for a client that can't be told what came of its request. A session that was created is ended where a write
-- failed before its whole response was taken, or where there was no memory to build that; a request that waits for a session is
-- withdrawn where its client has left.
use Rattle.std.specs.Prelude.{◌≡◌, ◌⊎◌, ℕ, true, false, Bool, List, [], ◌∷◌, ◌++◌, Option, None, Some}
use Rattle.grid_types.specs.Tokens.{Closing, Ticket}
use Rattle.grid_types.specs.Calls.{Call, Reply}
use Rattle.node_client.specs.Asks.{with_path}
use Rattle.node_client.specs.Paths.{path_text}
use Rattle.node_client.specs.Steps.{Step, Called, Paused}
use Rattle.node_client.specs.Held.{Token, of_closing, of_ticket}
use Rattle.conn_script.specs.declared.undoing.Undoing.{Undoing}
use Rattle.conn_script.specs.declared.undoing.Undoing.TheVariants as undoing
use Rattle.conn_script.specs.declared.wants.HubAnswer.{HubAnswer}
use Rattle.conn_script.specs.declared.wants.HubCall.{HubCall}
use Rattle.conn_script.specs.Responses.{Response, created, left}
use Rattle.conn_script.specs.DeleteSession.{FreesLast}
use Rattle.conn_script.specs.Ends.{EndsAtNode, EndsCreated}
use Rattle.conn_script.specs.NewSession.{Withdraws, poll_pause}
use Rattle.conn_script.specs.Wanted.{Wanted, to_call, to_ask, to_pause, call_of, call_step, call_tokens, Kind, kind_of, Awaited, answer_to, came, pause_end, nothing, Fits, Made, finds_spent, told_tokens, Readies, IsScriptWant, Shows}
use Rattle.conn_script.specs.Work.{Outlook, undo_work, UndoesLess}
use Rattle.conn_script.specs.declared.wants.Answer.{Answer}
use Rattle.conn_script.specs.declared.wants.Want.{Want}

-- what is done where a response was not taken whole, or could not be built; where there is none, neither can be
abbrev pub Undoes : Response → List Step → Type 0
Undoes (created session caps binding) steps = EndsCreated session binding steps
Undoes left steps = ⊥
Undoes response steps = steps ≡ []

-- ---- under way

abbrev pub UndoWants : Undoing → Wanted → Type 0
UndoWants (undoing.Withdraw t) w = w ≡ to_call (Call.withdraw t)
UndoWants undoing.Withdrawing w = (t : Ticket) × (w ≡ to_call (Call.withdraw t))
UndoWants (undoing.Waiting t) w = w ≡ to_pause poll_pause
UndoWants (undoing.End s b) w = w ≡ to_call (Call.end s b)
UndoWants (undoing.Ending s b) w = w ≡ to_call (Call.end s b)
UndoWants (undoing.Quit c path) w = w ≡ to_ask c.address (with_path (path_text path))
UndoWants (undoing.Free c) w = w ≡ to_call (Call.freed c)
UndoWants undoing.Freeing w = (c : Closing) × (w ≡ to_call (Call.freed c))
UndoWants undoing.Over w = ⊥

abbrev pub WithdrawingFollows : Wanted → List Step → Type 0
WithdrawingFollows (to_call (Call.withdraw t)) more = Withdraws t more
WithdrawingFollows w more = ⊥

pub data AfterWait (t : Ticket) : List Step → Type 0 where
  waited : (more : List Step) → Withdraws t more → AfterWait t (Paused poll_pause ∷ more)

abbrev pub FreeingFollows : Wanted → List Step → Type 0
FreeingFollows (to_call (Call.freed c)) more = FreesLast c more
FreeingFollows w more = ⊥

-- what goes on from there
abbrev pub UndoFollows : Undoing → Wanted → List Step → Type 0
UndoFollows (undoing.Withdraw t) w more = Withdraws t more
UndoFollows undoing.Withdrawing w more = WithdrawingFollows w more
UndoFollows (undoing.Waiting t) w more = AfterWait t more
UndoFollows (undoing.End s b) w more = EndsCreated s b more
UndoFollows (undoing.Ending s b) w more = EndsCreated s b more
UndoFollows (undoing.Quit c path) w more = EndsAtNode (path_text path) c more
UndoFollows (undoing.Free c) w more = FreesLast c more
UndoFollows undoing.Freeing w more = FreeingFollows w more
UndoFollows undoing.Over w more = more ≡ []

-- it goes on, or is over
abbrev pub UndoLeads : Undoing → (List Step → Type 0) → Type 0
UndoLeads undoing.Over goal = goal []
UndoLeads u goal = (w : Wanted) × UndoWants u w × ((more : List Step) → UndoFollows u w more → goal more)

abbrev pub WithdrawLeads : HubAnswer → Undoing → Type 0
WithdrawLeads answer next = (t : Ticket) (at : ℕ) →
    UndoLeads next (λ more. Withdraws t (call_step answer (Call.withdraw t) at ∷ more))

abbrev pub UndoEndLeads : List ℕ → ℕ → HubAnswer → Undoing → Type 0
UndoEndLeads s b answer next = (at : ℕ) → UndoLeads next (λ more. EndsCreated s b (call_step answer (Call.end s b) at ∷ more))

abbrev pub UndoFreeLeads : HubAnswer → Type 0
UndoFreeLeads answer = (c : Closing) (at : ℕ) → FreesLast c (call_step answer (Call.freed c) at ∷ [])

abbrev pub undo_tokens : Undoing → List Token
undo_tokens (undoing.Withdraw t) = of_ticket t ∷ []
undo_tokens (undoing.Waiting t) = of_ticket t ∷ []
undo_tokens (undoing.Quit c path) = of_closing c ∷ []
undo_tokens (undoing.Free c) = of_closing c ∷ []
undo_tokens u = []

abbrev pub undo_awaits : Undoing → Awaited
undo_awaits undoing.Withdrawing = answer_to Kind.withdraw
undo_awaits (undoing.Waiting t) = pause_end
undo_awaits (undoing.Ending s b) = answer_to Kind.end
undo_awaits (undoing.Quit c path) = came
undo_awaits undoing.Freeing = answer_to Kind.freed
undo_awaits u = nothing

abbrev pub undo_held : Undoing → Option Kind
undo_held (undoing.Withdraw t) = Some Kind.withdraw
undo_held (undoing.End s b) = Some Kind.end
undo_held (undoing.Free c) = Some Kind.freed
undo_held u = None

-- a request is being withdrawn
abbrev pub undo_leaves : Undoing → Bool
undo_leaves (undoing.Withdraw t) = true
undo_leaves undoing.Withdrawing = true
undo_leaves (undoing.Waiting t) = true
undo_leaves u = false

pub record IsUndoTaken (old : Undoing) (call : HubCall) (new : Undoing) : Type 0 where
  pub waits : undo_awaits new ≡ answer_to (kind_of (call_of call))
  pub keeps : undo_tokens old ≡ call_tokens (call_of call) ++ undo_tokens new
  pub wants : (w : Wanted) → UndoWants old w → (w ≡ to_call (call_of call)) × UndoWants new w
  pub leads : (w : Wanted) (more : List Step) → UndoWants old w → UndoFollows new w more → UndoFollows old w more
  pub leaves_so : undo_leaves new ≡ undo_leaves old
  pub work_is : (o : Outlook) → undo_work new o ≡ undo_work old o

-- ---- how an answer moves it on

-- something is wanted, and no call that was handed out waits for its answer
abbrev pub undo_goes_on : Undoing → Bool
undo_goes_on (undoing.Withdraw t) = true
undo_goes_on (undoing.Waiting t) = true
undo_goes_on (undoing.End s b) = true
undo_goes_on (undoing.Quit c path) = true
undo_goes_on (undoing.Free c) = true
undo_goes_on u = false

-- it is over or may be asked what it wants, and holds these tokens
pub record IsUndoReady (next : Undoing) (tokens : List Token) : Type 0 where
  pub fresh : (next ≡ undoing.Over) ⊎ (undo_goes_on next ≡ true)
  pub holds : undo_tokens next ≡ tokens

-- it waits only right behind a withdrawal that was told to
abbrev pub WaitsBehind : Undoing → List Step → Type 0
WaitsBehind (undoing.Waiting u) made = (t : Ticket) × (at : ℕ) × (made ≡ Called (Call.withdraw t) at (Some (Reply.not_yet u)) ∷ [])
WaitsBehind next made = Unit {0}

abbrev pub WithdrawWaits : HubAnswer → Undoing → Type 0
WithdrawWaits answer next = (t : Ticket) (at : ℕ) → WaitsBehind next (call_step answer (Call.withdraw t) at ∷ [])

pub record UndoMoves (old : Undoing) (answer : Answer) (next : Undoing) : Type 0 where
  pub fresh : (next ≡ undoing.Over) ⊎ (undo_goes_on next ≡ true)
  pub keeps : finds_spent answer ≡ false → undo_tokens next ≡ told_tokens answer ++ undo_tokens old
  pub void : finds_spent answer ≡ true → undo_tokens next ≡ []
  pub leads : (own : Option (List ℕ)) (w : Wanted) (made : List Step) → UndoWants old w → Fits answer w → Made own answer w made →
      UndoLeads next (λ more. UndoFollows old w (made ++ more))
  pub waits : (own : Option (List ℕ)) (w : Wanted) (made : List Step) → UndoWants old w → Fits answer w → Made own answer w made →
      WaitsBehind next made
  pub stays : undo_leaves old ≡ false → undo_leaves next ≡ false
  pub less : UndoesLess old answer next

-- what is wanted
pub record UndoAsksFor (u : Undoing) (want : Want) : Type 0 where
  pub readies : Readies want (undo_awaits u) (undo_held u)
  pub of_script : IsScriptWant want
  pub shows : (w : Wanted) → UndoWants u w → Shows want w
