-- The answers of a Delete Session.
use Rattle.std.proofs.Common.{◌≡◌, ◌≢◌, ℕ, Bool, false, List, [], ◌∷◌, refl, sym, subst, inl}
use Rattle.std.specs.Prelude.{Result, Ok, Err, Some, IfOk}
use Rattle.grid_types.specs.declared.text.NoMemory.{NoMemory}
use Rattle.grid_types.specs.declared.entry.Found.{Found}
use Rattle.grid_types.specs.declared.entry.Found.TheVariants as found
use Rattle.grid_types.specs.declared.names.SlotId.{SlotId}
use Rattle.grid_types.specs.Tokens.{Closing}
use Rattle.grid_types.specs.Calls.{Call, Reply}
use Rattle.hub_core.specs.declared.answers.Ending.{Ending}
use Rattle.grid_outside.specs.declared.exchange.Reply.TheVariants as node
use Rattle.grid_outside.specs.declared.exchange.ExchangeFault.TheVariants as fault
use Rattle.grid_outside.specs.Exchanges.{Came}
use Rattle.node_client.specs.Asks.{with_path, session_path}
use Rattle.node_client.specs.Steps.{Called, Spent}
use Rattle.conn_script.specs.declared.deleting.Deleting.TheVariants as deleting
use Rattle.conn_script.specs.declared.deleting.Quitted.{Quitted}
use Rattle.conn_script.specs.declared.deleting.Quitted.TheVariants as quitted
use Rattle.conn_script.specs.declared.turn.Turn.{Turn}
use Rattle.conn_script.specs.declared.turn.Turn.TheVariants as turn
use Rattle.conn_script.specs.declared.turn.Run.TheVariants as run
use Rattle.conn_script.specs.declared.wants.HubAnswer.{HubAnswer}
use Rattle.conn_script.specs.declared.wants.HubAnswer.TheVariants as answers
use Rattle.conn_script.specs.Responses.{bytes_of}
use Rattle.conn_script.specs.Messages.{no_such_session}
use Rattle.conn_script.specs.DeleteSession as rules
use Rattle.conn_script.specs.DeleteSession.{AfterQuit, AfterEnd, AfterLookup, AsksWhere, QuitLacks, EndLacks, DeleteLacks}
use Rattle.conn_script.specs.Wanted.{to_call, to_ask, FitsKind, Kind}
use Rattle.conn_script.specs.Turns.{responded, IsUnanswered}
use Rattle.conn_script.specs.Deleting.{DeletesOn, LookupTurns, EndTurns, QuitTurns, FreeTurns, IsFreeSpent, IsKept, quitted_of, kept_response, is_lacking, FreesLacking}
use Rattle.grid_types.specs.declared.spent.Spent as spending
use Rattle.hub_core.specs.declared.answers.Ending.TheVariants as ending
use Rattle.node_client.specs.declared.path.SessionPath.{SessionPath}
use Rattle.node_client.specs.Paths.{path_text}
use Rattle.conn_script.proofs.TurnLemmas.{own_turns, spent_turns, lacks_turns}
use Rattle.conn_script.proofs.ElseLemmas.{else_turns, else_lookup, else_end}

pub lookup_else : (id : List ℕ) (answer : HubAnswer) (t : Turn) (close : Bool) → FitsKind answer Kind.lookup → ((x : Found) → answer ≢ answers.Lookup x) →
    IsUnanswered answer t → LookupTurns id answer t close
lookup_else id answer t close f n h at =
    else_turns DeletesOn (AsksWhere id) (DeleteLacks id) Kind.lookup (Call.lookup id) at close answer t (else_lookup answer f n) h (rules.lookup_spent at) refl (λ r. absurd r)

pub lookup_found : (id : List ℕ) (slot : SlotId) (address : List ℕ) (b : ℕ) (close : Bool) →
    LookupTurns id (answers.Lookup (found.At slot address b)) (turn.Go (run.Deleting (deleting.End id b)) false) close
lookup_found id slot address b close at =
    (((to_call (Call.end id b), refl, (λ more response p. rules.found_at at slot address b more response p), (λ more p. rules.behind_lookup at slot address b more p)), refl))

pub lookup_none : (id : List ℕ) (close : Bool) (r : Result (List ℕ) NoMemory) → IfOk r (λ bytes. bytes ≡ bytes_of no_such_session close) →
    LookupTurns id (answers.Lookup found.NoSession) (responded r) close
lookup_none id close r h at = own_turns DeletesOn (AsksWhere id) (DeleteLacks id) (Called (Call.lookup id) at (Some (Reply.found found.NoSession)) ∷ []) close r _ _ (rules.not_found at) refl h

pub end_else : (id : List ℕ) (b : ℕ) (answer : HubAnswer) (t : Turn) (close : Bool) → FitsKind answer Kind.end → ((x : Ending) → answer ≢ answers.End x) →
    IsUnanswered answer t → EndTurns id b answer t close
end_else id b answer t close f n h at =
    else_turns DeletesOn (AfterLookup id b) (EndLacks id b) Kind.end (Call.end id b) at close answer t (else_end answer f n) h (rules.end_spent at) refl (λ r. rules.end_lacks at)

pub end_ended : (id : List ℕ) (b : ℕ) (c : Closing) (path : SessionPath) (close : Bool) → path_text path ≡ session_path id →
    EndTurns id b (answers.End (ending.Ended c)) (turn.Go (run.Deleting (deleting.Quit c path)) false) close
end_ended id b c path close e at = (
  (
    to_ask c.address (with_path (path_text path)),
    refl,
    (λ more response p. rules.ended at c more response (subst (λ (z : List ℕ). AfterEnd z c more response) e p)),
    (λ more p. rules.behind_end at c more (subst (λ (z : List ℕ). QuitLacks z c more) e p)),
  ),
  refl,
)

pub end_none : (id : List ℕ) (b : ℕ) (close : Bool) (r : Result (List ℕ) NoMemory) → IfOk r (λ bytes. bytes ≡ bytes_of no_such_session close) →
    EndTurns id b (answers.End ending.NoSession) (responded r) close
end_none id b close r h at = own_turns DeletesOn (AfterLookup id b) (EndLacks id b) (Called (Call.end id b) at (Some Reply.no_session) ∷ []) close r _ _ (rules.not_ended at) refl h

quit_leads : (c : Closing) (came : Came) → QuitTurns c came (turn.Go (run.Deleting (deleting.Free c (quitted_of came))) (is_lacking (quitted_of came)))
quit_leads c (Ok (node.Http reply)) close path = ((to_call (Call.freed c), refl, (λ more response p. rules.asked (Ok (node.Http reply)) more response p), (λ more p. absurd p)), refl)
quit_leads c (Ok (node.NotHttp bytes)) close path = ((to_call (Call.freed c), refl, (λ more response p. rules.asked (Ok (node.NotHttp bytes)) more response p), (λ more p. absurd p)), refl)
quit_leads c (Err fault.Unreachable) close path = ((to_call (Call.freed c), refl, (λ more response p. rules.asked (Err fault.Unreachable) more response p), (λ more p. absurd p)), refl)
quit_leads c (Err fault.Memory) close path = ((to_call (Call.freed c), refl, (λ more response p. rules.asked (Err fault.Memory) more response p), (λ more p. rules.not_sent more p)), refl)

pub quit_turns : (c : Closing) (came : Came) (q : Quitted) (short : Bool) → q ≡ quitted_of came → short ≡ is_lacking q →
    QuitTurns c came (turn.Go (run.Deleting (deleting.Free c q)) short)
quit_turns c came q short e f =
    subst (λ (s : Bool). QuitTurns c came (turn.Go (run.Deleting (deleting.Free c q)) s)) (sym f)
    (subst (λ (x : Quitted). QuitTurns c came (turn.Go (run.Deleting (deleting.Free c x)) (is_lacking x))) (sym e) (quit_leads c came))

pub free_spent : (q : Quitted) (s : spending.Spent) (t : Turn) (close : Bool) → IsFreeSpent q t → FreeTurns q (answers.Spent s) t close
free_spent quitted.Http s t close h c at = spent_turns DeletesOn (AfterQuit c (kept_response quitted.Http)) (FreesLacking quitted.Http c) (Spent (Call.freed c) at ∷ []) close t (rules.freed_spent _ at) refl h
free_spent quitted.NotHttp s t close h c at = spent_turns DeletesOn (AfterQuit c (kept_response quitted.NotHttp)) (FreesLacking quitted.NotHttp c) (Spent (Call.freed c) at ∷ []) close t (rules.freed_spent _ at) refl h
free_spent quitted.Unreachable s t close h c at = spent_turns DeletesOn (AfterQuit c (kept_response quitted.Unreachable)) (FreesLacking quitted.Unreachable c) (Spent (Call.freed c) at ∷ []) close t (rules.freed_spent _ at) refl h
free_spent quitted.Memory s t close h c at = lacks_turns DeletesOn (AfterQuit c (kept_response quitted.Memory)) (FreesLacking quitted.Memory c) (Spent (Call.freed c) at ∷ []) close t (rules.finds_spent at) h

pub free_done : (q : Quitted) (close : Bool) (r : Result (List ℕ) NoMemory) → IfOk r (λ bytes. IsKept (kept_response q) bytes close) → FreeTurns q answers.Freed (responded r) close
free_done quitted.Http close r h c at = own_turns DeletesOn (AfterQuit c (kept_response quitted.Http)) (FreesLacking quitted.Http c) (Called (Call.freed c) at (Some Reply.is_freed) ∷ []) close r _ _ (rules.freed _ at) refl h
free_done quitted.NotHttp close r h c at = own_turns DeletesOn (AfterQuit c (kept_response quitted.NotHttp)) (FreesLacking quitted.NotHttp c) (Called (Call.freed c) at (Some Reply.is_freed) ∷ []) close r _ _ (rules.freed _ at) refl h
free_done quitted.Unreachable close r h c at = own_turns DeletesOn (AfterQuit c (kept_response quitted.Unreachable)) (FreesLacking quitted.Unreachable c) (Called (Call.freed c) at (Some Reply.is_freed) ∷ []) close r _ _ (rules.freed _ at) refl h
free_done quitted.Memory close (Ok bytes) h c at = absurd h
free_done quitted.Memory close (Err e) h c at = inl (rules.frees at)

pub free_else : (q : Quitted) (answer : HubAnswer) (t : Turn) (close : Bool) → FitsKind answer Kind.freed → ((s : spending.Spent) → answer ≢ answers.Spent s) →
    FreeTurns q answers.Freed t close → FreeTurns q answer t close
free_else q answers.Freed t close f n h = h
free_else q (answers.Spent s) t close f n h = absurd (n s refl)
free_else q answers.NoRoom t close f n h = absurd f
free_else q (answers.Register a) t close f n h = absurd (cc)
free_else q (answers.Beat a) t close f n h = absurd (cc)
free_else q (answers.Drain a) t close f n h = absurd (cc)
free_else q (answers.Remove a) t close f n h = absurd (cc)
free_else q (answers.Enqueue a) t close f n h = absurd (cc)
free_else q (answers.Poll a) t close f n h = absurd (cc)
free_else q (answers.Bind a) t close f n h = absurd (cc)
free_else q (answers.Fail a) t close f n h = absurd (cc)
free_else q (answers.Lookup a) t close f n h = absurd (cc)
free_else q (answers.Touch a) t close f n h = absurd (cc)
free_else q (answers.End a) t close f n h = absurd (cc)
free_else q (answers.Clear a) t close f n h = absurd (cc)
free_else q (answers.View a) t close f n h = absurd (cc)
free_else q (answers.Withdraw a) t close f n h = absurd (cc)
