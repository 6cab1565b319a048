-- The answers of a withdrawal, and of the end of a session that was created.
use Rattle.std.proofs.Common.{◌≡◌, ◌≢◌, ℕ, true, false, List, [], ◌∷◌, ◌++◌, refl, sym, ◌∙◌, subst, inl, inr, arith}
use Rattle.grid_outside.specs.Exchanges.{Came}
use Rattle.hub_core.specs.declared.answers.Ending.{Ending}
use Rattle.hub_core.specs.declared.answers.Ending.TheVariants as ending
use Rattle.std.specs.Prelude.{Some}
use Rattle.grid_types.specs.declared.capabilities.Cap.{Cap}
use Rattle.grid_types.specs.declared.entry.Outcome.{Outcome}
use Rattle.grid_types.specs.declared.entry.Outcome.TheVariants as outcome
use Rattle.grid_types.specs.declared.names.SlotId.{SlotId}
use Rattle.grid_types.specs.Tokens.{Closing, Ticket}
use Rattle.grid_types.specs.Calls.{Call, Reply}
use Rattle.hub_core.specs.declared.answers.Withdrawing.{Withdrawing}
use Rattle.hub_core.specs.declared.answers.Withdrawing.TheVariants as withdrawing
use Rattle.node_client.specs.Asks.{with_path, session_path}
use Rattle.node_client.specs.declared.path.SessionPath.{SessionPath}
use Rattle.node_client.specs.Paths.{path_text}
use Rattle.node_client.specs.Steps.{Step, Called, Exchanged, Paused}
use Rattle.conn_script.specs.declared.wants.HubAnswer.{HubAnswer}
use Rattle.conn_script.specs.declared.wants.HubAnswer.TheVariants as answers
use Rattle.conn_script.specs.declared.undoing.Undoing.{Undoing}
use Rattle.conn_script.specs.declared.undoing.Undoing.TheVariants as undoing
use Rattle.conn_script.specs.declared.wants.Answer.TheVariants as told
use Rattle.conn_script.specs.Wanted.{Wanted, to_ask, to_call, to_pause, FitsKind, Kind, Made, call_step, tokens_after}
use Rattle.conn_script.specs.Work.{UndoesBelow, WithdrawsLess}
use Rattle.conn_script.specs.Undo.{UndoEndLeads, WithdrawLeads, WithdrawWaits, WaitsBehind, AfterWait, waited, UndoLeads, UndoFollows, UndoMoves, IsUndoReady, undo_leaves}
use Rattle.conn_script.specs.Ends as rules
use Rattle.conn_script.specs.Ends.{EndsAtNode, EndsCreated}
use Rattle.conn_script.specs.NewSession as sessions
use Rattle.conn_script.specs.NewSession.{Withdraws, is_created, poll_pause}
use Rattle.conn_script.specs.DeleteSession as deletes
use Rattle.conn_script.specs.DeleteSession.{FreesLast}
use Rattle.conn_script.proofs.MoveLemmas.{after_kept, after_spent}
use Rattle.conn_script.proofs.ElseLemmas.{Else, spent, no_room, else_end, else_withdraw}

over_leads : (s : List ℕ) (b : ℕ) (answer : HubAnswer) → Else Kind.end answer → UndoEndLeads s b answer undoing.Over
over_leads s b _ (spent x) at = rules.end_spent at
over_leads s b _ (no_room r) at = rules.stays at

pub undo_else : (s : List ℕ) (b : ℕ) (answer : HubAnswer) (u : Undoing) → FitsKind answer Kind.end → ((x : Ending) → answer ≢ answers.End x) → u ≡ undoing.Over →
    UndoEndLeads s b answer u
undo_else s b answer u f n e = subst (λ (z : Undoing). UndoEndLeads s b answer z) (sym e) (over_leads s b answer (else_end answer f n))

pub undo_ended : (s : List ℕ) (b : ℕ) (c : Closing) (path : SessionPath) → path_text path ≡ session_path s →
    UndoEndLeads s b (answers.End (ending.Ended c)) (undoing.Quit c path)
undo_ended s b c path e at =
    (to_ask c.address (with_path (path_text path)), refl, (λ more p. rules.ends at c (subst (λ (z : List ℕ). EndsAtNode z c more) e p)))

pub undo_gone : (s : List ℕ) (b : ℕ) → UndoEndLeads s b (answers.End ending.NoSession) undoing.Over
undo_gone s b at = rules.is_gone at

-- ---- a withdrawal

-- what does not go on with one waits for none
pub waits_none : (u : Undoing) (made : List Step) → undo_leaves u ≡ false → WaitsBehind u made
waits_none (undoing.Withdraw t) made e = tt
waits_none undoing.Withdrawing made e = tt
waits_none (undoing.Waiting t) made e = absurd (cc)
waits_none (undoing.End s b) made e = tt
waits_none (undoing.Ending s b) made e = tt
waits_none (undoing.Quit c path) made e = tt
waits_none (undoing.Free c) made e = tt
waits_none undoing.Freeing made e = tt
waits_none undoing.Over made e = tt

no_withdrawal : (answer : HubAnswer) → Else Kind.withdraw answer → WithdrawLeads answer undoing.Over
no_withdrawal _ (spent x) t at = sessions.withdraw_spent at
no_withdrawal _ (no_room r) t at = absurd r

pub withdraw_else : (answer : HubAnswer) (u : Undoing) → FitsKind answer Kind.withdraw → ((x : Withdrawing) → answer ≢ answers.Withdraw x) → u ≡ undoing.Over →
    WithdrawLeads answer u
withdraw_else answer u f n e = subst (λ (z : Undoing). WithdrawLeads answer z) (sym e) (no_withdrawal answer (else_withdraw answer f n))

pub withdrawn_leads : WithdrawLeads (answers.Withdraw withdrawing.Withdrawn) undoing.Over
withdrawn_leads t at = sessions.is_withdrawn at

held_on : (t u : Ticket) (at : ℕ) (more : List Step) → AfterWait u more → Withdraws t (Called (Call.withdraw t) at (Some (Reply.not_yet u)) ∷ more)
held_on t u at _ (waited more p) = sessions.is_held at u p

pub held_leads : (u : Ticket) → WithdrawLeads (answers.Withdraw (withdrawing.NotYet u)) (undoing.Waiting u)
held_leads u t at = (to_pause poll_pause, refl, (λ more p. held_on t u at more p))

pub held_waits : (u : Ticket) → WithdrawWaits (answers.Withdraw (withdrawing.NotYet u)) (undoing.Waiting u)
held_waits u t at = (t, at, refl)

pub never_waits : (answer : HubAnswer) (u : Undoing) → undo_leaves u ≡ false → WithdrawWaits answer u
never_waits answer u e t at = waits_none u (call_step answer (Call.withdraw t) at ∷ []) e

pub created_leads : (o : Outcome) (s : List ℕ) (caps : List Cap) (slot : SlotId) (address : List ℕ) (b : ℕ) → o ≡ outcome.Created s caps slot address b →
    WithdrawLeads (answers.Withdraw (withdrawing.Settled o)) (undoing.End s b)
created_leads o s caps slot address b e =
    subst (λ (x : Outcome). WithdrawLeads (answers.Withdraw (withdrawing.Settled x)) (undoing.End s b)) (sym e)
    (λ t at. (to_call (Call.end s b), refl, (λ more p. sessions.was_created at s caps slot address b p)))

other_outcome : (o : Outcome) → ((s : List ℕ) (caps : List Cap) (slot : SlotId) (address : List ℕ) (b : ℕ) → o ≢ outcome.Created s caps slot address b) → is_created o ≡ false
other_outcome (outcome.Created s caps slot address b) n = absurd (n s caps slot address b refl)
other_outcome (outcome.TimedOut deadline) n = refl
other_outcome (outcome.StartFailed w) n = refl
other_outcome outcome.Cleared n = refl

pub settled_leads : (o : Outcome) → ((s : List ℕ) (caps : List Cap) (slot : SlotId) (address : List ℕ) (b : ℕ) → o ≢ outcome.Created s caps slot address b) →
    WithdrawLeads (answers.Withdraw (withdrawing.Settled o)) undoing.Over
settled_leads o n t at = sessions.was_settled at o (other_outcome o n)

-- ---- what is left to do behind it

pub below_withdrawal : (answer : HubAnswer) (next : Undoing) → UndoesBelow 5 next → WithdrawsLess answer next
below_withdrawal answer next less before after h = omega (arith, less after)

pub over_withdrawal : (answer : HubAnswer) (next : Undoing) → next ≡ undoing.Over → WithdrawsLess answer next
over_withdrawal answer next e = subst (λ (u : Undoing). WithdrawsLess answer u) (sym e) (λ before after h. omega arith)

pub held_less : (u : Ticket) → WithdrawsLess (answers.Withdraw (withdrawing.NotYet u)) (undoing.Waiting u)
held_less u before after h = omega (arith, h.1)

-- ---- how an answer moves it on

pub withdraw_undoes : (a : HubAnswer) (next : Undoing) → WithdrawLeads a next → WithdrawWaits a next → IsUndoReady next (tokens_after a []) → WithdrawsLess a next →
    UndoMoves undoing.Withdrawing (told.Hub a) next
withdraw_undoes a next leads waits ready less = record {
  fresh = ready.fresh;
  keeps = λ e. ready.holds ∙ after_kept a [] e;
  void = λ e. ready.holds ∙ after_spent a [] e;
  leads = λ own w made wants fits made_is.
      let m = subst (λ (z : Wanted). Made own (told.Hub a) z made) wants.1 made_is in
      subst (λ (z : Wanted). UndoLeads next (λ more. UndoFollows undoing.Withdrawing z (made ++ more))) (sym wants.1)
      (subst (λ (steps : List Step). UndoLeads next (λ more. Withdraws wants.0 (steps ++ more))) (sym m.1) (leads wants.0 m.0));
  waits = λ own w made wants fits made_is.
      let m = subst (λ (z : Wanted). Made own (told.Hub a) z made) wants.1 made_is in
      subst (λ (steps : List Step). WaitsBehind next steps) (sym m.1) (waits wants.0 m.0);
  stays = λ e. absurd (no e);
  less = less;
}
  where
    no : true ≡ false → ⊥
    no z = cc

pub wait_undoes : (t : Ticket) → UndoMoves (undoing.Waiting t) told.Paused (undoing.Withdraw t)
wait_undoes t = record {
  fresh = inr refl;
  keeps = λ e. refl;
  void = λ e. absurd (no e);
  leads = λ own w made wants fits made_is.
      let m : made ≡ Paused poll_pause ∷ [] = subst (λ (z : Wanted). Made own told.Paused z made) wants made_is in
      (to_call (Call.withdraw t), refl, (λ more y. subst (λ (steps : List Step). AfterWait t (steps ++ more)) (sym m) (waited more y)));
  waits = λ own w made wants fits made_is. tt;
  stays = λ e. absurd (none e);
  less = λ before after h. omega (arith, h.1);
}
  where
    no : false ≡ true → ⊥
    no z = cc

    none : true ≡ false → ⊥
    none z = cc

pub end_undoes : (s : List ℕ) (b : ℕ) (a : HubAnswer) (next : Undoing) → UndoEndLeads s b a next → IsUndoReady next (tokens_after a []) → undo_leaves next ≡ false →
    UndoesBelow 3 next → UndoMoves (undoing.Ending s b) (told.Hub a) next
end_undoes s b a next leads ready stays less = record {
  fresh = ready.fresh;
  keeps = λ e. ready.holds ∙ after_kept a [] e;
  void = λ e. ready.holds ∙ after_spent a [] e;
  leads = λ own w made wants fits made_is.
      let m = subst (λ (z : Wanted). Made own (told.Hub a) z made) wants made_is in
      subst (λ (steps : List Step). UndoLeads next (λ more. EndsCreated s b (steps ++ more))) (sym m.1) (leads m.0);
  waits = λ own w made wants fits made_is. waits_none next made stays;
  stays = λ e. stays;
  less = λ before after h. less after;
}

free_last : (c : Closing) (a : HubAnswer) (at : ℕ) → FitsKind a Kind.freed → FreesLast c (call_step a (Call.freed c) at ∷ [])
free_last c answers.Freed at f = deletes.frees at
free_last c (answers.Spent s) at f = deletes.finds_spent at
free_last c answers.NoRoom at f = absurd f
free_last c (answers.Register a) at f = absurd (cc)
free_last c (answers.Beat a) at f = absurd (cc)
free_last c (answers.Drain a) at f = absurd (cc)
free_last c (answers.Remove a) at f = absurd (cc)
free_last c (answers.Enqueue a) at f = absurd (cc)
free_last c (answers.Poll a) at f = absurd (cc)
free_last c (answers.Bind a) at f = absurd (cc)
free_last c (answers.Fail a) at f = absurd (cc)
free_last c (answers.Lookup a) at f = absurd (cc)
free_last c (answers.Touch a) at f = absurd (cc)
free_last c (answers.End a) at f = absurd (cc)
free_last c (answers.Clear a) at f = absurd (cc)
free_last c (answers.View a) at f = absurd (cc)
free_last c (answers.Withdraw a) at f = absurd (cc)

pub free_undoes : (a : HubAnswer) (next : Undoing) → FitsKind a Kind.freed → next ≡ undoing.Over → UndoMoves undoing.Freeing (told.Hub a) next
free_undoes a next f e = subst (λ (u : Undoing). UndoMoves undoing.Freeing (told.Hub a) u) (sym e) (record {
  fresh = inl refl;
  keeps = λ x. sym (sym (after_kept a [] x) ∙ none a f);
  void = λ x. refl;
  leads = λ own w made wants fits made_is.
      let m = subst (λ (z : Wanted). Made own (told.Hub a) z made) wants.1 made_is in
      subst (λ (z : Wanted). UndoFollows undoing.Freeing z (made ++ [])) (sym wants.1)
      (subst (λ (steps : List Step). FreesLast wants.0 (steps ++ [])) (sym m.1) (free_last wants.0 a m.0 f));
  waits = λ own w made wants fits made_is. tt;
  stays = λ x. refl;
  less = λ before after h. omega arith;
})
  where
    none : (x : HubAnswer) → FitsKind x Kind.freed → tokens_after x [] ≡ []
    none answers.Freed y = refl
    none (answers.Spent s) y = refl
    none answers.NoRoom y = absurd y
    none (answers.Register x) y = absurd (cc)
    none (answers.Beat x) y = absurd (cc)
    none (answers.Drain x) y = absurd (cc)
    none (answers.Remove x) y = absurd (cc)
    none (answers.Enqueue x) y = absurd (cc)
    none (answers.Poll x) y = absurd (cc)
    none (answers.Bind x) y = absurd (cc)
    none (answers.Fail x) y = absurd (cc)
    none (answers.Lookup x) y = absurd (cc)
    none (answers.Touch x) y = absurd (cc)
    none (answers.End x) y = absurd (cc)
    none (answers.Clear x) y = absurd (cc)
    none (answers.View x) y = absurd (cc)
    none (answers.Withdraw x) y = absurd (cc)

pub quit_undoes : (c : Closing) (path : SessionPath) (came : Came) → UndoMoves (undoing.Quit c path) (told.Node came) (undoing.Free c)
quit_undoes c path came = record {
  fresh = inr refl;
  keeps = λ x. refl;
  void = λ x. absurd (no x);
  leads = λ own w made wants fits made_is.
      let m : made ≡ Exchanged c.address (with_path (path_text path)) came ∷ [] = subst (λ (z : Wanted). Made own (told.Node came) z made) wants made_is in
      (to_call (Call.freed c), refl, (λ more y. subst (λ (steps : List Step). EndsAtNode (path_text path) c (steps ++ more)) (sym m) (rules.quits came y)));
  waits = λ own w made wants fits made_is. tt;
  stays = λ x. refl;
  less = λ before after h. omega arith;
}
  where
    no : false ≡ true → ⊥
    no z = cc
