-- What a value stands for, by its state.
use Rattle.std.proofs.Common.{◌≡◌, ℕ, true, false, List, [], refl, sym, ap, ◌∙◌, subst, arith}
use Rattle.std.specs.Prelude.{Option, Result, Err}
use Rattle.node_client.specs.Held.{Token}
use Rattle.node_client.specs.Steps.{Step}
use Rattle.conn_script.specs.declared.wants.ConnFault.{ConnFault}
use Rattle.conn_script.specs.declared.wants.Served.{Served}
use Rattle.conn_script.specs.Wanted.{Wanted, over}
use Rattle.conn_script.specs.declared.undoing.Undoing.{Undoing}
use Rattle.conn_script.specs.declared.undoing.Undoing.TheVariants as undo
use Rattle.conn_script.specs.Undo.{undo_goes_on, undo_leaves, undo_tokens}
use Rattle.hub_conn.specs.declared.talk.Talk.{Talk}
use Rattle.hub_conn.specs.declared.talk.State.{State}
use Rattle.hub_conn.specs.declared.talk.State.TheVariants as states
use Rattle.hub_conn.specs.Conversation.{Finished}
use Rattle.hub_conn.specs.Talk.{SameBut, Counts, Stands, StandsIn, StandsNow, Settles, SettlesUndoing, leaves, state_leaves, Cause, is_fresh, is_fresh_in, blamed, state_cause, result_cause, tokens, state_tokens}

pub stands_in : (talk : Talk) (s : State) (own : Option (List ℕ)) (w : Wanted) (bytes : List ℕ) (steps : List Step) (written : List ℕ) → talk.state ≡ s →
    StandsIn s talk own w bytes steps written → Stands talk own w bytes steps written
unfolding Stands
stands_in talk s own w bytes steps written e x = subst (λ (z : State). StandsIn z talk own w bytes steps written) (sym e) x

pub in_state_of : (talk : Talk) (s : State) (own : Option (List ℕ)) (w : Wanted) (bytes : List ℕ) (steps : List Step) (written : List ℕ) → talk.state ≡ s →
    Stands talk own w bytes steps written → StandsIn s talk own w bytes steps written
unfolding Stands
in_state_of talk s own w bytes steps written e x = subst (λ (z : State). StandsIn z talk own w bytes steps written) e x

pub settles_in : (talk : Talk) (s : State) (cause : Cause) (held : List Token) → talk.state ≡ s → is_fresh_in s ≡ true → state_cause s ≡ cause →
    state_tokens s ≡ held → state_leaves s ≡ false → Settles talk cause held
unfolding is_fresh blamed tokens leaves
settles_in talk s cause held e fresh blames holds stays = record {
  fresh = ap is_fresh_in e ∙ fresh;
  blames = ap state_cause e ∙ blames;
  holds = ap state_tokens e ∙ holds;
  stays = ap state_leaves e ∙ stays;
}

pub leaves_in : (talk : Talk) (s : State) → talk.state ≡ s → leaves talk ≡ state_leaves s
unfolding leaves
leaves_in talk s e = ap state_leaves e

pub done_stands : (talk : Talk) (result : Result Served ConnFault) (own : Option (List ℕ)) (bytes : List ℕ) (steps : List Step) (written : List ℕ) →
    talk.state ≡ states.Done result → Finished own result bytes steps written → StandsNow talk own bytes steps written
done_stands talk result own bytes steps written e x =
    (over result, stands_in talk (states.Done result) own (over result) bytes steps written e (refl, x))

pub done_settles : (talk : Talk) (result : Result Served ConnFault) → talk.state ≡ states.Done result → Settles talk (result_cause result) []
done_settles talk result e = settles_in talk (states.Done result) (result_cause result) [] e refl refl refl refl

-- something is left to do after a fault
pub undoing_settles : (talk : Talk) (fault : ConnFault) (u : Undoing) → talk.state ≡ states.Undoing fault u → undo_goes_on u ≡ true → SettlesUndoing talk fault u
unfolding is_fresh blamed tokens leaves
undoing_settles talk fault u e fresh = record {
  fresh = ap is_fresh_in e ∙ fresh;
  blames = ap state_cause e;
  holds = ap state_tokens e;
  leaves_so = ap state_leaves e;
}

-- or nothing is
pub undone_settles : (talk : Talk) (fault : ConnFault) (u : Undoing) → u ≡ undo.Over → talk.state ≡ states.Done (Err fault) → SettlesUndoing talk fault u
undone_settles talk fault u is e =
    let x = done_settles talk (Err fault) e in record {
      fresh = x.fresh;
      blames = x.blames;
      holds = x.holds ∙ sym (ap undo_tokens is);
      leaves_so = x.stays ∙ sym (ap undo_leaves is);
    }

-- ---- what stays while a state is changed

pub counts_kept : (old new : Talk) (bytes rest : List ℕ) → SameBut old new → Counts old bytes rest → Counts new bytes rest
counts_kept old new bytes rest same x = record {
  read = same.read ∙ x.read;
  within = omega (arith, same.read, x.within);
  begins = omega (arith, same.read, same.begins, x.begins);
  few = omega (arith, same.frames, same.begins, x.few);
}
