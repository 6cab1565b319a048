-- How a call leaves the hub.
use Rattle.std.proofs.Common.{◌≡◌, ℕ, Bool, true, false, ◌&&◌, List, refl, sym, ap, subst, inl, inr}
use Rattle.std.specs.Prelude.{Option, None, Some, Result, Ok, Err, nat_eq}
use Rattle.grid_types.specs.declared.config.HubConfig.{HubConfig}
use Rattle.grid_types.specs.declared.entry.Entry.{Entry}
use Rattle.grid_types.specs.Calls.{Call, Reply}
use Rattle.grid_types.specs.HubAnswers.{hub}
use Rattle.hub_core.specs.Answers.{Answers, may_lack}
use Rattle.hub_core.specs.HubView.{HubView, past, ServesLocally}
use Rattle.hub_core.specs.Serves.{MayCall}
use Rattle.conn_script.specs.declared.wants.HubAnswer.{HubAnswer}
use Rattle.conn_script.specs.Wanted.{FitsKind, Keeps, kind_of, reply_of, is_spent}
use Rattle.local_driver.specs.World.{AnswersAt}
use Rattle.own_hub.specs.Own.{Own, Goes, GoesOrStops, HasAnswered, HasRoom, Roomed}
use Rattle.local_driver.specs.Calls.{ServesOn, Made, MadeOn}

answered_as : (c : HubConfig) (H : List Entry) (call : Call) (at : ℕ) (reply : Option Reply) (later : List Entry) → Answers c H 0 call at reply later →
    AnswersAt c H call at reply later
answered_as c H call at None later x = inl x
answered_as c H call at (Some r) later x = x

not_handed : (b : Bool) → b ≡ false → (nat_eq 0 0 && b) ≡ false
not_handed b e = e

pub serves_on : (old : HubView) (call : Call) (at : ℕ) (reply : Option Reply) (new : HubView) → ServesLocally old call at reply new → ServesOn old call at reply new
serves_on old call at reply new x = record {
  config = x.same_config;
  answers = answered_as old.config (past old) call at reply (past new) x.serves.answers;
  gives = x.serves.gives;
  keeps_tickets = λ r good other. x.serves.keeps_tickets 0 r good (not_handed _ other);
  keeps_reservations = λ r s good other. x.serves.keeps_reservations 0 r s good (not_handed _ other);
  keeps_closings = λ s good other. x.serves.keeps_closings 0 s good (not_handed _ other);
}

-- after room was made
roomed_on : (old : HubView) (call : Call) (at : ℕ) (reply : Option Reply) (new : HubView) → ServesLocally (record old { room = true }) call at reply new → ServesOn old call at reply new
roomed_on old call at reply new x =
    let y = serves_on (record old { room = true }) call at reply new x in record {
      config = y.config;
      answers = y.answers;
      gives = y.gives;
      keeps_tickets = y.keeps_tickets;
      keeps_reservations = y.keeps_reservations;
      keeps_closings = y.keeps_closings;
    }

unchanged : (hub : HubView) (call : Call) (at : ℕ) → AnswersAt hub.config (past hub) call at None (past hub) → ServesOn hub call at None hub
unchanged hub call at x = record {
  config = refl;
  answers = x;
  gives = tt;
  keeps_tickets = λ r good other. (good, refl);
  keeps_reservations = λ r s good other. (good, refl);
  keeps_closings = λ s good other. good;
}

-- ---- what was made

pub made : (old : HubView) (call : Call) (at : ℕ) (answer : HubAnswer) (new : HubView) → FitsKind answer (kind_of call) → Keeps answer call → is_spent answer ≡ false →
    ServesLocally old call at (reply_of answer) new → Made old call at answer new
made old call at answer new fits keeps unspent x = record { fits = fits; keeps = keeps; unspent = unspent; serves = serves_on old call at (reply_of answer) new x }

pub made_roomed : (old roomed : HubView) (call : Call) (at : ℕ) (answer : HubAnswer) (new : HubView) (room : Bool) → room ≡ true → HasRoom room old roomed →
    FitsKind answer (kind_of call) → Keeps answer call → is_spent answer ≡ false → ServesLocally roomed call at (reply_of answer) new → Made old call at answer new
made_roomed old roomed call at answer new room is has fits keeps unspent x =
    let same : roomed ≡ record old { room = true } = subst (λ (b : Bool). HasRoom b old roomed) is has in
    record {
      fits = fits;
      keeps = keeps;
      unspent = unspent;
      serves = roomed_on old call at (reply_of answer) new (subst (λ (h : HubView). ServesLocally h call at (reply_of answer) new) same x);
    }

-- there was no room, and it was not made
pub made_not : (old new : HubView) (call : Call) (at : ℕ) (answer : HubAnswer) (room : Bool) → room ≡ false → HasRoom room old new →
    FitsKind answer (kind_of call) → Keeps answer call → is_spent answer ≡ false → reply_of answer ≡ None →
    AnswersAt old.config (past old) call at None (past old) → Made old call at answer new
made_not old new call at answer room is has fits keeps unspent none x =
    let same : new ≡ old = subst (λ (b : Bool). HasRoom b old new) is has in
    record {
      fits = fits;
      keeps = keeps;
      unspent = unspent;
      serves = subst (λ (h : HubView). ServesOn old call at (reply_of answer) h) (sym same)
          (subst (λ (o : Option Reply). ServesOn old call at o old) (sym none) (unchanged old call at x));
    }

-- a call with an answer of its own for want of memory
pub lacks : (c : HubConfig) (H : List Entry) (call : Call) (at : ℕ) → ((reply : Reply) → may_lack call reply ≡ true) → AnswersAt c H call at None H
lacks c H call at may = inl (inr (record { silent = refl; stays = refl; may = may (hub c H 0 call at).reply }))

pub may_roomed : (old roomed : HubView) (call : Call) (room : Bool) → room ≡ true → HasRoom room old roomed → MayCall (past old) 0 call → MayCall (past roomed) 0 call
may_roomed old roomed call room is has may =
    subst (λ (H : List Entry). MayCall H 0 call) (sym (ap past (subst (λ (b : Bool). HasRoom b old roomed) is has))) may

-- ---- the same on a driver's hub

module _ {S F : Type 0} (own : Own S F) where
  pub goes_same : (old : S) → own.IsOpen old → Goes own old old
  goes_same old is_open = record { is_open = is_open; along = λ first told. told }

  pub goes_then : (old mid new : S) → Goes own old mid → Goes own mid new → Goes own old new
  goes_then old mid new one more = record { is_open = more.is_open; along = λ first told. more.along first (one.along first told) }

  pub on_made : (old new : S) (call : Call) (at : ℕ) (answer : HubAnswer) → FitsKind answer (kind_of call) → Keeps answer call → is_spent answer ≡ false →
      HasAnswered own old call at (reply_of answer) new → MadeOn own old call at answer new
  on_made old new call at answer fits keeps unspent x = record { made = made (own.shown old) call at answer (own.shown new) fits keeps unspent x.serves; goes = x.goes }

  pub on_roomed : (old mid new : S) (call : Call) (at : ℕ) (answer : HubAnswer) (room : Bool) → room ≡ true → Roomed own room old mid →
      FitsKind answer (kind_of call) → Keeps answer call → is_spent answer ≡ false → HasAnswered own mid call at (reply_of answer) new → MadeOn own old call at answer new
  on_roomed old mid new call at answer room is roomed fits keeps unspent x = record {
    made = made_roomed (own.shown old) (own.shown mid) call at answer (own.shown new) room is roomed.room fits keeps unspent x.serves;
    goes = goes_then old mid new roomed.goes x.goes;
  }

  pub on_not_roomed : (old new : S) (call : Call) (at : ℕ) (answer : HubAnswer) (room : Bool) → room ≡ false → Roomed own room old new →
      FitsKind answer (kind_of call) → Keeps answer call → is_spent answer ≡ false → reply_of answer ≡ None →
      AnswersAt (own.shown old).config (past (own.shown old)) call at None (past (own.shown old)) → MadeOn own old call at answer new
  on_not_roomed old new call at answer room is roomed fits keeps unspent none x = record {
    made = made_not (own.shown old) (own.shown new) call at answer room is roomed.room fits keeps unspent none x;
    goes = roomed.goes;
  }

  -- calls behind others
  pub on_then : {A : Type 0} (old mid new : S) (result : Result A F) → Goes own old mid → GoesOrStops own mid result new → GoesOrStops own old result new
  on_then old mid new (Ok a) one more = goes_then old mid new one more
  on_then old mid new (Err fault) one stops = λ first told. stops first (one.along first told)
