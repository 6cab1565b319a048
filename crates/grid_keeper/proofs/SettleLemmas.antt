-- What spending one open token after the other leaves.
use Rattle.std.proofs.Common.{◌≡◌, ◌⊎◌, ℕ, ◌<◌, Bool, true, false, not, ◌&&◌, refl, sym, subst, inl, inr, List}
use Rattle.std.specs.Prelude.{Option, None, Some, IsSome, nat_eq, Result, Ok, Err, OnOk}
use Rattle.std.specs.Ordering.{nat_cmp}
use Rattle.std.specs.BTreeMap.{get}
use Rattle.grid_types.specs.declared.entry.Entry.{Entry}
use Rattle.grid_types.specs.declared.entry.FailWhy.{FailWhy}
use Rattle.grid_types.specs.declared.config.HubConfig.{HubConfig}
use Rattle.grid_types.specs.declared.names.SlotId.{SlotId}
use Rattle.grid_types.specs.HistoryLaws.{Known}
use Rattle.grid_types.specs.Legal.{legal}
use Rattle.grid_types.specs.Slots.{slot_eq}
use Rattle.grid_types.specs.Tokens.{Reservation, Closing, Ticket, is_good_ticket, is_good_reservation, is_good_closing}
use Rattle.grid_types.specs.Calls.{Call, Reply}
use Rattle.grid_types.specs.HandedIn.{hands_ticket, hands_reservation, hands_closing}
use Rattle.grid_types.specs.HubAnswers.{hub}
use Rattle.token_laws.specs.Gives.{TokensComeFromReplies, gives_ticket, gives_reservation, gives_closing}
use Rattle.hub_core.specs.Answers.{Answers}
use Rattle.hub_core.specs.Serves.{Serves}
use Rattle.hub_core.specs.HubView.{past}
use Rattle.hub_core.specs.Replies.{failing_reply, ending_reply, polled_reply}
use Rattle.hub_core.specs.declared.answers.Polled.{Polled}
use Rattle.hub_core.specs.declared.answers.Polled.TheVariants as polled
use Rattle.grid_types.specs.declared.entry.Outcome.{Outcome}
use Rattle.hub_core.specs.declared.answers.Ending.{Ending}
use Rattle.hub_core.specs.declared.answers.Ending.TheVariants as ending
use Rattle.hub_core.specs.declared.answers.Failing.{Failing}
use Rattle.hub_core.specs.declared.answers.Failing.TheVariants as failing
use Rattle.row_keeper.specs.Disks.{Disk}
use Rattle.grid_keeper.specs.Keeping.{IsOpen, KeptServes}
use Rattle.grid_keeper.specs.declared.kept_hub.KeptHub.{KeptHub}
use Rattle.grid_keeper.specs.declared.kept_hub.KeptFault.{KeptFault}
use Rattle.grid_keeper.specs.declared.left.Left.{Left}
use Rattle.grid_keeper.specs.Holds.{place_of, Holds, HoldsAll, open_after, LostTicket, LostReservation, LostClosing, LostNothing, Spares, Wanted, HasAll}
use Rattle.grid_keeper.specs.Settling.{NoneHeld, OnlyClosing, LacksReservations, LacksClosings, Failed, Freed, IsReady, IsIdle, IsBare, AllStay, OthersStay, NoTicket, TicketsFrom, TicketsBut, Took}
use Rattle.grid_keeper.proofs.HoldsLemmas.{served}
use Rattle.grid_keeper.proofs.AgainLemmas.{failing-some}
use Rattle.grid_keeper.proofs.ThereLemmas.{all_there, failing-given, freed-given, fail_spared, freed_spared}

not_so : (b : Bool) → (b ≡ true → ⊥) → b ≡ false
not_so true absent = absurd (absent refl)
not_so false absent = refl

differ : (b : Bool) → b ≡ true → b ≡ false → ⊥
differ b x y = absurd (cc)

nothing_there : {T : Type 0} (found : Option T) → IsSome found → found ≡ None → ⊥
nothing_there (Some t) some none = absurd (cc none)
nothing_there None some none = absurd (cc some)

-- where no token is there, none is open
pub none_held : (H : List Entry) (left : Left) → HoldsAll H left → LacksReservations left → LacksClosings left → NoneHeld H
none_held H left all reservations closings = record {
  reservations = λ r s. not_so (is_good_reservation H 0 r s) (λ good. nothing_there (get nat_cmp left.reservations r) (all.complete.reservations r s good) (reservations r));
  closings = λ s few. not_so (is_good_closing H 0 s) (λ good. nothing_there (get nat_cmp left.closings (place_of s)) (all.complete.closings s few good) (closings (place_of s)));
}

-- what holds no reservation and no closing still holds none
pub bare_still : (left left_too : Left) → left_too.reservations ≡ left.reservations → left_too.closings ≡ left.closings → IsBare left → IsBare left_too
bare_still left left_too reservations closings bare = record {
  reservations = λ r. subst (λ m. get nat_cmp m r ≡ None) (sym reservations) (bare.reservations r);
  closings = λ p. subst (λ m. get nat_cmp m p ≡ None) (sym closings) (bare.closings p);
}

-- ---- one token of several

pub fail_left : TokensComeFromReplies → Known → (c : HubConfig) (H later : List Entry) (old new : Left) (t : Reservation) (w : FailWhy) (at : ℕ) (answer : Failing) → legal c H ≡ true → HoldsAll H old
    → LostReservation H old new t → Serves c H 0 (Call.fail t w) at (failing_reply answer) later → HoldsAll later new
fail_left proved known c H later old new t w at answer is_legal all lost serves = record {
  holds = served c H later (Call.fail t w) at (failing_reply answer) new serves lost.gone lost.holds;
  complete = all_there proved c H later (Call.fail t w) at (failing_reply answer) new is_legal serves.answers (failing-some answer)
      (fail_spared known c H new t w t.request is_legal lost.good.1 refl (lost.others (open_after H) all.complete)) (failing-given answer new);
}

pub freed_left : TokensComeFromReplies → (c : HubConfig) (H later : List Entry) (old new : Left) (t : Closing) (at : ℕ) → legal c H ≡ true → HoldsAll H old → LostClosing H old new t
    → Serves c H 0 (Call.freed t) at (Some Reply.is_freed) later → HoldsAll later new
freed_left proved c H later old new t at is_legal all lost serves = record {
  holds = served c H later (Call.freed t) at (Some Reply.is_freed) new serves lost.gone lost.holds;
  complete = all_there proved c H later (Call.freed t) at (Some Reply.is_freed) new is_legal serves.answers refl
      (freed_spared H new t t.slot refl (lost.others (open_after H) all.complete)) (freed-given new);
}

-- ---- a token that is the only one

one_value : {X : Type 0} (a b : X) → Some a ≡ Some b → a ≡ b
one_value a b e = cc

-- what is open after a call
reservation_from : TokensComeFromReplies → (c : HubConfig) (H later : List Entry) (call : Call) (at : ℕ) (reply : Reply) (r : ℕ) (s : SlotId) → Answers c H 0 call at (Some reply) later → is_good_reservation later 0 r s ≡ true
    → ((is_good_reservation H 0 r s ≡ true) × (hands_reservation call r s ≡ false)) ⊎ (gives_reservation reply r s ≡ true)
reservation_from proved c H later call at reply r s (inl exact) good =
    subst (λ (a : Reply). ((is_good_reservation H 0 r s ≡ true) × (hands_reservation call r s ≡ false)) ⊎ (gives_reservation a r s ≡ true)) (sym (one_value reply (hub c H 0 call at).reply exact.replies))
    (proved.reservations c H 0 call at r s (subst (λ (L : List Entry). is_good_reservation L 0 r s ≡ true) exact.goes_on good))
reservation_from proved c H later call at reply r s (inr lack) good = absurd (cc lack.silent)

closing_from : TokensComeFromReplies → (c : HubConfig) (H later : List Entry) (call : Call) (at : ℕ) (reply : Reply) (s : SlotId) → legal c H ≡ true → Answers c H 0 call at (Some reply) later → is_good_closing later 0 s ≡ true
    → ((is_good_closing H 0 s ≡ true) × (hands_closing call s ≡ false)) ⊎ (gives_closing reply s ≡ true)
closing_from proved c H later call at reply s is_legal (inl exact) good =
    subst (λ (a : Reply). ((is_good_closing H 0 s ≡ true) × (hands_closing call s ≡ false)) ⊎ (gives_closing a s ≡ true)) (sym (one_value reply (hub c H 0 call at).reply exact.replies))
    (proved.closings c H 0 call at s is_legal (subst (λ (L : List Entry). is_good_closing L 0 s ≡ true) exact.goes_on good))
closing_from proved c H later call at reply s is_legal (inr lack) good = absurd (cc lack.silent)

-- nothing was open, and the reply gives neither
pub none_stays : TokensComeFromReplies → (c : HubConfig) (H later : List Entry) (call : Call) (at : ℕ) (reply : Reply) → legal c H ≡ true → Answers c H 0 call at (Some reply) later → NoneHeld H
    → ((r : ℕ) (s : SlotId) → gives_reservation reply r s ≡ false) → ((s : SlotId) → gives_closing reply s ≡ false) → NoneHeld later
none_stays proved c H later call at reply is_legal answers none reservations closings = record {
  reservations = λ r s. not_so (is_good_reservation later 0 r s) (λ good. no_reservation r s (reservation_from proved c H later call at reply r s answers good));
  closings = λ s few. not_so (is_good_closing later 0 s) (λ good. no_closing s few (closing_from proved c H later call at reply s is_legal answers good));
}
  where
    no_reservation : (r : ℕ) (s : SlotId) → ((is_good_reservation H 0 r s ≡ true) × (hands_reservation call r s ≡ false)) ⊎ (gives_reservation reply r s ≡ true) → ⊥
    no_reservation r s (inl was) = differ (is_good_reservation H 0 r s) was.0 (none.reservations r s)
    no_reservation r s (inr given) = differ (gives_reservation reply r s) given (reservations r s)

    no_closing : (s : SlotId) → s.index < 65_536 → ((is_good_closing H 0 s ≡ true) × (hands_closing call s ≡ false)) ⊎ (gives_closing reply s ≡ true) → ⊥
    no_closing s few (inl was) = differ (is_good_closing H 0 s) was.0 (none.closings s few)
    no_closing s few (inr given) = differ (gives_closing reply s) given (closings s)

-- tickets come from replies alone
tickets_from : TokensComeFromReplies → (c : HubConfig) (H later : List Entry) (call : Call) (at : ℕ) (reply : Reply) (r : ℕ) → Answers c H 0 call at (Some reply) later → is_good_ticket later 0 r ≡ true
    → ((is_good_ticket H 0 r ≡ true) × (hands_ticket call r ≡ false)) ⊎ (gives_ticket reply r ≡ true)
tickets_from proved c H later call at reply r (inl exact) good =
    subst (λ (a : Reply). ((is_good_ticket H 0 r ≡ true) × (hands_ticket call r ≡ false)) ⊎ (gives_ticket a r ≡ true)) (sym (one_value reply (hub c H 0 call at).reply exact.replies))
    (proved.tickets c H 0 call at r (subst (λ (L : List Entry). is_good_ticket L 0 r ≡ true) exact.goes_on good))
tickets_from proved c H later call at reply r (inr lack) good = absurd (cc lack.silent)

pub none_new : TokensComeFromReplies → (c : HubConfig) (H later : List Entry) (call : Call) (at : ℕ) (reply : Reply) → Answers c H 0 call at (Some reply) later → ((r : ℕ) → gives_ticket reply r ≡ false)
    → (r : ℕ) → is_good_ticket later 0 r ≡ true → (is_good_ticket H 0 r ≡ true) × (hands_ticket call r ≡ false)
none_new proved c H later call at reply answers gives r good = from (tickets_from proved c H later call at reply r answers good)
  where
    from : ((is_good_ticket H 0 r ≡ true) × (hands_ticket call r ≡ false)) ⊎ (gives_ticket reply r ≡ true) → (is_good_ticket H 0 r ≡ true) × (hands_ticket call r ≡ false)
    from (inl was) = was
    from (inr given) = absurd (differ (gives_ticket reply r) given (gives r))

-- nothing was open, and a session was ended
pub only_ended : TokensComeFromReplies → (c : HubConfig) (H later : List Entry) (call : Call) (at : ℕ) (t : Closing) → legal c H ≡ true → Answers c H 0 call at (Some (Reply.ended t)) later → NoneHeld H → OnlyClosing later t
only_ended proved c H later call at t is_legal answers none = record {
  reservations = λ r s. not_so (is_good_reservation later 0 r s) (λ good. no_reservation r s (reservation_from proved c H later call at (Reply.ended t) r s answers good));
  closings = λ s few good. from s few (closing_from proved c H later call at (Reply.ended t) s is_legal answers good);
}
  where
    no_reservation : (r : ℕ) (s : SlotId) → ((is_good_reservation H 0 r s ≡ true) × (hands_reservation call r s ≡ false)) ⊎ (gives_reservation (Reply.ended t) r s ≡ true) → ⊥
    no_reservation r s (inl was) = differ (is_good_reservation H 0 r s) was.0 (none.reservations r s)
    no_reservation r s (inr given) = absurd (cc given)

    from : (s : SlotId) → s.index < 65_536 → ((is_good_closing H 0 s ≡ true) × (hands_closing call s ≡ false)) ⊎ (gives_closing (Reply.ended t) s ≡ true) → slot_eq t.slot s ≡ true
    from s few (inl was) = absurd (differ (is_good_closing H 0 s) was.0 (none.closings s few))
    from s few (inr given) = given

-- the only closing is spent
pub only_freed : TokensComeFromReplies → (c : HubConfig) (H later : List Entry) (t : Closing) (at : ℕ) → legal c H ≡ true → Answers c H 0 (Call.freed t) at (Some Reply.is_freed) later → OnlyClosing H t → NoneHeld later
only_freed proved c H later t at is_legal answers only = record {
  reservations = λ r s. not_so (is_good_reservation later 0 r s) (λ good. no_reservation r s (reservation_from proved c H later (Call.freed t) at Reply.is_freed r s answers good));
  closings = λ s few. not_so (is_good_closing later 0 s) (λ good. no_closing s few (closing_from proved c H later (Call.freed t) at Reply.is_freed s is_legal answers good));
}
  where
    no_reservation : (r : ℕ) (s : SlotId) → ((is_good_reservation H 0 r s ≡ true) × (false ≡ false)) ⊎ (gives_reservation Reply.is_freed r s ≡ true) → ⊥
    no_reservation r s (inl was) = differ (is_good_reservation H 0 r s) was.0 (only.reservations r s)
    no_reservation r s (inr given) = absurd (cc given)

    no_closing : (s : SlotId) → s.index < 65_536 → ((is_good_closing H 0 s ≡ true) × (slot_eq t.slot s ≡ false)) ⊎ (gives_closing Reply.is_freed s ≡ true) → ⊥
    no_closing s few (inl was) = differ (slot_eq t.slot s) (only.closings s few was.0) was.1
    no_closing s few (inr given) = absurd (cc given)

-- ---- the hub with its tokens

module _ {K : Type 0} (disk : K → Option Disk) where
  pub fail_step : TokensComeFromReplies → Known → (old new : KeptHub K) (left left_too : Left) (t : Reservation) (w : FailWhy) (at : ℕ) (answer : Failing) → IsReady disk old left → legal old.hub.config (past old.hub) ≡ true
      → LostReservation (past old.hub) left left_too t → KeptServes disk old (Call.fail t w) at (failing_reply answer) new → IsReady disk new left_too
  fail_step proved known old new left left_too t w at answer ready is_legal lost kept = record {
    open_now = kept.stays_open;
    all = fail_left proved known old.hub.config (past old.hub) (past new.hub) left left_too t w at answer is_legal ready.all lost kept.serves.serves;
  }

  pub freed_step : TokensComeFromReplies → (old new : KeptHub K) (left left_too : Left) (t : Closing) → IsReady disk old left → legal old.hub.config (past old.hub) ≡ true
      → LostClosing (past old.hub) left left_too t → KeptServes disk old (Call.freed t) 0 (Some Reply.is_freed) new → IsReady disk new left_too
  freed_step proved old new left left_too t ready is_legal lost kept = record {
    open_now = kept.stays_open;
    all = freed_left proved old.hub.config (past old.hub) (past new.hub) left left_too t 0 is_legal ready.all lost kept.serves.serves;
  }

  pub no_step : (old : KeptHub K) (left left_too : Left) → IsReady disk old left → LostNothing left left_too → IsReady disk old left_too
  no_step old left left_too ready nothing = record {
    open_now = ready.open_now;
    all = record { holds = nothing.stays (past old.hub) ready.all.holds; complete = nothing.more (open_after (past old.hub)) ready.all.complete };
  }

  -- tickets that are there stay good over a call that takes none of them
  pub stays_over : (old new : KeptHub K) (call : Call) (at : ℕ) (reply : Option Reply) (left : Left) → Spares call left → KeptServes disk old call at reply new → Holds (past old.hub) left → Holds (past new.hub) left
  stays_over old new call at reply left spares kept held = served old.hub.config (past old.hub) (past new.hub) call at reply left kept.serves.serves spares held

  pub stays_room : (old new : KeptHub K) (left : Left) → past new.hub ≡ past old.hub → Holds (past old.hub) left → Holds (past new.hub) left
  stays_room old new left same held = subst (λ (H : List Entry). Holds H left) (sym same) held

  room_none : (old mid : KeptHub K) → past mid.hub ≡ past old.hub → NoneHeld (past old.hub) → NoneHeld (past mid.hub)
  room_none old mid same none = subst (λ (H : List Entry). NoneHeld H) (sym same) none

  pub clear_none : TokensComeFromReplies → (old mid new : KeptHub K) (at count : ℕ) → past mid.hub ≡ past old.hub → legal mid.hub.config (past mid.hub) ≡ true → KeptServes disk mid Call.clear at (Some (Reply.cleared count)) new
      → NoneHeld (past old.hub) → NoneHeld (past new.hub)
  clear_none proved old mid new at count same is_legal kept none =
      none_stays proved mid.hub.config (past mid.hub) (past new.hub) Call.clear at (Reply.cleared count) is_legal kept.serves.serves.answers (room_none old mid same none) (λ r s. refl) (λ s. refl)

  served_as_is : (mid new : KeptHub K) (call : Call) (at : ℕ) (answer is : Ending) → answer ≡ is → KeptServes disk mid call at (ending_reply answer) new → KeptServes disk mid call at (ending_reply is) new
  served_as_is mid new call at answer is same kept = subst (λ (a : Ending). KeptServes disk mid call at (ending_reply a) new) same kept

  pub not_ended : TokensComeFromReplies → (old mid new : KeptHub K) (call : Call) (at : ℕ) (answer : Ending) → past mid.hub ≡ past old.hub → legal mid.hub.config (past mid.hub) ≡ true → answer ≡ ending.NoSession
      → KeptServes disk mid call at (ending_reply answer) new → NoneHeld (past old.hub) → NoneHeld (past new.hub)
  not_ended proved old mid new call at answer same is_legal is kept none =
      let told = served_as_is mid new call at answer ending.NoSession is kept in
      none_stays proved mid.hub.config (past mid.hub) (past new.hub) call at Reply.no_session is_legal told.serves.serves.answers (room_none old mid same none) (λ r s. refl) (λ s. refl)

  on_ok : {P Q : Type 0} (result : Result (Unit {0}) KeptFault) → (P → Q) → OnOk result P → OnOk result Q
  on_ok (Ok u) step holds = step holds
  on_ok (Err e) step holds = tt

  pub ended_freed : TokensComeFromReplies → (old mid end new : KeptHub K) (call : Call) (at : ℕ) (answer : Ending) (t : Closing) (result : Result (Unit {0}) KeptFault) → past mid.hub ≡ past old.hub → legal mid.hub.config (past mid.hub) ≡ true
      → answer ≡ ending.Ended t → KeptServes disk mid call at (ending_reply answer) end → OnOk result (KeptServes disk end (Call.freed t) 0 (Some Reply.is_freed) new) → NoneHeld (past old.hub) → OnOk result (NoneHeld (past new.hub))
  ended_freed proved old mid end new call at answer t result same is_legal is kept freed none =
      let told = served_as_is mid end call at answer (ending.Ended t) is kept in
      let only = only_ended proved mid.hub.config (past mid.hub) (past end.hub) call at t is_legal told.serves.serves.answers (room_none old mid same none) in
      let legal_then : legal end.hub.config (past end.hub) ≡ true = subst (λ (c : HubConfig). legal c (past end.hub) ≡ true) (sym told.serves.same_config) told.serves.serves.is_legal in
      on_ok result (λ (f : KeptServes disk end (Call.freed t) 0 (Some Reply.is_freed) new). only_freed proved end.hub.config (past end.hub) (past new.hub) t 0 legal_then f.serves.serves.answers only) freed

  pub ended_stay : (old mid end new : KeptHub K) (x : List ℕ) (b at : ℕ) (answer : Ending) (t : Closing) (result : Result (Unit {0}) KeptFault) → past mid.hub ≡ past old.hub
      → KeptServes disk mid (Call.end x b) at (ending_reply answer) end → OnOk result (KeptServes disk end (Call.freed t) 0 (Some Reply.is_freed) new) → OnOk result (AllStay (past old.hub) (past new.hub))
  ended_stay old mid end new x b at answer t result same kept freed =
      on_ok result (λ (f : KeptServes disk end (Call.freed t) 0 (Some Reply.is_freed) new). λ left bare held.
      stays_over end new (Call.freed t) 0 (Some Reply.is_freed) left (bare.closings (place_of t.slot)) f
      (stays_over mid end (Call.end x b) at (ending_reply answer) left tt kept (stays_room old mid left same held))) freed

  -- ---- tickets

  pub clear_fewer : TokensComeFromReplies → (old mid new : KeptHub K) (at count : ℕ) → past mid.hub ≡ past old.hub → KeptServes disk mid Call.clear at (Some (Reply.cleared count)) new → TicketsFrom (past old.hub) (past new.hub)
  clear_fewer proved old mid new at count same kept = λ r good.
      subst (λ (H : List Entry). is_good_ticket H 0 r ≡ true) same
      (none_new proved mid.hub.config (past mid.hub) (past new.hub) Call.clear at (Reply.cleared count) kept.serves.serves.answers (λ q. refl) r good).0

  pub not_ended_fewer : TokensComeFromReplies → (old mid new : KeptHub K) (call : Call) (at : ℕ) (answer : Ending) → past mid.hub ≡ past old.hub → answer ≡ ending.NoSession
      → KeptServes disk mid call at (ending_reply answer) new → TicketsFrom (past old.hub) (past new.hub)
  not_ended_fewer proved old mid new call at answer same is kept = λ r good.
      let told = served_as_is mid new call at answer ending.NoSession is kept in
      subst (λ (H : List Entry). is_good_ticket H 0 r ≡ true) same
      (none_new proved mid.hub.config (past mid.hub) (past new.hub) call at Reply.no_session told.serves.serves.answers (λ q. refl) r good).0

  pub ended_fewer : TokensComeFromReplies → (old mid end new : KeptHub K) (call : Call) (at : ℕ) (answer : Ending) (t : Closing) (result : Result (Unit {0}) KeptFault) → past mid.hub ≡ past old.hub
      → answer ≡ ending.Ended t → KeptServes disk mid call at (ending_reply answer) end → OnOk result (KeptServes disk end (Call.freed t) 0 (Some Reply.is_freed) new) → OnOk result (TicketsFrom (past old.hub) (past new.hub))
  ended_fewer proved old mid end new call at answer t result same is kept freed =
      let told = served_as_is mid end call at answer (ending.Ended t) is kept in
      on_ok result (λ (f : KeptServes disk end (Call.freed t) 0 (Some Reply.is_freed) new). λ r good.
      subst (λ (H : List Entry). is_good_ticket H 0 r ≡ true) same
      (none_new proved mid.hub.config (past mid.hub) (past end.hub) call at (Reply.ended t) told.serves.serves.answers (λ q. refl) r
      (none_new proved end.hub.config (past end.hub) (past new.hub) (Call.freed t) 0 Reply.is_freed f.serves.serves.answers (λ q. refl) r good).0).0) freed

  -- a poll that was answered by the outcome
  polled_as_is : (old mid : KeptHub K) (t : Ticket) (at : ℕ) (answer : Polled) (o : Outcome) → answer ≡ polled.Settled o → KeptServes disk old (Call.poll t) at (polled_reply answer) mid
      → KeptServes disk old (Call.poll t) at (Some (Reply.settled o)) mid
  polled_as_is old mid t at answer o is kept = subst (λ (a : Polled). KeptServes disk old (Call.poll t) at (polled_reply a) mid) is kept

  pub settled_none : TokensComeFromReplies → (old mid : KeptHub K) (t : Ticket) (at : ℕ) (answer : Polled) (o : Outcome) → legal old.hub.config (past old.hub) ≡ true → answer ≡ polled.Settled o
      → KeptServes disk old (Call.poll t) at (polled_reply answer) mid → NoneHeld (past old.hub) → NoneHeld (past mid.hub)
  settled_none proved old mid t at answer o is_legal is kept none =
      none_stays proved old.hub.config (past old.hub) (past mid.hub) (Call.poll t) at (Reply.settled o) is_legal (polled_as_is old mid t at answer o is kept).serves.serves.answers none (λ r s. refl) (λ s. refl)

  pub settled_stay : (old mid new : KeptHub K) (t : Ticket) (at : ℕ) (answer : Polled) (result : Result (Unit {0}) KeptFault) → KeptServes disk old (Call.poll t) at (polled_reply answer) mid
      → OnOk result (AllStay (past mid.hub) (past new.hub)) → OnOk result (OthersStay t.request (past old.hub) (past new.hub))
  settled_stay old mid new t at answer result kept stay =
      on_ok result (λ (s : AllStay (past mid.hub) (past new.hub)). λ left bare gone held. s left bare (stays_over old mid (Call.poll t) at (polled_reply answer) left gone kept held)) stay

  pub settled_fewer : TokensComeFromReplies → (old mid new : KeptHub K) (t : Ticket) (at : ℕ) (answer : Polled) (o : Outcome) (result : Result (Unit {0}) KeptFault) → answer ≡ polled.Settled o
      → KeptServes disk old (Call.poll t) at (polled_reply answer) mid → OnOk result (TicketsFrom (past mid.hub) (past new.hub)) → OnOk result (TicketsBut t.request (past old.hub) (past new.hub))
  settled_fewer proved old mid new t at answer o result is kept fewer =
      let told = polled_as_is old mid t at answer o is kept in
      on_ok result (λ (f : TicketsFrom (past mid.hub) (past new.hub)). λ r good.
      none_new proved old.hub.config (past old.hub) (past mid.hub) (Call.poll t) at (Reply.settled o) told.serves.serves.answers (λ q. refl) r (f r good)) fewer

  -- ---- idle hubs

  pub idle_first : (hub : KeptHub K) (left : Left) → IsReady disk hub left → LacksReservations left → LacksClosings left → IsIdle disk hub left
  idle_first hub left ready reservations closings = record {
    open_now = ready.open_now;
    none = none_held (past hub.hub) left ready.all reservations closings;
    holds = ready.all.holds;
    bare = record { reservations = reservations; closings = closings };
    tickets = ready.all.complete.tickets;
  }

  pub idle_on : (old new : KeptHub K) (left : Left) → IsIdle disk old left → IsOpen disk new → NoneHeld (past new.hub) → AllStay (past old.hub) (past new.hub) → TicketsFrom (past old.hub) (past new.hub) → IsIdle disk new left
  idle_on old new left idle open_now none stay fewer = record {
    open_now = open_now;
    none = none;
    holds = stay left idle.bare idle.holds;
    bare = idle.bare;
    tickets = λ r good. idle.tickets r (fewer r good);
  }

  pub idle_over : (old : KeptHub K) (left left_too : Left) → IsIdle disk old left → LostNothing left left_too → ((r : ℕ) → get nat_cmp left_too.tickets r ≡ None) → NoTicket (past old.hub)
  idle_over old left left_too idle lost none = λ r. not_so (is_good_ticket (past old.hub) 0 r) (λ good. nothing_there (get nat_cmp left_too.tickets r) (there r good) (none r))
    where
      open_tickets : Wanted
      open_tickets = record { tickets = is_good_ticket (past old.hub) 0; reservations = λ r s. false; closings = λ s. false }

      has : HasAll open_tickets left
      has = record { tickets = idle.tickets; reservations = λ r s e. absurd (cc e); closings = λ s few e. absurd (cc e) }

      there : (r : ℕ) → is_good_ticket (past old.hub) 0 r ≡ true → IsSome (get nat_cmp left_too.tickets r)
      there = (lost.more open_tickets has).tickets

  pub idle_less : (old new : KeptHub K) (left left_too : Left) (t : Ticket) → IsIdle disk old left → LostTicket (past old.hub) left left_too t → IsBare left_too → IsOpen disk new → NoneHeld (past new.hub)
      → OthersStay t.request (past old.hub) (past new.hub) → TicketsBut t.request (past old.hub) (past new.hub) → IsIdle disk new left_too
  idle_less old new left left_too t idle lost bare open_now none stay fewer = record {
    open_now = open_now;
    none = none;
    holds = stay left_too bare lost.gone lost.holds;
    bare = bare;
    tickets = λ r good. let was = fewer r good in (lost.others open_tickets has).tickets r (both (nat_eq t.request r) (is_good_ticket (past old.hub) 0 r) was.1 was.0);
  }
    where
      open_tickets : Wanted
      open_tickets = record { tickets = is_good_ticket (past old.hub) 0; reservations = λ r s. false; closings = λ s. false }

      has : HasAll open_tickets left
      has = record { tickets = idle.tickets; reservations = λ r s e. absurd (cc e); closings = λ s few e. absurd (cc e) }

      both : (a b : Bool) → a ≡ false → b ≡ true → (not a && b) ≡ true
      both false true x y = refl
      both true b x y = absurd (cc x)
      both false false x y = absurd (cc y)

  -- ---- whether there was one

  pub failed_one : (hub : KeptHub K) (left : Left) (found : Bool) → found ≡ true → Failed disk hub left (Ok found) → IsReady disk hub left
  failed_one hub left found is step = subst (λ (b : Bool). Failed disk hub left (Ok b)) is step

  pub failed_none : (hub : KeptHub K) (left : Left) (found : Bool) → found ≡ false → Failed disk hub left (Ok found) → IsReady disk hub left × LacksReservations left
  failed_none hub left found is step = subst (λ (b : Bool). Failed disk hub left (Ok b)) is step

  pub freed_one : (hub : KeptHub K) (left : Left) (found : Bool) → found ≡ true → Freed disk hub left (Ok found) → IsReady disk hub left × LacksReservations left
  freed_one hub left found is step = subst (λ (b : Bool). Freed disk hub left (Ok b)) is step

  pub freed_none : (hub : KeptHub K) (left : Left) (found : Bool) → found ≡ false → Freed disk hub left (Ok found) → IsReady disk hub left × LacksReservations left × LacksClosings left
  freed_none hub left found is step = subst (λ (b : Bool). Freed disk hub left (Ok b)) is step

  pub took_one : (hub : KeptHub K) (left : Left) (found : Bool) → found ≡ true → Took disk hub left (Ok found) → IsIdle disk hub left
  took_one hub left found is step = subst (λ (b : Bool). Took disk hub left (Ok b)) is step

  pub took_none : (hub : KeptHub K) (left : Left) (found : Bool) → found ≡ false → Took disk hub left (Ok found) → IsOpen disk hub × NoneHeld (past hub.hub) × NoTicket (past hub.hub)
  took_none hub left found is step = subst (λ (b : Bool). Took disk hub left (Ok b)) is step
