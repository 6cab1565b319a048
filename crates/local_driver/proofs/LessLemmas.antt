-- Less is left to do after each turn.
use Rattle.std.proofs.Common.{◌≡◌, ◌⊎◌, inl, inr, ℕ, ◌+◌, ◌-◌, ◌<◌, ◌≤◌, ◌^◌, Bool, true, false, List, [], ◌∷◌, ◌++◌, refl, sym, subst, ◌∙◌, arith}
use Rattle.std.specs.Prelude.{Option, None, Some, nat_le}
use Rattle.grid_types.specs.declared.config.HubConfig.{HubConfig}
use Rattle.grid_types.specs.declared.entry.Entry.{Entry}
use Rattle.grid_types.specs.Legal.{legal}
use Rattle.grid_types.specs.Permitted.{last_moment}
use Rattle.grid_types.specs.Requests.{deadline_of}
use Rattle.grid_types.specs.Calls.{Call, Reply}
use Rattle.grid_types.specs.HubAnswers.{after_call, hub}
use Rattle.grid_types.specs.Tokens.{Ticket}
use Rattle.grid_outside.specs.Told.{later_by}
use Rattle.request_laws.specs.Laws.{CallsKeepNewest, DeadlinesAreMoments, IsEarly, PollsAreEarly, StartsRunOut, is_enqueue}
use Rattle.request_laws.specs.Starts.{newest_request, registered_count, starts_left}
use Rattle.hub_core.specs.Answers.{may_lack}
use Rattle.hub_core.specs.Replies.{binding_reply, failing_reply, polled_reply}
use Rattle.hub_core.specs.declared.answers.Enqueued.{Enqueued}
use Rattle.hub_core.specs.declared.answers.Enqueued.TheVariants as enqueued
use Rattle.hub_core.specs.declared.answers.Polled.{Polled}
use Rattle.hub_core.specs.declared.answers.Polled.TheVariants as polled
use Rattle.node_client.specs.Steps.{Step, Called}
use Rattle.conn_script.specs.declared.wants.Answer.{Answer}
use Rattle.conn_script.specs.declared.wants.Answer.TheVariants as told
use Rattle.conn_script.specs.declared.wants.HubAnswer.{HubAnswer}
use Rattle.conn_script.specs.declared.wants.HubAnswer.TheVariants as answers
use Rattle.conn_script.specs.NewSession.{poll_pause}
use Rattle.conn_script.specs.Pauses.{ends_early_behind, is_early_call}
use Rattle.conn_script.specs.Wanted.{FitsKind, IsAwaited, count, kind_of, piece, reply_of}
use Rattle.conn_script.specs.Work.{HubLowers, Lowers, NoMore, Outlook, PollLowers, QueueLowers}
use Rattle.hub_links.specs.Links.{MovesSome}
use Rattle.local_driver.specs.Calls.{MayMake}
use Rattle.local_driver.specs.World.{AnswersAt}
use Rattle.local_driver.proofs.TokenLemmas.{exact, lack_same, later_is, newest_kept}

-- the outlook at a history and a moment
abbrev pub outlook : List Entry → ℕ → Outlook
outlook H m = record { starts = starts_left H (newest_request H); pauses = last_moment - m }

never : false ≡ true → ⊥
never e = cc

-- ---- reads, writes and exchanges

pub read_lowers : (answer : Answer) (most : ℕ) (before later : Outlook) → IsAwaited answer (piece most) → MovesSome answer → Lowers answer before later
read_lowers (told.Bytes bytes) most before later h some = some
read_lowers told.EndOfInput most before later h some = tt
read_lowers told.ReadFailed most before later h some = tt
read_lowers (told.Wrote n) most before later h some = absurd h
read_lowers told.WriteFailed most before later h some = absurd h
read_lowers told.Begun most before later h some = absurd h
read_lowers (told.Hub answer) most before later h some = absurd h
read_lowers (told.Node came) most before later h some = absurd h
read_lowers told.Paused most before later h some = absurd h
read_lowers told.Gone most before later h some = absurd (never h)

pub write_lowers : (answer : Answer) (most : ℕ) (before later : Outlook) → IsAwaited answer (count most) → MovesSome answer → Lowers answer before later
write_lowers (told.Wrote n) most before later h some = some
write_lowers told.WriteFailed most before later h some = tt
write_lowers (told.Bytes bytes) most before later h some = absurd h
write_lowers told.EndOfInput most before later h some = absurd h
write_lowers told.ReadFailed most before later h some = absurd h
write_lowers told.Begun most before later h some = absurd h
write_lowers (told.Hub answer) most before later h some = absurd h
write_lowers (told.Node came) most before later h some = absurd h
write_lowers told.Paused most before later h some = absurd h
write_lowers told.Gone most before later h some = absurd (never h)

pub no_more_same : (o : Outlook) → NoMore o o
no_more_same o = (omega arith, omega arith)

-- a pause before the last moment
pub pause_lowers : (H : List Entry) (ms m m' : ℕ) → ms ≡ poll_pause → m < last_moment → later_by m ms ≤ m' → Lowers told.Paused (outlook H m) (outlook H m')
pause_lowers H ms m m' is ahead later = (omega arith, fewer (nat_le (m + 15) last_moment) refl (subst (λ (k : ℕ). later_by m k ≤ m') is later))
  where
    fewer : (b : Bool) → nat_le (m + 15) last_moment ≡ b → later_by m 15 ≤ m' → last_moment - m' < last_moment - m
    fewer true e on = let far : m + 15 ≤ m' = grind arith in omega (arith, far, ahead)
    fewer false e on = let far : last_moment ≤ m' = grind arith in omega (arith, far, ahead)

-- ---- calls

-- a poll asks for the request that was queued last
abbrev pub PollsNewest : List Entry → Call → Type 0
PollsNewest H (Call.poll t) = t.request ≡ newest_request H
PollsNewest H call = Unit {0}

module _ (newest : CallsKeepNewest) (starts : StartsRunOut) (early : PollsAreEarly) (moments : DeadlinesAreMoments) (c : HubConfig) (H : List Entry) (at m m' : ℕ) (forward : m ≤ m') where
  same_no_more : (later : List Entry) → later ≡ H → NoMore (outlook H m) (outlook later m')
  same_no_more later e = subst (λ (G : List Entry). NoMore (outlook H m) (outlook G m')) (sym e) (omega arith, omega (arith, forward))

  -- a call that opens no node for any request
  opens_none : (call : Call) (reply : Option Reply) (later : List Entry) → is_enqueue call ≡ false → ((q : ℕ) → starts_left (after_call c H 0 call at) q ≤ starts_left H q) →
      AnswersAt c H call at reply later → NoMore (outlook H m) (outlook later m')
  opens_none call reply later other less x = by_later (later_is c H call at reply later x)
    where
      by_later : (later ≡ after_call c H 0 call at) ⊎ (later ≡ H) → NoMore (outlook H m) (outlook later m')
      by_later (inl e) =
          let kept : newest_request later ≡ newest_request H = newest_kept newest c H call at reply later other x in
          let fewer : starts_left later (newest_request H) ≤ starts_left H (newest_request H) =
          subst (λ (G : List Entry). starts_left G (newest_request H) ≤ starts_left H (newest_request H)) (sym e) (less (newest_request H)) in
          (subst (λ (q : ℕ). starts_left later q ≤ starts_left H (newest_request H)) (sym kept) fewer, omega (arith, forward))
      by_later (inr e) = same_no_more later e

  poll_lowers : legal c H ≡ true → (t : Ticket) (a : Polled) (later : List Entry) → t.request ≡ newest_request H → AnswersAt c H (Call.poll t) at (polled_reply a) later →
      PollLowers a (outlook H m) (outlook later m')
  poll_lowers l t (polled.NotYet u) later is x =
      let e = exact c H (Call.poll t) at (Reply.not_yet u) later x in
      same_no_more later (e.1 ∙ (early.not_yet c H 0 t u at e.0).2)
  poll_lowers l t (polled.Memory u) later is x = same_no_more later (lack_same c H (Call.poll t) at later x)
  poll_lowers l t (polled.Yours u r) later is x =
      let e = exact c H (Call.poll t) at (Reply.yours u r) later x in
      let gave = (starts.yours c H 0 t u r at l e.0).fewer in
      let kept : newest_request later ≡ newest_request H = newest_kept newest c H (Call.poll t) at (Some (Reply.yours u r)) later refl x in
      let fewer : starts_left later t.request < starts_left H t.request =
      subst (λ (G : List Entry). starts_left G t.request < starts_left H t.request) (sym e.1) gave in (
        subst (λ (q : ℕ). starts_left later q < starts_left H (newest_request H)) (sym kept)
            (subst (λ (q : ℕ). starts_left later q < starts_left H q) is fewer),
        omega (arith, forward),
      )
  poll_lowers l t (polled.Settled o) later is x = tt

  enqueue_lowers : (a : Enqueued) (later : List Entry) → legal c later ≡ true → QueueLowers a (outlook later m')
  enqueue_lowers (enqueued.Queued t) later l =
      let few : registered_count later ≤ 2 ^ 32 = starts.few c later l in
      let within : starts_left later (newest_request later) ≤ registered_count later = starts.registered later (newest_request later) in
      (omega (arith, few, within), small)
    where
      small : last_moment - m' ≤ 2 ^ 64
      small = omega arith
  enqueue_lowers enqueued.Unsupported later l = tt
  enqueue_lowers (enqueued.QueueFull waiting bytes) later l = tt
  enqueue_lowers enqueued.NumbersSpent later l = tt
  enqueue_lowers enqueued.Memory later l = tt

  pub hub_lowers : legal c H ≡ true → (call : Call) (answer : HubAnswer) (later : List Entry) → legal c later ≡ true → MayMake H call → FitsKind answer (kind_of call) →
      PollsNewest H call → AnswersAt c H call at (reply_of answer) later → HubLowers answer (outlook H m) (outlook later m')
  hub_lowers l (Call.withdraw t) answer later k may fits is x = absurd may
  hub_lowers l call (answers.Enqueue a) later k may fits is x = enqueue_lowers a later k
  hub_lowers l (Call.poll t) (answers.Poll a) later k may fits is x = poll_lowers l t a later is x
  hub_lowers l (Call.bind r session caps) (answers.Bind a) later k may fits is x =
      opens_none (Call.bind r session caps) (binding_reply a) later refl (λ q. starts.bind c H 0 r session caps at q) x
  hub_lowers l (Call.fail r w) (answers.Fail a) later k may fits is x = opens_none (Call.fail r w) (failing_reply a) later refl (λ q. starts.fail c H 0 r w at q) x
  hub_lowers l (Call.freed z) answers.Freed later k may fits is x = opens_none (Call.freed z) (Some Reply.is_freed) later refl (λ q. starts.freed c H 0 z at q) x
  hub_lowers l call (answers.Register a) later k may fits is x = tt
  hub_lowers l call (answers.Beat a) later k may fits is x = tt
  hub_lowers l call (answers.Drain a) later k may fits is x = tt
  hub_lowers l call (answers.Remove a) later k may fits is x = tt
  hub_lowers l call (answers.Lookup f) later k may fits is x = tt
  hub_lowers l call (answers.Touch a) later k may fits is x = tt
  hub_lowers l call (answers.End a) later k may fits is x = tt
  hub_lowers l call (answers.Clear cleared) later k may fits is x = tt
  hub_lowers l call (answers.View a) later k may fits is x = tt
  hub_lowers l call answers.NoRoom later k may fits is x = tt
  hub_lowers l call (answers.Spent s) later k may fits is x = tt
  hub_lowers l call answer later k may fits is x = absurd cc

  -- ---- the last moment is ahead

  ahead : (t : Ticket) → legal c H ≡ true → IsEarly H t at → at < last_moment
  ahead t l e =
      let late : deadline_of H t.request ≤ last_moment = moments c H t.request l in
      grind (arith, e)

  lacks_early : (t : Ticket) (reply : Reply) → (hub c H 0 (Call.poll t) at).reply ≡ reply → may_lack (Call.poll t) reply ≡ true → IsEarly H t at
  lacks_early t (Reply.yours u r) e may = early.yours c H 0 t u r at e
  lacks_early t reply e may = absurd cc

  -- behind a poll that was told to wait, or found no memory
  pub early_ahead : legal c H ≡ true → (call : Call) (reply : Option Reply) (later : List Entry) → MayMake H call → AnswersAt c H call at reply later → is_early_call (Called call at reply) ≡ true →
      at < last_moment
  early_ahead l (Call.withdraw t) reply later may x e = absurd may
  early_ahead l (Call.poll t) None later may (inl (inl x)) e = absurd (none_some x.replies)
    where
      none_some : None ≡ Some (hub c H 0 (Call.poll t) at).reply → ⊥
      none_some e = cc
  early_ahead l (Call.poll t) None later may (inl (inr x)) e = ahead t l (lacks_early t (hub c H 0 (Call.poll t) at).reply refl x.may)
  early_ahead l (Call.poll t) None later may (inr x) e = absurd (let no = x.0 in cc)
  early_ahead l (Call.poll t) (Some (Reply.not_yet u)) later may x e = ahead t l (early.not_yet c H 0 t u at (exact c H (Call.poll t) at (Reply.not_yet u) later x).0).0
  early_ahead l call reply later may x e = absurd cc

-- the last step tells
pub one_last : (before : Bool) (steps : List Step) (step : Step) → ends_early_behind before (steps ++ step ∷ []) ≡ is_early_call step
one_last before [] step = refl
one_last before (s ∷ steps) step = one_last (is_early_call s) steps step
