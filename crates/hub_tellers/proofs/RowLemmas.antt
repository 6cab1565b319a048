-- What the core lends behind a call, by the history after it.
use Rattle.std.proofs.Common.{◌≡◌, ℕ, max, Bool, true, false, List, [], ◌∷◌, ◌++◌, refl, sym, ap, ◌∙◌, subst, arith, Result}
use Rattle.std.specs.Prelude.{Some, filter, nat_eq, ◌||◌}
use Rattle.std.specs.List.{list_any}
use Rattle.grid_types.specs.declared.config.HubConfig.{HubConfig}
use Rattle.grid_types.specs.declared.capabilities.Cap.{Cap}
use Rattle.grid_types.specs.declared.capabilities.Registration.{Registration}
use Rattle.grid_types.specs.declared.entry.Entry.{Entry}
use Rattle.grid_types.specs.declared.entry.Change.{Change}
use Rattle.grid_types.specs.declared.entry.Change.TheVariants as change
use Rattle.grid_types.specs.declared.names.Moment.{Moment}
use Rattle.grid_types.specs.History.{after, clock, requests}
use Rattle.grid_types.specs.HubAnswers.{after_call, hub, moment}
use Rattle.grid_types.specs.HistoryLaws.{Known, laws}
use Rattle.grid_types.specs.Legal.{legal}
use Rattle.grid_types.specs.Nodes.{registration_of}
use Rattle.grid_types.specs.Requests.{choices_of, is_unsettled, place, unsettled}
use Rattle.grid_types.specs.Slots.{is_listed}
use Rattle.grid_types.specs.Tables.{entry}
use Rattle.grid_types.specs.Tokens.{Ticket}
use Rattle.grid_types.specs.Calls.{Call, Reply}
use Rattle.grid_journal.specs.declared.piece.PieceFault.{PieceFault}
use Rattle.hub_core.specs.declared.hub.HubCore.{HubCore}
use Rattle.hub_core.specs.declared.answers.Registering.{Registering}
use Rattle.hub_core.specs.declared.answers.Registering.TheVariants as registering
use Rattle.hub_core.specs.declared.answers.Enqueued.{Enqueued}
use Rattle.hub_core.specs.declared.answers.Enqueued.TheVariants as enqueued_by
use Rattle.hub_core.specs.CoreStands.{Stands, CoreServes, CoreTells}
use Rattle.hub_core.specs.Replies.{registering_reply, enqueued_reply}
use Rattle.reply_laws.specs.Made.{CallsMake, Makes, register_made, enqueue_made}
use Rattle.hub_tellers.specs.Tells.{Nothing, Tells}
use Rattle.hub_tellers.specs.Records.{TellsCall}
use Rattle.hub_tellers.proofs.CallLemmas.{answered, replied}

-- the history after a call, by its reply
pub after_is : (c : HubConfig) (H : List Entry) (k : ℕ) (call : Call) (at : ℕ) (made : Moment → Reply → List Change) (reply : Reply) → Makes c H k call at made → reply ≡ (hub c H k call at).reply →
    after_call c H k call at ≡ after H k (made (moment (max at (clock H))) reply)
after_is c H k call at made reply makes is = ap (after H k) (makes ∙ ap (made (moment (max at (clock H)))) (sym is))

listed_now : (H : List Entry) (k n : ℕ) (r : Registration) (now : Moment) → is_listed (entry k (change.Registered n r now) ∷ H) n ≡ true
listed_now H k n r now = let same : nat_eq n n ≡ true = grind arith in rw same refl

registered_now : (H : List Entry) (k n : ℕ) (r : Registration) (now : Moment) → registration_of (entry k (change.Registered n r now) ∷ H) n ≡ Some r
registered_now H k n r now = let same : nat_eq n n ≡ true = grind arith in rw same refl

chosen_now : (H : List Entry) (k r : ℕ) (choices : List (List Cap)) (until now : Moment) → choices_of (entry k (change.Queued r choices until now) ∷ H) r ≡ choices
chosen_now H k r choices until now = let same : nat_eq r r ≡ true = grind arith in rw same refl

pub some-inj : {X : Type 0} (x y : X) → Some x ≡ Some y → x ≡ y
some-inj x y e = cc

-- a number that passed a filter
passes : (p : ℕ → Bool) (r : ℕ) (ns : List ℕ) → list_any (nat_eq r) (filter p ns) ≡ true → p r ≡ true
passes p r [] there = absurd (cc)
passes p r (n ∷ ns) there = by_test (p n) refl there (passes p r ns)
  where
    here : (v : Bool) → nat_eq r n ≡ v → p n ≡ true → (v || list_any (nat_eq r) (filter p ns)) ≡ true → (list_any (nat_eq r) (filter p ns) ≡ true → p r ≡ true) → p r ≡ true
    here true same is any rest = let e : r ≡ n = grind arith in subst (λ (m : ℕ). p m ≡ true) (sym e) is
    here false other is any rest = rest any

    by_test : (v : Bool) → p n ≡ v → list_any (nat_eq r) (filter p (n ∷ ns)) ≡ true → (list_any (nat_eq r) (filter p ns) ≡ true → p r ≡ true) → p r ≡ true
    by_test true e any rest = here (nat_eq r n) refl e (rw e at any) rest
    by_test false e any rest = rest (rw e at any)

last-there : (r : ℕ) (ns : List ℕ) → list_any (nat_eq r) (ns ++ r ∷ []) ≡ true
last-there r [] = let same : nat_eq r r ≡ true = grind arith in rw same refl
last-there r (n ∷ ns) = by_test (nat_eq r n) (last-there r ns)
  where
    by_test : (v : Bool) → list_any (nat_eq r) (ns ++ r ∷ []) ≡ true → (v || list_any (nat_eq r) (ns ++ r ∷ [])) ≡ true
    by_test true rest = refl
    by_test false rest = rest

new-unsettled : Known → (c : HubConfig) (H : List Entry) (k r : ℕ) (choices : List (List Cap)) (until now : Moment) → legal c (entry k (change.Queued r choices until now) ∷ H) ≡ true →
    is_unsettled (place (entry k (change.Queued r choices until now) ∷ H) r) ≡ true
new-unsettled proved c H k r choices until now l =
    let moves : unsettled (entry k (change.Queued r choices until now) ∷ H) ≡ unsettled H ++ r ∷ [] = ((laws proved).queue-moves c).queued H k r choices until now
    ((laws proved).legal-before c (entry k (change.Queued r choices until now)) H l) ((laws proved).legal-permitted c (entry k (change.Queued r choices until now)) H l) in
    passes (λ q. is_unsettled (place (entry k (change.Queued r choices until now) ∷ H) q)) r (requests (entry k (change.Queued r choices until now) ∷ H))
    (subst (λ (ns : List ℕ). list_any (nat_eq r) ns ≡ true) (sym moves) (last-there r (unsettled H)))

module _ (made : CallsMake) (k : ℕ) (now : Moment) (old new : HubCore) (at : ℕ) (before after_told : List ℕ) (told : Result (Unit {0}) PieceFault)
    (raised : CoreTells old (λ H. now.0 ≡ max at (clock H))) where
  -- the node that registered is told by its row
  pub listed_told : (node row : Registration) (a : Registering) (n : ℕ) → a ≡ registering.Registered n → CoreServes old new k (Call.register node) at (registering_reply a) →
      CoreTells new (λ H. is_listed H n ≡ true → Some row ≡ registration_of H n) → Tells Nothing k (Call.register row) (registering_reply a) now before after_told told →
      TellsCall old k (Call.register node) at (registering_reply a) before after_told told
  listed_told node row a n e serves lends tells = subst
      (λ (x : Registering). CoreServes old new k (Call.register node) at (registering_reply x) → Tells Nothing k (Call.register row) (registering_reply x) now before after_told told →
      TellsCall old k (Call.register node) at (registering_reply x) before after_told told)
      (sym e) by_row serves tells
    where
      by_row : CoreServes old new k (Call.register node) at (Some (Reply.registered n)) → Tells Nothing k (Call.register row) (Some (Reply.registered n)) now before after_told told →
          TellsCall old k (Call.register node) at (Some (Reply.registered n)) before after_told told
      by_row serves_it tells_it = record {
        of = λ H s may.
            let m : Moment = moment (max at (clock H)) in
            let is = replied old.config H _ k (Call.register node) at (Some (Reply.registered n)) (serves_it.serves H s may).answers in
            let goes = after_is old.config H k (Call.register node) at (register_made node) (Reply.registered n) (made.register old.config H k at node) is in
            let stands : Stands new (entry k (change.Registered n node m) ∷ H) = subst (λ (L : List Entry). Stands new L) goes (serves_it.stands H s may) in
            let same : row ≡ node = some-inj row node (lends.of (entry k (change.Registered n node m) ∷ H) stands (listed_now H k n node m) ∙ registered_now H k n node m) in
            let told_it : Tells Nothing k (Call.register node) (Some (Reply.registered n)) now before after_told told =
            subst (λ (r : Registration). Tells Nothing k (Call.register r) (Some (Reply.registered n)) now before after_told told) same tells_it in
            told_it old.config H at tt (answered old new k at (Call.register node) (Some (Reply.registered n)) now serves_it raised H s may);
      }

  -- the request that was queued is told by its row
  pub queued_told : Known → (choices row : List (List Cap)) (a : Enqueued) (t : Ticket) (number : ℕ) → number ≡ t.request → a ≡ enqueued_by.Queued t → CoreServes old new k (Call.enqueue choices) at (enqueued_reply a) →
      CoreTells new (λ H. is_unsettled (place H number) ≡ true → Some row ≡ Some (choices_of H number)) → Tells Nothing k (Call.enqueue row) (enqueued_reply a) now before after_told told →
      TellsCall old k (Call.enqueue choices) at (enqueued_reply a) before after_told told
  queued_told proved choices row a t number numbered e serves lends tells = subst
      (λ (x : Enqueued). CoreServes old new k (Call.enqueue choices) at (enqueued_reply x) → Tells Nothing k (Call.enqueue row) (enqueued_reply x) now before after_told told →
      TellsCall old k (Call.enqueue choices) at (enqueued_reply x) before after_told told)
      (sym e) by_row serves tells
    where
      lent : (L : List Entry) → Stands new L → is_unsettled (place L t.request) ≡ true → Some row ≡ Some (choices_of L t.request)
      lent L stands there = subst (λ (n : ℕ). is_unsettled (place L n) ≡ true → Some row ≡ Some (choices_of L n)) numbered (lends.of L stands) there

      by_row : CoreServes old new k (Call.enqueue choices) at (Some (Reply.queued t)) → Tells Nothing k (Call.enqueue row) (Some (Reply.queued t)) now before after_told told →
          TellsCall old k (Call.enqueue choices) at (Some (Reply.queued t)) before after_told told
      by_row serves_it tells_it = record {
        of = λ H s may.
            let m : Moment = moment (max at (clock H)) in
            let is = replied old.config H _ k (Call.enqueue choices) at (Some (Reply.queued t)) (serves_it.serves H s may).answers in
            let goes = after_is old.config H k (Call.enqueue choices) at (enqueue_made choices) (Reply.queued t) (made.enqueue old.config H k at choices) is in
            let stands : Stands new (entry k (change.Queued t.request choices (moment t.deadline) m) ∷ H) = subst (λ (L : List Entry). Stands new L) goes (serves_it.stands H s may) in
            let there = new-unsettled proved new.config H k t.request choices (moment t.deadline) m stands.is_legal in
            let same : row ≡ choices = some-inj row _ (lent (entry k (change.Queued t.request choices (moment t.deadline) m) ∷ H) stands there) ∙ chosen_now H k t.request choices (moment t.deadline) m in
            let told_it : Tells Nothing k (Call.enqueue choices) (Some (Reply.queued t)) now before after_told told =
            subst (λ (r : List (List Cap)). Tells Nothing k (Call.enqueue r) (Some (Reply.queued t)) now before after_told told) same tells_it in
            told_it old.config H at tt (answered old new k at (Call.enqueue choices) (Some (Reply.queued t)) now serves_it raised H s may);
      }
