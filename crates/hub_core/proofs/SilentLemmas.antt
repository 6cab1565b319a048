-- Calls that publish nothing.
use Rattle.std.proofs.Common.{◌≡◌, ◌∙◌, ℕ, Bool, true, false, cond, not, ◌&&◌, ◌||◌, max, ◌+◌, ◌-◌, ◌^◌, List, [], ◌∷◌, map, length, refl, ap}
use Rattle.std.specs.Prelude.{Option, None, Some, nat_le, nat_lt, find}
use Rattle.grid_types.specs.declared.entry.Entry.{Entry}
use Rattle.grid_types.specs.declared.entry.Change.{Change}
use Rattle.grid_types.specs.declared.entry.Change.TheVariants as change
use Rattle.grid_types.specs.declared.entry.Outcome.{Outcome}
use Rattle.grid_types.specs.declared.capabilities.Cap.{Cap}
use Rattle.grid_types.specs.Capabilities.{request_bytes}
use Rattle.grid_types.specs.declared.capabilities.Registration.{Registration}
use Rattle.grid_types.specs.declared.config.HubConfig.{HubConfig}
use Rattle.grid_types.specs.History.{after, clock, nodes, next_node, next_request}
use Rattle.grid_types.specs.Slots.{listed}
use Rattle.grid_types.specs.Requests.{outcome_of, unsettled, unsettled_bytes}
use Rattle.grid_types.specs.Choice.{Assignment, chosen}
use Rattle.grid_types.specs.Permitted.{is_named, is_supported, most_bytes, deadline_at}
use Rattle.grid_types.specs.Tables.{entry}
use Rattle.grid_types.specs.Calls.{Call, Reply}
use Rattle.grid_types.specs.HubAnswers.{Answer, hub, moment, says, makes, register_by, enqueued, polled, polled_open, withdrawn, dispatched, answer}
use Rattle.grid_types.specs.LookupMap.{published_by, published, changes}
use Rattle.hub_core.specs.Ahead.{is_quiet, QuietCallsPublishNothing}

-- changes that publish nothing
abbrev pub IsSilent : Change → Type 0
IsSilent c = (H : List Entry) → published_by H c ≡ []

abbrev pub AllSilent : List Change → Type 0
AllSilent [] = Unit {0}
AllSilent (c ∷ cs) = IsSilent c × AllSilent cs

pub silent-after : (H : List Entry) (k : ℕ) (cs : List Change) → AllSilent cs → changes (after H k cs) ≡ changes H
silent-after H k [] s = refl
silent-after H k (c ∷ cs) s = silent-after (entry k c ∷ H) k cs s.1 ∙ ap (published (changes H)) (s.0 H)

pub silent-map : {X : Type 0} (f : X → Change) (xs : List X) → ((x : X) → IsSilent (f x)) → AllSilent (map f xs)
silent-map f [] s = tt
silent-map f (x ∷ xs) s = (s x, silent-map f xs s)

-- an answer with such changes alone
record IsQuiet (a : Answer) : Type 0 where
  pub silent : AllSilent a.changes

quiet-cond : (b : Bool) (x y : Answer) → IsQuiet x → IsQuiet y → IsQuiet (cond b x y)
quiet-cond true x y p q = p
quiet-cond false x y p q = q

says-quiet : (r : Reply) → IsQuiet (says r)
says-quiet r = record { silent = tt }

makes-quiet : (c : Change) (r : Reply) → IsSilent c → IsQuiet (makes c r)
makes-quiet c r s = record { silent = (s, tt) }

two-quiet : (c d : Change) (r : Reply) → IsSilent c → IsSilent d → IsQuiet (record { changes = c ∷ d ∷ []; reply = r })
two-quiet c d r s t = record { silent = (s, (t, tt)) }

quiet-register : (c : HubConfig) (H : List Entry) (r : Registration) (m : ℕ) (o : Option ℕ) → IsQuiet (register_by c H r m o)
quiet-register c H r m (Some n) = says-quiet _
quiet-register c H r m None = by_tests (nat_le 1_024 (length (listed H))) (nat_le (2 ^ 32 - 1) (next_node c H))
  where
    by_tests : (u v : Bool) → IsQuiet (cond u (says (Reply.nodes_full 1_024)) (cond v (says Reply.numbers_spent) (makes (change.Registered (next_node c H) r (moment m)) (Reply.registered (next_node c H)))))
    by_tests true v = says-quiet _
    by_tests false true = says-quiet _
    by_tests false false = makes-quiet _ _ (λ L. refl)

quiet-tests : (u v w : Bool) (x y z e : Answer) → IsQuiet x → IsQuiet y → IsQuiet z → IsQuiet e → IsQuiet (cond u x (cond v y (cond w z e)))
quiet-tests true v w x y z e p q r s = p
quiet-tests false true w x y z e p q r s = q
quiet-tests false false true x y z e p q r s = r
quiet-tests false false false x y z e p q r s = s

quiet-enqueued : (c : HubConfig) (H : List Entry) (choices : List (List Cap)) (m : ℕ) → IsQuiet (enqueued c H choices m)
quiet-enqueued c H choices m =
    quiet-tests (nat_le (2 ^ 64 - 1) (next_request c H)) (c.reject_unsupported && not (is_supported H choices))
    (nat_le c.queue_requests (length (unsettled H)) || nat_lt most_bytes (unsettled_bytes H + request_bytes choices))
    (says Reply.numbers_spent) (says Reply.unsupported) (says (Reply.queue_full (length (unsettled H)) (unsettled_bytes H)))
    (makes (change.Queued (next_request c H) choices (moment (deadline_at c choices m)) (moment m)) (Reply.queued (record { request = next_request c H; deadline = deadline_at c choices m })))
    (says-quiet _) (says-quiet _) (says-quiet _) (makes-quiet _ _ (λ L. refl))

quiet-open : (H : List Entry) (k r m : ℕ) (o : Option Assignment) → IsQuiet (polled_open H k r m o)
quiet-open H k r m None = says-quiet _
quiet-open H k r m (Some a) = quiet-cond _ _ _ (makes-quiet _ _ (λ L. refl)) (says-quiet _)

quiet-polled : (H : List Entry) (k r m : ℕ) (o : Option Outcome) → IsQuiet (polled H k r m o)
quiet-polled H k r m (Some o) = makes-quiet _ _ (λ L. refl)
quiet-polled H k r m None = quiet-cond _ _ _ (two-quiet _ _ _ (λ L. refl) (λ L. refl)) (quiet-open H k r m (chosen H m))

quiet-withdrawn : (H : List Entry) (r m : ℕ) (o : Option Outcome) → IsQuiet (withdrawn H r m o)
quiet-withdrawn H r m (Some o) = makes-quiet _ _ (λ L. refl)
quiet-withdrawn H r m None = quiet-cond _ _ _ (two-quiet _ _ _ (λ L. refl) (λ L. refl)) (says-quiet _)

quiet-dispatched : (H : List Entry) (k m : ℕ) (o : Option Assignment) → IsQuiet (dispatched H k m o)
quiet-dispatched H k m None = says-quiet _
quiet-dispatched H k m (Some a) = makes-quiet _ _ (λ L. refl)

quiet-answer : (c : HubConfig) (H : List Entry) (k : ℕ) (call : Call) (m : ℕ) → is_quiet call ≡ true → IsQuiet (answer c H k call m)
quiet-answer c H k (Call.register r) m q = quiet-register c H r m (find (is_named H r.name) (nodes H))
quiet-answer c H k (Call.beat n name) m q = quiet-cond _ _ _ (makes-quiet _ _ (λ L. refl)) (says-quiet _)
quiet-answer c H k (Call.drain n) m q = quiet-cond _ _ _ (makes-quiet _ _ (λ L. refl)) (quiet-cond _ _ _ (says-quiet _) (says-quiet _))
quiet-answer c H k (Call.remove n) m q = quiet-cond _ _ _ (makes-quiet _ _ (λ L. refl)) (says-quiet _)
quiet-answer c H k (Call.enqueue choices) m q = quiet-enqueued c H choices m
quiet-answer c H k (Call.poll t) m q = quiet-polled H k t.request m (outcome_of H t.request)
quiet-answer c H k (Call.withdraw t) m q = quiet-withdrawn H t.request m (outcome_of H t.request)
quiet-answer c H k Call.dispatch m q = quiet-dispatched H k m (chosen H m)
quiet-answer c H k (Call.bind t x caps) m q = absurd (cc)
quiet-answer c H k (Call.fail t w) m q = makes-quiet _ _ (λ L. refl)
quiet-answer c H k (Call.lookup s) m q = says-quiet _
quiet-answer c H k (Call.touch s b) m q = quiet-cond _ _ _ (makes-quiet _ _ (λ L. refl)) (says-quiet _)
quiet-answer c H k (Call.end s b) m q = absurd (cc)
quiet-answer c H k (Call.freed t) m q = makes-quiet _ _ (λ L. refl)
quiet-answer c H k Call.sweep m q = absurd (cc)
quiet-answer c H k Call.expire m q = absurd (cc)
quiet-answer c H k Call.clear m q = record { silent = silent-map _ _ (λ r L. refl) }
quiet-answer c H k Call.view m q = says-quiet _

pub quiet-calls : QuietCallsPublishNothing
unfolding hub
quiet-calls c H k call at q = silent-after H k (answer c H k call (max at (clock H))).changes (quiet-answer c H k call (max at (clock H)) q).silent
