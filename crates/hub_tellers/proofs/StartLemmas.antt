-- What is told of the calls that spend a reservation.
use Rattle.std.proofs.Common.{◌≡◌, ℕ, Bool, true, false, List, [], ◌∷◌, ◌++◌, refl, sym, ap, ◌∙◌, subst, append_assoc, Result, Ok, Err}
use Rattle.std.specs.Prelude.{Option, None, Some, IfSome, map, cond, not, ◌&&◌}
use Rattle.grid_types.specs.declared.capabilities.Cap.{Cap}
use Rattle.grid_types.specs.declared.names.SlotId.{SlotId}
use Rattle.grid_types.specs.declared.entry.Entry.{Entry}
use Rattle.grid_types.specs.declared.entry.Change.TheVariants as change
use Rattle.grid_types.specs.declared.entry.FailWhy.{FailWhy}
use Rattle.grid_types.specs.declared.entry.FailWhy.TheVariants as why
use Rattle.grid_types.specs.declared.names.Moment.{Moment}
use Rattle.grid_types.specs.Nodes.{is_base_up}
use Rattle.grid_types.specs.Requests.{is_settled}
use Rattle.grid_types.specs.HubAnswers.{after_call}
use Rattle.grid_types.specs.Tables.{entry}
use Rattle.grid_types.specs.Tokens.{Reservation, Closing}
use Rattle.grid_types.specs.Calls.{Call, Reply}
use Rattle.grid_journal.specs.declared.piece.PieceFault.{PieceFault}
use Rattle.grid_journal.specs.declared.piece.PieceFault.TheVariants as fault
use Rattle.grid_journal.specs.Spelled.{entry_bytes}
use Rattle.grid_journal.specs.Pieces.{Told}
use Rattle.hub_core.specs.declared.answers.Binding.{Binding}
use Rattle.hub_core.specs.declared.answers.Binding.TheVariants as binding
use Rattle.hub_core.specs.declared.answers.Failing.{Failing}
use Rattle.hub_core.specs.declared.answers.Failing.TheVariants as failing
use Rattle.hub_core.specs.Replies.{binding_reply, failing_reply}
use Rattle.reply_laws.specs.Made.{CallsMake, bind_made, fail_made, is_refusal}
use Rattle.hub_tellers.specs.declared.starts.Start.{Start}
use Rattle.hub_tellers.specs.declared.starts.Standing.{Standing}
use Rattle.hub_tellers.specs.Starts.{IsOf, Stood}
use Rattle.hub_tellers.specs.Tells.{Nothing, Tells, ToldAll}
use Rattle.hub_tellers.proofs.TellLemmas.{one_told, tells, tells_lack}

-- a first entry was told, and then others
pub told_then : (e : Entry) (drains : Bool) (f : Entry) (old mid new : List ℕ) (done : Unit {0}) (r : Result (Unit {0}) PieceFault) → Told old mid e (Ok done) → ToldAll mid new (cond drains (f ∷ []) []) r →
    ToldAll old new (e ∷ cond drains (f ∷ []) []) r
told_then e true f old mid new done (Ok also) first rest = (
  rest.0 ∙ (ap (λ (l : List ℕ). l ++ (entry_bytes f ++ [])) first.0 ∙ append_assoc old (entry_bytes e) (entry_bytes f ++ [])),
  (first.1, rest.1),
)
told_then e true f old mid new done (Err fault.Memory) first rest = rest
told_then e true f old mid new done (Err fault.Unreadable) first rest = (rest.0, λ all. rest.1 all.1)
told_then e false f old mid new done (Ok also) first rest = (
  rest.0 ∙ (ap (λ (l : List ℕ). l ++ []) first.0 ∙ append_assoc old (entry_bytes e) []),
  (first.1, tt),
)
told_then e false f old mid new done (Err fault.Memory) first rest = rest
told_then e false f old mid new done (Err fault.Unreadable) first rest = (rest.0, λ all. rest.1 all.1)

kept_entries : (k r : ℕ) (s : SlotId) (x : List ℕ) (caps : List Cap) (now : Moment) (drains d : Bool) → drains ≡ d →
    map (entry k) (change.Bound r s x caps now ∷ cond d (change.Draining s.node now ∷ []) []) ≡ entry k (change.Bound r s x caps now) ∷ cond drains (entry k (change.Draining s.node now) ∷ []) []
kept_entries k r s x caps now true true e = refl
kept_entries k r s x caps now false false e = refl
kept_entries k r s x caps now true false e = absurd (cc)
kept_entries k r s x caps now false true e = absurd (cc)

module _ (laws : CallsMake) (k : ℕ) (now : Moment) (v : Reservation) (start : Start) (is_of : IsOf start v) where
  module _ (x : List ℕ) (caps : List Cap) (standing : Standing) where
    bind_tells : (reply : Reply) (es : List Entry) (old new : List ℕ) (res : Result (Unit {0}) PieceFault) →
        map (entry k) (bind_made v x caps standing.was_up standing.is_up standing.is_settled now reply) ≡ es → ToldAll old new es res →
        Tells (Stood k v x caps standing (Some reply)) k (Call.bind v x caps) (Some reply) now old new res
    bind_tells reply es old new res is told = tells (Stood k v x caps standing (Some reply)) k (Call.bind v x caps)
        (λ c H at. bind_made v x caps (is_base_up H v.slot.node) (is_base_up (after_call c H k (Call.bind v x caps) at) v.slot.node) (is_settled (after_call c H k (Call.bind v x caps) at) v.request))
        (λ c H at. laws.bind c H k at v x caps) now reply es old new res
        (λ c H at know.
        subst (λ (a : Bool). map (entry k) (bind_made v x caps a (is_base_up (after_call c H k (Call.bind v x caps) at) v.slot.node) (is_settled (after_call c H k (Call.bind v x caps) at) v.request) now reply) ≡ es) know.before
        (subst (λ (a : Bool). map (entry k) (bind_made v x caps standing.was_up a (is_settled (after_call c H k (Call.bind v x caps) at) v.request) now reply) ≡ es) know.after
        (subst (λ (a : Bool). map (entry k) (bind_made v x caps standing.was_up standing.is_up a now reply) ≡ es) know.settled is)))
        told

    pub bound_told : (a : Binding) (b : ℕ) (drains : Bool) (old new : List ℕ) (res : Result (Unit {0}) PieceFault) → a ≡ binding.Bound b → drains ≡ (standing.was_up && not standing.is_up) →
        ToldAll old new (entry k (change.Bound start.request start.slot x caps now) ∷ cond drains (entry k (change.Draining start.slot.node now) ∷ []) []) res →
        Tells (Stood k v x caps standing (binding_reply a)) k (Call.bind v x caps) (binding_reply a) now old new res
    bound_told a b drains old new res e d told = subst (λ (z : Binding). Tells (Stood k v x caps standing (binding_reply z)) k (Call.bind v x caps) (binding_reply z) now old new res) (sym e)
        (bind_tells (Reply.bound b) (entry k (change.Bound v.request v.slot x caps now) ∷ cond drains (entry k (change.Draining v.slot.node now) ∷ []) []) old new res
        (kept_entries k v.request v.slot x caps now drains (standing.was_up && not standing.is_up) d)
        (subst (λ (r : ℕ). ToldAll old new (entry k (change.Bound r v.slot x caps now) ∷ cond drains (entry k (change.Draining v.slot.node now) ∷ []) []) res) (sym is_of.same_request)
        (subst (λ (s : SlotId). ToldAll old new (entry k (change.Bound start.request s x caps now) ∷ cond drains (entry k (change.Draining s.node now) ∷ []) []) res) (sym is_of.same_slot) told)))

    -- a session that is not kept
    pub unkept_told : (a : Binding) (reply : Reply) (reason : FailWhy) (last : Bool) (old new : List ℕ) (res : Result (Unit {0}) PieceFault) → binding_reply a ≡ Some reply →
        bind_made v x caps standing.was_up standing.is_up standing.is_settled now reply ≡ change.Failed v.request v.slot reason (Some x) last now ∷ [] →
        Told old new (entry k (change.Failed start.request start.slot reason (Some x) last now)) res →
        Tells (Stood k v x caps standing (binding_reply a)) k (Call.bind v x caps) (binding_reply a) now old new res
    unkept_told a reply reason last old new res e made told = subst (λ (z : Option Reply). Tells (Stood k v x caps standing z) k (Call.bind v x caps) z now old new res) (sym e)
        (bind_tells reply (entry k (change.Failed v.request v.slot reason (Some x) last now) ∷ []) old new res (ap (map (entry k)) made)
        (subst (λ (r : ℕ). ToldAll old new (entry k (change.Failed r v.slot reason (Some x) last now) ∷ []) res) (sym is_of.same_request)
        (subst (λ (s : SlotId). ToldAll old new (entry k (change.Failed start.request s reason (Some x) last now) ∷ []) res) (sym is_of.same_slot)
        (one_told (entry k (change.Failed start.request start.slot reason (Some x) last now)) old new res told))))

    pub late_told : (a : Binding) (t : Closing) (old new : List ℕ) (res : Result (Unit {0}) PieceFault) → a ≡ binding.Late t →
        Told old new (entry k (change.Failed start.request start.slot why.Late (Some x) false now)) res → Tells (Stood k v x caps standing (binding_reply a)) k (Call.bind v x caps) (binding_reply a) now old new res
    late_told a t old new res e told = unkept_told a (Reply.late t) why.Late false old new res (ap binding_reply e) refl told

    pub gone_told : (a : Binding) (t : Closing) (old new : List ℕ) (res : Result (Unit {0}) PieceFault) → a ≡ binding.NodeGone t →
        Told old new (entry k (change.Failed start.request start.slot why.NodeGone (Some x) standing.is_settled now)) res → Tells (Stood k v x caps standing (binding_reply a)) k (Call.bind v x caps) (binding_reply a) now old new res
    gone_told a t old new res e told = unkept_told a (Reply.node_gone t) why.NodeGone standing.is_settled old new res (ap binding_reply e) refl told

    pub duplicate_told : (a : Binding) (t : Closing) (old new : List ℕ) (res : Result (Unit {0}) PieceFault) → a ≡ binding.Duplicate t →
        Told old new (entry k (change.Failed start.request start.slot why.Duplicate (Some x) standing.is_settled now)) res → Tells (Stood k v x caps standing (binding_reply a)) k (Call.bind v x caps) (binding_reply a) now old new res
    duplicate_told a t old new res e told = unkept_told a (Reply.duplicate t) why.Duplicate standing.is_settled old new res (ap binding_reply e) refl told

    pub mismatch_told : (a : Binding) (t : Closing) (old new : List ℕ) (res : Result (Unit {0}) PieceFault) → a ≡ binding.Mismatch t →
        Told old new (entry k (change.Failed start.request start.slot why.Mismatch (Some x) standing.is_settled now)) res → Tells (Stood k v x caps standing (binding_reply a)) k (Call.bind v x caps) (binding_reply a) now old new res
    mismatch_told a t old new res e told = unkept_told a (Reply.mismatch t) why.Mismatch standing.is_settled old new res (ap binding_reply e) refl told

    pub unbound_lack : (a : Binding) (back : Reservation) (y : List ℕ) (old : List ℕ) (done : Unit {0}) → a ≡ binding.Memory back y →
        Tells (Stood k v x caps standing (binding_reply a)) k (Call.bind v x caps) (binding_reply a) now old old (Ok done)
    unbound_lack a back y old done e = subst (λ (z : Binding). Tells (Stood k v x caps standing (binding_reply z)) k (Call.bind v x caps) (binding_reply z) now old old (Ok done)) (sym e)
        (tells_lack (Stood k v x caps standing None) k (Call.bind v x caps) now old done)

  fail_tells : (reason : FailWhy) (last : Bool) (reply : Reply) (old new : List ℕ) (res : Result (Unit {0}) PieceFault) → last ≡ is_refusal reply →
      Told old new (entry k (change.Failed start.request start.slot reason None last now)) res → Tells Nothing k (Call.fail v reason) (Some reply) now old new res
  fail_tells reason last reply old new res is told = tells Nothing k (Call.fail v reason) (λ c H at. fail_made v reason) (λ c H at. laws.fail c H k at v reason) now reply
      (entry k (change.Failed v.request v.slot reason None last now) ∷ []) old new res
      (λ c H at know. ap (λ (b : Bool). entry k (change.Failed v.request v.slot reason None b now) ∷ []) (sym is))
      (subst (λ (r : ℕ). ToldAll old new (entry k (change.Failed r v.slot reason None last now) ∷ []) res) (sym is_of.same_request)
      (subst (λ (s : SlotId). ToldAll old new (entry k (change.Failed start.request s reason None last now) ∷ []) res) (sym is_of.same_slot)
      (one_told (entry k (change.Failed start.request start.slot reason None last now)) old new res told)))

  pub fail_told : (reason : FailWhy) (last : Bool) (a : Failing) (old new : List ℕ) (res : Result (Unit {0}) PieceFault) → IfSome (failing_reply a) (λ reply. last ≡ is_refusal reply) →
      Told old new (entry k (change.Failed start.request start.slot reason None last now)) res → Tells Nothing k (Call.fail v reason) (failing_reply a) now old new res
  fail_told reason last failing.Again old new res is told = fail_tells reason last Reply.failed_again old new res is told
  fail_told reason last failing.Refused old new res is told = fail_tells reason last Reply.failed_refused old new res is told
  fail_told reason last failing.Late old new res is told = fail_tells reason last Reply.failed_late old new res is told
