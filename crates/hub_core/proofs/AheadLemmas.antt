-- What bind, end and expire publish.
use Rattle.std.proofs.Common.{◌≡◌, ◌∙◌, ℕ, Bool, true, false, cond, ◌&&◌, max, List, [], ◌∷◌, refl, subst, sym, ap}
use Rattle.std.specs.Prelude.{Option, None, Some, nat_lt, is_some}
use Rattle.grid_types.specs.declared.entry.Entry.{Entry}
use Rattle.grid_types.specs.declared.entry.Change.TheVariants as change
use Rattle.grid_types.specs.declared.entry.FailWhy.{FailWhy}
use Rattle.grid_types.specs.declared.entry.FailWhy.TheVariants as why
use Rattle.grid_types.specs.declared.names.Moment.{Moment}
use Rattle.grid_types.specs.declared.capabilities.Cap.{Cap}
use Rattle.grid_types.specs.declared.config.HubConfig.{HubConfig}
use Rattle.grid_types.specs.Lists.{least}
use Rattle.grid_types.specs.History.{clock}
use Rattle.grid_types.specs.Nodes.{address_of, is_spent, is_base_up}
use Rattle.grid_types.specs.Bindings.{Running, bound_of}
use Rattle.grid_types.specs.Tables.{entry}
use Rattle.grid_types.specs.Tokens.{Reservation, Closing, closing_of, reservation_of}
use Rattle.grid_types.specs.Calls.{Call, Reply}
use Rattle.grid_types.specs.HubAnswers.{moment, drain_after_bind, idle_bindings, refused_reply}
use Rattle.grid_types.specs.LookupMap.{Item, put, removal, removal_of, published, changes}
use Rattle.hub_core.specs.declared.hub.HubCore.{HubCore}
use Rattle.hub_core.specs.declared.hub.sessions.Seat.{Seat}
use Rattle.hub_core.specs.declared.hub.sessions.Idle.{Idle}
use Rattle.hub_core.specs.Answers.{IsExact}
use Rattle.hub_core.specs.Serves.{MayCall}
use Rattle.hub_core.specs.Starts.{refusal_of}
use Rattle.hub_core.specs.Seats.{SeatTells, IdleTells, IsIdle, seated}
use Rattle.hub_core.specs.CoreStands.{Stands, CoreTells, is_known}
use Rattle.hub_core.specs.Ahead.{Publishes, BindsThere, RefusesThere, is_bound, put_of}
use Rattle.grid_types.specs.Requests.{place}
use Rattle.grid_types.specs.HistoryLaws.{Known, laws}
use Rattle.hub_core.proofs.NoteLemmas.{IsRaised}
use Rattle.hub_core.proofs.SilentLemmas.{AllSilent, silent-after}
use Rattle.hub_core.proofs.BindLemmas.{bind-refused, bind-kept}
use Rattle.hub_core.proofs.SettledLemmas.{reservation-known}
use Rattle.hub_core.proofs.CoreSessionLemmas.{end-none, end-ended, expire-none, expire-expired}

-- the map after a call, where the history after it is known
by_history : (c : HubConfig) (H : List Entry) (k : ℕ) (call : Call) (at : ℕ) (reply : Option Reply) (next : List Entry) (items : List Item) → IsExact c H k call at reply next → changes next ≡ published (changes H) items → Publishes c H k call at items
by_history c H k call at reply next items x e = ap changes (sym x.goes_on) ∙ e

not-bound : (w : FailWhy) (d : Closing) → is_bound (refused_reply w d) ≡ false
not-bound why.Late d = refl
not-bound why.NodeGone d = refl
not-bound why.Duplicate d = refl
not-bound w d = refl

reply-is : (a b : Reply) → Some a ≡ Some b → is_bound b ≡ is_bound a
reply-is a b e = let same : a ≡ b = cc in ap is_bound (sym same)

drain-silent : (b : Bool) (n m : ℕ) → AllSilent (cond b (change.Draining n (moment m) ∷ []) [])
drain-silent true n m = ((λ L. refl), tt)
drain-silent false n m = tt

pub binds-there : (c : HubConfig) (H : List Entry) (k : ℕ) (t : Reservation) (x : List ℕ) (caps : List Cap) (at : ℕ) → refusal_of H t x caps ≡ None → t.address ≡ address_of H t.slot.node → BindsThere c H k t x caps at
binds-there c H k t x caps at none its =
    let now : Moment = moment (max at (clock H)) in
    let exact = bind-kept H t x caps at now refl none c k in
    let G : List Entry = entry k (change.Bound t.request t.slot x caps now) ∷ H in
    record {
      binds = reply-is _ _ exact.replies;
      puts = by_history c H k (Call.bind t x caps) at _ _ (put_of t x ∷ []) exact
          (silent-after G k (drain_after_bind G t.slot.node now.0) (drain-silent (is_spent G t.slot.node && is_base_up G t.slot.node) t.slot.node now.0)
          ∙ ap (λ (a : List ℕ). put (record { session = x; slot = t.slot; address = a; binding = t.request }) ∷ changes H) (sym its));
    }

pub refuses-there : (c : HubConfig) (H : List Entry) (k : ℕ) (t : Reservation) (x : List ℕ) (caps : List Cap) (at : ℕ) (w : FailWhy) → refusal_of H t x caps ≡ Some w → RefusesThere c H k t x caps at
refuses-there c H k t x caps at w some =
    let now : Moment = moment (max at (clock H)) in
    let exact = bind-refused H t x caps at now w refl some c k in
    record {
      refuses = reply-is _ _ exact.replies ∙ not-bound w (closing_of H t.slot x);
      stays = by_history c H k (Call.bind t x caps) at _ _ [] exact refl;
    }

module _ (proved : Known) (core : HubCore) (t : Reservation) (x : List ℕ) (caps : List Cap) (at : ℕ) (found : Option FailWhy)
    (tells : CoreTells core (λ H. t ≡ reservation_of H t.request t.slot → is_known (place H t.request) ≡ true → found ≡ refusal_of H t x caps)) where
  refusal-is : (H : List Entry) (k : ℕ) → Stands core H → MayCall H k (Call.bind t x caps) → refusal_of H t x caps ≡ found
  refusal-is H k s may = sym (tells.of H s may.is_true (reservation-known proved core.config H k t.request t.slot s.is_legal may.is_good))

  pub core-binds : found ≡ None → CoreTells core (λ H. (k : ℕ) → MayCall H k (Call.bind t x caps) → BindsThere core.config H k t x caps at)
  core-binds none = record {
    of = λ H s k may. binds-there core.config H k t x caps at (refusal-is H k s may ∙ none) (ap (λ (z : Reservation). z.address) may.is_true);
  }

  some-cause : is_some found ≡ true → (w : FailWhy) × (found ≡ Some w)
  some-cause h = by_cause found refl h
    where
      by_cause : (o : Option FailWhy) → found ≡ o → is_some o ≡ true → (w : FailWhy) × (found ≡ Some w)
      by_cause None e h = absurd (cc)
      by_cause (Some w) e h = (w, e)

  no-cause : is_some found ≡ false → found ≡ None
  no-cause h = by_cause found refl h
    where
      by_cause : (o : Option FailWhy) → found ≡ o → is_some o ≡ false → found ≡ None
      by_cause None e h = e
      by_cause (Some w) e h = absurd (cc)

  pub core-refuses : is_some found ≡ true → CoreTells core (λ H. (k : ℕ) → MayCall H k (Call.bind t x caps) → RefusesThere core.config H k t x caps at)
  core-refuses some = record {
    of = λ H s k may. let w = some-cause some in refuses-there core.config H k t x caps at w.0 (refusal-is H k s may ∙ w.1);
  }

  pub core-binds_there : is_some found ≡ false → CoreTells core (λ H. (k : ℕ) → MayCall H k (Call.bind t x caps) → BindsThere core.config H k t x caps at)
  core-binds_there none = core-binds (no-cause none)

removal-is : (H : List Entry) (b : ℕ) (r : Running) → bound_of H b ≡ Some r → published (changes H) (removal_of (bound_of H b)) ≡ removal r.session ∷ changes H
removal-is H b r e = ap (λ (o : Option Running). published (changes H) (removal_of o)) e

pub core-not_ending : (core : HubCore) (x : List ℕ) (b : ℕ) → CoreTells core (λ H. SeatTells H x b None) → CoreTells core (λ H. (k at : ℕ) → Publishes core.config H k (Call.end x b) at [])
core-not_ending core x b tells = record { of = λ H s k at. by_history core.config H k (Call.end x b) at _ H [] (end-none core.config H k at x b (tells.of H s)) refl }

pub core-ending : Known → (core : HubCore) (x : List ℕ) (b : ℕ) (seat : Seat) → CoreTells core (λ H. SeatTells H x b (Some seat)) → CoreTells core (λ H. (k at : ℕ) → Publishes core.config H k (Call.end x b) at (removal x ∷ []))
core-ending proved core x b seat tells = record {
  of = λ H s k at. by_history core.config H k (Call.end x b) at _ _ (removal x ∷ []) (end-ended proved core.config H k at x b seat s.is_legal (tells.of H s))
      (removal-is H b (seated x b seat) ((laws proved).running-live core.config H x (seated x b seat) s.is_legal (tells.of H s)).0.bound);
}

pub core-not_expiring : (core : HubCore) (at : ℕ) (now : Moment) → CoreTells core (λ H. IdleTells core.config H now.0 None) → IsRaised core at now → CoreTells core (λ H. (k : ℕ) → Publishes core.config H k Call.expire at [])
core-not_expiring core at now tells e = record {
  of = λ H s k. by_history core.config H k Call.expire at _ H []
      (expire-none core.config H k at (subst (λ (m : ℕ). least nat_lt (idle_bindings core.config H m) ≡ None) (e.of core.config H s.tables_stand s.is_legal) (tells.of H s))) refl;
}

pub core-expiring : Known → (core : HubCore) (at : ℕ) (now : Moment) (idle : Idle) → CoreTells core (λ H. IdleTells core.config H now.0 (Some idle)) → IsRaised core at now →
    CoreTells core (λ H. (k : ℕ) → Publishes core.config H k Call.expire at (removal idle.session ∷ []))
core-expiring proved core at now idle tells e = record {
  of = λ H s k.
      let here : IsIdle core.config H (max at (clock H)) idle = subst (λ (m : ℕ). IsIdle core.config H m idle) (e.of core.config H s.tables_stand s.is_legal) (tells.of H s) in
      by_history core.config H k Call.expire at _ _ (removal idle.session ∷ []) (expire-expired proved core.config H k at idle s.is_legal here)
      (removal-is H idle.binding (seated idle.session idle.binding idle.seat) ((laws proved).running-live core.config H idle.session (seated idle.session idle.binding idle.seat) s.is_legal here.runs).0.bound);
}
