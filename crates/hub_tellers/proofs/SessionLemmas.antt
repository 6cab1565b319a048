-- What is told of the calls of sessions that run.
use Rattle.std.proofs.Common.{◌≡◌, ℕ, max, List, [], ◌∷◌, refl, sym, ap, subst, Result, Ok}
use Rattle.std.specs.Prelude.{Option, None, Some, map, nat_lt}
use Rattle.grid_types.specs.declared.config.HubConfig.{HubConfig}
use Rattle.grid_types.specs.declared.names.SlotId.{SlotId}
use Rattle.grid_types.specs.declared.entry.Entry.{Entry}
use Rattle.grid_types.specs.declared.entry.Change.TheVariants as change
use Rattle.grid_types.specs.declared.entry.EndCause.TheVariants as cause
use Rattle.grid_types.specs.declared.names.Moment.{Moment}
use Rattle.grid_types.specs.History.{clock}
use Rattle.grid_types.specs.HubAnswers.{idle_bindings}
use Rattle.grid_types.specs.Lists.{least}
use Rattle.grid_types.specs.Tables.{entry}
use Rattle.grid_types.specs.Tokens.{Closing}
use Rattle.grid_types.specs.Calls.{Call, Reply}
use Rattle.grid_journal.specs.declared.piece.PieceFault.{PieceFault}
use Rattle.grid_journal.specs.Pieces.{Told}
use Rattle.hub_core.specs.declared.answers.Touching.{Touching}
use Rattle.hub_core.specs.declared.answers.Touching.TheVariants as touching
use Rattle.hub_core.specs.declared.answers.Ending.{Ending}
use Rattle.hub_core.specs.declared.answers.Ending.TheVariants as ending
use Rattle.hub_core.specs.declared.answers.Expiring.{Expiring}
use Rattle.hub_core.specs.declared.answers.Expiring.TheVariants as expiring
use Rattle.hub_core.specs.Replies.{touching_reply, ending_reply, expiring_reply}
use Rattle.reply_laws.specs.Made.{CallsMake, touch_made, end_made, expire_made}
use Rattle.hub_tellers.specs.Tells.{Nothing, Tells, ToldAll, idle_ended}
use Rattle.hub_tellers.proofs.TellLemmas.{one_told, nothing_told, tells, tells_none}

-- the session that `expire` ends
abbrev pub Idle : Option ℕ → HubConfig → List Entry → ℕ → Type 0
Idle idle c H at = idle ≡ least nat_lt (idle_bindings c H (max at (clock H)))

expired_ends : (k : ℕ) (now : Moment) (t : Closing) (idle : Option ℕ) → map (entry k) (expire_made idle now (Reply.expired t)) ≡ idle_ended k idle now
expired_ends k now t None = refl
expired_ends k now t (Some b) = refl

nothing_ends : (k : ℕ) (now : Moment) (idle : Option ℕ) → map (entry k) (expire_made idle now Reply.nothing) ≡ []
nothing_ends k now None = refl
nothing_ends k now (Some b) = refl

pub idle_some : (k : ℕ) (idle : Option ℕ) (b : ℕ) (now : Moment) (old new : List ℕ) (r : Result (Unit {0}) PieceFault) → idle ≡ Some b → Told old new (entry k (change.Ended b cause.Idle now)) r → ToldAll old new (idle_ended k idle now) r
idle_some k idle b now old new r e told = subst (λ (o : Option ℕ). ToldAll old new (idle_ended k o now) r) (sym e) (one_told (entry k (change.Ended b cause.Idle now)) old new r told)

pub idle_none : (k : ℕ) (idle : Option ℕ) (now : Moment) (old : List ℕ) (done : Unit {0}) → idle ≡ None → ToldAll old old (idle_ended k idle now) (Ok done)
idle_none k idle now old done e = subst (λ (o : Option ℕ). ToldAll old old (idle_ended k o now) (Ok done)) (sym e) (nothing_told old done)

module _ (laws : CallsMake) (k : ℕ) (now : Moment) where
  pub touch_told : (x : List ℕ) (b : ℕ) (a : Touching) (old new : List ℕ) (res : Result (Unit {0}) PieceFault) → a ≡ touching.Touched →
      Told old new (entry k (change.Touched b now)) res → Tells Nothing k (Call.touch x b) (touching_reply a) now old new res
  touch_told x b a old new res e told = subst (λ (z : Touching). Tells Nothing k (Call.touch x b) (touching_reply z) now old new res) (sym e)
      (tells Nothing k (Call.touch x b) (λ c H at. touch_made b) (λ c H at. laws.touch c H k at x b) now Reply.touched (entry k (change.Touched b now) ∷ []) old new res (λ c H at know. refl)
      (one_told (entry k (change.Touched b now)) old new res told))

  pub touch_quiet : (x : List ℕ) (b : ℕ) (a : Touching) (old : List ℕ) (done : Unit {0}) → a ≡ touching.NoSession → Tells Nothing k (Call.touch x b) (touching_reply a) now old old (Ok done)
  touch_quiet x b a old done e = subst (λ (z : Touching). Tells Nothing k (Call.touch x b) (touching_reply z) now old old (Ok done)) (sym e)
      (tells_none Nothing k (Call.touch x b) (λ c H at. touch_made b) (λ c H at. laws.touch c H k at x b) now Reply.no_session old done (λ c H at know. refl))

  pub end_told : (x : List ℕ) (b : ℕ) (a : Ending) (t : Closing) (old new : List ℕ) (res : Result (Unit {0}) PieceFault) → a ≡ ending.Ended t →
      Told old new (entry k (change.Ended b cause.Quit now)) res → Tells Nothing k (Call.end x b) (ending_reply a) now old new res
  end_told x b a t old new res e told = subst (λ (z : Ending). Tells Nothing k (Call.end x b) (ending_reply z) now old new res) (sym e)
      (tells Nothing k (Call.end x b) (λ c H at. end_made b) (λ c H at. laws.end_of c H k at x b) now (Reply.ended t) (entry k (change.Ended b cause.Quit now) ∷ []) old new res (λ c H at know. refl)
      (one_told (entry k (change.Ended b cause.Quit now)) old new res told))

  pub end_quiet : (x : List ℕ) (b : ℕ) (a : Ending) (old : List ℕ) (done : Unit {0}) → a ≡ ending.NoSession → Tells Nothing k (Call.end x b) (ending_reply a) now old old (Ok done)
  end_quiet x b a old done e = subst (λ (z : Ending). Tells Nothing k (Call.end x b) (ending_reply z) now old old (Ok done)) (sym e)
      (tells_none Nothing k (Call.end x b) (λ c H at. end_made b) (λ c H at. laws.end_of c H k at x b) now Reply.no_session old done (λ c H at know. refl))

  pub freed_told : (t : Closing) (s : SlotId) (old new : List ℕ) (res : Result (Unit {0}) PieceFault) → t.slot ≡ s →
      Told old new (entry k (change.Freed s)) res → Tells Nothing k (Call.freed t) (Some Reply.is_freed) now old new res
  freed_told t s old new res same told = tells Nothing k (Call.freed t) (λ c H at m reply. change.Freed t.slot ∷ []) (λ c H at. laws.freed c H k at t) now Reply.is_freed (entry k (change.Freed s) ∷ []) old new res
      (λ c H at know. ap (λ (z : SlotId). entry k (change.Freed z) ∷ []) same) (one_told (entry k (change.Freed s)) old new res told)

  expire_makes : (idle : Option ℕ) (reply : Reply) (es : List Entry) (old new : List ℕ) (res : Result (Unit {0}) PieceFault) → map (entry k) (expire_made idle now reply) ≡ es → ToldAll old new es res →
      Tells (Idle idle) k Call.expire (Some reply) now old new res
  expire_makes idle reply es old new res is told = tells (Idle idle) k Call.expire (λ c H at. expire_made (least nat_lt (idle_bindings c H (max at (clock H))))) (λ c H at. laws.expire c H k at) now reply es old new res
      (λ c H at know. subst (λ (o : Option ℕ). map (entry k) (expire_made o now reply) ≡ es) know is) told

  pub expire_told : (idle : Option ℕ) (a : Expiring) (t : Closing) (old new : List ℕ) (res : Result (Unit {0}) PieceFault) → a ≡ expiring.Expired t →
      ToldAll old new (idle_ended k idle now) res → Tells (Idle idle) k Call.expire (expiring_reply a) now old new res
  expire_told idle a t old new res e told = subst (λ (z : Expiring). Tells (Idle idle) k Call.expire (expiring_reply z) now old new res) (sym e)
      (expire_makes idle (Reply.expired t) (idle_ended k idle now) old new res (expired_ends k now t idle) told)

  pub expire_quiet : (idle : Option ℕ) (a : Expiring) (old : List ℕ) (done : Unit {0}) → a ≡ expiring.Nothing → Tells (Idle idle) k Call.expire (expiring_reply a) now old old (Ok done)
  expire_quiet idle a old done e = subst (λ (z : Expiring). Tells (Idle idle) k Call.expire (expiring_reply z) now old old (Ok done)) (sym e)
      (expire_makes idle Reply.nothing [] old old (Ok done) (nothing_ends k now idle) (nothing_told old done))
