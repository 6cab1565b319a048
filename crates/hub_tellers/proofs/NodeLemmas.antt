-- What is told of the calls of nodes.
use Rattle.std.proofs.Common.{◌≡◌, ℕ, Bool, true, false, List, [], ◌∷◌, refl, sym, ap, ◌∙◌, subst, Result, Ok}
use Rattle.std.specs.Prelude.{Option, Some, map}
use Rattle.grid_types.specs.declared.capabilities.Registration.{Registration}
use Rattle.grid_types.specs.declared.entry.Entry.{Entry}
use Rattle.grid_types.specs.declared.entry.Change.TheVariants as change
use Rattle.grid_types.specs.declared.names.Moment.{Moment}
use Rattle.grid_types.specs.Nodes.{is_base_up}
use Rattle.grid_types.specs.Tables.{entry}
use Rattle.grid_types.specs.Calls.{Call, Reply}
use Rattle.grid_journal.specs.declared.piece.PieceFault.{PieceFault}
use Rattle.grid_journal.specs.Pieces.{Told}
use Rattle.hub_core.specs.declared.answers.Registering.{Registering}
use Rattle.hub_core.specs.declared.answers.Registering.TheVariants as registering
use Rattle.hub_core.specs.declared.answers.Beating.{Beating}
use Rattle.hub_core.specs.declared.answers.Beating.TheVariants as beating
use Rattle.hub_core.specs.declared.answers.Draining.{Draining}
use Rattle.hub_core.specs.declared.answers.Draining.TheVariants as draining
use Rattle.hub_core.specs.declared.answers.Removal.{Removal}
use Rattle.hub_core.specs.declared.answers.Removal.TheVariants as removal
use Rattle.hub_core.specs.Replies.{registering_reply, beating_reply, draining_reply, removal_reply}
use Rattle.reply_laws.specs.Made.{CallsMake, register_made, beat_made, drain_made, remove_made}
use Rattle.hub_tellers.specs.Tells.{Nothing, Tells}
use Rattle.hub_tellers.proofs.TellLemmas.{one_told, tells, tells_none, tells_lack}

module _ (laws : CallsMake) (k : ℕ) (now : Moment) where
  pub register_told : (r : Registration) (a : Registering) (n : ℕ) (old new : List ℕ) (res : Result (Unit {0}) PieceFault) → a ≡ registering.Registered n →
      Told old new (entry k (change.Registered n r now)) res → Tells Nothing k (Call.register r) (registering_reply a) now old new res
  register_told r a n old new res e told = subst (λ (x : Registering). Tells Nothing k (Call.register r) (registering_reply x) now old new res) (sym e)
      (tells Nothing k (Call.register r) (λ c H at. register_made r) (λ c H at. laws.register c H k at r) now (Reply.registered n) (entry k (change.Registered n r now) ∷ []) old new res (λ c H at know. refl)
      (one_told (entry k (change.Registered n r now)) old new res told))

  pub register_quiet : (r : Registration) (a : Registering) (old : List ℕ) (done : Unit {0}) → ((n : ℕ) → a ≡ registering.Registered n → ⊥) →
      Tells Nothing k (Call.register r) (registering_reply a) now old old (Ok done)
  register_quiet r a old done other = by_answer a other
    where
      says : (reply : Reply) → register_made r now reply ≡ [] → Tells Nothing k (Call.register r) (Some reply) now old old (Ok done)
      says reply is = tells_none Nothing k (Call.register r) (λ c H at. register_made r) (λ c H at. laws.register c H k at r) now reply old done (λ c H at know. ap (map (entry k)) is)

      by_answer : (x : Registering) → ((n : ℕ) → x ≡ registering.Registered n → ⊥) → Tells Nothing k (Call.register r) (registering_reply x) now old old (Ok done)
      by_answer (registering.Registered n) h = absurd (h n refl)
      by_answer (registering.NameTaken n) h = says (Reply.name_taken n) refl
      by_answer (registering.NodesFull listed) h = says (Reply.nodes_full listed) refl
      by_answer registering.NumbersSpent h = says Reply.numbers_spent refl
      by_answer (registering.Memory x) h = tells_lack Nothing k (Call.register r) now old done

  pub beat_told : (n : ℕ) (name : Option (List ℕ)) (a : Beating) (old new : List ℕ) (res : Result (Unit {0}) PieceFault) → a ≡ beating.Beaten →
      Told old new (entry k (change.Beaten n now)) res → Tells Nothing k (Call.beat n name) (beating_reply a) now old new res
  beat_told n name a old new res e told = subst (λ (x : Beating). Tells Nothing k (Call.beat n name) (beating_reply x) now old new res) (sym e)
      (tells Nothing k (Call.beat n name) (λ c H at. beat_made n) (λ c H at. laws.beat c H k at n name) now Reply.beaten (entry k (change.Beaten n now) ∷ []) old new res (λ c H at know. refl)
      (one_told (entry k (change.Beaten n now)) old new res told))

  pub beat_quiet : (n : ℕ) (name : Option (List ℕ)) (a : Beating) (old : List ℕ) (done : Unit {0}) → a ≡ beating.NoNode →
      Tells Nothing k (Call.beat n name) (beating_reply a) now old old (Ok done)
  beat_quiet n name a old done e = subst (λ (x : Beating). Tells Nothing k (Call.beat n name) (beating_reply x) now old old (Ok done)) (sym e)
      (tells_none Nothing k (Call.beat n name) (λ c H at. beat_made n) (λ c H at. laws.beat c H k at n name) now Reply.no_node old done (λ c H at know. refl))

  drain_says : (n : ℕ) (up : Bool) (a : Draining) (es : List Entry) (old new : List ℕ) (res : Result (Unit {0}) PieceFault) →
      ((reply : Reply) → Tells (λ c H at. up ≡ is_base_up H n) k (Call.drain n) (Some reply) now old new res) → Tells (λ c H at. up ≡ is_base_up H n) k (Call.drain n) (draining_reply a) now old new res
  drain_says n up draining.Draining es old new res says = says Reply.draining
  drain_says n up draining.NoNode es old new res says = says Reply.no_node

  pub drain_told : (n : ℕ) (up : Bool) (a : Draining) (old new : List ℕ) (res : Result (Unit {0}) PieceFault) → up ≡ true →
      Told old new (entry k (change.Draining n now)) res → Tells (λ c H at. up ≡ is_base_up H n) k (Call.drain n) (draining_reply a) now old new res
  drain_told n up a old new res e told = drain_says n up a (entry k (change.Draining n now) ∷ []) old new res
      (λ reply. tells (λ c H at. up ≡ is_base_up H n) k (Call.drain n) (λ c H at m x. drain_made n (is_base_up H n) m) (λ c H at. laws.drain c H k at n) now reply (entry k (change.Draining n now) ∷ []) old new res
      (λ c H at know. ap (λ (b : Bool). map (entry k) (drain_made n b now)) (sym know ∙ e)) (one_told (entry k (change.Draining n now)) old new res told))

  pub drain_quiet : (n : ℕ) (up : Bool) (a : Draining) (old : List ℕ) (done : Unit {0}) → up ≡ false → Tells (λ c H at. up ≡ is_base_up H n) k (Call.drain n) (draining_reply a) now old old (Ok done)
  drain_quiet n up a old done e = drain_says n up a [] old old (Ok done)
      (λ reply. tells_none (λ c H at. up ≡ is_base_up H n) k (Call.drain n) (λ c H at m x. drain_made n (is_base_up H n) m) (λ c H at. laws.drain c H k at n) now reply old done
      (λ c H at know. ap (λ (b : Bool). map (entry k) (drain_made n b now)) (sym know ∙ e)))

  pub remove_told : (n : ℕ) (a : Removal) (old new : List ℕ) (res : Result (Unit {0}) PieceFault) → a ≡ removal.Removed →
      Told old new (entry k (change.Removed n now)) res → Tells Nothing k (Call.remove n) (removal_reply a) now old new res
  remove_told n a old new res e told = subst (λ (x : Removal). Tells Nothing k (Call.remove n) (removal_reply x) now old new res) (sym e)
      (tells Nothing k (Call.remove n) (λ c H at. remove_made n) (λ c H at. laws.remove c H k at n) now Reply.removed (entry k (change.Removed n now) ∷ []) old new res (λ c H at know. refl)
      (one_told (entry k (change.Removed n now)) old new res told))

  pub remove_quiet : (n : ℕ) (a : Removal) (old : List ℕ) (done : Unit {0}) → a ≡ removal.NoNode → Tells Nothing k (Call.remove n) (removal_reply a) now old old (Ok done)
  remove_quiet n a old done e = subst (λ (x : Removal). Tells Nothing k (Call.remove n) (removal_reply x) now old old (Ok done)) (sym e)
      (tells_none Nothing k (Call.remove n) (λ c H at. remove_made n) (λ c H at. laws.remove c H k at n) now Reply.no_node old done (λ c H at know. refl))
