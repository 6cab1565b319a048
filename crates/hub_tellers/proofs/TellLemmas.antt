-- From what a call made to what is told of it.
use Rattle.std.proofs.Common.{◌≡◌, ℕ, max, List, [], ◌∷◌, ◌++◌, sym, ap, ◌∙◌, subst, append_assoc, append-nil, Result, Ok, Err}
use Rattle.std.specs.Prelude.{None, Some, map}
use Rattle.grid_types.specs.declared.config.HubConfig.{HubConfig}
use Rattle.grid_types.specs.declared.entry.Entry.{Entry}
use Rattle.grid_types.specs.declared.entry.Change.{Change}
use Rattle.grid_types.specs.declared.names.Moment.{Moment}
use Rattle.grid_types.specs.History.{clock}
use Rattle.grid_types.specs.Tables.{entry}
use Rattle.grid_types.specs.Calls.{Call, Reply}
use Rattle.grid_types.specs.HubAnswers.{hub, moment}
use Rattle.grid_journal.specs.declared.piece.PieceFault.{PieceFault}
use Rattle.grid_journal.specs.declared.piece.PieceFault.TheVariants as fault
use Rattle.grid_journal.specs.Spelled.{entry_bytes}
use Rattle.grid_journal.specs.Pieces.{Told}
use Rattle.reply_laws.specs.Made.{Makes}
use Rattle.hub_tellers.specs.Tells.{Answered, Tells, ToldAll, entered}

pub nothing_told : (old : List ℕ) (done : Unit {0}) → ToldAll old old [] (Ok done)
nothing_told old done = (sym (append-nil old), tt)

pub one_told : (e : Entry) (old new : List ℕ) (r : Result (Unit {0}) PieceFault) → Told old new e r → ToldAll old new (e ∷ []) r
one_told e old new (Ok done) told = (told.0 ∙ ap (λ (l : List ℕ). old ++ l) (sym (append-nil (entry_bytes e))), (told.1, tt))
one_told e old new (Err fault.Memory) told = told
one_told e old new (Err fault.Unreadable) told = (told.0, λ all. told.1 all.0)

pub two_told : (e f : Entry) (old mid new : List ℕ) (done : Unit {0}) (r : Result (Unit {0}) PieceFault) → Told old mid e (Ok done) → Told mid new f r → ToldAll old new (e ∷ f ∷ []) r
two_told e f old mid new done (Ok also) first second = (
  second.0 ∙ (ap (λ (l : List ℕ). l ++ entry_bytes f) first.0 ∙ (append_assoc old (entry_bytes e) (entry_bytes f)
      ∙ ap (λ (l : List ℕ). old ++ (entry_bytes e ++ l)) (sym (append-nil (entry_bytes f))))),
  (first.1, (second.1, tt)),
)
two_told e f old mid new done (Err fault.Memory) first second = second
two_told e f old mid new done (Err fault.Unreadable) first second = (second.0, λ all. second.1 all.1.0)

-- the first one was not told
pub first_untold : (e : Entry) (es : List Entry) (old new : List ℕ) (f : PieceFault) → Told old new e (Err f) → ToldAll old new (e ∷ es) (Err f)
first_untold e es old new fault.Memory told = told
first_untold e es old new fault.Unreadable told = (told.0, λ all. told.1 all.0)

module _ (c : HubConfig) (H : List Entry) (k : ℕ) (call : Call) (at : ℕ) (made : Moment → Reply → List Change) (makes : Makes c H k call at made) (now : Moment) where
  -- what a call entered that was answered so
  pub entered_is : (reply : Reply) → Answered c H k call at (Some reply) now → entered c H k call at (Some reply) ≡ map (entry k) (made now reply)
  entered_is reply answered =
      let m : now ≡ moment (max at (clock H)) = answered.moment_is in
      let r : reply ≡ (hub c H k call at).reply = answered.replies in
      let is : made now reply ≡ made (moment (max at (clock H))) (hub c H k call at).reply = cc (m, r) in
      ap (λ (l : List Change). map (entry k) l) (makes ∙ sym is)

  pub told_as : (reply : Reply) (old new : List ℕ) (r : Result (Unit {0}) PieceFault) → Answered c H k call at (Some reply) now → ToldAll old new (map (entry k) (made now reply)) r
      → ToldAll old new (entered c H k call at (Some reply)) r
  told_as reply old new r answered told = subst (λ (l : List Entry). ToldAll old new l r) (sym (entered_is reply answered)) told

  -- one entry, or none
  pub told_one : (reply : Reply) (change : Change) (old new : List ℕ) (r : Result (Unit {0}) PieceFault) → Answered c H k call at (Some reply) now → made now reply ≡ change ∷ []
      → Told old new (entry k change) r → ToldAll old new (entered c H k call at (Some reply)) r
  told_one reply change old new r answered is told =
      told_as reply old new r answered (subst (λ (l : List Change). ToldAll old new (map (entry k) l) r) (sym is) (one_told (entry k change) old new r told))

  pub told_none : (reply : Reply) (old : List ℕ) (done : Unit {0}) → Answered c H k call at (Some reply) now → made now reply ≡ [] → ToldAll old old (entered c H k call at (Some reply)) (Ok done)
  told_none reply old done answered is = told_as reply old old (Ok done) answered (subst (λ (l : List Change). ToldAll old old (map (entry k) l) (Ok done)) (sym is) (nothing_told old done))

  -- a call that found no memory
  pub told_lack : (old : List ℕ) (done : Unit {0}) → ToldAll old old (entered c H k call at None) (Ok done)
  told_lack old done = nothing_told old done

-- a promise for each history of which this is known, by which changes a call makes there
module _ (known : HubConfig → List Entry → ℕ → Type 0) (k : ℕ) (call : Call) (made : HubConfig → List Entry → ℕ → Moment → Reply → List Change)
    (makes : (c : HubConfig) (H : List Entry) (at : ℕ) → Makes c H k call at (made c H at)) (now : Moment) where
  -- the reply tells the entries, and they were told
  pub tells : (reply : Reply) (es : List Entry) (old new : List ℕ) (r : Result (Unit {0}) PieceFault) →
      ((c : HubConfig) (H : List Entry) (at : ℕ) → known c H at → map (entry k) (made c H at now reply) ≡ es) → ToldAll old new es r → Tells known k call (Some reply) now old new r
  tells reply es old new r is told = λ c H at know answered.
      told_as c H k call at (made c H at) (makes c H at) now reply old new r answered (subst (λ (l : List Entry). ToldAll old new l r) (sym (is c H at know)) told)

  -- the reply tells none
  pub tells_none : (reply : Reply) (old : List ℕ) (done : Unit {0}) →
      ((c : HubConfig) (H : List Entry) (at : ℕ) → known c H at → map (entry k) (made c H at now reply) ≡ []) → Tells known k call (Some reply) now old old (Ok done)
  tells_none reply old done is = tells reply [] old old (Ok done) is (nothing_told old done)

-- a call that found no memory
pub tells_lack : (known : HubConfig → List Entry → ℕ → Type 0) (k : ℕ) (call : Call) (now : Moment) (old : List ℕ) (done : Unit {0}) → Tells known k call None now old old (Ok done)
tells_lack known k call now old done = λ c H at know answered. nothing_told old done
