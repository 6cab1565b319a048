-- What several calls leave of the journal and of what was kept.
use Rattle.std.proofs.Common.{◌≡◌, ◌⊎◌, ℕ, false, true, List, [], ◌∷◌, ◌++◌, refl, sym, ◌∙◌, ap, subst, append_assoc, inl, inr, Option, None, Some, IfSome, Result, Ok, Err, OnOk, OnErr}
use Rattle.grid_types.specs.declared.config.HubConfig.{HubConfig}
use Rattle.grid_types.specs.declared.entry.Entry.{Entry}
use Rattle.grid_types.specs.declared.entry.Change.{Change}
use Rattle.grid_types.specs.History.{BeginsWith, after}
use Rattle.grid_types.specs.Calls.{Call, Reply}
use Rattle.grid_types.specs.HubAnswers.{hub}
use Rattle.grid_types.specs.declared.text.NoMemory.{NoMemory}
use Rattle.hub_core.specs.Answers.{Answers}
use Rattle.hub_core.specs.HubView.{HubView, past, ServesLocally}
use Rattle.row_keeper.specs.Disks.{Disk, Each}
use Rattle.grid_keeper.specs.Replays.{IsImage}
use Rattle.grid_keeper.specs.Keeping.{IsOneOf, WentTold, IsOnTheWay, AlongTold, IsOpen, KeptServes, KeptFails, KeptCall, WentAlong}
use Rattle.grid_keeper.specs.declared.kept_hub.KeptHub.{KeptHub}
use Rattle.grid_keeper.specs.declared.kept_hub.KeptFault.{KeptFault}

begins_same : (H L : List Entry) → L ≡ H → BeginsWith L H
begins_same H L same = ([], sym same)

begins_on : (H L M : List Entry) → BeginsWith M L → BeginsWith L H → BeginsWith M H
begins_on H L M (newer, e) (older, f) = (newer ++ older, append_assoc newer older H ∙ ap (λ (x : List Entry). newer ++ x) f ∙ e)

after_begins : (H : List Entry) (k : ℕ) (cs : List Change) → BeginsWith (after H k cs) H
after_begins H k [] = ([], refl)
after_begins H k (c ∷ cs) =
    let e : Entry = record { caller = k; change = c } in
    begins_on H (e ∷ H) (after (e ∷ H) k cs) (after_begins (e ∷ H) k cs) (e ∷ [], refl)

answers_begin : (c : HubConfig) (H later : List Entry) (call : Call) (at : ℕ) (reply : Option Reply) → Answers c H 0 call at reply later → BeginsWith later H
answers_begin c H later call at reply (inl exact) = subst (λ (L : List Entry). BeginsWith L H) (sym exact.goes_on) (after_begins H 0 (hub c H 0 call at).changes)
answers_begin c H later call at reply (inr lack) = begins_same H later lack.stays

-- ---- disks

either_way : (c : HubConfig) (before after : List Entry) (image : List (List ℕ)) → BeginsWith after before → IsOneOf c before after image → IsOnTheWay c before after image
either_way c before after image begins (inl first) = (before, begins, begins_same before before refl, first)
either_way c before after image begins (inr last) = (after, begins_same after after refl, begins, last)

each_way : (c : HubConfig) (before after : List Entry) (images : List (List (List ℕ))) → BeginsWith after before → Each (IsOneOf c before after) images → Each (IsOnTheWay c before after) images
each_way c before after [] begins each = tt
each_way c before after (image ∷ images) begins each = (either_way c before after image begins each.0, each_way c before after images begins each.1)

disk_along : (c : HubConfig) (before after : List Entry) (old new : Option Disk) → BeginsWith after before → WentTold c before after old new → AlongTold c before after old new
disk_along c before after None new begins went = went
disk_along c before after (Some old) new begins (d, told, went) = (
  d,
  told,
  record {
    added = went.added;
    goes_on = went.goes_on;
    images = each_way c before after went.added begins went.images;
    rows = either_way c before after d.rows begins went.rows;
  },
)

way_later : (c : HubConfig) (before mid after : List Entry) (image : List (List ℕ)) → BeginsWith after mid → IsOnTheWay c before mid image → IsOnTheWay c before after image
way_later c before mid after image begins (H, first, second, is) = (H, begins_on H mid after begins first, second, is)

way_earlier : (c : HubConfig) (before mid after : List Entry) (image : List (List ℕ)) → BeginsWith mid before → IsOnTheWay c mid after image → IsOnTheWay c before after image
way_earlier c before mid after image begins (H, first, second, is) = (H, first, begins_on before mid H second begins, is)

each_both : (c : HubConfig) (before mid after : List Entry) (newer older : List (List (List ℕ))) → BeginsWith after mid → BeginsWith mid before → Each (IsOnTheWay c mid after) newer → Each (IsOnTheWay c before mid) older
    → Each (IsOnTheWay c before after) (newer ++ older)
each_both c before mid after [] [] later earlier new old = tt
each_both c before mid after [] (i ∷ older) later earlier new old = (way_later c before mid after i later old.0, each_both c before mid after [] older later earlier tt old.1)
each_both c before mid after (i ∷ newer) older later earlier new old = (way_earlier c before mid after i earlier new.0, each_both c before mid after newer older later earlier new.1 old)

told_on : (c : HubConfig) (before mid after : List Entry) (old between new : Option Disk) → BeginsWith after mid → BeginsWith mid before → AlongTold c mid after between new → AlongTold c before mid old between → AlongTold c before after old new
told_on c before mid after None between new later earlier second first = subst (λ (o : Option Disk). AlongTold c mid after o new) first second
told_on c before mid after (Some d) between new later earlier second (e, told, first) =
    on (subst (λ (o : Option Disk). AlongTold c mid after o new) told second)
  where
    on : AlongTold c mid after (Some e) new → AlongTold c before after (Some d) new
    on (f, is, then) = (
      f,
      is,
      record {
        added = then.added ++ first.added;
        goes_on = then.goes_on ∙ ap (λ (x : List (List (List ℕ))). then.added ++ x) first.goes_on ∙ sym (append_assoc then.added first.added d.past);
        images = each_both c before mid after then.added first.added later earlier then.images first.images;
        rows = way_earlier c before mid after f.rows earlier then.rows;
      },
    )

stays_told : (c : HubConfig) (H : List Entry) (disk : Option Disk) → IfSome disk (λ d. IsImage c d.rows H) → AlongTold c H H disk disk
stays_told c H None image = refl
stays_told c H (Some d) image = (
  d,
  refl,
  record {
    added = [];
    goes_on = refl;
    images = tt;
    rows = (H, begins_same H H refl, begins_same H H refl, image);
  },
)

module _ {K : Type 0} (disk : K → Option Disk) where
  -- no call
  pub along_same : (old : KeptHub K) → IsOpen disk old → WentAlong disk old old
  along_same old is_open = record {
    same_config = refl;
    begins = begins_same (past old.hub) (past old.hub) refl;
    disk_went = stays_told old.hub.config (past old.hub) (disk old.keeper) is_open.stands;
  }

  -- one call
  pub served_along : (old new : KeptHub K) (call : Call) (at : ℕ) (reply : Option Reply) → KeptServes disk old call at reply new → WentAlong disk old new
  served_along old new call at reply kept =
      let begins = answers_begin old.hub.config (past old.hub) (past new.hub) call at reply kept.serves.serves.answers in
      record {
        same_config = kept.serves.same_config;
        begins = begins;
        disk_went = disk_along old.hub.config (past old.hub) (past new.hub) (disk old.keeper) (disk new.keeper) begins kept.disk_went;
      }

  hub_begins : (old new : KeptHub K) (call : Call) (at : ℕ) → (past new.hub ≡ past old.hub) ⊎ ((reply : Option Reply) × ServesLocally old.hub call at reply new.hub) → BeginsWith (past new.hub) (past old.hub)
  hub_begins old new call at (inl same) = begins_same (past old.hub) (past new.hub) same
  hub_begins old new call at (inr (reply, serves)) = answers_begin old.hub.config (past old.hub) (past new.hub) call at reply serves.serves.answers

  pub failed_along : (old new : KeptHub K) (call : Call) (at : ℕ) → KeptFails disk old call at new → WentAlong disk old new
  failed_along old new call at fails =
      let begins = hub_begins old new call at fails.hub_went in
      record {
        same_config = fails.same_config;
        begins = begins;
        disk_went = disk_along old.hub.config (past old.hub) (past new.hub) (disk old.keeper) (disk new.keeper) begins fails.disk_went;
      }

  pub call_along : {A : Type 0} (old new : KeptHub K) (call : Call) (at : ℕ) (reply_of : A → Option Reply) (result : Result A KeptFault) → KeptCall disk old call at reply_of result new → WentAlong disk old new
  call_along old new call at reply_of (Ok a) kept = served_along old new call at (reply_of a) kept
  call_along old new call at reply_of (Err fault) fails = failed_along old new call at fails

  -- one behind the other
  pub along_on : (old mid new : KeptHub K) → WentAlong disk mid new → WentAlong disk old mid → WentAlong disk old new
  along_on old mid new second first = record {
    same_config = second.same_config ∙ first.same_config;
    begins = begins_on (past old.hub) (past mid.hub) (past new.hub) second.begins first.begins;
    disk_went = told_on old.hub.config (past old.hub) (past mid.hub) (past new.hub) (disk old.keeper) (disk mid.keeper) (disk new.keeper) second.begins first.begins
        (subst (λ (c : HubConfig). AlongTold c (past mid.hub) (past new.hub) (disk mid.keeper) (disk new.keeper)) first.same_config second.disk_went) first.disk_went;
  }

  -- room was made
  pub roomy_along : (old new : KeptHub K) → IsOpen disk old → past new.hub ≡ past old.hub → new.hub.config ≡ old.hub.config → new.keeper ≡ old.keeper → WentAlong disk old new
  roomy_along old new is_open same config keeper = record {
    same_config = config;
    begins = begins_same (past old.hub) (past new.hub) same;
    disk_went = subst (λ (H : List Entry). AlongTold old.hub.config (past old.hub) H (disk old.keeper) (disk new.keeper)) (sym same)
        (subst (λ (k : K). AlongTold old.hub.config (past old.hub) (past old.hub) (disk old.keeper) (disk k)) (sym keeper) (stays_told old.hub.config (past old.hub) (disk old.keeper) is_open.stands));
  }

  -- closed, with nothing else changed
  pub closed_along : (old new : KeptHub K) → IsOpen disk old → new.hub ≡ old.hub → new.keeper ≡ old.keeper → WentAlong disk old new
  closed_along old new is_open same keeper = roomy_along old new is_open (ap past same) (ap (λ (h : HubView). h.config) same) keeper

  -- what is known where a call was answered, and where it was not
  pub ok_served : (old new : KeptHub K) (call : Call) (at : ℕ) (reply : Option Reply) (result : Result (Unit {0}) KeptFault) → KeptCall disk old call at (λ u. reply) result new → OnOk result (KeptServes disk old call at reply new)
  ok_served old new call at reply (Ok u) kept = kept
  ok_served old new call at reply (Err fault) kept = tt

  pub err_closed : {A : Type 0} (old new : KeptHub K) (call : Call) (at : ℕ) (reply_of : A → Option Reply) (result : Result A KeptFault) → KeptCall disk old call at reply_of result new → OnErr result (new.is_open ≡ false)
  err_closed old new call at reply_of (Ok a) kept = tt
  err_closed old new call at reply_of (Err fault) fails = fails.closed

  pub was_closed : {A : Type 0} (old new : KeptHub K) (call : Call) (at : ℕ) (reply_of : A → Option Reply) (result : Result A KeptFault) (fault : KeptFault) → KeptCall disk old call at reply_of result new → result ≡ Err fault → new.is_open ≡ false
  was_closed {A} old new call at reply_of result fault kept is = (subst (λ (o : Result A KeptFault). KeptCall disk old call at reply_of o new) is kept).closed

  -- room was made, or there was no memory for it
  pub room_along : (old new : KeptHub K) (result : Result (Unit {0}) NoMemory) → IsOpen disk old → OnOk result (new.hub ≡ record old.hub { room = true }) → OnErr result (new.hub ≡ old.hub) → new.keeper ≡ old.keeper → WentAlong disk old new
  room_along old new (Ok u) is_open made same keeper = roomy_along old new is_open (ap past made) (ap (λ (h : HubView). h.config) made) keeper
  room_along old new (Err e) is_open made same keeper = closed_along old new is_open same keeper

  pub room_past : (old new : KeptHub K) (result : Result (Unit {0}) NoMemory) → OnOk result (new.hub ≡ record old.hub { room = true }) → OnErr result (new.hub ≡ old.hub) → past new.hub ≡ past old.hub
  room_past old new (Ok u) made same = ap past made
  room_past old new (Err e) made same = ap past same
