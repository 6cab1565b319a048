-- What is kept of a call, and what its images are.
use Rattle.std.proofs.Common.{◌≡◌, ◌⊎◌, ℕ, max, ◌+◌, ◌≤◌, ◌<◌, Bool, true, false, List, [], ◌∷◌, ◌++◌, reverse, length, refl, sym, ◌∙◌, ap, subst, arith, append_assoc, inl, inr, Option, None, Some, Result, Ok, Err, IfSome, IsErr, nat_lt, nat_le, ◌&&◌}
use Rattle.std.proofs.lemmas.List.{reverse-append, length-reverse}
use Rattle.grid_types.specs.declared.config.HubConfig.{HubConfig}
use Rattle.grid_types.specs.declared.entry.Entry.{Entry}
use Rattle.grid_types.specs.declared.entry.Change.{Change}
use Rattle.grid_types.specs.declared.capabilities.Cap.{Cap}
use Rattle.grid_types.specs.declared.limits.TheConstants.{MOST_CHOICES}
use Rattle.grid_journal.specs.Fits.{Within}
use Rattle.grid_types.specs.declared.names.Moment.{Moment}
use Rattle.grid_types.specs.Nodes.{is_registered, registration_of}
use Rattle.grid_types.specs.Permitted.{has_name, is_named}
use Rattle.grid_types.specs.History.{after, clock}
use Rattle.grid_types.specs.Calls.{Call, Reply}
use Rattle.grid_types.specs.HubAnswers.{hub, after_call, beaten}
use Rattle.grid_types.specs.Legal.{legal}
use Rattle.grid_types.specs.Safe.{IsSafe}
use Rattle.hub_core.specs.Answers.{Answers, may_lack}
use Rattle.hub_core.specs.Serves.{MayCall}
use Rattle.hub_core.specs.HubView.{HubView, past, ServesLocally}
use Rattle.grid_journal.specs.declared.rows.Row.{Row}
use Rattle.grid_journal.specs.declared.rows.Row.TheVariants as row
use Rattle.grid_journal.specs.RowSpelled.{row_bytes, RowFits}
use Rattle.row_keeper.specs.Disks.{Disk, Each, IsEither, Keeps, KeepsTold, HasKept}
use Rattle.grid_keeper.specs.Replays.{Names, row_moment, Goes, Replays, IsImage}
use Rattle.grid_keeper.specs.Keeping.{StandsOn, IsOneOf, DiskWent, WentTold, IsOpen, KeptServes, KeptFails, KeptCall, KeptOrNot, Finishes}
use Rattle.grid_keeper.specs.declared.kept_hub.KeptHub.{KeptHub}
use Rattle.grid_keeper.specs.declared.kept_hub.KeptFault.{KeptFault}

-- ---- entries of a call

pub longer : (H : List Entry) (k : ℕ) (cs : List Change) → length H ≤ length (after H k cs)
longer H k [] = omega arith
longer H k (c ∷ cs) = omega (arith, longer (record { caller = k; change = c } ∷ H) k cs)

same_where_no_longer : (H : List Entry) (k : ℕ) (cs : List Change) → length (after H k cs) ≤ length H → after H k cs ≡ H
same_where_no_longer H k [] short = refl
same_where_no_longer H k (c ∷ cs) short = absurd (omega (arith, short, longer (record { caller = k; change = c } ∷ H) k cs))

-- a call that made no entry has left the history
no_entry : (c : HubConfig) (H later : List Entry) (call : Call) (at : ℕ) (reply : Option Reply) → Answers c H 0 call at reply later → length later ≤ length H → later ≡ H
no_entry c H later call at reply (inl exact) short =
    exact.goes_on ∙ same_where_no_longer H 0 ((hub c H 0 call at).changes) (subst (λ (l : List Entry). length l ≤ length H) exact.goes_on short)
no_entry c H later call at reply (inr lack) short = lack.stays

-- a call that made one goes on as its row says
pub goes_by : (c : HubConfig) (H later : List Entry) (r : Row) (call : Call) (reply : Option Reply) → Answers c H 0 call (row_moment r) reply later → length H < length later
    → RowFits r → Names H r call → MayCall H 0 call → Goes c H r later
goes_by c H later r call reply (inl exact) more fits named may = record { fits = fits; call = call; named = named; may = may; goes_on = exact.goes_on; makes = more }
goes_by c H later r call reply (inr lack) more fits named may = absurd (omega (arith, more, ap length lack.stays))

-- a beat that tells the node's name goes on as one that does not
first_true : (a b : Bool) → (a && b) ≡ true → a ≡ true
first_true true b e = refl
first_true false b e = absurd (cc e)

named_beat : (H : List Entry) (node : ℕ) (name : List ℕ) (now : ℕ) (named registered : Bool) → is_named H name node ≡ named → is_registered H node ≡ registered
    → length H < length (after H 0 (beaten H node (Some name) now).changes) → after H 0 (beaten H node (Some name) now).changes ≡ after H 0 (beaten H node None now).changes
named_beat H node name now true true e f more = rw (e, f) refl
named_beat H node name now true false e f more = absurd (cc (first_true (is_registered H node) (has_name name (registration_of H node)) e ∙ refl))
named_beat H node name now false registered e f more = absurd (short (rw e at more))
  where
    short : length H < length H → ⊥
    short m = omega (arith, m)

beats_alike : (c : HubConfig) (H : List Entry) (node : ℕ) (name : List ℕ) (at : ℕ) → length H < length (after_call c H 0 (Call.beat node (Some name)) at) → after_call c H 0 (Call.beat node (Some name)) at ≡ after_call c H 0 (Call.beat node None) at
unfolding hub
beats_alike c H node name at more = named_beat H node name (max at (clock H)) (is_named H name node) (is_registered H node) refl refl more

pub beat_goes : (c : HubConfig) (H later : List Entry) (node : ℕ) (name : List ℕ) (at : Moment) (reply : Option Reply) → Answers c H 0 (Call.beat node (Some name)) at.0 reply later → RowFits (row.Beat node at)
    → length H < length later → Goes c H (row.Beat node at) later
beat_goes c H later node name at reply (inr lack) fits more = absurd (omega (arith, more, ap length lack.stays))
beat_goes c H later node name at reply (inl exact) fits more = record {
  fits = fits;
  call = Call.beat node None;
  named = refl;
  may = record { is_good = refl; is_true = tt };
  goes_on = exact.goes_on ∙ beats_alike c H node name at.0 (subst (λ (l : List Entry). length H < length l) exact.goes_on more);
  makes = more;
}

-- ---- images

-- the rows with one more are those of the later history
pub grown : (c : HubConfig) (H later : List Entry) (r : Row) (rows : List (List ℕ)) (row : List ℕ) → IsImage c rows H → row ≡ row_bytes r → Goes c H r later → IsImage c (rows ++ row ∷ []) later
grown c H later r rows row image is goes = record {
  rows = r ∷ image.rows;
  spelled = reverse-append rows (row ∷ []) ∙ ap (λ (b : List ℕ). b ∷ reverse rows) is ∙ ap (λ (bs : List (List ℕ)). row_bytes r ∷ bs) image.spelled;
  replays = Replays.one_more r image.rows H later image.replays goes;
}

one_of : (c : HubConfig) (H later : List Entry) (r : Row) (rows : List (List ℕ)) (row : List ℕ) (found : List (List ℕ)) → IsImage c rows H → row ≡ row_bytes r → Goes c H r later → IsEither rows row found
    → IsOneOf c H later found
one_of c H later r rows row found image is goes (inl same) = inl (subst (λ (i : List (List ℕ)). IsImage c i H) (sym same) image)
one_of c H later r rows row found image is goes (inr more) = inr (subst (λ (i : List (List ℕ)). IsImage c i later) (sym more) (grown c H later r rows row image is goes))

each_with : (P Q : List (List ℕ) → Type 0) (images : List (List (List ℕ))) (last : List (List ℕ)) → ((i : List (List ℕ)) → P i → Q i) → Each P images → Q last → Each Q (images ++ last ∷ [])
each_with P Q [] last step each holds = (holds, tt)
each_with P Q (i ∷ is) last step each holds = (step i each.0, each_with P Q is last step each.1 holds)

disk_went : (c : HubConfig) (H later : List Entry) (r : Row) (row : List ℕ) (old new : Disk) → IsImage c old.rows H → row ≡ row_bytes r → Goes c H r later → Keeps row old new → DiskWent c H later old new
disk_went c H later r row old new image is goes (inl same) = record {
  added = [];
  goes_on = ap (λ (d : Disk). d.past) same;
  images = tt;
  rows = inl (subst (λ (d : Disk). IsImage c d.rows H) (sym same) image);
}
disk_went c H later r row old new image is goes (inr moved) = record {
  added = moved.between ++ old.rows ∷ [];
  goes_on = moved.goes_on ∙ sym (append_assoc moved.between (old.rows ∷ []) old.past);
  images = each_with (IsEither old.rows row) (IsOneOf c H later) moved.between old.rows (λ i either. one_of c H later r old.rows row i image is goes either) moved.each (inl image);
  rows = one_of c H later r old.rows row new.rows image is goes moved.leaves;
}

-- where it is told
pub went_told : (c : HubConfig) (H later : List Entry) (r : Row) (row : List ℕ) (old new : Option Disk) → IfSome old (λ d. IsImage c d.rows H) → row ≡ row_bytes r → Goes c H r later → KeepsTold row old new
    → WentTold c H later old new
went_told c H later r row None new image is goes keeps = keeps
went_told c H later r row (Some d) new image is goes (e, told, keeps) = (e, told, disk_went c H later r row d e image is goes keeps)

pub stands_told : (c : HubConfig) (H later : List Entry) (r : Row) (row : List ℕ) (old new : Option Disk) → IfSome old (λ d. IsImage c d.rows H) → row ≡ row_bytes r → Goes c H r later → KeepsTold row old new
    → HasKept row old new → IfSome new (λ d. IsImage c d.rows later)
stands_told c H later r row None new image is goes keeps kept = subst (λ (o : Option Disk). IfSome o (λ d. IsImage c d.rows later)) (sym keeps) tt
stands_told c H later r row (Some d) new image is goes (e, told, keeps) kept =
    let there : e.rows ≡ d.rows ++ row ∷ [] = subst (λ (o : Option Disk). IfSome o (λ a. a.rows ≡ d.rows ++ row ∷ [])) told kept in
    subst (λ (o : Option Disk). IfSome o (λ a. IsImage c a.rows later)) (sym told)
    (subst (λ (i : List (List ℕ)). IsImage c i later) (sym there) (grown c H later r d.rows row image is goes))

-- nothing was kept
pub went_not : (c : HubConfig) (H later : List Entry) (old : Option Disk) → IfSome old (λ d. IsImage c d.rows H) → WentTold c H later old old
went_not c H later None image = refl
went_not c H later (Some d) image = (d, refl, record { added = []; goes_on = refl; images = tt; rows = inl image })

-- ---- calls

-- as many choices as a row can tell are as many as the hub takes
pub may_enqueue : (H : List Entry) (choices : List (List Cap)) → Within 1 MOST_CHOICES (length choices) → MayCall H 0 (Call.enqueue choices)
may_enqueue H choices within = record { is_good = both_true (nat_le 1 (length choices)) (nat_le (length choices) MOST_CHOICES) (at_most 1 (length choices) within.0) (at_most (length choices) MOST_CHOICES within.1); is_true = tt }
  where
    at_most : (m n : ℕ) → m ≤ n → nat_le m n ≡ true
    at_most m n h = grind (arith, h)

    both_true : (a b : Bool) → a ≡ true → b ≡ true → (a && b) ≡ true
    both_true a b x y = cc

module _ {K : Type 0} (disk : K → Option Disk) where
  -- the hub is closed before the call is made
  pub refused : (old new : KeptHub K) (call : Call) (at : ℕ) → IsOpen disk old → new.hub ≡ old.hub → new.keeper ≡ old.keeper → new.is_open ≡ false → KeptFails disk old call at new
  refused old new call at open_old same_hub same_keeper closed = record {
    closed = closed;
    same_config = ap (λ (h : HubView). h.config) same_hub;
    hub_went = inl (ap past same_hub);
    disk_went = subst (λ (o : Option Disk). WentTold old.hub.config (past old.hub) (past new.hub) (disk old.keeper) o) (ap disk (sym same_keeper))
        (went_not old.hub.config (past old.hub) (past new.hub) (disk old.keeper) open_old.stands);
  }

  -- what stands between: the hub has made the call, and nothing else is changed
  pub record Makes (old : KeptHub K) (call : Call) (r : Row) (row : List ℕ) (reply : Option Reply) (mid : KeptHub K) : Type 0 where
    pub open_old : IsOpen disk old
    pub is : row ≡ row_bytes r
    pub fits : RowFits r
    pub named : Names (past old.hub) r call
    pub may : MayCall (past old.hub) 0 call
    pub serves : ServesLocally old.hub call (row_moment r) reply mid.hub
    pub same_keeper : mid.keeper ≡ old.keeper
    pub same_open : mid.is_open ≡ old.is_open

  past_long : (h : HubView) → length (past h) ≡ length h.journal
  past_long h = length-reverse h.journal

  -- the same, where the row's call may be another one that leads to the same history
  pub record Done (old : KeptHub K) (call : Call) (r : Row) (row : List ℕ) (reply : Option Reply) (mid : KeptHub K) : Type 0 where
    pub open_old : IsOpen disk old
    pub is : row ≡ row_bytes r
    pub goes : length (past old.hub) < length (past mid.hub) → Goes old.hub.config (past old.hub) r (past mid.hub)
    pub serves : ServesLocally old.hub call (row_moment r) reply mid.hub
    pub same_keeper : mid.keeper ≡ old.keeper
    pub same_open : mid.is_open ≡ old.is_open

  done_of : (old mid : KeptHub K) (call : Call) (r : Row) (row : List ℕ) (reply : Option Reply) → Makes old call r row reply mid → Done old call r row reply mid
  done_of old mid call r row reply makes = record {
    open_old = makes.open_old;
    is = makes.is;
    goes = λ more. goes_by old.hub.config (past old.hub) (past mid.hub) r call reply makes.serves.serves.answers more makes.fits makes.named makes.may;
    serves = makes.serves;
    same_keeper = makes.same_keeper;
    same_open = makes.same_open;
  }

  goes_of : (old mid : KeptHub K) (call : Call) (r : Row) (row : List ℕ) (reply : Option Reply) → Done old call r row reply mid → length old.hub.journal < length mid.hub.journal
      → Goes old.hub.config (past old.hub) r (past mid.hub)
  goes_of old mid call r row reply makes more = makes.goes (omega (arith, more, past_long old.hub, past_long mid.hub))

  quiet_past : (old mid : KeptHub K) (call : Call) (r : Row) (row : List ℕ) (reply : Option Reply) → Done old call r row reply mid → length mid.hub.journal ≤ length old.hub.journal → past mid.hub ≡ past old.hub
  quiet_past old mid call r row reply makes short =
      no_entry old.hub.config (past old.hub) (past mid.hub) call (row_moment r) reply makes.serves.serves.answers (omega (arith, short, past_long old.hub, past_long mid.hub))

  by_length : (old mid : KeptHub K) → (length mid.hub.journal ≤ length old.hub.journal) ⊎ (length old.hub.journal < length mid.hub.journal)
  by_length old mid = below (length old.hub.journal) (length mid.hub.journal) (nat_lt (length old.hub.journal) (length mid.hub.journal)) refl
    where
      below : (m n : ℕ) (t : Bool) → nat_lt m n ≡ t → (n ≤ m) ⊎ (m < n)
      below m n true e = inr (grind (arith, e))
      below m n false e = inl (grind (arith, e))

  went_by : (old mid new : KeptHub K) (call : Call) (r : Row) (row : List ℕ) (reply : Option Reply) (result : Result (Unit {0}) KeptFault) → Done old call r row reply mid
      → Finishes disk mid (length old.hub.journal) row result new → (length mid.hub.journal ≤ length old.hub.journal) ⊎ (length old.hub.journal < length mid.hub.journal)
      → WentTold old.hub.config (past old.hub) (past mid.hub) (disk old.keeper) (disk new.keeper)
  went_by old mid new call r row reply result makes finishes (inl short) =
      let same : new.keeper ≡ old.keeper = (finishes.quiet short).0 ∙ makes.same_keeper in
      subst (λ (k : K). WentTold old.hub.config (past old.hub) (past mid.hub) (disk old.keeper) (disk k)) (sym same)
      (went_not old.hub.config (past old.hub) (past mid.hub) (disk old.keeper) makes.open_old.stands)
  went_by old mid new call r row reply result makes finishes (inr more) =
      went_told old.hub.config (past old.hub) (past mid.hub) r row (disk old.keeper) (disk new.keeper) makes.open_old.stands makes.is (goes_of old mid call r row reply makes more)
      (subst (λ (k : K). KeepsTold row (disk k) (disk new.keeper)) makes.same_keeper (finishes.went more))

  stands_by : (old mid new : KeptHub K) (call : Call) (r : Row) (row : List ℕ) (reply : Option Reply) (u : Unit {0}) → Done old call r row reply mid
      → Finishes disk mid (length old.hub.journal) row (Ok u) new → (length mid.hub.journal ≤ length old.hub.journal) ⊎ (length old.hub.journal < length mid.hub.journal)
      → IfSome (disk new.keeper) (λ d. IsImage old.hub.config d.rows (past mid.hub))
  stands_by old mid new call r row reply u makes finishes (inl short) =
      let same : new.keeper ≡ old.keeper = (finishes.quiet short).0 ∙ makes.same_keeper in
      subst (λ (k : K). IfSome (disk k) (λ d. IsImage old.hub.config d.rows (past mid.hub))) (sym same)
      (subst (λ (H : List Entry). IfSome (disk old.keeper) (λ d. IsImage old.hub.config d.rows H)) (sym (quiet_past old mid call r row reply makes short)) makes.open_old.stands)
  stands_by old mid new call r row reply u makes finishes (inr more) =
      stands_told old.hub.config (past old.hub) (past mid.hub) r row (disk old.keeper) (disk new.keeper) makes.open_old.stands makes.is (goes_of old mid call r row reply makes more)
      (subst (λ (k : K). KeepsTold row (disk k) (disk new.keeper)) makes.same_keeper (finishes.went more))
      (subst (λ (k : K). HasKept row (disk k) (disk new.keeper)) makes.same_keeper (finishes.kept more))

  finishes_at : (mid new : KeptHub K) (before other : ℕ) (row : List ℕ) (result : Result (Unit {0}) KeptFault) → before ≡ other → Finishes disk mid before row result new → Finishes disk mid other row result new
  finishes_at mid new before other row result same finishes = subst (λ (n : ℕ). Finishes disk mid n row result new) same finishes

  served_ok : (old mid new : KeptHub K) (call : Call) (r : Row) (row : List ℕ) (reply : Option Reply) (u : Unit {0}) → Done old call r row reply mid
      → Finishes disk mid (length old.hub.journal) row (Ok u) new → KeptServes disk old call (row_moment r) reply new
  served_ok old mid new call r row reply u makes finishes =
      let split = by_length old mid in
      let same = sym finishes.same_hub in
      record {
        serves = subst (λ (h : HubView). ServesLocally old.hub call (row_moment r) reply h) same makes.serves;
        stays_open = record {
          open_now = finishes.still_open ∙ makes.same_open ∙ makes.open_old.open_now;
          stands = subst (λ (h : HubView). StandsOn h (disk new.keeper)) same
              (subst (λ (c : HubConfig). IfSome (disk new.keeper) (λ d. IsImage c d.rows (past mid.hub))) (sym makes.serves.same_config) (stands_by old mid new call r row reply u makes finishes split));
        };
        disk_went = subst (λ (h : HubView). WentTold old.hub.config (past old.hub) (past h) (disk old.keeper) (disk new.keeper)) same (went_by old mid new call r row reply (Ok u) makes finishes split);
      }

  failed_err : (old mid new : KeptHub K) (call : Call) (r : Row) (row : List ℕ) (reply : Option Reply) (fault : KeptFault) → Done old call r row reply mid
      → Finishes disk mid (length old.hub.journal) row (Err fault) new → KeptFails disk old call (row_moment r) new
  failed_err old mid new call r row reply fault makes finishes =
      let same = sym finishes.same_hub in
      record {
        closed = finishes.closed;
        same_config = ap (λ (h : HubView). h.config) finishes.same_hub ∙ makes.serves.same_config;
        hub_went = inr (reply, subst (λ (h : HubView). ServesLocally old.hub call (row_moment r) reply h) same makes.serves);
        disk_went = subst (λ (h : HubView). WentTold old.hub.config (past old.hub) (past h) (disk old.keeper) (disk new.keeper)) same (went_by old mid new call r row reply (Err fault) makes finishes (by_length old mid));
      }

  -- the answer is handed on
  pub served_as : (old mid new : KeptHub K) (call : Call) (r : Row) (row : List ℕ) (reply : Option Reply) (before : ℕ) (result : Result (Unit {0}) KeptFault) (u : Unit {0}) → Done old call r row reply mid
      → before ≡ length old.hub.journal → Finishes disk mid before row result new → result ≡ Ok u → KeptServes disk old call (row_moment r) reply new
  served_as old mid new call r row reply before result u makes same finishes ok =
      served_ok old mid new call r row reply u makes
      (subst (λ (o : Result (Unit {0}) KeptFault). Finishes disk mid (length old.hub.journal) row o new) ok (finishes_at mid new before (length old.hub.journal) row result same finishes))

  as_err : {A : Type 0} (old new : KeptHub K) (call : Call) (at : ℕ) (reply_of : A → Option Reply) (answer : Result A KeptFault) → IsErr answer → KeptFails disk old call at new → KeptCall disk old call at reply_of answer new
  as_err old new call at reply_of (Ok a) is fails = absurd (cc is)
  as_err old new call at reply_of (Err fault) is fails = fails

  -- it is not
  pub failed_as : {A : Type 0} (old mid new : KeptHub K) (call : Call) (r : Row) (row : List ℕ) (reply : Option Reply) (before : ℕ) (result : Result (Unit {0}) KeptFault) (fault : KeptFault)
      (reply_of : A → Option Reply) (answer : Result A KeptFault) → Done old call r row reply mid
      → before ≡ length old.hub.journal → Finishes disk mid before row result new → result ≡ Err fault → IsErr answer → KeptCall disk old call (row_moment r) reply_of answer new
  failed_as old mid new call r row reply before result fault reply_of answer makes same finishes err is =
      as_err old new call (row_moment r) reply_of answer is
      (failed_err old mid new call r row reply fault makes
      (subst (λ (o : Result (Unit {0}) KeptFault). Finishes disk mid (length old.hub.journal) row o new) err (finishes_at mid new before (length old.hub.journal) row result same finishes)))

  -- either, where the call has no answer
  ended_as : (old mid new : KeptHub K) (call : Call) (r : Row) (row : List ℕ) (reply : Option Reply) (before : ℕ) (result : Result (Unit {0}) KeptFault) → Done old call r row reply mid
      → before ≡ length old.hub.journal → Finishes disk mid before row result new → KeptCall disk old call (row_moment r) (λ u. reply) result new
  ended_as old mid new call r row reply before (Ok u) makes same finishes = served_ok old mid new call r row reply u makes (finishes_at mid new before (length old.hub.journal) row (Ok u) same finishes)
  ended_as old mid new call r row reply before (Err fault) makes same finishes = failed_err old mid new call r row reply fault makes (finishes_at mid new before (length old.hub.journal) row (Err fault) same finishes)

  -- the same where the row names the call itself
  pub served : (old mid new : KeptHub K) (call : Call) (r : Row) (row : List ℕ) (reply : Option Reply) (before : ℕ) (result : Result (Unit {0}) KeptFault) (u : Unit {0}) → Makes old call r row reply mid
      → before ≡ length old.hub.journal → Finishes disk mid before row result new → result ≡ Ok u → KeptServes disk old call (row_moment r) reply new
  served old mid new call r row reply before result u makes same finishes ok = served_as old mid new call r row reply before result u (done_of old mid call r row reply makes) same finishes ok

  pub failed : {A : Type 0} (old mid new : KeptHub K) (call : Call) (r : Row) (row : List ℕ) (reply : Option Reply) (before : ℕ) (result : Result (Unit {0}) KeptFault) (fault : KeptFault)
      (reply_of : A → Option Reply) (answer : Result A KeptFault) → Makes old call r row reply mid
      → before ≡ length old.hub.journal → Finishes disk mid before row result new → result ≡ Err fault → IsErr answer → KeptCall disk old call (row_moment r) reply_of answer new
  failed old mid new call r row reply before result fault reply_of answer makes same finishes err is =
      failed_as old mid new call r row reply before result fault reply_of answer (done_of old mid call r row reply makes) same finishes err is

  pub ended : (old mid new : KeptHub K) (call : Call) (r : Row) (row : List ℕ) (reply : Option Reply) (before : ℕ) (result : Result (Unit {0}) KeptFault) → Makes old call r row reply mid
      → before ≡ length old.hub.journal → Finishes disk mid before row result new → KeptCall disk old call (row_moment r) (λ u. reply) result new
  ended old mid new call r row reply before result makes same finishes = ended_as old mid new call r row reply before result (done_of old mid call r row reply makes) same finishes

  -- for want of memory the call is not made, as the hub itself may answer
  pub lacks : (old : KeptHub K) (call : Call) (at : ℕ) → IsOpen disk old → legal old.hub.config (past old.hub) ≡ true → IsSafe (past old.hub)
      → may_lack call (hub old.hub.config (past old.hub) 0 call at).reply ≡ true → KeptServes disk old call at None old
  lacks old call at is_open is_legal is_safe may = record {
    serves = record {
      serves = record {
        answers = inr (record { silent = refl; stays = refl; may = may });
        is_legal = is_legal;
        is_safe = is_safe;
        gives = tt;
        keeps_tickets = λ k r good apart. (good, refl);
        keeps_reservations = λ k r s good apart. (good, refl);
        keeps_closings = λ k s good apart. good;
      };
      same_config = refl;
      same_room = λ e. refl;
    };
    stays_open = is_open;
    disk_went = went_not old.hub.config (past old.hub) (past old.hub) (disk old.keeper) is_open.stands;
  }

  -- the answer of a call whose row may find no memory
  pub as_made : {A : Type 0} (old new : KeptHub K) (call : Call) (at : ℕ) (reply_of : A → Option Reply) (answer : Result A KeptFault) → KeptCall disk old call at reply_of answer new
      → KeptOrNot disk old call at reply_of answer new
  as_made old new call at reply_of (Ok a) kept = inl kept
  as_made old new call at reply_of (Err fault) kept = kept
