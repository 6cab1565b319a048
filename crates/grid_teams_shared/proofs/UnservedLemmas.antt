-- Connections that no hub serves.
use Rattle.std.proofs.Common.{◌≡◌, ◌≢◌, ℕ, ◌<◌, ◌≤◌, inl, true, false, List, [], ◌∷◌, ◌++◌, length, drop, refl, sym, ap, ◌∙◌, subst, arith, take-append-drop}
use Rattle.std.specs.Prelude.{Option, None, Result, Ok, Err}
use Rattle.httparse.specs.Grammar.{RequestHead}
use Rattle.http_frames.specs.declared.FrameFault.{FrameFault}
use Rattle.http_frames.specs.declared.frames.FrameLimits.{FrameLimits}
use Rattle.http_frames.specs.declared.frames.TheConstants.{LIMITS}
use Rattle.http_frames.specs.Frames.{IsAccepted, IsRefused}
use Rattle.grid_outside.specs.Counts.{Rose}
use Rattle.grid_outside.specs.Told.{Gains, LinkView}
use Rattle.conn_script.specs.Messages.{refusal}
use Rattle.conn_script.specs.Responses.{bytes_of, failure}
use Rattle.conn_script.specs.declared.wants.ConnFault.{ConnFault}
use Rattle.conn_script.specs.declared.wants.ConnFault.TheVariants as faults
use Rattle.conn_script.specs.declared.wants.End.{End}
use Rattle.conn_script.specs.declared.wants.End.TheVariants as ends
use Rattle.conn_script.specs.declared.wants.Served.{Served}
use Rattle.conn_script.specs.declared.wants.TheConstants.{LIMIT}
use Rattle.hub_conn.specs.Conversation.{EndsSo, Finished, IsOpen, Waits, Words, closed, cut, in_words, last, no_request, none, refused}
use Rattle.hub_conn.specs.Talk.{result_cause}
use Rattle.hub_links.specs.Links.{Moved, RoseFor}
use Rattle.wd_bodies.specs.declared.code.ErrorCode.TheVariants as code
use Rattle.grid_teams.specs.Naming.{IsTeamName}
use Rattle.grid_teams.specs.declared.naming.TeamName.{TeamName}
use Rattle.grid_teams_shared.specs.declared.ahead.Ahead.{Ahead}
use Rattle.grid_teams_shared.specs.Heads.{AwaitsHead, CutOff, HasNoHead, Lacked, MOST, Reading, fed_of}
use Rattle.grid_teams_shared.specs.Links.{Gave, Took}
use Rattle.grid_teams_shared.specs.Telling.{Tells, cut_end, served_none}
use Rattle.grid_teams_shared.specs.Unserved.{Headless, ToldOff, Unread}
use Rattle.grid_teams_shared.proofs.LinkLemmas.{gains_none, gains_same}

-- ---- what was read, and then written

pub moved_by : (old mid new : LinkView) (bytes written : List ℕ) → Gave old bytes mid → Took mid written new → Moved old bytes written new
moved_by old mid new bytes written g t = record {
  given = gains_same old.given mid.given new.given bytes g.given t.given;
  taken = subst (λ (o : Option (List ℕ)). Gains o new.taken written) g.taken t.taken;
  read_faults = let x = g.read_faults in let y = t.read_faults in omega (arith, x, y);
  write_faults = let x = g.write_faults in let y = t.write_faults in omega (arith, x, y);
  ends = let x = g.ends in let y = t.ends in omega (arith, x, y);
}

pub moved_only : (old new : LinkView) (bytes : List ℕ) → Gave old bytes new → Moved old bytes [] new
moved_only old new bytes g = record {
  given = g.given;
  taken = gains_none old.taken new.taken g.taken;
  read_faults = g.read_faults;
  write_faults = let x = g.write_faults in omega (arith, x);
  ends = g.ends;
}

-- ---- a client is told that it belongs to no team

module _ (name : TeamName) (message : List ℕ) (first mid new : LinkView) (bytes : List ℕ) (named : IsTeamName LIMITS bytes name)
    (gave : Gave first bytes mid) (unended : mid.ends ≡ first.ends) (within : length bytes ≤ LIMIT) where
  pub told_off : (result : Result Served ConnFault) → Tells (bytes_of (failure code.InvalidArgument message) true) ends.Asked mid result new →
      ToldOff name message first result new
  told_off (Ok served) (e, took) = record {
    bytes = bytes;
    written = bytes_of (failure code.InvalidArgument message) true;
    named = named;
    moved = moved_by first mid new bytes (bytes_of (failure code.InvalidArgument message) true) gave took;
    within = within;
    unended = took.ends ∙ unended;
    told = (e, refl);
  }
  told_off (Err faults.Write) f = record {
    bytes = bytes;
    written = f.front;
    named = named;
    moved = moved_by first mid new bytes f.front gave f.took;
    within = within;
    unended = f.took.ends ∙ unended;
    told = ((f.unwritten, f.are, f.some), subst (λ (n : ℕ). Rose n new.write_faults) gave.write_faults f.rose);
  }
  told_off (Err faults.Memory) same = record {
    bytes = bytes;
    written = [];
    named = named;
    moved = subst (λ (v : LinkView). Moved first bytes [] v) (sym same) (moved_only first mid bytes gave);
    within = within;
    unended = ap (λ (v : LinkView). v.ends) same ∙ unended;
    told = refl;
  }
  told_off (Err faults.Read) f = absurd f

-- ---- conversations without a step

never_waits : (bytes : List ℕ) → HasNoHead LIMITS bytes → Waits bytes false
never_waits bytes never = record { accepted = λ h x. absurd (never h x); only = λ e. absurd (false_true e) }
  where
    false_true : false ≡ true → ⊥
    false_true e = cc

nothing_asked : (bytes words : List ℕ) (end : End) → EndsSo bytes [] bytes end false words → Finished None (Ok (served_none end)) bytes [] words
nothing_asked bytes words end ends_so = record {
  requests = [];
  rest = bytes;
  begins = refl;
  spent = false;
  responses = [];
  scripts = none;
  last_words = words;
  ends = ends_so;
  written_is = refl;
  count = refl;
  short_is = refl;
}

pub memory_wanted : (bytes : List ℕ) → 0 < length bytes → Finished None (Err faults.Memory) bytes [] []
memory_wanted bytes some = record {
  requests = [];
  rest = bytes;
  begins = refl;
  owes = some;
  responses = [];
  before = [];
  scripts = none;
  waits = false;
  waits_so = λ e. absurd (false_true e);
  written_is = refl;
  behind = [];
  lacks = no_request;
  steps_are = refl;
}
  where
    false_true : false ≡ true → ⊥
    false_true e = cc

some_bytes : (bytes : List ℕ) → bytes ≢ [] → 0 < length bytes
some_bytes [] ne = absurd (ne refl)
some_bytes (b ∷ bytes) ne = omega arith

-- ---- a head is refused

module _ (why : FrameFault) (first mid new : LinkView) (bytes : List ℕ) (is_refused : IsRefused LIMITS bytes why) (some : bytes ≢ []) (never : HasNoHead LIMITS bytes)
    (gave : Gave first bytes mid) (unended : mid.ends ≡ first.ends) (within : length bytes ≤ LIMIT) where
  pub refused_off : (result : Result Served ConnFault) → Tells (bytes_of (refusal why) true) (ends.Refused why 0) mid result new → Headless first result new
  refused_off (Ok served) (e, took) = record {
    bytes = bytes;
    written = bytes_of (refusal why) true;
    named = never;
    finished = subst (λ (s : Served). Finished None (Ok s) bytes [] (bytes_of (refusal why) true)) (sym e)
        (nothing_asked bytes (bytes_of (refusal why) true) (ends.Refused why 0) (refused why 0 false (some, refl, is_refused) (never_waits bytes never)));
    moved = moved_by first mid new bytes (bytes_of (refusal why) true) gave took;
    within = within;
    blames = subst (λ (s : Served). RoseFor (result_cause (Ok s)) first new) (sym e) (took.ends ∙ unended);
  }
  refused_off (Err faults.Write) f = record {
    bytes = bytes;
    written = f.front;
    named = never;
    finished = record {
      requests = [];
      rest = bytes;
      begins = refl;
      responses = [];
      before = [];
      scripts = none;
      behind = [];
      taken = f.front;
      breaks = in_words f.front f.unwritten (subst (λ (b : List ℕ). Words bytes b) f.are (last why false (never_waits bytes never) is_refused)) f.some;
      steps_are = refl;
      written_is = refl;
    };
    moved = moved_by first mid new bytes f.front gave f.took;
    within = within;
    blames = subst (λ (n : ℕ). Rose n new.write_faults) gave.write_faults f.rose;
  }
  refused_off (Err faults.Memory) same = record {
    bytes = bytes;
    written = [];
    named = never;
    finished = memory_wanted bytes (some_bytes bytes some);
    moved = subst (λ (v : LinkView). Moved first bytes [] v) (sym same) (moved_only first mid bytes gave);
    within = within;
    blames = ap (λ (v : LinkView). v.ends) same ∙ unended;
  }
  refused_off (Err faults.Read) f = absurd f

-- the laws of refused bytes, of those that a reader was fed
module _ (refused_more : (limits : FrameLimits) (buf more : List ℕ) (why : FrameFault) → IsRefused limits buf why → IsRefused limits (buf ++ more) why)
    (before : (limits : FrameLimits) (buf more : List ℕ) (why : FrameFault) (h : RequestHead) → IsRefused limits buf why → IsAccepted limits (buf ++ more) h → IsAccepted limits buf h)
    (some : (limits : FrameLimits) (buf : List ℕ) (why : FrameFault) → 0 < limits.head → IsRefused limits buf why → buf ≢ []) (head_some : 0 < LIMITS.head) (most : MOST ≤ LIMIT) where
  pub refused_so : (why : FrameFault) (first mid new : LinkView) (ahead : Ahead) → Reading first ahead mid → IsRefused LIMITS (fed_of ahead) why → HasNoHead LIMITS (fed_of ahead) →
      (result : Result Served ConnFault) → Tells (bytes_of (refusal why) true) (ends.Refused why 0) mid result new → Headless first result new
  refused_so why first mid new ahead r x never result told =
      let bytes = ahead.bytes.items in
      let rest = drop ahead.fed bytes in
      let all = take-append-drop ahead.fed bytes in
      let is = subst (λ (b : List ℕ). IsRefused LIMITS b why) all (refused_more LIMITS (fed_of ahead) rest why x) in
      let unheaded : HasNoHead LIMITS bytes = λ h y. never h (before LIMITS (fed_of ahead) rest why h x (subst (λ (b : List ℕ). IsAccepted LIMITS b h) (sym all) y)) in
      refused_off why first mid new bytes is (some LIMITS bytes why head_some is) unheaded r.gave r.unended (within_limit r.few) result told
    where
      within_limit : {n : ℕ} → n ≤ MOST → n ≤ LIMIT
      within_limit few = omega (arith, few, most)

-- ---- the input ended before a head, or a read failed

ended_so : (bytes : List ℕ) → AwaitsHead LIMITS bytes → length bytes < LIMIT → Finished None (Ok (served_none (cut_end bytes))) bytes [] []
ended_so [] x few = nothing_asked [] [] ends.Closed (closed refl few)
ended_so (b ∷ bytes) (x, never) few = nothing_asked (b ∷ bytes) [] (ends.Cut 0) (cut 0 false (there, refl, x) few (never_waits (b ∷ bytes) never))
  where
    there : b ∷ bytes ≢ []
    there e = cc

is_open : (bytes : List ℕ) → IsOpen (cut_end bytes)
is_open [] = tt
is_open (b ∷ bytes) = tt

end_blamed : (bytes : List ℕ) (old new : LinkView) → Rose old.ends new.ends → RoseFor (result_cause (Ok (served_none (cut_end bytes)))) old new
end_blamed [] old new rose = rose
end_blamed (b ∷ bytes) old new rose = rose

module _ (most : MOST < LIMIT) (first last : LinkView) (ahead : Ahead) (x : CutOff first ahead last) where
  below : length ahead.bytes.items < LIMIT
  below = let few = x.few in omega (arith, few, most)

  pub cut_off : Rose first.ends last.ends → Headless first (Ok (served_none (cut_end ahead.bytes.items))) last
  cut_off rose = record {
    bytes = ahead.bytes.items;
    written = [];
    named = x.awaits.1;
    finished = ended_so ahead.bytes.items x.awaits below;
    moved = moved_only first last ahead.bytes.items x.gave;
    within = let few = below in omega (arith, few);
    blames = end_blamed ahead.bytes.items first last rose;
  }

  pub read_failed : Rose first.read_faults last.read_faults → Headless first (Err faults.Read) last
  read_failed rose = record {
    bytes = ahead.bytes.items;
    written = [];
    named = x.awaits.1;
    finished = inl (served_none (cut_end ahead.bytes.items), is_open ahead.bytes.items, ended_so ahead.bytes.items x.awaits below);
    moved = moved_only first last ahead.bytes.items x.gave;
    within = let few = below in omega (arith, few);
    blames = rose;
  }

-- ---- memory is wanted for a head

pub unread_so : (first new : LinkView) → MOST ≤ LIMIT → Lacked first new → Unread first (Err faults.Memory) new
unread_so first new most x = record {
  bytes = x.bytes;
  fault = refl;
  finished = memory_wanted x.bytes x.some;
  moved = moved_only first new x.bytes x.gave;
  within = let few = x.few in omega (arith, few, most);
  unended = x.unended;
}
