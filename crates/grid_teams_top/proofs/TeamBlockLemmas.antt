-- A block among teams.
use Rattle.std.proofs.Common.{◌≡◌, ◌≢◌, ℕ, zero, suc, ◌<◌, ◌≤◌, ◌^◌, ◌++◌, ◌⊎◌, Bool, false, true, List, [], ◌∷◌, length, drop, take, refl, sym, ap, ap₂, ◌∙◌, subst, arith, inl, inr, slice_get, slice_set, take-append-drop, append-nil}
use Rattle.std.specs.Prelude.{Option, None, Some, Result, Ok, Err, IfOk}
use Rattle.std.specs.Borrow.{Bor}
use Rattle.httparse.specs.Grammar.{RequestHead}
use Rattle.http_frames.specs.declared.FrameFault.{FrameFault}
use Rattle.http_frames.specs.declared.frames.FrameLimits.{FrameLimits}
use Rattle.http_frames.specs.declared.frames.TheConstants.{LIMITS}
use Rattle.http_frames.specs.declared.reader.FrameReader.{FrameReader}
use Rattle.http_frames.specs.Feeding.{Fed}
use Rattle.http_frames.specs.Frames as on
use Rattle.http_frames.specs.Frames.{End, Frames, IsAccepted, IsAwaited, IsRefused, Request}
use Rattle.grid_types.specs.declared.NoMemory.{NoMemory}
use Rattle.conn_script.specs.Messages.{refusal}
use Rattle.conn_script.specs.Responses.{bytes_of, failure}
use Rattle.conn_script.specs.declared.wants.End.{End as Ending}
use Rattle.conn_script.specs.declared.wants.End.TheVariants as ends
use Rattle.conn_script.specs.declared.wants.Served.{Served}
use Rattle.conn_script.specs.declared.wants.TheConstants.{LIMIT}
use Rattle.hub_conn.specs.Conversation.{EndsSo, Finished, Waits, none, closed, refused, cut}
use Rattle.wd_bodies.specs.declared.code.ErrorCode.TheVariants as code
use Rattle.grid_play.specs.Talks.{Standing}
use Rattle.grid_teams.specs.Naming.{IsTeamName}
use Rattle.grid_teams.specs.Places.{names_by, place_of}
use Rattle.grid_teams.specs.declared.naming.TeamName.{TeamName}
use Rattle.grid_teams.specs.declared.naming.TeamName.TheVariants as team
use Rattle.grid_teams_top.specs.declared.playing.PlayingTeam.{PlayingTeam}
use Rattle.team_words.specs.declared.team_play.TeamPlay.{TeamPlay}
use Rattle.grid_teams.specs.declared.telling.TheConstants.{NOT_NAMED}
use Rattle.grid_teams_top.specs.Apart.{ServesOne}
use Rattle.grid_teams_top.specs.Blocks.{AllPlay, PlaysFor, ServedAt, ServedByName, ServesBlock, by_none, by_team, standing_of, standings}
use Rattle.grid_teams_top.specs.Heads.{HasRead, IsHeadTold}
use Rattle.grid_teams_top.specs.Play.{Block, IsWhose, Serves, TeamServes, Unserved, names_of, no_head, unknown, unnamed}
use Rattle.grid_teams_top.specs.Refusals.{IsAnswer, awaited_so, headed_so, refused_so}

pub if_ok : {P Q : List ℕ → Type 0} (r : Result (List ℕ) NoMemory) → IfOk r P → ((out : List ℕ) → P out → Q out) → IfOk r Q
if_ok (Ok out) p f = f out p
if_ok (Err e) p f = tt

-- ---- the team at a place, and the others

standings_at : (teams : List PlayingTeam) (i : ℕ) (t : PlayingTeam) → slice_get teams i ≡ Some t → standings teams i ≡ standing_of t
standings_at [] i t e = cc
standings_at (u ∷ teams) zero t e = let same : u ≡ t = cc in ap standing_of same
standings_at (u ∷ teams) (suc i) t e = standings_at teams i t e

standings_set : (teams : List PlayingTeam) (i : ℕ) (t v : PlayingTeam) → slice_get teams i ≡ Some t → standings (slice_set teams i v) i ≡ standing_of v
standings_set [] i t v e = cc
standings_set (u ∷ teams) zero t v e = refl
standings_set (u ∷ teams) (suc i) t v e = standings_set teams i t v e

standings_other : (teams : List PlayingTeam) (i j : ℕ) (v : PlayingTeam) → j ≢ i → standings (slice_set teams i v) j ≡ standings teams j
standings_other [] i j v ne = refl
standings_other (u ∷ teams) zero zero v ne = absurd (ne refl)
standings_other (u ∷ teams) zero (suc j) v ne = refl
standings_other (u ∷ teams) (suc i) zero v ne = refl
standings_other (u ∷ teams) (suc i) (suc j) v ne = standings_other teams i j v (λ e. ne (ap suc e))

record PlaysAt (said : List TeamPlay) (i : ℕ) (t : PlayingTeam) : Type 0 where
  mine : TeamPlay
  stands_at : slice_get said i ≡ Some mine
  plays : PlaysFor mine t

plays_at : (said : List TeamPlay) (teams : List PlayingTeam) (i : ℕ) (t : PlayingTeam) → AllPlay said teams → slice_get teams i ≡ Some t → PlaysAt said i t
plays_at [] [] i t all e = cc
plays_at [] (u ∷ teams) i t all e = absurd all
plays_at (s ∷ said) [] i t all e = absurd all
plays_at (s ∷ said) (u ∷ teams) zero t all e =
    let same : u ≡ t = cc in record { mine = s; stands_at = refl; plays = subst (λ (v : PlayingTeam). PlaysFor s v) same all.0 }
plays_at (s ∷ said) (u ∷ teams) (suc i) t all e =
    let r = plays_at said teams i t all.1 e in record { mine = r.mine; stands_at = r.stands_at; plays = r.plays }

all_play : (said : List TeamPlay) (teams : List PlayingTeam) (i : ℕ) (s : TeamPlay) (v : PlayingTeam) → AllPlay said teams → slice_get said i ≡ Some s →
    PlaysFor s v → AllPlay said (slice_set teams i v)
all_play [] [] i s v all e p = tt
all_play [] (u ∷ teams) i s v all e p = absurd all
all_play (r ∷ said) [] i s v all e p = absurd all
all_play (r ∷ said) (u ∷ teams) zero s v all e p = let same : r ≡ s = cc in (subst (λ (x : TeamPlay). PlaysFor x v) (sym same) p, all.1)
all_play (r ∷ said) (u ∷ teams) (suc i) s v all e p = (all.0, all_play said teams i s v all.1 e p)

same_names : (said : List TeamPlay) (teams : List PlayingTeam) → AllPlay said teams → names_by (λ (t : PlayingTeam). t.name) teams ≡ names_of said
same_names [] [] all = refl
same_names [] (u ∷ teams) all = absurd all
same_names (s ∷ said) [] all = absurd all
same_names (s ∷ said) (u ∷ teams) all = ap₂ (λ (n : List ℕ) (ns : List (List ℕ)). n ∷ ns) all.0.name_is (same_names said teams all.1)

-- ---- the name

module _ (more_accepted : (limits : FrameLimits) (buf more : List ℕ) (h : RequestHead) → IsAccepted limits buf h → IsAccepted limits (buf ++ more) h)
    (before : (limits : FrameLimits) (buf more : List ℕ) (why : FrameFault) (h : RequestHead) → IsRefused limits buf why →
    IsAccepted limits (buf ++ more) h → IsAccepted limits buf h) where
  name_more : (front rest : List ℕ) (name : TeamName) → IsTeamName LIMITS front name → (rest ≡ []) ⊎ IsHeadTold LIMITS front → IsTeamName LIMITS (front ++ rest) name
  name_more front rest (team.Named name) (h, x, e) told = (h, more_accepted LIMITS front rest h x, e)
  name_more front rest team.Unnamed (h, x, e) told = (h, more_accepted LIMITS front rest h x, e)
  name_more front rest team.NoHead never (inl e) =
      λ h x. never h (subst (λ (b : List ℕ). IsAccepted LIMITS b h) (ap (λ (r : List ℕ). front ++ r) e ∙ append-nil front) x)
  name_more front rest team.NoHead never (inr (inl (k, y))) = λ h x. absurd (never k y)
  name_more front rest team.NoHead never (inr (inr (why, y))) = λ h x. never h (before LIMITS front rest why h y x)

  all_dropped : (bytes : List ℕ) (count : ℕ) → count ≡ length bytes → drop count bytes ≡ []
  all_dropped bytes count e = subst (λ (n : ℕ). drop n bytes ≡ []) (sym e) (none_left bytes)
    where
      none_left : (xs : List ℕ) → drop (length xs) xs ≡ []
      none_left [] = refl
      none_left (x ∷ xs) = none_left xs

  -- what a reader tells of a front of the bytes is so of all
  pub name_of_all : (reader : FrameReader) (bytes : List ℕ) (name : TeamName) → HasRead LIMITS reader [] bytes →
      ((limits : FrameLimits) (fed : List ℕ) → Fed limits reader fed → IsTeamName limits fed name) → IsTeamName LIMITS bytes name
  name_of_all reader bytes name read tells =
      let rest = drop read.count bytes in
      let told : (rest ≡ []) ⊎ IsHeadTold LIMITS (take read.count bytes) = elim read.told [ inl e ↦ inl (all_dropped bytes read.count e) | inr t ↦ inr t ] in
      subst (λ (b : List ℕ). IsTeamName LIMITS b name) (take-append-drop read.count bytes)
      (name_more (take read.count bytes) rest name (tells LIMITS (take read.count bytes) read.fed) told)

-- ---- a block

-- it is of no team
module _ (said : List TeamPlay) (teams : List PlayingTeam) (bytes out : List ℕ) where
  pub stays_so : (name : TeamName) (block : Block) → block.place ≡ None → block.bytes ≡ bytes → IsWhose (names_of said) block → Unserved (names_of said) block out →
      AllPlay said teams → ServesBlock said (standings teams) bytes out (standings teams) × AllPlay said teams
  stays_so name block gone same whose told all = (
    record {
      block = block;
      bytes_are = same;
      whose = whose;
      serves = subst (λ (w : Option ℕ). ServesOne (Serves said) (λ (b : Block). b.place) (Unserved (names_of said)) (standings teams) w block out (standings teams))
          (sym gone) (told, λ t. refl);
    },
    all,
  )

  pub without_name : IsTeamName LIMITS bytes team.Unnamed → out ≡ bytes_of (failure code.InvalidArgument NOT_NAMED.now) true → AllPlay said teams →
      ServesBlock said (standings teams) bytes out (standings teams) × AllPlay said teams
  without_name named is all =
      let block : Block = record { place = None; bytes = bytes } in
      stays_so team.Unnamed block refl refl (record { name = team.Unnamed; named = named; place_is = refl }) (unnamed named is) all

  pub without_head : (served : Served) → IsTeamName LIMITS bytes team.NoHead → Finished None (Ok served) bytes [] out → AllPlay said teams →
      ServesBlock said (standings teams) bytes out (standings teams) × AllPlay said teams
  without_head served named finished all =
      let block : Block = record { place = None; bytes = bytes } in
      stays_so team.NoHead block refl refl (record { name = team.NoHead; named = named; place_is = refl }) (no_head served named finished) all

  -- it is of the team at a place
  of_place : (name : Bor (List ℕ)) (place : ℕ) (new : List PlayingTeam) → IsTeamName LIMITS bytes (team.Named name) → place_of name.now (names_of said) ≡ Some place →
      ServedAt teams place bytes out new → AllPlay said teams → ServesBlock said (standings teams) bytes out (standings new) × AllPlay said new
  of_place name place new named at x all =
      let p = plays_at said teams place x.old all x.stood in
      let both = x.served p.mine p.plays in
      let block : Block = record { place = Some place; bytes = bytes } in
      let stands = standings_at teams place x.old x.stood in
      let stood = ap (λ (ts : List PlayingTeam). standings ts place) x.become ∙ standings_set teams place x.old x.new x.stood in (
        record {
          block = block;
          bytes_are = refl;
          whose = record { name = team.Named name; named = named; place_is = sym at };
          serves = (
            (
              p.mine,
              p.stands_at,
              subst (λ (z : Standing). TeamServesTo p.mine (standings teams place) z) (sym stood)
                  (subst (λ (z : Standing). TeamServesTo p.mine z (standing_of x.new)) (sym stands) both.0),
            ),
            λ u ne. ap (λ (ts : List PlayingTeam). standings ts u) x.become ∙ standings_other teams place u x.new ne,
          );
        },
        subst (λ (ts : List PlayingTeam). AllPlay said ts) (sym x.become) (all_play said teams place p.mine x.new all p.stands_at both.1),
      )
    where
      TeamServesTo : TeamPlay → Standing → Standing → Type 0
      TeamServesTo mine z y = TeamServes mine z bytes out y

  pub by_name : (name : Bor (List ℕ)) (new : List PlayingTeam) → IsTeamName LIMITS bytes (team.Named name) → ServedByName teams name.now bytes out new →
      AllPlay said teams → ServesBlock said (standings teams) bytes out (standings new) × AllPlay said new
  by_name name new named (by_team place at x) all =
      of_place name place new named (ap (place_of name.now) (sym (same_names said teams all)) ∙ at) x all
  by_name name new named (by_none at is same) all =
      let nowhere_at = ap (place_of name.now) (sym (same_names said teams all)) ∙ at in
      let block : Block = record { place = None; bytes = bytes } in
      subst (λ (ts : List PlayingTeam). ServesBlock said (standings teams) bytes out (standings ts) × AllPlay said ts) (sym same)
      (stays_so (team.Named name) block refl refl (record { name = team.Named name; named = named; place_is = sym nowhere_at }) (unknown name named nowhere_at is) all)

-- ---- bytes without an accepted head

never_waits : (bytes : List ℕ) → ((h : RequestHead) → ¬ (IsAccepted LIMITS bytes h)) → Waits bytes false
never_waits bytes never = record { accepted = λ h x. absurd (never h x); only = λ e. absurd (false_true e) }
  where
    false_true : false ≡ true → ⊥
    false_true e = cc

nothing_asked : (bytes words : List ℕ) (end : Ending) → EndsSo bytes [] bytes end false words → Finished None (Ok (record { frames = 0; end = end; short = false })) bytes [] words
nothing_asked bytes words end ends_so = record {
  requests = [];
  rest = bytes;
  begins = refl;
  spent = false;
  responses = [];
  scripts = none;
  last_words = words;
  ends = ends_so;
  written_is = refl;
  count = refl;
  short_is = refl;
}

-- where a head is awaited nothing is refused
module _ (one : (limits : FrameLimits) (bytes : List ℕ) (fs gs : List Request) (d e : End) → Frames limits bytes fs d → Frames limits bytes gs e → (fs ≡ gs) × (d ≡ e))
    (some : (limits : FrameLimits) (buf : List ℕ) (why : FrameFault) → 0 < limits.head → IsRefused limits buf why → buf ≢ [])
    (refused_more : (limits : FrameLimits) (buf more : List ℕ) (why : FrameFault) → IsRefused limits buf why → IsRefused limits (buf ++ more) why)
    (head_some : 0 < LIMITS.head) (limit : LIMIT ≡ 2 ^ 40) where
  not_both : (bytes : List ℕ) (waits : Bool) (why : FrameFault) → IsAwaited LIMITS bytes waits → IsRefused LIMITS bytes why → ⊥
  not_both bytes waits why x y =
      let there = some LIMITS bytes why head_some y in
      let same = (one LIMITS bytes [] [] (on.cut 0) (on.refused why 0) (there, refl, (waits, x)) (there, refl, y)).1 in cc

  awaited_ends : (bytes : List ℕ) (waits : Bool) → IsAwaited LIMITS bytes waits → ((h : RequestHead) → ¬ (IsAccepted LIMITS bytes h)) → length bytes ≤ 16_777_216 →
      (served : Served) × Finished None (Ok served) bytes [] []
  awaited_ends [] waits x never few = (_, nothing_asked [] [] ends.Closed (closed refl (omega (arith, limit))))
  awaited_ends (b ∷ bytes) waits x never few =
      (_, nothing_asked (b ∷ bytes) [] (ends.Cut 0) (cut 0 false (there, refl, (waits, x)) (omega (arith, limit, few)) (never_waits (b ∷ bytes) never)))
    where
      there : b ∷ bytes ≢ []
      there e = cc

  refused_ends : (bytes : List ℕ) (why : FrameFault) → IsRefused LIMITS bytes why → ((h : RequestHead) → ¬ (IsAccepted LIMITS bytes h)) →
      (served : Served) × Finished None (Ok served) bytes [] (bytes_of (refusal why) true)
  refused_ends bytes why x never =
      (_, nothing_asked bytes (bytes_of (refusal why) true) (ends.Refused why 0) (refused why 0 false (some LIMITS bytes why head_some x, refl, x) (never_waits bytes never)))

  by_told : (front rest out : List ℕ) (waits : Bool) → (rest ≡ []) ⊎ IsHeadTold LIMITS front → IsAwaited LIMITS front waits →
      ((h : RequestHead) → ¬ (IsAccepted LIMITS front h)) → rest ≡ []
  by_told front rest out waits (inl e) x never = e
  by_told front rest out waits (inr (inl (h, y))) x never = absurd (never h y)
  by_told front rest out waits (inr (inr (why, y))) x never = absurd (not_both front waits why x y)

  answered : (front rest out : List ℕ) → (rest ≡ []) ⊎ IsHeadTold LIMITS front → ((h : RequestHead) → ¬ (IsAccepted LIMITS front h)) →
      ((h : RequestHead) → ¬ (IsAccepted LIMITS (front ++ rest) h)) → length (front ++ rest) ≤ 16_777_216 → IsAnswer LIMITS front out →
      (served : Served) × Finished None (Ok served) (front ++ rest) [] out
  answered front rest out told never all few (refused_so why x is) =
      let r = refused_ends (front ++ rest) why (refused_more LIMITS front rest why x) all in
      (r.0, subst (λ (o : List ℕ). Finished None (Ok r.0) (front ++ rest) [] o) (sym is) r.1)
  answered front rest out told never all few (awaited_so waits x is) =
      let nothing = by_told front rest out waits told x never in
      let same : front ++ rest ≡ front = ap (λ (r : List ℕ). front ++ r) nothing ∙ append-nil front in
      let r = awaited_ends front waits x never (subst (λ (b : List ℕ). length b ≤ 16_777_216) same few) in
      (r.0, subst (λ (o : List ℕ). Finished None (Ok r.0) (front ++ rest) [] o) (sym is) (subst (λ (b : List ℕ). Finished None (Ok r.0) b [] []) (sym same) r.1))
  answered front rest out told never all few (headed_so h x) = absurd (never h x)

  -- a block without an accepted head
  pub answered_block : (reader : FrameReader) (bytes out : List ℕ) → HasRead LIMITS reader [] bytes →
      ((limits : FrameLimits) (fed : List ℕ) → Fed limits reader fed → IsTeamName limits fed team.NoHead) →
      ((limits : FrameLimits) (fed : List ℕ) → Fed limits reader fed → IsAnswer limits fed out) → IsTeamName LIMITS bytes team.NoHead →
      length bytes ≤ 16_777_216 → (served : Served) × Finished None (Ok served) bytes [] out
  answered_block reader bytes out read tells answers never few =
      let front = take read.count bytes in
      let rest = drop read.count bytes in
      let whole = take-append-drop read.count bytes in
      let told : (rest ≡ []) ⊎ IsHeadTold LIMITS front = elim read.told [ inl e ↦ inl (dropped bytes read.count e) | inr t ↦ inr t ] in
      let r = answered front rest out told (tells LIMITS front read.fed)
      (subst (λ (b : List ℕ). (h : RequestHead) → ¬ (IsAccepted LIMITS b h)) (sym whole) never)
      (subst (λ (b : List ℕ). length b ≤ 16_777_216) (sym whole) few) (answers LIMITS front read.fed) in
      (r.0, subst (λ (b : List ℕ). Finished None (Ok r.0) b [] out) whole r.1)
    where
      none_left : (xs : List ℕ) → drop (length xs) xs ≡ []
      none_left [] = refl
      none_left (x ∷ xs) = none_left xs

      dropped : (xs : List ℕ) (count : ℕ) → count ≡ length xs → drop count xs ≡ []
      dropped xs count e = subst (λ (n : ℕ). drop n xs ≡ []) (sym e) (none_left xs)
