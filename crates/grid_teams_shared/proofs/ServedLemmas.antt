-- A connection that a hub serves behind a head that was read.
use Rattle.std.proofs.Common.{◌≡◌, ◌≢◌, ℕ, ◌≤◌, List, [], ◌∷◌, ◌++◌, length, drop, refl, sym, ap, ◌∙◌, subst, arith, append-nil, length-append, take-append-drop}
use Rattle.std.specs.Prelude.{Option, None, Some, Result}
use Rattle.std.specs.Borrow.{Bor}
use Rattle.httparse.specs.Grammar.{RequestHead}
use Rattle.http_frames.specs.declared.frames.FrameLimits.{FrameLimits}
use Rattle.http_frames.specs.declared.frames.TheConstants.{LIMITS}
use Rattle.http_frames.specs.Frames.{IsAccepted}
use Rattle.grid_outside.specs.Counts.{Rose}
use Rattle.grid_outside.specs.Told.{ClockView, Gains, LinkView, Tick}
use Rattle.grid_outside.specs.declared.exchange.Ask.{Ask}
use Rattle.grid_outside.specs.Exchanges.{Came}
use Rattle.again_link.specs.Again.{Awaits, view_without, without}
use Rattle.hub_cell.specs.declared.hub.SharedHub.{SharedHub}
use Rattle.hub_cell.specs.declared.hub.Pass.{Pass}
use Rattle.conn_script.specs.declared.wants.ConnFault.{ConnFault}
use Rattle.conn_script.specs.declared.wants.Served.{Served}
use Rattle.conn_script.specs.declared.wants.TheConstants.{LIMIT}
use Rattle.hub_conn.specs.Talk.{Cause, of_end, of_nothing, of_read, of_write, result_cause}
use Rattle.hub_links.specs.Links.{Moved, RoseFor}
use Rattle.hub_workers.specs.World.{World}
use Rattle.hub_serving.specs.Outside.{Outside, outside_of}
use Rattle.hub_serving.specs.Served.{ServesConnection}
use Rattle.grid_teams.specs.Naming.{IsTeamName}
use Rattle.grid_teams.specs.Places.{place_of}
use Rattle.grid_teams.specs.declared.naming.TeamName.{TeamName}
use Rattle.grid_teams.specs.declared.naming.TeamName.TheVariants as team
use Rattle.grid_teams_shared.specs.declared.ahead.Ahead.{Ahead}
use Rattle.grid_teams_shared.specs.declared.teams.SharedTeam.{SharedTeam}
use Rattle.grid_teams_shared.specs.Heads.{fed_of}
use Rattle.grid_teams_shared.specs.Links.{Gave}
use Rattle.grid_teams_shared.specs.Serving.{Around, HandedOut, ServedAt, ServedByName, around}
use Rattle.grid_teams_shared.specs.Teams.{names_in}
use Rattle.grid_teams_shared.proofs.LinkLemmas.{gains_more, rose_from}

-- an accepted head names the same with more bytes behind it
name_on : (stays : (limits : FrameLimits) (buf more : List ℕ) (h : RequestHead) → IsAccepted limits buf h → IsAccepted limits (buf ++ more) h)
    (front rest : List ℕ) (name : TeamName) → (h : RequestHead) × IsAccepted LIMITS front h → IsTeamName LIMITS front name → IsTeamName LIMITS (front ++ rest) name
name_on stays front rest (team.Named name) some (h, x, e) = (h, stays LIMITS front rest h x, e)
name_on stays front rest team.Unnamed some (h, x, e) = (h, stays LIMITS front rest h x, e)
name_on stays front rest team.NoHead some never = absurd (never some.0 some.1)

pub name_of_all : (stays : (limits : FrameLimits) (buf more : List ℕ) (h : RequestHead) → IsAccepted limits buf h → IsAccepted limits (buf ++ more) h)
    (ahead : Ahead) (name : TeamName) → (h : RequestHead) × IsAccepted LIMITS (fed_of ahead) h → IsTeamName LIMITS (fed_of ahead) name → IsTeamName LIMITS ahead.bytes.items name
name_of_all stays ahead name some named =
    subst (λ (b : List ℕ). IsTeamName LIMITS b name) (take-append-drop ahead.fed ahead.bytes.items) (name_on stays (fed_of ahead) (drop ahead.fed ahead.bytes.items) name some named)

-- what a link gave in all, of which some bytes are left that were not handed out again
record GaveAll (first new : Option (List ℕ)) (again left : List ℕ) : Type 0 where
  more : List ℕ
  gave : Gains first new (again ++ more)
  within : length (again ++ more) ≤ LIMIT
  rests : left ≢ [] → more ≡ []

rests_given : (left : List ℕ) (old new : LinkView) → Awaits left old new → left ≢ [] → new.given ≡ old.given
rests_given [] old new w some = absurd (some refl)
rests_given (byte ∷ left) old new w some = w.given

none_of : (bytes : List ℕ) → length bytes ≡ 0 → bytes ≡ []
none_of [] e = refl
none_of (byte ∷ bytes) e = absurd (omega (arith, e))

told_once : (xs ys : List ℕ) → Some xs ≡ Some ys → xs ≡ ys
told_once xs ys e = cc

nothing_more : (xs more : List ℕ) → xs ++ more ≡ xs → more ≡ []
nothing_more xs more e = none_of more (let n = length-append xs more in let k = ap (λ (b : List ℕ). length b) e in omega (arith, n, k))

count_more : (told again more bytes : List ℕ) → (told ++ again) ++ more ≡ told ++ bytes → length (again ++ more) ≡ length bytes
count_more told again more bytes e =
    let all = ap (λ (b : List ℕ). length b) e in
    let one = length-append (told ++ again) more in
    let two = length-append told again in
    let three = length-append told bytes in
    let four = length-append again more in
    omega (arith, all, one, two, three, four)

module _ (untold : (told again : List ℕ) → without again (Some (told ++ again)) ≡ Some told) where
  untold_none : (all : List ℕ) → without [] (Some all) ≡ Some all
  untold_none all = subst (λ (b : List ℕ). without [] (Some b) ≡ Some all) (append-nil all) (untold all [])

  gave_all : (first mid new : Option (List ℕ)) (again left bytes more : List ℕ) → Gains first mid again → Gains mid new more →
      Gains (without again mid) (without left new) bytes → (left ≢ [] → new ≡ mid) → length again ≤ LIMIT → length bytes ≤ LIMIT → GaveAll first new again left
  gave_all None mid new again left bytes more p q m rest few within =
      record { more = []; gave = tt; within = subst (λ (b : List ℕ). length b ≤ LIMIT) (sym (append-nil again)) few; rests = λ some. refl }
  gave_all (Some told) mid new again left bytes more p q m rest few within =
      let all : new ≡ Some ((told ++ again) ++ more) = subst (λ (o : Option (List ℕ)). Gains o new more) p q in
      let rests = λ (some : left ≢ []). nothing_more (told ++ again) more (told_once _ _ (sym all ∙ (rest some ∙ p))) in
      record {
        more = more;
        gave = gains_more (Some told) mid new again more p q;
        within = by_left left m all rests;
        rests = rests;
      }
    where
      by_left : (l : List ℕ) → Gains (without again mid) (without l new) bytes → new ≡ Some ((told ++ again) ++ more) → (l ≢ [] → more ≡ []) → length (again ++ more) ≤ LIMIT
      by_left [] m all rests =
          let read : without [] new ≡ Some (told ++ bytes) = subst (λ (o : Option (List ℕ)). Gains o (without [] new) bytes) (ap (without again) p ∙ untold told again) m in
          let same = told_once ((told ++ again) ++ more) (told ++ bytes) (sym (untold_none ((told ++ again) ++ more)) ∙ (sym (ap (without []) all) ∙ read)) in
          let count = count_more told again more bytes same in
          omega (arith, count, within)
      by_left (byte ∷ l) m all rests =
          let none = rests (λ e. cc) in
          subst (λ (b : List ℕ). length (again ++ b) ≤ LIMIT) (sym none) (subst (λ (b : List ℕ). length b ≤ LIMIT) (sym (append-nil again)) few)

  gains_from : (a b c : Option (List ℕ)) (again bytes : List ℕ) → Gains a b again → Gains (without again b) c bytes → Gains a c bytes
  gains_from None b c again bytes p q = tt
  gains_from (Some told) b c again bytes p q = subst (λ (o : Option (List ℕ)). Gains o c bytes) (ap (without again) p ∙ untold told again) q

  module _ (first mid new : LinkView) (again : List ℕ) (g : Gave first again mid) (unended : mid.ends ≡ first.ends) where
    moved_from : (bytes written : List ℕ) → Moved (view_without again mid) bytes written new → Moved first bytes written new
    moved_from bytes written m = record {
      given = gains_from first.given mid.given new.given again bytes g.given m.given;
      taken = subst (λ (o : Option (List ℕ)). Gains o new.taken written) g.taken m.taken;
      read_faults = let x = g.read_faults in let y = m.read_faults in omega (arith, x, y);
      write_faults = let x = g.write_faults in let y = m.write_faults in omega (arith, x, y);
      ends = let x = g.ends in let y = m.ends in omega (arith, x, y);
    }

    blamed_from : (cause : Cause) → RoseFor cause (view_without again mid) new → RoseFor cause first new
    blamed_from of_read r = rose_from first.read_faults mid.read_faults new.read_faults g.read_faults r
    blamed_from of_write r = subst (λ (n : ℕ). Rose n new.write_faults) g.write_faults r
    blamed_from of_end r = subst (λ (n : ℕ). Rose n new.ends) unended r
    blamed_from of_nothing r = r ∙ unended

  module _ {N C : Type 0} (gives : N → List ℕ → Ask → Came → N → Type 0) (tells : C → Tick → ℕ → C → Type 0) (first mid : LinkView) (again : List ℕ)
      (g : Gave first again mid) (unended : mid.ends ≡ first.ends) where
    serves_from : (hub : SharedHub) (world : World N C) (result : Result Served ConnFault) (new : Outside N C) →
        ServesConnection hub gives tells (outside_of world (view_without again mid)) result new → ServesConnection hub gives tells (outside_of world first) result new
    serves_from hub world result new s = record {
      served = record {
        bytes = s.served.bytes;
        steps = s.served.steps;
        written = s.served.written;
        finished = s.served.finished;
        onward = record {
          went = s.served.onward.went;
          moved = moved_from first mid new.link again g unended s.served.bytes s.served.written s.served.onward.moved;
        };
        within = s.served.within;
      };
      sees = s.sees;
      blames = blamed_from first mid new.link again g unended (result_cause result) s.blames;
      spent = s.spent;
    }

    -- the team at a place has served it from the first byte on
    at_from : (teams : List SharedTeam) (place : ℕ) (left : List ℕ) (passes : List Pass) (nodes : N) (clock : C) (time : ClockView) (result : Result Served ConnFault) (new : Around N C) →
        ServedAt gives tells teams place left (around passes nodes clock time (view_without again mid)) result new →
        ServedAt gives tells teams place left (around passes nodes clock time first) result new
    at_from teams place left passes nodes clock time result new x = record {
      chosen = x.chosen;
      before = x.before;
      behind = x.behind;
      stands = x.stands;
      stood = x.stood;
      passes_are = x.passes_are;
      serves = serves_from x.chosen.hub _ result _ x.serves;
    }

    pub by_name : (teams : List SharedTeam) (place : ℕ) (passes : List Pass) (nodes : N) (clock : C) (time : ClockView) (result : Result Served ConnFault) (new : Around N C)
        (name : Bor (List ℕ)) → length again ≤ LIMIT → IsTeamName LIMITS again (team.Named name) → place_of name.now (names_in teams) ≡ Some place →
        (handed : HandedOut again mid new.link) → ServedAt gives tells teams place handed.left (around passes nodes clock time (view_without again mid)) result new →
        ServedByName gives tells teams (around passes nodes clock time first) result new
    by_name teams place passes nodes clock time result new name few named at handed x =
        let served = x.serves.served in
        let all = gave_all first.given mid.given new.link.given again handed.left served.bytes handed.gives.0 g.given handed.gives.1 served.onward.moved.given
        (rests_given handed.left mid new.link handed.awaits) few served.within in
        record {
          name = name;
          read_first = again;
          named = named;
          place = place;
          place_is = at;
          more = all.more;
          gave = all.gave;
          within = all.within;
          left = handed.left;
          hands = handed.hands;
          rests = all.rests;
          served = at_from teams place handed.left passes nodes clock time result new x;
        }
