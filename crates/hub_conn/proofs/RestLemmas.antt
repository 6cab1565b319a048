-- That a connection stands for the same where it gave memory back.
use Rattle.std.proofs.Common.{◌≡◌, ℕ, ◌≤◌, ◌++◌, List, length, refl, sym, ap, ◌∙◌, arith}
use Rattle.std.specs.Prelude.{Option}
use Rattle.router_core.specs.declared.router.Router.{Router}
use Rattle.http_frames.specs.declared.frames.TheConstants.{LIMITS}
use Rattle.http_frames.specs.Frames.{Request}
use Rattle.http_frames.specs.Feeding as reader
use Rattle.node_client.specs.Steps.{Step}
use Rattle.conn_script.specs.Creating.{Aim}
use Rattle.conn_script.specs.Wanted.{Wanted}
use Rattle.hub_conn.specs.declared.inbox.Inbox.{Inbox}
use Rattle.hub_conn.specs.declared.talk.Talk.{Talk}
use Rattle.hub_conn.specs.declared.talk.State.{State}
use Rattle.hub_conn.specs.declared.talk.State.TheVariants as states
use Rattle.hub_conn.specs.declared.talk.Then.{Then}
use Rattle.hub_conn.specs.declared.talk.Then.TheVariants as after
use Rattle.hub_conn.specs.Inbox.{unread, HasRead, HoldsSame}
use Rattle.hub_conn.specs.Talk.{AtFront, InState, IsRested, IsWriting, Standing, Stands, StandsIn, awaited, blamed, held, is_fresh, leaves, tokens}
use Rattle.hub_conn.specs.Work.{work}

-- ---- the bytes that are not answered

has_read : (old new : Inbox) (front : List ℕ) → reader.Stays old.reader new.reader → new.fed ≤ length new.piece.items →
    length new.piece.items ≤ length old.piece.items → HasRead old front → HasRead new front
has_read old new front stays within fits x = record {
  stands = stays.fed LIMITS front x.stands;
  within = within;
  fits = omega (arith, fits, x.fits);
}

pub holds_same : (old new : Inbox) → reader.Stays old.reader new.reader → unread new ≡ unread old →
    (new.fed ≤ length new.piece.items) → length new.piece.items ≤ length old.piece.items → HoldsSame old new
holds_same old new stays same within fits = record {
  holds = λ bytes (front, read, is).
      (front, has_read old new front stays within fits read, is ∙ ap (λ (u : List ℕ). front ++ u) (sym same));
  whole = λ bytes f (front, read, is, whole, at_end). (
    front,
    has_read old new front stays within fits read,
    is ∙ ap (λ (u : List ℕ). front ++ u) (sym same),
    whole,
    stays.whole ∙ at_end,
  );
  unread_is = same;
}

-- ---- the connection

-- the same but for the bytes that are not answered and the table of paths
abbrev pub rested : Talk → Inbox → Option Router → Talk
rested old i r = record {
  alloc = old.alloc;
  inbox = i;
  read = old.read;
  begins = old.begins;
  frames = old.frames;
  short = old.short;
  continued = old.continued;
  closes = old.closes;
  router = r;
  state = old.state;
}

module _ (old : Talk) (i : Inbox) (r : Option Router) (same : HoldsSame old.inbox i) where
  at_front : (rest : List ℕ) (f : Request) → AtFront old rest f → AtFront (rested old i r) rest f
  at_front rest f x = record {
    holds = same.whole rest f x.holds;
    closes_is = x.closes_is;
    continued_is = x.continued_is;
    waited = x.waited;
  }

  in_state : (s : State) (own : Option (List ℕ)) (rest : List ℕ) (aim : Aim) (w : Wanted) (mine : List Step) (since : List ℕ) →
      InState s old own rest aim w mine since → InState s (rested old i r) own rest aim w mine since
  in_state states.Reading own rest aim w mine since (a, b, c, holds, d, e, f, g, none) =
      (a, b, c, same.holds rest holds, d, e, f, g, same.unread_is ∙ none)
  in_state (states.Continuing sent) own rest aim w mine since (a, b, c, holds, d, e, f) =
      (a, b, c, same.holds rest holds, d, e, f)
  in_state states.Beginning own rest aim w mine since (a, f, front, b, c, d) = (a, f, at_front rest f front, b, c, d)
  in_state (states.Running run) own rest aim w mine since (f, front, under, d) = (f, at_front rest f front, under, d)
  in_state (states.Writing out) own rest aim w mine since x = x
  in_state (states.Undoing fault u) own rest aim w mine since x = x
  in_state (states.Done result) own rest aim w mine since x = x

  standing : (s : State) (own : Option (List ℕ)) (w : Wanted) (bytes : List ℕ) (steps : List Step) (written : List ℕ) →
      Standing s old own w bytes steps written → Standing s (rested old i r) own w bytes steps written
  standing s own w bytes steps written x = record {
    rest = x.rest;
    before = x.before;
    mine = x.mine;
    responses = x.responses;
    since = x.since;
    answered = x.answered;
    steps_are = x.steps_are;
    written_is = x.written_is;
    counts = record { read = x.counts.read; within = x.counts.within; begins = x.counts.begins; few = x.counts.few };
    aim = x.aim;
    settled = x.settled;
    settled_are = x.settled_are;
    short = x.short;
    in_state = in_state s own x.rest x.aim w x.mine x.since x.in_state;
  }

  writing : (t : Then) (own : Option (List ℕ)) (bytes : List ℕ) (steps : List Step) (all : List ℕ) →
      IsWriting t old own bytes steps all → IsWriting t (rested old i r) own bytes steps all
  writing after.Next own bytes steps all (rest, answered, holds, counts, continued) = (
    rest,
    answered,
    same.holds rest holds,
    record { read = counts.read; within = counts.within; begins = counts.begins; few = counts.few },
    continued,
  )
  writing (after.End end) own bytes steps all (talked, cause, some) = (talked, cause, (some.0, same.holds some.0 some.1))

  stands_in : (s : State) (own : Option (List ℕ)) (w : Wanted) (bytes : List ℕ) (steps : List Step) (written : List ℕ) →
      StandsIn s old own w bytes steps written → StandsIn s (rested old i r) own w bytes steps written
  stands_in states.Reading own w bytes steps written x = standing states.Reading own w bytes steps written x
  stands_in (states.Continuing sent) own w bytes steps written x = standing (states.Continuing sent) own w bytes steps written x
  stands_in states.Beginning own w bytes steps written x = standing states.Beginning own w bytes steps written x
  stands_in (states.Running run) own w bytes steps written x = standing (states.Running run) own w bytes steps written x
  stands_in (states.Writing out) own w bytes steps written x = record {
    unsent = x.unsent;
    unsent_is = x.unsent_is;
    some = x.some;
    wants = x.wants;
    short = x.short;
    writing = writing out.then own bytes steps (written ++ x.unsent) x.writing;
    breaks = x.breaks;
  }
  stands_in (states.Undoing fault u) own w bytes steps written x = x
  stands_in (states.Done result) own w bytes steps written x = x

  pub is_rested : IsRested old (rested old i r)
  unfolding Stands is_fresh blamed tokens leaves awaited held work
  is_rested = record {
    fresh = refl;
    blames = refl;
    keeps = refl;
    leaves_so = refl;
    awaits = refl;
    holds = refl;
    stands = λ own w bytes steps written x. stands_in old.state own w bytes steps written x;
    work_is = λ o. refl;
  }
