-- A run goes on by a block, or ends.
use Rattle.std.proofs.Common.{◌≡◌, inl, inr, ℕ, ◌+◌, ◌<◌, ◌≤◌, List, [], ◌∷◌, ◌++◌, length, refl, sym, ap, subst, ◌∙◌, arith, append_assoc, append-nil, length-append, Result, Ok, Err, OnOk}
use Rattle.std.specs.Prelude.{Option, None, Some}
use Rattle.grid_outside.specs.Counts.{Rose}
use Rattle.grid_outside.specs.Told.{Gains, SourceView}
use Rattle.block_frames.specs.Frames.{frame, framed, length_bytes}
use Rattle.block_frames.specs.Inputs.{Reads}
use Rattle.grid_play.specs.Talks.{Standing}
use Rattle.team_words.specs.declared.team_play.TeamPlay.{TeamPlay}
use Rattle.grid_teams_top.specs.declared.playing.PlayingTeam.{PlayingTeam}
use Rattle.grid_teams_top.specs.declared.playing.TheConstants.{MOST_BLOCK_BYTES}
use Rattle.grid_teams_top.specs.Blocks.{AllPlay, standings}
use Rattle.grid_teams_run.specs.declared.limits.TheConstants.{MOST_INPUT_BYTES}
use Rattle.grid_teams_run.specs.declared.run_end.RunEnd.{RunEnd}
use Rattle.grid_teams_run.specs.declared.run_end.RunEnd.TheVariants as ends
use Rattle.grid_teams_run.specs.Statuses.{status_of}
use Rattle.grid_teams_run.specs.Running.{EndsSo, RunView, RunsTo, ServesNext}
use Rattle.grid_teams_run.specs.Steps.{AnswersSo, NextAnswered, NextMissing, NextSo, OutputView, ServesTo, SoFar, WritesSo}
use Rattle.grid_teams_run.proofs.ServesLemmas.{framed_more, served_from, served_more, served_none}

pub gains_more : {A : Type 0} (a b c : Option (List A)) (xs ys : List A) → Gains a b xs → Gains b c ys → Gains a c (xs ++ ys)
gains_more None b c xs ys p q = tt
gains_more (Some zs) b c xs ys p q = (subst (λ t. Gains t c ys) p q) ∙ ap Some (append_assoc zs xs ys)

pub gains_none : {A : Type 0} (a b : Option (List A)) → b ≡ a → Gains a b []
gains_none None b e = tt
gains_none (Some zs) b e = e ∙ ap Some (sym (append-nil zs))

-- a count that rose later rose since
rose_since : (a b c : ℕ) → a ≤ b → Rose b c → Rose a c
rose_since a b c h (inl x) = inl (omega (arith, h, x))
rose_since a b c h (inr x) = inr x

reads_more : (xs ys : List ℕ) (left mid fewer : ℕ) (a b c : SourceView) → Reads xs left mid a b → Reads ys mid fewer b c → Reads (xs ++ ys) left fewer a c
reads_more xs ys left mid fewer a b c r s = record {
  given = gains_more a.given b.given c.given xs ys r.given s.given;
  count = let l = length-append xs ys in omega (arith, r.count, s.count, l);
  ends_later = omega (arith, r.ends_later, s.ends_later);
}

-- ---- no block yet

pub none_so_far : (said : List TeamPlay) (teams : List PlayingTeam) (old : RunView) → AllPlay said teams → SoFar said (standings teams) MOST_INPUT_BYTES teams old old
none_so_far said teams old play = record {
  blocks = [];
  outs = [];
  served = served_none said (standings teams);
  play = play;
  reads = record { given = gains_none old.input.given old.input.given refl; count = refl; ends_later = omega arith };
  taken = gains_none old.taken old.taken refl;
}

module _ (said : List TeamPlay) (first : ℕ → Standing) where
  -- ---- one more

  pub so_far_more : (left fewer : ℕ) (teams others : List PlayingTeam) (old mid new : RunView) → SoFar said first left teams old mid →
      NextAnswered said teams left fewer (Ok tt) others mid new → SoFar said first fewer others old new
  so_far_more left fewer teams others old mid new s n =
      let a = n.answers in
      record {
        blocks = s.blocks ++ n.bytes ∷ [];
        outs = s.outs ++ a.0 ∷ [];
        served = served_more said first (standings teams) (standings others) s.blocks s.outs n.bytes a.0 s.served a.1.serves n.short a.2;
        play = a.1.play;
        reads = subst (λ (bs : List ℕ). Reads bs MOST_INPUT_BYTES fewer old.input new.input) (sym (framed_more s.blocks n.bytes))
            (reads_more (framed s.blocks) (frame n.bytes) MOST_INPUT_BYTES left fewer old.input mid.input new.input s.reads n.reads);
        taken = subst (λ (bs : List ℕ). Gains old.taken new.taken bs) (sym (framed_more s.outs a.0))
            (gains_more old.taken mid.taken new.taken (framed s.outs) (frame a.0) s.taken a.3);
      }

  -- ---- the end

  -- behind the blocks this was read, and this was written behind their answers
  ends_by : (left : ℕ) (teams : List PlayingTeam) (old mid new : RunView) (end : RunEnd) (rest broken : List ℕ) → SoFar said first left teams old mid →
      Gains mid.input.given new.input.given rest → Gains mid.taken new.taken broken →
      ((blocks : List (List ℕ)) → Reads (framed blocks) MOST_INPUT_BYTES left old.input mid.input → EndsSo said (standings teams) (length (framed blocks ++ rest)) rest broken end old new) →
      RunsTo said first end old new
  ends_by left teams old mid new end rest broken s given taken so = record {
    blocks = s.blocks;
    outs = s.outs;
    last = standings teams;
    rest = rest;
    broken = broken;
    served = s.served;
    given = gains_more old.input.given mid.input.given new.input.given (framed s.blocks) rest s.reads.given given;
    taken = gains_more old.taken mid.taken new.taken (framed s.outs) broken s.taken taken;
    ends_so = so s.blocks s.reads;
  }

  counted : (blocks : List (List ℕ)) (rest : List ℕ) (left fewer : ℕ) (a b c : SourceView) → Reads (framed blocks) MOST_INPUT_BYTES left a b → Reads rest left fewer b c →
      length (framed blocks ++ rest) + fewer ≡ MOST_INPUT_BYTES
  counted blocks rest left fewer a b c r s = sym (reads_more (framed blocks) rest MOST_INPUT_BYTES left fewer a b c r s).count

  counts : (count fewer : ℕ) → count + fewer ≡ MOST_INPUT_BYTES → 0 < fewer → count < MOST_INPUT_BYTES
  counts count fewer e h = omega (arith, e, h)

  counts_all : (count fewer : ℕ) → count + fewer ≡ MOST_INPUT_BYTES → fewer ≡ 0 → count ≡ MOST_INPUT_BYTES
  counts_all count fewer e h = omega (arith, e, h)

  counts_most : (count fewer : ℕ) → count + fewer ≡ MOST_INPUT_BYTES → count ≤ MOST_INPUT_BYTES
  counts_most count fewer e = omega (arith, e)

  next_served : (teams others : List PlayingTeam) (bytes out : List ℕ) → length bytes ≤ MOST_BLOCK_BYTES → ServesTo said teams bytes out others → ServesNext said (standings teams) (frame bytes) out
  next_served teams others bytes out short x = record { bytes = bytes; short = short; rest_is = refl; new = standings others; serves = x.serves }

  module _ (left fewer : ℕ) (teams others : List PlayingTeam) (old mid new : RunView) (s : SoFar said first left teams old mid)
      (input_later : old.input.faults ≤ mid.input.faults) (output_later : old.faults ≤ mid.faults) where
    answered : (end : RunEnd) → NextAnswered said teams left fewer (Err end) others mid new → RunsTo said first end old new
    answered ends.Between n = absurd n.answers
    answered ends.Read n = absurd n.answers
    answered ends.AtLimit n = absurd n.answers
    answered ends.Inside n = absurd n.answers
    answered ends.Memory n =
        ends_by left teams old mid new ends.Memory (frame n.bytes) [] s n.reads.given (gains_none mid.taken new.taken (ap (λ (v : OutputView). v.taken) n.answers)) (λ blocks r. refl)
    answered ends.TooLong n =
        let a = n.answers in
        ends_by left teams old mid new ends.TooLong (frame n.bytes) [] s n.reads.given (gains_none mid.taken new.taken (ap (λ (v : OutputView). v.taken) a.3))
        (λ blocks r. (
          refl,
          inr (record { out = a.0; served = next_served teams others n.bytes a.0 n.short a.1; long = a.2 }),
          counts_most (length (framed blocks ++ frame n.bytes)) fewer (counted blocks (frame n.bytes) left fewer old.input mid.input new.input r n.reads),
        ))
    answered ends.Write n =
        let a = n.answers in
        ends_by left teams old mid new ends.Write (frame n.bytes) a.2.front s n.reads.given a.2.gains
        (λ blocks r. (
          record { out = a.0; served = next_served teams others n.bytes a.0 n.short a.1; unwritten = a.2.unwritten; front_is = a.2.are },
          rose_since old.faults mid.faults new.faults output_later a.3,
        ))

    missing : (end : RunEnd) → NextMissing end left fewer mid new → new.taken ≡ mid.taken → RunsTo said first end old new
    missing ends.Between (r, rose, some) e =
        ends_by left teams old mid new ends.Between [] [] s r.given (gains_none mid.taken new.taken e)
        (λ blocks q. (
          refl,
          refl,
          counts (length (framed blocks ++ [])) fewer (counted blocks [] left fewer old.input mid.input new.input q r) some,
          rose_since old.input.ends mid.input.ends new.input.ends q.ends_later rose,
        ))
    missing ends.Read (r, rose) e =
        ends_by left teams old mid new ends.Read r.bytes [] s r.given (gains_none mid.taken new.taken e)
        (λ blocks q. (refl, rose_since old.input.faults mid.input.faults new.input.faults input_later rose))
    missing ends.Write m e = absurd m
    missing ends.Memory r e = ends_by left teams old mid new ends.Memory r.bytes [] s r.given (gains_none mid.taken new.taken e) (λ blocks q. refl)
    missing ends.AtLimit (rest, r, cut, none) e =
        ends_by left teams old mid new ends.AtLimit rest [] s r.given (gains_none mid.taken new.taken e)
        (λ blocks q. (refl, inr cut, counts_all (length (framed blocks ++ rest)) fewer (counted blocks rest left fewer old.input mid.input new.input q r) none))
    missing ends.Inside (rest, r, cut, rose, some) e =
        ends_by left teams old mid new ends.Inside rest [] s r.given (gains_none mid.taken new.taken e)
        (λ blocks q. (
          refl,
          cut,
          counts (length (framed blocks ++ rest)) fewer (counted blocks rest left fewer old.input mid.input new.input q r) some,
          rose_since old.input.ends mid.input.ends new.input.ends q.ends_later rose,
        ))
    missing ends.TooLong (rest, r, long) e =
        ends_by left teams old mid new ends.TooLong rest [] s r.given (gains_none mid.taken new.taken e)
        (λ blocks q. (refl, inl long, counts_most (length (framed blocks ++ rest)) fewer (counted blocks rest left fewer old.input mid.input new.input q r)))

    pub ended_so : (end : RunEnd) → NextSo said teams left fewer (Err end) others mid new → RunsTo said first end old new
    ended_so end (inl n) = answered end n
    ended_so end (inr m) = missing end m.0 m.1

  -- as many bytes were read as are read at all
  pub at_limit : (left : ℕ) (teams : List PlayingTeam) (old new : RunView) → SoFar said first left teams old new → left ≡ 0 → RunsTo said first ends.AtLimit old new
  at_limit left teams old new s none =
      ends_by left teams old new new ends.AtLimit [] [] s (gains_none new.input.given new.input.given refl) (gains_none new.taken new.taken refl)
      (λ blocks q. (refl, inl refl, counts_all (length (framed blocks ++ [])) left (ap (λ (bs : List ℕ). length bs + left) (append-nil (framed blocks)) ∙ sym q.count) none))

  -- there was no memory for the teams
  pub nothing_run : (old : RunView) → RunsTo said first ends.Memory old old
  nothing_run old = record {
    blocks = [];
    outs = [];
    last = first;
    rest = [];
    broken = [];
    served = served_none said first;
    given = gains_none old.input.given old.input.given refl;
    taken = gains_none old.taken old.taken refl;
    ends_so = refl;
  }

  pub runs_from : (from : ℕ → Standing) (end : RunEnd) (old new : RunView) → ((t : ℕ) → from t ≡ first t) → RunsTo said from end old new → RunsTo said first end old new
  runs_from from end old new e x = record {
    blocks = x.blocks;
    outs = x.outs;
    last = x.last;
    rest = x.rest;
    broken = x.broken;
    served = served_from said first from x.last x.blocks x.outs e x.served;
    given = x.given;
    taken = x.taken;
    ends_so = x.ends_so;
  }

-- ---- the block that stands next

pub answered_next : (said : List TeamPlay) (teams : List PlayingTeam) (left fewer : ℕ) (r : Result (Unit {0}) RunEnd) (others : List PlayingTeam) (old new : RunView) →
    NextAnswered said teams left fewer r others old new → NextSo said teams left fewer r others old new
answered_next said teams left fewer (Ok u) others old new n = n
answered_next said teams left fewer (Err end) others old new n = inl n

-- a block was served, and what goes out for it written
pub answers_so : (said : List TeamPlay) (teams others : List PlayingTeam) (bytes out : List ℕ) (r : Result (Unit {0}) RunEnd) (old new : OutputView) →
    ServesTo said teams bytes out others → WritesSo out r old new → AnswersSo said teams bytes r others old new
answers_so said teams others bytes out (Ok u) old new x w = (out, x, w.0, w.1)
answers_so said teams others bytes out (Err ends.TooLong) old new x w = (out, x, w.0, w.1)
answers_so said teams others bytes out (Err ends.Write) old new x w = (out, x, w.0, w.1)
answers_so said teams others bytes out (Err ends.Memory) old new x w = absurd w
answers_so said teams others bytes out (Err ends.Between) old new x w = absurd w
answers_so said teams others bytes out (Err ends.Read) old new x w = absurd w
answers_so said teams others bytes out (Err ends.AtLimit) old new x w = absurd w
answers_so said teams others bytes out (Err ends.Inside) old new x w = absurd w

pub any_ok : {A E P : Type 0} (r : Result A E) → P → OnOk r P
any_ok (Ok x) p = p
any_ok (Err e) p = tt

-- a block takes more than nothing
pub frame_some : (bytes : List ℕ) (left fewer : ℕ) → left ≡ length (frame bytes) + fewer → fewer < left
frame_some bytes left fewer e = let l = length-append (length_bytes (length bytes)) bytes in omega (arith, e, l)

pub not_two : (end : RunEnd) → status_of end ≡ 2 → ⊥
not_two ends.Between e = omega (arith, e)
not_two ends.Read e = omega (arith, e)
not_two ends.Write e = omega (arith, e)
not_two ends.Memory e = omega (arith, e)
not_two ends.AtLimit e = omega (arith, e)
not_two ends.Inside e = omega (arith, e)
not_two ends.TooLong e = omega (arith, e)
