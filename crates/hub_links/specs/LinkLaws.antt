-- How a link goes on by one read or write and by more of them, and what an answer to one adds.
use Rattle.std.proofs.Common.{◌≡◌, ℕ, ◌≤◌, false, true, List, [], ◌++◌, length, refl, sym, ap, subst, ◌∙◌, arith}
use Rattle.std.specs.Prelude.{Option}
use Rattle.grid_outside.specs.Lines.{LooksSo}
use Rattle.grid_outside.specs.Told.{Gains, LinkView}
use Rattle.grid_outside.specs.StreamLaws.{gains_more, gains_none, rose_later, rose_on}
use Rattle.node_client.specs.Held.{Token}
use Rattle.conn_script.specs.declared.wants.Answer.{Answer}
use Rattle.conn_script.specs.declared.wants.Answer.TheVariants as told
use Rattle.conn_script.specs.Wanted.{Fits, IsAwaited, Made, Wanted, bytes_in, count, finds_spent, piece, taken_of, to_read, to_write, told_tokens}
use Rattle.hub_conn.specs.declared.talk.Talk.{Talk}
use Rattle.hub_conn.specs.Talk.{Cause, KeepsTokens, of_read, of_write, of_end, of_nothing, cause_after, cause_of, tokens}
use Rattle.hub_links.specs.Links.{Moved, RoseFor}

pub gains_same : (o p : Option (List ℕ)) → p ≡ o → Gains o p []
gains_same o p e = subst (λ (q : Option (List ℕ)). Gains o q []) (sym e) (gains_none o)

pub moved_none : (l : LinkView) → Moved l [] [] l
moved_none l = record { given = gains_none l.given; taken = gains_none l.taken; read_faults = omega arith; write_faults = omega arith; ends = omega arith }

pub moved_more : (k l m : LinkView) (bytes more written again : List ℕ) → Moved k bytes written l → Moved l more again m → Moved k (bytes ++ more) (written ++ again) m
moved_more k l m bytes more written again p q = record {
  given = gains_more k.given l.given m.given bytes more p.given q.given;
  taken = gains_more k.taken l.taken m.taken written again p.taken q.taken;
  read_faults = omega (arith, p.read_faults, q.read_faults);
  write_faults = omega (arith, p.write_faults, q.write_faults);
  ends = omega (arith, p.ends, q.ends);
}

-- ---- counts

rose_first : (cause : Cause) (k l m : LinkView) (bytes written : List ℕ) → Moved k bytes written l → l.ends ≡ k.ends → RoseFor cause l m → RoseFor cause k m
rose_first of_read k l m bytes written p none rose = rose_later k.read_faults l.read_faults m.read_faults p.read_faults rose
rose_first of_write k l m bytes written p none rose = rose_later k.write_faults l.write_faults m.write_faults p.write_faults rose
rose_first of_end k l m bytes written p none rose = rose_later k.ends l.ends m.ends p.ends rose
rose_first of_nothing k l m bytes written p none rose = rose ∙ none

-- what was blamed stays blamed, and else what the answer tells is
pub caused_on : (cause : Cause) (answer : Answer) (k l m : LinkView) (bytes written more again : List ℕ) → Moved k bytes written l → Moved l more again m →
    RoseFor cause k l → RoseFor (cause_of answer) l m → RoseFor (cause_after cause answer) k m
caused_on of_read answer k l m bytes written more again p q rose next = rose_on k.read_faults l.read_faults m.read_faults rose q.read_faults
caused_on of_write answer k l m bytes written more again p q rose next = rose_on k.write_faults l.write_faults m.write_faults rose q.write_faults
caused_on of_end answer k l m bytes written more again p q rose next = rose_on k.ends l.ends m.ends rose q.ends
caused_on of_nothing answer k l m bytes written more again p q rose next = rose_first (cause_of answer) k l m bytes written p rose next

-- ---- answers to a read or to a write

-- an answer that is none of the hub brings no tokens
abbrev pub IsPlain : Answer → Type 0
IsPlain answer = (told_tokens answer ≡ []) × (finds_spent answer ≡ false)

pub plain_tokens : (old new : Talk) (answer : Answer) → KeepsTokens old answer new → IsPlain answer → tokens new ≡ tokens old
plain_tokens old new answer keeps plain = keeps.0 plain.1 ∙ ap (λ (xs : List Token). xs ++ tokens old) plain.0

never : false ≡ true → ⊥
never e = cc

-- what an answer to a read or to a write adds
pub record Adds (own : Option (List ℕ)) (answer : Answer) (want : Wanted) (bytes written : List ℕ) : Type 0 where
  pub fits : Fits answer want
  pub made : Made own answer want []
  pub bytes_are : bytes_in answer ≡ bytes
  pub taken_are : taken_of answer want ≡ written
  pub plain : IsPlain answer

pub read_adds : (own : Option (List ℕ)) (answer : Answer) (most : ℕ) → IsAwaited answer (piece most) → Adds own answer (to_read most) (bytes_in answer) []
read_adds own (told.Bytes bytes) most h = record { fits = tt; made = refl; bytes_are = refl; taken_are = refl; plain = (refl, refl) }
read_adds own told.EndOfInput most h = record { fits = tt; made = refl; bytes_are = refl; taken_are = refl; plain = (refl, refl) }
read_adds own told.ReadFailed most h = record { fits = tt; made = refl; bytes_are = refl; taken_are = refl; plain = (refl, refl) }
read_adds own (told.Wrote n) most h = absurd h
read_adds own told.WriteFailed most h = absurd h
read_adds own told.Begun most h = absurd h
read_adds own (told.Hub answer) most h = absurd h
read_adds own (told.Node came) most h = absurd h
read_adds own told.Paused most h = absurd h
read_adds own told.Gone most h = absurd (never h)

pub write_adds : (own : Option (List ℕ)) (answer : Answer) (unsent : List ℕ) → IsAwaited answer (count (length unsent)) → Adds own answer (to_write unsent) [] (taken_of answer (to_write unsent))
write_adds own (told.Wrote n) unsent h = record { fits = tt; made = refl; bytes_are = refl; taken_are = refl; plain = (refl, refl) }
write_adds own told.WriteFailed unsent h = record { fits = tt; made = refl; bytes_are = refl; taken_are = refl; plain = (refl, refl) }
write_adds own (told.Bytes bytes) unsent h = absurd h
write_adds own told.EndOfInput unsent h = absurd h
write_adds own told.ReadFailed unsent h = absurd h
write_adds own told.Begun unsent h = absurd h
write_adds own (told.Hub answer) unsent h = absurd h
write_adds own (told.Node came) unsent h = absurd h
write_adds own told.Paused unsent h = absurd h
write_adds own told.Gone unsent h = absurd (never h)

-- ---- a client that has left

-- a look that found it gone is a failed read
pub looked : (l m : LinkView) → LooksSo true l m → Moved l [] [] m × RoseFor of_read l m
looked l m looks = (
  record {
    given = gains_same l.given m.given looks.1;
    taken = gains_same l.taken m.taken looks.0.taken;
    read_faults = looks.0.read_faults;
    write_faults = omega (arith, looks.0.write_faults);
    ends = looks.0.ends;
  },
  looks.3,
)

-- a piece is no longer than was wanted
pub few_bytes : (answer : Answer) (most : ℕ) → IsAwaited answer (piece most) → length (bytes_in answer) ≤ most
few_bytes (told.Bytes bytes) most h = h
few_bytes told.EndOfInput most h = omega arith
few_bytes told.ReadFailed most h = omega arith
few_bytes (told.Wrote n) most h = absurd h
few_bytes told.WriteFailed most h = absurd h
few_bytes told.Begun most h = absurd h
few_bytes (told.Hub answer) most h = absurd h
few_bytes (told.Node came) most h = absurd h
few_bytes told.Paused most h = absurd h
few_bytes told.Gone most h = omega arith
