-- What a reader stands for after some bytes of a chunked body were fed.
use Rattle.std.proofs.Common.{◌≡◌, ◌≢◌, ℕ, ◌+◌, ◌-◌, ◌<◌, ◌≤◌, true, min, List, [], ◌∷◌, ◌++◌, length, take, drop, refl, sym, ap, ◌∙◌, subst, arith, append_assoc, append-nil, length-append, length-take, inl, inr}
use Rattle.std.specs.List.{flat_map}
use Rattle.std.proofs.lemmas.Bool.{cases_lt}
use Rattle.std.proofs.lemmas.List.{take_all, length-take-le}
use Rattle.std.proofs.lemmas.List.Elements.{All-nil}
use Rattle.httparse.specs.Grammar.{LineEnd, lf, crlf, print_end, print_field, print_section, ChunkLine, print_chunk_line, chunk_size, IsField}
use Rattle.httparse.proofs.ChunkLemmas.{ReadsChunkLine-append}
use Rattle.http_frames.specs.declared.FrameFault.TheVariants.{BadChunk}
use Rattle.http_frames.specs.declared.frames.FrameLimits.{FrameLimits}
use Rattle.http_frames.specs.declared.reader.Phase.{Phase}
use Rattle.http_frames.specs.declared.reader.Phase.TheVariants as phase
use Rattle.http_frames.specs.declared.reader.FrameReader.{FrameReader}
use Rattle.http_frames.specs.declared.turns.LineTurn.TheVariants as line
use Rattle.http_frames.specs.declared.turns.TrailersTurn.TheVariants as trailers
use Rattle.http_frames.specs.Heads.{ReadsHead}
use Rattle.http_frames.specs.Chunks.{Chunk, size_of, parts_of, joined, ReadsLine, IsBadLine, IsOpenLine, ReadsChunk, ReadsEnd, IsBadEnd, IsBadChunk, ReadsShortTrailers, IsBadTrailers, IsOpenTrailers, open_line, bad_line, bad_end, bad_trailers}
use Rattle.http_frames.specs.Frames.{expects, open_chunked, body_too_long, bad_chunk, whole_chunked}
use Rattle.http_frames.specs.Turns.{IsLineTurn, IsTrailersTurn, IsPart}
use Rattle.http_frames.specs.Feeding.{StandsIn, Fed, IsInChunks, IsInLine, IsInData, IsInTrailers, IsAtEnd, IsWithinLimits, Feeds, KeepsFed, IsPhaseBehindLine, IsPhaseOfData, awaits_in, awaits_more}
use Rattle.http_frames.specs.declared.calm.Calm.{Calm}
use Rattle.http_frames.specs.declared.calm.Calm.TheVariants.{Nothing}
use Rattle.http_frames.specs.Calm.{is_calm, calm_behind, IsPartOfLine, LineStays, IsPartOfTrailers, TrailersStay}
use Rattle.http_frames.proofs.CalmLemmas.{stays_on, nothing_so}
use Rattle.http_frames.proofs.MoreLemmas.{has_head_more, chunks_more, line_more}
use Rattle.http_frames.proofs.UniqueLemmas.{line_unique}
use Rattle.http_frames.proofs.ChunkLemmas.{size_more, chunks_more as chunks_and_one}
use Rattle.http_frames.proofs.BoundLemmas.{joined_length}
use Rattle.http_frames.proofs.EndLemmas.{awaited_no_end, behind_part}
use Rattle.http_frames.proofs.FeedLemmas.{grown, none_and, one_more, cut_at, feeds_of, at_first, Became, stands_at, fed_at, open_line_nil}

-- ---- some chunks, and more bytes behind them

chunks_grow : (limits : FrameLimits) (old new : FrameReader) (bytes more : List ℕ) (Before After : List ℕ → List ℕ → Type 0)
    → IsInChunks limits old bytes Before → new.head.items ≡ old.head.items → new.waits ≡ old.waits
    → ((content behind : List ℕ) → Before content behind → After content (behind ++ more))
    → IsInChunks limits new (bytes ++ more) After
chunks_grow limits old new bytes more Before After (h, rest, at, framing, cs, behind, reads, fits, so) head waits step = (
  h,
  rest ++ more,
  record {
    has = has_head_more limits bytes more h rest at.has;
    kept = subst (λ (b : List ℕ). ReadsHead b h []) (sym head) at.kept;
    waits = waits ∙ at.waits;
  },
  framing,
  cs,
  behind ++ more,
  chunks_more rest more cs behind reads,
  fits,
  step (joined (parts_of cs)) behind so,
)

-- what is refused behind some chunks
chunks_fail : (limits : FrameLimits) (old new : FrameReader) (bytes more : List ℕ) (Before : List ℕ → List ℕ → Type 0)
    → IsInChunks limits old bytes Before → new.head.items ≡ old.head.items → new.waits ≡ old.waits
    → ((left : ℕ) (content behind : List ℕ) → left ≡ limits.body - length content → Before content behind → IsBadChunk left (behind ++ more))
    → StandsIn (phase.BadBody BadChunk) limits new (bytes ++ more)
chunks_fail limits old new bytes more Before (h, rest, at, framing, cs, behind, reads, fits, so) head waits step =
    let has = has_head_more limits bytes more h rest at.has in (
      h,
      rest ++ more,
      has,
      framing,
      subst (λ (b : List ℕ). ReadsHead b h []) (sym head) at.kept,
      waits ∙ at.waits,
      bad_chunk h (rest ++ more) has framing (
        cs,
        behind ++ more,
        chunks_more rest more cs behind reads,
        fits,
        step (limits.body - size_of cs) (joined (parts_of cs)) behind (ap (λ (n : ℕ). limits.body - n) (sym (joined_length cs))) so,
      ),
    )

-- ---- chunk lines

-- the front of a chunk line that is whole
front_line : (p q : List ℕ) (l : ChunkLine) → ReadsLine (p ++ q) l [] → 0 < length q → IsOpenLine p
front_line p q l x some =
    let size : length p + length q ≡ length (print_chunk_line l) =
    omega (arith, length-append p q, ap length x.0.1, length-append (print_chunk_line l) []) in
    let short : length p < 4096 = omega (arith, size, some, x.1) in (
      short,
      (λ k rest y.
          let fits : length (print_chunk_line k) ≤ 4096 = omega (arith, short, ap length y.1, length-append (print_chunk_line k) rest) in
          let same = line_unique (p ++ q) l k [] (rest ++ q) x (ReadsChunkLine-append p k rest q y, fits) in
          omega (arith, some, ap length same.1, length-append rest q)),
      (q, l, x.0),
    )

pub line_goes_on : (old new : FrameReader) (piece part : List ℕ) (room len : ℕ) → old.phase ≡ phase.Line
    → IsPart piece room part → IsLineTurn (old.line.items ++ part) (length old.line.items) (line.Open len)
    → Became old new phase.Line old.waits old.head.items old.body.items (take len (old.line.items ++ part))
    → (IsPartOfLine new.line.items → LineStays new.calm new.line.items)
    → Feeds old piece (len - length old.line.items) new
line_goes_on old new piece part room len is (j, fits, in_room, some, part_is) ((more, inside), begun) now calm =
    let front = grown old.line.items part piece j len part_is fits (omega (arith, more)) inside in
    feeds_of old new piece (len - length old.line.items) front.1 (omega (arith, more))
    (λ limits bytes fed.
    let at = stands_at phase.Line limits old bytes is fed in (
      fed_at phase.Line limits new _ (now.limits_are ∙ fed.limits_are, fed.narrow) now.phase_is
          (record {
            head = omega (arith, ap length now.head_is, fed.within.head);
            data_in = omega (arith, ap length now.body_is, fed.within.data_in);
            line = omega (arith, ap length now.line_is, begun.0);
          })
          (chunks_grow limits old new bytes (take (len - length old.line.items) piece) (IsInLine old) (IsInLine new) at now.head_is now.waits_is
          (λ content behind x.
          let text : take len (old.line.items ++ part) ≡ behind ++ take (len - length old.line.items) piece =
          front.0 ∙ ap (λ (b : List ℕ). b ++ take (len - length old.line.items) piece) x.1 in
          let here : IsOpenLine new.line.items = subst IsOpenLine (sym now.line_is) begun in (
            now.body_is ∙ x.0,
            now.line_is ∙ text,
            subst IsOpenLine text begun,
            subst (LineStays new.calm) (now.line_is ∙ text) (calm (here.1, here.2)),
          ))),
      inl (ap awaits_in now.phase_is),
    ))

-- bytes of which it is known that they leave the line unfinished
pub line_stays : (old new : FrameReader) (piece part : List ℕ) (room : ℕ) → old.phase ≡ phase.Line → 0 < length piece
    → IsPart piece room part → length old.line.items + length part < 4096
    → is_calm (calm_behind old.calm part) ≡ true → new.calm ≡ calm_behind old.calm part
    → Became old new phase.Line old.waits old.head.items old.body.items (old.line.items ++ part)
    → Feeds old piece (length part) new
line_stays old new piece part room is there (j, fits, in_room, some, part_is) few known calm now =
    let size : length part ≡ j = ap length part_is ∙ length-take-le j piece fits in
    let front : take (length part) piece ≡ part = ap (λ (n : ℕ). take n piece) size ∙ sym part_is in
    feeds_of old new piece (length part) (omega (arith, size, fits)) (omega (arith, size, some there))
    (λ limits bytes fed.
    let at = stands_at phase.Line limits old bytes is fed in (
      fed_at phase.Line limits new _ (now.limits_are ∙ fed.limits_are, fed.narrow) now.phase_is
          (record {
            head = omega (arith, ap length now.head_is, fed.within.head);
            data_in = omega (arith, ap length now.body_is, fed.within.data_in);
            line = omega (arith, ap length now.line_is, length-append old.line.items part, few);
          })
          (subst (λ (t : List ℕ). IsInChunks limits new (bytes ++ t) (IsInLine new)) (sym front)
          (chunks_grow limits old new bytes part (IsInLine old) (IsInLine new) at now.head_is now.waits_is
          (λ content behind x. (
            now.body_is ∙ x.0,
            now.line_is ∙ ap (λ (b : List ℕ). b ++ part) x.1,
            (omega (arith, few, length-append behind part, ap length x.1), (x.3 part known).0, (x.3 part known).1),
            subst (λ (c : Calm). LineStays c (behind ++ part)) (sym calm) (stays_on IsPartOfLine old.calm behind part x.3),
          )))),
      inl (ap awaits_in now.phase_is),
    ))

pub line_fails : (old new : FrameReader) (piece part : List ℕ) (room : ℕ) → old.phase ≡ phase.Line
    → 0 < length piece → IsPart piece room part → IsLineTurn (old.line.items ++ part) (length old.line.items) line.Bad
    → length old.line.items < length (old.line.items ++ part)
    → Became old new (phase.BadBody BadChunk) old.waits old.head.items old.body.items old.line.items
    → Feeds old piece 1 new
line_fails old new piece part room is there (j, fits, in_room, some, part_is) bad longer now =
    feeds_of old new piece 1 there (omega arith)
    (λ limits bytes fed.
    let at = stands_at phase.Line limits old bytes is fed in
    let front = grown old.line.items part piece j (length old.line.items + 1) part_is fits (omega arith) (omega (arith, longer)) in
    let first : take (length old.line.items + 1) (old.line.items ++ part) ≡ old.line.items ++ take 1 piece =
    front.0 ∙ ap (λ (n : ℕ). old.line.items ++ take n piece) (one_more (length old.line.items)) in (
      fed_at (phase.BadBody BadChunk) limits new _ (now.limits_are ∙ fed.limits_are, fed.narrow) now.phase_is
          (record {
            head = omega (arith, ap length now.head_is, fed.within.head);
            data_in = omega (arith, ap length now.body_is, fed.within.data_in);
            line = omega (arith, ap length now.line_is, fed.within.line);
          })
          (chunks_fail limits old new bytes (take 1 piece) (IsInLine old) at now.head_is now.waits_is
          (λ left content behind e x. bad_line (subst IsBadLine (first ∙ ap (λ (b : List ℕ). b ++ take 1 piece) x.1) bad))),
      inr (inr (at_first limits old bytes piece fed (ap awaits_in is))),
    ))

-- no trailers have begun
open_trailers_nil : IsOpenTrailers []
open_trailers_nil = (
  omega arith,
  (λ fields last rest x. omega (
    arith,
    ap length x.0.1,
    some last,
    length-append (print_section fields last) rest,
    length-append (flat_map print_field fields) (print_end last),
  )),
  (10 ∷ [], [], lf, ((All-nil IsField, refl), omega arith)),
)
  where
    some : (e : LineEnd) → 0 < length (print_end e)
    some lf = omega arith
    some crlf = omega arith

-- a chunk line is whole
pub line_ends : (old new : FrameReader) (piece part : List ℕ) (room len size : ℕ) (p : Phase) → old.phase ≡ phase.Line
    → IsPart piece room part → IsLineTurn (old.line.items ++ part) (length old.line.items) (line.Whole len size)
    → length old.line.items < len
    → length old.body.items ≤ old.limits.body
    → IsPhaseBehindLine (old.limits.body - length old.body.items) size p
    → Became old new p old.waits old.head.items old.body.items [] → new.calm ≡ Nothing
    → Feeds old piece (len - length old.line.items) new
line_ends old new piece part room len size p is (j, fits, in_room, some, part_is) (l, inside, reads, size_is) longer room_is behind now calm =
    let front = grown old.line.items part piece j len part_is fits (omega (arith, longer)) inside in
    let n = len - length old.line.items in
    feeds_of old new piece n front.1 (omega (arith, longer))
    (λ limits bytes fed.
    let at = stands_at phase.Line limits old bytes is fed in
    let cs = at.4 in
    let content = joined (parts_of cs) in
    let here = at.8 in
    let text : take len (old.line.items ++ part) ≡ at.5 ++ take n piece =
    front.0 ∙ ap (λ (b : List ℕ). b ++ take n piece) here.1 in
    let whole : ReadsLine (at.5 ++ take n piece) l [] = subst (λ (t : List ℕ). ReadsLine t l []) text reads in
    let left : old.limits.body - length old.body.items ≡ limits.body - length content =
    subst (λ (k : FrameLimits). k.body - length old.body.items ≡ limits.body - length content) (sym fed.limits_are)
    (ap (λ (b : List ℕ). limits.body - length b) here.0) in
    let within : IsWithinLimits limits new = record {
      head = omega (arith, ap length now.head_is, fed.within.head);
      data_in = omega (arith, ap length now.body_is, fed.within.data_in);
      line = omega (arith, ap length now.line_is);
    } in
    let grow = chunks_grow limits old new bytes (take n piece) (λ a b. (a ≡ content) × (b ≡ at.5)) in
    let again : IsInChunks limits old bytes (λ a b. (a ≡ content) × (b ≡ at.5)) = (at.0, at.1, at.2, at.3, at.4, at.5, at.6, at.7, (refl, refl)) in
    elim behind [
      | inl e ↦ (
        fed_at p limits new _ (now.limits_are ∙ fed.limits_are, fed.narrow) now.phase_is within
            (subst (λ (q : Phase). StandsIn q limits new (bytes ++ take n piece)) (sym e.1)
            (grow (IsInTrailers new) again now.head_is now.waits_is (λ a b x. (
              l,
              subst (λ (t : List ℕ). ReadsLine t l new.line.items) (ap (λ (t : List ℕ). t ++ take n piece) (sym x.1))
                  (subst (λ (t : List ℕ). ReadsLine (at.5 ++ take n piece) l t) (sym now.line_is) whole),
              size_is ∙ e.0,
              subst IsOpenTrailers (sym now.line_is) open_trailers_nil,
              now.body_is ∙ here.0 ∙ sym x.0,
              nothing_so IsPartOfTrailers new.calm new.line.items calm,
            )))),
        inl (ap awaits_in (now.phase_is ∙ e.1)),
      )
      | inr (inl e) ↦ (
        fed_at p limits new _ (now.limits_are ∙ fed.limits_are, fed.narrow) now.phase_is within
            (subst (λ (q : Phase). StandsIn q limits new (bytes ++ take n piece)) (sym e.1)
            (let has = has_head_more limits bytes (take n piece) at.0 at.1 at.2.has in (
              at.0,
              at.1 ++ take n piece,
              has,
              at.3,
              subst (λ (b : List ℕ). ReadsHead b at.0 []) (sym now.head_is) at.2.kept,
              now.waits_is ∙ at.2.waits,
              body_too_long at.0 (at.1 ++ take n piece) has at.3 (
                cs,
                at.5 ++ take n piece,
                chunks_more at.1 (take n piece) cs at.5 at.6,
                at.7,
                (l, [], whole, omega (arith, e.0, left, joined_length cs, size_is)),
              ),
            ))),
        inr (inr (λ m one.
            let cut = cut_at at.5 piece m n (omega arith) front.1 in
            let begun : IsOpenLine (at.5 ++ take m piece) =
            front_line (at.5 ++ take m piece) (drop m (take n piece)) l (subst (λ (t : List ℕ). ReadsLine t l []) cut.0 whole)
            (omega (arith, cut.1, one)) in
            awaited_no_end limits (bytes ++ take m piece) (expects limits at.0)
            (open_chunked at.0 (at.1 ++ take m piece) (has_head_more limits bytes (take m piece) at.0 at.1 at.2.has) at.3
            (cs, at.5 ++ take m piece, chunks_more at.1 (take m piece) cs at.5 at.6, at.7, open_line begun)))),
      )
      | inr (inr e) ↦ (
        fed_at p limits new _ (now.limits_are ∙ fed.limits_are, fed.narrow) now.phase_is within
            (subst (λ (q : Phase). StandsIn q limits new (bytes ++ take n piece)) (sym e.2) (
              grow (IsInData limits new size []) again now.head_is now.waits_is (λ a b x. (
                l,
                [],
                subst (λ (t : List ℕ). ReadsLine t l []) (ap (λ (t : List ℕ). t ++ take n piece) (sym x.1)) whole,
                omega (arith, e.0, size_is),
                omega (arith, e.1, left, size_is, ap length x.0, ap length here.0, room_is, fed.within.data_in),
                sym (none_and size) ∙ sym size_is,
                now.body_is ∙ here.0 ∙ sym x.0 ∙ sym (append-nil a),
                now.line_is,
              )),
              e.0,
            )),
        inl (ap awaits_in (now.phase_is ∙ e.2)),
      )
    ])

-- ---- data

pub data_goes_on : (old new : FrameReader) (piece part : List ℕ) (left rest : ℕ) (p : Phase) → old.phase ≡ phase.Data left
    → 0 < length piece → 0 < left → part ≡ take left piece → rest ≡ left - length part → IsPhaseOfData rest p
    → Became old new p old.waits old.head.items (old.body.items ++ part) old.line.items
    → Feeds old piece (length part) new
data_goes_on old new piece part left rest p is there more part_is rest_is behind now =
    let size : length part ≡ min left (length piece) = ap length part_is ∙ length-take left piece in
    feeds_of old new piece (length part) (omega (arith, size)) (omega (arith, size, there, more))
    (λ limits bytes fed.
    let at = stands_at (phase.Data left) limits old bytes is fed in
    let d = at.0.8 in
    let front : take (length part) piece ≡ part =
    elim (cases_lt left (length piece)) [
      | inl few ↦ ap (λ (n : ℕ). take n piece) (omega (arith, size, few)) ∙ sym part_is
      | inr all ↦ take_all (length part) piece (omega (arith, size, all)) ∙ sym (take_all left piece all) ∙ sym part_is
    ] in
    let grew : IsInChunks limits new (bytes ++ part) (IsInData limits new rest []) =
    chunks_grow limits old new bytes part (IsInData limits old left []) (IsInData limits new rest []) at.0 now.head_is now.waits_is
    (λ content behind x. (
      x.0,
      x.1 ++ part,
      subst (λ (t : List ℕ). ReadsLine (behind ++ part) x.0 t)
          (ap (λ (t : List ℕ). t ++ part) (append-nil x.1) ∙ sym (append-nil (x.1 ++ part))) (line_more behind part x.0 (x.1 ++ []) x.2),
      x.3,
      x.4,
      omega (arith, x.5, length-append x.1 part, rest_is, size),
      now.body_is ∙ ap (λ (b : List ℕ). b ++ part) x.6 ∙ append_assoc content x.1 part,
      now.line_is ∙ x.7,
    )) in
    let stood : IsInChunks limits new (bytes ++ take (length part) piece) (IsInData limits new rest []) =
    subst (λ (t : List ℕ). IsInChunks limits new (bytes ++ t) (IsInData limits new rest [])) (sym front) grew in
    let within : IsWithinLimits limits new = record {
      head = omega (arith, ap length now.head_is, fed.within.head);
      data_in = omega (arith, grew.8.4, grew.8.5, ap length grew.8.6, length-append (joined (parts_of grew.4)) grew.8.1);
      line = omega (arith, ap length grew.8.7);
    } in
    elim behind [
      | inl e ↦ (
        fed_at p limits new _ (now.limits_are ∙ fed.limits_are, fed.narrow) now.phase_is within
            (subst (λ (q : Phase). StandsIn q limits new (bytes ++ take (length part) piece)) (sym e.1)
            (subst (λ (k : ℕ). IsInChunks limits new (bytes ++ take (length part) piece) (IsInData limits new k [])) e.0 stood)),
        inl (ap awaits_in (now.phase_is ∙ e.1)),
      )
      | inr e ↦ (
        fed_at p limits new _ (now.limits_are ∙ fed.limits_are, fed.narrow) now.phase_is within
            (subst (λ (q : Phase). StandsIn q limits new (bytes ++ take (length part) piece)) (sym e.1) (stood, e.0)),
        inl (ap awaits_in (now.phase_is ∙ e.1)),
      )
    ])

-- ---- behind the data

-- a byte that is not the one that has to follow the data
bad_byte : (limits : FrameLimits) (r : FrameReader) (left b : ℕ) (end : List ℕ) (content behind : List ℕ)
    → IsBadEnd (end ++ b ∷ []) → left ≡ limits.body - length content → IsInData limits r 0 end content behind
    → IsBadChunk left (behind ++ b ∷ [])
bad_byte limits r left b end content behind bad e x =
    let all : chunk_size x.0 ≡ length x.1 = omega (arith, x.5) in
    let tail : (x.1 ++ end) ++ b ∷ [] ≡ x.1 ++ (end ++ b ∷ []) = append_assoc x.1 end (b ∷ []) in
    bad_end x.0 ((x.1 ++ end) ++ b ∷ []) (line_more behind (b ∷ []) x.0 (x.1 ++ end) x.2) x.3 (omega (arith, e, x.4))
    (omega (arith, all, length-append (x.1 ++ end) (b ∷ []), length-append x.1 end))
    (subst IsBadEnd (sym (ap (drop (chunk_size x.0)) tail ∙ behind_part x.1 (end ++ b ∷ []) (chunk_size x.0) all)) bad)

pub data_fails : (old new : FrameReader) (b : ℕ) (rest end : List ℕ) → awaits_more old ≡ true
    → ((limits : FrameLimits) (bytes : List ℕ) → Fed limits old bytes → IsInChunks limits old bytes (IsInData limits old 0 end))
    → IsBadEnd (end ++ b ∷ [])
    → Became old new (phase.BadBody BadChunk) old.waits old.head.items old.body.items old.line.items
    → Feeds old (b ∷ rest) 1 new
data_fails old new b rest end more at bad now =
    feeds_of old new (b ∷ rest) 1 (omega arith) (omega arith)
    (λ limits bytes fed. (
      fed_at (phase.BadBody BadChunk) limits new _ (now.limits_are ∙ fed.limits_are, fed.narrow) now.phase_is
          (record {
            head = omega (arith, ap length now.head_is, fed.within.head);
            data_in = omega (arith, ap length now.body_is, fed.within.data_in);
            line = omega (arith, ap length now.line_is, fed.within.line);
          })
          (chunks_fail limits old new bytes (b ∷ []) (IsInData limits old 0 end) (at limits bytes fed) now.head_is now.waits_is
          (λ left content behind e x. bad_byte limits old left b end content behind bad e x)),
      inr (inr (at_first limits old bytes (b ∷ rest) fed more)),
    ))

pub bad_first : (b : ℕ) → b ≢ 13 → IsBadEnd ([] ++ b ∷ [])
bad_first b other more rest e = let same : b ≡ 13 = cc in other same

pub bad_second : (b : ℕ) → b ≢ 10 → IsBadEnd ((13 ∷ []) ++ b ∷ [])
bad_second b other more rest e = let same : b ≡ 10 = cc in other same

pub return_follows : (old new : FrameReader) (rest : List ℕ) → old.phase ≡ phase.DataEnd
    → Became old new phase.Return old.waits old.head.items old.body.items old.line.items
    → Feeds old (13 ∷ rest) 1 new
return_follows old new rest is now =
    feeds_of old new (13 ∷ rest) 1 (omega arith) (omega arith)
    (λ limits bytes fed. (
      fed_at phase.Return limits new _ (now.limits_are ∙ fed.limits_are, fed.narrow) now.phase_is
          (record {
            head = omega (arith, ap length now.head_is, fed.within.head);
            data_in = omega (arith, ap length now.body_is, fed.within.data_in);
            line = omega (arith, ap length now.line_is, fed.within.line);
          })
          (chunks_grow limits old new bytes (13 ∷ []) (IsInData limits old 0 []) (IsInData limits new 0 (13 ∷ []))
          (stands_at phase.DataEnd limits old bytes is fed) now.head_is now.waits_is
          (λ content behind x. (
            x.0,
            x.1,
            subst (λ (t : List ℕ). ReadsLine (behind ++ 13 ∷ []) x.0 t) (ap (λ (t : List ℕ). t ++ 13 ∷ []) (append-nil x.1))
                (line_more behind (13 ∷ []) x.0 (x.1 ++ []) x.2),
            x.3,
            x.4,
            x.5,
            now.body_is ∙ x.6,
            now.line_is ∙ x.7,
          ))),
      inl (ap awaits_in now.phase_is),
    ))

joined_more : (cs : List Chunk) (c : Chunk) → joined (parts_of (cs ++ c ∷ [])) ≡ joined (parts_of cs) ++ c.bytes
joined_more [] c = append-nil c.bytes
joined_more (d ∷ cs) c = ap (λ (t : List ℕ). d.bytes ++ t) (joined_more cs c) ∙ sym (append_assoc d.bytes (joined (parts_of cs)) c.bytes)

pub chunk_ends : (old new : FrameReader) (rest : List ℕ) → old.phase ≡ phase.Return
    → Became old new phase.Line old.waits old.head.items old.body.items old.line.items → new.calm ≡ Nothing
    → Feeds old (10 ∷ rest) 1 new
chunk_ends old new rest is now calm =
    feeds_of old new (10 ∷ rest) 1 (omega arith) (omega arith)
    (λ limits bytes fed.
    let at = stands_at phase.Return limits old bytes is fed in
    let x = at.8 in
    let c : Chunk = record { line = x.0; bytes = x.1 } in
    let cs = at.4 in
    let all : chunk_size x.0 ≡ length x.1 = omega (arith, x.5) in
    let text : (x.1 ++ 13 ∷ []) ++ 10 ∷ [] ≡ (x.1 ++ 13 ∷ 10 ∷ []) ++ [] =
    append_assoc x.1 (13 ∷ []) (10 ∷ []) ∙ sym (append-nil (x.1 ++ 13 ∷ 10 ∷ [])) in
    let chunk : ReadsChunk (at.5 ++ 10 ∷ []) c [] = record {
      line = subst (λ (t : List ℕ). ReadsLine (at.5 ++ 10 ∷ []) x.0 t) text (line_more at.5 (10 ∷ []) x.0 (x.1 ++ 13 ∷ []) x.2);
      size = all;
      some = omega (arith, all, x.3);
    } in
    let data_is : new.body.items ≡ joined (parts_of (cs ++ c ∷ [])) = now.body_is ∙ x.6 ∙ sym (joined_more cs c) in
    let line : new.line.items ≡ [] = now.line_is ∙ x.7 in (
      fed_at phase.Line limits new _ (now.limits_are ∙ fed.limits_are, fed.narrow) now.phase_is
          (record {
            head = omega (arith, ap length now.head_is, fed.within.head);
            data_in = omega (arith, ap length now.body_is, fed.within.data_in);
            line = omega (arith, ap length now.line_is, fed.within.line);
          }) (
            at.0,
            at.1 ++ 10 ∷ [],
            record {
              has = has_head_more limits bytes (10 ∷ []) at.0 at.1 at.2.has;
              kept = subst (λ (b : List ℕ). ReadsHead b at.0 []) (sym now.head_is) at.2.kept;
              waits = now.waits_is ∙ at.2.waits;
            },
            at.3,
            cs ++ c ∷ [],
            [],
            chunks_and_one (at.1 ++ 10 ∷ []) cs c (at.5 ++ 10 ∷ []) [] (chunks_more at.1 (10 ∷ []) cs at.5 at.6) chunk,
            omega (arith, size_more cs c, all, x.4, joined_length cs),
            (data_is, line, open_line_nil, nothing_so IsPartOfLine new.calm [] calm),
          ),
      inl (ap awaits_in now.phase_is),
    ))

-- ---- trailers

pub trailers_go_on : (old new : FrameReader) (piece part : List ℕ) (room len : ℕ) → old.phase ≡ phase.Trailers
    → IsPart piece room part → IsTrailersTurn (old.line.items ++ part) (length old.line.items) (trailers.Open len)
    → Became old new phase.Trailers old.waits old.head.items old.body.items (take len (old.line.items ++ part))
    → (IsPartOfTrailers new.line.items → TrailersStay new.calm new.line.items)
    → Feeds old piece (len - length old.line.items) new
trailers_go_on old new piece part room len is (j, fits, in_room, some, part_is) ((more, inside), begun) now calm =
    let front = grown old.line.items part piece j len part_is fits (omega (arith, more)) inside in
    let n = len - length old.line.items in
    feeds_of old new piece n front.1 (omega (arith, more))
    (λ limits bytes fed.
    let at = stands_at phase.Trailers limits old bytes is fed in (
      fed_at phase.Trailers limits new _ (now.limits_are ∙ fed.limits_are, fed.narrow) now.phase_is
          (record {
            head = omega (arith, ap length now.head_is, fed.within.head);
            data_in = omega (arith, ap length now.body_is, fed.within.data_in);
            line = omega (arith, ap length now.line_is, begun.0);
          })
          (chunks_grow limits old new bytes (take n piece) (IsInTrailers old) (IsInTrailers new) at now.head_is now.waits_is
          (λ content behind x. (
            x.0,
            subst (λ (t : List ℕ). ReadsLine (behind ++ take n piece) x.0 t) (sym front.0 ∙ sym now.line_is)
                (line_more behind (take n piece) x.0 old.line.items x.1),
            x.2,
            subst IsOpenTrailers (sym now.line_is) begun,
            now.body_is ∙ x.4,
            let here : IsOpenTrailers new.line.items = subst IsOpenTrailers (sym now.line_is) begun in calm (here.1, here.2),
          ))),
      inl (ap awaits_in now.phase_is),
    ))

-- bytes of which it is known that they leave the trailers unfinished
pub trailers_stay : (old new : FrameReader) (piece part : List ℕ) (room : ℕ) → old.phase ≡ phase.Trailers → 0 < length piece
    → IsPart piece room part → length old.line.items + length part < 65536
    → is_calm (calm_behind old.calm part) ≡ true → new.calm ≡ calm_behind old.calm part
    → Became old new phase.Trailers old.waits old.head.items old.body.items (old.line.items ++ part)
    → Feeds old piece (length part) new
trailers_stay old new piece part room is there (j, fits, in_room, some, part_is) few known calm now =
    let size : length part ≡ j = ap length part_is ∙ length-take-le j piece fits in
    let front : take (length part) piece ≡ part = ap (λ (n : ℕ). take n piece) size ∙ sym part_is in
    let short : length (old.line.items ++ part) < 65536 = omega (arith, few, length-append old.line.items part) in
    feeds_of old new piece (length part) (omega (arith, size, fits)) (omega (arith, size, some there))
    (λ limits bytes fed.
    let at = stands_at phase.Trailers limits old bytes is fed in (
      fed_at phase.Trailers limits new _ (now.limits_are ∙ fed.limits_are, fed.narrow) now.phase_is
          (record {
            head = omega (arith, ap length now.head_is, fed.within.head);
            data_in = omega (arith, ap length now.body_is, fed.within.data_in);
            line = omega (arith, ap length now.line_is, short);
          })
          (subst (λ (t : List ℕ). IsInChunks limits new (bytes ++ t) (IsInTrailers new)) (sym front)
          (chunks_grow limits old new bytes part (IsInTrailers old) (IsInTrailers new) at now.head_is now.waits_is
          (λ content behind x. (
            x.0,
            subst (λ (t : List ℕ). ReadsLine (behind ++ part) x.0 t) (sym now.line_is) (line_more behind part x.0 old.line.items x.1),
            x.2,
            subst IsOpenTrailers (sym now.line_is) (short, (x.5 part known).0, (x.5 part known).1),
            now.body_is ∙ x.4,
            subst (λ (c : Calm). TrailersStay c new.line.items) (sym calm)
                (subst (TrailersStay (calm_behind old.calm part)) (sym now.line_is)
                (stays_on IsPartOfTrailers old.calm old.line.items part x.5)),
          )))),
      inl (ap awaits_in now.phase_is),
    ))

pub trailers_fail : (old new : FrameReader) (piece part : List ℕ) (room : ℕ) → old.phase ≡ phase.Trailers
    → 0 < length piece → IsPart piece room part → IsTrailersTurn (old.line.items ++ part) (length old.line.items) trailers.Bad
    → length old.line.items < length (old.line.items ++ part)
    → Became old new (phase.BadBody BadChunk) old.waits old.head.items old.body.items old.line.items
    → Feeds old piece 1 new
trailers_fail old new piece part room is there (j, fits, in_room, some, part_is) bad longer now =
    feeds_of old new piece 1 there (omega arith)
    (λ limits bytes fed.
    let at = stands_at phase.Trailers limits old bytes is fed in
    let front = grown old.line.items part piece j (length old.line.items + 1) part_is fits (omega arith) (omega (arith, longer)) in
    let first : take (length old.line.items + 1) (old.line.items ++ part) ≡ old.line.items ++ take 1 piece =
    front.0 ∙ ap (λ (n : ℕ). old.line.items ++ take n piece) (one_more (length old.line.items)) in (
      fed_at (phase.BadBody BadChunk) limits new _ (now.limits_are ∙ fed.limits_are, fed.narrow) now.phase_is
          (record {
            head = omega (arith, ap length now.head_is, fed.within.head);
            data_in = omega (arith, ap length now.body_is, fed.within.data_in);
            line = omega (arith, ap length now.line_is, fed.within.line);
          })
          (chunks_fail limits old new bytes (take 1 piece) (IsInTrailers old) at now.head_is now.waits_is
          (λ left content behind e x.
          bad_trailers x.0 (old.line.items ++ take 1 piece) (line_more behind (take 1 piece) x.0 old.line.items x.1) x.2
          (subst IsBadTrailers first bad))),
      inr (inr (at_first limits old bytes piece fed (ap awaits_in is))),
    ))

pub trailers_end : (old new : FrameReader) (piece part : List ℕ) (room len : ℕ) → old.phase ≡ phase.Trailers
    → IsPart piece room part → IsTrailersTurn (old.line.items ++ part) (length old.line.items) (trailers.Whole len)
    → length old.line.items < len
    → Became old new phase.Whole old.waits old.head.items old.body.items []
    → Feeds old piece (len - length old.line.items) new
trailers_end old new piece part room len is (j, fits, in_room, some, part_is) (fields, last, inside, reads) longer now =
    let front = grown old.line.items part piece j len part_is fits (omega (arith, longer)) inside in
    let n = len - length old.line.items in
    feeds_of old new piece n front.1 (omega (arith, longer))
    (λ limits bytes fed.
    let at = stands_at phase.Trailers limits old bytes is fed in
    let x = at.8 in
    let ends : ReadsEnd (at.5 ++ take n piece) [] = record {
      line = x.0;
      middle = old.line.items ++ take n piece;
      reads_line = line_more at.5 (take n piece) x.0 old.line.items x.1;
      size = x.2;
      fields = fields;
      last = last;
      reads_trailers = subst (λ (t : List ℕ). ReadsShortTrailers t fields last []) front.0 reads;
    } in
    let end : IsAtEnd limits new (bytes ++ take n piece) = (
      at.0,
      parts_of at.4,
      whole_chunked (at.1 ++ take n piece) at.4 (at.5 ++ take n piece) (has_head_more limits bytes (take n piece) at.0 at.1 at.2.has)
          at.3 (chunks_more at.1 (take n piece) at.4 at.5 at.6) at.7 ends refl,
      subst (λ (b : List ℕ). ReadsHead b at.0 []) (sym now.head_is) at.2.kept,
      now.waits_is ∙ at.2.waits,
      now.body_is ∙ x.4,
    ) in (
      fed_at phase.Whole limits new _ (now.limits_are ∙ fed.limits_are, fed.narrow) now.phase_is
          (record {
            head = omega (arith, ap length now.head_is, fed.within.head);
            data_in = omega (arith, ap length now.body_is, fed.within.data_in);
            line = omega (arith, ap length now.line_is);
          })
          end,
      inr (inl end),
    ))

-- ---- want of memory

pub line_kept : (old new : FrameReader) → old.phase ≡ phase.Line
    → Became old new phase.Line old.waits old.head.items old.body.items old.line.items → new.calm ≡ old.calm → KeepsFed old new
line_kept old new is now calm = (
  ap awaits_in (now.phase_is ∙ sym is),
  λ limits bytes fed.
      let at = stands_at phase.Line limits old bytes is fed in
      fed_at phase.Line limits new bytes (now.limits_are ∙ fed.limits_are, fed.narrow) now.phase_is
      (record {
        head = omega (arith, ap length now.head_is, fed.within.head);
        data_in = omega (arith, ap length now.body_is, fed.within.data_in);
        line = omega (arith, ap length now.line_is, fed.within.line);
      }) (
        at.0,
        at.1,
        record {
          has = at.2.has;
          kept = subst (λ (b : List ℕ). ReadsHead b at.0 []) (sym now.head_is) at.2.kept;
          waits = now.waits_is ∙ at.2.waits;
        },
        at.3,
        at.4,
        at.5,
        at.6,
        at.7,
        (now.body_is ∙ at.8.0, now.line_is ∙ at.8.1, at.8.2, subst (λ (c : Calm). LineStays c at.5) (sym calm) at.8.3),
      ),
)

pub trailers_kept : (old new : FrameReader) → old.phase ≡ phase.Trailers
    → Became old new phase.Trailers old.waits old.head.items old.body.items old.line.items → new.calm ≡ old.calm → KeepsFed old new
trailers_kept old new is now calm = (
  ap awaits_in (now.phase_is ∙ sym is),
  λ limits bytes fed.
      let at = stands_at phase.Trailers limits old bytes is fed in
      fed_at phase.Trailers limits new bytes (now.limits_are ∙ fed.limits_are, fed.narrow) now.phase_is
      (record {
        head = omega (arith, ap length now.head_is, fed.within.head);
        data_in = omega (arith, ap length now.body_is, fed.within.data_in);
        line = omega (arith, ap length now.line_is, fed.within.line);
      }) (
        at.0,
        at.1,
        record {
          has = at.2.has;
          kept = subst (λ (b : List ℕ). ReadsHead b at.0 []) (sym now.head_is) at.2.kept;
          waits = now.waits_is ∙ at.2.waits;
        },
        at.3,
        at.4,
        at.5,
        at.6,
        at.7,
        (
          at.8.0,
          subst (λ (t : List ℕ). ReadsLine at.5 at.8.0 t) (sym now.line_is) at.8.1,
          at.8.2,
          subst IsOpenTrailers (sym now.line_is) at.8.3,
          now.body_is ∙ at.8.4,
          subst (λ (c : Calm). TrailersStay c new.line.items) (sym calm) (subst (TrailersStay old.calm) (sym now.line_is) at.8.5),
        ),
      ),
)
