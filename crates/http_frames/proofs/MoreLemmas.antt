-- What is whole or refused stays so, whatever bytes follow.
use Rattle.std.proofs.Common.{◌≡◌, ℕ, ◌+◌, ◌-◌, Bool, true, List, [], ◌∷◌, ◌++◌, length, take, drop, refl, sym, ap, ◌∙◌, subst, arith, append_assoc, append-nil, length-append, inl, inr}
use Rattle.std.proofs.lemmas.Bool.{cases_lt}
use Rattle.std.proofs.lemmas.List.{take_all, take-append-le, drop-append-le, nil_from_length}
use Rattle.std.proofs.lemmas.List.Elements.{All-nil, All-cons, All-head, All-tail}
use Rattle.std.proofs.lemmas.Str.{IsUtf8-from_ascii}
use Rattle.std.proofs.lemmas.Str.Ascii.{IsAscii-cons, IsAscii-nil}
use Rattle.httparse.specs.Grammar.{LineEnd, lf, AllPass, is_uri_byte, print_blank, print_version, RequestHead, IsRequestHead, print_request, ChunkLine, NeverHasChunkLine, chunk_size}
use Rattle.httparse.proofs.GrammarLemmas.{ReadsRequest-append, print_request-append, request_unique}
use Rattle.httparse.proofs.ChunkLemmas.{ReadsChunkLine-append}
use Rattle.http_frames.specs.declared.FrameFault.{FrameFault}
use Rattle.http_frames.specs.declared.fields.Framing.{Framing}
use Rattle.http_frames.specs.declared.fields.Framing.TheVariants.{Sized, Chunked, Faulty}
use Rattle.http_frames.specs.declared.frames.FrameLimits.{FrameLimits}
use Rattle.http_frames.specs.Heads.{is_awaited_byte, EndsInsideTarget, IsBadHead, IsOpenHead, NeverHasHead}
use Rattle.http_frames.specs.Chunks.{ReadsLine, IsBadLine, NeverHasTrailers, IsBadTrailers, Chunk, size_of, parts_of, ReadsChunks, ReadsEnd, IsBadEnd, IsLargeChunk, IsBadChunk, bad_line, bad_end, bad_trailers}
use Rattle.http_frames.specs.Frames.{IsBody, Spells, HasHead, IsRefused, bad_head, head_too_long, bad_framing, body_too_long, bad_chunk, IsWhole, whole_sized, whole_chunked}
use Rattle.http_frames.proofs.RoomLemmas.{cut_of}
use Rattle.http_frames.proofs.FrameLemmas.{chunks_cut, end_cut}
use Rattle.http_frames.specs.Fields.{headers_of, call_of}
use Rattle.http_frames.proofs.UniqueLemmas.{take_over, ends, body_unique}

-- the first k bytes stay, or grow
pub take_grows : (P : List ℕ → Type 0) (k : ℕ) (t more : List ℕ) → ((m : List ℕ) → P t → P (t ++ m)) → P (take k t) → P (take k (t ++ more))
take_grows P k t more grow x =
    elim (cases_lt k (length t)) [
      | inl h ↦ subst P (sym (take-append-le k t more (omega arith))) x
      | inr h ↦ subst P (sym (take_over t more k h)) (grow (take (k - length t) more) (subst P (take_all k t h) x))
    ]

-- ---- heads

pub all_front : (test : ℕ → Bool) (x m : List ℕ) → AllPass test (x ++ m) → AllPass test x
all_front test [] m all = All-nil (λ v. test v ≡ true)
all_front test (b ∷ x) m all =
    let P : ℕ → Type 0 = λ v. test v ≡ true in
    All-cons P b x (All-head P b (x ++ m) all) (all_front test x m (All-tail P b (x ++ m) all))

never_head_more : (t m : List ℕ) → NeverHasHead t → NeverHasHead (t ++ m)
never_head_more t m never more h rest x =
    never (m ++ more) h rest ((x.0.0, sym (append_assoc t m more) ∙ x.0.1), x.1)

-- the shortest head behind a method
abbrev pub shortest : List LineEnd → List ℕ → RequestHead
shortest blank method = record { blank = blank; method = method; target = 47 ∷ []; minor = 0; line_end = lf; fields = []; last = lf }

pub bad_head_more : (t m : List ℕ) → IsBadHead t → IsBadHead (t ++ m)
bad_head_more t m b = (outside, never_head_more t m b.1)
  where
    outside : ¬ (EndsInsideTarget (t ++ m))
    outside x =
        let start = print_blank x.0 ++ (x.1 ++ 32 ∷ []) in
        let cut : t ++ m ≡ start ++ x.2 =
        x.5 ∙ append_assoc (print_blank x.0) x.1 (32 ∷ x.2)
        ∙ ap (λ (u : List ℕ). print_blank x.0 ++ u) (sym (append_assoc x.1 (32 ∷ []) x.2))
        ∙ sym (append_assoc (print_blank x.0) (x.1 ++ 32 ∷ []) x.2) in
        elim (cut_of t m start x.2 cut) [
          | inl k ↦
              b.0 (
                x.0,
                x.1,
                k.0,
                x.3,
                all_front is_awaited_byte k.0 m (subst (AllPass is_awaited_byte) k.2 x.4),
                k.1 ∙ append_assoc (print_blank x.0) (x.1 ++ 32 ∷ []) k.0
                    ∙ ap (λ (u : List ℕ). print_blank x.0 ++ u) (append_assoc x.1 (32 ∷ []) k.0)
                    ∙ sym (append_assoc (print_blank x.0) x.1 (32 ∷ k.0)),
              )
          | inr k ↦
              let tail = 47 ∷ 32 ∷ (print_version 0 ++ (10 ∷ 10 ∷ [])) in
              let ok : IsRequestHead (shortest x.0 x.1) = record {
                method = x.3;
                target = (omega arith, All-cons (λ v. is_uri_byte v ≡ true) 47 [] refl (All-nil (λ v. is_uri_byte v ≡ true)));
                target_text = IsUtf8-from_ascii (47 ∷ []) (IsAscii-cons 47 [] (omega arith) IsAscii-nil);
                minor = omega arith;
                fields = All-nil _;
              } in
              let print : print_request (shortest x.0 x.1) ++ [] ≡ start ++ tail =
              print_request-append (shortest x.0 x.1) []
              ∙ ap (λ (u : List ℕ). print_blank x.0 ++ u) (sym (append_assoc x.1 (32 ∷ []) tail))
              ∙ sym (append_assoc (print_blank x.0) (x.1 ++ 32 ∷ []) tail) in
              b.1 ((k.0 ∷ k.1) ++ tail) (shortest x.0 x.1) []
              ((ok, sym (append_assoc t (k.0 ∷ k.1) tail) ∙ ap (λ (u : List ℕ). u ++ tail) (sym k.2) ∙ sym print), omega arith)
        ]

pub has_head_more : (limits : FrameLimits) (buf more : List ℕ) (h : RequestHead) (rest : List ℕ)
    → HasHead limits buf h rest → HasHead limits (buf ++ more) h (rest ++ more)
has_head_more limits buf more h rest x = ((ReadsRequest-append buf h rest more x.0.0, x.0.1), x.1)

-- ---- chunks

pub line_more : (t more : List ℕ) (l : ChunkLine) (rest : List ℕ) → ReadsLine t l rest → ReadsLine (t ++ more) l (rest ++ more)
line_more t more l rest x = (ReadsChunkLine-append t l rest more x.0, x.1)

never_line_more : (t m : List ℕ) → NeverHasChunkLine t → NeverHasChunkLine (t ++ m)
never_line_more t m never more l rest x = never (m ++ more) l rest (x.0, sym (append_assoc t m more) ∙ x.1)

pub bad_line_more : (t more : List ℕ) → IsBadLine t → IsBadLine (t ++ more)
bad_line_more t more (inl never) = inl (take_grows NeverHasChunkLine 4096 t more (λ m. never_line_more t m) never)
bad_line_more t more (inr long) =
    inr (
      omega (arith, long.0, length-append t more),
      λ l rest x. long.1 l rest (x.0, sym (take-append-le 4096 t more long.0) ∙ x.1),
    )

never_trailers_more : (t m : List ℕ) → NeverHasTrailers t → NeverHasTrailers (t ++ m)
never_trailers_more t m never more fs e rest x =
    never (m ++ more) fs e rest ((x.0.0, sym (append_assoc t m more) ∙ x.0.1), x.1)

pub bad_trailers_more : (t more : List ℕ) → IsBadTrailers t → IsBadTrailers (t ++ more)
bad_trailers_more t more (inl never) = inl (take_grows NeverHasTrailers 65536 t more (λ m. never_trailers_more t m) never)
bad_trailers_more t more (inr long) =
    inr (
      omega (arith, long.0, length-append t more),
      λ fs e rest x. long.1 fs e rest ((x.0.0, sym (take-append-le 65536 t more long.0) ∙ x.0.1), x.1),
    )

bad_end_more : (t m : List ℕ) → IsBadEnd t → IsBadEnd (t ++ m)
bad_end_more t m b more rest e = b (m ++ more) rest (sym (append_assoc t m more) ∙ e)

large_more : (left : ℕ) (t more : List ℕ) → IsLargeChunk left t → IsLargeChunk left (t ++ more)
large_more left t more x = (x.0, x.1 ++ more, line_more t more x.0 x.1 x.2, x.3)

bad_chunk_more : (left : ℕ) (t more : List ℕ) → IsBadChunk left t → IsBadChunk left (t ++ more)
bad_chunk_more left t more (bad_line b) = bad_line (bad_line_more t more b)
bad_chunk_more left t more (bad_end l rest x some fits there b) =
    bad_end l (rest ++ more) (line_more t more l rest x) some fits (omega (arith, there, length-append rest more))
    (subst IsBadEnd (sym (drop-append-le (chunk_size l) rest more there)) (bad_end_more (drop (chunk_size l) rest) more b))
bad_chunk_more left t more (bad_trailers l rest x none b) =
    bad_trailers l (rest ++ more) (line_more t more l rest x) none (bad_trailers_more rest more b)

pub chunks_more : (t more : List ℕ) (cs : List Chunk) (u : List ℕ) → ReadsChunks t cs u → ReadsChunks (t ++ more) cs (u ++ more)
chunks_more t more cs u x =
    let a = chunks_cut cs t u x in
    subst (λ (s : List ℕ). ReadsChunks s cs (u ++ more))
    (sym (append_assoc a.0 u more) ∙ ap (λ (s : List ℕ). s ++ more) (sym a.1)) (a.2 (u ++ more))

pub end_more : (t more r : List ℕ) → ReadsEnd t r → ReadsEnd (t ++ more) (r ++ more)
end_more t more r x =
    let a = end_cut t r x in
    subst (λ (s : List ℕ). ReadsEnd s (r ++ more))
    (sym (append_assoc a.0 r more) ∙ ap (λ (s : List ℕ). s ++ more) (sym a.1)) (a.2 (r ++ more))

-- ---- requests

pub whole_more : (limits : FrameLimits) (buf more : List ℕ) (h : RequestHead) (parts : List (List ℕ)) (behind : List ℕ)
    → IsWhole limits buf h parts behind → IsWhole limits (buf ++ more) h parts (behind ++ more)
whole_more limits buf more h parts behind (whole_sized rest n has framing fits parts_are behind_is) =
    whole_sized (rest ++ more) n (has_head_more limits buf more h rest has) framing (omega (arith, fits, length-append rest more))
    (parts_are ∙ ap (λ (t : List ℕ). t ∷ []) (sym (take-append-le n rest more fits)))
    (ap (λ (t : List ℕ). t ++ more) behind_is ∙ sym (drop-append-le n rest more fits))
whole_more limits buf more h parts behind (whole_chunked rest cs last has framing chunks fits end parts_are) =
    whole_chunked (rest ++ more) cs (last ++ more) (has_head_more limits buf more h rest has) framing
    (chunks_more rest more cs last chunks) fits (end_more last more behind end) parts_are

pub refused_more : (limits : FrameLimits) (buf more : List ℕ) (why : FrameFault) → IsRefused limits buf why → IsRefused limits (buf ++ more) why
refused_more limits buf more why (bad_head b) =
    bad_head (take_grows IsBadHead limits.head buf more (λ m. bad_head_more buf m) b)
refused_more limits buf more why (head_too_long o le) =
    head_too_long (subst IsOpenHead (sym (take-append-le limits.head buf more le)) o) (omega (arith, le, length-append buf more))
refused_more limits buf more why (bad_framing h rest why' has framing) =
    bad_framing h (rest ++ more) why (has_head_more limits buf more h rest has) framing
refused_more limits buf more why (body_too_long h rest has framing x) =
    body_too_long h (rest ++ more) (has_head_more limits buf more h rest has) framing
    (x.0, x.1 ++ more, chunks_more rest more x.0 x.1 x.2, x.3, large_more _ x.1 more x.4)
refused_more limits buf more why (bad_chunk h rest has framing x) =
    bad_chunk h (rest ++ more) (has_head_more limits buf more h rest has) framing
    (x.0, x.1 ++ more, chunks_more rest more x.0 x.1 x.2, x.3, bad_chunk_more _ x.1 more x.4)

-- ---- spellings

same_end : (r q : List ℕ) → ends r ≡ ends q → r ≡ q
same_end r q e = cc

longer_body : (f : Framing) (r more : List ℕ) (parts qs : List (List ℕ)) → IsBody f r parts → IsBody f (r ++ more) qs
    → (more ≡ []) × (parts ≡ qs)
longer_body (Faulty why) r more parts qs x y = absurd x
longer_body (Sized n) r more parts qs x y =
    let none : more ≡ [] = nil_from_length more (omega (arith, x.0, y.0, length-append r more)) in (
      none,
      x.1 ∙ ap (λ (t : List ℕ). t ∷ []) (sym (append-nil r) ∙ ap (λ (m : List ℕ). r ++ m) (sym none)) ∙ sym y.1,
    )
longer_body Chunked r more parts qs x y =
    let limit = size_of x.0 + size_of y.0 in
    let same = body_unique limit (r ++ more) x.0 y.0 (x.1 ++ more) y.1 (ends more) (ends [])
    (chunks_more r more x.0 x.1 x.2) (omega arith) (end_more x.1 more [] x.3) y.2 (omega arith) y.3 in
    (same_end more [] same.1, x.4 ∙ ap parts_of same.0 ∙ sym y.4)

-- no spelling is the beginning of another, and none is of two requests
pub one_spelling : (bytes more : List ℕ) (h k : RequestHead) (parts qs : List (List ℕ)) → Spells bytes h parts → Spells (bytes ++ more) k qs
    → (more ≡ []) × (h ≡ k) × (parts ≡ qs)
one_spelling bytes more h k parts qs x y =
    let head = request_unique (bytes ++ more) h k (x.rest ++ more) y.rest (ReadsRequest-append bytes h x.rest more x.head.0) y.head.0 in
    let body = longer_body (call_of (headers_of k)) x.rest more parts qs
    (subst (λ (g : RequestHead). IsBody (call_of (headers_of g)) x.rest parts) head.0 x.body)
    (subst (λ (t : List ℕ). IsBody (call_of (headers_of k)) t qs) (sym head.1) y.body) in
    (body.0, head.0, body.1)
