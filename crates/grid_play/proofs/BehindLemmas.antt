-- What stands behind a request in some bytes is told by them.
use Rattle.std.proofs.Common.{◌≡◌, ℕ, List, [], ◌∷◌, ◌++◌, length, drop, refl, sym, ap, subst, ◌∙◌, arith, append_assoc}
use Rattle.std.proofs.lemmas.List.{append_cancel_left, drop_at}
use Rattle.httparse.specs.Grammar.{RequestHead, print_request, ChunkLine, chunk_size}
use Rattle.httparse.proofs.GrammarLemmas.{section_unique}
use Rattle.httparse.proofs.ChunkLemmas.{chunk_line_unique}
use Rattle.http_frames.specs.declared.frames.FrameLimits.{FrameLimits}
use Rattle.http_frames.specs.declared.frames.TheConstants.{LIMITS}
use Rattle.http_frames.specs.Chunks.{Chunk, ReadsLine, ReadsShortTrailers, ReadsChunk, ReadsChunks, ReadsEnd}
use Rattle.http_frames.specs.Frames.{Request, IsWhole, whole_sized, whole_chunked, HasHead}
use Rattle.hub_conn.specs.Conversation.{BeginsWith}

line_one : (t : List ℕ) (l k : ChunkLine) (r q : List ℕ) → ReadsLine t l r → ReadsLine t k q → (l ≡ k) × (r ≡ q)
line_one t l k r q x y = chunk_line_unique t l k r q x.0 y.0

head_one : (limits : FrameLimits) (bytes : List ℕ) (h : RequestHead) (r q : List ℕ) → HasHead limits bytes h r → HasHead limits bytes h q → r ≡ q
head_one limits bytes h r q x y = append_cancel_left (print_request h) r q (sym x.0.0.1 ∙ y.0.0.1)

-- what stands behind a chunk
chunk_one : (t m n : List ℕ) (c d : Chunk) → ReadsChunk t c m → ReadsChunk t d n → m ≡ n
chunk_one t m n c d x y =
    let line = line_one t c.line d.line _ _ x.line y.line in
    let len : length c.bytes ≡ length d.bytes = sym x.size ∙ ap chunk_size line.0 ∙ y.size in
    let regroup : (k : Chunk) (u : List ℕ) → k.bytes ++ (13 ∷ 10 ∷ []) ++ u ≡ k.bytes ++ (13 ∷ 10 ∷ u) =
    λ k u. append_assoc k.bytes (13 ∷ 10 ∷ []) u in
    let both : c.bytes ++ (13 ∷ 10 ∷ m) ≡ d.bytes ++ (13 ∷ 10 ∷ n) = sym (regroup c m) ∙ line.1 ∙ regroup d n in
    let rest : 13 ∷ 10 ∷ m ≡ 13 ∷ 10 ∷ n =
    sym (drop_at c.bytes (13 ∷ 10 ∷ m) (length d.bytes) len) ∙ ap (drop (length d.bytes)) both
    ∙ drop_at d.bytes (13 ∷ 10 ∷ n) (length d.bytes) refl in
    ap (drop 2) rest

-- where the chunks end there is no further one
chunk_no_end : (t m r : List ℕ) (c : Chunk) → ReadsChunk t c m → ReadsEnd t r → ⊥
chunk_no_end t m r c x y =
    let line = line_one t c.line y.line _ _ x.line y.reads_line in
    omega (arith, x.some, x.size, y.size, ap chunk_size line.0)

end_one : (t r q : List ℕ) → ReadsEnd t r → ReadsEnd t q → r ≡ q
end_one t r q x y =
    let line = line_one t x.line y.line x.middle y.middle x.reads_line y.reads_line in
    let short = subst (λ (m : List ℕ). ReadsShortTrailers m x.fields x.last r) line.1 x.reads_trailers in
    (section_unique y.middle x.fields y.fields x.last y.last r q short.0.0 y.reads_trailers.0.0).2

-- what stands behind a chunked body
chunks_one : (cs ds : List Chunk) (t a b r q : List ℕ) → ReadsChunks t cs a → ReadsEnd a r → ReadsChunks t ds b → ReadsEnd b q → r ≡ q
chunks_one [] [] t a b r q x e y f =
    end_one t r q (subst (λ (u : List ℕ). ReadsEnd u r) (sym x) e) (subst (λ (u : List ℕ). ReadsEnd u q) (sym y) f)
chunks_one [] (d ∷ ds) t a b r q x e y f = absurd (chunk_no_end t y.0 r d y.1 (subst (λ (u : List ℕ). ReadsEnd u r) (sym x) e))
chunks_one (c ∷ cs) [] t a b r q x e y f = absurd (chunk_no_end t x.0 q c x.1 (subst (λ (u : List ℕ). ReadsEnd u q) (sym y) f))
chunks_one (c ∷ cs) (d ∷ ds) t a b r q x e y f =
    let same = chunk_one t x.0 y.0 c d x.1 y.1 in
    chunks_one cs ds x.0 a b r q x.2 e (subst (λ (u : List ℕ). ReadsChunks u ds b) (sym same) y.2) f

-- what stands behind a request
behind_one : (limits : FrameLimits) (bytes : List ℕ) (h : RequestHead) (parts : List (List ℕ)) (r q : List ℕ) → IsWhole limits bytes h parts r →
    IsWhole limits bytes h parts q → r ≡ q
behind_one limits bytes h parts r q (whole_sized a n has framed fits are behind) (whole_sized b m has_too framed_too fits_too are_too behind_too) =
    let rest = head_one limits bytes h a b has has_too in
    let same = sym framed ∙ framed_too in
    let size : n ≡ m = cc in
    behind ∙ ap (λ (k : ℕ). drop k a) size ∙ ap (drop m) rest ∙ sym behind_too
behind_one limits bytes h parts r q (whole_sized a n has framed fits are behind) (whole_chunked b ds last has_too framed_too chunks few ends are_too) =
    let e = sym framed ∙ framed_too in cc
behind_one limits bytes h parts r q (whole_chunked a cs last has framed chunks few ends are) (whole_sized b m has_too framed_too fits_too are_too behind_too) =
    let e = sym framed_too ∙ framed in cc
behind_one limits bytes h parts r q (whole_chunked a cs last has framed chunks few ends are) (whole_chunked b ds end has_too framed_too chunks_too few_too ends_too are_too) =
    let rest = head_one limits bytes h a b has has_too in
    chunks_one cs ds a last end r q chunks ends (subst (λ (u : List ℕ). ReadsChunks u ds end) (sym rest) chunks_too) ends_too

-- what stands behind some requests
pub rest_one : (requests : List Request) (bytes r q : List ℕ) → BeginsWith bytes requests r → BeginsWith bytes requests q → r ≡ q
rest_one [] bytes r q x y = sym x ∙ y
rest_one (f ∷ requests) bytes r q x y =
    let same = behind_one LIMITS bytes f.0 f.1 x.0 y.0 x.1 y.1 in
    rest_one requests x.0 r q x.3 (subst (λ (u : List ℕ). BeginsWith u requests q) (sym same) y.3)
