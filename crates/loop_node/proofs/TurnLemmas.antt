-- One turn of a connection, over plain values.
use Rattle.std.proofs.Common.{◌≡◌, ◌≢◌, ◌==◌, ℕ, ◌+◌, ◌-◌, ◌<◌, ◌≤◌, ◌⊎◌, inl, inr, Bool, true, false, not, List, [], ◌∷◌, ◌++◌, length, take, drop, Result, Ok, Err, IfOk, OnErr, refl, sym, ap, subst, ◌∙◌, append_assoc, append-nil, length-append, length-drop, arith}
use Rattle.std.proofs.lemmas.Bool.{false≢true}
use Rattle.std.proofs.lemmas.Bool.Decides.{nat_tests}
use Rattle.std.proofs.lemmas.List.{take-append-drop, length-take, length-take-le}
use Rattle.std.proofs.Math.Seq.{drop-append_seam}
use Rattle.httparse.specs.Grammar.{RequestHead, print_request, print_blank, print_version, print_end, print_section}
use Rattle.http_frames.specs.declared.FrameFault.{FrameFault}
use Rattle.http_frames.specs.Fields.{has_body}
use Rattle.http_frames.specs.declared.frames.FrameLimits.{FrameLimits}
use Rattle.http_frames.specs.declared.frames.TheConstants.{LIMITS}
use Rattle.http_frames.specs.declared.replies.NodeReply.{NodeReply}
use Rattle.http_frames.specs.Heads.{ReadsHead}
use Rattle.http_frames.specs.Frames.{IsBody, Spells, IsRefused, IsAwaited, IsWhole, whole_sized, whole_chunked, IsAccepted, Request, End, closed, asked, cut, refused, IsEnd, closes, FramesFrom, Frames}
use Rattle.grid_outside.specs.Counts.{Rose}
use Rattle.loop_node.specs.declared.incoming.Incoming.{Incoming}
use Rattle.loop_node.specs.declared.incoming.TheConstants.{MOST_BYTES}
use Rattle.loop_node.specs.Sessions.{Node}
use Rattle.loop_node.specs.Replies.{Answers}
use Rattle.loop_node.specs.Serving.{ask_in, reply_bytes, go_on, response_to, Serves, Waits, refusal, LastWords, Served, Spelled, IsWaiting, Words, going_on, refusing, CutShort}
use Rattle.grid_outside.specs.Told.{LinkView}
use Rattle.grid_outside.specs.StreamLaws.{rose_later}
use Rattle.loop_node.specs.Connections.{Moved, IsLast, ServedOver, BrokenOff, ReadsOn, SpellsOn, Serving, ServingOver, Responds, further, AfterTurn, HasRead, HasEndedHere, IsRead, WroteFront, StopsAt, unanswered, answered, ReadSome, TellsFront, work}
use Rattle.loop_node.proofs.WritingLemmas.{moved_none, moved_wrote, moved_read}

-- ---- heads

cons-append : (x : ℕ) (a b : List ℕ) → (x ∷ a) ++ b ≡ x ∷ (a ++ b)
cons-append x a b = refl

grouped : (a b c d e f : List ℕ) → a ++ b ++ 32 ∷ c ++ 32 ∷ d ++ e ++ f ≡ a ++ (b ++ (32 ∷ (c ++ (32 ∷ (d ++ (e ++ f))))))
grouped a b c d e f = simp (append_assoc, cons-append)

two_some : (a b : List ℕ) (x : ℕ) (c : List ℕ) → 0 < length (a ++ (b ++ (x ∷ c)))
two_some a b x c = omega (arith, length-append a (b ++ (x ∷ c)), length-append b (x ∷ c))

some_bytes : (a b c d e f : List ℕ) → 0 < length (a ++ b ++ 32 ∷ c ++ 32 ∷ d ++ e ++ f)
some_bytes a b c d e f =
    let e2 = ap length (grouped a b c d e f) in
    omega (arith, e2, two_some a b 32 (c ++ (32 ∷ (d ++ (e ++ f)))))

head_some : (h : RequestHead) → 0 < length (print_request h)
unfolding print_request
head_some h = some_bytes (print_blank h.blank) h.method h.target (print_version h.minor) (print_end h.line_end) (print_section h.fields h.last)

-- what spells a request is not empty
pub spelled_some : (n : ℕ) (buf : List ℕ) (h : RequestHead) (parts : List (List ℕ)) → Spells (take n buf) h parts → 0 < n
spelled_some n buf h parts s =
    let e = ap length s.head.0.1 in
    omega (arith, e, length-append (print_request h) s.rest, head_some h, length-take n buf)

no_head : (h : RequestHead) (rest : List ℕ) → ReadsHead [] h rest → ⊥
no_head h rest r =
    let e = ap length r.0.1 in
    omega (arith, e, length-append (print_request h) rest, head_some h)

accepted_more : (buf more : List ℕ) (h : RequestHead) → IsAccepted LIMITS buf h → IsAccepted LIMITS (buf ++ more) h
accepted_more buf more h a =
    (a.0 ++ more, (((a.1.0.0.0, ap (λ (t : List ℕ). t ++ more) a.1.0.0.1 ∙ append_assoc (print_request h) a.0 more), a.1.0.1), a.1.1), a.2)

waiting_more : (buf more : List ℕ) → IsWaiting buf → IsWaiting (buf ++ more)
waiting_more buf more w = (w.0, accepted_more buf more w.0 w.1, w.2)

not_waiting : IsWaiting [] → ⊥
not_waiting w = no_head w.0 w.1.0 w.1.1.0

whole_accepted : (buf : List ℕ) (h : RequestHead) (parts : List (List ℕ)) (behind : List ℕ) → IsWhole LIMITS buf h parts behind → IsAccepted LIMITS buf h
whole_accepted buf h parts behind (whole_sized rest n has framing le p b) =
    (rest, has, λ why f. subst (λ k. IsBody k (take n rest) (take n rest ∷ [])) (sym framing ∙ f) (length-take-le n rest le, refl))
whole_accepted buf h parts behind (whole_chunked rest cs last has framing reads small ends p) = (rest, has, λ why f. false≢true (sym (ap has_body (sym framing ∙ f))))

-- ---- a client that waits

told_same : (rest : List ℕ) (waits : Bool) → IsWaiting rest → Waits rest waits → waits ≡ true
told_same rest waits w k = k.accepted w.0 w.1 ∙ w.2

told_more : (told waits : Bool) → (told ≡ true → waits ≡ true) → go_on told ++ further told waits ≡ go_on waits
told_more true true h = refl
told_more true false h = absurd (false≢true (h refl))
told_more false waits h = refl

after_told : (node now : Node) (came written rest : List ℕ) (told waits : Bool) (frames left : ℕ) → Waits rest waits → Serving node now came written rest told frames left →
    Serving node now came (written ++ further told waits) rest waits frames left
after_told node now came written rest told waits frames left k s = record {
  front = s.front;
  requests = s.requests;
  responses = s.responses;
  came_is = s.came_is;
  reads = s.reads;
  spells = s.spells;
  serves = s.serves;
  written_is =
      ap (λ (w : List ℕ). w ++ further told waits) s.written_is ∙ append_assoc s.responses (go_on told) (further told waits)
      ∙ ap (λ (w : List ℕ). s.responses ++ w) (told_more told waits (λ e. told_same rest waits (s.told_is e) k));
  told_is = λ e. k.only e;
  frames_is = s.frames_is;
  left_is = s.left_is;
}

-- ---- a request that is answered

-- what is whole stays whole
abbrev pub Stays : Type 0
Stays = (limits : FrameLimits) (buf more : List ℕ) (h : RequestHead) (parts : List (List ℕ)) (behind : List ℕ) → IsWhole limits buf h parts behind → IsWhole limits (buf ++ more) h parts (behind ++ more)

place_behind : (front rest more : List ℕ) (n : ℕ) → n ≤ length rest → length (front ++ take n rest) ≡ length front + (length (rest ++ more) - length (drop n rest ++ more))
place_behind front rest more n le =
    omega (arith, le, length-append front (take n rest), length-take-le n rest le, length-append rest more, length-append (drop n rest) more, length-drop n rest)

reads_one : Stays → (came front rest : List ℕ) (requests : List Request) (n : ℕ) (h : RequestHead) (parts : List (List ℕ)) → n ≤ length rest → IsWhole LIMITS rest h parts (drop n rest) → closes h ≡ false →
    ReadsOn came front rest requests → ReadsOn came (front ++ take n rest) (drop n rest) (requests ++ (h, parts) ∷ [])
reads_one stays came front rest requests n h parts le w goes reads = λ more others end f.
    subst (λ (rs : List Request). Frames LIMITS (came ++ more) rs end) (sym (append_assoc requests ((h, parts) ∷ []) others))
    (reads more ((h, parts) ∷ others) end (
      drop n rest ++ more,
      stays LIMITS rest more h parts (drop n rest) w,
      inr (goes, subst (λ (at : ℕ). FramesFrom LIMITS at (drop n rest ++ more) others end) (place_behind front rest more n le) f),
    ))

spells_one : Stays → (came rest : List ℕ) (requests : List Request) (h : RequestHead) (parts : List (List ℕ)) (behind : List ℕ) → IsWhole LIMITS rest h parts behind → SpellsOn came rest requests →
    SpellsOn came behind (requests ++ (h, parts) ∷ [])
spells_one stays came rest requests h parts behind w spells = λ more others last k.
    subst (λ (rs : List Request). Spelled (came ++ more) rs last) (sym (append_assoc requests ((h, parts) ∷ []) others))
    (spells more ((h, parts) ∷ others) last (behind ++ more, stays LIMITS rest more h parts behind w, k))

serves_one : (node now new : Node) (requests : List Request) (responses : List ℕ) (r : Request) (reply : NodeReply) → Answers now (ask_in r) reply new →
    ((more : List Request) (written : List ℕ) (last : Node) → Serves now more written last → Serves node (requests ++ more) (responses ++ written) last) →
    (more : List Request) (written : List ℕ) (last : Node) → Serves new more written last → Serves node ((requests ++ r ∷ []) ++ more) ((responses ++ response_to r reply) ++ written) last
serves_one node now new requests responses r reply answers serves more written last k =
    subst (λ (rs : List Request). Serves node rs ((responses ++ response_to r reply) ++ written) last) (sym (append_assoc requests (r ∷ []) more))
    (subst (λ (w : List ℕ). Serves node (requests ++ r ∷ more) w last) (sym (append_assoc responses (response_to r reply) written))
    (serves (r ∷ more) (response_to r reply ++ written) last (reply, new, written, answers, refl, k)))

written_one : (responses written rest : List ℕ) (told : Bool) (h : RequestHead) (parts : List (List ℕ)) (behind : List ℕ) (reply : NodeReply) → Waits rest told → IsWhole LIMITS rest h parts behind → written ≡ responses ++ go_on told →
    written ++ reply_bytes reply (closes h) ≡ responses ++ response_to (h, parts) reply
written_one responses written rest told h parts behind reply k w e =
    ap (λ (x : List ℕ). x ++ reply_bytes reply (closes h)) e ∙ append_assoc responses (go_on told) (reply_bytes reply (closes h))
    ∙ ap (λ (b : Bool). responses ++ (go_on b ++ reply_bytes reply (closes h))) (k.accepted h (whole_accepted rest h parts behind w))

after_reply : Stays → (node now new : Node) (came written rest : List ℕ) (told : Bool) (frames left n : ℕ) (h : RequestHead) (parts : List (List ℕ)) (reply : NodeReply) → Waits rest told → n ≤ length rest →
    IsWhole LIMITS rest h parts (drop n rest) → Answers now (ask_in (h, parts)) reply new → closes h ≡ false → Serving node now came written rest told frames left →
    Serving node new came (written ++ reply_bytes reply (closes h)) (drop n rest) false (frames + 1) left
after_reply stays node now new came written rest told frames left n h parts reply k le w answers goes s = record {
  front = s.front ++ take n rest;
  requests = s.requests ++ (h, parts) ∷ [];
  responses = s.responses ++ response_to (h, parts) reply;
  came_is = s.came_is ∙ ap (λ (r : List ℕ). s.front ++ r) (sym (take-append-drop n rest)) ∙ sym (append_assoc s.front (take n rest) (drop n rest));
  reads = reads_one stays came s.front rest s.requests n h parts le w goes s.reads;
  spells = spells_one stays came rest s.requests h parts (drop n rest) w s.spells;
  serves = serves_one node now new s.requests s.responses (h, parts) reply answers s.serves;
  written_is = written_one s.responses written rest told h parts (drop n rest) reply k w s.written_is ∙ sym (append-nil (s.responses ++ response_to (h, parts) reply));
  told_is = λ e. absurd (false≢true e);
  frames_is = let f = s.frames_is in omega (arith, f, length-append s.requests ((h, parts) ∷ []));
  left_is = s.left_is;
}

after_last : Stays → (node now new : Node) (came written rest : List ℕ) (told : Bool) (frames left n : ℕ) (h : RequestHead) (parts : List (List ℕ)) (reply : NodeReply) → Waits rest told →
    IsWhole LIMITS rest h parts (drop n rest) → Answers now (ask_in (h, parts)) reply new → closes h ≡ true → Serving node now came written rest told frames left →
    Served node new came (written ++ reply_bytes reply (closes h)) (frames + 1) asked
after_last stays node now new came written rest told frames left n h parts reply k w answers ends s = record {
  requests = s.requests ++ (h, parts) ∷ [];
  responses = s.responses ++ response_to (h, parts) reply;
  last = [];
  reads =
      subst (λ (b : List ℕ). Frames LIMITS b (s.requests ++ (h, parts) ∷ []) asked) (append-nil came)
      (s.reads [] ((h, parts) ∷ []) asked (drop n rest ++ [], stays LIMITS rest [] h parts (drop n rest) w, inl (ends, refl, refl)));
  frames_is = let f = s.frames_is in omega (arith, f, length-append s.requests ((h, parts) ∷ []));
  serves =
      subst (λ (rs : List Request). Serves node rs (s.responses ++ response_to (h, parts) reply) new) (append-nil (s.requests ++ (h, parts) ∷ []))
      (subst (λ (x : List ℕ). Serves node ((s.requests ++ (h, parts) ∷ []) ++ []) x new) (append-nil (s.responses ++ response_to (h, parts) reply))
      (serves_one node now new s.requests s.responses (h, parts) reply answers s.serves [] [] new (refl, refl)));
  last_is = refl;
  written_is = written_one s.responses written rest told h parts (drop n rest) reply k w s.written_is ∙ sym (append-nil (s.responses ++ response_to (h, parts) reply));
}

-- ---- an end

finish : (node now : Node) (came written rest : List ℕ) (told : Bool) (frames left : ℕ) (s : Serving node now came written rest told frames left) (all : List ℕ) (end : End) (last : List ℕ) →
    IsEnd LIMITS (length s.front) rest end → LastWords came end last → all ≡ s.responses ++ last → Served node now came all frames end
finish node now came written rest told frames left s all end last e l w = record {
  requests = s.requests;
  responses = s.responses;
  last = last;
  reads =
      subst (λ (b : List ℕ). Frames LIMITS b s.requests end) (append-nil came)
      (subst (λ (rs : List Request). Frames LIMITS (came ++ []) rs end) (append-nil s.requests)
      (s.reads [] [] end (subst (λ (t : List ℕ). IsEnd LIMITS (length s.front) t end) (sym (append-nil rest)) e)));
  frames_is = s.frames_is;
  serves =
      subst (λ (rs : List Request). Serves node rs s.responses now) (append-nil s.requests)
      (subst (λ (x : List ℕ). Serves node (s.requests ++ []) x now) (append-nil s.responses) (s.serves [] [] now (refl, refl)));
  last_is = l;
  written_is = w;
}

-- what stands behind the requests that were answered
rest_is : (front rest came : List ℕ) → came ≡ front ++ rest → rest ≡ drop (length front) came
rest_is front rest came e = sym (ap (drop (length front)) e ∙ drop-append_seam front rest)

after_refusal : (node now : Node) (came written rest : List ℕ) (told : Bool) (frames left : ℕ) (why : FrameFault) → Waits rest told → rest ≢ [] → IsRefused LIMITS rest why →
    (s : Serving node now came written rest told frames left) → Served node now came (written ++ refusal why) frames (refused why (length s.front))
after_refusal node now came written rest told frames left why k some r s =
    finish node now came written rest told frames left s (written ++ refusal why) (refused why (length s.front)) (go_on told ++ refusal why) (some, refl, r)
    (told, subst (λ (t : List ℕ). Waits t told) (rest_is s.front rest came s.came_is) k, refl)
    (ap (λ (w : List ℕ). w ++ refusal why) s.written_is ∙ append_assoc s.responses (go_on told) (refusal why))

after_cut : (node now : Node) (came written rest : List ℕ) (told : Bool) (frames left : ℕ) (waits : Bool) → Waits rest told → rest ≢ [] → IsAwaited LIMITS rest waits →
    (s : Serving node now came written rest told frames left) → Served node now came written frames (cut (length s.front))
after_cut node now came written rest told frames left waits k some a s =
    finish node now came written rest told frames left s written (cut (length s.front)) (go_on told) (some, refl, (waits, a))
    (told, subst (λ (t : List ℕ). Waits t told) (rest_is s.front rest came s.came_is) k, refl) s.written_is

untold : (told : Bool) (rest : List ℕ) → rest ≡ [] → (told ≡ true → IsWaiting rest) → go_on told ≡ []
untold true rest e h = absurd (not_waiting (subst IsWaiting e (h refl)))
untold false rest e h = refl

after_close : (node now : Node) (came written rest : List ℕ) (told : Bool) (frames left : ℕ) → rest ≡ [] → Serving node now came written rest told frames left → Served node now came written frames closed
after_close node now came written rest told frames left e s =
    finish node now came written rest told frames left s written closed [] e refl (s.written_is ∙ ap (λ (w : List ℕ). s.responses ++ w) (untold told rest e s.told_is))

after_piece : (node now : Node) (came written rest : List ℕ) (told : Bool) (frames left later : ℕ) (piece : List ℕ) → later + length piece ≡ left → Serving node now came written rest told frames left →
    Serving node now (came ++ piece) written (rest ++ piece) told frames later
after_piece node now came written rest told frames left later piece e s = record {
  front = s.front;
  requests = s.requests;
  responses = s.responses;
  came_is = ap (λ (x : List ℕ). x ++ piece) s.came_is ∙ append_assoc s.front rest piece;
  reads = λ more others end f.
      subst (λ (b : List ℕ). Frames LIMITS b (s.requests ++ others) end) (sym (append_assoc came piece more))
      (s.reads (piece ++ more) others end (subst (λ (t : List ℕ). FramesFrom LIMITS (length s.front) t others end) (append_assoc rest piece more) f));
  spells = λ more others last k.
      subst (λ (b : List ℕ). Spelled b (s.requests ++ others) last) (sym (append_assoc came piece more))
      (s.spells (piece ++ more) others last (subst (λ (t : List ℕ). Spelled t others last) (append_assoc rest piece more) k));
  serves = s.serves;
  written_is = s.written_is;
  told_is = λ t. waiting_more rest piece (s.told_is t);
  frames_is = s.frames_is;
  left_is = let l = s.left_is in omega (arith, l, e, length-append came piece);
}

-- ---- the same over a link

same_values : (node now : Node) (came written rest rest2 : List ℕ) (told told2 : Bool) (frames frames2 left left2 : ℕ) → rest2 ≡ rest → told2 ≡ told → frames2 ≡ frames → left2 ≡ left →
    Serving node now came written rest told frames left → Serving node now came written rest2 told2 frames2 left2
same_values node now came written rest rest2 told told2 frames frames2 left left2 r t f l s =
    subst (λ (x : List ℕ). Serving node now came written x told2 frames2 left2) (sym r)
    (subst (λ (x : Bool). Serving node now came written rest x frames2 left2) (sym t)
    (subst (λ (x : ℕ). Serving node now came written rest told x left2) (sym f)
    (subst (λ (x : ℕ). Serving node now came written rest told frames x) (sym l) s)))

pub over_new : (node : Node) (start : LinkView) (incoming : Incoming) → incoming.bytes.items ≡ [] → incoming.left ≡ MOST_BYTES → incoming.frames ≡ 0 → incoming.told ≡ false → ServingOver node node start start incoming
over_new node start incoming b l f t = record {
  came = [];
  written = [];
  moved = moved_none start;
  serving = same_values node node [] [] [] incoming.bytes.items false incoming.told 0 incoming.frames MOST_BYTES incoming.left b t f l (record {
    front = [];
    requests = [];
    responses = [];
    came_is = refl;
    reads = λ more others end k. k;
    spells = λ more others last k. k;
    serves = λ more further new k. k;
    written_is = refl;
    told_is = λ e. absurd (false≢true e);
    frames_is = refl;
    left_is = refl;
  });
}

pub over_told : (first now : Node) (start before after : LinkView) (old new : Incoming) → new.bytes ≡ old.bytes → new.left ≡ old.left → new.frames ≡ old.frames → Waits old.bytes.items new.told →
    Moved before after [] (further old.told new.told) → ServingOver first now start before old → ServingOver first now start after new
over_told first now start before after old new b l f k m s = record {
  came = s.came;
  written = s.written ++ further old.told new.told;
  moved = moved_wrote start before after s.came s.written (further old.told new.told) s.moved m;
  serving = same_values first now s.came (s.written ++ further old.told new.told) old.bytes.items new.bytes.items new.told new.told old.frames new.frames old.left new.left
      (ap (λ v. v.items) b) refl f l (after_told first now s.came s.written old.bytes.items old.told new.told old.frames old.left k s.serving);
}

most_of : (came left : ℕ) → came + left ≡ MOST_BYTES → came ≤ MOST_BYTES
most_of came left e = omega (arith, e)

pub after_whole : Stays → (closing : Bool) (first now new : Node) (start before after : LinkView) (old next : Incoming) (n : ℕ) (h : RequestHead) (parts : List (List ℕ)) → closing ≡ closes h →
    Waits old.bytes.items old.told → n ≤ length old.bytes.items → IsWhole LIMITS old.bytes.items h parts (drop n old.bytes.items) → Responds now new (h, parts) before after →
    next.bytes.items ≡ drop n old.bytes.items → next.left ≡ old.left → next.frames ≡ old.frames + 1 → next.told ≡ false →
    ServingOver first now start before old → AfterTurn (not closing) first new start after next
after_whole stays true first now new start before after old next n h parts e k le w r b l f t s = record {
  bytes = s.came;
  written = s.written ++ reply_bytes r.reply (closes h);
  end = asked;
  moved = moved_wrote start before after s.came s.written (reply_bytes r.reply (closes h)) s.moved r.moved;
  most = most_of (length s.came) old.left s.serving.left_is;
  served =
      subst (λ (x : ℕ). Served first new s.came (s.written ++ reply_bytes r.reply (closes h)) x asked) (sym f)
      (after_last stays first now new s.came s.written old.bytes.items old.told old.frames old.left n h parts r.reply k w r.answers (sym e) s.serving);
  ended = tt;
}
after_whole stays false first now new start before after old next n h parts e k le w r b l f t s = record {
  came = s.came;
  written = s.written ++ reply_bytes r.reply (closes h);
  moved = moved_wrote start before after s.came s.written (reply_bytes r.reply (closes h)) s.moved r.moved;
  serving = same_values first new s.came (s.written ++ reply_bytes r.reply (closes h)) (drop n old.bytes.items) next.bytes.items false next.told (old.frames + 1) next.frames old.left next.left b t f l
      (after_reply stays first now new s.came s.written old.bytes.items old.told old.frames old.left n h parts r.reply k le w r.answers (sym e) s.serving);
}

pub after_refused : (first now : Node) (start before after : LinkView) (old : Incoming) (why : FrameFault) → Waits old.bytes.items old.told → old.bytes.items ≢ [] → IsRefused LIMITS old.bytes.items why →
    Moved before after [] (refusal why) → ServingOver first now start before old → ServedOver first now start after old.frames
after_refused first now start before after old why k some r m s = record {
  bytes = s.came;
  written = s.written ++ refusal why;
  end = refused why (length s.serving.front);
  moved = moved_wrote start before after s.came s.written (refusal why) s.moved m;
  most = most_of (length s.came) old.left s.serving.left_is;
  served = after_refusal first now s.came s.written old.bytes.items old.told old.frames old.left why k some r s.serving;
  ended = tt;
}

over_read : (first now : Node) (start before after : LinkView) (old new : Incoming) → HasRead old new before after → ServingOver first now start before old → ServingOver first now start after new
over_read first now start before after old new r s = record {
  came = s.came ++ r.piece;
  written = s.written;
  moved = moved_read start before after s.came s.written r.piece s.moved r.moved;
  serving = same_values first now (s.came ++ r.piece) s.written (old.bytes.items ++ r.piece) new.bytes.items old.told new.told old.frames new.frames new.left new.left r.bytes_is r.told_is r.frames_is refl
      (after_piece first now s.came s.written old.bytes.items old.told old.frames old.left new.left r.piece r.left_is s.serving);
}

last_by : (came left : ℕ) (start before after : LinkView) → came + left ≡ MOST_BYTES → start.ends ≤ before.ends → (left ≡ 0) ⊎ Rose before.ends after.ends → IsLast came start after
last_by came left start before after e le (inl none) = inl (omega (arith, e, none))
last_by came left start before after e le (inr rose) = inr (rose_later start.ends before.ends after.ends le rose)

abbrev ended_by : (first now : Node) (start before after : LinkView) (old new : Incoming) → HasEndedHere old new before after → (s : ServingOver first now start before old) → IsLast (length s.came) start after
ended_by first now start before after old new r s = last_by (length s.came) old.left start before after s.serving.left_is s.moved.later.ends r.cause

moved_still : (start before after : LinkView) (came written : List ℕ) → Moved start before came written → Moved before after [] [] → Moved start after came written
moved_still start before after came written p q = subst (Moved start after came) (append-nil written) (moved_wrote start before after came written [] p q)

over_cut : (first now : Node) (start before after : LinkView) (old new : Incoming) (waits : Bool) → Waits old.bytes.items old.told → old.bytes.items ≢ [] → IsAwaited LIMITS old.bytes.items waits →
    HasEndedHere old new before after → ServingOver first now start before old → ServedOver first now start after new.frames
over_cut first now start before after old new waits k some a r s = record {
  bytes = s.came;
  written = s.written;
  end = cut (length s.serving.front);
  moved = moved_still start before after s.came s.written s.moved r.moved;
  most = most_of (length s.came) old.left s.serving.left_is;
  served =
      subst (λ (i : Incoming). Served first now s.came s.written i.frames (cut (length s.serving.front))) (sym r.same)
      (after_cut first now s.came s.written old.bytes.items old.told old.frames old.left waits k some a s.serving);
  ended = ended_by first now start before after old new r s;
}

over_closed : (first now : Node) (start before after : LinkView) (old new : Incoming) → old.bytes.items ≡ [] →
    HasEndedHere old new before after → ServingOver first now start before old → ServedOver first now start after new.frames
over_closed first now start before after old new e r s = record {
  bytes = s.came;
  written = s.written;
  end = closed;
  moved = moved_still start before after s.came s.written s.moved r.moved;
  most = most_of (length s.came) old.left s.serving.left_is;
  served =
      subst (λ (i : Incoming). Served first now s.came s.written i.frames closed) (sym r.same)
      (after_close first now s.came s.written old.bytes.items old.told old.frames old.left e s.serving);
  ended = ended_by first now start before after old new r s;
}

read_or_closed : (goes : Bool) (first now : Node) (start before after : LinkView) (old new : Incoming) → old.bytes.items ≡ [] → IsRead goes old new before after → ServingOver first now start before old → AfterTurn goes first now start after new
read_or_closed true first now start before after old new e r s = over_read first now start before after old new r s
read_or_closed false first now start before after old new e r s = over_closed first now start before after old new e r s

read_or_cut : (goes : Bool) (first now : Node) (start before after : LinkView) (old new : Incoming) (waits : Bool) → Waits old.bytes.items old.told → old.bytes.items ≢ [] → IsAwaited LIMITS old.bytes.items waits →
    IsRead goes old new before after → ServingOver first now start before old → AfterTurn goes first now start after new
read_or_cut true first now start before after old new waits k some a r s = over_read first now start before after old new r s
read_or_cut false first now start before after old new waits k some a r s = over_cut first now start before after old new waits k some a r s

-- with nothing at hand
pub read_first : {E : Type 0} (r : Result Bool E) (now : Node) (before after : LinkView) (old new : Incoming) → old.bytes.items ≡ [] → IfOk r (λ goes. IsRead goes old new before after) →
    IfOk r (λ goes. (first : Node) (start : LinkView) → ServingOver first now start before old → AfterTurn goes first now start after new)
read_first (Ok goes) now before after old new e h = λ first start s. read_or_closed goes first now start before after old new e h s
read_first (Err f) now before after old new e h = tt

-- behind a request that is not whole
pub read_further : {E : Type 0} (r : Result Bool E) (now : Node) (before middle after : LinkView) (old told new : Incoming) (waits : Bool) → told.bytes ≡ old.bytes → told.left ≡ old.left → told.frames ≡ old.frames →
    Waits old.bytes.items told.told → Moved before middle [] (further old.told told.told) → told.bytes.items ≢ [] → IsAwaited LIMITS told.bytes.items waits → IfOk r (λ goes. IsRead goes told new middle after) →
    IfOk r (λ goes. (first : Node) (start : LinkView) → ServingOver first now start before old → AfterTurn goes first now start after new)
read_further (Ok goes) now before middle after old told new waits b l f k m some a h = λ first start s.
    read_or_cut goes first now start middle after told new waits (subst (λ v. Waits v.items told.told) (sym b) k) some a h (over_told first now start before middle old told b l f k m s)
read_further (Err f) now before middle after old told new waits b l g k m some a h = tt

pub whole_less : (old told next : Incoming) (n : ℕ) → told.bytes ≡ old.bytes → told.left ≡ old.left → next.bytes.items ≡ drop n told.bytes.items → next.left ≡ told.left → 0 < n → n ≤ length told.bytes.items → work next < work old
whole_less old told next n b l d e some le =
    let x = ap (λ v. length v.items) b in
    let y = ap length d in
    omega (arith, x, y, l, e, some, le, length-drop n told.bytes.items)

-- ---- whether there are bytes

nothing : (xs : List ℕ) → length xs ≡ 0 → xs ≡ []
nothing [] h = refl
nothing (x ∷ xs) h = absurd (omega arith)

pub no_items : (xs : List ℕ) (n : ℕ) → length xs ≡ n → (n == 0) ≡ true → xs ≡ []
no_items xs n l e = nothing xs (grind (arith, nat_tests))

pub some_items : (xs : List ℕ) (n : ℕ) → length xs ≡ n → (n == 0) ≡ false → xs ≢ []
some_items xs n l e = λ h. let k = ap length h in false≢true (sym e ∙ (grind (arith, nat_tests)))

pub at_last : (goes : Bool) (first now : Node) (start after : LinkView) (incoming : Incoming) → not goes ≡ true → AfterTurn goes first now start after incoming → ServedOver first now start after incoming.frames
at_last true first now start after incoming e a = absurd (false≢true e)
at_last false first now start after incoming e a = a

-- ---- a fault

-- the requests so far were answered, and of these words a front was written
cut_words : (node now : Node) (came written rest : List ℕ) (told : Bool) (frames left : ℕ) (piece words all unwritten : List ℕ) → (s : Serving node now came written rest told frames left) →
    Words (rest ++ piece) words → all ++ unwritten ≡ s.responses ++ words → CutShort node now (came ++ piece) all
cut_words node now came written rest told frames left piece words all unwritten s w e = record {
  requests = s.requests;
  rest = rest ++ piece;
  responses = s.responses;
  words = words;
  unwritten = unwritten;
  spelled =
      subst (λ (rs : List Request). Spelled (came ++ piece) rs (rest ++ piece)) (append-nil s.requests)
      (s.spells piece [] (rest ++ piece) refl);
  serves =
      subst (λ (rs : List Request). Serves node rs s.responses now) (append-nil s.requests)
      (subst (λ (x : List ℕ). Serves node (s.requests ++ []) x now) (append-nil s.responses) (s.serves [] [] now (refl, refl)));
  words_are = w;
  written_is = e;
}

-- the request at the front was answered too, and a front of its response was written
cut_answer : Stays → (node now new : Node) (came written rest : List ℕ) (told : Bool) (frames left : ℕ) (h : RequestHead) (parts : List (List ℕ)) (behind : List ℕ) (reply : NodeReply) (front unwritten : List ℕ) →
    Waits rest told → IsWhole LIMITS rest h parts behind → Answers now (ask_in (h, parts)) reply new → front ++ unwritten ≡ reply_bytes reply (closes h) →
    Serving node now came written rest told frames left → CutShort node new came (written ++ front)
cut_answer stays node now new came written rest told frames left h parts behind reply front unwritten k w answers e s = record {
  requests = s.requests ++ (h, parts) ∷ [];
  rest = behind ++ [];
  responses = s.responses ++ response_to (h, parts) reply;
  words = [];
  unwritten = unwritten;
  spelled =
      subst (λ (b : List ℕ). Spelled b (s.requests ++ (h, parts) ∷ []) (behind ++ [])) (append-nil came)
      (s.spells [] ((h, parts) ∷ []) (behind ++ []) (behind ++ [], stays LIMITS rest [] h parts behind w, refl));
  serves =
      subst (λ (rs : List Request). Serves node rs (s.responses ++ response_to (h, parts) reply) new) (append-nil (s.requests ++ (h, parts) ∷ []))
      (subst (λ (x : List ℕ). Serves node ((s.requests ++ (h, parts) ∷ []) ++ []) x new) (append-nil (s.responses ++ response_to (h, parts) reply))
      (serves_one node now new s.requests s.responses (h, parts) reply answers s.serves [] [] new (refl, refl)));
  words_are = going_on false (λ t. absurd (false≢true t));
  written_is =
      append_assoc written front unwritten ∙ ap (λ (x : List ℕ). written ++ x) e
      ∙ written_one s.responses written rest told h parts behind reply k w s.written_is
      ∙ sym (append-nil (s.responses ++ response_to (h, parts) reply));
}

-- a front of the words behind the rest was written
cut_front : (node now : Node) (came written rest : List ℕ) (told : Bool) (frames left : ℕ) (words : List ℕ) (front unwritten due : List ℕ) → (s : Serving node now came written rest told frames left) →
    Words rest due → front ++ unwritten ≡ words → written ++ words ≡ s.responses ++ due → CutShort node now came (written ++ front)
cut_front node now came written rest told frames left words front unwritten due s w e f =
    subst (λ (b : List ℕ). CutShort node now b (written ++ front)) (append-nil came)
    (cut_words node now came written rest told frames left [] due (written ++ front) unwritten s (subst (λ (t : List ℕ). Words t due) (sym (append-nil rest)) w)
    (append_assoc written front unwritten ∙ ap (λ (x : List ℕ). written ++ x) e ∙ f))

-- after a read that failed, or whose piece found no memory
broken_read : (first now : Node) (start before after : LinkView) (old : Incoming) → ReadSome before after → ServingOver first now start before old → BrokenOff first now start after
broken_read first now start before after old r s = record {
  bytes = s.came ++ r.piece;
  written = s.written;
  moved = moved_read start before after s.came s.written r.piece s.moved r.moved;
  cut_short =
      cut_words first now s.came s.written old.bytes.items old.told old.frames old.left r.piece (go_on old.told) s.written [] s.serving
      (going_on old.told (λ t. waiting_more old.bytes.items r.piece (s.serving.told_is t)))
      (append-nil s.written ∙ s.serving.written_is);
}

pub broken_first : {E : Type 0} (r : Result Bool E) (now : Node) (before after : LinkView) (old : Incoming) → OnErr r (ReadSome before after) →
    OnErr r ((first : Node) (start : LinkView) → ServingOver first now start before old → BrokenOff first now start after)
broken_first (Ok goes) now before after old h = tt
broken_first (Err f) now before after old h = λ first start s. broken_read first now start before after old h s

pub broken_further : {E : Type 0} (r : Result Bool E) (now : Node) (before middle after : LinkView) (old told : Incoming) → told.bytes ≡ old.bytes → told.left ≡ old.left → told.frames ≡ old.frames →
    Waits old.bytes.items told.told → Moved before middle [] (further old.told told.told) → OnErr r (ReadSome middle after) →
    OnErr r ((first : Node) (start : LinkView) → ServingOver first now start before old → BrokenOff first now start after)
broken_further (Ok goes) now before middle after old told b l f k m h = tt
broken_further (Err e) now before middle after old told b l f k m h = λ first start s.
    broken_read first now start middle after told h (over_told first now start before middle old told b l f k m s)

-- after a write that failed, of what tells a client to go on
pub broken_tell : (first now : Node) (start before after : LinkView) (old : Incoming) → TellsFront old.bytes.items old.told before after → ServingOver first now start before old → BrokenOff first now start after
broken_tell first now start before after old t s = record {
  bytes = s.came;
  written = s.written ++ t.wrote.front;
  moved = moved_wrote start before after s.came s.written t.wrote.front s.moved t.wrote.moved;
  cut_short =
      cut_front first now s.came s.written old.bytes.items old.told old.frames old.left (further old.told t.waits) t.wrote.front t.wrote.unwritten (go_on t.waits) s.serving
      (going_on t.waits (λ e. t.exact.only e)) t.wrote.are
      (ap (λ (w : List ℕ). w ++ further old.told t.waits) s.serving.written_is ∙ append_assoc s.serving.responses (go_on old.told) (further old.told t.waits)
      ∙ ap (λ (w : List ℕ). s.serving.responses ++ w) (told_more old.told t.waits (λ e. told_same old.bytes.items t.waits (s.serving.told_is e) t.exact)));
}

-- of a refusal
pub broken_refusal : (first now : Node) (start before after : LinkView) (old : Incoming) (why : FrameFault) → Waits old.bytes.items old.told → IsRefused LIMITS old.bytes.items why → WroteFront before after (refusal why) →
    ServingOver first now start before old → BrokenOff first now start after
broken_refusal first now start before after old why k r w s = record {
  bytes = s.came;
  written = s.written ++ w.front;
  moved = moved_wrote start before after s.came s.written w.front s.moved w.moved;
  cut_short =
      cut_front first now s.came s.written old.bytes.items old.told old.frames old.left (refusal why) w.front w.unwritten (go_on old.told ++ refusal why) s.serving
      (refusing why old.told k r) w.are
      (ap (λ (x : List ℕ). x ++ refusal why) s.serving.written_is ∙ append_assoc s.serving.responses (go_on old.told) (refusal why));
}

broken_unanswered : (first now : Node) (start before after : LinkView) (old : Incoming) → Moved before after [] [] → ServingOver first now start before old → BrokenOff first now start after
broken_unanswered first now start before after old m s = broken_read first now start before after old (record { piece = []; moved = m }) s

-- of a response, or before it was made
pub broken_response : Stays → (first now new : Node) (start before after : LinkView) (old : Incoming) (h : RequestHead) (parts : List (List ℕ)) (behind : List ℕ) → Waits old.bytes.items old.told →
    IsWhole LIMITS old.bytes.items h parts behind → StopsAt now new (h, parts) before after → ServingOver first now start before old → BrokenOff first new start after
broken_response stays first now new start before after old h parts behind k w (unanswered same m) s =
    subst (λ (n : Node). BrokenOff first n start after) (sym same) (broken_unanswered first now start before after old m s)
broken_response stays first now new start before after old h parts behind k w (answered reply answers wrote) s = record {
  bytes = s.came;
  written = s.written ++ wrote.front;
  moved = moved_wrote start before after s.came s.written wrote.front s.moved wrote.moved;
  cut_short =
      cut_answer stays first now new s.came s.written old.bytes.items old.told old.frames old.left h parts behind reply wrote.front wrote.unwritten k w answers wrote.are s.serving;
}

pub on_err : {T E : Type 0} {P : Type 0} (r : Result T E) → P → OnErr r P
on_err (Ok x) p = tt
on_err (Err e) p = p
