-- What an inbox holds.
use Rattle.std.proofs.Common.{◌≡◌, ◌≢◌, ℕ, ◌+◌, ◌<◌, ◌≤◌, Bool, true, false, List, [], ◌∷◌, ◌++◌, length, take, drop, refl, sym, ap, ◌∙◌, subst, arith, append-nil, append_assoc, length-drop, inl, inr}
use Rattle.std.specs.Borrow.{Bor}
use Rattle.std.specs.List.{concat}
use Rattle.std.proofs.lemmas.List.{take-append-drop, drop-drop}
use Rattle.http_frames.specs.declared.frames.TheConstants.{LIMITS}
use Rattle.http_frames.specs.declared.frames.FrameLimits.{FrameLimits}
use Rattle.http_frames.specs.declared.frames.Frame.{Frame}
use Rattle.http_frames.specs.declared.FrameFault.{FrameFault}
use Rattle.http_frames.specs.declared.reader.FrameReader.{FrameReader}
use Rattle.http_frames.specs.declared.reader.ReaderStep.{ReaderStep}
use Rattle.http_frames.specs.declared.reader.ReaderStep.TheVariants as step
use Rattle.http_frames.specs.Chunks.{joined}
use Rattle.http_frames.specs.Frames.{Request, End, closed, asked, Frames, IsWhole, IsAwaited, IsRefused, closes}
use Rattle.http_frames.specs.FrameSteps.{HasParts}
use Rattle.conn_script.specs.declared.wants.TheConstants.{PIECE}
use Rattle.conn_script.specs.Asking.{IsOf}
use Rattle.http_frames.specs.Feeding.{Fed, Feeds, IsReaderStep, IsWaiting, is_whole, awaits_more}
use Rattle.hub_conn.specs.declared.inbox.Inbox.{Inbox}
use Rattle.hub_conn.specs.Conversation.{Waits}
use Rattle.hub_conn.specs.Inbox.{unread, Holds, HoldsWhole, IsFilled, LeavesRest}
use Rattle.hub_conn.proofs.ReadLemmas.{WholeStays}

abbrev pub Told : Inbox → ReaderStep → Type 0
Told inbox s = (limits : FrameLimits) (bytes : List ℕ) → Fed limits inbox.reader bytes → IsReaderStep limits bytes s

pub sees_whole : (inbox : Inbox) (frame : Frame) (bytes : List ℕ) → Holds inbox bytes → Told inbox (step.Whole frame) → is_whole inbox.reader ≡ true →
    (f : Request) × HoldsWhole inbox bytes f × (frame.closes ≡ closes f.0)
sees_whole inbox frame bytes (front, read, is) told whole =
    let x = told LIMITS front read.stands in
    ((x.0, x.1), (front, read, is, x.2, whole), x.3.closes)

pub sees_more : (inbox : Inbox) (waits : Bool) (bytes : List ℕ) → Holds inbox bytes → Told inbox (step.More waits) → unread inbox ≡ [] →
    (w : Bool) × IsAwaited LIMITS bytes w × (unread inbox ≡ [])
sees_more inbox waits bytes (front, read, is) told none =
    (waits, subst (λ (b : List ℕ). IsAwaited LIMITS b waits) (sym (is ∙ ap (λ (u : List ℕ). front ++ u) none ∙ append-nil front)) (told LIMITS front read.stands), none)

pub sees_refused : (inbox : Inbox) (why : FrameFault) (bytes : List ℕ) → Holds inbox bytes → Told inbox (step.Refused why) →
    ((limits : FrameLimits) (buf more : List ℕ) (w : FrameFault) → IsRefused limits buf w → IsRefused limits (buf ++ more) w) →
    ((limits : FrameLimits) (buf : List ℕ) (w : FrameFault) → 0 < limits.head → IsRefused limits buf w → buf ≢ []) →
    IsRefused LIMITS bytes why × (bytes ≢ [])
sees_refused inbox why bytes (front, read, is) told stays some =
    let x : IsRefused LIMITS bytes why = subst (λ (b : List ℕ). IsRefused LIMITS b why) (sym is) (stays LIMITS front (unread inbox) why (told LIMITS front read.stands)) in
    (x, some LIMITS bytes why (omega arith) x)

pub waits_so : (inbox : Inbox) (waits : Bool) (bytes : List ℕ) → Holds inbox bytes → IsFilled inbox →
    ((limits : FrameLimits) (b more : List ℕ) → Fed limits inbox.reader b → (awaits_more inbox.reader ≡ true → more ≡ []) → IsWaiting limits (b ++ more) waits) →
    Waits bytes waits
waits_so inbox waits bytes (front, read, is) filled told =
    let x = told LIMITS front (unread inbox) read.stands filled in
    subst (λ (b : List ℕ). Waits b waits) (sym is) (record {
      accepted = x.accepted;
      only = λ so. let h = x.only so in (h.0, h.1);
    })

joined_is : (parts : List (List ℕ)) → joined parts ≡ concat parts
joined_is [] = refl
joined_is (p ∷ parts) = ap (λ (b : List ℕ). p ++ b) (joined_is parts)

-- a request at the front is one, whatever follows
abbrev pub OneReading : Type 0
OneReading = (limits : FrameLimits) (bytes : List ℕ) (fs gs : List Request) (d e : End) → Frames limits bytes fs d → Frames limits bytes gs e → (fs ≡ gs) × (d ≡ e)

one_frame : (b : List ℕ) (f : Request) → IsWhole LIMITS b f.0 f.1 [] → (e : End) × Frames LIMITS b (f ∷ []) e
one_frame b f whole = by_close (closes f.0) refl
  where
    by_close : (close : Bool) → closes f.0 ≡ close → (e : End) × Frames LIMITS b (f ∷ []) e
    by_close true is = (asked, ([], whole, inl (is, refl, refl)))
    by_close false is = (closed, ([], whole, inr (is, refl)))

same_request : OneReading → (b : List ℕ) (f g : Request) → IsWhole LIMITS b f.0 f.1 [] → IsWhole LIMITS b g.0 g.1 [] → f ≡ g
same_request one b f g x y =
    let p = one_frame b f x in
    let q = one_frame b g y in
    first_is f g (one LIMITS b (f ∷ []) (g ∷ []) p.0 q.0 p.1 q.1).0
  where
    first_is : (f g : Request) → ◌≡◌ {A = List Request} (f ∷ []) (g ∷ []) → f ≡ g
    first_is f g e = cc

pub same_first : (part first : List ℕ) (more : List (List ℕ)) → ◌≡◌ {A = List (List ℕ)} (part ∷ []) (first ∷ more) → first ≡ part
same_first part first more e = cc

pub not_none : (part : List ℕ) → ◌≡◌ {A = List (List ℕ)} (part ∷ []) [] → ⊥
not_none part e = cc

pub is_of : (inbox : Inbox) (frame : Frame) (body : Bor (List ℕ)) (bytes : List ℕ) (f : Request) → OneReading → HoldsWhole inbox bytes f → Told inbox (step.Whole frame) →
    ((part : List ℕ) → HasParts frame.body (part ∷ []) → body.now ≡ part) →
    IsOf (record { method = frame.method; target = frame.target; head = frame.head; body = body }) f
is_of inbox frame body bytes f one (front, read, is, whole, at_end) told part =
    let x = told LIMITS front read.stands in
    let same : f ≡ (x.0, x.1) = same_request one front f (x.0, x.1) whole x.2 in
    subst (λ (g : Request). IsOf (record { method = frame.method; target = frame.target; head = frame.head; body = body }) g) (sym same) (record {
      method = x.3.method;
      target = x.3.target;
      head = x.3.head;
      body_is = part (joined x.1) x.4 ∙ joined_is x.1;
    })

-- the request is let go
pub leaves_rest : WholeStays → (old new : Inbox) (bytes : List ℕ) (f : Request) (left : ℕ) → HoldsWhole old bytes f →
    Fed LIMITS new.reader [] → new.piece.items ≡ old.piece.items → new.fed ≡ old.fed → left ≡ length (unread old) → LeavesRest bytes f left new
leaves_rest stays old new bytes f left (front, read, is, whole, at_end) fed piece at left_is =
    let same : unread new ≡ unread old = ap (λ (p : List ℕ). drop new.fed p) piece ∙ ap (λ (n : ℕ). drop n old.piece.items) at in (
      unread old,
      subst (λ (b : List ℕ). IsWhole LIMITS b f.0 f.1 (unread old)) (sym is) (stays LIMITS front (unread old) f.0 f.1 [] whole),
      ([], record { stands = fed; within = omega (arith, read.within, at, ap length piece); fits = omega (arith, read.fits, ap length piece) }, sym same),
      left_is,
    )

-- more bytes are read
pub reads_further : (old new : Inbox) (bytes : List ℕ) (n : ℕ) → Holds old bytes → Feeds old.reader (unread old) n new.reader →
    new.piece.items ≡ old.piece.items → new.fed ≡ old.fed + n → Holds new bytes
reads_further old new bytes n (front, read, is) x piece at =
    let u = unread old in
    let rest : drop n u ≡ unread new =
    drop-drop n old.fed old.piece.items ∙ ap (λ (k : ℕ). drop k old.piece.items) (sym at) ∙ ap (λ (p : List ℕ). drop new.fed p) (sym piece) in (
      front ++ take n u,
      record { stands = x.fed LIMITS front read.stands; within = omega (arith, at, x.inside, read.within, ap length piece, length-drop old.fed old.piece.items); fits = omega (arith, read.fits, ap length piece) },
      is ∙ ap (λ (b : List ℕ). front ++ b) (sym (take-append-drop n u)) ∙ sym (append_assoc front (take n u) (drop n u)) ∙ ap (λ (b : List ℕ). (front ++ take n u) ++ b) rest,
    )

-- a piece comes behind bytes that were all read
pub piece_comes : (old new : Inbox) (bytes piece : List ℕ) → Holds old bytes → unread old ≡ [] → length piece ≤ PIECE → new.reader ≡ old.reader →
    new.piece.items ≡ unread old ++ piece → new.fed ≡ 0 → Holds new (bytes ++ piece)
piece_comes old new bytes piece (front, read, is) none few reader items at =
    let all : new.piece.items ≡ piece = items ∙ ap (λ (u : List ℕ). u ++ piece) none in
    let unread_is : unread new ≡ piece = ap (λ (n : ℕ). drop n new.piece.items) at ∙ all in (
      front,
      record {
        stands = subst (λ (r : FrameReader). Fed LIMITS r front) (sym reader) read.stands;
        within = omega (arith, at);
        fits = omega (arith, few, ap length all);
      },
      ap (λ (b : List ℕ). b ++ piece) (is ∙ ap (λ (u : List ℕ). front ++ u) none ∙ append-nil front) ∙ ap (λ (u : List ℕ). front ++ u) (sym unread_is),
    )
