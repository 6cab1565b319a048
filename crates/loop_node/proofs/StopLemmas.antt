-- Where the writing of a response stops.
use Rattle.std.proofs.Common.{◌≡◌, ℕ, Bool, List, Result, Ok, Err, OnErr, subst}
use Rattle.httparse.specs.Grammar.{RequestHead}
use Rattle.http_frames.specs.declared.frames.Frame.{Frame}
use Rattle.http_frames.specs.declared.frames.TheConstants.{LIMITS}
use Rattle.http_frames.specs.declared.replies.NodeReply.{NodeReply}
use Rattle.http_frames.specs.Chunks.{joined}
use Rattle.http_frames.specs.FrameSteps.{IsFrame}
use Rattle.loop_node.specs.Sessions.{Node}
use Rattle.loop_node.specs.Replies.{Answers}
use Rattle.loop_node.specs.Serving.{plain_ask, ask_in, reply_bytes}
use Rattle.grid_outside.specs.Told.{LinkView}
use Rattle.loop_node.specs.Connections.{WroteFront, StopsAt, answered, unanswered}
use Rattle.loop_node.proofs.WritingLemmas.{moved_none}

-- the node answered
pub stops_behind : {T E : Type 0} (r : Result T E) (node new : Node) (frame : Frame) (reply : NodeReply) (before after : LinkView) →
    ((h : RequestHead) (parts : List (List ℕ)) → IsFrame LIMITS h parts frame → Answers node (ask_in (h, parts)) reply new) → OnErr r (WroteFront before after (reply_bytes reply frame.closes)) →
    OnErr r ((h : RequestHead) (parts : List (List ℕ)) → IsFrame LIMITS h parts frame → StopsAt node new (h, parts) before after)
stops_behind (Ok x) node new frame reply before after answers w = tt
stops_behind (Err e) node new frame reply before after answers w = λ h parts f.
    answered reply (answers h parts f) (subst (λ (b : Bool). WroteFront before after (reply_bytes reply b)) f.head.closes w)

pub stops_before : (node new : Node) (frame : Frame) (a : LinkView) → new ≡ node → (h : RequestHead) (parts : List (List ℕ)) → IsFrame LIMITS h parts frame → StopsAt node new (h, parts) a a
stops_before node new frame a same h parts f = unanswered same (moved_none a)

-- the request in the frame, with its body joined
pub asked_so : (node new : Node) (reply : NodeReply) (method target body : List ℕ) (h : RequestHead) (parts : List (List ℕ)) → method ≡ h.method → target ≡ h.target → body ≡ joined parts →
    Answers node (plain_ask method target body) reply new → Answers node (ask_in (h, parts)) reply new
asked_so node new reply method target body h parts m t b a =
    subst (λ (x : List ℕ). Answers node (plain_ask x h.target (joined parts)) reply new) m
    (subst (λ (x : List ℕ). Answers node (plain_ask method x (joined parts)) reply new) t
    (subst (λ (x : List ℕ). Answers node (plain_ask method target x) reply new) b a))
