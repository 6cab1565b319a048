-- Whether a connection to a node stays open behind a reply (RFC 9112, sections 6.3 and 9.3).
use Rattle.std.specs.Prelude.{ℕ, Bool, true, false, not, ◌&&◌, List}
use Rattle.httparse.specs.Grammar.{ResponseHead, status_code}
use Rattle.http_frames.specs.declared.frames.FrameLimits.{FrameLimits}
use Rattle.http_frames.specs.declared.replies.ReplyFraming.{ReplyFraming}
use Rattle.http_frames.specs.declared.replies.ReplyFraming.TheVariants.{Faulty, Sized, Chunked, Until}
use Rattle.http_frames.specs.Fields.{closes_of}
use Rattle.http_frames.specs.Replies.{reply_framing, reply_headers, is_interim}

-- the end of the body is known before the end of input
abbrev pub is_bounded : ReplyFraming → Bool
is_bounded Faulty = false
is_bounded (Sized n) = true
is_bounded Chunked = true
is_bounded Until = false

-- a last response of HTTP/1.1, which doesn't say `close` and whose body is bounded
abbrev pub stays_behind : FrameLimits → (minor status : ℕ) → List (List ℕ × List ℕ) → Bool
stays_behind limits minor status headers =
    not (is_interim status) && not (closes_of minor headers) && is_bounded (reply_framing limits.body status headers)

-- the connection stays open behind the reply of this head
abbrev pub stays_open : FrameLimits → ResponseHead → Bool
stays_open limits h = stays_behind limits h.minor (status_code h) (reply_headers h)
