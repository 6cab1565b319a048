-- Bytes that leave an unfinished head, chunk line or section of trailers unfinished: whoever knows
-- them need not parse it again.
use Rattle.std.specs.Prelude.{◌≡◌, ℕ, Bool, true, false, not, ◌==◌, nat_lt, List, [], ◌∷◌, ◌++◌, length, if◌then◌else◌}
use Rattle.std.specs.List.{list_all}
use Rattle.httparse.specs.Ascii.{line_feed, carriage_return, colon, semicolon}
use Rattle.httparse.specs.Grammar.{is_token_byte, is_value_byte, is_ows, is_extension_byte, HasNoChunkLine, MayBecomeChunkLine}
use Rattle.http_frames.specs.declared.calm.Calm.{Calm}
use Rattle.http_frames.specs.declared.calm.Calm.TheVariants as calm
use Rattle.http_frames.specs.Heads.{IsOpenHead, is_awaited_byte}
use Rattle.http_frames.specs.HeadSteps.{skip_token}
use Rattle.http_frames.specs.Chunks.{HasNoTrailers, MayBecomeTrailers}

-- some bytes are known
abbrev pub is_calm : Calm → Bool
is_calm calm.Nothing = false
is_calm calm.Blank = true
is_calm calm.Return = true
is_calm calm.Token = true
is_calm calm.Target = true
is_calm calm.Value = true
is_calm calm.Padding = true
is_calm calm.Extension = true

-- nothing but empty lines was read
abbrev pub is_blank : Calm → Bool
is_blank calm.Nothing = false
is_blank calm.Blank = true
is_blank calm.Return = true
is_blank calm.Token = false
is_blank calm.Target = false
is_blank calm.Value = false
is_blank calm.Padding = false
is_blank calm.Extension = false

-- what is so behind the byte
abbrev pub calm_at : Calm → ℕ → Calm
calm_at calm.Nothing b = calm.Nothing
calm_at calm.Blank b =
    if b == line_feed then calm.Blank else if b == carriage_return then calm.Return else calm.Nothing
calm_at calm.Return b = if b == line_feed then calm.Blank else calm.Nothing
calm_at calm.Token b = if is_token_byte b then calm.Token else calm.Nothing
calm_at calm.Target b = if is_awaited_byte b then calm.Target else calm.Nothing
calm_at calm.Value b = if is_value_byte b then calm.Value else calm.Nothing
calm_at calm.Padding b = if is_ows b then calm.Padding else calm.Nothing
calm_at calm.Extension b = if is_extension_byte b then calm.Extension else calm.Nothing

-- what is so behind the bytes
abbrev pub calm_behind : Calm → List ℕ → Calm
calm_behind now [] = now
calm_behind now (b ∷ part) = calm_behind (calm_at now b) part

-- the fact holds of the text and any such bytes behind it
abbrev pub StaysSo : (List ℕ → Type 0) → Calm → List ℕ → Type 0
StaysSo Holds now text = (part : List ℕ) → is_calm (calm_behind now part) ≡ true → Holds (text ++ part)

-- the head stays unfinished
abbrev pub StaysOpen : Calm → List ℕ → Type 0
StaysOpen = StaysSo IsOpenHead

-- a chunk line that isn't whole, whatever its length
abbrev pub IsPartOfLine : List ℕ → Type 0
IsPartOfLine text = HasNoChunkLine text × MayBecomeChunkLine text

abbrev pub LineStays : Calm → List ℕ → Type 0
LineStays = StaysSo IsPartOfLine

-- trailers that aren't whole, whatever their length
abbrev pub IsPartOfTrailers : List ℕ → Type 0
IsPartOfTrailers text = HasNoTrailers text × MayBecomeTrailers text

abbrev pub TrailersStay : Calm → List ℕ → Type 0
TrailersStay = StaysSo IsPartOfTrailers

-- any byte but the one that begins an extension
abbrev pub is_no_semicolon : ℕ → Bool
is_no_semicolon b = not (b == semicolon)

-- the text behind its last line feed, where the last line so far is known
abbrev pub last_line_from : List ℕ → List ℕ → List ℕ
last_line_from line [] = line
last_line_from line (b ∷ text) =
    if b == line_feed then last_line_from text text else last_line_from line text

abbrev pub last_line : List ℕ → List ℕ
last_line text = last_line_from text text

-- behind a name: a colon and bytes of a value
abbrev pub calm_behind_name : List ℕ → Bool → Calm
calm_behind_name [] some = if some then calm.Token else calm.Nothing
calm_behind_name (b ∷ text) some =
    if b == colon then (if list_all is_value_byte text then calm.Value else calm.Nothing) else calm.Nothing

-- in a line that isn't whole
abbrev pub calm_of_line : List ℕ → Calm
calm_of_line line = calm_behind_name (skip_token line) (nat_lt 0 (length line))
