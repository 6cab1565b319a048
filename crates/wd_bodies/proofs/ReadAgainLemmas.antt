-- Each body is written as a list of members is, so it is read again.
use Rattle.std.proofs.Common.{◌≡◌, ℕ, ◌≤◌, true, ◌&&◌, nat_le, List, [], ◌∷◌, ◌++◌, codes, flat_map, length, Some, option_map, option_and_then, refl, sym, ap, ◌∙◌, arith, append_assoc}
use Rattle.std.proofs.lemmas.Bool.{and_parts}
use Rattle.std.proofs.lemmas.Bool.Decides.{nat_tests}
use Rattle.std.specs.List.{list_all}
use Rattle.json.specs.Json.{Json, string, object, Members, no_members, member, document}
use Rattle.json.specs.Tree.{depth, members_depth}
use Rattle.grid_types.specs.Names.{is_session_byte, is_session_name}
use Rattle.grid_types.specs.Capabilities.{escaped, json_string, written_caps}
use Rattle.grid_types.specs.declared.capabilities.Cap.{Cap}
use Rattle.grid_types.specs.declared.capabilities.CapValue.{CapValue}
use Rattle.grid_types.specs.declared.capabilities.CapValue.TheVariants as cap
use Rattle.wd_bodies.specs.declared.code.ErrorCode.{ErrorCode}
use Rattle.wd_bodies.specs.declared.code.ErrorCode.TheVariants as code
use Rattle.wd_bodies.specs.Codes.{code_text}
use Rattle.wd_bodies.specs.Bodies.{value_bytes, error_bytes, created_bytes, for_nodes, start_bytes}
use Rattle.wd_bodies.specs.ReadAgain.{value_json, error_json, caps_members, created_json, start_json}
use Rattle.wd_bodies.proofs.WrittenMembers.{caps-read}

abbrev named : List ℕ → CapValue → Cap
named k v = record { name = k; value = v }

-- one member with a raw value
abbrev raw : List ℕ → List ℕ → List Cap
raw k text = named k (cap.Raw text) ∷ []

caps-member : (k text : List ℕ) (j : Json) → document text ≡ Some j → caps_members (raw k text) ≡ Some (member k j no_members)
caps-member k text j e = ap (option_and_then (λ i. Some (member k i no_members))) e

value-written : (text : List ℕ) → value_bytes text ≡ written_caps (raw (codes "value") text)
unfolding value_bytes written_caps
value-written text = refl

pub value-read-again : (text : List ℕ) (j : Json) → document text ≡ Some j → depth j ≤ 127 → document (value_bytes text) ≡ Some (value_json j)
value-read-again text j e within =
    ap document (value-written text)
    ∙ caps-read (raw (codes "value") text) (member (codes "value") j no_members) (caps-member (codes "value") text j e) (omega arith)

abbrev error_caps : ErrorCode → List ℕ → List Cap
error_caps c message = named (codes "error") (cap.Text (code_text c)) ∷ named (codes "message") (cap.Text message) ∷ named (codes "stacktrace") (cap.Text []) ∷ []

behind-message : (q stack : List ℕ) → q ++ (stack ++ (125 ∷ 125 ∷ [])) ≡ ((q ++ stack) ++ 125 ∷ []) ++ 125 ∷ []
behind-message q stack = simp append_assoc

-- an error's body up to its message
abbrev opening : ErrorCode → List ℕ
opening c = (codes "{\"value\":{\"error\":\"" ++ code_text c) ++ codes "\",\"message\":"

abbrev Written : ErrorCode → List ℕ → Type 0
Written c message = opening c ++ (json_string message ++ codes ",\"stacktrace\":\"\"}}") ≡ value_bytes (written_caps (error_caps c message))

written-code : (c : ErrorCode) (message : List ℕ) → Written c message
unfolding value_bytes written_caps
written-code code.InvalidArgument message = ap (λ (l : List ℕ). opening code.InvalidArgument ++ l) (behind-message (json_string message) (codes ",\"stacktrace\":\"\""))
written-code code.InvalidSessionId message = ap (λ (l : List ℕ). opening code.InvalidSessionId ++ l) (behind-message (json_string message) (codes ",\"stacktrace\":\"\""))
written-code code.UnknownCommand message = ap (λ (l : List ℕ). opening code.UnknownCommand ++ l) (behind-message (json_string message) (codes ",\"stacktrace\":\"\""))
written-code code.UnknownMethod message = ap (λ (l : List ℕ). opening code.UnknownMethod ++ l) (behind-message (json_string message) (codes ",\"stacktrace\":\"\""))
written-code code.SessionNotCreated message = ap (λ (l : List ℕ). opening code.SessionNotCreated ++ l) (behind-message (json_string message) (codes ",\"stacktrace\":\"\""))
written-code code.UnknownError message = ap (λ (l : List ℕ). opening code.UnknownError ++ l) (behind-message (json_string message) (codes ",\"stacktrace\":\"\""))

error-written : (c : ErrorCode) (message : List ℕ) → error_bytes c message ≡ value_bytes (written_caps (error_caps c message))
unfolding error_bytes
error-written c message = append_assoc (opening c) (json_string message) (codes ",\"stacktrace\":\"\"}}") ∙ written-code c message

pub error-read : (c : ErrorCode) (message : List ℕ) → document (error_bytes c message) ≡ Some (error_json c message)
error-read c message =
    let ms = member (codes "error") (string (code_text c)) (member (codes "message") (string message) (member (codes "stacktrace") (string []) no_members)) in
    ap document (error-written c message)
    ∙ value-read-again (written_caps (error_caps c message)) (object ms) (caps-read (error_caps c message) ms refl (omega arith)) (omega arith)

-- an id has no byte that a JSON string escapes
plain-byte : (b : ℕ) → is_session_byte b ≡ true → escaped b ≡ b ∷ []
plain-byte b h = grind (arith, nat_tests)

plain-id : (bytes : List ℕ) → list_all is_session_byte bytes ≡ true → flat_map escaped bytes ≡ bytes
plain-id [] h = refl
plain-id (b ∷ bs) h = let both = and_parts (is_session_byte b) (list_all is_session_byte bs) h in rw (plain-byte b both.0) (ap (λ (l : List ℕ). b ∷ l) (plain-id bs both.1))

abbrev created_caps : List ℕ → List Cap → List Cap
created_caps session caps = named (codes "sessionId") (cap.Text session) ∷ named (codes "capabilities") (cap.Raw (written_caps caps)) ∷ []

-- what stands behind `"sessionId":"`, by the bytes that the id is written as
abbrev behind_id : List ℕ → List ℕ → List ℕ
behind_id id text = (((id ++ 34 ∷ []) ++ (codes ",\"capabilities\":" ++ text)) ++ 125 ∷ []) ++ 125 ∷ []

behind-id : (id quote name text : List ℕ) → ((id ++ (quote ++ name)) ++ text) ++ (125 ∷ 125 ∷ []) ≡ (((id ++ quote) ++ (name ++ text)) ++ 125 ∷ []) ++ 125 ∷ []
behind-id id quote name text = simp append_assoc

created-written : (session : List ℕ) (caps : List Cap) → is_session_name session ≡ true → created_bytes session caps ≡ value_bytes (written_caps (created_caps session caps))
unfolding created_bytes value_bytes written_caps
created-written session caps named_ =
    let plain = plain-id session (and_parts (nat_le 1 (length session) && nat_le (length session) 128) (list_all is_session_byte session) named_).1 in
    ap (λ (l : List ℕ). codes "{\"value\":{\"sessionId\":\"" ++ l)
    (behind-id session (34 ∷ []) (codes ",\"capabilities\":") (written_caps caps) ∙ ap (λ (id : List ℕ). behind_id id (written_caps caps)) (sym plain))

pub created-read : (session : List ℕ) (caps : List Cap) (ms : Members) → is_session_name session ≡ true → caps_members caps ≡ Some ms → members_depth ms ≤ 125
    → document (created_bytes session caps) ≡ Some (created_json session ms)
created-read session caps ms named_ e within =
    let inner = member (codes "sessionId") (string session) (member (codes "capabilities") (object ms) no_members) in
    let members_are : caps_members (created_caps session caps) ≡ Some inner =
    ap (λ o. option_map (member (codes "sessionId") (string session)) (option_and_then (λ j. Some (member (codes "capabilities") j no_members)) o)) (caps-read caps ms e (omega arith)) in
    ap document (created-written session caps named_)
    ∙ value-read-again (written_caps (created_caps session caps)) (object inner) (caps-read (created_caps session caps) inner members_are (omega arith)) (omega arith)

abbrev start_caps : List Cap → List Cap
start_caps wanted = raw (codes "capabilities") (written_caps (raw (codes "alwaysMatch") (written_caps wanted)))

start-written : (wanted : List Cap) → start_bytes wanted ≡ written_caps (start_caps (for_nodes wanted))
unfolding start_bytes written_caps
start-written wanted = simp append_assoc

pub start-read : (wanted : List Cap) (ms : Members) → caps_members (for_nodes wanted) ≡ Some ms → members_depth ms ≤ 125 → document (start_bytes wanted) ≡ Some (start_json ms)
start-read wanted ms e within =
    let asked = for_nodes wanted in
    let always = caps-member (codes "alwaysMatch") (written_caps asked) (object ms) (caps-read asked ms e (omega arith)) in
    let inner = caps-read (raw (codes "alwaysMatch") (written_caps asked)) (member (codes "alwaysMatch") (object ms) no_members) always (omega arith) in
    let whole = caps-member (codes "capabilities") (written_caps (raw (codes "alwaysMatch") (written_caps asked))) (object (member (codes "alwaysMatch") (object ms) no_members)) inner in
    ap document (start-written wanted)
    ∙ caps-read (start_caps asked) (member (codes "capabilities") (object (member (codes "alwaysMatch") (object ms) no_members)) no_members) whole (omega arith)
