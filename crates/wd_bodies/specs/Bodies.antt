-- The bodies of responses, and of the request that starts a session.
use Rattle.std.specs.Prelude.{ℕ, Bool, not, List, ◌++◌, bytes_eq, codes}
use Rattle.std.specs.List.{filter}
use Rattle.grid_types.specs.declared.capabilities.Cap.{Cap}
use Rattle.grid_types.specs.Capabilities.{json_string, written_caps}
use Rattle.grid_types.specs.declared.queue_time.TheConstants.{QUEUE_TIME_NAME}
use Rattle.wd_bodies.specs.declared.code.ErrorCode.{ErrorCode}
use Rattle.wd_bodies.specs.Codes.{code_text}

-- a body whose value is this JSON
unfoldable pub value_bytes : List ℕ → List ℕ
value_bytes json = codes "{\"value\":" ++ json ++ codes "}"

-- the body of an error
unfoldable pub error_bytes : ErrorCode → List ℕ → List ℕ
error_bytes code message =
    codes "{\"value\":{\"error\":\"" ++ code_text code ++ codes "\",\"message\":" ++ json_string message ++ codes ",\"stacktrace\":\"\"}}"

-- the body for a session that was created
unfoldable pub created_bytes : List ℕ → List Cap → List ℕ
created_bytes session caps =
    codes "{\"value\":{\"sessionId\":\"" ++ session ++ codes "\",\"capabilities\":" ++ written_caps caps ++ codes "}}"

-- how long a request waits is for the hub alone
abbrev pub is_for_nodes : Cap → Bool
is_for_nodes member = not (bytes_eq member.name QUEUE_TIME_NAME.now)

-- the capabilities that a node is asked for
abbrev pub for_nodes : List Cap → List Cap
for_nodes wanted = filter is_for_nodes wanted

-- the body of the request that starts a session with these capabilities
unfoldable pub start_bytes : List Cap → List ℕ
start_bytes wanted =
    codes "{\"capabilities\":{\"alwaysMatch\":" ++ written_caps (for_nodes wanted) ++ codes "}}"
