-- The error codes of a response (WebDriver §6.6), and the status of each.
use Rattle.std.specs.Prelude.{ℕ, List, codes}
use Rattle.wd_bodies.specs.declared.code.ErrorCode.{ErrorCode}
use Rattle.wd_bodies.specs.declared.code.ErrorCode.TheVariants as code

-- the code's name
abbrev pub code_text : ErrorCode → List ℕ
code_text code.InvalidArgument = codes "invalid argument"
code_text code.InvalidSessionId = codes "invalid session id"
code_text code.UnknownCommand = codes "unknown command"
code_text code.UnknownMethod = codes "unknown method"
code_text code.SessionNotCreated = codes "session not created"
code_text code.UnknownError = codes "unknown error"

-- the code's status
abbrev pub code_status : ErrorCode → ℕ
code_status code.InvalidArgument = 400
code_status code.InvalidSessionId = 404
code_status code.UnknownCommand = 404
code_status code.UnknownMethod = 405
code_status code.SessionNotCreated = 500
code_status code.UnknownError = 500
