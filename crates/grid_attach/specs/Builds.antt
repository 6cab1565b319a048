-- The version of its build that a driver's status tells.
use Rattle.std.specs.Prelude.{◌≡◌, ◌==◌, ℕ, Bool, List, [], ◌∷◌, Option, None, Some, Ok, Err, IsUtf8, codes, option_and_then, if◌then◌else◌}
use Rattle.std.specs.List.{before_first}
use Rattle.grid_outside.specs.declared.exchange.Reply.TheVariants as reply
use Rattle.grid_outside.specs.Exchanges.{Came}
use Rattle.serde_json.specs.Data.{Data}
use Rattle.serde_json.specs.Find.{as_str, pointer}
use Rattle.serde_json.specs.Read.{read}
use Rattle.server_words.specs.AttachOptions.{is_short}

abbrev pub is_space : ℕ → Bool
is_space b = b == 32

abbrev pub first_word : List ℕ → List ℕ
first_word text = before_first is_space text

-- no longer than what the program's arguments may tell
abbrev pub short_word : List ℕ → List ℕ
short_word word = if is_short word then word else []

abbrev pub version_of_text : Option (List ℕ) → List ℕ
version_of_text None = []
version_of_text (Some text) = short_word (first_word text)

-- the version in a status: the first word of the text at value.build.version, or none
abbrev pub version_in : Data → List ℕ
version_in status =
    version_of_text (option_and_then as_str (pointer (codes "/value/build/version") status))

abbrev pub version_of_json : Option Data → List ℕ
version_of_json None = []
version_of_json (Some status) = version_in status

-- a body that is a text tells what it says as JSON, and another tells none
pub record BodyTells (body version : List ℕ) : Type 0 where
  pub text : IsUtf8 body → version ≡ version_of_json (read body)
  pub other : ¬ (IsUtf8 body) → version ≡ []

-- what the answer to a driver's status tells
abbrev pub AnswerTells : Came → List ℕ → Type 0
AnswerTells (Ok (reply.Http r)) version = BodyTells r.body version
AnswerTells (Ok (reply.NotHttp bytes)) version = version ≡ []
AnswerTells (Err f) version = version ≡ []

-- the version that is registered: what the arguments say, or else what the driver tells
abbrev pub VersionIs : List ℕ → Came → List ℕ → Type 0
VersionIs [] seen version = AnswerTells seen version
VersionIs (b ∷ bs) seen version = version ≡ b ∷ bs
