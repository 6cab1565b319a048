-- The options of the program that puts a driver behind a hub.
use Rattle.std.specs.Prelude.{◌∷◌, ◌≡◌, ◌&&◌, ℕ, Bool, List, [], length, codes, false, is_some, nat_le, true}
use Rattle.std.specs.List.{list_all}
use Rattle.clap.specs.Words.{App, IsAmong, Row, Rule, Text, all_of, fault_of, first_of, kind_of, matches_of}
use Rattle.grid_types.specs.Names.{is_node_name_byte}
use Rattle.grid_types.specs.declared.limits.TheConstants.{MOST_NAME_BYTES, MOST_SLOTS}
use Rattle.server_words.specs.Addresses.{bare_address, is_reachable}
use Rattle.server_words.specs.Options.{IsTaken, all_or_none, bare, number_of, number_or, switch_of, text_of, text_or, texts_of, truth_or, with_rules}
use Rattle.server_words.specs.OwnCapabilities.{caps_or_none, own_caps}
use Rattle.server_words.specs.declared.attach.AttachFault.{AttachFault}
use Rattle.server_words.specs.declared.attach.AttachFault.TheVariants as fault
use Rattle.server_words.specs.declared.attach.AttachWords.{AttachWords}

-- its options
abbrev pub attach_rules : List Rule
attach_rules =
    text_of (codes "hub")
    ∷ text_of (codes "driver")
    ∷ text_of (codes "name")
    ∷ text_of (codes "browser")
    ∷ text_of (codes "browser-version")
    ∷ text_of (codes "platform")
    ∷ number_of (codes "slots") 1 MOST_SLOTS
    ∷ texts_of (codes "capability")
    ∷ switch_of (codes "once")
    ∷ []

unfoldable pub attach_command : App
attach_command = with_rules (bare (codes "grid_attach")) attach_rules

-- what each option with a text is set to, and what it is by default
abbrev pub attach_hub : List Row → List ℕ
attach_hub rows = text_or (codes "127.0.0.1:4444") (first_of (codes "hub") rows)

abbrev pub attach_driver : List Row → List ℕ
attach_driver rows = text_or (codes "127.0.0.1:9515") (first_of (codes "driver") rows)

abbrev pub attach_name : List Row → List ℕ
attach_name rows = text_or (codes "driver") (first_of (codes "name") rows)

abbrev pub attach_browser : List Row → List ℕ
attach_browser rows = text_or (codes "chrome") (first_of (codes "browser") rows)

abbrev pub attach_version : List Row → List ℕ
attach_version rows = text_or [] (first_of (codes "browser-version") rows)

abbrev pub attach_platform : List Row → List ℕ
attach_platform rows = text_or (codes "linux") (first_of (codes "platform") rows)

-- the texts that name capabilities of its own
abbrev pub attach_own : List Row → List (List ℕ)
attach_own rows = all_or_none (all_of (codes "capability") rows)

abbrev pub attach_told : List Row → AttachWords
attach_told rows = record {
  hub = bare_address (attach_hub rows);
  driver = bare_address (attach_driver rows);
  name = attach_name rows;
  browser = attach_browser rows;
  version = attach_version rows;
  platform = attach_platform rows;
  slots = number_or 1 (first_of (codes "slots") rows);
  own = caps_or_none (own_caps (attach_own rows));
  once = truth_or false (first_of (codes "once") rows);
}

-- what the words say
abbrev pub attach_said : List Text → AttachWords
attach_said words = attach_told (matches_of attach_command words)

-- no longer than a node's name may be
abbrev pub is_short : List ℕ → Bool
is_short bytes = nat_le (length bytes) MOST_NAME_BYTES

-- a node's name as a hub takes it: 1 to 64 letters, digits, '-', '_' and '.'
abbrev pub is_label : List ℕ → Bool
is_label bytes = nat_le 1 (length bytes) && is_short bytes && list_all is_node_name_byte bytes

abbrev pub are_short : List ℕ → List ℕ → List ℕ → Bool
are_short browser version platform = is_short browser && is_short version && is_short platform

-- the name is one, and what is told of the browser is short
pub record TextsFit (rows : List Row) : Type 0 where
  pub name : is_label (attach_name rows) ≡ true
  pub short : are_short (attach_browser rows) (attach_version rows) (attach_platform rows) ≡ true

-- the command takes the words, and what they set the options to fits
pub record FitsAttach (words : List Text) : Type 0 where
  pub taken : IsTaken attach_command words
  pub hub : is_reachable (bare_address (attach_hub (matches_of attach_command words))) ≡ true
  pub driver : is_reachable (bare_address (attach_driver (matches_of attach_command words))) ≡ true
  pub texts : TextsFit (matches_of attach_command words)
  pub own : is_some (own_caps (attach_own (matches_of attach_command words))) ≡ true

-- why a value that the command took is refused
abbrev pub HasValueCause : AttachFault → List Row → Type 0
HasValueCause (fault.Words e) rows = ⊥
HasValueCause fault.Hub rows = is_reachable (bare_address (attach_hub rows)) ≡ false
HasValueCause fault.Driver rows = is_reachable (bare_address (attach_driver rows)) ≡ false
HasValueCause fault.Name rows = is_label (attach_name rows) ≡ false
HasValueCause fault.TooLong rows =
    are_short (attach_browser rows) (attach_version rows) (attach_platform rows) ≡ false
HasValueCause fault.Capability rows = is_some (own_caps (attach_own rows)) ≡ false
HasValueCause fault.Memory rows = Unit {0}

-- the command does not take the words, for a cause of this kind
abbrev pub HasWordCause : AttachFault → App → List Text → Type 0
HasWordCause (fault.Words e) app words = IsAmong (kind_of e) (fault_of app words)
HasWordCause fault.Hub app words = ⊥
HasWordCause fault.Driver app words = ⊥
HasWordCause fault.Name app words = ⊥
HasWordCause fault.TooLong app words = ⊥
HasWordCause fault.Capability app words = ⊥
HasWordCause fault.Memory app words = Unit {0}

-- why words are refused
abbrev pub HasCause : AttachFault → List Text → Type 0
HasCause (fault.Words e) words = HasWordCause (fault.Words e) attach_command words
HasCause fault.Hub words = HasValueCause fault.Hub (matches_of attach_command words)
HasCause fault.Driver words = HasValueCause fault.Driver (matches_of attach_command words)
HasCause fault.Name words = HasValueCause fault.Name (matches_of attach_command words)
HasCause fault.TooLong words = HasValueCause fault.TooLong (matches_of attach_command words)
HasCause fault.Capability words = HasValueCause fault.Capability (matches_of attach_command words)
HasCause fault.Memory words = Unit {0}
