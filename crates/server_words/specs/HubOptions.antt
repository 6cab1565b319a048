-- The options of the hub's program.
use Rattle.std.specs.Prelude.{◌∷◌, ◌*◌, ◌≤◌, List, [], codes, false}
use Rattle.clap.specs.Words.{App, Row, Rule, Text, first_of, matches_of}
use Rattle.grid_types.specs.Config.{default_config}
use Rattle.grid_types.specs.declared.config.HubConfig.{HubConfig}
use Rattle.grid_types.specs.declared.limits.TheConstants.{MOST_REQUESTS}
use Rattle.server_words.specs.Options.{bare, number_of, number_or, text_of, truth_of, truth_or, with_rules}
use Rattle.server_words.specs.declared.hub.HubWords.{HubWords}

-- its options
abbrev pub hub_rules : List Rule
hub_rules =
    text_of (codes "host")
    ∷ number_of (codes "port") 1 65_535
    ∷ number_of (codes "session-request-timeout") 1 86_400
    ∷ number_of (codes "session-timeout") 10 86_400
    ∷ truth_of (codes "reject-unsupported-caps")
    ∷ number_of (codes "queue-limit") 1 MOST_REQUESTS
    ∷ number_of (codes "handlers") 1 128
    ∷ number_of (codes "workers") 0 64
    ∷ number_of (codes "connections") 1 20_000
    ∷ text_of (codes "journal")
    ∷ text_of (codes "journal-sync")
    ∷ []

unfoldable pub hub_command : App
hub_command = with_rules (bare (codes "grid_hub")) hub_rules

-- the configuration that the words found tell; what they leave out is as by default
abbrev pub config_told : List Row → HubConfig
config_told rows = record default_config {
  timeout_ms = number_or 300 (first_of (codes "session-request-timeout") rows) * 1_000;
  idle_ms = number_or 300 (first_of (codes "session-timeout") rows) * 1_000;
  queue_requests = number_or MOST_REQUESTS (first_of (codes "queue-limit") rows);
  reject_unsupported = truth_or false (first_of (codes "reject-unsupported-caps") rows);
}

abbrev pub hub_told : List Row → HubWords
hub_told rows = record {
  port = number_or 4_444 (first_of (codes "port") rows);
  config = config_told rows;
  handlers = number_or 64 (first_of (codes "handlers") rows);
  workers = number_or 4 (first_of (codes "workers") rows);
  connections = number_or 10_000 (first_of (codes "connections") rows);
}

-- counts between the limits of their options
pub record AreWithin (words : HubWords) : Type 0 where
  pub some_handler : 1 ≤ words.handlers
  pub handlers : words.handlers ≤ 128
  pub workers : words.workers ≤ 64
  pub some_connection : 1 ≤ words.connections
  pub connections : words.connections ≤ 20_000

-- what the words of the hub's program say
abbrev pub hub_said : List Text → HubWords
hub_said words = hub_told (matches_of hub_command words)
