-- Numbers between the limits of options.
use Rattle.std.proofs.Common.{◌≡◌, ◌≤◌, ◌*◌, ℕ, Bool, List, true, arith, refl}
use Rattle.grid_types.specs.Config.{IsValid, default_config}
use Rattle.grid_types.specs.declared.config.HubConfig.{HubConfig}
use Rattle.std.proofs.lemmas.Int.{ints}
use Rattle.std.specs.Prelude.{Option, None, Some, IfSome, pos, codes}
use Rattle.clap.proofs.OnLiterals.{clap_on_literals}
use Rattle.clap.specs.Words.{App, IsSignedIn, Row, Text, first_of, is_simple_and_free}
use Rattle.server_words.specs.HubOptions.{hub_command}
use Rattle.server_words.specs.NodeOptions.{node_command}
use Rattle.server_words.specs.Options.{NumbersFit}

pub wider : (o : Option Text) (least most : ℕ) → most ≤ 100_000 → IfSome o (IsSignedIn (pos least) (pos most)) → IfSome o (IsSignedIn (pos 0) (pos 100_000))
wider None least most le h = tt
wider (Some t) least most le h =
    let low = h.2 in
    let high = h.3 in
    (h.0, h.1, omega (arith, ints), omega (arith, ints))

hub_is_simple : is_simple_and_free hub_command ≡ true
unfolding clap_on_literals hub_command
hub_is_simple = refl

pub hub_simple : (app : App) → app ≡ hub_command → is_simple_and_free app ≡ true
hub_simple app e = rw e hub_is_simple

node_is_simple : is_simple_and_free node_command ≡ true
unfolding clap_on_literals node_command
node_is_simple = refl

pub node_simple : (app : App) → app ≡ node_command → is_simple_and_free app ≡ true
node_simple app e = rw e node_is_simple

module _ (rows : List Row) (fit : NumbersFit hub_command rows) where
  pub port_fits : IfSome (first_of (codes "port") rows) (IsSignedIn (pos 1) (pos 65_535))
  unfolding clap_on_literals hub_command
  port_fits = fit (codes "port") 1 65_535 refl refl

  pub wait_fits : IfSome (first_of (codes "session-request-timeout") rows) (IsSignedIn (pos 1) (pos 86_400))
  unfolding clap_on_literals hub_command
  wait_fits = fit (codes "session-request-timeout") 1 86_400 refl refl

  pub idle_fits : IfSome (first_of (codes "session-timeout") rows) (IsSignedIn (pos 10) (pos 86_400))
  unfolding clap_on_literals hub_command
  idle_fits = fit (codes "session-timeout") 10 86_400 refl refl

  pub queue_fits : IfSome (first_of (codes "queue-limit") rows) (IsSignedIn (pos 1) (pos 10_000))
  unfolding clap_on_literals hub_command
  queue_fits = fit (codes "queue-limit") 1 10_000 refl refl

  pub handlers_fit : IfSome (first_of (codes "handlers") rows) (IsSignedIn (pos 1) (pos 128))
  unfolding clap_on_literals hub_command
  handlers_fit = fit (codes "handlers") 1 128 refl refl

  pub workers_fit : IfSome (first_of (codes "workers") rows) (IsSignedIn (pos 0) (pos 64))
  unfolding clap_on_literals hub_command
  workers_fit = fit (codes "workers") 0 64 refl refl

  pub connections_fit : IfSome (first_of (codes "connections") rows) (IsSignedIn (pos 1) (pos 20_000))
  unfolding clap_on_literals hub_command
  connections_fit = fit (codes "connections") 1 20_000 refl refl

module _ (rows : List Row) (fit : NumbersFit node_command rows) where
  pub node_port_fits : IfSome (first_of (codes "port") rows) (IsSignedIn (pos 1) (pos 65_535))
  unfolding clap_on_literals node_command
  node_port_fits = fit (codes "port") 1 65_535 refl refl

  pub slots_fit : IfSome (first_of (codes "slots") rows) (IsSignedIn (pos 1) (pos 64))
  unfolding clap_on_literals node_command
  slots_fit = fit (codes "slots") 1 64 refl refl

pub valid_config : (wait idle waiting : ℕ) (rejects : Bool) (d : HubConfig) → d ≡ default_config → 1 ≤ wait → wait ≤ 86_400 → 10 ≤ idle → idle ≤ 86_400
    → 1 ≤ waiting → waiting ≤ 10_000
    → IsValid (record d { timeout_ms = wait * 1_000; idle_ms = idle * 1_000; queue_requests = waiting; reject_unsupported = rejects })
valid_config wait idle waiting rejects d e w0 w1 i0 i1 q0 q1 = rw e (record {
  timeout_least = omega arith;
  timeout_most = omega arith;
  idle_least = omega arith;
  idle_most = omega arith;
  lapse_least = omega arith;
  lapse_most = omega arith;
  down_least = omega arith;
  down_most = omega arith;
  queue_least = q0;
  queue_most = q1;
  first_node = omega arith;
  first_request = omega arith;
})
