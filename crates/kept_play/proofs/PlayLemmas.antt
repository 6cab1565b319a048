-- What a play leaves of the hub and of what was kept.
use Rattle.std.proofs.Common.{◌≡◌, ◌∙◌, ℕ, List, refl, sym, ap, subst, inl, inr}
use Rattle.std.specs.Prelude.{Option, IfSome, OnOk, Result, Ok, Err}
use Rattle.grid_types.specs.declared.config.HubConfig.{HubConfig}
use Rattle.grid_outside.specs.Memory.{ClockGives, clock_at, clock_view}
use Rattle.grid_outside.specs.Told.{LinkView}
use Rattle.grid_outside.specs.declared.memory.MemClock.{MemClock}
use Rattle.hub_core.specs.HubView.{past}
use Rattle.conn_script.specs.declared.wants.ConnFault.{ConnFault}
use Rattle.conn_script.specs.declared.wants.Served.{Served}
use Rattle.local_driver.specs.Served.{ServedLocally, outside_of}
use Rattle.local_driver.specs.World.{world_of}
use Rattle.loop_node.specs.declared.links.LoopNodes.{LoopNodes}
use Rattle.loop_node.specs.LinkedNodes.{nodes_reached}
use Rattle.play_words.specs.declared.play.PlayNode.{PlayNode}
use Rattle.play_words.specs.Words.{OnePlay, Plays}
use Rattle.grid_play.specs.Crew.{Crew, first_crew}
use Rattle.grid_play.specs.Ran.{status_of as conn_status}
use Rattle.grid_play.specs.ServedTalks.{ServedIsATalk, ServedTalk, StatusesTell, reached_give, standing_at}
use Rattle.grid_play.specs.Talks.{standing}
use Rattle.row_keeper.specs.Disks.{Disk}
use Rattle.grid_keeper.specs.Keeping.{AlongTold, IsOpen, WentAlong}
use Rattle.grid_keeper.specs.Replays.{IsImage}
use Rattle.grid_keeper.specs.Runs.{Runs, no_call, room_made, call_kept}
use Rattle.grid_keeper.specs.Settling.{NoTicket, NoneHeld, QuitsOn}
use Rattle.grid_keeper.specs.declared.kept_hub.KeptHub.{KeptHub}
use Rattle.kept_play.specs.Serving.{KeptAll, KeptTo, conn_of}
use Rattle.kept_play.specs.declared.serving.KeptEnd.{KeptEnd}
use Rattle.kept_play.specs.declared.serving.KeptEnd.TheVariants as ends
use Rattle.kept_play.specs.Kept.{KeptOver, PlaysOrStops, RunsOrBreaks, RunsSettled, ServedOn, ServedOrStops, TellsKept, end_status}
use Rattle.kept_play.specs.Placing.{Placed}
use Rattle.kept_play.proofs.StatusLemmas.{not_both, tells_conn, tells_stop}

module _ {K : Type 0} (disk : K → Option Disk) (count : K → ℕ) where
  -- ---- one connection

  served_on : (own : List ℕ) (e : Result Served ConnFault) (h k : KeptHub K) (n m : LoopNodes) (t u : MemClock) (before after : LinkView) (status : ℕ) →
      ServedIsATalk → clock_at t ≡ 0 → status ≡ conn_status e →
      ServedLocally reached_give ClockGives own (outside_of (world_of h.hub n t (clock_view t)) before) e (outside_of (world_of k.hub m u (clock_view u)) after) →
      KeptAll disk count h k → k.hub.config ≡ h.hub.config →
      ServedOn h.hub.config own (past h.hub) n status before after (past k.hub) (disk k.keeper)
  served_on own e h k n m t u before after status law at is locally all config = record {
    new = standing_at k.hub m u;
    served = record {
      ended = e;
      talk = subst (λ (x : ℕ). ServedTalk h.hub.config own (standing (past h.hub) (nodes_reached n) x) e before after (standing_at k.hub m u)) at
          (law own e h.hub k.hub n m t u before after locally);
      status_is = is;
    };
    last_is = refl;
    kept = subst (λ (c : HubConfig). IfSome (disk k.keeper) (λ d. IsImage c d.rows (past k.hub))) config all.is_open.stands;
  }

  pub served_over : (own : List ℕ) (ended : Result Served KeptEnd) (h k : KeptHub K) (n m : LoopNodes) (t u : MemClock) (before after : LinkView) (status : ℕ) →
      ServedIsATalk → clock_at t ≡ 0 → status ≡ end_status ended →
      IfSome (conn_of ended)
      (λ e. ServedLocally reached_give ClockGives own (outside_of (world_of h.hub n t (clock_view t)) before) e (outside_of (world_of k.hub m u (clock_view u)) after)) →
      KeptTo disk count h ended k → k.hub.config ≡ h.hub.config →
      ServedOrStops h.hub.config own (past h.hub) n status before after (past k.hub) (disk k.keeper)
  served_over own (Ok served) h k n m t u before after status law at is locally kept config =
      inl (served_on own (Ok served) h k n m t u before after status law at is locally kept config)
  served_over own (Err (ends.Conn fault)) h k n m t u before after status law at is locally kept config =
      inl (served_on own (Err fault) h k n m t u before after status law at is locally kept config)
  served_over own (Err ends.Keeper) h k n m t u before after status law at is locally kept config = inr (inr is)
  served_over own (Err ends.Memory) h k n m t u before after status law at is locally kept config = inr (inl is)

  pub tells_over : (own : List ℕ) (ended : Result Served KeptEnd) (h k : KeptHub K) (n m : LoopNodes) (t u : MemClock) (before after : LinkView) (status : ℕ) →
      StatusesTell → status ≡ end_status ended →
      IfSome (conn_of ended)
      (λ e. ServedLocally reached_give ClockGives own (outside_of (world_of h.hub n t (clock_view t)) before) e (outside_of (world_of k.hub m u (clock_view u)) after)) →
      KeptTo disk count h ended k → TellsKept status (count h.keeper) (count k.keeper) before after
  tells_over own (Ok served) h k n m t u before after status law is locally kept =
      tells_conn (count h.keeper) (count k.keeper) (Ok served) status before after law is locally.blames
  tells_over own (Err (ends.Conn fault)) h k n m t u before after status law is locally kept =
      tells_conn (count h.keeper) (count k.keeper) (Err fault) status before after law is locally.blames
  tells_over own (Err ends.Keeper) h k n m t u before after status law is locally kept =
      tells_stop (count h.keeper) (count k.keeper) status before after (inr is) (λ e. kept.cause refl)
  tells_over own (Err ends.Memory) h k n m t u before after status law is locally kept =
      tells_stop (count h.keeper) (count k.keeper) status before after (inl is) (λ e. absurd (not_both status is e))

  pub runs_over : (ended : Result Served KeptEnd) (h k : KeptHub K) → KeptTo disk count h ended k → RunsOrBreaks disk h k
  runs_over (Ok served) h k kept = inl kept.ran.runs
  runs_over (Err (ends.Conn fault)) h k kept = inl kept.ran.runs
  runs_over (Err ends.Keeper) h k kept = inr kept.broke
  runs_over (Err ends.Memory) h k kept = inr kept.broke

module _ {K : Type 0} (disk : K → Option Disk) where
  -- ---- calls one behind the other

  runs_join : (old mid new : KeptHub K) → Runs disk old mid → Runs disk mid new → Runs disk old new
  runs_join old mid new first (Runs.no_call hub) = first
  runs_join old mid new first (Runs.room_made from last to runs room) = room_made old last new (runs_join old mid last first runs) room
  runs_join old mid new first (Runs.call_kept from last to call at reply runs kept) = call_kept old last new call at reply (runs_join old mid last first runs) kept

  pub runs_then : (old mid new : KeptHub K) → Runs disk old mid → RunsOrBreaks disk mid new → RunsOrBreaks disk old new
  runs_then old mid new first (inl more) = inl (runs_join old mid new first more)
  runs_then old mid new first (inr b) = inr (record { last = b.last; runs = runs_join old mid b.last first b.runs; call = b.call; at = b.at; fails = b.fails })

  pub settled_then : (old mid placed new : KeptHub K) → WentAlong disk old mid → Runs disk mid placed → RunsOrBreaks disk placed new → RunsSettled disk old new
  settled_then old mid placed new went first more = record { settled = mid; went = went; runs = runs_then mid placed new first more }

  pub settled_alone : (old new : KeptHub K) → WentAlong disk old new → RunsSettled disk old new
  settled_alone old new went = record { settled = new; went = went; runs = inl (no_call new) }

  pub settled_broke : (old mid new : KeptHub K) → WentAlong disk old mid → RunsOrBreaks disk mid new → RunsSettled disk old new
  settled_broke old mid new went runs = record { settled = mid; went = went; runs = runs }

  -- ---- a play

  pub plays_on : (nodes : List PlayNode) (old mid placed new : KeptHub K) (n m : LoopNodes) (own lent : List ℕ) (status : ℕ) (before after : LinkView) →
      WentAlong disk old mid → WentAlong disk mid placed → NoneHeld (past mid.hub) → NoTicket (past mid.hub) → QuitsOn reached_give n m →
      Placed mid.hub.config 1 nodes (past mid.hub) own (past placed.hub) → lent ≡ own →
      ServedOrStops placed.hub.config lent (past placed.hub) m status before after (past new.hub) (disk new.keeper) →
      PlaysOrStops old.hub.config nodes (past old.hub) n status before after (past new.hub) (disk new.keeper)
  plays_on nodes old mid placed new n m own lent status before after one more none tickets asks registered is serves = inl (record {
    settled = past mid.hub;
    begins = one.begins;
    none_held = none;
    no_ticket = tickets;
    own = own;
    opened = past placed.hub;
    placed = subst (λ (c : HubConfig). Placed c 1 nodes (past mid.hub) own (past placed.hub)) one.same_config registered;
    reached = m;
    asks = asks;
    serves = subst (λ (c : HubConfig). ServedOrStops c own (past placed.hub) m status before after (past new.hub) (disk new.keeper)) (more.same_config ∙ one.same_config)
        (subst (λ (xs : List ℕ). ServedOrStops placed.hub.config xs (past placed.hub) m status before after (past new.hub) (disk new.keeper)) is serves);
  })

  pub kept_so : (c : HubConfig) (nodes : List PlayNode) (status : ℕ) (before after : LinkView) (first last : KeptHub K) (old new : K) (fresh : LoopNodes) →
      first.hub.config ≡ c → IsOpen disk first → disk first.keeper ≡ disk old → new ≡ last.keeper → nodes_reached fresh ≡ (first_crew c nodes).nodes →
      PlaysOrStops first.hub.config nodes (past first.hub) fresh status before after (past last.hub) (disk last.keeper) →
      WentAlong disk first last → RunsSettled disk first last → KeptOver disk c nodes status before after old new
  kept_so c nodes status before after first last old new fresh config is_open same back are plays went runs = inl (record {
    first = first;
    last = last;
    config = config;
    rows = subst (λ (o : Option Disk). IfSome o (λ d. IsImage c d.rows (past first.hub))) same
        (subst (λ (x : HubConfig). IfSome (disk first.keeper) (λ d. IsImage x d.rows (past first.hub))) config is_open.stands);
    fresh = fresh;
    fresh_are = are;
    plays = subst (λ (x : HubConfig). PlaysOrStops x nodes (past first.hub) fresh status before after (past last.hub) (disk new)) config
        (subst (λ (o : Option Disk). PlaysOrStops first.hub.config nodes (past first.hub) fresh status before after (past last.hub) o) kept plays);
    along = subst (λ (x : HubConfig). AlongTold x (past first.hub) (past last.hub) (disk old) (disk new)) config
        (subst (λ (o : Option Disk). AlongTold first.hub.config (past first.hub) (past last.hub) o (disk new)) same
        (subst (λ (o : Option Disk). AlongTold first.hub.config (past first.hub) (past last.hub) (disk first.keeper) o) kept went.disk_went));
    runs = runs;
    first_kept = same;
    last_kept = kept;
  })
    where
      kept : disk last.keeper ≡ disk new
      kept = ap disk (sym back)

  pub same_kept : OnePlay → (words : List (List ℕ)) (c d : HubConfig) (nodes listed others : List PlayNode) (status : ℕ) (before after : LinkView) (old new : K) →
      Plays words c nodes → listed ≡ nodes → KeptOver disk c listed status before after old new → Plays words d others → KeptOver disk d others status before after old new
  same_kept one words c d nodes listed others status before after old new p is kept q =
      let same = one words c d nodes others p q in
      subst (λ (x : HubConfig). KeptOver disk x others status before after old new) same.same_config
      (subst (λ (x : List PlayNode). KeptOver disk c x status before after old new) (is ∙ same.same_nodes) kept)

pub settled_so : {P : Type 0} (result : Result (Unit {0}) ℕ) → ((status : ℕ) → result ≡ Err status → ⊥) → OnOk result P → P
settled_so (Ok u) never holds = holds
settled_so (Err status) never holds = absurd (never status refl)

pub fresh_nodes : (crew first : Crew) → crew ≡ first → crew.nodes ≡ first.nodes
fresh_nodes crew first e = ap (λ (w : Crew). w.nodes) e
