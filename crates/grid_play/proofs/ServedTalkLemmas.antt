-- What was served is one conversation, and what the status of its end tells.
use Rattle.std.proofs.Common.{◌≡◌, ℕ, List, true, subst}
use Rattle.std.specs.Prelude.{Result}
use Rattle.grid_outside.specs.Memory.{ClockGives, clock_view}
use Rattle.grid_outside.specs.Told.{LinkView}
use Rattle.grid_outside.specs.declared.memory.MemClock.{MemClock}
use Rattle.grid_types.specs.declared.config.HubConfig.{HubConfig}
use Rattle.grid_types.specs.Legal.{legal}
use Rattle.hub_core.specs.HubView.{HubView, past}
use Rattle.conn_script.specs.declared.wants.ConnFault.{ConnFault}
use Rattle.conn_script.specs.declared.wants.Served.{Served}
use Rattle.hub_conn.specs.Talk.{result_cause}
use Rattle.hub_links.specs.Links.{RoseFor}
use Rattle.local_driver.specs.Served.{ServedLocally, outside_of}
use Rattle.local_driver.specs.World.{world_of}
use Rattle.loop_node.specs.declared.links.LoopNodes.{LoopNodes}
use Rattle.grid_play.specs.Ran.{status_of}
use Rattle.grid_play.specs.ServedTalks.{ServedTalk, TellsStatus, reached_give, standing_at}
use Rattle.grid_play.proofs.PlayedLemmas.{exchanges_reached}
use Rattle.grid_play.proofs.RunLemmas.{is_status, read_told, write_told}

pub served_talk : (own : List ℕ) (ended : Result Served ConnFault) (h k : HubView) (n m : LoopNodes) (t u : MemClock) (before after : LinkView) →
    ServedLocally reached_give ClockGives own (outside_of (world_of h n t (clock_view t)) before) ended (outside_of (world_of k m u (clock_view u)) after) →
    ServedTalk h.config own (standing_at h n t) ended before after (standing_at k m u)
served_talk own ended h k n m t u before after locally =
    let s = locally.served in
    let went = s.onward.went in
    record {
      bytes = s.bytes;
      steps = s.steps;
      written = s.written;
      talks = record {
        finished = s.finished;
        within = s.within;
        answered = went.answered;
        asked = exchanges_reached n m s.steps went.asked;
        still = went.keeps_time.told.1;
      };
      is_legal = kept went.config locally.is_legal;
      moved = s.onward.moved;
      blames = locally.blames;
      unspent = locally.unspent;
    }
  where
    kept : k.config ≡ h.config → legal k.config (past k) ≡ true → legal h.config (past k) ≡ true
    kept e l = subst (λ (c : HubConfig). legal c (past k) ≡ true) e l

pub tells_status : (ended : Result Served ConnFault) (before after : LinkView) → RoseFor (result_cause ended) before after → TellsStatus (status_of ended) before after
tells_status ended before after blames = record {
  read = λ e. read_told ended before after e blames;
  write = λ e. write_told ended before after e blames;
  few = is_status ended;
}
