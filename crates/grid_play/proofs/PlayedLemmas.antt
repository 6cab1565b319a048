-- What a driver did is what a play promises.
use Rattle.std.proofs.Common.{◌≡◌, ℕ, true, List, [], ◌∷◌, ap, subst, ◌∙◌}
use Rattle.std.specs.Prelude.{Option, Some, Result, IfSome}
use Rattle.grid_types.specs.declared.config.HubConfig.{HubConfig}
use Rattle.grid_types.specs.declared.entry.Entry.{Entry}
use Rattle.grid_types.specs.Laws.{LegalHistoriesAreSafe}
use Rattle.grid_types.specs.Legal.{legal}
use Rattle.grid_outside.specs.Told.{ClockView, LinkView, Pauses, Tick}
use Rattle.hub_core.specs.HubView.{HubView, past}
use Rattle.node_client.specs.Runs.{Exchanges, Still, pauses_after}
use Rattle.node_client.specs.Steps.{Step, Called, Spent, Exchanged, Paused}
use Rattle.conn_script.specs.declared.wants.ConnFault.{ConnFault}
use Rattle.conn_script.specs.declared.wants.Served.{Served}
use Rattle.hub_conn.specs.Conversation.{Finished}
use Rattle.local_driver.specs.Served.{ServedLocally, outside_of}
use Rattle.local_driver.specs.World.{Answered, world_of}
use Rattle.loop_node.specs.declared.links.LoopNodes.{LoopNodes}
use Rattle.loop_node.specs.LinkedNodes.{nodes_reached}
use Rattle.loop_node.specs.Links.{NodesGive}
use Rattle.loop_node.specs.Sessions.{Node}
use Rattle.play_words.specs.declared.play.PlayNode.{PlayNode}
use Rattle.grid_play.specs.Crew.{Crew, first_crew, gathered}
use Rattle.grid_play.specs.Ran.{ServedSo}
use Rattle.grid_play.specs.ServedTalks.{reached_give}

pub exchanges_reached : (n k : LoopNodes) (steps : List Step) → Exchanges reached_give n steps k → Exchanges NodesGive (nodes_reached n) steps (nodes_reached k)
unfolding Exchanges
exchanges_reached n k [] e = ap nodes_reached e
exchanges_reached n k (Called call at reply ∷ steps) e = exchanges_reached n k steps e
exchanges_reached n k (Spent call at ∷ steps) e = exchanges_reached n k steps e
exchanges_reached n k (Exchanged address ask came ∷ steps) e = (nodes_reached e.0, e.1, exchanges_reached e.0 k steps e.2)
exchanges_reached n k (Paused ms ∷ steps) e = exchanges_reached n k steps e

-- a connection that was served from a hub in which the nodes have registered
pub served_so : {C : Type 0} (tells : C → Tick → ℕ → C → Type 0) (c : HubConfig) (played : List PlayNode) (ended : Result Served ConnFault) (h h' : HubView) (n n' : LoopNodes)
    (m m' : C) (time time' : ClockView) (q : Pauses) (numbers : List ℕ) (l l' : LinkView) → gathered h (nodes_reached n) numbers ≡ first_crew c played → h.config ≡ c →
    time.moment ≡ 0 → time.pauses ≡ Some q →
    ServedLocally reached_give tells numbers (outside_of (world_of h n m time) l) ended (outside_of (world_of h' n' m' time') l') →
    LegalHistoriesAreSafe → ServedSo c played ended l l'
served_so tells c played ended h h' n n' m m' time time' q numbers l l' crew config at pauses locally safe =
    let s = locally.served in
    let went = s.onward.went in
    let kept : legal c (past h') ≡ true = subst (λ (d : HubConfig). legal d (past h') ≡ true) (went.config ∙ config) locally.is_legal in
    let told = subst (λ (o : Option Pauses). IfSome o (λ t. (time'.pauses ≡ Some (pauses_after t s.steps)) × Still time.moment s.steps time'.moment)) pauses went.keeps_time.told in
    record {
      bytes = s.bytes;
      steps = s.steps;
      written = s.written;
      played = record {
        finished = subst (λ (xs : List ℕ). Finished (Some xs) ended s.bytes s.steps s.written) (ap (λ (w : Crew). w.numbers) crew) s.finished;
        within = s.within;
        history = past h';
        answered = subst (λ (H : List Entry). Answered c H s.steps (past h')) (ap (λ (w : Crew). w.history) crew)
            (subst (λ (d : HubConfig). Answered d (past h) s.steps (past h')) config went.answered);
        is_legal = kept;
        is_safe = safe c (past h') kept;
        reached = nodes_reached n';
        asked = subst (λ (ns : List Node). Exchanges NodesGive ns s.steps (nodes_reached n')) (ap (λ (w : Crew). w.nodes) crew) (exchanges_reached n n' s.steps went.asked);
        moment = time'.moment;
        still = subst (λ (k : ℕ). Still k s.steps time'.moment) at told.1;
      };
      moved = s.onward.moved;
      blames = locally.blames;
      unspent = locally.unspent;
    }
