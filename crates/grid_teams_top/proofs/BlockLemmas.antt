-- A block that a team has served, and one that none has.
use Rattle.std.proofs.Common.{◌≡◌, ℕ, ◌<◌, ◌≤◌, ◌^◌, ◌++◌, false, List, [], ◌∷◌, length, drop, take, refl, sym, ap, ◌∙◌, subst, arith, inl, inr, take-append-drop}
use Rattle.std.specs.Prelude.{Option, Some, Ok, IfSome}
use Rattle.grid_types.specs.Config.{default_config}
use Rattle.grid_types.specs.declared.config.HubConfig.{HubConfig}
use Rattle.grid_outside.specs.Told.{ClockView, LinkView, Pauses, Tick}
use Rattle.grid_outside.specs.declared.exchange.Ask.{Ask}
use Rattle.grid_outside.specs.Exchanges.{Came}
use Rattle.hub_core.specs.HubView.{HubView, past}
use Rattle.node_client.specs.Runs.{Exchanges, Still, pauses_after}
use Rattle.node_client.specs.Steps.{Step, Called, Spent, Exchanged, Paused}
use Rattle.conn_script.specs.declared.wants.End.{End}
use Rattle.conn_script.specs.declared.wants.End.TheVariants as ends
use Rattle.conn_script.specs.declared.wants.Served.{Served}
use Rattle.conn_script.specs.declared.wants.TheConstants.{LIMIT}
use Rattle.hub_conn.specs.Conversation.{Finished, IsOpen}
use Rattle.hub_conn.specs.Talk.{end_cause}
use Rattle.hub_links.specs.Links.{RoseFor}
use Rattle.local_driver.specs.Served.{ServedLocally, outside_of}
use Rattle.local_driver.specs.World.{Answered, world_of}
use Rattle.loop_node.specs.declared.links.LoopNodes.{LoopNodes}
use Rattle.loop_node.specs.LinkedNodes.{nodes_reached}
use Rattle.loop_node.specs.Links.{NodesGive}
use Rattle.grid_play.specs.Crew.{first_crew}
use Rattle.grid_play.specs.Talks.{AscendFrom, standing, Talks, TalksStand}
use Rattle.grid_teams_top.specs.declared.block.BlockLink.{BlockLink}
use Rattle.team_words.specs.declared.team_play.TeamPlay.{TeamPlay}
use Rattle.grid_teams_top.specs.Blocks.{block_view, first_view}
use Rattle.grid_teams_top.specs.Play.{TeamServes}

-- ---- a conversation about a front of a block is one about the block

-- the rule of nodes behind their link
abbrev pub reached_give : LoopNodes → List ℕ → Ask → Came → LoopNodes → Type 0
reached_give old address ask came new = NodesGive (nodes_reached old) address ask came (nodes_reached new)

exchanges_reached : (n k : LoopNodes) (steps : List Step) → Exchanges reached_give n steps k → Exchanges NodesGive (nodes_reached n) steps (nodes_reached k)
unfolding Exchanges
exchanges_reached n k [] e = ap nodes_reached e
exchanges_reached n k (Called call at reply ∷ steps) e = exchanges_reached n k steps e
exchanges_reached n k (Spent call at ∷ steps) e = exchanges_reached n k steps e
exchanges_reached n k (Exchanged address ask came ∷ steps) e = (nodes_reached e.0, e.1, exchanges_reached e.0 k steps e.2)
exchanges_reached n k (Paused ms ∷ steps) e = exchanges_reached n k steps e

-- where an end of the input is told, the block was read to its end
at_end : (end : End) (old new : LinkView) (at n : ℕ) → RoseFor (end_cause end) old new → old.ends ≡ 0 → (0 < new.ends → at ≡ n) → IsOpen end → at ≡ n
at_end ends.Closed old new at n (inl x) none whole unended = whole (omega (arith, x, none))
at_end ends.Closed old new at n (inr x) none whole unended = whole (omega (arith, x))
at_end (ends.Cut place) old new at n (inl x) none whole unended = whole (omega (arith, x, none))
at_end (ends.Cut place) old new at n (inr x) none whole unended = whole (omega (arith, x))
at_end ends.Limit old new at n x none whole unended = absurd unended
at_end ends.Asked old new at n x none whole unended = absurd unended
at_end (ends.Refused why place) old new at n x none whole unended = absurd unended
at_end ends.HubSpent old new at n x none whole unended = absurd unended

nothing_left : (bytes : List ℕ) (at : ℕ) → at ≡ length bytes → drop at bytes ≡ []
nothing_left bytes at e = subst (λ (n : ℕ). drop n bytes ≡ []) (sym e) (all_dropped bytes)
  where
    all_dropped : (xs : List ℕ) → drop (length xs) xs ≡ []
    all_dropped [] = refl
    all_dropped (x ∷ xs) = all_dropped xs

some_one : (x y : List ℕ) → Some x ≡ Some y → x ≡ y
some_one x y e = cc

-- what a team's driver did over a block is what a team serves
pub team_serves : {C : Type 0} (tells : C → Tick → ℕ → C → Type 0) (said : TeamPlay) (served : Served) (h h' : HubView) (n n' : LoopNodes)
    (m m' : C) (time time' : ClockView) (q : Pauses) (numbers : List ℕ) (l l' : BlockLink) (bytes : List ℕ) →
    numbers ≡ (first_crew default_config said.nodes).numbers → h.config ≡ default_config → AscendFrom 1 (nodes_reached n) → time.pauses ≡ Some q →
    block_view l ≡ first_view → l'.bytes.now ≡ bytes → (0 < l'.ends → l'.at ≡ length l'.bytes.now) → length bytes ≤ 16_777_216 →
    ServedLocally reached_give tells numbers (outside_of (world_of h n m time) (block_view l)) (Ok served) (outside_of (world_of h' n' m' time') (block_view l')) →
    served.short ≡ false → LIMIT ≡ 2 ^ 40 → TalksStand →
    TeamServes said (standing (past h) (nodes_reached n) time.moment) bytes l'.taken.items (standing (past h') (nodes_reached n') time'.moment)
team_serves tells said served h h' n n' m m' time time' q numbers l l' bytes named config ascends pauses first block whole few locally told limit stand =
    let s = locally.served in
    let went = s.onward.went in
    let c = default_config in
    let own = (first_crew default_config said.nodes).numbers in
    let old = standing (past h) (nodes_reached n) time.moment in
    let new = standing (past h') (nodes_reached n') time'.moment in
    let clocked = subst (λ (o : Option Pauses). IfSome o (λ t. (time'.pauses ≡ Some (pauses_after t s.steps)) × Still time.moment s.steps time'.moment)) pauses went.keeps_time.told in
    let talks : Talks c own old (Ok served) s.bytes s.steps s.written new = record {
      finished = subst (λ (xs : List ℕ). Finished (Some xs) (Ok served) s.bytes s.steps s.written) named s.finished;
      within = s.within;
      answered = subst (λ (d : HubConfig). Answered d (past h) s.steps (past h')) config went.answered;
      asked = exchanges_reached n n' s.steps went.asked;
      still = clocked.1;
    } in
    let given : Some (take l'.at l'.bytes.now) ≡ Some s.bytes =
    subst (λ (v : LinkView). IfSome v.given (λ t. Some (take l'.at l'.bytes.now) ≡ Some (t ++ s.bytes))) first s.onward.moved.given in
    let taken : Some l'.taken.items ≡ Some s.written =
    subst (λ (v : LinkView). IfSome v.taken (λ t. Some l'.taken.items ≡ Some (t ++ s.written))) first s.onward.moved.taken in
    let rest = drop l'.at l'.bytes.now in
    let all : s.bytes ++ rest ≡ bytes =
    ap (λ (t : List ℕ). t ++ rest) (sym (some_one _ _ given)) ∙ take-append-drop l'.at l'.bytes.now ∙ block in
    let unended : IsOpen served.end → rest ≡ [] =
    λ u. nothing_left l'.bytes.now l'.at (at_end served.end (block_view l) (block_view l') l'.at (length l'.bytes.now) locally.blames (ap (λ (v : LinkView). v.ends) first) whole u) in
    let few_all : length (s.bytes ++ rest) < LIMIT = omega (arith, ap length all, few, limit) in
    let longer = stand c own old new s.bytes rest served s.steps s.written talks unended locally.unspent few_all in
    record {
      served = served;
      steps = s.steps;
      numbered = ascends;
      told = told;
      talks = subst (λ (b : List ℕ). Talks c own old (Ok served) b s.steps l'.taken.items new) all
          (subst (λ (w : List ℕ). Talks c own old (Ok served) (s.bytes ++ rest) s.steps w new) (sym (some_one _ _ taken)) longer);
    }
