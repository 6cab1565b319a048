-- From anywhere there is one conversation about some bytes.
use Rattle.std.proofs.Common.{ℕ, ◌+◌, List, [], ◌∷◌, sym, ◌∙◌, ap, subst, append-nil}
use Rattle.hub_conn.specs.SpentLaws.{SpentLaws}
use Rattle.node_client.specs.Runs.{Exchanges}
use Rattle.node_client.specs.Steps.{Step, Called, Spent, Exchanged, Paused}
use Rattle.loop_node.specs.Links.{NodesGive}
use Rattle.loop_node.specs.Sessions.{Node}
use Rattle.grid_play.specs.Readings.{Readings}
use Rattle.grid_play.specs.Talks.{AscendFrom, FirstCrewsAscend, OneTalk, standing, TalksKeepNumbers}
use Rattle.grid_play.specs.Crew.{first_crew}
use Rattle.grid_play.proofs.CrewLemmas.{crew_ascends}
use Rattle.grid_play.proofs.GivesLemmas.{Ascends, gives_kept}
use Rattle.grid_play.proofs.ExactLemmas.{State, state, Exactly, exactly_so, exactly_one}
use Rattle.grid_play.proofs.TalkOneLemmas.{talk_one}

-- two definitions that say the same
ascends_from : (k : ℕ) (nodes : List Node) → AscendFrom k nodes → Ascends k nodes
ascends_from k [] h = tt
ascends_from k (n ∷ nodes) h = (h.0, h.1, ascends_from (n.number + 1) nodes h.2)

ascend_from : (k : ℕ) (nodes : List Node) → Ascends k nodes → AscendFrom k nodes
ascend_from k [] h = tt
ascend_from k (n ∷ nodes) h = (h.0, h.1, ascend_from (n.number + 1) nodes h.2)

pub one_talk : Readings → SpentLaws → OneTalk
one_talk laws spent_laws c own from to last_to bytes served last steps others written answered numbers p q short short_too =
    let s = state from.history from.nodes from.moment in
    let y = state to.history to.nodes to.moment in
    let z = state last_to.history last_to.nodes last_to.moment in
    let ascends = ascends_from 1 from.nodes numbers in
    let a = exactly_so c from.history to.history from.nodes to.nodes from.moment to.moment 1 steps p.answered p.asked p.still (sym p.finished.short_is ∙ short) ascends in
    let b = exactly_so c from.history last_to.history from.nodes last_to.nodes from.moment last_to.moment 1 others q.answered q.asked q.still (sym q.finished.short_is ∙ short_too) ascends in
    let one = talk_one laws spent_laws c own s y z bytes served last steps others written answered p.finished q.finished
    (subst (λ (x : List Step). Exactly c s x y) (sym (append-nil steps)) a)
    (subst (λ (x : List Step). Exactly c s x z) (sym (append-nil others)) b) in
    let same = exactly_one laws c s y z others (subst (λ (x : List Step). Exactly c s x y) one.steps_are a) b in
    record {
      same_end = λ i. record { frames = one.frames i; end = one.ends i; short = (short ∙ sym short_too) i };
      same_steps = one.steps_are;
      same_written = one.written_are;
      same_standing = ap (λ (x : State). standing x.history x.nodes x.moment) same;
    }

asked_kept : (k : ℕ) (old new : List Node) (steps : List Step) → Ascends k old → Exchanges NodesGive old steps new → Ascends k new
unfolding Exchanges
asked_kept k old new [] a x = subst (λ (l : List Node). Ascends k l) (sym x) a
asked_kept k old new (Called call at reply ∷ steps) a x = asked_kept k old new steps a x
asked_kept k old new (Spent call at ∷ steps) a x = asked_kept k old new steps a x
asked_kept k old new (Exchanged address ask came ∷ steps) a x = asked_kept k x.0 new steps (gives_kept k old address ask came x.0 a x.1) x.2
asked_kept k old new (Paused ms ∷ steps) a x = asked_kept k old new steps a x

pub talks_keep_numbers : TalksKeepNumbers
talks_keep_numbers c own s y bytes ended steps written numbers talks =
    ascend_from 1 y.nodes (asked_kept 1 s.nodes y.nodes steps (ascends_from 1 s.nodes numbers) talks.asked)

pub crews_ascend : FirstCrewsAscend
crews_ascend c nodes few = ascend_from 1 (first_crew c nodes).nodes (crew_ascends c nodes few)
