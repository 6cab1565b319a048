use Rattle.std.proofs.Common.{[], ◌∙◌, ap}
use Rattle.grid_types.specs.declared.config.HubConfig.{HubConfig}
use Rattle.trial_core.proofs.CostLemmas.{new-plain, plain-some, four-most}
use Rattle.trial_core.proofs.costs.waits_in_vain.Goals as goal

pub enqueue_all-requires : goal.enqueue_all-requires
enqueue_all-requires g c = ap (λ (k : HubConfig). k.reject_unsupported) (c.in_ok-_nodes.ensures []).same_config ∙ c.requires.takes

pub returns-clause-some : goal.returns-clause-some
returns-clause-some g c =
    let choices = c.in_ok-choices.choices in
    c.dispatches_nothing-is_so.ensures.some (plain-some _ 4 choices (c.in_ok-_requests.ensures.plain.plain 4 ((c.in_ok-_nodes.ensures choices).plain 0 (new-plain _ choices c.requires.stands))))

pub returns-clause-four : goal.returns-clause-four
returns-clause-four g c =
    let choices = c.in_ok-choices.choices in
    four-most _ _ _ choices c.in_ok-choices.ensures c.enqueue_all.ensures.free (c.dispatches_nothing-is_so.ensures.few 4 choices (c.in_ok-_requests.ensures.plain.plain 4 ((c.in_ok-_nodes.ensures choices).plain 0 (new-plain _ choices c.requires.stands))))
