use Rattle.std.proofs.Common.{refl, ◌∙◌, ap}
use Rattle.grid_types.specs.declared.config.HubConfig.{HubConfig}
use Rattle.trial_core.proofs.CostLemmas.{keeps-none, keeps-then}
use Rattle.trial_core.proofs.costs.enqueue_all.Goals as goal

pub loop-init : goal.loop-init
loop-init g c = (keeps-none c.args.choices.now c.args.core.now, refl)

pub enqueue_copy-requires : goal.enqueue_copy-requires
enqueue_copy-requires g c = ap (λ (k : HubConfig). k.reject_unsupported) c.loop.invariant.0.same_config ∙ c.requires

pub loop-preserved : goal.loop-preserved
loop-preserved g c = (keeps-then 0 0 c.args.choices.now _ _ _ c.loop.invariant.0 c.in_ok-enqueue_copy.ensures.plain, c.enqueue_copy.ensures.free ∙ c.loop.invariant.1)
