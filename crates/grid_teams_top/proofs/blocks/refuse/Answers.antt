use Rattle.std.proofs.Common.{◌∙◌}
use Rattle.grid_teams_top.specs.Refusals.{awaited_so, headed_so, refused_so}
use Rattle.grid_teams_top.proofs.HeadLemmas.{whole_accepted}
use Rattle.grid_teams_top.proofs.TeamBlockLemmas.{if_ok}
use Rattle.grid_teams_top.proofs.blocks.refuse.Goals as goal

pub returns-in-Refused : goal.returns-in-Refused
returns-in-Refused c = if_ok c.refusal.result c.refusal.ensures (λ out x limits bytes f. refused_so _ (c.in-Refused.ensures.told limits bytes f) x)

pub returns-in-More : goal.returns-in-More
returns-in-More c = λ limits bytes f. awaited_so _ (c.in-More.ensures.told limits bytes f) (c.from_vec.ensures ∙ c.new.ensures.items)

pub returns-in-Whole : goal.returns-in-Whole
returns-in-Whole c = λ limits bytes f. let x = c.in-Whole.ensures.told limits bytes f in headed_so x.0 (whole_accepted limits bytes x.0 x.1 _ x.2)
