use Rattle.grid_play.proofs.LongerLemmas.{talks_stand}
use Rattle.grid_play.proofs.laws.talks_stand.Goals as goal

pub returns : goal.returns
returns c = talks_stand (record {
  whole = c.stays.ensures.whole;
  refused_so = c.stays.ensures.refused;
  accepted = c.one_head.ensures.stays;
  before = c.refused_heads_stay.ensures;
})
