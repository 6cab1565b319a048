use Rattle.grid_play.proofs.ServedTalkLemmas.{served_talk, tells_status}
use Rattle.grid_play.proofs.laws.served_is_a_talk.Goals as goal

pub returns-clause-talk : goal.returns-clause-talk
returns-clause-talk c = served_talk

pub returns-clause-statuses : goal.returns-clause-statuses
returns-clause-statuses c = tells_status
