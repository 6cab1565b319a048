use Rattle.team_words.proofs.TeamNodeLemmas.{teams_one}
use Rattle.team_words.proofs.laws.words_say_one_list.Goals as goal

pub returns : goal.returns
returns c = λ words a b p q. teams_one c.words_say_one_play.ensures words a b p q
