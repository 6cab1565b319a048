use Rattle.play_words.proofs.PlayLemmas.{one_play}
use Rattle.play_words.proofs.laws.words_say_one_play.Goals as goal

pub returns : goal.returns
returns c = λ words a b nodes others p q. one_play words a b nodes others p q
