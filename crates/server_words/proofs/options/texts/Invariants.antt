use Rattle.std.proofs.Common.{◌≡◌, map, take}
use Rattle.server_words.proofs.options.texts.Given as goal

abbrev pub invariant-loop-word : goal.invariant-loop-word
invariant-loop-word l = map (λ s. s.now) l.all.items ≡ take l.word-index l.words
