use Rattle.std.proofs.Common.{length}
use Rattle.server_words.proofs.own_capabilities.+put_own.Given as goal

abbrev pub decreases-put_own : goal.decreases-put_own
decreases-put_own l = length l.texts.now
