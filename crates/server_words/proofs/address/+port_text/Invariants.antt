use Rattle.std.proofs.Common.{length}
use Rattle.server_words.proofs.address.+port_text.Given as goal

abbrev pub decreases-port_text : goal.decreases-port_text
decreases-port_text l = length l.text.now
