use Rattle.grid_play.proofs.RunLemmas.{node_fits, plays_few, plays_fit, plays_valid}
use Rattle.grid_play.proofs.laws.said_nodes_fit.Goals as goal

pub returns : goal.returns
returns c = record {
  node = node_fits;
  crew = λ words config nodes p. (plays_fit words config nodes p, plays_few words config nodes p);
  hub = plays_valid;
}
