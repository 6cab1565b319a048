use Rattle.hub_tellers.proofs.StartLemmas.{fail_told}
use Rattle.hub_tellers.proofs.starts.told_fail.Goals as goal

pub returns : goal.returns
returns c = λ reservation is_of. fail_told c.calls_make.ensures _ _ reservation _ is_of _ _ _ _ _ _ c.refuses-last.ensures c.told_failed.ensures
