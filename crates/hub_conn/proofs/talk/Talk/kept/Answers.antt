use Rattle.std.proofs.Common.{arith}
use Rattle.hub_conn.proofs.KeptLemmas.{is_kept}
use Rattle.hub_conn.proofs.talk.Talk.kept.Goals as goal

pub returns : goal.returns
returns c =
    is_kept c.args.self.now c.kept.result c.response_len.result c.saturating_add.result (λ holds. c.kept.ensures holds) c.response_len.ensures.count
    c.response_len.ensures.few (λ fits. omega (arith, fits, c.saturating_add.ensures))
