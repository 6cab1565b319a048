use Rattle.std.proofs.Common.{sym, ap, ◌∙◌}
use Rattle.std.specs.Prelude.{bytes_eq}
use Rattle.session_map.proofs.SessionNames.{session_eq-is}
use Rattle.session_map.proofs.live_map.ahead.is_same.Goals as goal

pub returns : goal.returns
returns c = c.eq.ensures ∙ (ap (λ z. bytes_eq z c.of-2.result) c.of.ensures ∙ (ap (bytes_eq c.args.one.now) c.of-2.ensures ∙ sym (session_eq-is c.args.one.now c.args.other.now)))
