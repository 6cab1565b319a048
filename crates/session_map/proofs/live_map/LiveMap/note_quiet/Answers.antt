use Rattle.std.proofs.Common.{sym, ◌∙◌}
use Rattle.session_map.proofs.Idle.{earliest-quiet}
use Rattle.session_map.proofs.QuietLemmas.{as-noted, found-noted, none-noted}
use Rattle.session_map.proofs.live_map.LiveMap.note_quiet.Goals as goal

pub returns-then-is_quiet-clause-noted : goal.returns-then-is_quiet-clause-noted
returns-then-is_quiet-clause-noted c = as-noted c.args.self.now c.args.at.0 c.args.idle_ms (sym c.is_quiet.ensures ∙ c.if-is_quiet.true)

pub returns-in-Some-clause-kept : goal.returns-in-Some-clause-kept
returns-in-Some-clause-kept c =
    let proved = c.history_laws.ensures in
    record {
      still = λ H s. record {
        sessions = s.sessions;
        places = s.places;
        quiet = λ b x there. earliest-quiet proved c.args.self.now c.in-Some.earliest b x c.in-Some.ensures there;
        bindings_differ = s.bindings_differ;
        in_order = s.in_order;
      };
    }

pub returns-in-Some-clause-noted : goal.returns-in-Some-clause-noted
returns-in-Some-clause-noted c = found-noted c.args.self.now c.args.at.0 c.args.idle_ms c.in-Some.earliest (sym c.is_quiet.ensures ∙ c.if-is_quiet.false) c.in-Some.ensures

pub returns-in_default-clause-noted : goal.returns-in_default-clause-noted
returns-in_default-clause-noted c = none-noted c.args.self.now c.args.at.0 c.args.idle_ms (sym c.is_quiet.ensures ∙ c.if-is_quiet.false) c.in_default.ensures
