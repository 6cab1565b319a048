use Rattle.std.proofs.Common.{rules, ◌≡◌, refl, sym}
use Rattle.std.specs.Prelude.{None}
use Rattle.session_map.proofs.Placeholders.{place-plain}
use Rattle.session_map.proofs.live_map.LiveMap.drop_placeholder.Goals as goal

pub returns-in_default : goal.returns-in_default
returns-in_default c =
    let none : c.args.self.now.placeholder ≡ None = search rules in
    record { sessions = refl; quiet = refl; placeholder = none; places = λ s. sym (place-plain c.args.self.now none s); in_order = λ o. o }
