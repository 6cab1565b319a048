-- What is noted of the earliest use, by whether the sessions had to be looked at.
use Rattle.std.proofs.Common.{◌≡◌, ℕ, true, false, refl, ap, ◌∙◌}
use Rattle.std.specs.Prelude.{None, Some, unwrap_or}
use Rattle.session_map.specs.declared.live_map.LiveMap.{LiveMap}
use Rattle.session_map.specs.Table.{earliest_use, is_quiet, noted_use}

pub as-noted : (t : LiveMap) (at idle_ms : ℕ) → is_quiet t at idle_ms ≡ true → t.quiet_since.0 ≡ noted_use t at idle_ms
as-noted t at idle_ms quiet = rw quiet refl

-- the noted use where the sessions were looked at
looked : (t : LiveMap) (at idle_ms : ℕ) → is_quiet t at idle_ms ≡ false → unwrap_or (earliest_use t) t.quiet_since.0 ≡ noted_use t at idle_ms
looked t at idle_ms not_quiet = rw not_quiet refl

pub found-noted : (t : LiveMap) (at idle_ms earliest : ℕ) → is_quiet t at idle_ms ≡ false → Some earliest ≡ earliest_use t → earliest ≡ noted_use t at idle_ms
found-noted t at idle_ms earliest not_quiet found = ap (λ o. unwrap_or o t.quiet_since.0) found ∙ looked t at idle_ms not_quiet

pub none-noted : (t : LiveMap) (at idle_ms : ℕ) → is_quiet t at idle_ms ≡ false → None ≡ earliest_use t → t.quiet_since.0 ≡ noted_use t at idle_ms
none-noted t at idle_ms not_quiet none = ap (λ o. unwrap_or o t.quiet_since.0) none ∙ looked t at idle_ms not_quiet
