use Rattle.std.proofs.Common.{refl, sym, ◌∙◌}
use Rattle.session_map.proofs.Placeholders.{filled-then, filled-else}
use Rattle.session_map.proofs.live_map.LiveMap.fill_placeholder.Goals as goal

pub returns-then-is_placeholder : goal.returns-then-is_placeholder
returns-then-is_placeholder c = record {
  sessions = refl;
  quiet = refl;
  same_places = refl;
  filled = λ s. filled-then c.args.self.now.placeholder c.args.session.now s (sym c.is_placeholder.ensures ∙ c.if-is_placeholder.true);
}

pub returns-else-is_placeholder : goal.returns-else-is_placeholder
returns-else-is_placeholder c = record {
  sessions = refl;
  quiet = refl;
  same_places = refl;
  filled = λ s. filled-else c.args.self.now.placeholder c.args.session.now s (sym c.is_placeholder.ensures ∙ c.if-is_placeholder.false);
}
