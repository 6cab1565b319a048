use Rattle.std.proofs.Common.{◌≡◌, false, refl, sym, ◌∙◌}
use Rattle.std.specs.Prelude.{Some, Result, Ok, Err, OnOk, is_err, is_some}
use Rattle.std.specs.BTreeMap as tree
use Rattle.session_map.specs.Names.{session_cmp}
use Rattle.session_map.specs.declared.live_map.LiveMap.{LiveMap}
use Rattle.session_map.proofs.Placeholders.{place-waits}
use Rattle.session_map.proofs.live_map.LiveMap.put_placeholder.Goals as goal

ok-of : {A E : Type 0} {P : Type 0} (r : Result A E) → is_err r ≡ false → OnOk r P → P
ok-of (Ok a) e h = h
ok-of (Err x) e h = absurd (cc)

pub returns-clause-keeps : goal.returns-clause-keeps
returns-clause-keeps c = record {
  still = λ H s.
      let old : LiveMap = c.args.self.now in
      let new : LiveMap = record { sessions = old.sessions; places = c.insert.new.self; placeholder = Some c.args.session; quiet_since = old.quiet_since } in
      let wrote = ok-of c.insert.result (sym c.is_err.ensures.value ∙ c.if-is_err.false) c.insert.ensures.updates in
      let absent : is_some (tree.get session_cmp old.places c.args.session) ≡ false = rw (← c.of.ensures) (sym c.contains_key.ensures ∙ c.if-contains_key.false) in
      record {
        sessions = s.sessions;
        places = λ x. place-waits old new c.args.session c.args.place c.requires refl absent (λ y. rw (← c.of-2.ensures) (wrote.0 y)) x ∙ s.places x;
        quiet = s.quiet;
        bindings_differ = s.bindings_differ;
        in_order = c.insert.ensures.ordered;
      };
}
