use Rattle.std.proofs.Common.{ℕ, List, [], refl, sym, ◌∙◌, subst, arith}
use Rattle.grid_types.specs.declared.config.HubConfig.{HubConfig}
use Rattle.journal_keeper.specs.Keeps.{Adds, Holds}
use Rattle.journal_keeper.specs.Keepings.{kept_by}
use Rattle.hub_opening.proofs.GoingLemmas.{head_held}
use Rattle.hub_opening.proofs.beginning.begin.Goals as goal

pub resume-requires-clause-start : goal.resume-requires-clause-start
resume-requires-clause-start g c =
    let adds = subst (λ (z : List ℕ). Adds (kept_by c.args.keeping) (kept_by c.keep_all.new.keeper) z) (c.as_bytes.ensures ∙ c.in_ok-head.ensures) c.keep_all.ensures in record {
      start = [];
      core_stands = c.in_ok-core.ensures.stands;
      map_stands = record { shows = c.in_ok-map.ensures.0; none_pending = c.in_ok-map.ensures.1 };
      holds = subst (λ (z : HubConfig). Holds z [] (kept_by c.keep_all.new.keeper)) (sym c.in_ok-core.ensures.same)
          (head_held c.args.config (kept_by c.args.keeping) (kept_by c.keep_all.new.keeper) c.requires.empty adds);
      goes = record { low = omega arith; own = refl; later = λ n far. refl };
    }
