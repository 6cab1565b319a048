use Rattle.std.proofs.Common.{◌≡◌, true, List, [], sym, ap, ◌∙◌, subst}
use Rattle.std.specs.Prelude.{reverse}
use Rattle.grid_types.specs.declared.config.HubConfig.{HubConfig}
use Rattle.grid_types.specs.declared.entry.Entry.{Entry}
use Rattle.grid_types.specs.Legal.{legal}
use Rattle.grid_types.specs.LookupMap as lookup
use Rattle.grid_types.specs.LookupMap.{changes}
use Rattle.map_view.specs.declared.items.Item as map_item
use Rattle.map_view.specs.Lists.{listed}
use Rattle.map_view.specs.Maps.{published}
use Rattle.hub_tables.specs.Tables as of_tables
use Rattle.hub_core.specs.CoreStands.{Stands}
use Rattle.grid_ledger.specs.LedgerStands as of_ledger
use Rattle.journal_keeper.specs.Keeps.{Holds}
use Rattle.journal_keeper.specs.Keepings.{kept_by}
use Rattle.hub_opening.proofs.GoingLemmas.{same_history, goes_on_from, held, on_ok, stands_on}
use Rattle.hub_opening.proofs.going.go_on.Goals as goal

pub resume-requires-clause-start : goal.resume-requires-clause-start
resume-requires-clause-start g c =
    let h = c.requires.handed in
    let back = sym (same_history h.history) in
    let fine = sym c.is_err.ensures.value ∙ c.if-is_err.false in
    let configured = sym c.config-config.ensures in
    let tables = subst (λ (z : HubConfig). of_tables.Stands z c.into_tables.result h.history) configured (c.into_tables.ensures h.history h.stands) in
    let stands = c.resume-core.ensures.stands h.history tables (subst (λ (z : HubConfig). legal z h.history ≡ true) configured h.stands.is_legal) in
    let shows = on_ok c.show_all.result fine c.show_all.ensures.shown ∙ (ap (λ (z : List lookup.Item). lookup.published z (listed c.items.result.now)) c.in_ok-map.ensures.0
    ∙ (ap (λ (z : List map_item.Item). lookup.published [] (listed z)) c.items.ensures ∙ h.shows.items)) in record {
      start = reverse h.history;
      core_stands = subst (λ (z : List Entry). Stands c.resume-core.result z) back stands;
      map_stands = record { shows = subst (λ (z : List Entry). published c.show_all.new.map ≡ changes z) back shows; none_pending = on_ok c.show_all.result fine c.show_all.ensures.none };
      holds = subst (λ (z : HubConfig). Holds z (reverse h.history) (kept_by c.args.settled.keeper)) (sym (c.resume-core.ensures.same ∙ c.config-config.ensures))
          (held c.written_is_journal.ensures c.args.settled.ledger.config h.history (kept_by c.args.settled.keeper) h.keeps);
      goes = goes_on_from c.args.settled.first_caller h.history h.callers;
    }

pub returns-clause-stands : goal.returns-clause-stands
returns-clause-stands g c =
    let configured = sym c.config-config.ensures in
    stands_on c.resume-core.result c.args.settled.ledger c.args.settled.keeper c.resume.result c.resume.ensures.start
    (λ H s. c.resume-core.ensures.stands H (subst (λ (z : HubConfig). of_tables.Stands z c.into_tables.result H) configured (c.into_tables.ensures H s))
    (subst (λ (z : HubConfig). legal z H ≡ true) configured s.is_legal))
