-- A reader that is lent: what it knows, and whether its lender keeps up with the pass.
use Rattle.std.proofs.Common.{◌≡◌, ◌⊎◌, Bool, true, false, List, [], ◌∷◌, ◌++◌, refl, ap, sym, subst, ◌∙◌, ⊎_elim, inl, inr, append_assoc}
use Rattle.std.specs.Prelude.{Option, None, Some, IfSome, MatchBool}
use Rattle.std.proofs.lemmas.Option.{IfSome_then}
use mathlib.Core.List.{IsPrefix}
use Rattle.grid_types.specs.declared.entry.Entry.{Entry}
use Rattle.grid_types.specs.History.{history_of}
use Rattle.grid_types.specs.LookupMap as lookup
use Rattle.grid_types.specs.LookupMap.{changes, published, published_by}
use Rattle.map_view.specs.declared.map.MapReader.{MapReader}
use Rattle.map_view.specs.declared.rule.Known.{Known}
use Rattle.map_view.specs.Knowing.{KnowsIn}
use Rattle.map_view.specs.Lists.{listed, BeginsWith}
use Rattle.map_view.specs.Maps.{known, KnowsNoLess}
use Rattle.turn_cell.specs.declared.views.View.{View}
use Rattle.turn_cell.specs.Steps.{following}
use Rattle.hub_cell.specs.declared.grid.Grid.{Grid}
use Rattle.hub_cell.specs.declared.hub.SharedHub.{SharedHub}
use Rattle.hub_cell.specs.declared.hub.Lender.{Lender}
use Rattle.hub_cell.specs.Legality.{is_legal}
use Rattle.hub_cell.specs.Published.{KnowsChanges}
use Rattle.hub_cell.specs.Shared.{past}
use Rattle.hub_cell.specs.Passes.{HasLent, IsLender}
use Rattle.hub_cell.proofs.Journals.{history-append}

-- a reader without a place finds nothing
pub knows-none : (reader : MapReader) (H : List Entry) → known reader ≡ None → KnowsChanges reader H
knows-none reader H e = subst (λ (k : Option Known). KnowsIn k (changes H)) (sym e) tt

begins-begun : (M N L : List lookup.Item) → BeginsWith M N → BeginsWith N L → BeginsWith M L
begins-begun M N L a b = (a.0 ++ b.0, append_assoc a.0 b.0 L ∙ (ap (λ (z : List lookup.Item). a.0 ++ z) b.1 ∙ a.1))

published-begins : (M items : List lookup.Item) → BeginsWith (published M items) M
published-begins M [] = ([], refl)
published-begins M (i ∷ is) = begins-begun (published (i ∷ M) is) (i ∷ M) M (published-begins (i ∷ M) is) (i ∷ [], refl)

-- what more entries publish comes after what was published
changes-begin : (more H : List Entry) → BeginsWith (changes (more ++ H)) (changes H)
changes-begin [] H = ([], refl)
changes-begin (e ∷ more) H =
    begins-begun (changes (e ∷ more ++ H)) (changes (more ++ H)) (changes H) (published-begins (changes (more ++ H)) (published_by (more ++ H) e.change)) (changes-begin more H)

knows-less : (k : Option Known) (L M : List lookup.Item) → BeginsWith L M → KnowsIn k L → KnowsIn k M
knows-less None L M b h = tt
knows-less (Some v) L M b h =
    ⊎_elim (λ (p : BeginsWith (listed v.found) L). inl (begins-begun (listed v.found) L M p b)) (λ (p : BeginsWith (listed v.told) L). inr (begins-begun (listed v.told) L M p b)) h

-- a reader that knows what a history publishes knows what a front of it does
pub knows-front : (reader : MapReader) (seen longer : List Entry) → IsPrefix seen longer → KnowsChanges reader (history_of longer) → KnowsChanges reader (history_of seen)
knows-front reader seen longer p h =
    let begins : BeginsWith (changes (history_of longer)) (changes (history_of seen)) =
    subst (λ (H : List Entry). BeginsWith (changes H) (changes (history_of seen))) (sym (history-append seen p.0) ∙ ap history_of p.1) (changes-begin (history_of p.0) (history_of seen)) in
    knows-less (known reader) (changes (history_of longer)) (changes (history_of seen)) begins h

pub knows-same : (reader : MapReader) (seen other : List Entry) → other ≡ seen → KnowsChanges reader (history_of seen) → KnowsChanges reader (history_of other)
knows-same reader seen other e h = subst (λ (s : List Entry). KnowsChanges reader (history_of s)) (sym e) h

-- of two lists that were seen, and are legal, one is kept
pub followed-legal : (g : Grid) (took : Bool) (old other new : View Grid) → new ≡ following old other → old.origin ≡ Some g → other.origin ≡ Some g → is_legal old.origin old.seen ≡ true → is_legal other.origin other.seen ≡ true →
    MatchBool took (new.seen ≡ other.seen) (new.seen ≡ old.seen) → is_legal new.origin new.seen ≡ true
followed-legal g true old other new e p q l m is =
    let same : new.origin ≡ other.origin = ap (λ (v : View Grid). v.origin) e ∙ (p ∙ sym q) in
    subst (λ (s : List Entry). is_legal new.origin s ≡ true) (sym is) (subst (λ (o : Option Grid). is_legal o other.seen ≡ true) (sym same) m)
followed-legal g false old other new e p q l m is =
    let same : new.origin ≡ old.origin = ap (λ (v : View Grid). v.origin) e in
    subst (λ (s : List Entry). is_legal new.origin s ≡ true) (sym is) (subst (λ (o : Option Grid). is_legal o old.seen ≡ true) (sym same) l)

-- the lender of a pass
pub lender-of : (hub : SharedHub) (reader : MapReader) (was now : Option Lender) → now ≡ was → IfSome was (HasLent hub reader) → IfSome now (IsLender hub)
lender-of hub reader was now e h = subst (λ (o : Option Lender). IfSome o (IsLender hub)) (sym e) (IfSome_then was h (λ lender lent. lent.0))

-- a look-up takes nothing from what the reader knows
pub lent-on : (hub : SharedHub) (old new : MapReader) (lender : Option Lender) → KnowsNoLess old new → IfSome lender (HasLent hub old) → IfSome lender (HasLent hub new)
lent-on hub old new lender more h = IfSome_then lender h (λ l lent. (lent.0, more (changes (past (Rattle.turn_cell.specs.Cells.view_of l.inner))) lent.1))

-- where the lender has learned no earlier, the reader knows what the pass has seen
pub lent-knows : (reader : MapReader) (took : Bool) (lender pass lender' pass' : View Grid) → took ≡ false → MatchBool took (lender'.seen ≡ pass.seen) (lender'.seen ≡ lender.seen) → IsPrefix pass.seen lender'.seen → pass' ≡ pass →
    KnowsChanges reader (past lender) → KnowsChanges reader (past pass')
lent-knows reader true lender pass lender' pass' as_early took before same h = absurd (cc (as_early))
lent-knows reader false lender pass lender' pass' as_early took before same h =
    subst (λ (v : View Grid). KnowsChanges reader (past v)) (sym same) (knows-front reader pass.seen lender'.seen before (knows-same reader lender.seen lender'.seen took h))
