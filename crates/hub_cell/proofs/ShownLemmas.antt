-- What a turn makes of the published map.
use Rattle.std.proofs.Common.{◌≡◌, ◌∙◌, ℕ, true, false, List, [], ◌++◌, sym, ap, subst, append-nil, inl, inr}
use Rattle.std.specs.Prelude.{Option, Some, is_none, is_some, Result, Ok, Err, OnOk, OnErr, is_err}
use Rattle.grid_types.specs.declared.config.HubConfig.{HubConfig}
use Rattle.grid_types.specs.declared.entry.Entry.{Entry}
use Rattle.grid_types.specs.History.{history_of}
use Rattle.grid_types.specs.Calls.{Call, Reply}
use Rattle.grid_types.specs.HubAnswers.{hub}
use Rattle.grid_types.specs.LookupMap as lookup
use Rattle.grid_types.specs.LookupMap.{changes}
use Rattle.hub_core.specs.Ahead.{Publishes, is_quiet, QuietCallsPublishNothing}
use Rattle.hub_core.specs.Answers.{Answers, may_lack}
use Rattle.hub_core.specs.declared.hub.HubCore.{HubCore}
use Rattle.hub_core.specs.Serves.{MayCall, Serves}
use Rattle.hub_core.specs.CoreStands.{Stands, CoreKeeps, CoreServes, CoreTells}
use Rattle.map_view.specs.declared.map.MapReader.{MapReader}
use Rattle.map_view.specs.declared.map.MapWriter.{MapWriter}
use Rattle.map_view.specs.Maps.{published, pending, Knows}
use Rattle.turn_cell.specs.declared.views.View.{View}
use Rattle.hub_cell.specs.declared.grid.Grid.{Grid}
use Rattle.hub_cell.specs.Published.{MapStands, GridStands, KnowsChanges}
use Rattle.turn_cell.specs.Steps.{after, IsExact}
use Rattle.hub_cell.specs.Shared.{past, made_by, PassMay}
use Rattle.hub_cell.specs.Turning.{ServesThere}
use Rattle.hub_cell.proofs.TurnLemmas.{core-serves, some-stands, some-there, same-config}
use Rattle.hub_cell.proofs.Journals.{history-after}

-- what is lent is the turn's value
pub lent-grid : (lent was : Grid) (H : List Entry) → lent ≡ was → GridStands was.core.value was.map H → GridStands lent.core.value lent.map H
lent-grid lent was H e s = subst (λ (z : Grid). GridStands z.core.value z.map H) (sym e) s

pub lent-serves : (lent was new : HubCore) (k : ℕ) (call : Call) (at : ℕ) (reply : Option Reply) → lent ≡ was → CoreServes lent new k call at reply → CoreServes was new k call at reply
lent-serves lent was new k call at reply e s = subst (λ (z : HubCore). CoreServes z new k call at reply) e s

pub lent-config : (lent was : Grid) (c : HubConfig) → lent ≡ was → was.core.value.config ≡ c → lent.core.value.config ≡ c
lent-config lent was c e s = ap (λ (z : Grid). z.core.value.config) e ∙ s

-- the map as it was, for a history that publishes as much
pub map-on : (old new : MapWriter) (H G : List Entry) → MapStands old H → published new ≡ published old → pending new ≡ pending old → changes G ≡ changes H → MapStands new G
map-on old new H G s shown waiting same = record { shows = shown ∙ (s.shows ∙ sym same); none_pending = waiting ∙ s.none_pending }

-- a reader that was told what is published
pub told : (reader : MapReader) (map : MapWriter) (H : List Entry) → Knows reader (published map) → published map ≡ changes H → KnowsChanges reader H
told reader map H k e = subst (λ M. Knows reader M) e k

pub none-made_shown : (seen : List Entry) → changes (history_of (seen ++ [])) ≡ changes (history_of seen)
none-made_shown seen = ap (λ (z : List Entry). changes (history_of z)) (append-nil seen)

-- the history with what a call makes
pub made-history : (c : HubConfig) (v : View Grid) (call : Call) (at : ℕ) (made : List Entry) (items : List lookup.Item) → made ≡ made_by c (past v) v.number call at → Publishes c (past v) v.number call at items →
    changes (history_of (v.seen ++ made)) ≡ lookup.published (changes (past v)) items
made-history c v call at made items m p =
    ap (λ (z : List Entry). changes (history_of (v.seen ++ z))) m ∙ (ap changes (history-after v.seen v.number (hub c (past v) v.number call at).changes) ∙ p)

pub quiet-shown : QuietCallsPublishNothing → (c : HubConfig) (v : View Grid) (call : Call) (at : ℕ) (made : List Entry) → is_quiet call ≡ true → made ≡ made_by c (past v) v.number call at →
    changes (history_of (v.seen ++ made)) ≡ changes (past v)
quiet-shown law c v call at made q m = made-history c v call at made [] m (law c (past v) v.number call at q)

-- the items that were pending are shown
pub items-shown : (c : HubConfig) (v : View Grid) (call : Call) (at : ℕ) (made : List Entry) (old mid new : MapWriter) → made ≡ made_by c (past v) v.number call at → MapStands old (past v) → published mid ≡ published old →
    Publishes c (past v) v.number call at (pending mid) → published new ≡ lookup.published (published mid) (pending mid) → published new ≡ changes (history_of (v.seen ++ made))
items-shown c v call at made old mid new m s same p e =
    e ∙ (ap (λ M. lookup.published M (pending mid)) (same ∙ s.shows) ∙ sym (made-history c v call at made (pending mid) m p))

none-of-some : (reply : Option Reply) (r : Reply) → reply ≡ Some r → is_none reply ≡ false
none-of-some reply r e = ap is_none e

-- a call that has its memory is answered
pub is-answered : (c : HubConfig) (H next : List Entry) (k : ℕ) (call : Call) (at : ℕ) (reply : Option Reply) → Serves c H k call at reply next → (may_lack call (hub c H k call at).reply ≡ true → is_some reply ≡ true) → is_none reply ≡ false
is-answered c H next k call at reply s sure = by_answer s.answers
  where
    by_answer : Answers c H k call at reply next → is_none reply ≡ false
    by_answer (inl x) = none-of-some reply (hub c H k call at).reply x.replies
    by_answer (inr x) = let some : is_some reply ≡ true = sure x.may in let none : is_some reply ≡ false = ap is_some x.silent in absurd (cc)

past-made : (v w : View Grid) (made : List Entry) → w ≡ after made v → past w ≡ history_of (v.seen ++ made)
past-made v w made e = ap (λ (z : View Grid). history_of z.seen) e

-- a reader that was told in the turn knows what the pass has seen after it
pub told-after : (reader : MapReader) (map : MapWriter) (v w : View Grid) (made : List Entry) → Knows reader (published map) → published map ≡ changes (history_of (v.seen ++ made)) → w ≡ after made v → KnowsChanges reader (past w)
told-after reader map v w made k e goes = told reader map (past w) k (e ∙ ap changes (sym (past-made v w made goes)))

pub on-ok : {U E : Type 0} {P : Type 0} (r : Result U E) → is_err r ≡ false → OnOk r P → P
on-ok (Ok u) e h = h
on-ok (Err x) e h = absurd (cc)

pub on-err : {U E : Type 0} {P : Type 0} (r : Result U E) → is_err r ≡ true → OnErr r P → P
on-err (Ok u) e h = absurd (cc)
on-err (Err x) e h = h

-- a call that made its items pending, and was answered then
module _ (c : HubConfig) (was mid : Grid) (new : HubCore) (v : View Grid) (k : ℕ) (call : Call) (at : ℕ) (reply : Option Reply) (Ready : Type 0) (s : GridStands was.core.value was.map (past v)) (e : was.core.value.config ≡ c)
    (own : k ≡ v.number) (may : PassMay v call) (keeps : CoreKeeps was.core.value mid.core.value) (shown : published mid.map ≡ published was.map)
    (items : CoreTells was.core.value (λ H. (caller : ℕ) → MayCall H caller call → Publishes was.core.value.config H caller call at (pending mid.map)))
    (ready : CoreTells was.core.value (λ H. (caller : ℕ) → MayCall H caller call → may_lack call (hub was.core.value.config H caller call at).reply ≡ true → Ready)) (serves : CoreServes mid.core.value new k call at reply)
    (there : Ready → is_some reply ≡ true) (made : List Entry) (m : made ≡ made_by c (past v) v.number call at) where
  mid-stands : Stands mid.core.value (past v)
  mid-stands = keeps.still (past v) s.core_stands

  mid-config : mid.core.value.config ≡ c
  mid-config = keeps.same_config ∙ e

  pub announced-answered : is_none reply ≡ false
  announced-answered = is-answered c (past v) _ v.number call at reply (core-serves c mid.core.value new v k call at reply mid-stands mid-config own may serves)
      (λ lack. there (ready.of (past v) s.core_stands v.number may (subst (λ (z : HubConfig). may_lack call (hub z (past v) v.number call at).reply ≡ true) (sym e) lack)))

  publishes : Publishes c (past v) v.number call at (pending mid.map)
  publishes = subst (λ (z : HubConfig). Publishes z (past v) v.number call at (pending mid.map)) e (items.of (past v) s.core_stands v.number may)

  pub announced-shown : (map : MapWriter) → published map ≡ lookup.published (published mid.map) (pending mid.map) → published map ≡ changes (history_of (v.seen ++ made))
  announced-shown map p = items-shown c v call at made was.map mid.map map m s.map_stands shown publishes p

  pub announced-stands : (map told : MapWriter) → published map ≡ lookup.published (published mid.map) (pending mid.map) → pending map ≡ [] → published told ≡ published map → pending told ≡ pending map →
      GridStands new told (history_of (v.seen ++ made))
  announced-stands map told p none same waiting = record {
    core_stands = some-stands c mid.core.value new v k call at reply mid-stands mid-config own may serves made m announced-answered;
    map_stands = record { shows = same ∙ announced-shown map p; none_pending = waiting ∙ none };
  }

  pub announced-config : new.config ≡ c
  announced-config = same-config c mid.core.value new v k call at reply mid-stands mid-config own may serves

  pub announced-there : (w : View Grid) → w ≡ after made v → IsExact w → ServesThere c v call at reply w
  announced-there w goes exact = some-there c mid.core.value new v k call at reply mid-stands mid-config own may serves made w m announced-answered goes exact
