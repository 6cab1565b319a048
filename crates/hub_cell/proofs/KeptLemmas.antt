-- What a turn makes of what is kept.
use Rattle.std.proofs.Common.{◌≡◌, ◌∙◌, ℕ, Bool, false, List, [], ◌++◌, refl, sym, ap, subst, append-nil}
use Rattle.std.specs.Prelude.{Option, None, Some, is_none, is_some, Result, Ok, Err, OnOk, OnErr, flat_map}
use Rattle.grid_types.specs.declared.config.HubConfig.{HubConfig}
use Rattle.grid_types.specs.declared.entry.Entry.{Entry}
use Rattle.grid_types.specs.Calls.{Call, Reply}
use Rattle.grid_types.specs.HubAnswers.{hub}
use Rattle.grid_journal.specs.declared.piece.PieceFault.{PieceFault}
use Rattle.grid_journal.specs.declared.piece.PieceFault.TheVariants as fault
use Rattle.grid_journal.specs.Spelled.{entry_bytes}
use Rattle.journal_keeper.specs.Keeps.{Holds}
use Rattle.journal_keeper.specs.Keepings.{kept_by}
use Rattle.hub_core.specs.declared.hub.HubCore.{HubCore}
use Rattle.hub_core.specs.Serves.{MayCall}
use Rattle.hub_core.specs.CoreStands.{Stands}
use Rattle.hub_tellers.specs.Tells.{ToldAll, entered}
use Rattle.hub_tellers.specs.Records.{TellsCall}
use Rattle.turn_cell.specs.declared.views.View.{View}
use Rattle.hub_cell.specs.declared.grid.Grid.{Grid}
use Rattle.hub_cell.specs.Published.{JournalStands}
use Rattle.hub_cell.specs.Shared.{past, made_by, PassMay}

-- what is lent is the turn's value, of this configuration
pub lent-journal : (lent was : Grid) (c : HubConfig) (log : List Entry) → lent ≡ was → was.core.value.config ≡ c
    → JournalStands was.core.value.config log (kept_by was.keeping) was.piece → JournalStands c log (kept_by lent.keeping) lent.piece
lent-journal lent was c log e same j =
    subst (λ (z : Grid). JournalStands c log (kept_by z.keeping) z.piece) (sym e)
    (subst (λ (z : HubConfig). JournalStands z log (kept_by was.keeping) was.piece) same j)

-- of a core that has the configuration
pub kept-stands : (core : HubCore) (c : HubConfig) (log : List Entry) (kept : Option (List ℕ)) (piece : List ℕ) → core.config ≡ c → Holds c log kept → piece ≡ []
    → JournalStands core.config log kept piece
kept-stands core c log kept piece e held none = record {
  holds = subst (λ (z : HubConfig). Holds z log kept) (sym e) held;
  none_waits = none;
}

-- no entry was made
pub kept-none : (c : HubConfig) (log : List Entry) (kept : Option (List ℕ)) → Holds c log kept → Holds c (log ++ []) kept
kept-none c log kept held = subst (λ (l : List Entry). Holds c l kept) (sym (append-nil log)) held

-- the call was answered
pub entered-made : (c : HubConfig) (H : List Entry) (k : ℕ) (call : Call) (at : ℕ) (reply : Option Reply) → is_none reply ≡ false → entered c H k call at reply ≡ made_by c H k call at
entered-made c H k call at None some = absurd (cc (some))
entered-made c H k call at (Some r) some = refl

done : Unit {0}
done = tt

untold : (c : HubConfig) (log : List Entry) (kept : Option (List ℕ)) → kept ≡ None → Holds c log kept
untold c log kept none = subst (Holds c log) (sym none) done

-- what was told is kept, and what could not be told is kept by nobody
kept-by : (c : HubConfig) (log made : List Entry) (before after piece : List ℕ) (old new : Option (List ℕ)) (told : Result (Unit {0}) PieceFault) → JournalStands c log old before
    → ToldAll before after made told → piece ≡ after → OnOk told ((config : HubConfig) (l m : List Entry) → Holds config l old → piece ≡ flat_map entry_bytes m → Holds config (l ++ m) new)
    → OnErr told (new ≡ None) → Holds c (log ++ made) new
kept-by c log made before after piece old new (Ok u) j all is goes none =
    goes c log made j.holds (is ∙ (all.0 ∙ ap (λ (l : List ℕ). l ++ flat_map entry_bytes made) j.none_waits))
kept-by c log made before after piece old new (Err f) j all is goes none = untold c (log ++ made) new none

module _ (c : HubConfig) (lent core : HubCore) (v : View Grid) (k : ℕ) (call : Call) (at : ℕ) (reply : Option Reply) (s : Stands core (past v)) (e : core.config ≡ c) (own : k ≡ v.number)
    (may : PassMay v call) (same : lent ≡ core) (before after : List ℕ) (told : Result (Unit {0}) PieceFault) (tells : TellsCall lent k call at reply before after told)
    (some : is_none reply ≡ false) (made : List Entry) (m : made ≡ made_by c (past v) v.number call at) where
  told-made : ToldAll before after made told
  told-made =
      let here : TellsCall core k call at reply before after told = subst (λ (z : HubCore). TellsCall z k call at reply before after told) same tells in
      let may-k : MayCall (past v) k call = subst (λ (n : ℕ). MayCall (past v) n call) (sym own) may in
      let by-k : ToldAll before after (entered core.config (past v) k call at reply) told = here.of (past v) s may-k in
      let by-number : ToldAll before after (entered core.config (past v) v.number call at reply) told =
      subst (λ (n : ℕ). ToldAll before after (entered core.config (past v) n call at reply) told) own by-k in
      let by-config : ToldAll before after (entered c (past v) v.number call at reply) told =
      subst (λ (z : HubConfig). ToldAll before after (entered z (past v) v.number call at reply) told) e by-number in
      subst (λ (es : List Entry). ToldAll before after es told) (entered-made c (past v) v.number call at reply some ∙ sym m) by-config

  -- what was kept, with what the call made
  pub kept-made : (piece : List ℕ) (old new : Option (List ℕ)) → JournalStands c v.seen old before → piece ≡ after
      → OnOk told ((config : HubConfig) (l m : List Entry) → Holds config l old → piece ≡ flat_map entry_bytes m → Holds config (l ++ m) new) → OnErr told (new ≡ None)
      → Holds c (v.seen ++ made) new
  kept-made piece old new j is goes none = kept-by c v.seen made before after piece old new told j told-made is goes none

-- a call that looks makes no entry
pub looks-make-none : (c : HubConfig) (H : List Entry) (k : ℕ) (x : List ℕ) (at : ℕ) → made_by c H k (Call.lookup x) at ≡ []
unfolding hub
looks-make-none c H k x at = refl

pub views-make-none : (c : HubConfig) (H : List Entry) (k : ℕ) (at : ℕ) → made_by c H k Call.view at ≡ []
unfolding hub
views-make-none c H k at = refl

pub tells-none : (core : HubCore) (k : ℕ) (call : Call) (at : ℕ) (reply : Option Reply) (old : List ℕ) (u : Unit {0}) → ((H : List Entry) → entered core.config H k call at reply ≡ [])
    → TellsCall core k call at reply old old (Ok u)
tells-none core k call at reply old u none = record {
  of = λ H s may. subst (λ (es : List Entry). ToldAll old old es (Ok u)) (sym (none H)) (sym (append-nil old), tt);
}

pub view-enters-none : (c : HubConfig) (H : List Entry) (k : ℕ) (at : ℕ) (reply : Option Reply) → entered c H k Call.view at reply ≡ []
view-enters-none c H k at None = refl
view-enters-none c H k at (Some r) = views-make-none c H k at

-- what no turn changes
abbrev Mark : Type 0
Mark = HubConfig × Bool

pub mark-config : (a b : Grid) → (let x : Mark = (a.core.value.config, is_some (kept_by a.keeping)) in let y : Mark = (b.core.value.config, is_some (kept_by b.keeping)) in x ≡ y)
    → a.core.value.config ≡ b.core.value.config
mark-config a b e = ap (λ (m : Mark). m.0) e

pub mark-tells : (a b : Grid) → (let x : Mark = (a.core.value.config, is_some (kept_by a.keeping)) in let y : Mark = (b.core.value.config, is_some (kept_by b.keeping)) in x ≡ y)
    → is_some (kept_by a.keeping) ≡ is_some (kept_by b.keeping)
mark-tells a b e = ap (λ (m : Mark). m.1) e

pub marked : {a b : HubConfig} {x y : Bool} → a ≡ b → x ≡ y → (let m : Mark = (a, x) in let n : Mark = (b, y) in m ≡ n)
marked p q i = (p i, q i)

pub lent-tells : (lent was : Grid) (b : Bool) → lent ≡ was → is_some (kept_by was.keeping) ≡ b → is_some (kept_by lent.keeping) ≡ b
lent-tells lent was b e tells = ap (λ (z : Grid). is_some (kept_by z.keeping)) e ∙ tells
