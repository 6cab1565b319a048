-- Rows that are made again, one behind the other.
use Rattle.std.proofs.Common.{◌≡◌, ℕ, ◌+◌, ◌<◌, ◌≤◌, nat_lt, Bool, true, false, List, [], ◌∷◌, ◌++◌, length, take, get_or, refl, sym, ◌∙◌, ap, subst, arith, inr, Option, None, Some, IfSome}
use Rattle.std.specs.Prelude.{slice_get}
use Rattle.std.proofs.lemmas.List.{take_more, take_all}
use Rattle.std.proofs.lemmas.Option.{slice_get_within, slice_get-get_or}
use Rattle.grid_types.specs.declared.config.HubConfig.{HubConfig}
use Rattle.hub_core.specs.HubView.{HubView, past}
use Rattle.grid_journal.specs.declared.rows.Row.{Row}
use Rattle.grid_journal.specs.RowReads.{IsRow, RowRead}
use Rattle.row_keeper.specs.Disks.{Disk, row_at}
use Rattle.grid_keeper.specs.Replays.{Goes, IsImage, Replays}
use Rattle.grid_keeper.specs.Holds.{HoldsAll}
use Rattle.grid_types.specs.History.{history_of}
use Rattle.grid_types.specs.declared.entry.Entry.{Entry}
use Rattle.grid_keeper.specs.Opening.{NoGo, Again, WentOn, MadeAgain, MadeAll, TookRow, BadSo, BadAny, IsBadAt}
use Rattle.grid_keeper.specs.declared.left.Left.{Left}
use Rattle.grid_keeper.specs.declared.opening.OpenFault.{OpenFault}
use Rattle.grid_keeper.specs.declared.opening.OpenFault.TheVariants as fault
use Rattle.grid_keeper.proofs.KeepLemmas.{grown}

one_value : {X : Type 0} (a b : X) → Some a ≡ Some b → a ≡ b
one_value a b e = cc

take_next : (rows : List (List ℕ)) (i : ℕ) (b : List ℕ) → Some b ≡ slice_get rows i → take (i + 1) rows ≡ take i rows ++ b ∷ []
take_next rows i b e =
    let within = slice_get_within rows i b (sym e) in
    take_more rows i b within ∙ ap (λ (y : List ℕ). take i rows ++ y ∷ []) (one_value (get_or rows i b) b (sym (slice_get-get_or rows i b within) ∙ sym e))

take_last : (rows : List (List ℕ)) (i : ℕ) → slice_get rows i ≡ None → take i rows ≡ rows
take_last rows i none = take_all i rows (by_test (nat_lt i (length rows)) refl)
  where
    less : nat_lt i (length rows) ≡ true → i < length rows
    less h = grind (arith, h)

    differs : {X : Type 0} (o : Option X) (x : X) → o ≡ None → o ≡ Some x → ⊥
    differs o x a b = absurd (cc)

    by_test : (t : Bool) → nat_lt i (length rows) ≡ t → length rows ≤ i
    by_test true e = absurd (differs (slice_get rows i) (get_or rows i []) none (slice_get-get_or rows i [] (less e)))
    by_test false e = grind (arith, e)

that_row : (bytes other : List ℕ) (read : Option Row) (r : Row) → other ≡ bytes → RowRead other read → read ≡ Some r → IsRow bytes r
that_row bytes other read r same reads is = subst (λ (b : List ℕ). IsRow b r) same (subst (λ (o : Option Row). RowRead other o) is reads)

stood : (c : HubConfig) (disk : Option Disk) (i : ℕ) (hub new : HubView) (left : Left) (bytes : List ℕ) (r : Row) → IfSome disk (λ d. IsImage c (take i d.rows) (past hub)) → IfSome disk (λ d. Some bytes ≡ row_at d.rows i)
    → IsRow bytes r → Goes c (past hub) r (past new) → IfSome disk (λ d. IsImage c (take (i + 1) d.rows) (past new))
stood c None i hub new left bytes r image found is goes = tt
stood c (Some d) i hub new left bytes r image found is goes =
    subst (λ (rows : List (List ℕ)). IsImage c rows (past new)) (sym (take_next d.rows i bytes found)) (grown c (past hub) (past new) r (take i d.rows) bytes image is.1 goes)

-- what the row's going on says
grew_so : (c : HubConfig) (H : List Entry) (r : Row) (went : Bool) (new : HubView) (left : Left) → WentOn c H r went new left → went ≡ true → Again c H r true (past new) left
grew_so c H r went new left on grew = subst (λ (b : Bool). Again c H r b (past new) left) grew on.again

pub took : (c : HubConfig) (disk : Option Disk) (i : ℕ) (hub new : HubView) (left left_too : Left) (found : Option (List ℕ)) (bytes other : List ℕ) (read : Option Row) (r : Row) (went : Bool)
    → MadeAgain c disk i hub left → IfSome disk (λ d. found ≡ row_at d.rows i) → found ≡ Some bytes → other ≡ bytes → RowRead other read → read ≡ Some r → WentOn c (past hub) r went new left_too → went ≡ true
    → MadeAgain c disk (i + 1) new left_too
took c disk i hub new left left_too found bytes other read r went made there is same reads some on grew =
    let again = grew_so c (past hub) r went new left_too on grew in
    record {
      same_config = on.same_config;
      holds = again.1;
      stands = stood c disk i hub new left bytes r made.stands (subst (λ (o : Option (List ℕ)). IfSome disk (λ d. o ≡ row_at d.rows i)) is there) (that_row bytes other read r same reads some) again.0;
    }

bad_told : (c : HubConfig) (disk : Option Disk) (i : ℕ) (hub : HubView) (left : Left) (bytes : List ℕ) (r : Row) → MadeAgain c disk i hub left → IfSome disk (λ d. Some bytes ≡ row_at d.rows i) → IsRow bytes r
    → NoGo c (past hub) r → IfSome disk (λ d. IsBadAt c d.rows i)
bad_told c None i hub left bytes r made there is none = tt
bad_told c (Some d) i hub left bytes r made there is none = (bytes, past hub, sym there, made.stands, inr (r, is, none))

pub is_bad : (c : HubConfig) (disk : Option Disk) (i : ℕ) (hub new : HubView) (left left_too : Left) (found : Option (List ℕ)) (bytes other : List ℕ) (read : Option Row) (r : Row) (went : Bool)
    → MadeAgain c disk i hub left → IfSome disk (λ d. found ≡ row_at d.rows i) → found ≡ Some bytes → other ≡ bytes → RowRead other read → read ≡ Some r → WentOn c (past hub) r went new left_too → went ≡ false
    → IfSome disk (λ d. IsBadAt c d.rows i)
is_bad c disk i hub new left left_too found bytes other read r went made there is same reads some on grew =
    bad_told c disk i hub left bytes r made (subst (λ (o : Option (List ℕ)). IfSome disk (λ d. o ≡ row_at d.rows i)) is there) (that_row bytes other read r same reads some)
    (subst (λ (b : Bool). Again c (past hub) r b (past new) left_too) grew on.again)

-- ---- the loop

-- by the hub's own configuration and the keeper's disk now
pub at_own : (c : HubConfig) (now first : Option Disk) (i : ℕ) (hub : HubView) (left : Left) → now ≡ first → MadeAgain c first i hub left → MadeAgain hub.config now i hub left
at_own c now first i hub left same made = record {
  same_config = refl;
  holds = made.holds;
  stands = subst (λ (o : Option Disk). IfSome o (λ d. IsImage hub.config (take i d.rows) (past hub))) (sym same)
      (subst (λ (k : HubConfig). IfSome first (λ d. IsImage k (take i d.rows) (past hub))) (sym made.same_config) made.stands);
}

pub from_own : (own c : HubConfig) (now first : Option Disk) (i : ℕ) (new : HubView) (left : Left) → own ≡ c → now ≡ first → MadeAgain own now i new left → MadeAgain c first i new left
from_own own c now first i new left config same made = subst (λ (o : Option Disk). MadeAgain c o i new left) same (subst (λ (k : HubConfig). MadeAgain k now i new left) config made)

all_told : (c : HubConfig) (disk : Option Disk) (i : ℕ) (new : HubView) → IfSome disk (λ d. IsImage c (take i d.rows) (past new)) → IfSome disk (λ d. row_at d.rows i ≡ None) → IfSome disk (λ d. IsImage c d.rows (past new))
all_told c None i new image none = tt
all_told c (Some d) i new image none = subst (λ (rows : List (List ℕ)). IsImage c rows (past new)) (take_last d.rows i none) image

pub all_made : (own c : HubConfig) (now first : Option Disk) (i : ℕ) (new : HubView) (left : Left) → own ≡ c → now ≡ first → TookRow own now i false new left → MadeAll c first new left
all_made own c now first i new left config same last =
    let made = from_own own c now first i new left config same last.0 in
    record {
      same_config = made.same_config;
      holds = made.holds;
      stands = all_told c first i new made.stands (subst (λ (o : Option Disk). IfSome o (λ d. row_at d.rows i ≡ None)) same last.1);
    }

bad_by : (c : HubConfig) (disk : Option Disk) (i : ℕ) (e : OpenFault) → BadSo c disk i e → BadAny c disk e
bad_by c disk i (fault.BadRow j) bad = subst (λ (n : ℕ). IfSome disk (λ d. IsBadAt c d.rows n)) (sym bad.0) bad.1
bad_by c disk i e bad = tt

pub bad_any : (own c : HubConfig) (now first : Option Disk) (i : ℕ) (e : OpenFault) → own ≡ c → now ≡ first → BadSo own now i e → BadAny c first e
bad_any own c now first i e config same bad = subst (λ (o : Option Disk). BadAny c o e) same (subst (λ (k : HubConfig). BadAny k now e) config (bad_by own now i e bad))

-- ---- the first row

pub from_start : (c : HubConfig) (disk : Option Disk) (hub : HubView) (left : Left) → hub.config ≡ c → hub.journal ≡ [] → HoldsAll [] left → MadeAgain hub.config disk 0 hub left
from_start c disk hub left config none holds = record {
  same_config = refl;
  holds = subst (λ (j : List Entry). HoldsAll (history_of j) left) (sym none) holds;
  stands = told disk;
}
  where
    told : (o : Option Disk) → IfSome o (λ d. IsImage hub.config (take 0 d.rows) (past hub))
    told None = tt
    told (Some d) = record { rows = []; spelled = refl; replays = subst (λ (j : List Entry). Replays hub.config [] (history_of j)) (sym none) Replays.nothing }
