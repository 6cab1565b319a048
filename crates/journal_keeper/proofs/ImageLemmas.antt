-- Fronts of a journal's bytes, and its entries.
use Rattle.std.proofs.Common.{◌≡◌, ℕ, List, [], ◌∷◌, ◌++◌, refl, sym, ap, ◌∙◌, subst, append_assoc, append-nil}
use Rattle.std.specs.Prelude.{flat_map, reverse}
use Rattle.std.proofs.lemmas.List.{reverse-reverse}
use Rattle.std.proofs.lemmas.List.Concat.{flat_map-append}
use Rattle.grid_types.specs.declared.config.HubConfig.{HubConfig}
use Rattle.grid_types.specs.declared.entry.Entry.{Entry}
use Rattle.grid_journal.specs.Spelled.{entry_bytes, head_bytes}
use Rattle.journal_keeper.specs.Images.{written, IsCutOf, IsImage, FrontsAreImages, KillsLeaveImages, WrittenIsJournal}

-- xs ends behind all of us, or within it
data Split (xs ys us bs : List ℕ) : Type 0 where
  over : (more : List ℕ) → xs ≡ us ++ more → more ++ ys ≡ bs → Split xs ys us bs
  under : (byte : ℕ) (missing : List ℕ) → xs ++ byte ∷ missing ≡ us → Split xs ys us bs

heads_same : {x y : ℕ} {xs ys : List ℕ} → (x ∷ xs ≡ y ∷ ys) → x ≡ y
heads_same e = cc (e)

tails_same : {x y : ℕ} {xs ys : List ℕ} → (x ∷ xs ≡ y ∷ ys) → xs ≡ ys
tails_same e = cc (e)

longer : (x y : ℕ) (xs ys us bs : List ℕ) → x ≡ y → Split xs ys us bs → Split (x ∷ xs) ys (y ∷ us) bs
longer x y xs ys us bs same (over more e f) = over more (cc (same, e)) f
longer x y xs ys us bs same (under byte missing e) = under byte missing (cc (same, e))

split : (xs ys us bs : List ℕ) → xs ++ ys ≡ us ++ bs → Split xs ys us bs
split xs ys [] bs e = over xs refl e
split [] ys (u ∷ us) bs e = under u us refl
split (x ∷ xs) ys (u ∷ us) bs e = longer x u xs ys us bs (heads_same e) (split xs ys us bs (tails_same e))

empty_front : (xs ys : List ℕ) → xs ++ ys ≡ [] → xs ≡ []
empty_front [] ys e = refl
empty_front (x ∷ xs) ys e = cc (e)

same_rest : (front xs ys : List ℕ) → front ++ xs ≡ front ++ ys → xs ≡ ys
same_rest [] xs ys e = e
same_rest (x ∷ front) xs ys e = same_rest front xs ys (tails_same e)

-- a front of the entries, and a part of one more, by their bytes alone
record Front (made : List Entry) (bytes : List ℕ) : Type 0 where
  front : List Entry
  behind : List Entry
  are : front ++ behind ≡ made
  cut : List ℕ
  is_cut : IsCutOf behind cut
  spelled : bytes ≡ flat_map entry_bytes front ++ cut

one_more : (entry : Entry) (made : List Entry) (bytes more : List ℕ) → bytes ≡ entry_bytes entry ++ more → Front made more → Front (entry ∷ made) bytes
one_more entry made bytes more is f = record {
  front = entry ∷ f.front;
  behind = f.behind;
  are = ap (λ (l : List Entry). entry ∷ l) f.are;
  cut = f.cut;
  is_cut = f.is_cut;
  spelled = is ∙ (ap (λ (l : List ℕ). entry_bytes entry ++ l) f.spelled ∙ sym (append_assoc (entry_bytes entry) (flat_map entry_bytes f.front) f.cut));
}

by_split : (entry : Entry) (made : List Entry) (bytes rest : List ℕ) → ((xs ys : List ℕ) → xs ++ ys ≡ flat_map entry_bytes made → Front made xs)
    → Split bytes rest (entry_bytes entry) (flat_map entry_bytes made) → Front (entry ∷ made) bytes
by_split entry made bytes rest later (over more is on) = one_more entry made bytes more is (later more rest on)
by_split entry made bytes rest later (under byte missing is) =
    record { front = []; behind = entry ∷ made; are = refl; cut = bytes; is_cut = (byte, missing, is); spelled = refl }

front_of : (made : List Entry) (bytes rest : List ℕ) → bytes ++ rest ≡ flat_map entry_bytes made → Front made bytes
front_of [] bytes rest e = record { front = []; behind = []; are = refl; cut = []; is_cut = refl; spelled = empty_front bytes rest e }
front_of (entry ∷ made) bytes rest e = by_split entry made bytes rest (front_of made) (split bytes rest (entry_bytes entry) (flat_map entry_bytes made) e)

pub written_more : (config : HubConfig) (log made : List Entry) → written config log ++ flat_map entry_bytes made ≡ written config (log ++ made)
written_more config log made =
    append_assoc (head_bytes config) (flat_map entry_bytes log) (flat_map entry_bytes made)
    ∙ ap (λ (l : List ℕ). head_bytes config ++ l) (sym (flat_map-append entry_bytes log made))

pub fronts_are_images : FrontsAreImages
fronts_are_images config log made front rest e =
    let f = front_of made front rest e in
    record {
      front = f.front;
      behind = f.behind;
      are = f.are;
      cut = f.cut;
      is_cut = f.is_cut;
      spelled = ap (λ (l : List ℕ). written config log ++ l) f.spelled
          ∙ (sym (append_assoc (written config log) (flat_map entry_bytes f.front) f.cut) ∙ ap (λ (l : List ℕ). l ++ f.cut) (written_more config log f.front));
    }

-- what an image lacks of the bytes of what was made
what_lacks : (behind : List Entry) (cut : List ℕ) → IsCutOf behind cut → (rest : List ℕ) × (cut ++ rest ≡ flat_map entry_bytes behind)
what_lacks [] cut is = ([], append-nil cut ∙ is)
what_lacks (entry ∷ later) cut (byte, missing, is) =
    ((byte ∷ missing) ++ flat_map entry_bytes later, sym (append_assoc cut (byte ∷ missing) (flat_map entry_bytes later)) ∙ ap (λ (l : List ℕ). l ++ flat_map entry_bytes later) is)

made_of : (config : HubConfig) (log made : List Entry) (now : List ℕ) → IsImage config log made now
    → (front rest : List ℕ) × (now ≡ written config log ++ front) × (front ++ rest ≡ flat_map entry_bytes made)
made_of config log made now image =
    let lacks = what_lacks image.behind image.cut image.is_cut in
    let front = flat_map entry_bytes image.front ++ image.cut in
    let spelled : now ≡ written config log ++ front =
    image.spelled ∙ (ap (λ (l : List ℕ). l ++ image.cut) (sym (written_more config log image.front)) ∙ append_assoc (written config log) (flat_map entry_bytes image.front) image.cut) in
    let all : front ++ lacks.0 ≡ flat_map entry_bytes made =
    append_assoc (flat_map entry_bytes image.front) image.cut lacks.0
    ∙ (ap (λ (l : List ℕ). flat_map entry_bytes image.front ++ l) lacks.1 ∙ (sym (flat_map-append entry_bytes image.front image.behind) ∙ ap (flat_map entry_bytes) image.are)) in
    (front, lacks.0, spelled, all)

pub kills_leave_images : KillsLeaveImages
kills_leave_images config log made now image is left =
    let m = made_of config log made now is in
    let before = written config log in
    let joined : before ++ (left.more ++ left.rest) ≡ before ++ m.0 =
    sym (append_assoc before left.more left.rest) ∙ (ap (λ (l : List ℕ). l ++ left.rest) (sym left.has) ∙ (left.front ∙ m.2)) in
    let rest : left.more ++ left.rest ≡ m.0 = same_rest before (left.more ++ left.rest) m.0 joined in
    let all : left.more ++ (left.rest ++ m.1) ≡ flat_map entry_bytes made =
    sym (append_assoc left.more left.rest m.1) ∙ (ap (λ (l : List ℕ). l ++ m.1) rest ∙ m.3) in
    subst (IsImage config log made) (sym left.has) (fronts_are_images config log made left.more (left.rest ++ m.1) all)

pub written_is_journal : WrittenIsJournal
written_is_journal config log = ap (λ (l : List Entry). written config l) (sym (reverse-reverse log))
