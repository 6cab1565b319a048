-- Rows that ask for the same and were tried on the same nodes.
use Rattle.std.proofs.Common.{◌≡◌, ℕ, Bool, true, false, ◌&&◌, List, [], ◌∷◌, refl, sym, ap, ◌∙◌, arith}
use Rattle.std.specs.Prelude.{Option, None, Some, nat_eq, option_map, unwrap_or}
use Rattle.std.specs.List.{list_all, list_any}
use Rattle.grid_types.specs.declared.entry.Entry.{Entry}
use Rattle.grid_types.specs.Capabilities.{request_bytes}
use Rattle.grid_types.specs.Requests.{Place, waiting, Asked, place, is_waiting, is_barred, choices_of}
use Rattle.grid_types.specs.Lists.{has}
use Rattle.session_queue.specs.Laws.{Known, laws}
use Rattle.request_laws.specs.Kinds.{choices_eq, same_bars, is_alike}
use Rattle.session_queue.specs.declared.request.Request.{Request}
use Rattle.session_queue.specs.Table.{RowTells, same_tried, is_like, are_like}

bool-iff : (a b : Bool) → (a ≡ true → b ≡ true) → (b ≡ true → a ≡ true) → a ≡ b
bool-iff true true f g = refl
bool-iff true false f g = sym (f refl)
bool-iff false true f g = g refl
bool-iff false false f g = refl

off : (b : Bool) → (b ≡ true → true ≡ false) → b ≡ false
off true h = h refl
off false h = refl

-- as the table tells of tried nodes
abbrev pub tried_on : List ℕ → ℕ → Bool
tried_on ns m = list_any (λ n. nat_eq n m) ns

turned-has : (n : ℕ) (ns : List ℕ) → tried_on ns n ≡ has n ns
turned-has n [] = refl
turned-has n (m ∷ ms) = (let turn : nat_eq m n ≡ nat_eq n m = grind arith in rw (turn, turned-has n ms) refl)

-- the same nodes were tried where they were so at each node
tried-at : Known → (a b : List ℕ) → same_tried a b ≡ true → (n : ℕ) → tried_on a n ≡ tried_on b n
tried-at proved a b h n = bool-iff (tried_on a n) (tried_on b n)
    (λ e. (laws proved).history.all-at (λ m. tried_on b m) n a ((laws proved).history.and_left (list_all (λ m. tried_on b m) a) (list_all (λ m. tried_on a m) b) h) (sym (turned-has n a) ∙ e))
    (λ e. (laws proved).history.all-at (λ m. tried_on a m) n b ((laws proved).history.and_right (list_all (λ m. tried_on b m) a) (list_all (λ m. tried_on a m) b) h) (sym (turned-has n b) ∙ e))

tried-of : Known → (a b : List ℕ) → ((n : ℕ) → tried_on a n ≡ tried_on b n) → same_tried a b ≡ true
tried-of proved a b same =
    let first : list_all (λ m. tried_on b m) a ≡ true = (laws proved).history.all-of (λ m. tried_on b m) a (λ n e. sym (same n) ∙ turned-has n a ∙ e) in
    let second : list_all (λ m. tried_on a m) b ≡ true = (laws proved).history.all-of (λ m. tried_on a m) b (λ n e. same n ∙ turned-has n b ∙ e) in
    rw (first, second) refl

tried-same : Known → (H : List Entry) (q r : ℕ) (a b : List ℕ) → ((n : ℕ) → tried_on a n ≡ is_barred H q n) → ((n : ℕ) → tried_on b n ≡ is_barred H r n) → same_tried a b ≡ same_bars H q r
tried-same proved H q r a b here there = bool-iff (same_tried a b) (same_bars H q r)
    (λ h. (laws proved).kinds.bars-of H q r (λ n. sym (here n) ∙ tried-at proved a b h n ∙ there n))
    (λ h. tried-of proved a b (λ n. here n ∙ (laws proved).kinds.bars-at H q r h n ∙ sym (there n)))

waiting-is : (p : Place) → is_waiting p ≡ true → p ≡ waiting
waiting-is waiting e = refl
waiting-is p e = absurd (cc)

row-choices : (H : List Entry) (r : ℕ) (q : Request) → RowTells q H r → choices_of H r ≡ q.choices
row-choices H r q t = ap (λ (o : Option Asked). unwrap_or (option_map (λ (z : Asked). z.choices) o) []) t.asks

-- where the bytes differ, so do the choices
alike-bytes : Known → (a b : Request) (H : List Entry) (q r : ℕ) → RowTells a H q → RowTells b H r → nat_eq a.bytes b.bytes ≡ false → is_alike H q r ≡ false
alike-bytes proved a b H q r s t e = off (is_alike H q r) (λ h.
    let same : choices_of H q ≡ choices_of H r = ((laws proved).kinds.choices-decide (choices_of H q) (choices_of H r)).0 ((laws proved).history.and_left _ _ h) in
    let equal : a.choices ≡ b.choices = sym (row-choices H q a s) ∙ same ∙ row-choices H r b t in
    let bytes : a.bytes ≡ b.bytes = s.counts ∙ ap request_bytes equal ∙ sym t.counts in
    absurd (grind arith))

-- what two rows tell
pub like-rows : Known → (a b : Request) (H : List Entry) (q r : ℕ) → RowTells a H q → RowTells b H r → is_waiting (place H q) ≡ true → is_waiting (place H r) ≡ true → is_like a b ≡ is_alike H q r
like-rows proved a b H q r s t w v = by_bytes (nat_eq a.bytes b.bytes) refl
  where
    by_bytes : (x : Bool) → nat_eq a.bytes b.bytes ≡ x → (x && (choices_eq a.choices b.choices && same_tried a.tried b.tried)) ≡ is_alike H q r
    by_bytes false e = sym (alike-bytes proved a b H q r s t e)
    by_bytes true e =
        let tried : same_tried a.tried b.tried ≡ same_bars H q r = tried-same proved H q r a.tried b.tried (s.tried_waiting (waiting-is (place H q) w)) (t.tried_waiting (waiting-is (place H r) v)) in
        let first : choices_of H q ≡ a.choices = row-choices H q a s in
        let second : choices_of H r ≡ b.choices = row-choices H r b t in
        ap (λ (z : Bool). choices_eq a.choices b.choices && z) tried ∙ rw (first, second) refl

-- being so is an equivalence of rows
record LikeParts (a b : Request) : Type 0 where
  pub bytes : a.bytes ≡ b.bytes
  pub choices : a.choices ≡ b.choices
  pub tried : (n : ℕ) → tried_on a.tried n ≡ tried_on b.tried n

like-parts : Known → (a b : Request) → is_like a b ≡ true → LikeParts a b
like-parts proved a b h =
    let first : nat_eq a.bytes b.bytes ≡ true = (laws proved).history.and_left (nat_eq a.bytes b.bytes) (choices_eq a.choices b.choices && same_tried a.tried b.tried) h in
    let rest = (laws proved).history.and_right (nat_eq a.bytes b.bytes) (choices_eq a.choices b.choices && same_tried a.tried b.tried) h in
    record {
      bytes = grind arith;
      choices = ((laws proved).kinds.choices-decide a.choices b.choices).0 ((laws proved).history.and_left (choices_eq a.choices b.choices) (same_tried a.tried b.tried) rest);
      tried = tried-at proved a.tried b.tried ((laws proved).history.and_right (choices_eq a.choices b.choices) (same_tried a.tried b.tried) rest);
    }

like-of : Known → (a b : Request) → LikeParts a b → is_like a b ≡ true
like-of proved a b p =
    let e : a.bytes ≡ b.bytes = p.bytes in
    let bytes : nat_eq a.bytes b.bytes ≡ true = grind arith in
    let choices : choices_eq a.choices b.choices ≡ true = ((laws proved).kinds.choices-decide a.choices b.choices).1 p.choices in
    let tried : same_tried a.tried b.tried ≡ true = tried-of proved a.tried b.tried p.tried in
    rw (bytes, choices, tried) refl

turned : (a b : Request) → LikeParts a b → LikeParts b a
turned a b p = record { bytes = sym p.bytes; choices = sym p.choices; tried = λ n. sym (p.tried n) }

through : (a b d : Request) → LikeParts a b → LikeParts b d → LikeParts a d
through a b d p q = record { bytes = p.bytes ∙ q.bytes; choices = p.choices ∙ q.choices; tried = λ n. p.tried n ∙ q.tried n }

pub like-self : Known → (a : Request) → is_like a a ≡ true
like-self proved a = like-of proved a a (record { bytes = refl; choices = refl; tried = λ n. refl })

like-symm : Known → (a b : Request) → is_like a b ≡ is_like b a
like-symm proved a b = bool-iff (is_like a b) (is_like b a) (λ h. like-of proved b a (turned a b (like-parts proved a b h))) (λ h. like-of proved a b (turned b a (like-parts proved b a h)))

like-congr : Known → (a b d : Request) → is_like a b ≡ true → is_like a d ≡ is_like b d
like-congr proved a b d e = bool-iff (is_like a d) (is_like b d)
    (λ h. like-of proved b d (through b a d (turned a b (like-parts proved a b e)) (like-parts proved a d h)))
    (λ h. like-of proved a d (through a b d (like-parts proved a b e) (like-parts proved b d h)))

pub rows-symm : Known → (o p : Option Request) → are_like o p ≡ are_like p o
rows-symm proved None None = refl
rows-symm proved None (Some b) = refl
rows-symm proved (Some a) None = refl
rows-symm proved (Some a) (Some b) = like-symm proved a b

pub rows-congr : Known → (o p q : Option Request) → are_like o p ≡ true → are_like o q ≡ are_like p q
rows-congr proved None p q h = absurd (cc)
rows-congr proved (Some a) None q h = absurd (cc)
rows-congr proved (Some a) (Some b) None h = refl
rows-congr proved (Some a) (Some b) (Some d) h = like-congr proved a b d h

pub rows-self : Known → (o : Option Request) (a : Request) → o ≡ Some a → are_like o o ≡ true
rows-self proved None a e = absurd (cc)
rows-self proved (Some b) a e = like-self proved b
