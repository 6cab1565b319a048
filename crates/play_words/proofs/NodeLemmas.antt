-- The parts of a word that describes a node, which fix each other.
use Rattle.std.proofs.Common.{◌≡◌, ◌≢◌, ℕ, suc, ◌<◌, Bool, true, false, ◌&&◌, ◌==◌, not, List, [], ◌∷◌, ◌++◌, length, get_or, refl, sym, ap, ap₂, subst, ◌∙◌, arith}
use Rattle.std.proofs.lemmas.Bool.{and_parts, false≢true}
use Rattle.std.proofs.lemmas.Bool.Decides.{nat_tests}
use Rattle.std.proofs.lemmas.Fmt.{decimal_injective}
use Rattle.std.proofs.lemmas.List.Folds.{list_all-append}
use Rattle.std.specs.List.{list_all}
use Rattle.play_words.specs.Node.{is_name_byte, begins_with_letter, is_browser, is_version_byte, lacks, SaysVersion, SaysCount, IsNode}

-- ---- a byte that stands nowhere

unequal : (x c : ℕ) → x ≢ c → not (x == c) ≡ true
unequal x c ne = grind (arith, nat_tests)

same_byte : (x c : ℕ) → not (x == c) ≡ true → x ≡ c → ⊥
same_byte x c h e = grind (arith, nat_tests)

pub lacks_by : (c : ℕ) (xs : List ℕ) → ((i : ℕ) → i < length xs → get_or xs i 0 ≢ c) → lacks c xs ≡ true
lacks_by c [] h = refl
lacks_by c (x ∷ xs) h = ap₂ (λ (a b : Bool). a && b) (unequal x c (h 0 (omega arith))) (lacks_by c xs (λ i lt. h (suc i) (omega arith)))

lacks_append : (c : ℕ) (xs ys : List ℕ) → lacks c xs ≡ true → lacks c ys ≡ true → lacks c (xs ++ ys) ≡ true
lacks_append c xs ys f g = list_all-append (λ (b : ℕ). not (b == c)) xs ys ∙ ap₂ (λ (a b : Bool). a && b) f g

byte_lacks : (p : ℕ → Bool) (c : ℕ) → p c ≡ false → (xs : List ℕ) → list_all p xs ≡ true → lacks c xs ≡ true
byte_lacks p c fails [] h = refl
byte_lacks p c fails (x ∷ xs) h =
    let both = and_parts (p x) (list_all p xs) h in
    ap₂ (λ (a b : Bool). a && b) (unequal x c (λ e. false≢true (sym fails ∙ ap p (sym e) ∙ both.0))) (byte_lacks p c fails xs both.1)

pub browser_lacks : (c : ℕ) → is_name_byte c ≡ false → (name : List ℕ) → is_browser name ≡ true → lacks c name ≡ true
browser_lacks c fails name h = byte_lacks is_name_byte c fails name (and_parts _ (list_all is_name_byte name) h).1

version_lacks : (part version : List ℕ) → SaysVersion part version → lacks 33 part ≡ true
version_lacks [] version h = refl
version_lacks (sign ∷ text) version h =
    let bytes = subst (λ (v : List ℕ). list_all is_version_byte v ≡ true) (sym h.1) (and_parts _ (list_all is_version_byte version) h.2).1 in
    ap₂ (λ (a b : Bool). a && b) (ap (λ (s : ℕ). not (s == 33)) h.0) (byte_lacks is_version_byte 33 refl text bytes)

pub front_lacks : (word browser version : List ℕ) (refuses : ℕ) (n : IsNode word browser version refuses) → lacks 33 (browser ++ n.version_part) ≡ true
front_lacks word browser version refuses n =
    lacks_append 33 browser n.version_part (browser_lacks 33 refl browser n.browser_is) (version_lacks n.version_part version n.version_is)

-- ---- a text that ends where a sign first stands

-- nothing, or something that begins with the sign
abbrev pub Begins : ℕ → List ℕ → Type 0
Begins sign [] = Unit {0}
Begins sign (b ∷ part) = b ≡ sign

pub version_begins : (part version : List ℕ) → SaysVersion part version → Begins 64 part
version_begins [] version h = tt
version_begins (sign ∷ text) version h = h.0

pub count_begins : (part : List ℕ) (count : ℕ) → SaysCount part count → Begins 33 part
count_begins [] count h = tt
count_begins (sign ∷ text) count h = h.0

pub record SameParts (f g p q : List ℕ) : Type 0 where
  pub front : f ≡ g
  pub part : p ≡ q

pub marked_one : (sign : ℕ) (f g p q : List ℕ) → f ++ p ≡ g ++ q → lacks sign f ≡ true → lacks sign g ≡ true → Begins sign p → Begins sign q → SameParts f g p q
marked_one sign [] [] p q e lf lg bp bq = record { front = refl; part = e }
marked_one sign [] (y ∷ g) [] q e lf lg bp bq = absurd cc
marked_one sign [] (y ∷ g) (b ∷ p) q e lf lg bp bq =
    let head : b ≡ y = cc in
    absurd (same_byte y sign (and_parts (not (y == sign)) (lacks sign g) lg).0 (sym head ∙ bp))
marked_one sign (x ∷ f) [] p [] e lf lg bp bq = absurd cc
marked_one sign (x ∷ f) [] p (b ∷ q) e lf lg bp bq =
    let head : x ≡ b = cc in
    absurd (same_byte x sign (and_parts (not (x == sign)) (lacks sign f) lf).0 (head ∙ bq))
marked_one sign (x ∷ f) (y ∷ g) p q e lf lg bp bq =
    let head : x ≡ y = cc in
    let rest : f ++ p ≡ g ++ q = cc in
    let more = marked_one sign f g p q rest (and_parts (not (x == sign)) (lacks sign f) lf).1 (and_parts (not (y == sign)) (lacks sign g) lg).1 bp bq in
    record { front = ap₂ (λ (z : ℕ) (zs : List ℕ). z ∷ zs) head more.front; part = more.part }

-- ---- one description

count_one : (part : List ℕ) (a b : ℕ) → SaysCount part a → SaysCount part b → a ≡ b
count_one [] a b h k = h ∙ sym k
count_one (sign ∷ text) a b h k = decimal_injective a b (omega (arith, h.3)) (omega (arith, k.3)) (sym h.1 ∙ k.1)

version_one : (part v w : List ℕ) → SaysVersion part v → SaysVersion part w → v ≡ w
version_one [] v w h k = h ∙ sym k
version_one (sign ∷ text) v w h k = sym h.1 ∙ k.1

pub record SameNode (b d v w : List ℕ) (r s : ℕ) : Type 0 where
  pub browser : b ≡ d
  pub version : v ≡ w
  pub refuses : r ≡ s

pub node_one : (word b d v w : List ℕ) (r s : ℕ) → IsNode word b v r → IsNode word d w s → SameNode b d v w r s
node_one word b d v w r s n m =
    let whole = marked_one 33 (b ++ n.version_part) (d ++ m.version_part) n.count_part m.count_part (sym n.word_is ∙ m.word_is)
    (front_lacks word b v r n) (front_lacks word d w s m) (count_begins n.count_part r n.count_is) (count_begins m.count_part s m.count_is) in
    let front = marked_one 64 b d n.version_part m.version_part whole.front (browser_lacks 64 refl b n.browser_is) (browser_lacks 64 refl d m.browser_is)
    (version_begins n.version_part v n.version_is) (version_begins m.version_part w m.version_is) in
    record {
      browser = front.front;
      version = version_one m.version_part v w (subst (λ (p : List ℕ). SaysVersion p v) front.part n.version_is) m.version_is;
      refuses = count_one m.count_part r s (subst (λ (p : List ℕ). SaysCount p r) whole.part n.count_is) m.count_is;
    }

-- what describes a node begins with a letter
begins_more : (b m : List ℕ) → begins_with_letter b ≡ true → begins_with_letter (b ++ m) ≡ true
begins_more [] m e = cc
begins_more (x ∷ b) m e = e

pub node_letter : (word b v : List ℕ) (r : ℕ) → IsNode word b v r → begins_with_letter word ≡ true
node_letter word b v r n =
    let first = (and_parts (begins_with_letter b) _ (and_parts _ (list_all is_name_byte b) n.browser_is).0).0 in
    ap begins_with_letter n.word_is ∙ begins_more (b ++ n.version_part) n.count_part (begins_more b n.version_part first)
