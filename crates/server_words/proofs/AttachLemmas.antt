-- The command of the attach program, and why words are refused.
use Rattle.std.proofs.Common.{◌≡◌, ◌≢◌, ℕ, List, [], ◌∷◌, Bool, true, false, refl, subst, sym, ap}
use Rattle.std.specs.Prelude.{IfErr, IfOk, IfSome, Result, Ok, Err, Some, pos, codes}
use Rattle.std.specs.Result.{IsErrAnd}
use Rattle.clap.proofs.OnLiterals.{clap_on_literals}
use Rattle.clap.specs.Words.{App, IsAmong, IsSignedIn, Row, Text, fault_of, first_of, is_simple_and_free, kind_of, matches_of}
use Rattle.clap.specs.declared.error.kind.ErrorKind.{ErrorKind}
use Rattle.server_words.specs.AttachOptions.{FitsAttach, HasCause, HasValueCause, HasWordCause, attach_browser, attach_command, attach_driver, attach_hub, attach_name, attach_own, attach_platform, attach_said, attach_told, attach_version}
use Rattle.grid_types.specs.declared.capabilities.Cap.{Cap}
use Rattle.server_words.specs.Addresses.{bare_address}
use Rattle.server_words.specs.Options.{NumbersFit, number_or, truth_or}
use Rattle.server_words.specs.OwnCapabilities.{caps_or_none, own_caps}
use Rattle.server_words.specs.declared.attach.AttachFault.{AttachFault}
use Rattle.server_words.specs.declared.attach.AttachFault.TheVariants as fault
use Rattle.server_words.specs.declared.attach.AttachWords.{AttachWords}

attach_is_simple : is_simple_and_free attach_command ≡ true
unfolding clap_on_literals attach_command
attach_is_simple = refl

pub attach_simple : (app : App) → app ≡ attach_command → is_simple_and_free app ≡ true
attach_simple app e = rw e attach_is_simple

module _ (rows : List Row) (fit : NumbersFit attach_command rows) where
  pub slots_fit : IfSome (first_of (codes "slots") rows) (IsSignedIn (pos 1) (pos 64))
  unfolding clap_on_literals attach_command
  slots_fit = fit (codes "slots") 1 64 refl refl

-- a value's cause is one of the words' that the command found it in
pub value_cause : (f : AttachFault) (rows : List Row) (words : List Text) → rows ≡ matches_of attach_command words → HasValueCause f rows → HasCause f words
value_cause (fault.Words e) rows words is h = absurd h
value_cause fault.Hub rows words is h = subst (λ (r : List Row). HasValueCause fault.Hub r) is h
value_cause fault.Driver rows words is h = subst (λ (r : List Row). HasValueCause fault.Driver r) is h
value_cause fault.Name rows words is h = subst (λ (r : List Row). HasValueCause fault.Name r) is h
value_cause fault.TooLong rows words is h = subst (λ (r : List Row). HasValueCause fault.TooLong r) is h
value_cause fault.Capability rows words is h = subst (λ (r : List Row). HasValueCause fault.Capability r) is h
value_cause fault.Memory rows words is h = tt

word_cause_of : (f : AttachFault) (words : List Text) → HasWordCause f attach_command words → HasCause f words
word_cause_of (fault.Words e) words h = h
word_cause_of fault.Hub words h = absurd h
word_cause_of fault.Driver words h = absurd h
word_cause_of fault.Name words h = absurd h
word_cause_of fault.TooLong words h = absurd h
word_cause_of fault.Capability words h = absurd h
word_cause_of fault.Memory words h = tt

pub word_cause : (f : AttachFault) (found words : List Text) → found ≡ words → HasWordCause f attach_command found → HasCause f words
word_cause f found words same h = word_cause_of f words (subst (λ (w : List Text). HasWordCause f attach_command w) same h)

none_among : (k : ErrorKind) (ks : List ErrorKind) → IsAmong k ks → ks ≢ []
none_among k [] h e = h
none_among k (x ∷ xs) h e = cc

differ : (b : Bool) → b ≡ true → b ≡ false → ⊥
differ true p q = cc
differ false p q = cc

-- what has a cause doesn't fit
pub cause_refuses : (f : AttachFault) (words : List Text) → HasCause f words → f ≢ fault.Memory → FitsAttach words → ⊥
cause_refuses (fault.Words e) words h other fits = none_among (kind_of e) (fault_of attach_command words) h fits.taken
cause_refuses fault.Hub words h other fits = differ _ fits.hub h
cause_refuses fault.Driver words h other fits = differ _ fits.driver h
cause_refuses fault.Name words h other fits = differ _ fits.texts.name h
cause_refuses fault.TooLong words h other fits = differ _ fits.texts.short h
cause_refuses fault.Capability words h other fits = differ _ fits.own h
cause_refuses fault.Memory words h other fits = other refl

-- four facts of what came out at once
pub both : {T E : Type 0} (r : Result T E) (P Q S V U : T → Type 0) → ((x : T) → P x → Q x → S x → V x → U x) → IfOk r P → IfOk r Q → IfOk r S → IfOk r V → IfOk r U
both (Ok x) P Q S V U f p q s v = f x p q s v
both (Err e) P Q S V U f p q s v = tt

pub said_as : (r : Result AttachWords AttachFault) (rows : List Row) (words : List Text) → rows ≡ matches_of attach_command words
    → IfOk r (λ w. w ≡ attach_told rows) → IfOk r (λ w. w ≡ attach_said words)
said_as r rows words is h = subst (λ (found : List Row). IfOk r (λ w. w ≡ attach_told found)) is h

abbrev words_of : List ℕ → List ℕ → List ℕ → List ℕ → List ℕ → List ℕ → ℕ → List Cap → Bool → AttachWords
words_of hub driver name browser version platform slots own once = record {
  hub = hub;
  driver = driver;
  name = name;
  browser = browser;
  version = version;
  platform = platform;
  slots = slots;
  own = own;
  once = once;
}

-- what each option says is what all of them say
pub told_as : (rows : List Row) (hub driver name browser version platform : List ℕ) (slots : ℕ) (own : List Cap) (once : Bool)
    → hub ≡ bare_address (attach_hub rows) → driver ≡ bare_address (attach_driver rows) → name ≡ attach_name rows
    → browser ≡ attach_browser rows → version ≡ attach_version rows → platform ≡ attach_platform rows
    → slots ≡ number_or 1 (first_of (codes "slots") rows) → own_caps (attach_own rows) ≡ Some own
    → once ≡ truth_or false (first_of (codes "once") rows)
    → words_of hub driver name browser version platform slots own once ≡ attach_told rows
told_as rows hub driver name browser version platform slots own once a b c d e f g h i = λ k.
    words_of (a k) (b k) (c k) (d k) (e k) (f k) (g k) (sym (ap caps_or_none h) k) (i k)

-- a fault that is handed on is the same fault
pub fault_kept : (r : Result AttachWords AttachFault) (f : AttachFault) (P : AttachFault → Type 0) → IsErrAnd r (λ e. e ≡ f) → P f → IfErr r P
fault_kept (Ok words) f P h p = tt
fault_kept (Err e) f P h p = subst P (sym h) p
