-- Which bytes leave an unfinished head unfinished.
use Rattle.std.proofs.Common.{◌≡◌, ℕ, ◌<◌, ◌≤◌, Bool, true, false, nat_lt, List, [], ◌∷◌, ◌++◌, length, refl, sym, ap, ◌∙◌, subst, arith, append_assoc, append-nil, length-append, inl, inr}
use Rattle.std.proofs.lemmas.Bool.{false≢true, ne_eqb, cases_eq, or_from}
use Rattle.std.proofs.lemmas.Bool.Decides.{nat_tests}
use Rattle.std.proofs.lemmas.Str.{IsUtf8-from_ascii}
use Rattle.std.proofs.lemmas.Str.Ascii.{IsAscii-cons, IsAscii-nil}
use Rattle.std.proofs.lemmas.List.Elements.{All-head, All-tail, All-nil, All-cons}
use Rattle.std.specs.Prelude.{All}
use Rattle.std.specs.List.{list_all, flat_map}
use Rattle.httparse.specs.Grammar.{is_token_byte, is_value_byte, is_uri_byte, is_ows, is_extension_byte, AllPass, LineEnd, crlf, lf, print_end, print_blank, print_version, Field, print_field, IsField, print_section, RequestHead, IsRequestHead, print_request}
use Rattle.httparse.specs.Pieces.{is_newline}
use Rattle.http_frames.specs.declared.calm.Calm.{Calm}
use Rattle.http_frames.specs.declared.calm.Calm.TheVariants as calm
use Rattle.http_frames.specs.Heads.{HasNoHead, MayBecomeHead, EndsInsideTarget, IsOpenHead, is_awaited_byte}
use Rattle.http_frames.specs.HeadSteps.{skip_token}
use Rattle.http_frames.specs.Chunks.{MayBecomeTrailers}
use Rattle.http_frames.specs.Calm.{is_calm, calm_at, calm_behind, StaysSo, StaysOpen, IsPartOfTrailers, TrailersStay, last_line, last_line_from, calm_behind_name, calm_of_line}
use Rattle.http_frames.proofs.RoomLemmas.{cut_of, HasNoFeed, HasNoFeed-front, HasNoFeed-of, front_of_line, feedless, token_no_feed, token_no_return, field_line, section_more}
use Rattle.http_frames.proofs.HeadLemmas.{IsNewlines, IsNewlines-append, IsNewlines-front, IsNewlines-blank, IsNewlines-end, print_request_is, line_of, line_shape, front_of, head_cut}
use Rattle.http_frames.proofs.TargetLemmas.{token_front, either, pass_from_all, not_of_token}
use Rattle.http_frames.proofs.MoreLemmas.{shortest}

-- ---- bytes one after the other

calm_behind-append : (now : Calm) (a b : List ℕ) → calm_behind now (a ++ b) ≡ calm_behind (calm_behind now a) b
calm_behind-append now [] b = refl
calm_behind-append now (v ∷ a) b = calm_behind-append (calm_at now v) a b

pub stays_on : (P : List ℕ → Type 0) (now : Calm) (text part : List ℕ) → StaysSo P now text
    → StaysSo P (calm_behind now part) (text ++ part)
stays_on P now text part x more is =
    subst P (sym (append_assoc text part more))
    (x (part ++ more) (ap is_calm (calm_behind-append now part more) ∙ is))

pub nothing_stays : (part : List ℕ) → is_calm (calm_behind calm.Nothing part) ≡ false
nothing_stays [] = refl
nothing_stays (b ∷ part) = nothing_stays part

-- a class that all its bytes keep
all_of_class : (now : Calm) (test : ℕ → Bool) → ((b : ℕ) → test b ≡ true → calm_at now b ≡ now)
    → ((b : ℕ) → test b ≡ false → calm_at now b ≡ calm.Nothing)
    → (part : List ℕ) → is_calm (calm_behind now part) ≡ true → AllPass test part
all_of_class now test keeps ends [] is = All-nil (λ v. test v ≡ true)
all_of_class now test keeps ends (b ∷ part) is =
    elim (either (test b)) [
      | inl h ↦
          All-cons (λ v. test v ≡ true) b part h
          (all_of_class now test keeps ends part (ap (λ (c : Calm). is_calm (calm_behind c part)) (sym (keeps b h)) ∙ is))
      | inr h ↦
          absurd (false≢true (sym (nothing_stays part) ∙ ap (λ (c : Calm). is_calm (calm_behind c part)) (sym (ends b h)) ∙ is))
    ]

tokens_of : (part : List ℕ) → is_calm (calm_behind calm.Token part) ≡ true → AllPass is_token_byte part
tokens_of = all_of_class calm.Token is_token_byte (λ b h. rw h refl) (λ b h. rw h refl)

awaited_of : (part : List ℕ) → is_calm (calm_behind calm.Target part) ≡ true → AllPass is_awaited_byte part
awaited_of = all_of_class calm.Target is_awaited_byte (λ b h. rw h refl) (λ b h. rw h refl)

values_of : (part : List ℕ) → is_calm (calm_behind calm.Value part) ≡ true → AllPass is_value_byte part
values_of = all_of_class calm.Value is_value_byte (λ b h. rw h refl) (λ b h. rw h refl)

pub spaces_of : (part : List ℕ) → is_calm (calm_behind calm.Padding part) ≡ true → AllPass is_ows part
spaces_of = all_of_class calm.Padding is_ows (λ b h. rw h refl) (λ b h. rw h refl)

pub extension_of : (part : List ℕ) → is_calm (calm_behind calm.Extension part) ≡ true → AllPass is_extension_byte part
extension_of = all_of_class calm.Extension is_extension_byte (λ b h. rw h refl) (λ b h. rw h refl)

pub nothing_so : (P : List ℕ → Type 0) (now : Calm) (text : List ℕ) → now ≡ calm.Nothing → StaysSo P now text
nothing_so P now text e part is =
    absurd (false≢true (sym (nothing_stays part) ∙ ap (λ (c : Calm). is_calm (calm_behind c part)) (sym e) ∙ is))

pub pass-append : (test : ℕ → Bool) (a b : List ℕ) → AllPass test a → AllPass test b → AllPass test (a ++ b)
pass-append test [] b x y = y
pass-append test (v ∷ a) b x y =
    let P : ℕ → Type 0 = λ v. test v ≡ true in
    All-cons P v (a ++ b) (All-head P v a x) (pass-append test a b (All-tail P v a x) y)

-- ---- no head ends in bytes without a line feed

no_feed_at_end : (w : List ℕ) → HasNoFeed (w ++ 10 ∷ []) → ⊥
no_feed_at_end [] x = x.0 refl
no_feed_at_end (b ∷ w) x = no_feed_at_end w x.1

pub feed_behind : (w t : List ℕ) (y : ℕ) (ys : List ℕ) → w ++ 10 ∷ [] ≡ t ++ y ∷ ys → HasNoFeed (y ∷ ys) → ⊥
feed_behind w [] y ys e x = no_feed_at_end w (subst HasNoFeed (sym e) x)
feed_behind [] (b ∷ t) y ys e x =
    let rest : [] ≡ t ++ y ∷ ys = cc in
    omega (arith, ap length rest, length-append t (y ∷ ys))
feed_behind (c ∷ w) (b ∷ t) y ys e x =
    let rest : w ++ 10 ∷ [] ≡ t ++ y ∷ ys = cc in feed_behind w t y ys rest x

request_ends : (h : RequestHead) → (w : List ℕ) × (print_request h ≡ w ++ 10 ∷ [])
request_ends h =
    let last = feedless [] h.last tt in
    let front = (print_blank h.blank ++ line_of h) ++ flat_map print_field h.fields in (
      front ++ last.0,
      print_request_is h ∙ sym (append_assoc (print_blank h.blank) (line_of h) (print_section h.fields h.last))
          ∙ sym (append_assoc (print_blank h.blank ++ line_of h) (flat_map print_field h.fields) (print_end h.last))
          ∙ ap (λ (t : List ℕ). front ++ t) last.2 ∙ sym (append_assoc front last.0 (10 ∷ [])),
    )

-- what a text and such bytes begin with is in the text, where it ends with a line feed
pub in_text : (text part form rest : List ℕ) → (w : List ℕ) × (form ≡ w ++ 10 ∷ []) → text ++ part ≡ form ++ rest → HasNoFeed part
    → (x : List ℕ) × (text ≡ form ++ x)
in_text text part form rest end e none =
    elim (cut_of text part form rest e) [
      | inl k ↦ (k.0, k.1)
      | inr k ↦
          absurd (feed_behind end.0 text k.0 k.1 (sym end.1 ∙ k.2) (HasNoFeed-front (k.0 ∷ k.1) rest (subst HasNoFeed k.3 none)))
    ]

no_head_on : (text part : List ℕ) → HasNoHead text → HasNoFeed part → HasNoHead (text ++ part)
no_head_on text part none x h rest reads =
    let there = in_text text part (print_request h) rest (request_ends h) reads.0.1 x in
    none h there.0 ((reads.0.0, there.1), reads.1)

-- ---- the last line

last_line_behind_from : (line a b : List ℕ) → last_line_from line (a ++ 10 ∷ b) ≡ last_line b
last_line_behind_from line [] b = refl
last_line_behind_from line (v ∷ a) b =
    elim (cases_eq v 10) [
      | inl h ↦ rw h (last_line_behind_from (a ++ 10 ∷ b) a b)
      | inr h ↦ rw (ne_eqb v 10 h) (last_line_behind_from line a b)
    ]

last_line_behind : (a b : List ℕ) → last_line (a ++ 10 ∷ b) ≡ last_line b
last_line_behind a b = last_line_behind_from (a ++ 10 ∷ b) a b

last_line_one : (line a : List ℕ) → HasNoFeed a → last_line_from line a ≡ line
last_line_one line [] x = refl
last_line_one line (v ∷ a) x = rw (ne_eqb v 10 x.0) (last_line_one line a x.1)

last_line_blank : (es : List LineEnd) (t : List ℕ) → HasNoFeed t → last_line (print_blank es ++ t) ≡ t
last_line_blank [] t x = last_line_one t t x
last_line_blank (e ∷ es) t x =
    let line = feedless [] e tt in
    ap last_line (append_assoc (print_end e) (print_blank es) t
    ∙ ap (λ (u : List ℕ). u ++ (print_blank es ++ t)) line.2 ∙ append_assoc line.0 (10 ∷ []) (print_blank es ++ t))
    ∙ last_line_behind line.0 (print_blank es ++ t) ∙ last_line_blank es t x

newlines_last : (line text : List ℕ) → IsNewlines line → IsNewlines text → IsNewlines (last_line_from line text)
newlines_last line [] x y = x
newlines_last line (b ∷ text) x y =
    elim (cases_eq b 10) [
      | inl h ↦ rw h (newlines_last text text y.1 y.1)
      | inr h ↦ rw (ne_eqb b 10 h) (newlines_last line text x y.1)
    ]

-- ---- a line that is cut short, and some bytes

-- with the bytes it is still the front of a field line
abbrev pub GoesOn : List ℕ → List ℕ → Type 0
GoesOn line part =
    (f : Field) (y : ℕ) (ys : List ℕ) → IsField f → print_field f ≡ line ++ y ∷ ys
    → (g : Field) × (more : List ℕ) × IsField g × ((line ++ part) ++ more ≡ print_field g)

pub section_goes_on : (part : List ℕ) (fs : List Field) (last : LineEnd) (x more : List ℕ) → All IsField fs
    → x ++ more ≡ print_section fs last → GoesOn (last_line x) part → ¬ (IsNewlines (last_line x))
    → (gs : List Field) × (rest : List ℕ) × All IsField gs × ((x ++ part) ++ rest ≡ print_section gs lf) × (length gs ≤ length fs)
section_goes_on part [] last x more ok e goes apart =
    let all : IsNewlines x = IsNewlines-front x more (subst IsNewlines (sym e) (IsNewlines-end last)) in
    absurd (apart (newlines_last x x all all))
section_goes_on part (f ∷ fs) last x more ok e goes apart =
    elim (cut_of x more (print_field f) (print_section fs last) (e ∙ section_more f fs last)) [
      | inl k ↦
          let line = field_line f (All-head IsField f fs ok) in
          let same : last_line x ≡ last_line k.0 =
          ap last_line (k.1 ∙ ap (λ (t : List ℕ). t ++ k.0) line.4 ∙ append_assoc (line.0 ∷ line.1) (10 ∷ []) k.0)
          ∙ last_line_behind (line.0 ∷ line.1) k.0 in
          let rest = section_goes_on part fs last k.0 more (All-tail IsField f fs ok) (sym k.2)
          (subst (λ (t : List ℕ). GoesOn t part) same goes) (λ n. apart (subst IsNewlines (sym same) n)) in (
            f ∷ rest.0,
            rest.1,
            All-cons IsField f rest.0 (All-head IsField f fs ok) rest.2,
            ap (λ (t : List ℕ). t ++ rest.1) (ap (λ (t : List ℕ). t ++ part) k.1 ∙ append_assoc (print_field f) k.0 part)
                ∙ append_assoc (print_field f) (k.0 ++ part) rest.1
                ∙ ap (λ (t : List ℕ). print_field f ++ t) rest.3 ∙ sym (section_more f rest.0 lf),
            omega (arith, rest.4),
          )
      | inr k ↦
          let line = field_line f (All-head IsField f fs ok) in
          let none : HasNoFeed x = front_of_line x (line.0 ∷ line.1) k.0 k.1 (sym line.4 ∙ k.2) line.2 in
          let same : last_line x ≡ x = last_line_one x x none in
          let on = goes f k.0 k.1 (All-head IsField f fs ok) (k.2 ∙ ap (λ (t : List ℕ). t ++ k.0 ∷ k.1) (sym same)) in
          let whole : (x ++ part) ++ on.1 ≡ print_field on.0 = ap (λ (t : List ℕ). (t ++ part) ++ on.1) (sym same) ∙ on.3 in (
            on.0 ∷ [],
            on.1 ++ 10 ∷ [],
            All-cons IsField on.0 [] on.2 (All-nil _),
            sym (append_assoc (x ++ part) on.1 (10 ∷ [])) ∙ ap (λ (t : List ℕ). t ++ 10 ∷ []) whole
                ∙ sym (section_more on.0 [] lf),
            omega arith,
          )
    ]

-- in a name
token_goes : (line part : List ℕ) → 0 < length line → AllPass is_token_byte line → AllPass is_token_byte part → GoesOn line part
token_goes line part some all more f y ys ok e = (
  record { name = line ++ part; raw = []; end = lf },
  58 ∷ 10 ∷ [],
  record {
    name = (omega (arith, some, length-append line part), pass-append is_token_byte line part all more);
    raw = All-nil (λ v. is_value_byte v ≡ true);
  },
  sym (append_assoc (line ++ part) (58 ∷ []) (10 ∷ [])),
)

colon_ends : is_token_byte 58 ≡ false
unfolding is_token_byte
colon_ends = refl

space_ends : is_token_byte 32 ≡ false
unfolding is_token_byte
space_ends = refl

-- a text has one token at its front
one_token : (a c : List ℕ) (x y : ℕ) (b d : List ℕ) → AllPass is_token_byte a → AllPass is_token_byte c
    → is_token_byte x ≡ false → is_token_byte y ≡ false → a ++ x ∷ b ≡ c ++ y ∷ d → (a ≡ c) × (x ≡ y)
one_token [] [] x y b d all also stops ends e = (refl, cc)
one_token [] (v ∷ c) x y b d all also stops ends e =
    let same : x ≡ v = cc in
    absurd (false≢true (sym stops ∙ ap is_token_byte same ∙ All-head (λ u. is_token_byte u ≡ true) v c also))
one_token (v ∷ a) [] x y b d all also stops ends e =
    let same : v ≡ y = cc in
    absurd (false≢true (sym ends ∙ ap is_token_byte (sym same) ∙ All-head (λ u. is_token_byte u ≡ true) v a all))
one_token (v ∷ a) (w ∷ c) x y b d all also stops ends e =
    let P : ℕ → Type 0 = λ u. is_token_byte u ≡ true in
    let same : v ≡ w = cc in
    let rest : a ++ x ∷ b ≡ c ++ y ∷ d = cc in
    let on = one_token a c x y b d (All-tail P v a all) (All-tail P w c also) stops ends rest in
    (cc, on.1)

-- in a value
value_goes : (name value part : List ℕ) → AllPass is_token_byte name → AllPass is_value_byte value → AllPass is_value_byte part
    → GoesOn (name ++ 58 ∷ value) part
value_goes name value part token all more f y ys ok e =
    let cut : f.name ++ 58 ∷ (f.raw ++ print_end f.end) ≡ name ++ 58 ∷ (value ++ y ∷ ys) =
    sym (append_assoc f.name (58 ∷ f.raw) (print_end f.end)) ∙ e ∙ append_assoc name (58 ∷ value) (y ∷ ys) in
    let same = one_token f.name name 58 58 (f.raw ++ print_end f.end) (value ++ y ∷ ys) ok.name.1 token colon_ends colon_ends cut in (
      record { name = name; raw = value ++ part; end = lf },
      10 ∷ [],
      record {
        name = (subst (λ (t : List ℕ). 0 < length t) same.0 ok.name.0, token);
        raw = pass-append is_value_byte value part all more;
      },
      ap (λ (t : List ℕ). t ++ 10 ∷ []) (append_assoc name (58 ∷ value) part),
    )

-- ---- a head that is cut short, and some bytes

-- in the first line
abbrev pub StartGoesOn : List ℕ → List ℕ → Type 0
StartGoesOn text part =
    (h : RequestHead) (es : List LineEnd) (y : ℕ) (ys : List ℕ) → IsRequestHead h → text ≡ print_blank es ++ last_line text
    → line_of h ≡ last_line text ++ y ∷ ys → MayBecomeHead (text ++ part)

head_goes : (text part : List ℕ) → MayBecomeHead text → StartGoesOn text part → GoesOn (last_line text) part
    → ¬ (IsNewlines (last_line text)) → MayBecomeHead (text ++ part)
head_goes text part (more, h, reads) starts goes apart =
    elim (head_cut h reads.0.0 text more [] reads.0.1) [
      | inl k ↦ elim (cut_of (print_blank h.blank) (line_of h) text (k.1 ∷ k.2) k.3) [
        | inl j ↦
            let all : IsNewlines text = IsNewlines-front text j.0 (subst IsNewlines j.1 (IsNewlines-blank h.blank)) in
            absurd (apart (newlines_last text text all all))
        | inr j ↦
            let line = line_shape h reads.0.0 in
            let none : HasNoFeed (j.0 ∷ j.1) =
            front_of_line (j.0 ∷ j.1) (line.0 ∷ line.1) k.1 k.2 (sym line.4 ∙ j.3) line.3 in
            let same : last_line text ≡ j.0 ∷ j.1 = ap last_line j.2 ∙ last_line_blank h.blank (j.0 ∷ j.1) none in
            starts h h.blank k.1 k.2 reads.0.0 (j.2 ∙ ap (λ (t : List ℕ). print_blank h.blank ++ t) (sym same))
            (j.3 ∙ ap (λ (t : List ℕ). t ++ k.1 ∷ k.2) (sym same))
      ]
      | inr k ↦
          let line = line_shape h reads.0.0 in
          let whole : text ≡ (print_blank h.blank ++ line.0 ∷ line.1) ++ 10 ∷ k.0 =
          k.1 ∙ ap (λ (t : List ℕ). (print_blank h.blank ++ t) ++ k.0) line.4
          ∙ ap (λ (t : List ℕ). t ++ k.0) (sym (append_assoc (print_blank h.blank) (line.0 ∷ line.1) (10 ∷ [])))
          ∙ append_assoc (print_blank h.blank ++ line.0 ∷ line.1) (10 ∷ []) k.0 in
          let same : last_line text ≡ last_line k.0 =
          ap last_line whole ∙ last_line_behind (print_blank h.blank ++ line.0 ∷ line.1) k.0 in
          let on = section_goes_on part h.fields h.last k.0 more reads.0.0.fields (sym k.2 ∙ append-nil _)
          (subst (λ (t : List ℕ). GoesOn t part) same goes) (λ n. apart (subst IsNewlines (sym same) n)) in
          let ok : IsRequestHead (record h { fields = on.0; last = lf }) = record {
            method = reads.0.0.method;
            target = reads.0.0.target;
            target_text = reads.0.0.target_text;
            minor = reads.0.0.minor;
            fields = on.2;
          } in (
            on.1,
            record h { fields = on.0; last = lf },
            (
              (
                ok,
                ap (λ (t : List ℕ). (t ++ part) ++ on.1) k.1 ∙ ap (λ (t : List ℕ). t ++ on.1) (append_assoc (front_of h) k.0 part)
                    ∙ append_assoc (front_of h) (k.0 ++ part) on.1
                    ∙ ap (λ (t : List ℕ). front_of h ++ t) on.3
                    ∙ append_assoc (print_blank h.blank) (line_of h) (print_section on.0 lf)
                    ∙ sym (print_request_is (record h { fields = on.0; last = lf }))
                    ∙ sym (append-nil _),
              ),
              omega (arith, on.4, reads.1),
            ),
          )
    ]

-- a method that isn't whole is the front of a head
method_goes : (es : List LineEnd) (word part : List ℕ) → 0 < length word → AllPass is_token_byte word
    → AllPass is_token_byte part → MayBecomeHead ((print_blank es ++ word) ++ part)
method_goes es word part some all more = (
  tail,
  shortest es (word ++ part),
  ((ok, joins ∙ sym (print_request_is (shortest es (word ++ part))) ∙ sym (append-nil _)), omega arith),
)
  where
    tail : List ℕ
    tail = 32 ∷ 47 ∷ 32 ∷ (print_version 0 ++ (10 ∷ 10 ∷ []))

    ok : IsRequestHead (shortest es (word ++ part))
    ok = record {
      method = (omega (arith, some, length-append word part), pass-append is_token_byte word part all more);
      target = (omega arith, All-cons (λ v. is_uri_byte v ≡ true) 47 [] refl (All-nil (λ v. is_uri_byte v ≡ true)));
      target_text = IsUtf8-from_ascii (47 ∷ []) (IsAscii-cons 47 [] (omega arith) IsAscii-nil);
      minor = omega arith;
      fields = All-nil _;
    }

    joins : ((print_blank es ++ word) ++ part) ++ tail
        ≡ print_blank es ++ (line_of (shortest es (word ++ part)) ++ print_section [] lf)
    joins =
        ap (λ (t : List ℕ). t ++ tail) (append_assoc (print_blank es) word part)
        ∙ append_assoc (print_blank es) (word ++ part) tail
        ∙ ap (λ (t : List ℕ). print_blank es ++ t)
        (sym (append_assoc (word ++ part) (32 ∷ 47 ∷ 32 ∷ (print_version 0 ++ (10 ∷ []))) (10 ∷ [])))

not_newlines_token : (line : List ℕ) → 0 < length line → AllPass is_token_byte line → ¬ (IsNewlines line)
not_newlines_token [] some all n = omega (arith, some)
not_newlines_token (b ∷ line) some all n =
    let token : is_token_byte b ≡ true = All-head (λ u. is_token_byte u ≡ true) b line all in
    let other : is_newline b ≡ false =
    or_from _ _ (ne_eqb b 13 (not_of_token b 13 token token_no_return)) (ne_eqb b 10 (not_of_token b 10 token token_no_feed)) in
    false≢true (sym other ∙ n.0)

not_newlines_field : (name value : List ℕ) → AllPass is_token_byte name → ¬ (IsNewlines (name ++ 58 ∷ value))
not_newlines_field [] value all n = let other : is_newline 58 ≡ false = refl in false≢true (sym other ∙ n.0)
not_newlines_field (b ∷ name) value all n =
    not_newlines_token (b ∷ name) (omega arith) all (IsNewlines-front (b ∷ name) (58 ∷ value) n)

open_else : (text : List ℕ) → IsOpenHead text → ¬ (EndsInsideTarget text) → MayBecomeHead text
open_else text (none, inl x) outside = absurd (outside x)
open_else text (none, inr x) outside = x

token_stays : (text : List ℕ) → IsOpenHead text → ¬ (EndsInsideTarget text) → 0 < length (last_line text)
    → AllPass is_token_byte (last_line text) → StaysOpen calm.Token text
token_stays text begun outside some all part is =
    let more = tokens_of part is in (
      no_head_on text part begun.0 (HasNoFeed-of is_token_byte part token_no_feed more),
      inr (head_goes text part (open_else text begun outside)
          (λ h es y ys ok front line. subst (λ (t : List ℕ). MayBecomeHead (t ++ part)) (sym front)
          (method_goes es (last_line text) part some all more))
          (token_goes (last_line text) part some all more) (not_newlines_token (last_line text) some all)),
    )

value_stays : (text name value : List ℕ) → IsOpenHead text → ¬ (EndsInsideTarget text) → last_line text ≡ name ++ 58 ∷ value
    → AllPass is_token_byte name → AllPass is_value_byte value → StaysOpen calm.Value text
value_stays text name value begun outside line token all part is =
    let more = values_of part is in (
      no_head_on text part begun.0 (HasNoFeed-of is_value_byte part refl more),
      inr (head_goes text part (open_else text begun outside)
          (λ h es y ys ok front start.
          let cut : h.method ++ 32 ∷ (h.target ++ (32 ∷ (print_version h.minor ++ print_end h.line_end)))
          ≡ name ++ 58 ∷ (value ++ y ∷ ys) =
          start ∙ ap (λ (t : List ℕ). t ++ y ∷ ys) line ∙ append_assoc name (58 ∷ value) (y ∷ ys) in
          let same = one_token h.method name 32 58 _ (value ++ y ∷ ys) ok.method.1 token space_ends colon_ends cut in
          absurd (omega (arith, same.1)))
          (subst (λ (t : List ℕ). GoesOn t part) (sym line) (value_goes name value part token all more))
          (λ n. not_newlines_field name value token (subst IsNewlines line n))),
    )

pub target_stays : (text : List ℕ) → IsOpenHead text → EndsInsideTarget text → StaysOpen calm.Target text
target_stays text begun x part is =
    let more = awaited_of part is in (
      no_head_on text part begun.0 (HasNoFeed-of is_awaited_byte part refl more),
      inl (
        x.0,
        x.1,
        x.2 ++ part,
        x.3,
        pass-append is_awaited_byte x.2 part x.4 more,
        ap (λ (t : List ℕ). t ++ part) x.5 ∙ append_assoc (print_blank x.0 ++ x.1) (32 ∷ x.2) part,
      ),
    )

-- by the line
by_line : (P : List ℕ → Type 0) (text : List ℕ)
    → (0 < length (last_line text) → AllPass is_token_byte (last_line text) → StaysSo P calm.Token text)
    → ((name value : List ℕ) → last_line text ≡ name ++ 58 ∷ value → AllPass is_token_byte name → AllPass is_value_byte value
    → StaysSo P calm.Value text)
    → StaysSo P (calm_of_line (last_line text)) text
by_line P text token value_so = of_rest (skip_token (last_line text)) refl
  where
    nothing : StaysSo P calm.Nothing text
    nothing = nothing_so P calm.Nothing text refl

    of_line : (now : Calm) → calm_of_line (last_line text) ≡ now → StaysSo P now text → StaysSo P (calm_of_line (last_line text)) text
    of_line now e x = subst (λ (c : Calm). StaysSo P c text) (sym e) x

    of_rest : (rest : List ℕ) → skip_token (last_line text) ≡ rest → StaysSo P (calm_of_line (last_line text)) text
    of_rest [] e =
        elim (either (nat_lt 0 (length (last_line text)))) [
          | inl h ↦
              let some : 0 < length (last_line text) = grind (arith, nat_tests) in
              let front = token_front (last_line text) in
              let all : last_line text ≡ front.0 = front.2 ∙ ap (λ (t : List ℕ). front.0 ++ t) e ∙ append-nil front.0 in
              of_line calm.Token
              (ap (λ (t : List ℕ). calm_behind_name t (nat_lt 0 (length (last_line text)))) e ∙ rw h refl)
              (token some (subst (AllPass is_token_byte) (sym all) front.1))
          | inr h ↦
              of_line calm.Nothing
              (ap (λ (t : List ℕ). calm_behind_name t (nat_lt 0 (length (last_line text)))) e ∙ rw h refl) nothing
        ]
    of_rest (b ∷ value) e =
        let named : calm_of_line (last_line text) ≡ calm_behind_name (b ∷ value) (nat_lt 0 (length (last_line text))) =
        ap (λ (t : List ℕ). calm_behind_name t (nat_lt 0 (length (last_line text)))) e in
        elim (cases_eq b 58) [
          | inr h ↦ of_line calm.Nothing (named ∙ rw (ne_eqb b 58 h) refl) nothing
          | inl h ↦ elim (either (list_all is_value_byte value)) [
            | inr k ↦ of_line calm.Nothing (named ∙ rw (h, k) refl) nothing
            | inl k ↦
                let front = token_front (last_line text) in
                of_line calm.Value (named ∙ rw (h, k) refl)
                (value_so front.0 value
                (front.2 ∙ ap (λ (t : List ℕ). front.0 ++ t) (e ∙ ap (λ (v : ℕ). v ∷ value) h))
                front.1 (pass_from_all is_value_byte value k))
          ]
        ]

pub line_stays : (text : List ℕ) → IsOpenHead text → ¬ (EndsInsideTarget text) → StaysOpen (calm_of_line (last_line text)) text
line_stays text begun outside =
    by_line IsOpenHead text (λ some all. token_stays text begun outside some all)
    (λ name value line named all. value_stays text name value begun outside line named all)

-- ---- trailers

section_ends : (fields : List Field) (last : LineEnd) → (w : List ℕ) × (print_section fields last ≡ w ++ 10 ∷ [])
section_ends fields last =
    let end = feedless [] last tt in (
      flat_map print_field fields ++ end.0,
      ap (λ (t : List ℕ). flat_map print_field fields ++ t) end.2 ∙ sym (append_assoc (flat_map print_field fields) end.0 (10 ∷ [])),
    )

trailers_on : (text part : List ℕ) → IsPartOfTrailers text → HasNoFeed part → GoesOn (last_line text) part
    → ¬ (IsNewlines (last_line text)) → IsPartOfTrailers (text ++ part)
trailers_on text part begun none goes apart = (
  (λ fields last rest reads.
      let there = in_text text part (print_section fields last) rest (section_ends fields last) reads.0.1 none in
      begun.0 fields last there.0 ((reads.0.0, there.1), reads.1)),
  more begun.1,
)
  where
    more : MayBecomeTrailers text → MayBecomeTrailers (text ++ part)
    more (rest, fields, last, reads) =
        let on = section_goes_on part fields last text rest reads.0.0 (reads.0.1 ∙ append-nil _) goes apart in
        (on.1, on.0, lf, ((on.2, on.3 ∙ sym (append-nil _)), omega (arith, on.4, reads.1)))

pub trailers_stay : (text : List ℕ) → IsPartOfTrailers text → TrailersStay (calm_of_line (last_line text)) text
trailers_stay text begun =
    by_line IsPartOfTrailers text
    (λ some all part is.
    let more = tokens_of part is in
    trailers_on text part begun (HasNoFeed-of is_token_byte part token_no_feed more)
    (token_goes (last_line text) part some all more) (not_newlines_token (last_line text) some all))
    (λ name value line named all part is.
    let more = values_of part is in
    trailers_on text part begun (HasNoFeed-of is_value_byte part refl more)
    (subst (λ (t : List ℕ). GoesOn t part) (sym line) (value_goes name value part named all more))
    (λ n. not_newlines_field name value named (subst IsNewlines line n)))

-- ---- empty lines

-- empty lines, and perhaps the CR of one more
abbrev pub IsBlankAnd : List ℕ → List ℕ → Type 0
IsBlankAnd rest text = (es : List LineEnd) × (text ≡ print_blank es ++ rest)

-- what was read where such bytes are known
abbrev pub IsBlankText : Calm → List ℕ → Type 0
IsBlankText calm.Nothing text = ⊥
IsBlankText calm.Blank text = IsBlankAnd [] text
IsBlankText calm.Return text = IsBlankAnd (13 ∷ []) text
IsBlankText calm.Token text = ⊥
IsBlankText calm.Target text = ⊥
IsBlankText calm.Value text = ⊥
IsBlankText calm.Padding text = ⊥
IsBlankText calm.Extension text = ⊥

blank_and : (e : LineEnd) (text rest : List ℕ) → IsBlankAnd rest text → IsBlankAnd rest (print_end e ++ text)
blank_and e text rest x =
    (e ∷ x.0, ap (λ (t : List ℕ). print_end e ++ t) x.1 ∙ sym (append_assoc (print_end e) (print_blank x.0) rest))

blank_text : (e : LineEnd) (now : Calm) (text : List ℕ) → IsBlankText now text → IsBlankText now (print_end e ++ text)
blank_text e calm.Nothing text x = x
blank_text e calm.Blank text x = blank_and e text [] x
blank_text e calm.Return text x = blank_and e text (13 ∷ []) x
blank_text e calm.Token text x = x
blank_text e calm.Target text x = x
blank_text e calm.Value text x = x
blank_text e calm.Padding text x = x
blank_text e calm.Extension text x = x

-- which bytes are read as empty lines
blank_run : (part : List ℕ) → is_calm (calm_behind calm.Blank part) ≡ true → IsBlankText (calm_behind calm.Blank part) part
blank_run [] is = ([], refl)
blank_run (b ∷ []) is =
    elim (cases_eq b 10) [
      | inl h ↦ rw h (lf ∷ [], refl)
      | inr h ↦ elim (cases_eq b 13) [
        | inl k ↦ rw k ([], refl)
        | inr k ↦ absurd (false≢true (rw (ne_eqb b 10 h, ne_eqb b 13 k) at is))
      ]
    ]
blank_run (b ∷ c ∷ part) is =
    elim (cases_eq b 10) [
      | inl h ↦
          let line : calm_behind calm.Blank (b ∷ c ∷ part) ≡ calm_behind calm.Blank (c ∷ part) = rw h refl in
          let rest = blank_run (c ∷ part) (ap is_calm (sym line) ∙ is) in
          subst (λ (now : Calm). IsBlankText now (b ∷ c ∷ part)) (sym line)
          (subst (λ (v : ℕ). IsBlankText (calm_behind calm.Blank (c ∷ part)) (v ∷ c ∷ part)) (sym h)
          (blank_text lf (calm_behind calm.Blank (c ∷ part)) (c ∷ part) rest))
      | inr h ↦ elim (cases_eq b 13) [
        | inr k ↦
            let line : calm_behind calm.Blank (b ∷ c ∷ part) ≡ calm_behind calm.Nothing (c ∷ part) =
            rw (ne_eqb b 10 h, ne_eqb b 13 k) refl in
            absurd (false≢true (sym (nothing_stays (c ∷ part)) ∙ ap is_calm (sym line) ∙ is))
        | inl k ↦ elim (cases_eq c 10) [
          | inr l ↦
              let line : calm_behind calm.Blank (b ∷ c ∷ part) ≡ calm_behind calm.Nothing part = rw (k, ne_eqb c 10 l) refl in
              absurd (false≢true (sym (nothing_stays part) ∙ ap is_calm (sym line) ∙ is))
          | inl l ↦
              let line : calm_behind calm.Blank (b ∷ c ∷ part) ≡ calm_behind calm.Blank part = rw (k, l) refl in
              let rest = blank_run part (ap is_calm (sym line) ∙ is) in
              subst (λ (now : Calm). IsBlankText now (b ∷ c ∷ part)) (sym line)
              (subst (λ (v : ℕ). IsBlankText (calm_behind calm.Blank part) (v ∷ c ∷ part)) (sym k)
              (subst (λ (v : ℕ). IsBlankText (calm_behind calm.Blank part) (13 ∷ v ∷ part)) (sym l)
              (blank_text crlf (calm_behind calm.Blank part) part rest)))
        ]
      ]
    ]

-- a head has a byte that is neither CR nor LF
no_head_in_newlines : (text : List ℕ) → IsNewlines text → HasNoHead text
no_head_in_newlines text all h rest reads =
    let line = line_shape h reads.0.0 in
    let front : text ≡ (print_blank h.blank ++ line_of h) ++ (print_section h.fields h.last ++ rest) =
    reads.0.1 ∙ ap (λ (t : List ℕ). t ++ rest)
    (print_request_is h ∙ sym (append_assoc (print_blank h.blank) (line_of h) (print_section h.fields h.last)))
    ∙ append_assoc (print_blank h.blank ++ line_of h) (print_section h.fields h.last) rest in
    let start : IsNewlines (print_blank h.blank ++ line_of h) =
    IsNewlines-front (print_blank h.blank ++ line_of h) _ (subst IsNewlines front all) in
    let first : IsNewlines (line.0 ∷ (line.1 ++ 10 ∷ [])) =
    subst IsNewlines line.4 (newlines_behind (print_blank h.blank) (line_of h) start) in
    let other : is_newline line.0 ≡ false =
    or_from _ _ (ne_eqb line.0 13 (not_of_token line.0 13 line.2 token_no_return))
    (ne_eqb line.0 10 (not_of_token line.0 10 line.2 token_no_feed)) in
    false≢true (sym other ∙ first.0)
  where
    newlines_behind : (a b : List ℕ) → IsNewlines (a ++ b) → IsNewlines b
    newlines_behind [] b x = x
    newlines_behind (v ∷ a) b x = newlines_behind a b x.1

letter_is : is_token_byte 71 ≡ true
unfolding is_token_byte
letter_is = refl

-- empty lines may be followed by a head
blank_goes : (es : List LineEnd) (text more : List ℕ) → text ++ more ≡ print_blank es → MayBecomeHead text
blank_goes es text more e =
    let head = method_goes es (71 ∷ []) [] (omega arith)
    (All-cons (λ v. is_token_byte v ≡ true) 71 [] letter_is (All-nil (λ v. is_token_byte v ≡ true)))
    (All-nil (λ v. is_token_byte v ≡ true)) in (
      more ++ (71 ∷ head.0),
      head.1,
      (
        (
          head.2.0.0,
          sym (append_assoc text more (71 ∷ head.0)) ∙ ap (λ (t : List ℕ). t ++ 71 ∷ head.0) e
              ∙ sym (append_assoc (print_blank es) (71 ∷ []) head.0)
              ∙ ap (λ (t : List ℕ). t ++ head.0) (sym (append-nil (print_blank es ++ 71 ∷ [])))
              ∙ head.2.0.1,
        ),
        head.2.1,
      ),
    )

blank_open : (now : Calm) (text : List ℕ) → IsBlankText now text → IsOpenHead text
blank_open calm.Nothing text x = absurd x
blank_open calm.Blank text x =
    let whole : text ≡ print_blank x.0 = x.1 ∙ append-nil _ in (
      no_head_in_newlines text (subst IsNewlines (sym whole) (IsNewlines-blank x.0)),
      inr (blank_goes x.0 text [] (append-nil text ∙ whole)),
    )
blank_open calm.Return text x =
    let whole : text ++ 10 ∷ [] ≡ print_blank (x.0 ++ crlf ∷ []) =
    ap (λ (t : List ℕ). t ++ 10 ∷ []) x.1 ∙ append_assoc (print_blank x.0) (13 ∷ []) (10 ∷ []) ∙ sym (blank_more x.0) in (
      no_head_in_newlines text
          (subst IsNewlines (sym x.1) (IsNewlines-append (print_blank x.0) (13 ∷ []) (IsNewlines-blank x.0) (refl, tt))),
      inr (blank_goes (x.0 ++ crlf ∷ []) text (10 ∷ []) whole),
    )
  where
    blank_more : (es : List LineEnd) → print_blank (es ++ crlf ∷ []) ≡ print_blank es ++ 13 ∷ 10 ∷ []
    blank_more [] = refl
    blank_more (e ∷ es) =
        ap (λ (t : List ℕ). print_end e ++ t) (blank_more es) ∙ sym (append_assoc (print_end e) (print_blank es) (13 ∷ 10 ∷ []))
blank_open calm.Token text x = absurd x
blank_open calm.Target text x = absurd x
blank_open calm.Value text x = absurd x
blank_open calm.Padding text x = absurd x
blank_open calm.Extension text x = absurd x

pub blank_stays : StaysOpen calm.Blank []
blank_stays part is = blank_open (calm_behind calm.Blank part) part (blank_run part is)
