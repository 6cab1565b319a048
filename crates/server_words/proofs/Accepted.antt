-- What a parse found of an option with a number is a number between its limits.
use Rattle.std.proofs.Common.{◌∙◌, ◌≡◌, ◌<◌, ℕ, Bool, true, false, List, [], ◌∷◌, length, ◌&&◌, ◌||◌, ◌==◌, not, ap, refl, sym, subst, arith, inl, inr, map, bytes_eq, zero, suc}
use Rattle.std.specs.Prelude.{Option, None, Some, codes, pos, option_map, slice_get}
use Rattle.std.specs.List.{All, list_all, slice_index_or}
use Rattle.std.specs.Borrow.{Bor}
use Rattle.std.proofs.lemmas.Slice.Eq.{bytes_eq-Decides}
use Rattle.std.proofs.lemmas.List.Elements.{All-get_or, All-nil, All-cons}
use Rattle.std.proofs.lemmas.Bool.{cases_lt}
use Rattle.clap.specs.Words.{Rule, Text, Accepts, IsSignedIn, app_of, found_of, first_value, matched_of, rule_of, is_simple}
use Rattle.clap.specs.Facts.{Entry, EntryPasses, PassesArg, args_of, groups_of, parser_of, parser_of_value}
use Rattle.clap.specs.Built.{IsParsedFrom, IsAuto, SameRules}
use Rattle.clap.specs.Simple.{has_simple_rules, is_buildable}
use Rattle.clap.specs.Walk.{is_empty, is_simple_arg}
use Rattle.clap.specs.declared.parser.matches.ArgMatches.{ArgMatches}
use Rattle.clap.specs.declared.parser.matches.MatchedArg.{MatchedArg}
use Rattle.clap.specs.declared.builder.arg.Arg.{Arg}
use Rattle.clap.specs.declared.builder.arg_group.ArgGroup.{ArgGroup}
use Rattle.clap.specs.declared.builder.command.Command.{Command}
use Rattle.clap.specs.declared.builder.command.Command.TheViews.{out-Command}
use Rattle.clap.specs.declared.builder.value_parser.ValueParser.{ValueParser}
use Rattle.clap.specs.declared.builder.value_parser.ValueParser.TheVariants as parser
use Rattle.clap.proofs.CallerLemmas.{entry_by_id}
use Rattle.server_words.specs.Options.{limits, wants_number}

pub left_of : (a b : Bool) → (a && b) ≡ true → a ≡ true
left_of true b h = refl
left_of false b h = h

pub right_of : (a b : Bool) → (a && b) ≡ true → b ≡ true
right_of true b h = h
right_of false b h = cc

none_in : {X : Type 0} (xs : List X) → is_empty xs ≡ true → xs ≡ []
none_in [] h = refl
none_in (x ∷ xs) h = absurd (grind arith)

-- what every rule passes, the rule at a place passes
all_at : (p : Rule → Bool) (xs : List Arg) (k : ℕ) (d : Arg) → list_all p (map rule_of xs) ≡ true → k < length xs → p (rule_of (slice_index_or xs k d)) ≡ true
all_at p [] k d h lt = absurd (omega arith)
all_at p (x ∷ xs) zero d h lt = left_of _ _ h
all_at p (x ∷ xs) (suc k) d h lt = all_at p xs k d (right_of (p (rule_of x)) _ h) (omega arith)

no_groups : (xs : List Arg) → list_all (λ a. a.is_simple) (map rule_of xs) ≡ true → All (λ a. a.groups.items ≡ []) xs
no_groups [] h = All-nil (λ (a : Arg). a.groups.items ≡ [])
no_groups (x ∷ xs) h =
    let here : is_simple_arg x ≡ true = left_of _ _ h in
    let later = right_of (is_empty x.overrides.items) _ here in
    let last = right_of (is_empty x.default_vals_ifs.items) _ later in
    let none = none_in x.groups.items (left_of (is_empty x.groups.items) _ last) in
    All-cons (λ (a : Arg). a.groups.items ≡ []) x xs none (no_groups xs (right_of (is_simple_arg x) _ h))

first_passes : (P : Bor (List ℕ) → Type 0) (xs : List (Bor (List ℕ))) (t : List ℕ) → All P xs → option_map (λ s. s.now) (slice_get xs 0) ≡ Some t
    → (v : Bor (List ℕ)) × (v.now ≡ t) × P v
first_passes P [] t all e = cc
first_passes P (x ∷ xs) t all e = (x, cc, All-get_or P (x ∷ xs) 0 x (omega arith) all)

range_of : (least most low high : ℕ) (t : List ℕ) → (low == least && high == most) ≡ true → IsSignedIn (pos low) (pos high) t → IsSignedIn (pos least) (pos most) t
range_of least most low high t h a =
    let low_is : low ≡ least = grind (arith, left_of (low == least) _ h) in
    let high_is : high ≡ most = grind (arith, right_of (low == least) _ h) in
    rw (← low_is, ← high_is) a

-- a parser that wants a number between the limits
pub data IsRange (least most : ℕ) : Option ValueParser → Type 0 where
  is_range : (low high : ℕ) → (low == least && high == most) ≡ true → IsRange least most (Some (parser.Signed (pos low) (pos high)))

range_in : (least most : ℕ) (p : Option ValueParser) → wants_number least most p ≡ true → IsRange least most p
range_in least most (Some (parser.Signed (pos low) (pos high))) h = is_range low high h
range_in least most _ h = cc

pub off : (b : Bool) → not b ≡ true → b ≡ false
off false h = refl
off true h = cc

-- an argument whose rule has the option's name takes numbers between the limits
takes_number : (name : Text) (least most : ℕ) (x : Arg) → limits name least most (rule_of x) ≡ true → bytes_eq x.id.now name ≡ true
    → (x.ignore_case ≡ false) × IsRange least most x.value_parser
takes_number name least most x h same =
    let both : (not x.ignore_case && wants_number least most x.value_parser) ≡ true = rw same at h in
    (off x.ignore_case (left_of _ _ both), range_in least most x.value_parser (right_of (not x.ignore_case) _ both))

-- and where building kept the argument, what passed its parser is such a number
passed : (least most : ℕ) (old new : Arg) (t : List ℕ) → SameRules old new → old.ignore_case ≡ false → IsRange least most old.value_parser
    → Accepts new.ignore_case (parser_of new) t → IsSignedIn (pos least) (pos most) t
passed least most old new t same off range a = go old.value_parser range refl
  where
    go : (p : Option ValueParser) → IsRange least most p → old.value_parser ≡ p → IsSignedIn (pos least) (pos most) t
    go _ (is_range low high h) e =
        let kept : new.value_parser ≡ Some (parser.Signed (pos low) (pos high)) = same.parser _ e in
        let parsed : parser_of new ≡ parser.Signed (pos low) (pos high) = ap parser_of_value kept in
        let taken : Accepts new.ignore_case (parser.Signed (pos low) (pos high)) t = subst (λ (q : ValueParser). Accepts new.ignore_case q t) parsed a in
        range_of least most low high t h taken

module _ (c : Command) (m : ArgMatches) (p : IsParsedFrom c m) (simple : is_simple (app_of c) ≡ true) where
  plain : has_simple_rules (app_of c).top ≡ true
  plain = left_of (has_simple_rules (app_of c).top) _ (left_of (is_buildable (app_of c)) _ simple)

  groupless : groups_of p.built ≡ []
  groupless = (p.from.same_groups (no_groups (args_of c) (right_of (app_of c).top.is_plain _ plain))).1
      ∙ none_in (groups_of c) (left_of (is_empty (groups_of c)) _ (left_of (app_of c).top.is_plain _ plain))

  globalless : (out-Command c).has_globals ≡ false
  globalless =
      let after = right_of (is_empty (groups_of c)) _ (left_of (app_of c).top.is_plain _ plain) in
      let later = right_of (not (out-Command c).allow_external_subcommands) _ after in
      off (out-Command c).has_globals (left_of _ _ later)

  -- the argument that took the text is one of the command's own
  own_number : (name : Text) (least most : ℕ) (t : List ℕ) → (bytes_eq name (codes "help") || bytes_eq name (codes "version")) ≡ false
      → list_all (limits name least most) (app_of c).top.rules ≡ true
      → PassesArg p.built name t → IsSignedIn (pos least) (pos most) t
  own_number name least most t not_auto all pass = elim (cases_lt pass.0 (length (args_of c))) [
    | inl under ↦
        let same : SameRules (slice_index_or (args_of c) pass.0 pass.1) pass.1 =
        subst (λ (w : Arg). SameRules (slice_index_or (args_of c) pass.0 pass.1) w) pass.3 (p.from.kept pass.0 pass.1 under).1 in
        let named : bytes_eq (slice_index_or (args_of c) pass.0 pass.1).id.now name ≡ true = rw (← same.id) pass.4.0 in
        let takes = takes_number name least most (slice_index_or (args_of c) pass.0 pass.1) (all_at (limits name least most) (args_of c) pass.0 pass.1 all under) named in
        passed least most (slice_index_or (args_of c) pass.0 pass.1) pass.1 t same takes.0 takes.1 pass.4.1
    | inr over ↦
        let is_name : pass.1.id.now ≡ name = (bytes_eq-Decides pass.1.id.now name).0 pass.4.0 in
        let flag = subst IsAuto pass.3 (p.from.extra pass.0 pass.1 over pass.2) in
        absurd (elim flag [
          | inl h ↦ let is_help : bytes_eq name (codes "help") ≡ true = (bytes_eq-Decides name (codes "help")).1 (sym is_name ∙ h) in let bad : true ≡ false = rw is_help at not_auto in cc
          | inr h ↦ let is_version : bytes_eq name (codes "version") ≡ true = (bytes_eq-Decides name (codes "version")).1 (sym is_name ∙ h) in
              let bad : (bytes_eq name (codes "help") || true) ≡ false = rw is_version at not_auto in cc
        ])
  ]

  -- what the parse found of such an option is a number between its limits
  pub found_number : (name : Text) (least most : ℕ) (t : List ℕ) → (bytes_eq name (codes "help") || bytes_eq name (codes "version")) ≡ false
      → list_all (limits name least most) (app_of c).top.rules ≡ true → bytes_eq name [] ≡ false
      → first_value (found_of m) name ≡ Some t → IsSignedIn (pos least) (pos most) t
  found_number name least most t not_auto all named is_found = go (matched_of (found_of m) name) refl is_found
    where
      step : (x : MatchedArg) → matched_of (found_of m) name ≡ Some x → option_map (λ s. s.now) (slice_get x.vals.items 0) ≡ Some t
          → ((e : Entry) × (e.1 ≡ x) × (bytes_eq e.0.now name ≡ true) × EntryPasses p.built e) → IsSignedIn (pos least) (pos most) t
      step x at first got =
          let id_is : got.0.0.now ≡ name = (bytes_eq-Decides got.0.0.now name).0 got.2 in
          elim got.3.0 [
            | inl group ↦ absurd (elim (got.3.3 group) [
              | inl empty ↦ let is_empty_name : bytes_eq name [] ≡ true = (bytes_eq-Decides name []).1 (sym id_is ∙ empty) in let bad : true ≡ false = rw is_empty_name at named in cc
              | inr some ↦ let bad : 0 < 0 = subst (λ (gs : List ArgGroup). 0 < length gs) groupless some in omega arith
            ])
            | inr values ↦
                let here : All (λ (w : Bor (List ℕ)). PassesArg p.built got.0.0.now w.now) x.vals.items =
                subst (λ (a : MatchedArg). All (λ (w : Bor (List ℕ)). PassesArg p.built got.0.0.now w.now) a.vals.items) got.1 values in
                let v = first_passes (λ (w : Bor (List ℕ)). PassesArg p.built got.0.0.now w.now) x.vals.items t here first in
                own_number name least most t not_auto all
                (subst (λ (n : List ℕ). PassesArg p.built n t) id_is (subst (λ (n : List ℕ). PassesArg p.built got.0.0.now n) v.1 v.2))
          ]

      go : (o : Option MatchedArg) → matched_of (found_of m) name ≡ o → first_value (found_of m) name ≡ Some t → IsSignedIn (pos least) (pos most) t
      go None e h = let bad : None ≡ Some t = rw e at h in cc
      go (Some x) e h = step x e (rw e at h) (entry_by_id (EntryPasses p.built) (found_of m).entries.items name x (p.parsed (p.from.globals ∙ globalless)).values e)
