use Rattle.std.proofs.Common.{◌≡◌, [], bytes_eq, not}
use Rattle.std.specs.Prelude.{Option, None, Some, IfSome, pos}
use Rattle.std.proofs.lemmas.Result.{IfOk-weaker}
use Rattle.clap.proofs.WalkLemmas.{first_value-rows}
use Rattle.clap.specs.Built.{IsParsedFrom}
use Rattle.clap.specs.Words.{IsSignedIn, Text, app_of, first_of, first_value, found_of, is_simple, rows_of}
use Rattle.clap.specs.declared.parser.matches.ArgMatches.{ArgMatches}
use Rattle.server_words.specs.Options.{NumbersFit}
use Rattle.server_words.proofs.Accepted.{found_number, left_of, right_of, off}
use Rattle.server_words.proofs.options.matched.Goals as goal

pub returns-clause-rows : goal.returns-clause-rows
returns-clause-rows c =
    IfOk-weaker c.try_get_matches_from.result _ _ (λ m h. (h (left_of (is_simple (app_of c.args.command)) _ c.requires)).0) c.try_get_matches_from.ensures.matches

pub returns-clause-numbers : goal.returns-clause-numbers
returns-clause-numbers c = IfOk-weaker c.try_get_matches_from.result _ _ (λ m parsed. fit m parsed) c.try_get_matches_from.ensures.parsed
  where
    fit : (m : ArgMatches) → IsParsedFrom c.args.command m → NumbersFit (app_of c.args.command) (rows_of (found_of m))
    fit m parsed name least most own all = go (first_of name (rows_of (found_of m))) (first_value-rows (found_of m) name)
      where
        go : (o : Option Text) → first_value (found_of m) name ≡ o → IfSome o (IsSignedIn (pos least) (pos most))
        go None e = tt
        go (Some t) e = found_number c.args.command m parsed (left_of (is_simple (app_of c.args.command)) _ c.requires)
            name least most t (off _ (right_of (not (bytes_eq name [])) _ own)) all (off _ (left_of _ _ own)) e
