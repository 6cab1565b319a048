use Rattle.std.specs.Prelude.{map}
use Rattle.server_words.proofs.FoundLemmas.{cause_by, numbers_by, rows_by, taken_by}
use Rattle.server_words.proofs.attach.found.Goals as goal

pub returns-in-Ok-clause-taken : goal.returns-in-Ok-clause-taken
returns-in-Ok-clause-taken c =
    taken_by c.found_by.result (map (λ s. s.now) c.args.words.now) c.in-Ok.ensures.app c.found_by.ensures.taken

pub returns-in-Ok-clause-rows : goal.returns-in-Ok-clause-rows
returns-in-Ok-clause-rows c =
    rows_by c.found_by.result (map (λ s. s.now) c.args.words.now) c.in-Ok.ensures.app c.found_by.ensures.rows

pub returns-in-Ok-clause-numbers : goal.returns-in-Ok-clause-numbers
returns-in-Ok-clause-numbers c = numbers_by c.found_by.result c.in-Ok.ensures.app c.found_by.ensures.numbers

pub returns-in-Ok-clause-why : goal.returns-in-Ok-clause-why
returns-in-Ok-clause-why c =
    cause_by c.found_by.result (map (λ s. s.now) c.args.words.now) c.in-Ok.ensures.app c.found_by.ensures.why
