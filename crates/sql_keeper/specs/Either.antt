-- How often a keeper over one of two kinds of database failed.
use Rattle.std.specs.Prelude.{ℕ}
use Rattle.sql_keeper.specs.declared.either.EitherKeeper.{EitherKeeper}
use Rattle.sql_keeper.specs.declared.either.EitherKeeper.TheVariants as either

abbrev pub faults_of : {M F : Type 0} → EitherKeeper M F → ℕ
faults_of (either.Memory k) = k.faults
faults_of (either.File k) = k.faults
