use Rattle.std.proofs.Common.{sym, subst, arith}
use Rattle.std.specs.Str.{IsUtf8}
use Rattle.std.proofs.lemmas.Fmt.{IsAscii-decimal}
use Rattle.std.proofs.lemmas.Str.{IsUtf8-from_ascii}
use Rattle.grid_types.proofs.digits.node_number.Goals as goal

pub returns-in-Err : goal.returns-in-Err
returns-in-Err c = λ n within e. c.in-Err.ensures.cases.0 (subst IsUtf8 (sym e) (IsUtf8-from_ascii _ (IsAscii-decimal n (omega arith))))
