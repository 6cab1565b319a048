use Rattle.std.proofs.Common.{◌<◌, length, arith}
use Rattle.std.proofs.lemmas.Grind.{common_steps}
use Rattle.grid_types.proofs.SizeLemmas.{caps_length}
use Rattle.grid_types.proofs.request_size.caps_len.Goals as goal

pub returns : goal.returns
returns c =
    let some : 0 < length c.args.caps.now = grind arith in
    let whole = caps_length c.args.caps.now some in grind (arith, common_steps, whole)
