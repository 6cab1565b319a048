use Rattle.std.proofs.Common.{sym, subst}
use Rattle.json_spans.specs.Names.{HaveNames}
use Rattle.json_spans.proofs.Reading.{have_names}
use Rattle.json_spans.proofs.names.members.Goals as goal

pub check_names-requires : goal.check_names-requires
check_names-requires c = subst HaveNames (sym c.items.ensures) (have_names c.args.span.place c.args.span.bytes.now c.in-Ok.list c.args.span.valid c.in-Ok.ensures.ok)
