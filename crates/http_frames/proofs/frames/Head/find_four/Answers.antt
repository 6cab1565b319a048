use Rattle.std.proofs.Common.{length}
use Rattle.http_frames.proofs.FrameLemmas.{all_within}
use Rattle.http_frames.proofs.frames.Head.find_four.Goals as goal

pub first_value-requires : goal.first_value-requires
first_value-requires c =
    let heard = rw c.in-Ok-Complete.field-0-is at c.in-Ok-Complete.ensures in
    let section = heard.within.section in
    all_within c.in-Ok-Complete.spans.len (length c.args.self.now.bytes.now) _ section.len_fits section.headers_fit

pub first_value-requires-in-Ok-Complete : goal.first_value-requires-in-Ok-Complete
first_value-requires-in-Ok-Complete c =
    let heard = rw c.in-Ok-Complete.field-0-is at c.in-Ok-Complete.ensures in
    let section = heard.within.section in
    all_within c.in-Ok-Complete.spans.len (length c.args.self.now.bytes.now) _ section.len_fits section.headers_fit

pub first_value-requires-in-Ok-Complete-2 : goal.first_value-requires-in-Ok-Complete-2
first_value-requires-in-Ok-Complete-2 c =
    let heard = rw c.in-Ok-Complete.field-0-is at c.in-Ok-Complete.ensures in
    let section = heard.within.section in
    all_within c.in-Ok-Complete.spans.len (length c.args.self.now.bytes.now) _ section.len_fits section.headers_fit

pub first_value-requires-in-Ok-Complete-3 : goal.first_value-requires-in-Ok-Complete-3
first_value-requires-in-Ok-Complete-3 c =
    let heard = rw c.in-Ok-Complete.field-0-is at c.in-Ok-Complete.ensures in
    let section = heard.within.section in
    all_within c.in-Ok-Complete.spans.len (length c.args.self.now.bytes.now) _ section.len_fits section.headers_fit
