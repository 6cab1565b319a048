use Rattle.std.proofs.Common.{Bool, ◌++◌, ap, subst}
use Rattle.http_frames.specs.declared.reader.Phase.{Phase}
use Rattle.http_frames.specs.Feeding.{IsWaiting, waits_in}
use Rattle.http_frames.proofs.WaitLemmas.{waiting, noted}
use Rattle.http_frames.proofs.reader.FrameReader.expects.Goals as goal

pub returns-in-Head : goal.returns-in-Head
returns-in-Head c = λ limits bytes more fed all.
    let r = c.args.self.now in
    subst (λ (w : Bool). IsWaiting limits (bytes ++ more) w) (ap (λ (p : Phase). waits_in p r.waits) c.in-Head.is)
    (waiting r.phase limits r bytes more fed.stands all)

pub returns-in-BadHead : goal.returns-in-BadHead
returns-in-BadHead c = λ limits bytes more fed all.
    let r = c.args.self.now in
    subst (λ (w : Bool). IsWaiting limits (bytes ++ more) w) (ap (λ (p : Phase). waits_in p r.waits) c.in-BadHead.is)
    (waiting r.phase limits r bytes more fed.stands all)

pub returns-in_default : goal.returns-in_default
returns-in_default c = λ limits bytes more fed all.
    let r = c.args.self.now in
    subst (λ (w : Bool). IsWaiting limits (bytes ++ more) w) (noted r.phase r.waits c.in_default.not-Head c.in_default.not-BadHead)
    (waiting r.phase limits r bytes more fed.stands all)
