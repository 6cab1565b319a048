use Rattle.std.proofs.Common.{refl}
use Rattle.http_frames.proofs.StayLemmas.{stays_so}
use Rattle.http_frames.proofs.reader.FrameReader.shrink.Goals as goal

pub returns-clause-stays : goal.returns-clause-stays
returns-clause-stays c =
    stays_so c.args.self.now _
    (record {
      limits_are = refl;
      phase_is = refl;
      waits_is = refl;
      head_is = c.give_back.ensures.same;
      body_is = c.give_back-2.ensures.same;
      line_is = c.give_back-3.ensures.same;
    }) refl
