use Rattle.std.proofs.Common.{refl}
use Rattle.hub_conn.proofs.TalkLemmas.{new_talk}
use Rattle.hub_conn.proofs.talk.Talk.new.Goals as goal

pub returns : goal.returns
returns c =
    new_talk _ (λ limits h x. c.one_head.ensures.none limits h x) (λ limits some. c.one_head.ensures.nothing limits some) refl refl refl refl refl refl c.new.ensures.holds c.new.ensures.read
