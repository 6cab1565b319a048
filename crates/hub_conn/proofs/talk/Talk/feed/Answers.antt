use Rattle.std.proofs.Common.{subst}
use Rattle.conn_script.specs.declared.wants.Answer.{Answer}
use Rattle.conn_script.specs.declared.wants.Answer.TheVariants as told
use Rattle.conn_script.specs.Wanted.{IsAwaited}
use Rattle.hub_conn.specs.Talk.{awaited}
use Rattle.hub_conn.proofs.AwaitLemmas.{reading_only}
use Rattle.hub_conn.proofs.FeedLemmas.{piece_fits, piece_room}
use Rattle.hub_conn.proofs.talk.Talk.feed.Goals as goal

pub came-requires-clause-reading : goal.came-requires-clause-reading
came-requires-clause-reading c =
    reading_only c.args.self.now (told.Bytes c.in-Bytes.piece) tt (subst (λ (a : Answer). IsAwaited a (awaited c.args.self.now)) c.in-Bytes.is c.requires.awaits)

pub came-requires-clause-fits : goal.came-requires-clause-fits
came-requires-clause-fits c =
    piece_fits c.args.self.now c.in-Bytes.piece (subst (λ (a : Answer). IsAwaited a (awaited c.args.self.now)) c.in-Bytes.is c.requires.awaits)

pub came-requires-clause-room : goal.came-requires-clause-room
came-requires-clause-room c =
    piece_room c.args.self.now c.in-Bytes.piece (subst (λ (a : Answer). IsAwaited a (awaited c.args.self.now)) c.in-Bytes.is c.requires.awaits) c.requires.stands
