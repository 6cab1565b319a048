use Rattle.std.proofs.Common.{◌++◌, refl}
use Rattle.std.specs.Prelude.{Err}
use Rattle.conn_script.specs.declared.wants.ConnFault.TheVariants as faults
use Rattle.hub_conn.proofs.FeedLemmas.{reading_some, reading_all, feeds_came, feeds_came_broke}
use Rattle.hub_conn.proofs.StateLemmas.{done_settles}
use Rattle.hub_conn.proofs.WorkLemmas.{came_less}
use Rattle.hub_conn.proofs.talk.Talk.came.Goals as goal

pub add-requires-clause-read : goal.add-requires-clause-read
add-requires-clause-read c = reading_all c.args.self.now c.requires.reading c.requires.stands

pub add-requires-clause-holds : goal.add-requires-clause-holds
add-requires-clause-holds c = let h = reading_some c.args.self.now c.requires.reading c.requires.stands in (h.0, h.1)

pub look-requires : goal.look-requires
look-requires c = let h = reading_some c.args.self.now c.requires.reading c.requires.stands in (h.0 ++ c.args.piece.now, c.in-Ok.ensures.holds h.0 h.1)

pub returns-in-Ok : goal.returns-in-Ok
returns-in-Ok c =
    feeds_came (λ limits buf more h parts behind x. c.stays.ensures.whole limits buf more h parts behind x) (λ limits buf h k x y. c.one_head.ensures.one limits buf h k x y)
    (λ limits buf more h x. c.one_head.ensures.stays limits buf more h x) c.args.self.now _ c.look.new.self c.args.piece c.requires.reading c.look.ensures.settles
    (λ own bytes steps written x. c.look.ensures.looks own bytes steps written x) (λ rest x. c.in-Ok.ensures.holds rest x) refl refl refl refl refl c.requires.room
    (came_less c.args.self.now c.look.new.self c.args.piece c.args.self.now.continued c.requires.reading c.requires.room c.look.ensures.less)

pub returns-in-Err : goal.returns-in-Err
returns-in-Err c =
    feeds_came_broke (λ limits buf more h parts behind x. c.stays.ensures.whole limits buf more h parts behind x) (λ limits buf h k x y. c.one_head.ensures.one limits buf h k x y)
    (λ limits buf more h x. c.one_head.ensures.stays limits buf more h x) c.args.self.now c.fail.new.self c.args.piece c.requires.reading c.in-Err.ensures.some
    (done_settles c.fail.new.self (Err faults.Memory) c.fail.ensures) c.fail.ensures
