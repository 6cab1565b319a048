use Rattle.std.proofs.Common.{arith}
use Rattle.std.specs.Prelude.{Ok}
use Rattle.conn_script.specs.declared.wants.End.TheVariants as ends
use Rattle.hub_conn.proofs.FeedLemmas.{feeds_closed, feeds_cut}
use Rattle.hub_conn.proofs.StateLemmas.{done_settles}
use Rattle.hub_conn.proofs.talk.Talk.end_of_input.Goals as goal

pub returns-then-self : goal.returns-then-self
returns-then-self c =
    let old = c.args.self.now in
    feeds_closed (λ limits buf h parts behind x. c.stays.ensures.some limits buf h parts behind x) (λ limits h x. c.one_head.ensures.none limits h x)
    old c.end_so.new.self c.requires.reading
    (done_settles c.end_so.new.self (Ok (record { frames = old.frames; end = ends.Closed; short = old.short })) c.end_so.ensures)
    (omega (arith, c.if-self.true)) c.end_so.ensures

pub returns-else-self : goal.returns-else-self
returns-else-self c =
    let old = c.args.self.now in
    feeds_cut (λ limits buf h parts behind x. c.stays.ensures.some limits buf h parts behind x)
    old c.end_so-else-self.new.self c.requires.reading
    (done_settles c.end_so-else-self.new.self (Ok (record { frames = old.frames; end = ends.Cut old.begins; short = old.short })) c.end_so-else-self.ensures)
    (λ e. omega (arith, e, c.if-self.false)) c.end_so-else-self.ensures
