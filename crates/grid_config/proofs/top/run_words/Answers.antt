use Rattle.std.proofs.Common.{sym, subst}
use Rattle.grid_config.specs.declared.rows.Mode.{Mode}
use Rattle.grid_config.specs.Servers.{MayServe}
use Rattle.grid_config.proofs.NameLemmas.{node_ends}
use Rattle.grid_config.proofs.top.run_words.Goals as goal

pub returns-in-Hub : goal.returns-in-Hub
returns-in-Hub g c =
    let e = c.hub_main_by.ensures in
    subst (λ (k : Mode). MayServe g.B.Begins.may k c.args.words.now c.hub_main_by.result (g.D.Door.view c.args.door.now) (g.D.Door.view c.hub_main_by.new.door))
    (sym c.in-Hub.is)
    (record {
      closed = e.closed;
      listens = e.listens;
      misfit = e.misfit;
      refuses = e.refuses;
      failed = e.failed;
      ends_later = e.later.0;
      faults_later = e.later.1;
      bound = e.bound;
      host = e.host;
      statuses = e.statuses;
    })

pub returns-in-Node : goal.returns-in-Node
returns-in-Node g c =
    let e = c.node_main.ensures in
    subst (λ (k : Mode). MayServe g.B.Begins.may k c.args.words.now c.node_main.result (g.D.Door.view c.args.door.now) (g.D.Door.view c.node_main.new.door))
    (sym c.in-Node.is)
    (record {
      closed = e.closed;
      listens = e.listens;
      misfit = e.misfit;
      refuses = e.refuses;
      failed = e.failed;
      ends_later = e.later.0;
      faults_later = e.later.1;
      bound = e.bound;
      host = tt;
      statuses = node_ends g.B.Begins.may c.node_main.result e.statuses;
    })
