use Rattle.std.proofs.Common.{refl}
use Rattle.hub_conn.proofs.GoLemmas.{undone_done, undone_stands, goes_when_left}
use Rattle.hub_conn.proofs.StateLemmas.{undone_settles, undoing_settles}
use Rattle.hub_conn.proofs.WorkLemmas.{undone_leaves, undoing_leaves}
use Rattle.hub_conn.proofs.talk.Talk.undone.Goals as goal

pub returns-in-Over-clause-undone : goal.returns-in-Over-clause-undone
returns-in-Over-clause-undone c = undone_done c.fail.new.self c.args.fault c.args.undoing c.in-Over.is c.fail.ensures

pub returns-in-Over-clause-settles : goal.returns-in-Over-clause-settles
returns-in-Over-clause-settles c = undone_settles c.fail.new.self c.args.fault c.args.undoing c.in-Over.is c.fail.ensures

pub returns-in-Over-clause-less : goal.returns-in-Over-clause-less
returns-in-Over-clause-less c = undone_leaves c.fail.new.self c.args.fault c.args.undoing c.fail.ensures

pub returns-in_default : goal.returns-in_default
returns-in_default c = record {
  undone = undone_stands _ c.args.fault c.args.undoing c.in_default.not-Over refl;
  settles = undoing_settles _ c.args.fault c.args.undoing refl (goes_when_left c.args.undoing c.in_default.not-Over c.requires);
  less = undoing_leaves _ c.args.fault c.args.undoing refl;
}
