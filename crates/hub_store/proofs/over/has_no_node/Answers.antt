use Rattle.std.proofs.Common.{ap, sym, ◌∙◌, arith}
use Rattle.grid_types.specs.declared.config.HubConfig.{HubConfig}
use Rattle.hub_store.proofs.OpenLemmas.{no_node, one_more}
use Rattle.hub_store.proofs.over.has_no_node.Goals as goal

pub loop-node-init : goal.loop-node-init
loop-node-init c = record { of = λ H s n least below. absurd (omega (arith, least, below)) }

pub loop-node-preserved : goal.loop-node-preserved
loop-node-preserved c = record {
  of = λ H s. one_more H c.config-first.result.first_node c.loop-node.node (sym (c.is_listed.ensures.of H s) ∙ c.if-is_listed.false) (c.loop-node.invariant.of H s);
}

pub returns-clause-none : goal.returns-clause-none
returns-clause-none c = λ yes. record {
  of = λ H s. no_node c.history_laws.ensures c.args.ledger.now.config H s.is_legal
      (λ n least below. c.loop-node.invariant.of H s n (omega (arith, least, ap (λ (d : HubConfig). d.first_node) c.config-first.ensures)) (omega (arith, below, c.next_node-next.ensures.of H s, c.loop-node-test.false)));
}
