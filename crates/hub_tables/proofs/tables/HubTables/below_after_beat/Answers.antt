use Rattle.std.proofs.Common.{◌≡◌, ◌∙◌, true, false, refl, sym}
use Rattle.grid_types.specs.Nodes.{is_suspect}
use Rattle.hub_tables.proofs.tables.HubTables.below_after_beat.Goals as goal

pub returns-then-is_suspect : goal.returns-then-is_suspect
returns-then-is_suspect c = record {
  of = λ d H s l. let told : is_suspect H c.args.node ≡ true = sym (c.is_suspect.ensures.of d H s.nodes_stand l) ∙ c.if-is_suspect.true in rw told refl;
}

pub returns-else-is_suspect : goal.returns-else-is_suspect
returns-else-is_suspect c = record {
  of = λ d H s l. let told : is_suspect H c.args.node ≡ false = sym (c.is_suspect.ensures.of d H s.nodes_stand l) ∙ c.if-is_suspect.false in rw told refl;
}
