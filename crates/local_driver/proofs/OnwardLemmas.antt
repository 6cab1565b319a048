-- How all outside goes on, by one turn and by turns one after the other.
use Rattle.std.proofs.Common.{ℕ, List, [], ◌++◌}
use Rattle.grid_outside.specs.Told.{LinkView, Tick}
use Rattle.grid_outside.specs.declared.exchange.Ask.{Ask}
use Rattle.grid_outside.specs.Exchanges.{Came}
use Rattle.node_client.specs.Steps.{Step}
use Rattle.hub_links.specs.Links.{Moved}
use Rattle.hub_links.specs.LinkLaws.{moved_more, moved_none}
use Rattle.local_driver.specs.World.{Went, World}
use Rattle.local_driver.specs.Served.{Onward, Outside, outside_of}
use Rattle.local_driver.proofs.WayLemmas.{went_more, went_none}

module _ {N C : Type 0} (gives : N → List ℕ → Ask → Came → N → Type 0) (tells : C → Tick → ℕ → C → Type 0) where
  pub onward_none : (o : Outside N C) → Onward gives tells o [] [] [] o
  onward_none o = record { went = went_none gives tells o.world; moved = moved_none o.link }

  pub onward_more : (o p q : Outside N C) (bytes more : List ℕ) (steps onward : List Step) (written again : List ℕ) →
      Onward gives tells o bytes steps written p → Onward gives tells p more onward again q → Onward gives tells o (bytes ++ more) (steps ++ onward) (written ++ again) q
  onward_more o p q bytes more steps onward written again h k = record {
    went = went_more gives tells o.world p.world q.world steps onward h.went k.went;
    moved = moved_more o.link p.link q.link bytes more written again h.moved k.moved;
  }

  -- the link alone, or all but the link
  pub onward_link : (w : World N C) (l m : LinkView) (bytes written : List ℕ) → Moved l bytes written m → Onward gives tells (outside_of w l) bytes [] written (outside_of w m)
  onward_link w l m bytes written moved = record { went = went_none gives tells w; moved = moved }

  pub onward_world : (v w : World N C) (l : LinkView) (steps : List Step) → Went gives tells v steps w → Onward gives tells (outside_of v l) [] steps [] (outside_of w l)
  onward_world v w l steps went = record { went = went; moved = moved_none l }
