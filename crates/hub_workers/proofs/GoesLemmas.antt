-- How what the pass of a crew knows goes on.
use Rattle.std.proofs.Common.{◌≡◌, ℕ, refl, sym, ap, subst, ◌∙◌, append-nil, arith}
use Rattle.std.specs.Prelude.{Ok, Err}
use mathlib.Core.List.{IsPrefix}
use Rattle.grid_types.specs.declared.spent.Spent.{Spent}
use Rattle.turn_cell.specs.Steps.{looked_once, merged, opened_at}
use Rattle.hub_cell.specs.declared.hub.Pass.{Pass}
use Rattle.hub_cell.specs.declared.hub.SharedHub.{SharedHub}
use Rattle.hub_cell.specs.Passes.{IsOf, IsSpent, knows}
use Rattle.hub_cell.specs.Shared.{KeepsAll, LooksOnce}
use Rattle.hub_workers.specs.World.{Knowledge}
use Rattle.hub_workers.specs.declared.tools.CrewFault.TheVariants as fault
use Rattle.hub_workers.specs.Hands.{GoesOn, IsSplitOff}
use Rattle.hub_workers.proofs.ListLemmas.{prefix_self, prefix_trans}

pub goes_not : (v : Knowledge) → GoesOn v v
goes_not v = record {
  number = refl;
  mine = refl;
  longer = prefix_self v.seen;
  keeps = record { tickets = λ t has e. has; reservations = λ t has e. has; closings = λ t has e. has };
}

pub goes_both : (u v w : Knowledge) → GoesOn u v → GoesOn v w → GoesOn u w
goes_both u v w a b = record {
  number = b.number ∙ a.number;
  mine = b.mine ∙ a.mine;
  longer = prefix_trans u.seen v.seen w.seen a.longer b.longer;
  keeps = record {
    tickets = λ t has e. b.keeps.tickets t (a.keeps.tickets t has refl) refl;
    reservations = λ t has e. b.keeps.reservations t (a.keeps.reservations t has refl) refl;
    closings = λ t has e. b.keeps.closings t (a.keeps.closings t has refl) refl;
  };
}

-- a turn without an entry
pub goes_looking : (old new : Knowledge) → LooksOnce old new → GoesOn old new
goes_looking old new l = record {
  number = ap (λ (v : Knowledge). v.number) l.turn.goes;
  mine = ap (λ (v : Knowledge). v.mine) l.turn.goes ∙ append-nil old.mine;
  longer = (l.turn.begins.0, l.turn.begins.1 ∙ sym (ap (λ (v : Knowledge). v.seen) l.turn.goes ∙ append-nil l.point));
  keeps = l.keeps;
}

-- a look that found the hub spent
pub goes_spent : (old new : Knowledge) → new ≡ looked_once old → GoesOn old new
goes_spent old new is = subst (λ (v : Knowledge). GoesOn old v) (sym is) (record {
  number = refl;
  mine = refl;
  longer = prefix_self old.seen;
  keeps = record { tickets = λ t has e. has; reservations = λ t has e. has; closings = λ t has e. has };
})

pub goes_joining : (old other new : Knowledge) → new ≡ merged old other → IsPrefix old.seen new.seen → KeepsAll old new → GoesOn old new
goes_joining old other new is longer keeps = record {
  number = ap (λ (v : Knowledge). v.number) is;
  mine = ap (λ (v : Knowledge). v.mine) is;
  longer = longer;
  keeps = keeps;
}

module _ (hub : SharedHub) (old new : Knowledge) where
  pub split_ok : (p : Pass) (n : ℕ) → LooksOnce old new → IsOf hub p → knows p ≡ opened_at n new → IsSplitOff hub old (Ok p) new
  split_ok p n l own is =
      let goes = goes_looking old new l in record {
        goes = goes;
        ended = ap (λ (v : Knowledge). v.ended) l.turn.goes;
        spent = ap (λ (v : Knowledge). v.spent) l.turn.goes;
        fresh = (
          own,
          record {
            mine = ap (λ (v : Knowledge). v.mine) is;
            points = ap (λ (v : Knowledge). v.points) is;
            spent = ap (λ (v : Knowledge). v.spent) is;
            ended = ap (λ (v : Knowledge). v.ended) is;
          },
          (goes.longer.0, goes.longer.1 ∙ sym (ap (λ (v : Knowledge). v.seen) is)),
        );
      }

  pub split_lacks : LooksOnce old new → IsSplitOff hub old (Err fault.Memory) new
  split_lacks l = record {
    goes = goes_looking old new l;
    ended = ap (λ (v : Knowledge). v.ended) l.turn.goes;
    spent = ap (λ (v : Knowledge). v.spent) l.turn.goes;
    fresh = tt;
  }

  pub split_spent : (s : Spent) → IsSpent hub old s new → IsSplitOff hub old (Err (fault.Spent s)) new
  split_spent s is =
      let one = ap (λ (v : Knowledge). v.spent) is.1 in record {
        goes = goes_spent old new is.1;
        ended = ap (λ (v : Knowledge). v.ended) is.1;
        spent = omega (arith, one);
        fresh = tt;
      }
