use Rattle.std.proofs.Common.{rules, ◌≡◌, ℕ, ◌<◌, ◌++◌, List, [], ◌∷◌, length, sym, subst, ◌∙◌}
use Rattle.std.specs.Vec.{vec_len}
use Rattle.map_view.specs.declared.sheet.Row.{Row}
use Rattle.map_view.specs.Racks.{IsRack, Places, times}
use Rattle.map_view.proofs.RackLemmas.{empty, last-stands, renewed, reused}
use Rattle.map_view.proofs.rack.place_for.Goals as goal

pub index_mut-requires : goal.index_mut-requires
index_mut-requires c =
    let long : vec_len c.args.rows.now ≡ length c.args.rows.now.items = search rules in
    subst (λ (n : ℕ). c.in-Some.place < n) (sym long)
    (c.requires.inside c.in-Some.place (subst (λ (z : List ℕ). 0 < times c.in-Some.place z) (sym c.in-Some.ensures.items) (last-stands c.in-Some.place c.pop.new.self.items)))

pub returns-in-Some-clause-places : goal.returns-in-Some-clause-places
returns-in-Some-clause-places c order r =
    reused c.args.rows.now.items order c.pop.new.self.items c.in-Some.place c.args.row (subst (λ (z : List ℕ). IsRack c.args.rows.now.items order z) c.in-Some.ensures.items r)

pub returns-in-None-clause-places : goal.returns-in-None-clause-places
returns-in-None-clause-places c order r =
    let rows = c.args.rows.now.items in
    let was-long : length c.args.free.now.items ≡ vec_len c.args.free.now = search rules in
    let now-long : length c.pop.new.self.items ≡ vec_len c.pop.new.self = search rules in
    let was : c.args.free.now.items ≡ [] = empty c.args.free.now.items (was-long ∙ c.in-None.ensures.cases.0) in
    let now : c.pop.new.self.items ≡ [] = empty c.pop.new.self.items (now-long ∙ c.in-None.ensures.cases.1) in
    let made : Places rows (rows ++ c.args.row ∷ []) order (length rows) c.args.row [] = renewed rows order c.args.row (subst (λ (z : List ℕ). IsRack rows order z) was r) in
    let there = subst (λ (z : List Row). Places rows z order (length rows) c.args.row []) (sym c.push_reserved.ensures.items) made in
    let at : c.len-place.result ≡ length rows = search rules in
    let placed = subst (λ (n : ℕ). Places rows c.push_reserved.new.self.items order n c.args.row []) (sym at) there in
    subst (λ (z : List ℕ). Places rows c.push_reserved.new.self.items order c.len-place.result c.args.row z) (sym now) placed
