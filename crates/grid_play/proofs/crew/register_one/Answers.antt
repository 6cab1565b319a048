use Rattle.grid_play.proofs.CrewLemmas.{joined_one, ok_more}
use Rattle.grid_play.proofs.crew.register_one.Goals as goal

pub registration_of-requires-clause-least : goal.registration_of-requires-clause-least
registration_of-requires-clause-least c = c.requires.fit.least

pub registration_of-requires-clause-most : goal.registration_of-requires-clause-most
registration_of-requires-clause-most c = c.requires.fit.most

pub returns-clause-joins : goal.returns-clause-joins
returns-clause-joins c =
    ok_more c.add_number.result
    (λ e. joined_one c.args.hub.now.config c.args.i c.args.node.now c.args.hub.now c.register.new.hub c.args.nodes.now c.add.new.nodes c.args.numbers.now.items c.add_number.new.numbers.items
    c.in_ok-registration.registration c.in_ok-reached.reached c.in_ok-registration.ensures.is c.in_ok-reached.ensures c.in_ok-register.ensures.goes_on c.in_ok-add.ensures e)
    c.add_number.ensures
