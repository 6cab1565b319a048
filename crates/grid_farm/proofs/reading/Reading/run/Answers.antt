use Rattle.grid_farm.proofs.reading.Reading.run.Goals as goal

pub returns-in-Some : goal.returns-in-Some
returns-in-Some g c = λ old s. c.in-Some.ensures.goes old (c.entries.invariant old s)
