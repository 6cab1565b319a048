use Rattle.trial_threads.proofs.clients.find_joined.Goals as goal

pub join-requires : goal.join-requires
join-requires g c = record { own = (c.start.ensures, c.in-Ok.ensures.split.0) }
