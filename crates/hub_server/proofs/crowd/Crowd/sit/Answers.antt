use Rattle.hub_server.proofs.crowd.Crowd.sit.Goals as goal

pub returns : goal.returns
returns g c =
    let hub = c.args.desk.now.hub.now in
    let crowd = c.free_pass.ensures.crowd in
    let seat = c.new-seat in
    let stayed = c.stay.ensures hub c.free_pass.new.self.clock seat.new.clock seat.ensures.asked crowd.seated in
    record {
      seated = c.sit.ensures.seated hub seat.new.clock stayed (seat.ensures.seated hub c.in-Some.ensures.pass);
      root = crowd.root;
      reader = crowd.reader;
      passes = crowd.passes;
    }
