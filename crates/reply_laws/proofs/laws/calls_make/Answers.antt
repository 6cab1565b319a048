use Rattle.reply_laws.proofs.MadeLemmas.{register_makes, beat_makes, drain_makes, remove_makes, enqueue_makes, poll_makes, withdraw_makes, dispatch_makes, touch_makes, end_makes, freed_makes, expire_makes}
use Rattle.reply_laws.proofs.StartLemmas.{bind_makes, fail_makes}
use Rattle.reply_laws.proofs.laws.calls_make.Goals as goal

pub returns : goal.returns
returns c =
    let proved = c.history_laws.ensures in
    record {
      register = register_makes;
      beat = beat_makes;
      drain = drain_makes;
      remove = remove_makes;
      enqueue = enqueue_makes;
      poll = poll_makes proved;
      withdraw = withdraw_makes;
      dispatch = dispatch_makes proved;
      bind = bind_makes;
      fail = fail_makes;
      touch = touch_makes;
      end_of = end_makes;
      freed = freed_makes;
      expire = expire_makes;
    }
