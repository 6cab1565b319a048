-- What holds where a call finds no memory before it is made.
use Rattle.std.specs.Prelude.{◌≡◌, ℕ, true, List, None, Ok}
use Rattle.grid_types.specs.Calls.{Call, Reply}
use Rattle.hub_core.specs.declared.hub.HubCore.{HubCore}
use Rattle.hub_core.specs.Answers.{may_lack}
use Rattle.hub_core.specs.CoreStands.{CoreServes}
use Rattle.hub_tellers.specs.Records.{TellsCall}

-- Such a call, made of a core that stays as it is, is answered so, and what was told stays as it is.
abbrev pub LacksAlone : Type 0
LacksAlone = (core : HubCore) (caller : ℕ) (call : Call) (at : ℕ) (told : List ℕ) →
    ((reply : Reply) → may_lack call reply ≡ true) →
    CoreServes core core caller call at None × TellsCall core caller call at None told told (Ok tt)
