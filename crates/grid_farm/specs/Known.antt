-- What the code knows of a farm.
use Rattle.grid_log.specs.Recalls.{recalled}
use Rattle.grid_farm.specs.declared.farm.KnownFarm.{KnownFarm}
use Rattle.grid_farm.specs.declared.hour.LastHour.{LastHour}
use Rattle.grid_farm.specs.Farms.{Farm}
use Rattle.grid_farm.specs.Hours.{Hour}

abbrev pub told_hour : LastHour → Hour
told_hour hour = record { last = hour.last; earlier = hour.earlier.items }

abbrev pub known : KnownFarm → Farm
known farm = record {
  past = recalled farm.past;
  uses = farm.uses.items;
  draining = farm.draining.items;
  counts = farm.counts;
  at = farm.at;
  hour = told_hour farm.hour;
}
