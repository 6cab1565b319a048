-- A start that is not over wants something.
use Rattle.std.proofs.Common.{◌≢◌, refl}
use Rattle.node_client.specs.declared.wants.CarryEnd.{CarryEnd}
use Rattle.node_client.specs.declared.wants.CarryWant.{CarryWant}
use Rattle.node_client.specs.declared.wants.CarryWant.TheVariants as wants
use Rattle.node_client.specs.Places as places
use Rattle.node_client.specs.Places.{Shows}
use Rattle.conn_script.specs.Wanted.{Wanted, to_call, to_ask}
use Rattle.conn_script.specs.Creating.{want_of}

pub open_want : (want : CarryWant) (w : places.Wanted) → Shows want w → ((e : CarryEnd) → want ≢ wants.Done e) → (v : Wanted) × want_of w v
open_want want (places.to_ask address ask) h n = (to_ask address ask, refl)
open_want want (places.to_call call) h n = (to_call call, refl)
open_want (wants.Node address request) (places.over e) h n = absurd (cc)
open_want wants.Bind (places.over e) h n = absurd h
open_want wants.Fail (places.over e) h n = absurd h
open_want wants.Freed (places.over e) h n = absurd h
open_want (wants.Done d) (places.over e) h n = absurd (n d refl)
