use Rattle.grid_types.specs.HistoryLaws.{Known}
use Rattle.grid_types.proofs.AppendLemmas.{new-request, place-Bound, place-Cleared, place-Failed, place-Queued, place-Reserved, place-Taken, place-TimedOut}
use Rattle.grid_types.proofs.AskedLemmas.{any-kept, asked-listed, barred-asked, closed, permitted-Queued_room, unsettled-few}
use Rattle.grid_types.proofs.BindingLemmas.{has-bindings}
use Rattle.grid_types.proofs.ChoiceLemmas.{chosen-only}
use Rattle.grid_types.proofs.FreeSlotLemmas.{past-free, registered-known, unlisted-free, unregistered-free}
use Rattle.grid_types.proofs.HeldCountLemmas.{held-Bound, held-Ended, held-Lapsed, held-same}
use Rattle.grid_types.proofs.HeldLemmas.{holds-one, place-held, requests-distinct, taken-settled}
use Rattle.grid_types.proofs.HistoryLemmas.{is_settled-bound}
use Rattle.grid_types.proofs.JournalLemmas.{history-push}
use Rattle.grid_types.proofs.LeastLemmas.{all-at, all-of, has-filter, has-last, least-below, least-same, reduce-least}
use Rattle.grid_types.proofs.LegalLemmas.{bytes_eq-is, bytes_eq-same, legal-before, legal-permitted}
use Rattle.grid_types.proofs.ListLemmas.{all-filter, all-passed, and_left, and_right, distinct-filter, least-all, or_left, or_right}
use Rattle.grid_types.proofs.ListedLemmas.{base-registration, base_up-registered, listed-before, listed-registered, new-node, permitted-Draining, registration-before, turned-within, up-registered}
use Rattle.grid_types.proofs.MapLemmas.{live-Bound, live-Ended, live-Lapsed, live-of, live-running, running-live}
use Rattle.grid_types.proofs.NodeLemmas.{ended-busy, node-below_next, slot-registered, used-slot}
use Rattle.grid_types.proofs.OrderLemmas.{least-none}
use Rattle.grid_types.proofs.PermittedLemmas.{chosen-fits, fits-tells, held-is, last-unsettled, permitted-Bound, permitted-Cleared, permitted-Ended, permitted-Failed, permitted-Freed, permitted-Queued, permitted-Registered, permitted-Reserved, permitted-Taken, permitted-TimedOut, permitted-last, slot_eq-is, slot_eq-same}
use Rattle.grid_types.proofs.QueueLemmas.{total-without, unsettled-Bound, unsettled-Cleared, unsettled-Failed_last, unsettled-Queued, unsettled-Reserved, unsettled-TimedOut, unsettled-same, unsettled_bytes-Queued, unsettled_bytes-without}
use Rattle.grid_types.proofs.RequestLemmas.{reserved-asked, unsettled-parts, waiting-parts, wanted-there}
use Rattle.grid_types.proofs.RunningLemmas.{busy-running, running-of, unsettled-held}
use Rattle.grid_types.proofs.SessionLemmas.{bound-binding, running-before}
use Rattle.grid_types.proofs.CallLemmas.{calls-stay-legal}
use Rattle.grid_types.proofs.GoodLemmas.{calls-give-good}
use Rattle.grid_types.proofs.MoveLemmas.{count-moves, numbered, queue-moves}
use Rattle.grid_types.proofs.SafeLemmas.{legal-safe}
use Rattle.grid_types.proofs.TellLemmas.{tickets-tell-the-same, reservations-tell-the-same}
use Rattle.grid_types.proofs.TokenLemmas.{tickets-stay-good, reservations-stay-good, closings-stay-good}
use Rattle.grid_types.proofs.laws.history_laws.Goals as goal

pub returns : goal.returns
unfolding Known
returns c = record {
  legal-before = legal-before;
  legal-permitted = legal-permitted;
  permitted-Registered = permitted-Registered;
  permitted-Draining = permitted-Draining;
  permitted-Queued = permitted-Queued;
  permitted-Queued_room = permitted-Queued_room;
  permitted-Reserved = permitted-Reserved;
  permitted-Bound = permitted-Bound;
  permitted-Failed = permitted-Failed;
  permitted-last = permitted-last;
  permitted-TimedOut = permitted-TimedOut;
  permitted-Cleared = permitted-Cleared;
  permitted-Taken = permitted-Taken;
  permitted-Ended = permitted-Ended;
  permitted-Freed = permitted-Freed;
  last-unsettled = last-unsettled;
  fits-tells = fits-tells;
  chosen-fits = chosen-fits;
  chosen-only = chosen-only;
  wanted-there = wanted-there;
  base-registration = base-registration;
  base_up-registered = base_up-registered;
  up-registered = up-registered;
  registered-known = registered-known;
  registration-before = registration-before;
  new-node = new-node;
  node-below_next = node-below_next;
  listed-before = listed-before;
  listed-registered = listed-registered;
  turned-within = turned-within;
  slot-registered = slot-registered;
  used-slot = used-slot;
  held-is = held-is;
  unlisted-free = unlisted-free;
  unregistered-free = unregistered-free;
  past-free = past-free;
  held-same = held-same;
  held-Bound = held-Bound;
  held-Ended = held-Ended;
  held-Lapsed = held-Lapsed;
  asked-listed = asked-listed;
  barred-asked = barred-asked;
  reserved-asked = reserved-asked;
  requests-distinct = requests-distinct;
  new-request = new-request;
  holds-one = holds-one;
  place-held = place-held;
  taken-settled = taken-settled;
  closed = closed;
  is_settled-bound = is_settled-bound;
  unsettled-held = unsettled-held;
  unsettled-parts = unsettled-parts;
  waiting-parts = waiting-parts;
  place-Queued = place-Queued;
  place-Reserved = place-Reserved;
  place-Bound = place-Bound;
  place-Failed = place-Failed;
  place-TimedOut = place-TimedOut;
  place-Cleared = place-Cleared;
  place-Taken = place-Taken;
  unsettled-few = unsettled-few;
  unsettled-same = unsettled-same;
  unsettled-Queued = unsettled-Queued;
  unsettled-Reserved = unsettled-Reserved;
  unsettled-Bound = unsettled-Bound;
  unsettled-Failed_last = unsettled-Failed_last;
  unsettled-TimedOut = unsettled-TimedOut;
  unsettled-Cleared = unsettled-Cleared;
  unsettled_bytes-Queued = unsettled_bytes-Queued;
  unsettled_bytes-without = unsettled_bytes-without;
  has-bindings = has-bindings;
  bound-binding = bound-binding;
  running-before = running-before;
  running-of = running-of;
  busy-running = busy-running;
  ended-busy = ended-busy;
  live-of = live-of;
  live-running = live-running;
  running-live = running-live;
  live-Bound = live-Bound;
  live-Ended = live-Ended;
  live-Lapsed = live-Lapsed;
  slot_eq-is = slot_eq-is;
  slot_eq-same = slot_eq-same;
  bytes_eq-is = bytes_eq-is;
  bytes_eq-same = bytes_eq-same;
  history-push = history-push;
  has-filter = has-filter;
  has-last = has-last;
  any-kept = any-kept;
  reduce-least = reduce-least;
  least-same = least-same;
  least-below = least-below;
  least-none = least-none;
  least-all = least-all;
  all-filter = all-filter;
  all-passed = all-passed;
  distinct-filter = distinct-filter;
  total-without = total-without;
  and_left = and_left;
  and_right = and_right;
  or_left = or_left;
  or_right = or_right;
  all-at = all-at;
  all-of = all-of;
  numbered = numbered;
  count-moves = count-moves;
  queue-moves = queue-moves;
  legal-safe = legal-safe;
  calls-stay-legal = calls-stay-legal;
  calls-give-good = calls-give-good;
  tickets-stay-good = tickets-stay-good;
  reservations-stay-good = reservations-stay-good;
  closings-stay-good = closings-stay-good;
  tickets-tell-the-same = tickets-tell-the-same;
  reservations-tell-the-same = reservations-tell-the-same;
}
