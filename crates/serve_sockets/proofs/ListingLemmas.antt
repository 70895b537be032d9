-- Which requests ask for a list.
use Rattle.std.{proofs.Common.{◌≡◌, ℕ, List, Option, None, Some, Ok, sym}, specs.Prelude.IfSome}
use Rattle.serve_sockets.specs.{Prelude.{Event, IsEvent}, Listing.{AsksForList, list_bearer}}

-- the octets of an event ask for a list with the token that the event has
pub asks_by : (octets : List ℕ) (what : Event) (found : Option (List ℕ)) → IsEvent octets (Ok what) → found ≡ list_bearer what → IfSome found (AsksForList octets)
asks_by octets what None event same = tt
asks_by octets what (Some digest) event same = record { what = what; event = event; bearer = sym same }
