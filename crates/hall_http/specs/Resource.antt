-- What a request's target names, in the words of `matchit`.
use Rattle.std.specs.Prelude.{◌≡◌, ◌≢◌, false, ℕ, List, [], ◌∷◌, codes, fold, Option, Some, None, Result, Ok, Err}
use Rattle.hall_http.specs.{Prelude.{RowsOf, Scan, parse_route, placed, RouteOf, route_from, first, has_slash, InsertError}, declared.resource.Resource.{Resource, TheVariants.{Script, Report, Orders, Order, Machines, Machine, Commands}}}

-- the hall's routes, each with what it leads to
abbrev pub route_table : List (List ℕ × Resource)
route_table =
    (codes "/ipxe/{mac}", Script)
    ∷ (codes "/report/{number}/{token}", Report)
    ∷ (codes "/orders", Orders)
    ∷ (codes "/orders/{number}", Order)
    ∷ (codes "/machines", Machines)
    ∷ (codes "/machines/{id}", Machine)
    ∷ (codes "/commands", Commands)
    ∷ []

-- with one route more, where its text is one of a route
abbrev pub with_scan : Result Scan InsertError → Resource → RowsOf (RouteOf Resource) → RowsOf (RouteOf Resource)
with_scan (Ok scan) resource rows = placed ((route_from scan resource).pattern, route_from scan resource) rows
with_scan (Err error) resource rows = rows

abbrev pub with_route : RowsOf (RouteOf Resource) → List ℕ × Resource → RowsOf (RouteOf Resource)
with_route rows route = with_scan (parse_route route.0) route.1 rows

-- the router of these routes
unfoldable pub routes : RowsOf (RouteOf Resource)
routes = fold with_route [] route_table

abbrev pub value_of : Option (RouteOf Resource) → Option Resource
value_of None = None
value_of (Some route) = Some route.value

-- what a target names, if it has a route
abbrev pub resource_of : List ℕ → Option Resource
resource_of target = value_of (first routes target)

-- the one method that a resource has
abbrev pub method_of : Resource → List ℕ
method_of Report = codes "POST"
method_of Order = codes "POST"
method_of Commands = codes "POST"
method_of other = codes "GET"

-- a segment of a target: it isn't empty and has no slash
pub record IsSegment (text : List ℕ) : Type 0 where
  pub some : text ≢ []
  pub one : has_slash text ≡ false
