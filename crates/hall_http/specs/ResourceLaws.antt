-- Laws of targets, for the proofs of callers: what the router finds for those that are asked for most.
use Rattle.std.{proofs.Common.{◌≡◌, ◌⊎◌, ◌-◌, ◌++◌, ℕ, zero, suc, Bool, true, false, List, [], ◌∷◌, length, Option, Some, None, refl, ap, arith, ◌∙◌, inl, inr}, specs.Prelude.{codes, cond, ◌==◌}}
use Rattle.matchit.{specs.Seek.{seek, param_step}, proofs.OnLiterals.matchit_on_literals}
use Rattle.hall_http.specs.{Prelude.{RowsOf, param_token, catch_all_token, has_slash, or_else, own, step, RouteOf}, declared.resource.Resource.{Resource, TheVariants.{Script, Orders, Order, Machines, Machine, Commands}}, Resource.{routes, resource_of, value_of, IsSegment}}

module _ {K : Type 0} where
  abbrev no_rows : RowsOf K
  no_rows = []

  abbrev ended : K → RowsOf K
  ended key = ([], key) ∷ []

  among_none : (slash : Bool) (path : List ℕ) (n : ℕ) → ((k : ℕ) → seek k no_rows path ≡ None)
      → or_else (seek 0 no_rows path) (or_else (seek ((cond {A = ℕ × RowsOf K} slash (0, no_rows) (n, no_rows)).0 - 1) (cond {A = ℕ × RowsOf K} slash (0, no_rows) (n, no_rows)).1 path) None) ≡ None
  among_none true path n none =
      ap (λ (x : Option K). or_else x (or_else (seek (0 - 1) no_rows path) None)) (none 0) ∙ ap (λ (x : Option K). or_else x None) (none (0 - 1))
  among_none false path n none =
      ap (λ (x : Option K). or_else x (or_else (seek (n - 1) no_rows path) None)) (none 0) ∙ ap (λ (x : Option K). or_else x None) (none (n - 1))

  -- nothing is found among no rows
  seek_none : (n : ℕ) (path : List ℕ) → seek n no_rows path ≡ None
  unfolding seek param_step
  seek_none n [] = refl
  seek_none (suc n) (b ∷ path) = seek_none n path
  seek_none zero (b ∷ path) = among_none (has_slash (b ∷ path)) path (length (b ∷ path)) (λ k. seek_none k path)

  -- all of a path is passed over
  seek_all : (key : K) (path : List ℕ) → seek (length path) (ended key) path ≡ Some key
  unfolding seek
  seek_all key [] = refl
  seek_all key (b ∷ path) = seek_all key path

  -- a route that has ended is found at the end of a path alone
  at_end : (key : K) (path : List ℕ) → (seek 0 (ended key) path ≡ None) ⊎ (seek 0 (ended key) path ≡ Some key)
  unfolding seek param_step
  at_end key [] = inr refl
  at_end key (b ∷ path) = inl (among_none (has_slash (b ∷ path)) path (length (b ∷ path)) (λ k. seek_none k path))

  by_token : (key : K) (path : List ℕ) (same : Bool) → (seek 0 (cond same (ended key) no_rows) path ≡ None) ⊎ (seek 0 (cond same (ended key) no_rows) path ≡ Some key)
  by_token key path true = at_end key path
  by_token key path false = inl (seek_none 0 path)

  by_param : (key : K) (path : List ℕ) (n : ℕ) → n - 1 ≡ length path → (slash : Bool) → slash ≡ false → (here : Option K) → (here ≡ None) ⊎ (here ≡ Some key)
      → or_else here (or_else (seek ((cond {A = ℕ × RowsOf K} slash (0, no_rows) (n, ended key)).0 - 1) (cond {A = ℕ × RowsOf K} slash (0, no_rows) (n, ended key)).1 path) None) ≡ Some key
  by_param key path n size true e here found = absurd cc
  by_param key path n size false e here (inl none) =
      ap (λ (x : Option K). or_else x (or_else (seek (n - 1) (ended key) path) None)) none
      ∙ ap (λ (k : ℕ). or_else (seek k (ended key) path) None) size
      ∙ ap (λ (x : Option K). or_else x None) (seek_all key path)
  by_param key path n size false e here (inr found) = ap (λ (x : Option K). or_else x (or_else (seek (n - 1) (ended key) path) None)) found

  -- a parameter at the end of a route takes a segment
  last_param : (key : K) (tail : List ℕ) → IsSegment tail → seek 0 ((param_token ∷ [], key) ∷ []) tail ≡ Some key
  unfolding seek param_step
  last_param key [] h = absurd (h.some refl)
  last_param key (b ∷ path) h =
      by_param key path (length (b ∷ path)) (omega arith) (has_slash (b ∷ path)) h.one (seek 0 (cond (param_token == b) (ended key) no_rows) path) (by_token key path (param_token == b))

  -- a route's octet that stands in the path
  goes_on : (key : K) (rs : RowsOf K) (b : ℕ) (path : List ℕ) → seek 0 (step b rs) path ≡ Some key → seek 0 rs (b ∷ path) ≡ Some key
  unfolding seek
  goes_on key rs b path found =
      ap (λ (x : Option K). or_else x (or_else (seek ((param_step (step param_token rs) (b ∷ path)).0 - 1) (param_step (step param_token rs) (b ∷ path)).1 path) (own (step catch_all_token rs)))) found

  -- likewise of several octets
  abbrev after : List ℕ → RowsOf K → RowsOf K
  after [] rs = rs
  after (b ∷ front) rs = after front (step b rs)

  goes_along : (key : K) (front : List ℕ) (rs : RowsOf K) (path : List ℕ) → seek 0 (after front rs) path ≡ Some key → seek 0 rs (front ++ path) ≡ Some key
  goes_along key [] rs path found = found
  goes_along key (b ∷ front) rs path found = goes_on key rs b (front ++ path) (goes_along key front (step b rs) path found)

pub script_is : (target tail : List ℕ) → target ≡ codes "/ipxe/" ++ tail → IsSegment tail → resource_of target ≡ Some Script
unfolding matchit_on_literals routes
script_is target tail e h =
    let key : RouteOf Resource = record { pattern = codes "/ipxe/" ++ (param_token ∷ []); text = codes "/ipxe/{mac}"; names = (7, 10) ∷ []; value = Script } in
    ap resource_of e ∙ ap value_of (goes_along key (codes "/ipxe/") routes tail (last_param key tail h))

-- a machine's number follows `/machines/`
pub machine_is : (tail : List ℕ) → IsSegment tail → resource_of (codes "/machines/" ++ tail) ≡ Some Machine
unfolding matchit_on_literals routes
machine_is tail h =
    let key : RouteOf Resource = record { pattern = codes "/machines/" ++ (param_token ∷ []); text = codes "/machines/{id}"; names = (11, 13) ∷ []; value = Machine } in
    ap value_of (goes_along key (codes "/machines/") routes tail (last_param key tail h))

-- an order's number follows `/orders/`
pub order_is : (tail : List ℕ) → IsSegment tail → resource_of (codes "/orders/" ++ tail) ≡ Some Order
unfolding matchit_on_literals routes
order_is tail h =
    let key : RouteOf Resource = record { pattern = codes "/orders/" ++ (param_token ∷ []); text = codes "/orders/{number}"; names = (9, 15) ∷ []; value = Order } in
    ap value_of (goes_along key (codes "/orders/") routes tail (last_param key tail h))

pub commands : resource_of (codes "/commands") ≡ Some Commands
unfolding matchit_on_literals routes
commands = refl

pub machines : resource_of (codes "/machines") ≡ Some Machines
unfolding matchit_on_literals routes
machines = refl

pub orders : resource_of (codes "/orders") ≡ Some Orders
unfolding matchit_on_literals routes
orders = refl
