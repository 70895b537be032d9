-- How the serving of one request ends a run.
use Rattle.std.specs.Prelude.{◌≡◌, ℕ, List, Option, Result, Ok, Err}
use Rattle.desk_operations.specs.Prelude.{Site, IsServed, Served, Answered, Fault, Io, Ghosts, Item, Origin, StaysSettled}

-- a read or a write that failed is a fault
abbrev pub outcome_of : Served → Result (Unit {0}) Fault
outcome_of Answered = Ok tt
outcome_of other = Err Io

module _ {S : Type 0} (g : Ghosts S) (old new : S) (site : Site) (moment : ℕ) (fresh : List ℕ) where
  -- the request was served, and the run ended so
  pub record HasServed (input before : List ℕ) (r : Result (Unit {0}) Fault) (after : Option (List ℕ)) : Type 0 where
    pub served : Served
    pub ended : r ≡ outcome_of served
    pub is : IsServed g old new site moment fresh input before served after

module _ {S : Type 0} (g : Ghosts S) (store : S) (origin : Origin) (past : List Item) (site : Site) (moment : ℕ) (fresh : List ℕ) where
  -- the store stays settled as the request was served, and the run ended so
  pub record HasSettled (input before : List ℕ) (r : Result (Unit {0}) Fault) (after : Option (List ℕ)) : Type 0 where
    pub served : Served
    pub ended : r ≡ outcome_of served
    pub is : StaysSettled g store origin past site moment fresh input before served after
