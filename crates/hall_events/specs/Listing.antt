-- The text of a list that is written item by item.
use Rattle.std.specs.Prelude.{ℕ, Bool, List}

-- the text so far, and whether an item stands in it
pub record Listing : Type 0 where
  pub text : List ℕ
  pub any : Bool
