-- What a query asks of a hall.
use Rattle.sql_schema.specs.Words.{Row, Query, IsAnswer, overlay, Trees, Hall, IsQueryText, hall_schema, SpellHall}
use Rattle.std.specs.Prelude.{◌≡◌, ℕ, List, [], map}

-- the text is a query, and with these parameters it shows these items of a hall
pub record Asks {X : Type 0} (values : X → Row) (sql : List ℕ) (params : Row) (right : Hall → List X) : Type 0 where
  pub query : Query
  pub is : IsQueryText hall_schema sql query
  pub answers : (db : Trees) (h : Hall) → SpellHall db h → (rows : List Row) → IsAnswer query (overlay db []) params rows → rows ≡ map values (right h)
