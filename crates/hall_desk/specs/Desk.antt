-- What a desk is made of.
use Rattle.std.specs.Prelude.{◌≡◌, Bool}
use Rattle.hall_desk.specs.{Prelude.Site, declared.desk.Desk.Desk}

module _ {S : Type 0} where
  -- the store of its hall
  abbrev pub store_of : Desk S → S
  store_of desk = desk.store

  -- the place that it serves
  abbrev pub site_of : Desk S → Site
  site_of desk = desk.place

  -- whether it enlists unknown clients
  abbrev pub enlists_of : Desk S → Bool
  enlists_of desk = desk.enlists

-- the desk serves the same place, and enlists as before
pub record Stays {S : Type 0} (old new : Desk S) : Type 0 where
  pub site : site_of new ≡ site_of old
  pub enlists : enlists_of new ≡ enlists_of old
