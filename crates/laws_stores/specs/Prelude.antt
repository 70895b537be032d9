-- The names of libraries that the definitions and proofs of laws_stores use, but those of std.
pub use Rattle.hall_desk.specs.{Headline.Headline, History.{AllLead, Item, Origin, BeginsWith, exchanges}, Grouping.OrTogether, Stops.{IsSettled, IsEnd, AndCutRun, OrUnanswered, OrUnreplied, IsLeft}, declared.arrival.{Answer.Answer, Arrival.Arrival}}
pub use Rattle.hall_events.specs.declared.event.Event.{Event}
pub use Rattle.hall_laws.specs.{Migration.{IsMigrated, with_kind}, Step.Step, FirstSchema.IsFirstRun, Origin.{carried_over, created}}
pub use Rattle.hall_sql.specs.{Opening.connection_after, Store.connection}
pub use Rattle.hall_store.specs.declared.store.HallStore.{Ghosts}
pub use Rattle.hall_types.specs.{Hall.{Hall, first, new_hall, second}, Rows.at, declared.{kinds.Erase.TheVariants.Full, machine.Machine.Machine, status.Status.{Status, TheVariants.New}}}
pub use Rattle.pxe_vendor.specs.Place.{Site}
pub use Rattle.sql_schema.specs.Spelling.{SpellHall}
pub use Rattle.sql_tables.specs.Creating.{IsBlank}
pub use Rattle.sql_tables.specs.Migrating.{BecomeHall, IsCarriedOver, SpellFirst, is_erasing, with_full}
pub use Rattle.sqlite.specs.{Tree.Trees, Held.state, State.HasCleanDisk}
pub use Rattle.sqlite_rules.specs.Lists.{Has}
