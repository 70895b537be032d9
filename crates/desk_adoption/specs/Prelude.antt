-- The names of libraries that the definitions and proofs of desk_adoption use, but those of std.
pub use Rattle.boot_desk.specs.{Class.class_of, declared.class.ScriptClass.TheVariants.Local}
pub use Rattle.hall_desk.specs.{Headline.HasHistory, History.{Item, Origin, carried_out}, Desk.{site_of, store_of}}
pub use Rattle.hall_events.specs.declared.{command.{HallCommand.{HallCommand, TheVariants.OnMachine}, MachineCommand.{MachineCommand, TheVariants.{Commission, Deploy, Act}}}, event.Event.{Event, TheVariants.{Command, OrderAnswer, Report, Script}}, reply.Reply.Reply}
pub use Rattle.hall_store.specs.{declared.store.HallStore.Ghosts}
pub use Rattle.hall_types.specs.{Hall.Hall, Lookup.operator_with_digest, Rows.at, declared.{act.Act.TheVariants.Allocate, machine.Machine.Machine, operator.Operator.Operator, status.Status.{Status, TheVariants.Deployed}}}
pub use Rattle.pxe_vendor.specs.Place.{Site}
