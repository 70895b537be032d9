-- The names of libraries that the definitions and proofs of serve_sockets use, but those of std.
pub use Rattle.boot_desk.specs.Sound.{IsSound}
pub use Rattle.desk_command.specs.Look.{IsLook}
pub use Rattle.hall_desk.specs.{Octets.{arrival_of, missed_answer, octets_of}, Attempt.{GivesAnswer, IsAnswered, IsOnlyRead, IsKept, IsTorn}, declared.{arrival.{Answer.{Answer, TheVariants.Unavailable}, Input.{TheVariants.{Datagram, Request}, Input}, Arrival.Arrival, Stamp.{Stamp}}, desk.Desk.Desk}, Desk.{store_of, enlists_of, site_of}, Headline.HasHistory, History.{Item, exchanges}, Stops.{AndCutRun, AreGiven, HasRun, IsLeft, IsSettled}, AttemptLaws.{answered_whole, missed_same, unread, read_same, gives_missed}, Grouping.{HasGroupRun, HasNoRun, first_of}, GroupingLaws.{missed_answers, run_of_group, run_of_none}, HistoryLaws.{AreHistoryLaws, after_run, run_given, run_stop}, RunLaws.{has_run_none, has_run_one, has_run_then}}
pub use Rattle.hall_events.specs.declared.event.Event.{Event}
pub use Rattle.hall_http.specs.{Decided.IsDecided, Request.IsEvent}
pub use Rattle.hall_store.specs.declared.store.HallStore.{Ghosts}
pub use Rattle.hall_types.specs.{declared.port.Port.TheVariants.{Boot, Discover}, Hall.Hall}
pub use Rattle.mio.specs.declared.net.stream.TcpStream.{TcpStream}
pub use Rattle.pxe_vendor.specs.Place.{Site}
