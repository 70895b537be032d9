-- The names of libraries that the definitions and proofs of desk_operations use, but those of std.
pub use Rattle.boot_desk.specs.{declared.frames.{Decision.{Decision, TheVariants.{Loader, ScriptUrl, Silent}}, FrameView.FrameView, Silence.TheVariants.{WrongPort, EchoTooLong, KnownUuid}}, Sound.IsSound, FrameEvent.{is_echo_long, is_port_of, is_uuid_of_other, for_address}}
pub use Rattle.dhcp_frame.specs.{Message.{Message, IsFrame}, Reply.reply_octets, declared.{fault.FrameFault.FrameFault, reply.TheConstants.MAX_VALUE_LEN}}
pub use Rattle.hall_desk.specs.{Headline.{HasHistory, HasSomeRequest}, History.{Item, Origin, came_unreplied, carried_out}, Served.IsServed, declared.serving.Served.{Served, TheVariants.{Answered, ReadFailed, WriteFailed}}, Plan.IsCarriedOut, Desk.{site_of, store_of}, Stops.{IsEnd, IsLeft, IsSettled, LeavesMore, OrSomeRequest, OrUnreplied, SettlesBySome, StaysSettled}}
pub use Rattle.hall_events.specs.{Reply.{refused, reply_of}, declared.{command.HallCommand.TheVariants.AddMachine, event.Event.{Event, TheVariants.Command}, reply.{Reply.{Reply, TheVariants.Http}, BodyKind.BodyKind}}}
pub use Rattle.hall_http.specs.Noted.{failed_of, inner_of, takes_of}
pub use Rattle.hall_laws.specs.Decision.{Decided, decision_of}
pub use Rattle.hall_report.specs.{Fault.{IsFrameFault, IsImportFault, IsStoreFault, IsReportFault}, declared.{row.ImportRow.ImportRow, task_fault.Fault.{Fault, TheVariants.{Io, BadInput}}, values.What.What}, Lines.{IsHallText, machine_text, order_text}, Import.import_in, Export.export_text}
pub use Rattle.hall_store.specs.{declared.store.{HallStore.Ghosts, Unavailable.Unavailable}, Rules.AllKeep, Reading.Reads}
pub use Rattle.hall_types.specs.{Number.{max_number, IsNumber}, declared.port.Port.Port, Hall.{Hall, applied, second}}
pub use Rattle.hex.specs.{Hex.{encode_lower, decode_of, is_hex_digit}, declared.error.FromHexError.FromHexError}
pub use Rattle.pxe_vendor.specs.{Answer.answer_to, BootFile.boot_file_of, Client.IsClient, Place.Site, declared.{clients.Client.Client, serve.NotServed.{NotServed, TheVariants.Memory}}, MacText.{IsMacText, mac_of}, MacLaws.{mac_of-from_IsMacText, IsMacText-from_mac_of, IsMacText-high, length-IsMacText}}
