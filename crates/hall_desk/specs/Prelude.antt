-- The names of libraries that the definitions and proofs of hall_desk use, but those of std.
pub use Rattle.boot_desk.specs.{FrameEvent.{frame_decision, frame_view, enlisted}, declared.frames.{Decision.{Decision, TheVariants.{Enlist, Silent}}, FrameView.FrameView}, Views.{machine_view, order_view, report_view, view_at}, Sound.IsSound, Decided.Decides, Expiry.swept, Fetch.Fetched, Report.{Judged, reported}}
pub use Rattle.desk_command.specs.{Command.{may_send, needs_admin, sender, replied}, Causes.command_view, Client.IsEnough, Look.Looks, Effect.Effect}
pub use Rattle.dhcp_frame.specs.{Message.{Message, IsFrame}, Understood.understood, Reply.reply_octets}
pub use Rattle.hall_events.specs.{declared.{command.HallCommand.HallCommand, event.Event.Event, reply.Reply.{Reply, TheVariants.Http}}, Reply.{Content, reply_of, refused, boot_file, ListedMachine, listed, machine_list, listing, with_machine, nothing, waiting_orders}}
pub use Rattle.hall_http.specs.{Request.IsEvent, declared.{fault.HttpFault.HttpFault, response.TheConstants.UNAVAILABLE}, Response.response_of, Decided.Ends, Noted.{calls_of, failed_of, inner_of, takes_of}}
pub use Rattle.hall_laws.specs.{Decision.{may_answer, Decided, framed, may_see_machines, may_see_orders, listed_of, says, decision_of, given_if, judged, refuses, verdict_content, commanded, if_role, listed_if}, Step.{IsRun, Step, IsTyped, IsTypedStep}, Later.KeepsLaws, Origin.first_steps, Laws.AreTyped}
pub use Rattle.hall_store.specs.{declared.store.HallStore.Ghosts, Rules.AllKeep}
pub use Rattle.hall_types.specs.{Hall.{Hall, pair, applied, second}, Lookup.{next_expired, waiting}, Rows.at, declared.{change.RowWrite.{RowWrite, TheVariants.{PutMachine, MachineGone}}, kinds.Role.Role, machine.{Machine.Machine, Interface.Interface}, operator.Operator.Operator, port.Port.Port, receipt.Receipt.Receipt, status.Status.Status, refusal.Refusal.Refusal, number.Numbers.Numbers}, Status.status_number}
pub use Rattle.pxe_vendor.specs.{Place.Site, Served.{Answers, client_of}, declared.{clients.Client.Client, serve.NotServed.NotServed}, Answer.answer_to, Client.IsClient}
