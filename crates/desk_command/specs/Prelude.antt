-- The names of libraries that the definitions and proofs of desk_command use, but those of std.
pub use Rattle.boot_desk.specs.{FrameEvent.{frame_view, machine_with, file_for, for_address, is_echo_long, is_port_of, is_uuid_of_other}, declared.{frames.{Decision.{TheVariants.{Enlist, Loader, ScriptUrl, Silent}, Decision}, FrameView.FrameView, Silence.TheVariants.{WrongPort, EchoTooLong, KnownUuid}}, fault.DeskFault.{DeskFault, TheVariants.{Refused, Memory}}, class.ScriptClass.TheVariants.Work, views.BootView.BootView}, Following.{entry_rows, machine_row}, Views.{row_at, image_named, view_of}, EntryLaws.{back-remembered, command-boot, deployed-order, entry_from_sound, is_by, is_some-back}, Fetch.image_for, Sound.{IsSound, IsSoundMachine, KeepsErase}, SoundLaws.{some_of, sound_among, boots_same, each_put, orders_same, stayed_sound, waits_same, has-put, operators_stay}, ClassLaws.{works-status, works_at, same_purpose}, NewMachineLaws.{blank_is_new, new_machine_sound}, DecisionLaws.{step_cases, if_ok}, Class.class_of, Decided.Decides}
pub use Rattle.hall_events.specs.{declared.{command.{MachineCommand.MachineCommand, HallCommand.{HallCommand, TheVariants.{AddOperator, DisableOperator, AddPool, Grant, AddImage, DeleteImage, SetLive, AddMachine, OnMachine}}}, reply.Reply.{Reply, TheVariants.Http}}, Command.command_text, Reply.{Content, reply_of, stored, machine_is, machine_gone, done}}
pub use Rattle.hall_store.specs.declared.store.HallStore.{Ghosts}
pub use Rattle.hall_types.specs.{declared.{machine.{Machine.Machine, TheConstants.{MAX_INTERFACES, MAX_MACHINES}, Interface.Interface}, operator.{Operator.Operator, Member.Member, Pool.Pool}, refusal.Refusal.{Refusal, TheVariants.{KeyReused, NoMachine, RoleNeeded, UnknownToken}}, act.Act.Act, kinds.{Erase.Erase, Role.Role, OrderKind.{OrderKind, TheVariants.{Cycle, Off}}, Purpose.Purpose, OrderStage.TheVariants.Waiting}, status.Status.{Status, TheVariants.{New, Ready, Broken, FailedCommissioning, FailedTesting, Deployed, Commissioning, Testing, Deploying, DiskErasing, EnteringRescue}}, port.Port.Port, change.RowWrite.{RowWrite, TheVariants.{PutReceipt, PutOperator, PutPool, PutMember, PutImage, ImageGone, PutLive, PutMachine, MachineGone, PutInterface, InterfaceGone, PutNumbers, PutOrder}}, receipt.Receipt.Receipt, number.Numbers.Numbers, order.Order.Order, boot.Boot.Boot, image.Live.Live}, Number.{max_number, next_number, next_version}, Hall.{Hall, second, pair, Schema, applied, without_machine, written, default_pool}, Lookup.{operator_with_digest, interfaces_of, is_image_used, machine_with_uuid, HasRowIf, HasRow, next_expired}, Rows.{at, size, Keys, Rows, how_many, rows_where, gone, one_if, put, texts, numbers, pairs}, Keyed.{StandUnder, IsKeyed}, LookupLaws.{found_listed, row_cases, image_unused, none_listed}, Machine.blank_machine, Image.BootImage, CountLaws.{how_many-split, none_pass, how_many-new}, KeyedLaws.keyed-written, RowLaws.{at-gone-other, gone_found, size-gone, where_found, where_kept, at-put-same, how_many-gone, put_cases}, ListLaws.how_many-listed, ChangeLaws.applied_append, Kinds.arch_number}
pub use Rattle.life_cycle.specs.{Permission.{permission_for, who_acts}, declared.{action.{Action.Action, Who.{Who, TheVariants.Admin}}, signal.Signal.{TheVariants.By, Signal}, entering.Entered.Entered, step.Step.Step}, Entering.{entered, entered_by, entered_plain, entered_queued, kept, machine_in}, Table.transitions, TableLaws.{StepTest, each_step, is_signal, is_status, only_if, only_if_true, same_status}}
pub use Rattle.pxe_vendor.specs.declared.{arch.Arch.{Arch, TheVariants.{Bios, Uefi64}}, clients.Client.Client}
