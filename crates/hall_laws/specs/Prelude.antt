-- The names of libraries that the definitions and proofs of hall_laws use, but those of std.
pub use Rattle.boot_desk.specs.{DecisionLaws.{IfOk, step_cases, fetched_cases, order_cases, report_cases, swept_cases}, Following.{entry_rows, answering, with_entry, machine_row, queued_rows, withdrawn_row}, Sound.{IsSound, KeepsErase}, SoundLaws.{some_is, some_of, has-put, operators_stay}, Views.{row_at, order_view, report_view, view_at, interface_view, view_of, image_named}, Fetch.{Fetched, is_fourth, offered_boot, new_boot, is_offered}, FrameEvent.{enlisted, frame_view, enlisted_as}, Report.Judged, declared.{fault.Verdict.{Verdict, TheVariants.{Counted, Repeat}}, frames.Decision.TheVariants.{Loader, ScriptUrl, Enlist, Silent}, views.BootView.BootView, class.ScriptClass.TheVariants.Work}, NewMachineLaws.enlists, OrderAnswer.{answered_with, stage_for, idle}, Purposes.{ErasesBy, HasNoHallWords, IsWork}, EntryLaws.cleared, Expiry.is_due, Texts.{desk_arguments, work_script}, WholeScripts.{work_is_script, IsBoot, IsWholeView, fetched_is_script, number_in_range}, Class.class_of, Promises.Takes}
pub use Rattle.desk_command.specs.{AllowedLaws.{IsAllowed, first_none, none_is, none_mapped, unless_none, when_none}, Causes.{action_of, by_mac, first_of, forbidden, has_member, has_pool, image_arch, is_number, when}, Command.{sender, receipt_of, body_of, keyed, of_sender}, DecisionLaws.{command_cases, machine_cases, sender_is}, Effect.{about, acted, added, edit_of, edited, entry_effect, live_image, machine_effect, machine_effect_if, moved_to_pool, prepared, raised, step_effect}, declared.view.CommandView.CommandView}
pub use Rattle.hall_events.specs.{Reply.{Content, done, ListedMachine, script, refused, counted, waiting_orders, machine_list, one_machine, boot_file, nothing, machine_gone, machine_is, stored, ok, reply_of}, declared.{command.{HallCommand.{HallCommand, TheVariants.{AddOperator, DisableOperator, AddPool, Grant, AddImage, DeleteImage, SetLive, AddMachine, OnMachine}}, MachineCommand.{MachineCommand, TheVariants.{Release, Deploy}}}, event.Event.{Event, TheVariants.{Frame, OrderAnswer, Orders, Script}}, reply.Reply.{Reply, TheVariants.Http}}, Command.command_text, Event.BringsImage, Object.list_object}
pub use Rattle.hall_store.specs.Rules.{IsFree, Keeps, AllKeep, KeepsBoots, KeepsOrders}
pub use Rattle.hall_types.specs.{Hall.{Hall, pair, first, second, applied, written, new_hall, Schema}, Image.{BootImage, IsImage, has_hall_word}, Lookup.{is_image_used, operator_with_digest, interfaces_of, next_expired, waiting, HasRow, HasRowIf, waits}, LookupLaws.{none_listed, next_expired-is, row_cases, image_unused}, Number.{next_number, next_version, max_number}, declared.{change.RowWrite.{RowWrite, TheVariants.{PutNumbers, PutReceipt, PutBoot, PutImage, PutInterface, PutLive, PutMachine, PutOperator, PutOrder, MachineGone, PutPool}}, kinds.{Role.{Role, TheVariants.{Admin, Power}}, Outcome.Outcome, Progress.{Progress, TheVariants.{Done, Started}}, Erase.{Erase, TheVariants.{Full, Quick}}, OrderStage.{TheVariants.{Waiting, Withdrawn}, OrderStage}, OrderKind.TheVariants.Cycle, Purpose.Purpose, Stage.Stage}, machine.{Interface.Interface, Machine.Machine}, number.Numbers.Numbers, operator.{Operator.Operator, Pool.Pool}, refusal.Refusal.{Refusal, TheVariants.{KeyReused, UnknownToken}}, port.Port.Port, status.Status.{TheVariants.{DiskErasing, Deployed, Deploying, EnteringRescue, Rescue, New, Commissioning, Ready, Allocated}, Status}, boot.Boot.Boot, order.Order.Order, receipt.Receipt.Receipt, image.Live.Live}, Machine.blank_machine, Kinds.stage_after, Rows.{Rows, Keys, gone, rows_where, same_key}, Octets.AreOctets, RowLaws.{at-put-same, put_cases, where_found, same-key, same_text, at-gone-other, at-gone-same, at-put-other, at-gone, at-no_rows, at-put, same_rows, gone_found, key-same}, ChangeLaws.{applied_append, applied_schema}, Refusal.refusal_status}
pub use Rattle.ipxe_script.specs.{Purpose.{IsErasing, IsDeploying, HasKernelWord, IsArgument, IsKernelWith}, Script.{spelling, IsScript, IsLine}, declared.command.{Command.TheVariants.Kernel, TheConstants.{MAX_COMMANDS, MAX_WORDS}}, PurposeLaws.{HasKernelWord-boot, IsArgument-hall, Any-cases, Any-here, Any-nil, Any-there, HasKernelWord-spelling}, Word.IsWord}
pub use Rattle.life_cycle.specs.{Entering.{entered, kept}, declared.{action.Action.Action, signal.Signal.{TheVariants.{By, Answer, Expired, FourthBoot}, Signal}, entering.Entered.Entered}, Permission.{permission_for, who_acts, is_owner, is_owner_in}, EnteringLaws.{entered-image, entered-boot, entered-id, entered-numbers, entered-order-queued, entered-status, entered-erase, IsQueued}, PermissionLaws.{owner_deploys, owner_releases_erasing}, StepLaws.{ways_to_deploying, steps_change_status, ways_to_disk_erasing}}
pub use Rattle.pxe_vendor.specs.{declared.{arch.Arch.{Arch, TheVariants.Uefi64}, clients.{Client.Client, Kind.TheVariants.Discover}}, BootFile.boot_file_of, Place.Site}
