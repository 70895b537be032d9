-- The names of libraries that the definitions and proofs of store_memory use, but those of std.
pub use Rattle.hall_store.specs.{Counts.{is_in, AreCounts, count_cmp, counted, is_about}, declared.count.Count.Count, Expiry.IsEarliest, ExpiryLaws.{earliest_is, soonest_due, gone_earliest, none_due, lower_earliest, put_earliest}, Versions.{HasVersion, HaveVersions, version_of}, Rules.AllKeep}
pub use Rattle.hall_types.specs.{Status.status_number, declared.{machine.{Machine.Machine, Interface.Interface}, status.Status.Status, change.RowWrite.{RowWrite, TheVariants.{PutOperator, PutPool, PutMember, PutImage, PutLive, PutMachine, PutInterface, PutBoot, PutOrder, PutReceipt, MachineGone, InterfaceGone, ImageGone, PutNumbers}}, boot.Boot.Boot, operator.Member.Member, order.Order.Order, receipt.Receipt.Receipt, image.Live.Live}, Lookup.{sooner, has_uuid, soonest, if_due, machine_with_uuid, waits}, Hall.{Hall, pair, second, applied, written, default_pool}, Kinds.arch_number, Keyed.{IsKeyed, StandUnder}, Rows.{Rows, Keys, gone, put, rows_where, passes, same_key, one_if}, ListLaws.{how_many-listed, length-listed}, RowLaws.{same_number, at-gone-other, at-put-other, at-put-same, gone_found, put_cases, at-no_rows, at-put, at-gone, at-rows_where, at-gone-same, size-gone, size-put}, LookupLaws.{found_listed, none_listed}}
