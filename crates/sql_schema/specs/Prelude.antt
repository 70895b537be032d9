-- The names of the kit and of hall_types that the definitions and proofs of the SQL store use, but those of std's own prelude.
pub use Rattle.hall_types.specs.{CountLaws.{how_many-new, how_many-split, none_pass, none_size}, Hall.{Hall, applied, default_pool, first, new_hall, pair, second, without_machine, written}, Image.BootImage, Keyed.StandUnder, KindLaws.{arch_by_number, erase_by_number, order_kind_by_number, order_stage_by_number, purpose_by_number, role_by_number, stage_by_number, status_by_number}, Kinds.{arch_number, erase_number, order_kind_number, order_stage_number, purpose_number, role_number, stage_number}, ListLaws.{AllByRecursion-listed, Contains-listed, IsStrictlySortedBy-listed, how_many-listed, length-listed}, Lookup.{has_come, has_uuid, if_due, interfaces_of, is_due, is_image_used, is_named, machine_with_uuid, next_expired, operator_with_digest, sooner, soonest, waiting, waits}, LookupLaws.next_expired-is, RowLaws.{at-gone, at-gone-other, at-gone-same, at-no_rows, at-put, at-put-other, at-put-same, at-rows_where, gone_found, how_many-gone, how_many-put, key-same, other-key, put_cases, same-key, same_number, same_rows, same_text, where_found, where_kept}, Rows.{Keys, Rows, at, gone, how_many, listed, no_rows, numbers, one_if, pairs, passes, put, rows_where, same_key, size, texts}, Status.status_number, declared.{boot.Boot.Boot, change.RowWrite.{RowWrite, TheVariants.{ImageGone, InterfaceGone, MachineGone, PutBoot, PutImage, PutInterface, PutLive, PutMachine, PutMember, PutNumbers, PutOperator, PutOrder, PutPool, PutReceipt}}, image.Live.Live, kinds.{Erase.{Erase, TheVariants.Full}, OrderStage.OrderStage, Role.{Role, TheVariants.Admin}}, machine.{Interface.Interface, Machine.Machine}, number.Numbers.Numbers, operator.{Member.Member, Operator.Operator, Pool.Pool}, order.Order.Order, receipt.Receipt.Receipt, status.Status.{Status, TheVariants.{DiskErasing, FailedDiskErasing}}}}
pub use Rattle.pxe_vendor.specs.declared.arch.Arch.{Arch}
pub use Rattle.sqlite.{proofs.{Callers.{IsPlain, command_of, never_commits, one_permutation, one_step, reads_as, runs_as, statement_of, survives_begin}, StateLemmas.{survives_then, survives_weaker}}, specs.{Cast.{cast, cast_row}, Change.{KeepsRows, created, indexed, is_used, next_tree}, Collation.TheVariants.Binary, Command.{Command, TheVariants.{CreateIndex, CreateTable, Delete, Insert, Select, Update}}, Compile.{index_defined_by, table_defined_by}, Does.{Does, Tally, lacks_sequence}, Edit.{Applies, Edit, are_fresh, edit_of, id_in, is_taken, next_rowid, numbered, put_all, row_at, taken_by, with_rowid, without_all}, Effect.{Answers, Database, IsDatabase, value_rows}, Held.{Held, state}, Kind.{Kind, TheVariants.Integer}, Listing.{reads_listing, understood}, Ops.{binary, from_truth, is_true, unary}, Order.{Row, column}, Program.overlay, Query.{IsAnswer, Output, Query, end, inner, output, output_cmp, page}, Rowids.TheVariants.{Chosen, Given}, Rows.{Edited, Task, Written, shown}, Schema.Schema, Source.TheVariants.Values, State.{CommitsShowing, Executes, ExecutesIn, ExecutesInside, FailsToQuery, FailsToShow, HasCleanDisk, IsLive, IsNotRun, IsRolledBack, IsTooLate, IsUnchanged, KeepsCommit, KeepsCounts, Runs, RunsCommand, Shown, Shows, ShowsRows, State, Survives, mode_of, shows_rows, store_error}, Steps.{FailsToCommit, Outlines}, Table.Table, Term.{Term, col, eval_all, holds, lit, op2}, Tree.{IsAscending, Trees, has_rowid, put_row, rowid}, Values.{bound, bound_value}, declared.{error.Error.{Error, TheVariants.SqlInputError}, run.Mode.Mode, types.Value.{Value, TheVariants.{Blob, Int, Null, Text}}}}}
pub use Rattle.sqlite_catalog.{proofs.ReadLemmas.lists_once, specs.Listing.{IsSound, automatic}}
pub use Rattle.sqlite_keyed.{proofs.{KeyedLemmas.{IsKeyedBy-delete_where, IsKeyedBy-insert_by, IsKeyedBy-update_where, Less-from_lt, same_int}, ListLemmas.{IsPermutation-filter, IsPermutation-flat_map, all-filter, all-flat_map, all-slice_get, all_map, all_of, all_unmap, all_weaker, along_permutation, any_from_none, ascending-filter, ascending-map, ascending_weaker, filter-filter, filter-map, filter_all, filter_none, filter_same, map-map, map_back, map_same, none_from_any, slice_get-filter}, SliceLemmas.any_is_found, SortLemmas.sorted_unique, WriteLemmas.removes_delete}, specs.{Keyed.{IsKeyedBy, has_key, insert_by}, Lists.{delete_where, update_where, without_key}}}
pub use Rattle.sqlite_resolve.specs.declared.{compiled.Compiled.Compiled, error.CompileError.CompileError}
pub use Rattle.sqlite_rules.{proofs.{ListLemmas.{all_from, all_has, has_contained, has_filtered, has_kept}, PlaceLemmas.given}, specs.{Action.{ActsOn, AreChildren, Leads, Work, Writes, deed_for, deed_of, is_child_of, loses, max_depth, work_by, work_for, works}, Calls.ids_of, Lists.Has, declared.action.Deed.Deed}}
pub use Rattle.sqlite_schema.specs.{Names.same_name, Rules.{ParentKey, agree, parent_key}, declared.{command.Returning.Returning, program.Program.Program, schema.{Action.TheVariants.{Cascade, NoAction}, Column.Column, Index.Index, Keys.TheVariants.Enforced, Reference.Reference}}}
pub use Rattle.sqlite_sql.{proofs.QueryLemmas.output_cmp_total, specs.declared.ops.{BinaryOp.TheVariants.Compare, CompareOp.TheVariants.{Eq, Le}}}
pub use Rattle.sqlite_tied.specs.Compute.{everything}
pub use Rattle.sqlite_trees.proofs.ListLemmas.{all-permutation}
pub use Rattle.sqlite_typed.proofs.RowLemmas.{deletes-map, puts-map}
pub use Rattle.sqlite_value.{proofs.OrderLemmas.{value_cmp-Blob, value_cmp-Int, value_cmp-Text}, specs.{Keys.{ascending, first_key, plain}, Value.owned, declared.{keys.Key.Key, value.ValueRef.ValueRef}}}
pub use Rattle.std.{proofs.lemmas.{Bool.{cases_Bool, cond_both, not-true, Decides.{Decides-and, Decides-eqb, Decides-like, nat_tests, same_from_decides}}, Grind.common_steps, Int.ints, Iterator.{YieldsList-from_map_by, YieldsList-from_slice, Consumers.{YieldsList-at, YieldsList-end, map_from_collect}, Splits.YieldsList-from_str_split}, List.{append-nil, at_drop_all, at_drop_more, drop-drop, drop_all, length-map, map-id, take-map, Elements.recursion_from_All, Filters.length-filter_both, Sorted.{IsPermutation-cons, IsPermutation-filter_both, IsPermutation-map, IsPermutation-middle, IsPermutation-refl, IsPermutation-sym, IsPermutation-trans, length_permutation, list_any-IsPermutation}, Sums.sum_by-cons}, Map.{Keys.{sorted_head, sorted_tail}, Text.is_eq-slice_cmp}, Option.slice_get-map, Slice.Eq.bytes_eq-Decides}, specs.{Cmp.{int_cmp_is, nat_cmp_total, ranked, tied_itself, Lexicographic.{nat_list_cmp_total, slice_cmp, texts_ties}}, List.{AllByRecursion, cons_option, filter_map, join_by, join_with_byte, list_all, list_any, slice_split, sum_by, Sorted.IsStrictlySortedBy}, Option.option_to_list, Ordering.{MatchOrdering, is_le, is_lt, match_ordering, nat_cmp, ordering_reverse, ordering_then}, Str.bytes_eq, Vec.vec_len, declared.cmp.Ordering.TheVariants.Less}}
