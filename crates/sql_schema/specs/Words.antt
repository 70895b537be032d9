-- The names of this crate that the crates above it use, and all of the prelude.
pub use Rattle.sql_schema.specs.Prelude.{ActsOn, Admin, AllByRecursion, AllByRecursion-listed, Answers, Applies, Arch, AreChildren, Binary, Blob, Boot, BootImage, Cascade, Chosen, Column, Command, CommitsShowing, Compare, CompileError, Compiled, Contains-listed, CreateIndex, CreateTable, Database, Decides-and, Decides-eqb, Decides-like, Deed, Delete, DiskErasing, Does, Edit, Edited, Enforced, Eq, Erase, Error, Executes, ExecutesIn, ExecutesInside, FailedDiskErasing, FailsToCommit, FailsToQuery, FailsToShow, Full, Given, Hall, Has, HasCleanDisk, Held, ImageGone, Index, Insert, Int, Integer, Interface, InterfaceGone, IsAnswer, IsAscending, IsDatabase, IsKeyedBy, IsKeyedBy-delete_where, IsKeyedBy-insert_by, IsKeyedBy-update_where, IsLive, IsNotRun, IsPermutation-cons, IsPermutation-filter, IsPermutation-flat_map, IsPermutation-map, IsPermutation-middle, IsPermutation-refl, IsPermutation-sym, IsPermutation-trans, IsPlain, IsRolledBack, IsSound, IsStrictlySortedBy, IsStrictlySortedBy-listed, IsTooLate, IsUnchanged, KeepsCommit, KeepsCounts, KeepsRows, Key, Keys, Kind, Le, Leads, Less, Less-from_lt, Live, Machine, MachineGone, MatchOrdering, Member, Mode, NoAction, Null, Numbers, Operator, Order, OrderStage, Outlines, Output, ParentKey, Pool, Program, PutBoot, PutImage, PutInterface, PutLive, PutMachine, PutMember, PutNumbers, PutOperator, PutOrder, PutPool, PutReceipt, Query, Receipt, Reference, Returning, Role, Row, RowWrite, Rows, Runs, RunsCommand, Schema, Select, Shown, Shows, ShowsRows, SqlInputError, StandUnder, State, Status, Survives, Table, Tally, Task, Term, Text, Trees, Update, Value, ValueRef, Values, Work, Writes, Written, YieldsList-at, YieldsList-end, YieldsList-from_map_by, YieldsList-from_slice, YieldsList-from_str_split, agree, all-filter, all-flat_map, all-permutation, all-slice_get, all_from, all_has, all_map, all_of, all_unmap, all_weaker, along_permutation, any_from_none, any_is_found, append-nil, applied, arch_by_number, arch_number, are_fresh, ascending, ascending-filter, ascending-map, ascending_weaker, at, at-gone, at-gone-other, at-gone-same, at-no_rows, at-put, at-put-other, at-put-same, at-rows_where, at_drop_all, at_drop_more, automatic, binary, bound, bound_value, bytes_eq, bytes_eq-Decides, cases_Bool, cast, cast_row, col, column, command_of, common_steps, cond_both, cons_option, created, deed_for, deed_of, default_pool, delete_where, deletes-map, drop-drop, drop_all, edit_of, end, erase_by_number, erase_number, eval_all, everything, filter-map, filter_all, filter_map, filter_none, filter_same, first, first_key, from_truth, given, gone, gone_found, has_come, has_contained, has_filtered, has_kept, has_key, has_rowid, has_uuid, holds, how_many, how_many-gone, how_many-listed, how_many-new, how_many-put, how_many-split, id_in, ids_of, if_due, index_defined_by, indexed, inner, insert_by, int_cmp_is, interfaces_of, ints, is_child_of, is_due, is_eq-slice_cmp, is_image_used, is_le, is_lt, is_named, is_taken, is_true, is_used, join_by, join_with_byte, key-same, lacks_sequence, length-listed, length-map, length_permutation, list_all, list_any, list_any-IsPermutation, listed, lists_once, lit, loses, machine_with_uuid, map-id, map-map, map_back, map_from_collect, map_same, match_ordering, max_depth, mode_of, nat_cmp, nat_cmp_total, nat_list_cmp_total, nat_tests, never_commits, new_hall, next_expired, next_expired-is, next_rowid, next_tree, no_rows, none_from_any, none_pass, none_size, not-true, numbered, numbers, one_if, one_permutation, one_step, op2, operator_with_digest, option_to_list, order_kind_by_number, order_kind_number, order_stage_by_number, order_stage_number, ordering_reverse, ordering_then, other-key, output, output_cmp, output_cmp_total, overlay, owned, page, pair, pairs, parent_key, passes, plain, purpose_by_number, purpose_number, put, put_all, put_cases, put_row, puts-map, ranked, reads_as, reads_listing, recursion_from_All, removes_delete, role_by_number, role_number, row_at, rowid, rows_where, runs_as, same-key, same_from_decides, same_int, same_key, same_name, same_number, same_rows, same_text, second, shown, shows_rows, size, slice_cmp, slice_get-filter, slice_get-map, slice_split, sooner, soonest, sorted_head, sorted_tail, sorted_unique, stage_by_number, stage_number, state, statement_of, status_by_number, status_number, store_error, sum_by, sum_by-cons, survives_begin, survives_then, survives_weaker, table_defined_by, take-map, taken_by, texts, texts_ties, tied_itself, unary, understood, update_where, value_cmp-Blob, value_cmp-Int, value_cmp-Text, value_rows, vec_len, waiting, waits, where_found, where_kept, with_rowid, without_all, without_key, without_machine, work_by, work_for, works, written}
pub use Rattle.sql_schema.specs.SchemaLaws.{add_is, find_is, goes_alone, list_machines_is, machines_go_alone, never_follows}
pub use Rattle.sql_schema.specs.CascadeStepLaws.{no_row_points}
pub use Rattle.sql_schema.specs.ColumnLaws.{same_kind, same_truth}
pub use Rattle.sql_schema.specs.Columns.{HasWords, joined, number, or_null, truth_number, words_in}
pub use Rattle.sql_schema.specs.Described.{CountRow, TableName, all_tables, boot_columns, boot_values, boots, boots_table, count_columns, count_key, counts_table, described, find_numbers_query, hall_schema, hall_table, image_columns, images, images_table, in_rows, interface_columns, interfaces, interfaces_table, list_counts_query, live_columns, live_values, lives, machine_columns, machine_values, machines, machines_table, member_columns, members, no_schema, numbers_row, of_boots, of_counts, of_images, of_interfaces, of_last, of_lives, of_machines, of_members, of_operators, of_orders, of_pools, of_receipts, of_wipes, operator_columns, operators, operators_table, order_columns, order_values, orders, orders_table, pool_columns, pools, pools_table, receipt_columns, receipts, stage, wipe_columns, wipes, wipes_table}
pub use Rattle.sql_schema.specs.HallRows.{Counts, HallRows, Wipe}
pub use Rattle.sql_schema.specs.Spelling.{AreRowsOf, AreTables, SpellHall, Spells, is_in, wipe_of}
pub use Rattle.sql_schema.specs.SpellingLaws.{at_table, sets}
pub use Rattle.sql_schema.specs.TableOf.{IsKept, IsNumbered, TableOf, kept_row, parameters_from}
pub use Rattle.sql_schema.specs.Creating.{MakesAll, MakesIndex, MakesOne, MakesTable}
pub use Rattle.sql_schema.specs.Holding.{Holds, IsHeld, IsTableRead, IsWithin, Leaves}
pub use Rattle.sql_schema.specs.HoldingLaws.{asked, asked_failed, asked_then, back_held, by_count, earlier, leaves_more, leaves_on, settles, shown_within, survives_both, survives_none, within}
pub use Rattle.sql_schema.specs.KeptLaws.{adds_kept, changes_kept, finds_kept, lists_kept, removes_alone, removes_kept, removes_kept_where, sets_kept_if}
pub use Rattle.sql_schema.specs.ListLaws.{all_passed, and_true, has_map, map_has, next_item}
pub use Rattle.sql_schema.specs.ListedLaws.{AreRising, AreRising-listed, AreRising-put_in, at_listed, listed_at, listed_with_key, put_in, put_in-permutes, same_lists}
pub use Rattle.sql_schema.specs.NumberedLaws.{equal_keys, equal_numbers, number_is_free, number_key, number_order, numbered_entries, rises}
pub use Rattle.sql_schema.specs.PairLaws.{pair_tests, same_pair}
pub use Rattle.sql_schema.specs.Queries.{IsBefore, at_most, cell, equals, from_one, output_of, parameter, rising}
pub use Rattle.sql_schema.specs.QueryLaws.{items_by, items_in_order, shown_answer}
pub use Rattle.sql_schema.specs.Rows.{Entry, item_of, row_of, rowid_of, uncounted}
pub use Rattle.sql_schema.specs.StatementLaws.{execute_keeps, execute_mode, if_ok, makes_index, makes_table, on_made, query_keeps, query_mode, shown_same}
pub use Rattle.sql_schema.specs.Statements.{IsBack, IsCommandText, IsQueryText, IsReturningText, SetsRows, only}
pub use Rattle.sql_schema.specs.TableLaws.{changes, inserts}
pub use Rattle.sql_schema.specs.Tables.{belongs_to_machine}
