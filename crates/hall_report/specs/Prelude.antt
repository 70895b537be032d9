-- The names of libraries that the definitions and proofs of hall_report use, but those of std.
pub use Rattle.csv.specs.{Writing.{default_writer, fields_written, has_written, row_text, text_written, writer_setup, writer_pending, writer_under, field_text, is_blank, quoted, needs_quotes}, declared.{writer.Writer.Writer, parser.{Action.Action, State.State}}, Reading.{default_config, records, strip_bom, Ready, source_of}, Records.{field_at, Row, fields_of, AllText}, Machine.{Read, after_end, ends_at_end, ends_with, field_after, fields_after, in_field, is_end, start_field, start_record, step}}
pub use Rattle.hall_http.specs.{Body.text_of, Steps.◌>>=◌}
pub use Rattle.hall_store.specs.{Counts.AreCounts, declared.count.Count.Count, Reading.Reads}
pub use Rattle.hall_types.specs.{Hall.Hall, Lookup.{interfaces_of, waiting}, Rows.{listed, at}, Status.status_text, declared.{machine.{Interface.Interface, Machine.Machine}, order.Order.Order}, Name.name_of, Uuid.unless_blank, Kinds.{erase_text, order_kind_text}}
pub use Rattle.pxe_vendor.specs.{Arch.{arch_text, arch_in}, MacText.{mac_of, mac_text}, declared.arch.Arch.Arch, Digits.numeral}
pub use Rattle.uuid.specs.Text.{parsed, hyphenated_text, lower}
