-- The names of libraries that the definitions and proofs of hall_http use, but those of std.
pub use Rattle.hall_events.specs.{Object.{member_if, Member, put_all, object_of}, Command.{command_member, own_members, uuid_data, request_data, machine_kind, IsCommand, IsMachineCommand}, declared.{command.{HallCommand.HallCommand, MachineCommand.MachineCommand, CommandKind.{CommandKind, TheVariants.{AddOperator, DisableOperator, AddPool, Grant, AddImage, DeleteImage, SetLive, AddMachine, OnMachine}}, MachineKind.MachineKind}, event.Event.Event, reply.{Reply.{Reply, TheVariants.Http}, BodyKind.{BodyKind, TheVariants.{Text, Json}}}}, Reply.{Content, stored, boot_file, nothing, refused, reply_of}}
pub use Rattle.hall_types.specs.{Image.{BootImage, IsImage, has_hall_word}, Kinds.{role_of_text, progress_of_text, outcome_of_text, outcome_text, erase_of_text}, KindLaws.{outcome_by_text, role_by_text}, Name.{IsName, name_of, is_name_octet}, Uuid.unless_blank, Number.{IsNumber, number_in, number_of_text}, Octets.{AreOctets, octets_of_text}, declared.{kinds.{Role.{Role, TheVariants.Admin}, Outcome.{Outcome, TheVariants.{Done, Failed}}, Progress.Progress, Erase.{Erase, TheVariants.Full}}, refusal.Refusal.Refusal}, Hall.Schema, Refusal.refusal_status}
pub use Rattle.hex.specs.Hex.{encode_lower, lower_digits}
pub use Rattle.http.specs.StatusCode.{reason_phrase, IsStatusCode}
pub use Rattle.httparse.specs.{Grammar.{RequestHead, ReadsRequest, NeverHasRequest, EndsInTarget, MayBecomeRequest, print_request}, Spans.{name_and_value, IsRequestAt, IsRequestWithin, RequestOverflows, span_bytes, header_bytes, IsHeaderWithin}, declared.spans.{HeaderSpan.HeaderSpan, RequestSpans.RequestSpans}}
pub use Rattle.ipxe_script.specs.Word.{IsWord, IsUri}
pub use Rattle.json.specs.{Token.Token, Tree.json_tokens, Print.{escape_letter, escape, quoted}}
pub use Rattle.matchit.specs.{Seek.{has_slash, first, or_else, own, step}, Rows.{RowsOf, param_token, catch_all_token}, Route.{Scan, parse_route}, Order.placed, Router.{RouteOf, route_from, InsertsRead}, declared.error.InsertError.InsertError}
pub use Rattle.pxe_vendor.specs.{MacText.{mac_text, mac_of}, MacLaws.{IsMacText-mac_text, mac_of-from_IsMacText, length-IsMacText}, ArchLaws.arch_in-arch_text, Blank.is_blank, Digits.{decimal_after, decimal_value}, Arch.arch_in, declared.arch.Arch.{Arch, TheVariants.Bios}}
pub use Rattle.serde_json.specs.{Data.{Data, Members, no_members, member, string, boolean, array, put, null, Items, no_items, item}, Find.{get, as_object, as_str, as_bool, as_array, as_number, as_u64}, Read.{read, of_json, of_items, max_depth}, View.{items_of, members_view, view, items_view}, Written.{compact_text, outline, items_outline, comma_if, items_text, members_text}, declared.value.Value.Value}
pub use Rattle.sha2.specs.Sha256.{sha256}
pub use Rattle.uuid.specs.Text.{lower, parsed, hyphenated_text}
