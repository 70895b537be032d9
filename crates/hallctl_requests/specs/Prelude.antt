-- The names of libraries that the definitions and proofs of hallctl_requests use, but those of std.
pub use Rattle.hall_events.specs.{Command.request_text, declared.{command.HallCommand.HallCommand, event.Event.Event, reply.BodyKind.{BodyKind, TheVariants.{Text, Json}}}}
pub use Rattle.hall_types.specs.declared.kinds.Outcome.{Outcome}
pub use Rattle.hall_http.specs.{Answer.{◌>>=◌, Answers}, Fields.{is_visible, length_of, within_limit, body_length, bearer_digest, bearer, FieldPair, count, first_value}, Request.{front, after_head, IsEvent, of_head}, Command.{IsSendableCommand, answer_text, is_identified, outcome_data}, declared.fault.HttpFault.HttpFault, Event.event_of_parts, Response.{IsStatus, statuses, response}}
pub use Rattle.hall_types.specs.Number.{IsNumber}
pub use Rattle.httparse.specs.{Grammar.{is_ows, skip_ows, trim_ows, is_value_byte, Field, IsField, IsRequestHead, ReadsRequest, IsToken, print_field, is_uri_byte, RequestHead, crlf, ResponseHead, ReadsResponse, MayBecomeResponse, NeverHasResponse, status_code, IsResponseHead}, Spans.{name_and_value, ResponseExceeds, IsResponseAt, IsResponseWithin, header_bytes, IsHeaderWithin}, declared.spans.{HeaderSpan.HeaderSpan, ResponseSpans.ResponseSpans}}
pub use Rattle.pxe_vendor.specs.Digits.{decimal_value}
pub use Rattle.sha2.specs.Sha256.{sha256}
