use Rattle.std.{proofs.Common.refl, specs.Fmt.digits}
use Rattle.json.specs.Print.{escape_byte}
use Rattle.hall_types.specs.Refusal.{refusal_row}
use Rattle.hall_events.specs.Reply.{reply_of}
use Rattle.hall_http.specs.Response.{phrase_of, kind_text, status_line, type_line, length_line, last_lines}
use Rattle.hall_http.proofs.laws.unavailable_is_a_refusal.Goals as goal

pub returns : goal.returns
unfolding digits escape_byte refusal_row reply_of phrase_of kind_text status_line type_line length_line last_lines
returns c = λ schema. refl
