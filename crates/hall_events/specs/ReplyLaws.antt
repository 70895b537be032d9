-- Laws of answers, for the proofs of callers: what an answer says is found in its octets.
use Rattle.std.{proofs.{Common.{◌≡◌, ℕ, List, [], ◌∷◌, ◌++◌, Option, map, refl, sym, ap, ◌∙◌, arith}, lemmas.List.Elements.recursion_from_All}, specs.{Prelude.{codes, fold, is_some, unwrap_or, if◌then◌else◌}, List.AllByRecursion, Str.bytes_eq}}
use Rattle.serde_json.specs.{Data.Data, Find.get, Written.compact_text}
use Rattle.ipxe_script.specs.{Text.{lines_in, words_in}, Script.{words_of, spelling, IsLine, IsScript}, LineLaws.{text_of, words_in-text_of, lines_in-spelling}, declared.command.Command.{Command, TheVariants.{Kernel, Initrd, Boot, Exit, Sanboot, Echo, Poweroff}}}
use Rattle.hall_types.specs.{Hall.Schema, Kinds.with_text, Refusal.{refusal_name, refusal_of_text, refusal_row}, Status.{status_text, statuses}, declared.{refusal.Refusal.{Refusal, TheVariants.{BadRequest, Unavailable}}, status.Status.{Status, TheVariants.{New, Broken}}}}
use Rattle.hall_events.specs.{Object.object_of, ObjectLaws.{IsPlain, text_in, number_in, value_in, value_in-compact_text}, CommandLaws.number_fits, Listing.Listing, Reply.{Content, script, refused, counted, repeated, machine_is, machine_gone, done, boot_file, nothing, IsReadable, ListedMachine, reply_of, refusal_data, result_data, id_data, status_data, with_machine, no_machine, listing}, declared.reply.{Reply.{Reply, TheVariants.{Http, File, Nothing}}, BodyKind.TheVariants.{Text, Json}}}

-- ---- the commands of a script

abbrev kernel_in : List (List ℕ) → Command
kernel_in [] = Exit
kernel_in (uri ∷ args) = Kernel uri args

abbrev initrd_in : List (List ℕ) → Command
initrd_in [] = Exit
initrd_in (uri ∷ others) = Initrd uri

-- the command with these words
script_command : List (List ℕ) → Command
script_command [] = Exit
script_command (name ∷ words) =
    if bytes_eq name (codes "kernel") then kernel_in words
    else if bytes_eq name (codes "initrd") then initrd_in words
    else if bytes_eq name (codes "boot") then Boot
    else if bytes_eq name (codes "sanboot") then Sanboot
    else if bytes_eq name (codes "echo") then Echo words
    else if bytes_eq name (codes "poweroff") then Poweroff
    else Exit

script_command-words_of : (c : Command) → script_command (words_of c) ≡ c
unfolding script_command
script_command-words_of (Kernel uri args) = refl
script_command-words_of other = refl

-- the commands of lines, of which the last is empty
commands_in : List (List ℕ) → List Command
commands_in (line ∷ next ∷ lines) = script_command (words_in line) ∷ commands_in (next ∷ lines)
commands_in lines = []

commands_in-lines : (commands : List Command) → AllByRecursion IsLine commands → commands_in (map text_of commands ++ [] ∷ []) ≡ commands
unfolding commands_in
commands_in-lines [] h = refl
commands_in-lines (c ∷ []) h = ap (λ d. d ∷ []) (ap script_command (words_in-text_of c h.0.whole) ∙ script_command-words_of c)
commands_in-lines (c ∷ next ∷ commands) h =
    ap (λ d. d ∷ commands_in (map text_of (next ∷ commands) ++ [] ∷ [])) (ap script_command (words_in-text_of c h.0.whole) ∙ script_command-words_of c)
    ∙ ap (λ more. c ∷ more) (commands_in-lines (next ∷ commands) h.1)

without_first : List (List ℕ) → List (List ℕ)
without_first [] = []
without_first (line ∷ lines) = lines

-- the commands of a printed script
script_in : List ℕ → List Command
script_in text = commands_in (without_first (lines_in text))

script_in-spelling : (commands : List Command) → IsScript commands → script_in (spelling commands) ≡ commands
unfolding script_in without_first
script_in-spelling commands h =
    let lines = recursion_from_All IsLine commands h.lines in
    ap (λ (x : List (List ℕ)). commands_in (without_first x)) (lines_in-spelling commands lines) ∙ commands_in-lines commands lines

-- ---- words

refusal_in : List ℕ → Refusal
refusal_in text = unwrap_or (refusal_of_text text) Unavailable

refusal_in-name : (r : Refusal) → refusal_in (refusal_name r) ≡ r
unfolding refusal_in refusal_row
refusal_in-name BadRequest = refl
refusal_in-name r = refl

status_in : List ℕ → Status
status_in text = unwrap_or (with_text status_text text statuses) Broken

status_in-text : (s : Status) → status_in (status_text s) ≡ s
unfolding status_in status_text
status_in-text New = refl
status_in-text s = refl

-- ---- what an answer says

number_of : Option Data → ℕ
number_of d = unwrap_or (number_in d) 0

-- what an answer of JSON says
content_in : Data → Content
content_in d =
    if is_some (get (codes "refusal") d) then refused (refusal_in (text_in (get (codes "refusal") d)))
    else if is_some (get (codes "result") d) then (if bytes_eq (text_in (get (codes "result") d)) (codes "counted") then counted else repeated)
    else if is_some (get (codes "status") d) then machine_is (number_of (get (codes "id") d)) (status_in (text_in (get (codes "status") d))) (number_of (get (codes "version") d))
    else if is_some (get (codes "id") d) then machine_gone (number_of (get (codes "id") d))
    else done

content_of : Reply → Content
content_of (Http status Text body) = script (script_in body)
content_of (Http status Json body) = content_in (value_in body)
content_of (File file) = boot_file file
content_of Nothing = nothing

found : (d : Data) → IsPlain d 1 → content_in (value_in (compact_text d)) ≡ content_in d
found d h = ap content_in (value_in-compact_text d 1 h (omega arith))

content_of-reply_of : (schema : Schema) (c : Content) → IsReadable c → content_of (reply_of schema c) ≡ c
unfolding content_of content_in number_of reply_of
content_of-reply_of schema (script commands) h = ap script (script_in-spelling commands h)
content_of-reply_of schema (refused r) h = found (refusal_data r) (tt, tt) ∙ ap refused (refusal_in-name r)
content_of-reply_of schema counted h = found (result_data (codes "counted")) (tt, tt)
content_of-reply_of schema repeated h = found (result_data (codes "repeat")) (tt, tt)
content_of-reply_of schema (machine_is id status version) h =
    found (status_data id status version) (number_fits id h.0, (tt, (number_fits version h.1, tt)))
    ∙ ap (λ s. machine_is id s version) (status_in-text status)
content_of-reply_of schema (machine_gone id) h = found (id_data id) (number_fits id h, tt)
content_of-reply_of schema done h = found (object_of []) tt
content_of-reply_of schema (boot_file file) h = refl
content_of-reply_of schema nothing h = refl
content_of-reply_of schema other h = absurd h

-- equal answers say the same
pub one_content : (s t : Schema) (c d : Content) → IsReadable c → IsReadable d → reply_of s c ≡ reply_of t d → c ≡ d
one_content s t c d hc hd e = sym (content_of-reply_of s c hc) ∙ ap content_of e ∙ content_of-reply_of t d hd

-- ---- a list of machines

-- one machine after those that stand in the list
pub listing-push : (machines : List ListedMachine) (machine : ListedMachine) → listing (machines ++ machine ∷ []) ≡ with_machine (listing machines) machine
listing-push machines machine = after machines no_machine
  where
    after : (machines : List ListedMachine) (list : Listing) → fold with_machine list (machines ++ machine ∷ []) ≡ with_machine (fold with_machine list machines) machine
    after [] list = refl
    after (m ∷ machines) list = after machines (with_machine list m)
