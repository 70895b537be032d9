-- What is understood is a script, and is spelled so.
use Rattle.std.{proofs.{Common.{◌≡◌, ℕ, ◌≤◌, ◌&&◌, ◌⊎◌, Bool, true, false, cond, List, [], ◌∷◌, ◌++◌, length, map, drop, Result, Ok, Err, refl, sym, ap, subst, ◌∙◌, inl, inr, arith, append_assoc}, lemmas.{Bool.{false≢true, and_parts, or_parts, ltb-false, eqb-true, Decides.Decides-eqb}, List.{nil_from_length, length-map, Elements.All-from_recursion, Splits.join_with_byte-slice_split}, Slice.Eq.{bytes_eq-Decides, starts_is}}}, specs.{Prelude.{◌==◌, ◌↔◌, IsOk, IfOk, bytes_eq, nat_eq, nat_lt, codes}, List.{AllByRecursion, list_all, list_any, flat_map, join_with_byte, slice_split, starts_with}}}
use Rattle.ipxe_script.{specs.{Word.{is_word, is_uri}, Script.{words_of, line_of, spelling, IsWhole, IsLine, IsScript}, Text.{line_feed, space, words_in}, Understood.{◌>>=◌, Gives, uri_of, args_of, lone_command, kernel_of, initrd_of, sanboot_of, are_sanboot_words, echo_of, command_of, commands_of, is_long_line, are_too_many, ended_pieces, lines_of, body_of, understood}, declared.{command.{TheConstants.{MAX_COMMANDS, MAX_WORDS}, Command.{Command, TheVariants.{Kernel, Initrd, Boot, Exit, Sanboot, Echo, Poweroff}}}, fault.ScriptFault.{ScriptFault, TheVariants.{NoHead, UnknownCommand, BadWord, NoFinalNewline, TooMany, Memory}}}, LineLaws.text_of}, proofs.{WordLemmas.IsWord-from_list_all, SpellingLemmas.understood-spelling}}

-- ---- steps that did not fail

bind_ok : {A B : Type 0} (r : Result A ScriptFault) (f : A → Result B ScriptFault) (y : B) → (r >>= f) ≡ Ok y → (x : A) × (r ≡ Ok x) × (f x ≡ Ok y)
bind_ok (Ok x) f y e = (x, refl, e)
bind_ok (Err fault) f y e = absurd cc

same_ok : {A : Type 0} (x y : A) → ◌≡◌ {A = Result A ScriptFault} (Ok x) (Ok y) → x ≡ y
same_ok x y e = cc

-- a test that passed
passed : {A : Type 0} (b : Bool) (fault : ScriptFault) (x y : A) → cond b (Ok x) (Err fault) ≡ Ok y → (b ≡ true) × (x ≡ y)
passed true fault x y e = (refl, cc)
passed false fault x y e = absurd cc

-- which way a test went
chosen : {A : Type 0} (b : Bool) (x y z : A) → cond b x y ≡ z → ((b ≡ true) × (x ≡ z)) ⊎ ((b ≡ false) × (y ≡ z))
chosen true x y z e = inl (refl, e)
chosen false x y z e = inr (refl, e)

-- ---- a command

-- these words are those of the command, which is whole
record IsCommand (words : List (List ℕ)) (command : Command) : Type 0 where
  spelt : words ≡ words_of command
  whole : IsWhole command

lone_command-ok : (name : List ℕ) (words : List (List ℕ)) (alike command : Command) → words_of alike ≡ name ∷ [] → IsWhole alike → lone_command alike words ≡ Ok command → IsCommand (name ∷ words) command
unfolding lone_command
lone_command-ok name [] alike command spelt whole e = subst (λ (x : Command). IsCommand (name ∷ []) x) (same_ok alike command e) (record { spelt = sym spelt; whole = whole })
lone_command-ok name (word ∷ words) alike command spelt whole e = absurd cc

kernel_of-ok : (words : List (List ℕ)) (command : Command) → kernel_of words ≡ Ok command → IsCommand (codes "kernel" ∷ words) command
unfolding kernel_of
kernel_of-ok [] command e = absurd cc
kernel_of-ok (uri ∷ args) command e =
    let a = bind_ok (uri_of uri) (λ x. args_of args >>= λ y. Ok (Kernel x y)) command e in
    let b = bind_ok (args_of args) (λ y. Ok (Kernel a.0 y)) command a.2 in
    let p = passed (is_uri uri) BadWord uri a.0 a.1 in
    let q = passed (list_all is_word args) BadWord args b.0 b.1 in
    let made : Kernel uri args ≡ command = ap (λ (x : List ℕ). Kernel x args) p.1 ∙ ap (λ (x : List (List ℕ)). Kernel a.0 x) q.1 ∙ same_ok (Kernel a.0 b.0) command b.2 in
    subst (λ (x : Command). IsCommand (codes "kernel" ∷ uri ∷ args) x) made (record { spelt = refl; whole = (p.0, IsWord-from_list_all args q.0) })

initrd_of-ok : (words : List (List ℕ)) (command : Command) → initrd_of words ≡ Ok command → IsCommand (codes "initrd" ∷ words) command
unfolding initrd_of
initrd_of-ok (uri ∷ []) command e =
    let a = bind_ok (uri_of uri) (λ x. Ok (Initrd x)) command e in
    let p = passed (is_uri uri) BadWord uri a.0 a.1 in
    let made : Initrd uri ≡ command = ap (λ (x : List ℕ). Initrd x) p.1 ∙ same_ok (Initrd a.0) command a.2 in
    subst (λ (x : Command). IsCommand (codes "initrd" ∷ uri ∷ []) x) made (record { spelt = refl; whole = p.0 })
initrd_of-ok other command e = absurd cc

three_same : (a b c x y z : List ℕ) → a ≡ x → b ≡ y → c ≡ z → codes "sanboot" ∷ a ∷ b ∷ c ∷ [] ≡ codes "sanboot" ∷ x ∷ y ∷ z ∷ []
three_same a b c x y z p q r = cc

sanboot_of-ok : (words : List (List ℕ)) (command : Command) → sanboot_of words ≡ Ok command → IsCommand (codes "sanboot" ∷ words) command
unfolding sanboot_of
sanboot_of-ok (a ∷ b ∷ c ∷ []) command e =
    let p = passed (are_sanboot_words a b c) BadWord Sanboot command e in
    let q = and_parts (bytes_eq a (codes "--no-describe") && bytes_eq b (codes "--drive")) (bytes_eq c (codes "0x80")) p.0 in
    let r = and_parts (bytes_eq a (codes "--no-describe")) (bytes_eq b (codes "--drive")) q.0 in
    let spelt = three_same a b c (codes "--no-describe") (codes "--drive") (codes "0x80") ((bytes_eq-Decides a _).0 r.0) ((bytes_eq-Decides b _).0 r.1) ((bytes_eq-Decides c _).0 q.1) in
    subst (λ (x : Command). IsCommand (codes "sanboot" ∷ a ∷ b ∷ c ∷ []) x) p.1 (record { spelt = spelt; whole = tt })
sanboot_of-ok other command e = absurd cc

echo_of-ok : (words : List (List ℕ)) (command : Command) → echo_of words ≡ Ok command → IsCommand (codes "echo" ∷ words) command
unfolding echo_of
echo_of-ok [] command e = absurd cc
echo_of-ok (word ∷ words) command e =
    let a = bind_ok (args_of (word ∷ words)) (λ x. Ok (Echo x)) command e in
    let p = passed (list_all is_word (word ∷ words)) BadWord (word ∷ words) a.0 a.1 in
    let made : Echo (word ∷ words) ≡ command = ap (λ (x : List (List ℕ)). Echo x) p.1 ∙ same_ok (Echo a.0) command a.2 in
    subst (λ (x : Command). IsCommand (codes "echo" ∷ word ∷ words) x) made (record { spelt = refl; whole = (IsWord-from_list_all (word ∷ words) p.0, omega arith) })

-- the name is that of one command, or of another
by_name : (name : List ℕ) (words : List (List ℕ)) (command : Command) (own : List ℕ) {here there : Result Command ScriptFault}
    → cond (bytes_eq name own) here there ≡ Ok command → (here ≡ Ok command → IsCommand (own ∷ words) command) → (there ≡ Ok command → IsCommand (name ∷ words) command)
    → IsCommand (name ∷ words) command
by_name name words command own {here} {there} e one other =
    elim (chosen (bytes_eq name own) here there (Ok command) e) [
      | inl h ↦ subst (λ (x : List ℕ). IsCommand (x ∷ words) command) (sym ((bytes_eq-Decides name own).0 h.0)) (one h.1)
      | inr h ↦ other h.1
    ]

command_of-ok : (words : List (List ℕ)) (command : Command) → command_of words ≡ Ok command → IsCommand words command
unfolding command_of
command_of-ok [] command e = absurd cc
command_of-ok (name ∷ words) command e =
    by_name name words command (codes "kernel") e (kernel_of-ok words command) (λ e.
    by_name name words command (codes "initrd") e (initrd_of-ok words command) (λ e.
    by_name name words command (codes "boot") e (lone_command-ok (codes "boot") words Boot command refl tt) (λ e.
    by_name name words command (codes "exit") e (lone_command-ok (codes "exit") words Exit command refl tt) (λ e.
    by_name name words command (codes "sanboot") e (sanboot_of-ok words command) (λ e.
    by_name name words command (codes "echo") e (echo_of-ok words command) (λ e.
    by_name name words command (codes "poweroff") e (lone_command-ok (codes "poweroff") words Poweroff command refl tt) (λ e.
    absurd (let no : ◌≡◌ {A = Result Command ScriptFault} (Err UnknownCommand) (Ok command) = e in cc))))))))

-- ---- lines

-- these lines are those of the commands
record AreLines (lines : List (List ℕ)) (commands : List Command) : Type 0 where
  spelt : lines ≡ map text_of commands
  each : AllByRecursion IsLine commands

line_spelt : (line : List ℕ) (command : Command) → IsCommand (words_in line) command → line ≡ text_of command
line_spelt line command h = sym (join_with_byte-slice_split space line) ∙ ap (λ (x : List (List ℕ)). join_with_byte space x) h.spelt

few_words : (line : List ℕ) (command : Command) → is_long_line line ≡ false → words_in line ≡ words_of command → length (words_of command) ≤ MAX_WORDS
unfolding is_long_line
few_words line command h e = subst (λ (x : List (List ℕ)). length x ≤ MAX_WORDS) e (ltb-false MAX_WORDS (length (words_in line)) h)

commands_of-ok : (lines : List (List ℕ)) (commands : List Command) → list_any is_long_line lines ≡ false → commands_of lines ≡ Ok commands → AreLines lines commands
unfolding commands_of
commands_of-ok [] commands short e = subst (λ (x : List Command). AreLines [] x) (same_ok [] commands e) (record { spelt = refl; each = tt })
commands_of-ok (line ∷ lines) commands short e =
    let a = bind_ok (command_of (words_in line)) (λ x. commands_of lines >>= λ y. Ok (x ∷ y)) commands e in
    let b = bind_ok (commands_of lines) (λ y. Ok (a.0 ∷ y)) commands a.2 in
    let parts = or_parts (is_long_line line) (list_any is_long_line lines) short in
    let first = command_of-ok (words_in line) a.0 a.1 in
    let others = commands_of-ok lines b.0 parts.1 b.1 in
    let spelt : line ∷ lines ≡ map text_of (a.0 ∷ b.0) = ap (λ (x : List ℕ). x ∷ lines) (line_spelt line a.0 first) ∙ ap (λ (x : List (List ℕ)). text_of a.0 ∷ x) others.spelt in
    subst (λ (x : List Command). AreLines (line ∷ lines) x) (same_ok (a.0 ∷ b.0) commands b.2)
    (record { spelt = spelt; each = (record { whole = first.whole; few = few_words line a.0 parts.0 first.spelt }, others.each) })

ended_pieces-ok : (pieces lines : List (List ℕ)) → ended_pieces pieces ≡ Ok lines → pieces ≡ lines ++ [] ∷ []
unfolding ended_pieces
ended_pieces-ok [] lines e = absurd cc
ended_pieces-ok (piece ∷ []) lines e =
    let p = passed (length piece == 0) NoFinalNewline [] lines e in
    ap (λ (x : List ℕ). x ∷ []) (nil_from_length piece (eqb-true (length piece) 0 p.0)) ∙ ap (λ (x : List (List ℕ)). x ++ [] ∷ []) p.1
ended_pieces-ok (piece ∷ next ∷ pieces) lines e =
    let a = bind_ok (ended_pieces (next ∷ pieces)) (λ x. Ok (piece ∷ x)) lines e in
    ap (λ (x : List (List ℕ)). piece ∷ x) (ended_pieces-ok (next ∷ pieces) a.0 a.1) ∙ ap (λ (x : List (List ℕ)). x ++ [] ∷ []) (same_ok (piece ∷ a.0) lines a.2)

-- pieces of which the last is empty, joined by line feeds
join-lines : (commands : List Command) → join_with_byte line_feed (map text_of commands ++ [] ∷ []) ≡ flat_map line_of commands
join-lines [] = refl
join-lines (command ∷ []) = sym (append_assoc (text_of command) (line_feed ∷ []) [])
join-lines (command ∷ next ∷ commands) =
    ap (λ (x : List ℕ). text_of command ++ (line_feed ∷ x)) (join-lines (next ∷ commands))
    ∙ sym (append_assoc (text_of command) (line_feed ∷ []) (flat_map line_of (next ∷ commands)))

lines_of-ok : (body : List ℕ) (lines : List (List ℕ)) (commands : List Command) → lines_of body ≡ Ok lines → lines ≡ map text_of commands → body ≡ flat_map line_of commands
lines_of-ok body lines commands e spelt =
    sym (join_with_byte-slice_split line_feed body)
    ∙ ap (λ (x : List (List ℕ)). join_with_byte line_feed x) (ended_pieces-ok (slice_split (λ octet. octet == line_feed) body) lines e ∙ ap (λ (x : List (List ℕ)). x ++ [] ∷ []) spelt)
    ∙ join-lines commands

-- ---- the script

body_of-ok : (text body : List ℕ) → body_of text ≡ Ok body → text ≡ codes "#!ipxe\n" ++ body
unfolding body_of
body_of-ok text body e =
    let p = passed (starts_with nat_eq text (codes "#!ipxe\n")) NoHead (drop 7 text) body e in
    (starts_is Decides-eqb text (codes "#!ipxe\n") (starts_with nat_eq text (codes "#!ipxe\n")) refl).0 p.0
    ∙ ap (λ (x : List ℕ). codes "#!ipxe\n" ++ x) p.1

few_lines : (lines : List (List ℕ)) → are_too_many lines ≡ false → (length lines ≤ MAX_COMMANDS) × (list_any is_long_line lines ≡ false)
unfolding are_too_many
few_lines lines h =
    let parts = or_parts (nat_lt MAX_COMMANDS (length lines)) (list_any is_long_line lines) h in
    (ltb-false MAX_COMMANDS (length lines) parts.0, parts.1)

-- lines that are not too many
counted : (lines : List (List ℕ)) (r : Result (List Command) ScriptFault) (commands : List Command) → cond (are_too_many lines) (Err TooMany) r ≡ Ok commands → (are_too_many lines ≡ false) × (r ≡ Ok commands)
counted lines r commands e =
    elim (chosen (are_too_many lines) (Err TooMany) r (Ok commands) e) [
      | inl h ↦ absurd (let e : ◌≡◌ {A = Result (List Command) ScriptFault} (Err TooMany) (Ok commands) = h.1 in cc)
      | inr h ↦ h
    ]

pub spelling-understood : (text : List ℕ) (commands : List Command) → understood text ≡ Ok commands → IsScript commands × (text ≡ spelling commands)
unfolding understood
spelling-understood text commands e =
    let a = bind_ok (body_of text) (λ body. lines_of body >>= λ lines. cond (are_too_many lines) (Err TooMany) (commands_of lines)) commands e in
    let b = bind_ok (lines_of a.0) (λ lines. cond (are_too_many lines) (Err TooMany) (commands_of lines)) commands a.2 in
    let c = counted b.0 (commands_of b.0) commands b.2 in
    let few = few_lines b.0 c.0 in
    let given = commands_of-ok b.0 commands few.1 c.1 in
    let count : length commands ≤ MAX_COMMANDS = omega (arith, few.0, ap (λ (x : List (List ℕ)). length x) given.spelt, length-map commands text_of) in (
      record { few = count; lines = All-from_recursion IsLine commands given.each },
      body_of-ok text a.0 a.1 ∙ ap (λ (x : List ℕ). codes "#!ipxe\n" ++ x) (lines_of-ok a.0 b.0 commands b.1 given.spelt),
    )

-- two scripts with one spelling are one
pub one_script : (commands others : List Command) → IsScript commands → IsScript others → spelling commands ≡ spelling others → commands ≡ others
one_script commands others h k e =
    same_ok commands others (sym (understood-spelling commands h) ∙ ap understood e ∙ understood-spelling others k)

-- ---- reading a script, by its steps

pub understood-commands : (text body : List ℕ) (lines : List (List ℕ)) (commands : List Command) → body_of text ≡ Ok body → lines_of body ≡ Ok lines → false ≡ are_too_many lines
    → commands_of lines ≡ Ok commands → understood text ≡ Ok commands
unfolding understood
understood-commands text body lines commands a b c d = rw (a, b, ← c, d) refl

-- what is understood is a script, so that it is never refused
pub understood-made : (text : List ℕ) (commands : List Command) (answer : Result (List Command) ScriptFault) → understood text ≡ Ok commands → (IsOk answer ↔ IsScript commands)
    → IfOk answer (λ script. script ≡ commands) → Gives (λ script. script) answer (understood text)
understood-made text commands (Ok script) e ok is = e ∙ ap (λ (x : List Command). Ok x) (sym is)
understood-made text commands (Err fault) e ok is = absurd (false≢true (ok.1 (spelling-understood text commands e).0))

-- ---- what a reader is given

pub given-script : (text : List ℕ) (answer : Result (List Command) ScriptFault) → Gives (λ script. script) answer (understood text) → IfOk answer (λ script. IsScript script × (text ≡ spelling script))
given-script text (Ok script) e = spelling-understood text script e
given-script text (Err fault) e = tt

pub given-only : (text : List ℕ) (commands : List Command) (answer : Result (List Command) ScriptFault) → Gives (λ script. script) answer (understood text) → IsScript commands
    → text ≡ spelling commands → (answer ≡ Ok commands) ⊎ (answer ≡ Err Memory)
given-only text commands (Ok script) e h is = inl (sym e ∙ ap understood is ∙ understood-spelling commands h)
given-only text commands (Err fault) (inl e) h is = inr (ap (λ (x : ScriptFault). Err x) e)
given-only text commands (Err fault) (inr e) h is =
    absurd (let both : ◌≡◌ {A = Result (List Command) ScriptFault} (Err fault) (Ok commands) = sym e ∙ ap understood is ∙ understood-spelling commands h in cc)
