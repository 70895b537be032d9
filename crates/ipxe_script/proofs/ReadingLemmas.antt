-- Reading a script, a step at a time.
use Rattle.std.{proofs.{Common.{◌≡◌, ℕ, ◌<◌, ◌≤◌, ◌+◌, List, [], ◌∷◌, ◌++◌, length, get_or, drop, map, Result, Ok, Err, Bor, refl, sym, ap, ◌∙◌, inl, inr, ◌⊎◌, arith, add-one, drop-cons, append_assoc, length-append}, lemmas.{Bool.{eq-eqb, ne_eqb}, List.{map_push, drop_all, append-nil, Splits.length-slice_split}}}, specs.Prelude.{count_by, ◌==◌}}
use Rattle.ipxe_script.specs.{declared.{command.Command.{Command}, fault.ScriptFault.{ScriptFault, TheVariants.{NoFinalNewline, Memory}}}, Text.{space, words_in}, Understood.{◌>>=◌, command_of, commands_of, ended_pieces}}

-- a line has one word more than spaces
pub length-words_in : (line : List ℕ) → length (words_in line) ≡ count_by (λ octet. octet == space) line + 1
length-words_in line = length-slice_split (λ octet. octet == space) line

pub ruleset space_steps = (length-words_in)

-- ---- lines

ended_pieces-cons : (piece : List ℕ) (pieces : List (List ℕ)) → 0 < length pieces → ended_pieces (piece ∷ pieces) ≡ (ended_pieces pieces >>= λ lines. Ok (piece ∷ lines))
unfolding ended_pieces
ended_pieces-cons piece [] h = absurd (omega arith)
ended_pieces-cons piece (next ∷ pieces) h = refl

pub ended_pieces-whole : (pieces : List (List ℕ)) (last : List ℕ) → length last ≡ 0 → ended_pieces (pieces ++ last ∷ []) ≡ Ok pieces
unfolding ended_pieces
ended_pieces-whole [] last h = rw (eq-eqb (length last) 0 h) refl
ended_pieces-whole (piece ∷ pieces) last h =
    ended_pieces-cons piece (pieces ++ last ∷ []) (omega (arith, length-append pieces (last ∷ []))) ∙ rw (ended_pieces-whole pieces last h) refl

pub ended_pieces-cut : (pieces : List (List ℕ)) (last : List ℕ) → (length last ≡ 0 → ⊥) → ended_pieces (pieces ++ last ∷ []) ≡ Err NoFinalNewline
unfolding ended_pieces
ended_pieces-cut [] last h = rw (ne_eqb (length last) 0 h) refl
ended_pieces-cut (piece ∷ pieces) last h =
    ended_pieces-cons piece (pieces ++ last ∷ []) (omega (arith, length-append pieces (last ∷ []))) ∙ rw (ended_pieces-cut pieces last h) refl

-- pieces of which the last was taken away
pieces_pushed : (pieces before : List (Bor (List ℕ))) (last : Bor (List ℕ)) → pieces ≡ before ++ last ∷ [] → map (λ piece. piece.now) pieces ≡ map (λ piece. piece.now) before ++ last.now ∷ []
pieces_pushed pieces before last e = rw e (map_push (λ piece. piece.now) before last)

pub popped-whole : (pieces before : List (Bor (List ℕ))) (last : Bor (List ℕ)) → pieces ≡ before ++ last ∷ [] → length last.now ≡ 0
    → ended_pieces (map (λ piece. piece.now) pieces) ≡ Ok (map (λ piece. piece.now) before)
popped-whole pieces before last parts h = ap ended_pieces (pieces_pushed pieces before last parts) ∙ ended_pieces-whole (map (λ piece. piece.now) before) last.now h

pub popped-cut : (pieces before : List (Bor (List ℕ))) (last : Bor (List ℕ)) → pieces ≡ before ++ last ∷ [] → (length last.now ≡ 0 → ⊥)
    → ended_pieces (map (λ piece. piece.now) pieces) ≡ Err NoFinalNewline
popped-cut pieces before last parts h = ap ended_pieces (pieces_pushed pieces before last parts) ∙ ended_pieces-cut (map (λ piece. piece.now) before) last.now h

pub popped-none : (pieces : List (Bor (List ℕ))) → length pieces ≡ 0 → ended_pieces (map (λ piece. piece.now) pieces) ≡ Err NoFinalNewline
unfolding ended_pieces
popped-none [] h = refl
popped-none (piece ∷ pieces) h = absurd (omega arith)

pub ruleset piece_steps = (popped-whole, popped-cut, popped-none)

-- ---- commands in order

-- what was read before, and what is still read
abbrev pub with_front : List Command → Result (List Command) ScriptFault → Result (List Command) ScriptFault
with_front front reading = reading >>= λ commands. Ok (front ++ commands)

regroup : (front : List Command) (command : Command) (reading : Result (List Command) ScriptFault) → with_front front (reading >>= λ commands. Ok (command ∷ commands)) ≡ with_front (front ++ command ∷ []) reading
regroup front command (Ok commands) = ap (λ (x : List Command). Ok x) (simp append_assoc)
regroup front command (Err fault) = refl

-- the next line, and those after it
line_front : (lines : List (Bor (List ℕ))) (i : ℕ) (d : Bor (List ℕ)) → i < length lines → map (λ line. line.now) (drop i lines) ≡ (get_or lines i d).now ∷ map (λ line. line.now) (drop (i + 1) lines)
line_front lines i d h = rw (add-one, drop-cons lines i d) refl

pub commands_of-more : (front : List Command) (lines : List (Bor (List ℕ))) (i : ℕ) (d : Bor (List ℕ)) (command : Command) (total : Result (List Command) ScriptFault) → i < length lines
    → command_of (words_in (get_or lines i d).now) ≡ Ok command → with_front front (commands_of (map (λ line. line.now) (drop i lines))) ≡ total
    → with_front (front ++ command ∷ []) (commands_of (map (λ line. line.now) (drop (i + 1) lines))) ≡ total
unfolding commands_of
commands_of-more front lines i d command total lt given so_far =
    let one : with_front front (commands_of (map (λ line. line.now) (drop i lines))) ≡ with_front (front ++ command ∷ []) (commands_of (map (λ line. line.now) (drop (i + 1) lines))) =
    ap (λ x. with_front front (commands_of x)) (line_front lines i d lt) ∙ rw given (regroup front command (commands_of (map (λ line. line.now) (drop (i + 1) lines)))) in
    sym one ∙ so_far

commands_of-fault : (front : List Command) (lines : List (Bor (List ℕ))) (i : ℕ) (d : Bor (List ℕ)) (fault : ScriptFault) (total : Result (List Command) ScriptFault) → i < length lines
    → command_of (words_in (get_or lines i d).now) ≡ Err fault → with_front front (commands_of (map (λ line. line.now) (drop i lines))) ≡ total → total ≡ Err fault
unfolding commands_of
commands_of-fault front lines i d fault total lt given so_far =
    let one : with_front front (commands_of (map (λ line. line.now) (drop i lines))) ≡ Err fault =
    ap (λ x. with_front front (commands_of x)) (line_front lines i d lt) ∙ rw given refl in
    sym so_far ∙ one

pub commands_of-ends : (front : List Command) (lines : List (Bor (List ℕ))) (i : ℕ) (d : Bor (List ℕ)) (fault : ScriptFault) (total : Result (List Command) ScriptFault) → i < length lines
    → (fault ≡ Memory) ⊎ (command_of (words_in (get_or lines i d).now) ≡ Err fault) → with_front front (commands_of (map (λ line. line.now) (drop i lines))) ≡ total
    → (fault ≡ Memory) ⊎ (total ≡ Err fault)
commands_of-ends front lines i d fault total lt (inl out_of_memory) so_far = inl out_of_memory
commands_of-ends front lines i d fault total lt (inr given) so_far = inr (commands_of-fault front lines i d fault total lt given so_far)

pub commands_of-done : (front : List Command) (lines : List (Bor (List ℕ))) (i : ℕ) (total : Result (List Command) ScriptFault) → length lines ≤ i
    → with_front front (commands_of (map (λ line. line.now) (drop i lines))) ≡ total → total ≡ Ok front
unfolding commands_of
commands_of-done front lines i total le so_far =
    let nothing : drop i lines ≡ [] = drop_all i lines le in
    let one : with_front front (commands_of (map (λ line. line.now) (drop i lines))) ≡ Ok front =
    ap (λ (x : List (Bor (List ℕ))). with_front front (commands_of (map (λ line. line.now) x))) nothing ∙ ap (λ (x : List Command). Ok x) (append-nil front) in
    sym so_far ∙ one

pub ruleset command_steps = (commands_of-more, commands_of-done)
