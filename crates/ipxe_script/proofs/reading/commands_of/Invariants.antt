use Rattle.std.proofs.Common.{◌≡◌, map, drop}
use Rattle.ipxe_script.{specs.Understood.commands_of, proofs.ReadingLemmas.with_front}
use Rattle.ipxe_script.proofs.reading.commands_of.Given as goal

-- the commands so far, with those of the lines that are left, are those of all lines
abbrev pub invariant-loop-line : goal.invariant-loop-line
invariant-loop-line l =
    with_front l.commands.items (commands_of (map (λ line. line.now) (drop l.line-index l.lines)))
    ≡ commands_of (map (λ line. line.now) l.lines)
