use Rattle.std.{proofs.Common.{◌≡◌, map, drop}, specs.List.list_any}
use Rattle.ipxe_script.specs.Understood.{is_long_line}
use Rattle.ipxe_script.proofs.reading.has_long_line.Given as goal

-- some line is long if and only if one of the remaining lines is
abbrev pub invariant-loop-line : goal.invariant-loop-line
invariant-loop-line l =
    list_any is_long_line (map (λ line. line.now) (drop l.line-index l.lines))
    ≡ list_any is_long_line (map (λ line. line.now) l.lines)
