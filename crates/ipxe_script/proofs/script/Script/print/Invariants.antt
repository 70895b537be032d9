use Rattle.std.{proofs.Common.{◌≡◌, ◌++◌, string_bytes, drop}, specs.List.flat_map}
use Rattle.ipxe_script.specs.Script.{line_of, spelling}
use Rattle.ipxe_script.proofs.script.Script.print.Given as goal

-- the octets written so far and the remaining lines are the whole spelling
abbrev pub invariant-loop-command : goal.invariant-loop-command
invariant-loop-command l = string_bytes l.out ++ flat_map line_of (drop l.command-index l.command-items) ≡ spelling l.command-items
