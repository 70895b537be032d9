use Rattle.std.{proofs.Common.{◌≡◌, ◌<◌, ◌+◌, ◌-◌, ◌^◌, length, map, take}, specs.List.flat_map}
use Rattle.dhcp_frame.specs.Reply.{option_octets, entry_of}
use Rattle.dhcp_frame.proofs.reply.room_for.Given as goal

-- the room is that of the header, the end octet and the options so far, or there is none
abbrev pub invariant-loop-option : goal.invariant-loop-option
invariant-loop-option l =
    l.room < 2 ^ 64 - 1 → l.room ≡ 241 + length (flat_map option_octets (map entry_of (take l.option-index l.options)))
