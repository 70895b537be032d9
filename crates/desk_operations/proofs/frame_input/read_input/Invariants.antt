use Rattle.std.{proofs.Common.◌≤◌, specs.{Prelude.vec_len, Io.KnownBytes.Consumes}}
use Rattle.desk_operations.proofs.frame_input.read_input.Given as goal

-- the input so far is what was read
abbrev pub invariant-loop : goal.invariant-loop
invariant-loop g l = record {
  read : Consumes (g.R.Read.remaining l.fn.reader) (g.R.Read.remaining l.reader) l.input.items;
  room : vec_len l.input ≤ 65536;
}
