-- Laws of scripts, for the proofs of callers: which commands make a script.
use Rattle.std.proofs.{Common.{ℕ, ◌+◌, ◌≤◌, All, List, [], ◌∷◌, length, arith}, lemmas.List.Elements.All-from_recursion}
use Rattle.ipxe_script.specs.{Word.{IsWord, IsUri}, Script.{IsLine, IsScript}, declared.command.{Command.TheVariants.{Kernel, Initrd, Boot}, TheConstants.MAX_WORDS}}

-- a kernel with at most 30 arguments, its initrd, and `boot`
pub IsScript-boot : (uri : List ℕ) (args : List (List ℕ)) (initrd : List ℕ) → IsUri uri → All IsWord args → IsUri initrd → length args + 2 ≤ MAX_WORDS → IsScript (Kernel uri args ∷ Initrd initrd ∷ Boot ∷ [])
IsScript-boot uri args initrd h all k few = record {
  few = omega arith;
  lines = All-from_recursion IsLine (Kernel uri args ∷ Initrd initrd ∷ Boot ∷ []) (
    record { whole = (h, all); few = omega arith },
    (record { whole = k; few = omega arith }, (record { whole = tt; few = omega arith }, tt)),
  );
}
