use Rattle.std.{proofs.Common.{◌≡◌, map, take, drop}, specs.List.list_all}
use Rattle.ipxe_script.specs.Word.{is_word}
use Rattle.ipxe_script.proofs.reading.args_of.Given as goal

-- the words so far are the texts so far, and all texts are words if those that are left are
abbrev pub invariant-loop-text : goal.invariant-loop-text
invariant-loop-text l = record {
  made : l.args.items ≡ map (λ text. text.now) (take l.text-index l.texts);
  left : list_all is_word (map (λ text. text.now) (drop l.text-index l.texts)) ≡ list_all is_word (map (λ text. text.now) l.texts);
}
