use Rattle.std.{proofs.Common.{◌≡◌, ◌++◌, drop}, specs.Prelude.option_map}
use Rattle.hall_http.specs.{Prelude.items_view, Value.words_of}
use Rattle.hall_http.proofs.value.words_of.Given as goal

abbrev pub invariant-loop-value : goal.invariant-loop-value
invariant-loop-value l =
    option_map (λ more. l.words.items ++ more) (words_of (items_view (drop l.value-index l.values))) ≡ words_of (items_view l.values)
