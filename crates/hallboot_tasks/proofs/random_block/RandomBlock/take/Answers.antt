use Rattle.std.proofs.Common.{◌≡◌, ◌++◌, ◌+◌, ℕ, List, ap, sym, ◌∙◌, drop, take, drop-drop, take-append-drop}
use Rattle.hallboot_tasks.proofs.random_block.RandomBlock.take.Goals as goal

pub returns-clause-next : goal.returns-clause-next
returns-clause-next c =
    let at = c.self.inside.taken in
    let octets = c.self.inside.octets in
    let left = drop at octets in
    let whole : take 16 left ++ drop 16 left ≡ left = take-append-drop 16 left in
    let rest : drop 16 left ≡ drop (at + 16) octets = drop-drop 16 at octets in
    let token : c.from-token.result ≡ take 16 left = c.from-token.ensures ∙ c.in_ok-next.ensures.cases.0 ∙ ap (λ (xs : List ℕ). take 16 xs) c.split_at.ensures.back in
    sym c.self.view_is ∙ sym whole ∙ ap (λ (xs : List ℕ). take 16 left ++ xs) rest ∙ ap (λ (xs : List ℕ). xs ++ drop (at + 16) octets) (sym token)
