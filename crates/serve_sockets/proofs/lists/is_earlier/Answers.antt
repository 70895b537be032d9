use Rattle.std.proofs.{Common.{◌∙◌, sym}, lemmas.Bool.false≢true}
use Rattle.serve_sockets.proofs.ListsLemmas.{older_by, younger_by}
use Rattle.serve_sockets.proofs.lists.is_earlier.Goals as goal

pub returns-then-wants_at-clause-wants : goal.returns-then-wants_at-clause-wants
returns-then-wants_at-clause-wants g c = λ older. sym c.wants_at.ensures ∙ c.if-wants_at.true

pub returns-then-wants_at-clause-yes : goal.returns-then-wants_at-clause-yes
returns-then-wants_at-clause-yes g c = λ older. older_by _ _ _ _ c.number_at.ensures c.number_at-then-wants_at.ensures older

pub returns-then-wants_at-clause-no : goal.returns-then-wants_at-clause-no
returns-then-wants_at-clause-no g c = λ younger wanted. younger_by _ _ _ _ c.number_at.ensures c.number_at-then-wants_at.ensures younger

pub returns-else-wants_at-clause-wants : goal.returns-else-wants_at-clause-wants
returns-else-wants_at-clause-wants g c = λ is. sym c.wants_at.ensures ∙ is

pub returns-else-wants_at-clause-yes : goal.returns-else-wants_at-clause-yes
returns-else-wants_at-clause-yes g c = λ is. absurd (false≢true (sym c.if-wants_at.false ∙ is))

pub returns-else-wants_at-clause-no : goal.returns-else-wants_at-clause-no
returns-else-wants_at-clause-no g c = λ is wanted. absurd (false≢true (sym is ∙ c.wants_at.ensures ∙ wanted))
