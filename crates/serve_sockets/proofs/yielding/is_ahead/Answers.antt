use Rattle.std.proofs.{Common.sym, lemmas.Bool.{ltb-true, ltb-false}}
use Rattle.serve_sockets.proofs.YieldingLemmas.{ahead_by, ahead_larger, ahead_not, less_than}
use Rattle.serve_sockets.proofs.yielding.is_ahead.Goals as goal

pub crowd_at-crowd-requires : goal.crowd_at-crowd-requires
crowd_at-crowd-requires g c = c.requires

pub crowd_at-rival-requires : goal.crowd_at-rival-requires
crowd_at-rival-requires g c = c.requires

pub returns-then-crowd-rival-clause-yes : goal.returns-then-crowd-rival-clause-yes
returns-then-crowd-rival-clause-yes g c = λ is.
    ahead_by c.args.slots.now c.args.slot c.args.other _ _ _ _ c.crowd_at-crowd.ensures c.crowd_at-rival.ensures c.number_at.ensures
    c.number_at-then-crowd-rival.ensures c.if-crowd-rival.true (less_than _ _ is)

pub returns-then-crowd-rival-clause-no : goal.returns-then-crowd-rival-clause-no
returns-then-crowd-rival-clause-no g c = λ is.
    ahead_by c.args.slots.now c.args.other c.args.slot _ _ _ _ c.crowd_at-rival.ensures c.crowd_at-crowd.ensures c.number_at-then-crowd-rival.ensures
    c.number_at.ensures (sym c.if-crowd-rival.true) (ltb-false _ _ is)

pub returns-else-crowd-rival-clause-yes : goal.returns-else-crowd-rival-clause-yes
returns-else-crowd-rival-clause-yes g c = λ is.
    ahead_larger c.args.slots.now c.args.slot c.args.other _ _ c.crowd_at-crowd.ensures c.crowd_at-rival.ensures (ltb-true _ _ is)

pub returns-else-crowd-rival-clause-no : goal.returns-else-crowd-rival-clause-no
returns-else-crowd-rival-clause-no g c = λ is.
    ahead_not c.args.slots.now c.args.other c.args.slot _ _ c.crowd_at-rival.ensures c.crowd_at-crowd.ensures
    (λ same. c.if-crowd-rival.false (sym same)) (ltb-false _ _ is)
