use Rattle.std.proofs.Common.{arith, refl}
use Rattle.serve_sockets.proofs.{OwnLemmas.answers_then, TurnLemmas.{nothing_handed, other_pace, quiet_pace, turn_after, turns_within}}
use Rattle.serve_sockets.proofs.service.Service.turn.Goals as goal

pub overflow_add-self : goal.overflow_add-self
overflow_add-self g c = omega (arith, c.args.self.now.few)

pub invariant_of-self : goal.invariant_of-self
invariant_of-self g c = record { few = turns_within c.args.self.now.turns }

pub invariant_of-self-in-Some-1 : goal.invariant_of-self-in-Some-1
invariant_of-self-in-Some-1 g c = record { few = turns_within c.args.self.now.turns }

pub invariant_of-self-in-None : goal.invariant_of-self-in-None
invariant_of-self-in-None g c = record { few = turns_within c.args.self.now.turns }

pub invariant_of-self-in-Port-1 : goal.invariant_of-self-in-Port-1
invariant_of-self-in-Port-1 g c = record { few = turns_within c.args.self.now.turns }

pub invariant_of-self-in-Some-Listener : goal.invariant_of-self-in-Some-Listener
invariant_of-self-in-Some-Listener g c = record { few = turns_within c.args.self.now.turns }

pub invariant_of-self-in-Connection-1 : goal.invariant_of-self-in-Connection-1
invariant_of-self-in-Connection-1 g c = record { few = turns_within c.args.self.now.turns }

pub connection-requires : goal.connection-requires
connection-requires g c = rw c.in-Some-Connection.field-0-is at c.in-Some-Connection.ensures.place

pub returns-then-is_quiet_turn-clause-desk : goal.returns-then-is_quiet_turn-clause-desk
returns-then-is_quiet_turn-clause-desk g c = c.quiet.ensures.desk

pub returns-in-Some-clause-desk : goal.returns-in-Some-clause-desk
returns-in-Some-clause-desk g c =
    nothing_handed g.S.HallStore _ _ _ _ c.in-Some.turn c.in-Some.ensures.none c.in-Some.ensures.answers

pub returns-in-None-clause-desk : goal.returns-in-None-clause-desk
returns-in-None-clause-desk g c =
    turn_after g.S.HallStore _ _ _ _ _ _ _
    (answers_then _ _ _ c.close_late.ensures.answers c.pick.ensures.answers) c.quiet-in-None.ensures.desk

pub returns-in-Some-Port-clause-desk : goal.returns-in-Some-Port-clause-desk
returns-in-Some-Port-clause-desk g c =
    turn_after g.S.HallStore _ _ _ _ _ _ _
    (answers_then _ _ _ c.close_late.ensures.answers c.pick.ensures.answers) c.datagram.ensures.desk

pub returns-in-Some-Listener-clause-desk : goal.returns-in-Some-Listener-clause-desk
returns-in-Some-Listener-clause-desk g c =
    nothing_handed g.S.HallStore _ _ _ _ c.accept.result c.accept.ensures.none
    (answers_then _ _ _ (answers_then _ _ _ c.close_late.ensures.answers c.pick.ensures.answers) c.accept.ensures.answers)

pub returns-in-Some-Connection-clause-desk : goal.returns-in-Some-Connection-clause-desk
returns-in-Some-Connection-clause-desk g c =
    turn_after g.S.HallStore _ _ _ _ _ _ _
    (answers_then _ _ _ c.close_late.ensures.answers c.pick.ensures.answers) c.connection.ensures.desk

pub returns-then-is_quiet_turn-clause-pace : goal.returns-then-is_quiet_turn-clause-pace
returns-then-is_quiet_turn-clause-pace g c = quiet_pace _ _ c.quiet.result c.quiet.ensures.kind c.quiet.ensures.turns c.quiet.ensures.opened c.quiet.ensures.shut

pub returns-in-None-clause-pace : goal.returns-in-None-clause-pace
returns-in-None-clause-pace g c = quiet_pace _ _ c.quiet-in-None.result c.quiet-in-None.ensures.kind c.quiet-in-None.ensures.turns c.quiet-in-None.ensures.opened c.quiet-in-None.ensures.shut

pub returns-in-Some-clause-pace : goal.returns-in-Some-clause-pace
returns-in-Some-clause-pace g c = other_pace _ _ _ (c.is_quiet_turn.ensures.opening c.if-is_quiet_turn.false) (c.is_quiet_turn.ensures.eighth c.if-is_quiet_turn.false) refl refl

pub returns-in-Some-Listener-clause-pace : goal.returns-in-Some-Listener-clause-pace
returns-in-Some-Listener-clause-pace g c = other_pace _ _ _ (c.is_quiet_turn.ensures.opening c.if-is_quiet_turn.false) (c.is_quiet_turn.ensures.eighth c.if-is_quiet_turn.false) refl refl

pub returns-in-Some-Port-clause-pace : goal.returns-in-Some-Port-clause-pace
returns-in-Some-Port-clause-pace g c = other_pace _ _ _ (c.is_quiet_turn.ensures.opening c.if-is_quiet_turn.false) (c.is_quiet_turn.ensures.eighth c.if-is_quiet_turn.false) c.datagram.ensures.turns c.datagram.ensures.opening

pub returns-in-Some-Connection-clause-pace : goal.returns-in-Some-Connection-clause-pace
returns-in-Some-Connection-clause-pace g c = other_pace _ _ _ (c.is_quiet_turn.ensures.opening c.if-is_quiet_turn.false) (c.is_quiet_turn.ensures.eighth c.if-is_quiet_turn.false) c.connection.ensures.turns c.connection.ensures.opening
