-- What came as steps of the model.
use Rattle.std.proofs.Common.{◌≡◌, List, [], ◌∷◌, Some, refl, sym, subst, inl, inr}
use Rattle.hall_laws.specs.{Decision.decision_of, Step.Arrival as MachineArrival}
use Rattle.hall_desk.specs.{Prelude.{Hall, applied, IsRun, IsTyped, IsTypedStep, Step, AreTyped, Content, Event}, Octets.{IsOfType, Leads, Meaning, Means, answered, asks}, declared.arrival.Answer.Answer, History.{AllLead, AreStepsOf, Carried, Exchange, IsAside, IsAsked, IsCarried, IsCarriedBy, IsStepOf, Item, ItemLeads, Unanswered, answered_by, carried, exchange, replied_by, unanswered, unreplied}}

put_aside : (item : Item) (items : List Item) (steps : List Step) → IsAside item → AreStepsOf items steps → AreStepsOf (item ∷ items) steps
put_aside item items [] aside are = (aside, are)
put_aside item items (s ∷ steps) aside are = inr (aside, are)

abbrev Found : Hall → List Item → Hall → Type 0
Found h items end = (steps : List Step) × IsRun h steps end × AreStepsOf items steps

aside : (h next end : Hall) (item : Item) (items : List Item) → IsAside item → next ≡ h → Found next items end → Found h (item ∷ items) end
aside h next end item items is same rest =
    (rest.0, subst (λ from. IsRun from rest.0 end) same rest.1, put_aside item items rest.0 is rest.2)

-- the step of the model that an arrival is on a hall
abbrev step_at : Hall → MachineArrival → Hall → Step
step_at h at next = record { before = h; arrival = at; answer = Some (decision_of at.site h at.event at.moment at.fresh).content; after = next }

-- an item that was this step
one_step : (h next end : Hall) (at : MachineArrival) (item : Item) (items : List Item) → next ≡ applied (decision_of at.site h at.event at.moment at.fresh).rows h
    → IsStepOf item (step_at h at next) → Found next items end → Found h (item ∷ items) end
one_step h next end at item items after is rest =
    (step_at h at next ∷ rest.0, (inl refl, inl (record { answer = refl; after = after }), rest.1), inl (is, rest.2))

-- an event that octets asked for
abbrev asked_at : Exchange → Event → MachineArrival
asked_at x e = record { site = x.site; event = e; moment = x.arrival.moment; fresh = x.arrival.fresh }

asked_by : (h next : Hall) (x : Exchange) (e : Event) (say : Content → Answer) → Means x.site x.arrival.input (asks e say)
    → x.answer ≡ say (decision_of x.site h e x.arrival.moment x.arrival.fresh).content → IsTyped x.site e x.arrival.fresh → IsAsked x (step_at h (asked_at x e) next)
asked_by h next x e say means sent typed = record {
  event = e;
  say = say;
  means = means;
  arrived = refl;
  content = (decision_of x.site h e x.arrival.moment x.arrival.fresh).content;
  gave = refl;
  sent = sent;
  typed = typed;
}

by_meaning : (h next end : Hall) (x : Exchange) (items : List Item) (m : Meaning) → Means x.site x.arrival.input m
    → Leads x.site h x.arrival.moment x.arrival.fresh m x.answer next → IsOfType x.site x.arrival.fresh m → Found next items end → Found h (exchange x ∷ items) end
by_meaning h next end x items (answered a) means leads typed rest =
    aside h next end (exchange x) items (inl (subst (λ b. Means x.site x.arrival.input (answered b)) (sym leads.0) means)) leads.1 rest
by_meaning h next end x items (asks e say) means leads typed rest =
    one_step h next end (asked_at x e) (exchange x) items leads.1 (asked_by h next x e say means leads.0 typed) rest

by_unanswered : (h next end : Hall) (x : Unanswered) (items : List Item) (a : Answer) (m : Meaning) → Means x.site x.arrival.input m
    → Leads x.site h x.arrival.moment x.arrival.fresh m a next → IsOfType x.site x.arrival.fresh m → Found next items end → Found h (unanswered x ∷ items) end
by_unanswered h next end x items a (answered its) means leads typed rest = aside h next end (unanswered x) items (its, means) leads.1 rest
by_unanswered h next end x items a (asks e say) means leads typed rest =
    one_step h next end (asked_at (answered_by x a) e) (unanswered x) items leads.1 (a, asked_by h next (answered_by x a) e say means leads.0 typed) rest

-- an event that was carried out
abbrev carried_at : Carried → MachineArrival
carried_at c = record { site = c.site; event = c.event; moment = c.moment; fresh = c.fresh }

carried_by : (h next : Hall) (c : Carried) → IsCarried h c next → IsCarriedBy c (step_at h (carried_at c) next)
carried_by h next c it =
    record { arrived = refl; content = (decision_of c.site h c.event c.moment c.fresh).content; gave = refl; replied = it.reply; typed = it.typed }

pub steps_of : (h : Hall) (items : List Item) (end : Hall) → AllLead h items end → Found h items end
steps_of h [] end led = ([], inl led, refl)
steps_of h (exchange x ∷ items) end led = by led.1 (steps_of led.0 items end led.2)
  where
    by : ItemLeads h (exchange x) led.0 → Found led.0 items end → Found h (exchange x ∷ items) end
    by (inl come) rest = by_meaning h led.0 end x items come.meaning come.means come.leads come.typed rest
    by (inr missed) rest = aside h led.0 end (exchange x) items (inr missed.answer) missed.same rest
steps_of h (carried c ∷ items) end led =
    one_step h led.0 end (carried_at c) (carried c) items led.1.after (carried_by h led.0 c led.1) (steps_of led.0 items end led.2)
steps_of h (unanswered x ∷ items) end led =
    let come = led.1.1 in
    by_unanswered h led.0 end x items led.1.0 come.meaning come.means come.leads come.typed (steps_of led.0 items end led.2)
steps_of h (unreplied c ∷ items) end led =
    let by = replied_by c led.1.0 in
    one_step h led.0 end (carried_at by) (unreplied c) items led.1.1.after (led.1.0, carried_by h led.0 by led.1.1) (steps_of led.0 items end led.2)

-- ---- what the steps bring

typed_arrival : (s : Step) (a : MachineArrival) → s.arrival ≡ a → IsTyped a.site a.event a.fresh → IsTypedStep s
typed_arrival s a is typed = subst (λ (its : MachineArrival). IsTyped its.site its.event its.fresh) (sym is) typed

step_typed : (item : Item) (s : Step) → IsStepOf item s → IsTypedStep s
step_typed (exchange x) s it = typed_arrival s _ it.arrived it.typed
step_typed (carried c) s it = typed_arrival s _ it.arrived it.typed
step_typed (unanswered x) s it = typed_arrival s _ it.1.arrived it.1.typed
step_typed (unreplied c) s it = typed_arrival s _ it.1.arrived it.1.typed

pub are_typed : (items : List Item) (steps : List Step) → AreStepsOf items steps → AreTyped steps
are_typed [] steps are = subst AreTyped (sym are) tt
are_typed (x ∷ items) [] are = tt
are_typed (x ∷ items) (s ∷ steps) (inl it) = (step_typed x s it.0, are_typed items steps it.1)
are_typed (x ∷ items) (s ∷ steps) (inr it) = are_typed items (s ∷ steps) it.1
