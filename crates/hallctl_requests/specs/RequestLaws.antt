-- Laws of requests: the desk reads each as the event that was meant, and no two are equal.
use Rattle.std.{proofs.Common.{◌≡◌, ℕ, List, [], map, refl, sym, ap, subst, ◌∙◌}, specs.{Prelude.{Result, Ok}, Result.result_unwrap_or}}
use Rattle.httparse.proofs.GrammarLemmas.{request_unique}
use Rattle.hall_events.specs.declared.event.Event.TheVariants as event
use Rattle.hall_http.specs.{BodyLaws.{short-answer_text, short-request_text}, EventLaws.{command_event, machines_event, machine_event, order_event, orders_event}}
use Rattle.hallctl_requests.specs.{Prelude.{RequestHead, ReadsRequest, name_and_value, Event, HttpFault, Answers, event_of_parts, IsEvent, after_head, of_head, front}, FieldLaws.{answer_length_is, body_length_is, bearer_is}, HeadLaws.{reads_head, after_head_is, few_fields}, Request.{Question, machines, machine, orders, answer, command, IsAuthority, IsBearerToken, IsSendable, fields_of, method_of, target_of, head_of, body_of, request_of, event_of}}

-- ---- each request

event_is : (authority token : List ℕ) (question : Question) → IsBearerToken token → IsSendable question
    → event_of_parts (method_of question) (target_of question) (map name_and_value (fields_of authority token question)) (body_of question) ≡ Ok (event_of token question)
event_is authority token machines t h =
    machines_event (map name_and_value (fields_of authority token machines)) [] ∙ ap (λ b. Ok (event.Machines b)) (bearer_is authority token machines t)
event_is authority token (machine id) t h =
    machine_event id h (map name_and_value (fields_of authority token (machine id))) []
    ∙ ap (λ b. Ok (event.OneMachine b id)) (bearer_is authority token (machine id) t)
event_is authority token orders t h =
    orders_event (map name_and_value (fields_of authority token orders)) [] ∙ ap (λ b. Ok (event.Orders b)) (bearer_is authority token orders t)
event_is authority token (answer order outcome) t h =
    order_event (map name_and_value (fields_of authority token (answer order outcome))) order outcome h (answer_length_is authority token order outcome (short-answer_text outcome))
    ∙ ap (λ b. Ok (event.OrderAnswer b order outcome)) (bearer_is authority token (answer order outcome) t)
event_is authority token (command key c) t h =
    command_event (map name_and_value (fields_of authority token (command key c))) key c h (body_length_is authority token key c (short-request_text key c h.whole h.parts))
    ∙ ap (λ b. Ok (event.Command b key c)) (bearer_is authority token (command key c) t)

-- the event of a head in front of octets
abbrev event_at : RequestHead → List ℕ → Result Event HttpFault
event_at head octets = of_head event_of_parts head (after_head head octets)

event_at_is : (authority token : List ℕ) (question : Question) → IsBearerToken token → IsSendable question
    → event_at (head_of authority token question) (request_of authority token question) ≡ Ok (event_of token question)
event_at_is authority token question t h =
    ap (λ (after : List ℕ). of_head event_of_parts (head_of authority token question) after) (after_head_is authority token question)
    ∙ event_is authority token question t h

-- the desk reads a request as what was asked
pub request_is_read : (authority token : List ℕ) (question : Question) → IsAuthority authority → IsBearerToken token → IsSendable question
    → (result : Result Event HttpFault) → IsEvent (request_of authority token question) result → Answers result (Ok (event_of token question))
request_is_read authority token question a t h result is =
    let reads = reads_head authority token question a t h in
    subst (λ stated. Answers result stated) (event_at_is authority token question t h)
    (is.head (head_of authority token question) reads.0 reads.1 (few_fields authority token question))

-- ---- both ways

-- what an event of a client asks
question_in : Event → Question
question_in (event.OneMachine bearer id) = machine id
question_in (event.Orders bearer) = orders
question_in (event.OrderAnswer bearer order outcome) = answer order outcome
question_in (event.Command bearer key c) = command key c
question_in other = machines

question_in-event_of : (token : List ℕ) (question : Question) → question_in (event_of token question) ≡ question
unfolding question_in
question_in-event_of token (command key c) = refl
question_in-event_of token other = refl

-- equal requests ask the same
pub one_question : (authority token : List ℕ) (one other : Question) → IsAuthority authority → IsBearerToken token → IsSendable one → IsSendable other
    → request_of authority token one ≡ request_of authority token other → one ≡ other
one_question authority token one other a t h g e =
    let here = reads_head authority token one a t h in
    let there = reads_head authority token other a t g in
    let again = subst (λ (octets : List ℕ). ReadsRequest (front octets) (head_of authority token other) there.0) (sym e) there.1 in
    let heads = (request_unique (front (request_of authority token one)) (head_of authority token one) (head_of authority token other) here.0 there.0 here.1 again).0 in
    let events =
    sym (event_at_is authority token one t h)
    ∙ ap (λ (head : RequestHead). event_at head (request_of authority token one)) heads
    ∙ ap (λ (octets : List ℕ). event_at (head_of authority token other) octets) e
    ∙ event_at_is authority token other t g in
    sym (question_in-event_of token one)
    ∙ ap (λ (r : Result Event HttpFault). question_in (result_unwrap_or r event.Quiet)) events
    ∙ question_in-event_of token other
