-- Laws of events, for the proofs of callers: what the desk makes of the requests that an operator's client sends.
use Rattle.std.{proofs.{Common.{◌≡◌, ◌+◌, ◌^◌, ◌<◌, ℕ, suc, Bool, true, false, List, [], ◌∷◌, ◌++◌, Option, length, refl, ap, subst, ◌∙◌, arith, take, drop, length-append}, lemmas.{Bool.{and_parts, le-leb, leb-true, lt-ltb, ltb-true, false_from_ne_true, eqb-true}, Fmt.decimal_nonempty, List.append-nil}, Math.Seq.take-length}, specs.{Prelude.{codes, cond, decimal, nat_le, nat_lt, not, ◌==◌, Ok}, List.{list_all, position_or_len}, Char.is_ascii_digit}}
use Rattle.hall_events.specs.Command.{request_text}
use Rattle.hall_events.specs.declared.event.Event.TheVariants as event
use Rattle.hall_http.specs.{Prelude.{has_slash, IsNumber, HallCommand, Outcome}, BodyLaws.{command_in-request_text, outcome_in-answer_text}, Command.{IsSendableCommand, answer_text}, Answer.◌>>=◌, DecimalLaws.{digits-decimal, number_of_text-decimal}, Demand.{demand_of, demand_for}, Event.{event_of_demand, event_of_parts}, Fields.{FieldPair, body_length, bearer}, Resource.IsSegment, Target.{segment, slash_index}}
use Rattle.hall_http.specs.declared.demand.Demand.TheVariants as demand
use Rattle.hall_http.specs.ResourceLaws as route

-- ---- commands

command_demand_is : (fields : List FieldPair) (size : ℕ) → body_length fields ≡ Ok size → demand_of (codes "POST") (codes "/commands") fields ≡ Ok (demand.Command (bearer fields) size)
unfolding demand_of demand_for
command_demand_is fields size e = rw (route.commands, e) refl

command_event_is : (bearer : Option (List ℕ)) (key : List ℕ) (c : HallCommand) → IsSendableCommand key c
    → event_of_demand (demand.Command bearer (length (request_text key c))) (request_text key c) ≡ Ok (event.Command bearer key c)
unfolding event_of_demand
command_event_is bearer key c h =
    rw (le-leb (length (request_text key c)) (length (request_text key c)) (omega arith), take-length (request_text key c), command_in-request_text key c h) refl

-- ---- lists

machines_demand_is : (fields : List FieldPair) → demand_of (codes "GET") (codes "/machines") fields ≡ Ok (demand.Machines (bearer fields))
unfolding demand_of demand_for
machines_demand_is fields = rw (route.machines) refl

orders_demand_is : (fields : List FieldPair) → demand_of (codes "GET") (codes "/orders") fields ≡ Ok (demand.Orders (bearer fields))
unfolding demand_of demand_for
orders_demand_is fields = rw (route.orders) refl

-- ---- one machine

-- digits have no slash
no_slash : (digits : List ℕ) → list_all is_ascii_digit digits ≡ true → has_slash digits ≡ false
no_slash [] h = refl
no_slash (digit ∷ digits) h =
    let both = and_parts (is_ascii_digit digit) (list_all is_ascii_digit digits) h in
    let low = leb-true 48 digit (and_parts (nat_le 48 digit) (nat_le digit 57) both.0).0 in
    rw (false_from_ne_true (digit == 47) (λ e. omega (arith, low, eqb-true digit 47 e)), no_slash digits both.1) refl

-- a text without a slash is passed over
slash_after : (front rest : List ℕ) → has_slash front ≡ false → position_or_len (λ octet. octet == 47) rest ≡ 0 → position_or_len (λ octet. octet == 47) (front ++ rest) ≡ length front
slash_after [] rest h at = at
slash_after (x ∷ front) rest h at = by (x == 47) (λ none. slash_after front rest none at) h
  where
    by : (b : Bool) → (has_slash front ≡ false → position_or_len (λ octet. octet == 47) (front ++ rest) ≡ length front) → cond b true (has_slash front) ≡ false
        → cond (not b) (1 + position_or_len (λ octet. octet == 47) (front ++ rest)) 0 ≡ suc (length front)
    by true later h = absurd cc
    by false later h = omega (arith, later h)

slash_index_is : (front rest : List ℕ) → has_slash front ≡ false → slash_index (front ++ 47 ∷ rest) ≡ length front
slash_index_is front rest h = rw (slash_after front (47 ∷ rest) h refl, lt-ltb (length front) (length (front ++ 47 ∷ rest)) (omega (arith, length-append front (47 ∷ rest)))) refl

no_slash_index : (text : List ℕ) → has_slash text ≡ false → slash_index text ≡ length text
no_slash_index text h =
    let passed : position_or_len (λ octet. octet == 47) text ≡ length text =
    subst (λ (all : List ℕ). position_or_len (λ octet. octet == 47) all ≡ length text) (append-nil text) (slash_after text [] h refl) in
    rw (passed, false_from_ne_true (nat_lt (length text) (length text)) (λ e. omega (arith, ltb-true (length text) (length text) e))) refl

machine_segment : (digits : List ℕ) → has_slash digits ≡ false → segment 2 (codes "/machines/" ++ digits) ≡ digits
machine_segment digits h =
    ap (λ (n : ℕ). segment 1 (drop (n + 1) (codes "/machines/" ++ digits))) (slash_index_is [] (codes "machines/" ++ digits) refl)
    ∙ ap (λ (n : ℕ). segment 0 (drop (n + 1) (codes "machines/" ++ digits))) (slash_index_is (codes "machines") digits refl)
    ∙ ap (λ (n : ℕ). take n digits) (no_slash_index digits h)
    ∙ take-length digits

machine_demand_is : (id : ℕ) → IsNumber id → (fields : List FieldPair) → demand_of (codes "GET") (codes "/machines/" ++ decimal id) fields ≡ Ok (demand.OneMachine (bearer fields) id)
unfolding demand_of demand_for
machine_demand_is id h fields =
    let small : id < 2 ^ 64 = omega arith in
    let free = no_slash (decimal id) (digits-decimal id small) in
    let part : IsSegment (decimal id) = record { some = λ e. omega (arith, ap length e, decimal_nonempty id small); one = free } in
    rw (route.machine_is (decimal id) part, machine_segment (decimal id) free, number_of_text-decimal id h) refl

-- ---- the answer to an order

order_segment : (digits : List ℕ) → has_slash digits ≡ false → segment 2 (codes "/orders/" ++ digits) ≡ digits
order_segment digits h =
    ap (λ (n : ℕ). segment 1 (drop (n + 1) (codes "/orders/" ++ digits))) (slash_index_is [] (codes "orders/" ++ digits) refl)
    ∙ ap (λ (n : ℕ). segment 0 (drop (n + 1) (codes "orders/" ++ digits))) (slash_index_is (codes "orders") digits refl)
    ∙ ap (λ (n : ℕ). take n digits) (no_slash_index digits h)
    ∙ take-length digits

order_demand_is : (order : ℕ) → IsNumber order → (fields : List FieldPair) (size : ℕ) → body_length fields ≡ Ok size
    → demand_of (codes "POST") (codes "/orders/" ++ decimal order) fields ≡ Ok (demand.OrderAnswer (bearer fields) order size)
unfolding demand_of demand_for
order_demand_is order h fields size e =
    let small : order < 2 ^ 64 = omega arith in
    let free = no_slash (decimal order) (digits-decimal order small) in
    let part : IsSegment (decimal order) = record { some = λ e. omega (arith, ap length e, decimal_nonempty order small); one = free } in
    rw (route.order_is (decimal order) part, order_segment (decimal order) free, number_of_text-decimal order h, e) refl

order_event_is : (bearer : Option (List ℕ)) (order : ℕ) (outcome : Outcome)
    → event_of_demand (demand.OrderAnswer bearer order (length (answer_text outcome))) (answer_text outcome) ≡ Ok (event.OrderAnswer bearer order outcome)
unfolding event_of_demand
order_event_is bearer order outcome =
    rw (le-leb (length (answer_text outcome)) (length (answer_text outcome)) (omega arith), take-length (answer_text outcome), outcome_in-answer_text outcome) refl

-- ---- events

pub command_event : (fields : List FieldPair) (key : List ℕ) (c : HallCommand) → IsSendableCommand key c → body_length fields ≡ Ok (length (request_text key c))
    → event_of_parts (codes "POST") (codes "/commands") fields (request_text key c) ≡ Ok (event.Command (bearer fields) key c)
command_event fields key c h e =
    ap (λ r. r >>= (λ d. event_of_demand d (request_text key c))) (command_demand_is fields (length (request_text key c)) e)
    ∙ command_event_is (bearer fields) key c h

pub machines_event : (fields : List FieldPair) (after : List ℕ) → event_of_parts (codes "GET") (codes "/machines") fields after ≡ Ok (event.Machines (bearer fields))
unfolding event_of_demand
machines_event fields after = ap (λ r. r >>= (λ d. event_of_demand d after)) (machines_demand_is fields)

pub orders_event : (fields : List FieldPair) (after : List ℕ) → event_of_parts (codes "GET") (codes "/orders") fields after ≡ Ok (event.Orders (bearer fields))
unfolding event_of_demand
orders_event fields after = ap (λ r. r >>= (λ d. event_of_demand d after)) (orders_demand_is fields)

pub machine_event : (id : ℕ) → IsNumber id → (fields : List FieldPair) (after : List ℕ)
    → event_of_parts (codes "GET") (codes "/machines/" ++ decimal id) fields after ≡ Ok (event.OneMachine (bearer fields) id)
unfolding event_of_demand
machine_event id h fields after = ap (λ r. r >>= (λ d. event_of_demand d after)) (machine_demand_is id h fields)

pub order_event : (fields : List FieldPair) (order : ℕ) (outcome : Outcome) → IsNumber order → body_length fields ≡ Ok (length (answer_text outcome))
    → event_of_parts (codes "POST") (codes "/orders/" ++ decimal order) fields (answer_text outcome) ≡ Ok (event.OrderAnswer (bearer fields) order outcome)
order_event fields order outcome h e =
    ap (λ r. r >>= (λ d. event_of_demand d (answer_text outcome))) (order_demand_is order h fields (length (answer_text outcome)) e)
    ∙ order_event_is (bearer fields) order outcome
