-- What is known of a request's head while octets come, and the event that it makes.
use Rattle.std.{proofs.{Common.{◌≡◌, inl, inr, ◌≤◌, ℕ, List, [], ◌++◌, append_assoc, length-append, length-take, length, drop, Option, Some, None, Result, Err, refl, sym, ap, subst, arith}, lemmas.List.{append-nil, take-append-le, drop-append-le}}}
use Rattle.httparse.proofs.GrammarLemmas.{request_unique, ReadsRequest-append}
use Rattle.hall_http.{specs.{Prelude.{RequestHead, ReadsRequest, print_request, RequestOverflows, Event}, declared.{fault.HttpFault.{HttpFault, TheVariants.{BadRequest}}, demand.Demand.Demand, known.KnownHead.{KnownHead, TheVariants.{Never, Found}}}, Answer.Answers, Event.event_of_parts, Head.{HasNoHead}, Request.{IsEvent, front, after_head, of_head}, Decided.{IsDecided, Ends}, Reading.{asked_by, HasDemand, NeverHasHead, IsKnown, IsKnownIfAny, IsReadyFor, event_after}}, proofs.DecidedLemmas.{front_goes_on, headless, complete, answer_stays}}

-- ---- no head

-- a full front stays as it is
pub never_if_full : (octets : List ℕ) → HasNoHead (front octets) 64 → 8192 ≤ length octets → NeverHasHead octets
never_if_full octets here h = λ more. subst (λ (f : List ℕ). HasNoHead f 64) (sym (take-append-le 8192 octets more h)) here

-- a front that no octets can complete
pub never_if_over : (octets : List ℕ) → RequestOverflows 64 (front octets) → NeverHasHead octets
never_if_over octets over = λ more.
    let on = front_goes_on 8192 octets more in
    subst (λ (f : List ℕ). HasNoHead f 64) (sym on.1) (over on.0)

-- there is none yet
never_now : (octets : List ℕ) → NeverHasHead octets → HasNoHead (front octets) 64
never_now octets never = subst (λ (all : List ℕ). HasNoHead (front all) 64) (append-nil octets) (never [])

-- ---- a head

-- it is among the octets
pub head_fits : (octets : List ℕ) (len : ℕ) (demand : Result Demand HttpFault) → HasDemand octets len demand → len ≤ length octets
head_fits octets len demand h =
    omega (arith, h.len_is, ap length h.reads.1, length-append (print_request h.head) h.rest, length-take 8192 octets)

-- ---- what more octets do

-- what is known holds of more octets
pub known_stays : (known : KnownHead) (octets more : List ℕ) → IsKnown octets known → IsKnown (octets ++ more) known
known_stays Never octets more never = λ later.
    subst (λ (all : List ℕ). HasNoHead (front all) 64) (sym (append_assoc octets more later)) (never (more ++ later))
known_stays (Found len demand) octets more h =
    let on = front_goes_on 8192 octets more in
    record {
      head = h.head;
      rest = h.rest ++ on.0;
      reads = subst (λ (f : List ℕ). ReadsRequest f h.head (h.rest ++ on.0)) (sym on.1) (ReadsRequest-append (front octets) h.head h.rest on.0 h.reads);
      few = h.few;
      len_is = h.len_is;
      asks = h.asks;
    }

pub known_if_any_stays : (known : Option KnownHead) (octets more : List ℕ) → IsKnownIfAny octets known → IsKnownIfAny (octets ++ more) known
known_if_any_stays None octets more h = tt
known_if_any_stays (Some known) octets more h = known_stays known octets more h

-- a request without a head is decided
pub never_decides : (octets : List ℕ) → NeverHasHead octets → IsDecided octets
never_decides octets never = λ more result given. headless event_of_parts octets more result (never_now octets never) (never more) given

-- so is one with a refused head or all of its body
pub ready_decides : (octets : List ℕ) (len : ℕ) (demand : Result Demand HttpFault) (after : List ℕ)
    → HasDemand octets len demand → after ≡ drop len octets → IsReadyFor demand after → IsDecided octets
ready_decides octets len demand after h a ready = λ more result given.
    let n : length (print_request h.head) ≤ length octets = omega (arith, h.len_is, head_fits octets len demand h) in
    let here : IsReadyFor (asked_by h.head) (after_head h.head octets) = rw (h.asks, a, h.len_is) at ready in
    complete event_of_parts octets more result h.head h.rest h.reads h.few
    (rw (drop-append-le (length (print_request h.head)) octets more n)
    (answer_stays (asked_by h.head) (after_head h.head octets) more here))
    given

-- where reading must stop, the head is refused or all of the body is there
pub ends_ready : (octets : List ℕ) (len : ℕ) (demand : Result Demand HttpFault) (after : List ℕ)
    → HasDemand octets len demand → after ≡ drop len octets → Ends octets → IsReadyFor demand after
ends_ready octets len demand after h a (inl whole) =
    let one = request_unique (front octets) whole.head h.head whole.rest h.rest whole.reads h.reads in
    let here : IsReadyFor (asked_by h.head) (after_head h.head octets) =
    subst (λ (k : RequestHead). IsReadyFor (asked_by k) (after_head k octets)) one.0 whole.ready in
    rw (h.asks, a, h.len_is) here
ends_ready octets len demand after h a (inr (inl bad)) =
    absurd (bad.never [] h.head h.rest (subst (λ (f : List ℕ). ReadsRequest f h.head h.rest) (sym (append-nil (front octets))) h.reads))
ends_ready octets len demand after h a (inr (inr long)) = absurd (omega (arith, long.headless h.head h.rest h.reads, h.few))

-- ---- events

-- the event of the head that was found
pub event_of_head : (octets : List ℕ) (len : ℕ) (demand : Result Demand HttpFault) (after : List ℕ) (result : Result Event HttpFault)
    → HasDemand octets len demand → after ≡ drop len octets → Answers result (event_after demand after) → IsEvent octets result
event_of_head octets len demand after result h a given =
    let here : Answers result (of_head event_of_parts h.head (after_head h.head octets)) = rw (h.asks, a, h.len_is) at given in
    record {
      head = λ other left others _.
          let one = request_unique (front octets) h.head other h.rest left h.reads others in
          subst (λ (k : RequestHead). Answers result (of_head event_of_parts k (after_head k octets))) one.0 here;
      none = λ lacks. absurd (omega (arith, lacks h.head h.rest h.reads, h.few));
    }

-- the fault of a request without a head
pub event_of_never : (octets : List ℕ) → NeverHasHead octets → IsEvent octets (Err BadRequest)
event_of_never octets never = record {
  head = λ head rest reads few. absurd (omega (arith, never_now octets never head rest reads, few));
  none = λ _. refl;
}
