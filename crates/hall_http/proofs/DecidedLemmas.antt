-- What more octets do to a request: nothing, once it is decided.
use Rattle.std.{proofs.{Common.{◌≡◌, inl, inr, zero, suc, ◌∷◌, length-append, ◌≤◌, ℕ, List, [], ◌++◌, length, take, Result, Ok, Err, IfOk, refl, sym, ap, subst, arith}, lemmas.{Bool.le-leb, List.{take-append-le}}}}
use Rattle.httparse.proofs.GrammarLemmas.{request_prefix_free, ReadsRequest-append}
use Rattle.hall_http.specs.{Prelude.{RequestHead, ReadsRequest, NeverHasRequest, EndsInTarget, MayBecomeRequest}, declared.{fault.HttpFault.HttpFault, demand.Demand.{Demand, TheVariants.{Report, OrderAnswer, Command}}}, Answer.{Answers, ◌>>=◌}, Demand.{body_size}, Event.{body_of, event_of_demand}, Fields.FieldPair, Head.HasNoHead, Request.{IsAnswer, front, after_head, of_head}, Decided.{Ends}}

-- ---- the front of more octets

-- it is the front, and then some of them
pub front_goes_on : (n : ℕ) (octets more : List ℕ) → (some : List ℕ) × (take n (octets ++ more) ≡ take n octets ++ some)
front_goes_on zero octets more = ([], refl)
front_goes_on (suc n) [] more = (take (suc n) more, refl)
front_goes_on (suc n) (octet ∷ octets) more = let later = front_goes_on n octets more in (later.0, ap (λ (t : List ℕ). octet ∷ t) later.1)

-- ---- the answer to more octets

module _ {T : Type 0} (answer : List ℕ → List ℕ → List FieldPair → List ℕ → Result T HttpFault) where
  -- no head in either
  pub headless : (octets more : List ℕ) (result : Result T HttpFault) → HasNoHead (front octets) 64 → HasNoHead (front (octets ++ more)) 64
      → IsAnswer answer octets result → IsAnswer answer (octets ++ more) result
  headless octets more result here there h = record {
    head = λ head rest reads few. absurd (omega (arith, there head rest reads));
    none = λ _. h.none here;
  }

  -- a head that makes nothing of the octets that come later
  pub complete : (octets more : List ℕ) (result : Result T HttpFault) (head : RequestHead) (rest : List ℕ)
      → ReadsRequest (front octets) head rest → length head.fields ≤ 64
      → of_head answer head (after_head head (octets ++ more)) ≡ of_head answer head (after_head head octets)
      → IsAnswer answer octets result → IsAnswer answer (octets ++ more) result
  complete octets more result head rest reads few same given =
      let on = front_goes_on 8192 octets more in
      let here : Answers result (of_head answer head (after_head head (octets ++ more))) =
      subst (λ (r : Result T HttpFault). Answers result r) (sym same) (given.head head rest reads few) in
      record {
        head = λ other left others _.
            let one = request_prefix_free (front octets) on.0 head other rest left reads
            (subst (λ (f : List ℕ). ReadsRequest f other left) on.1 others) in
            subst (λ (k : RequestHead). Answers result (of_head answer k (after_head k (octets ++ more)))) one.0 here;
        none = λ lacks. absurd (omega (
          arith,
          lacks head (rest ++ on.0)
              (subst (λ (f : List ℕ). ReadsRequest f head (rest ++ on.0)) (sym on.1) (ReadsRequest-append (front octets) head rest on.0 reads)),
        ));
      }

-- ---- bodies that are whole

body_stays : (size : ℕ) (after more : List ℕ) → size ≤ length after → body_of size (after ++ more) ≡ body_of size after
body_stays size after more h =
    let longer : size ≤ length (after ++ more) = rw length-append (omega (arith, h)) in
    rw (le-leb _ _ longer, le-leb _ _ h, take-append-le size after more h) refl

event_stays : (demand : Demand) (after more : List ℕ) → body_size demand ≤ length after → event_of_demand demand (after ++ more) ≡ event_of_demand demand after
unfolding event_of_demand
event_stays (Report boot token size) after more h = rw (body_stays size after more h) refl
event_stays (OrderAnswer bearer order size) after more h = rw (body_stays size after more h) refl
event_stays (Command bearer size) after more h = rw (body_stays size after more h) refl
event_stays other after more h = refl

pub answer_stays : (demand : Result Demand HttpFault) (after more : List ℕ) → IfOk demand (λ demand. body_size demand ≤ length after)
    → (demand >>= (λ demand. event_of_demand demand (after ++ more))) ≡ (demand >>= (λ demand. event_of_demand demand after))
answer_stays (Ok demand) after more h = event_stays demand after more h
answer_stays (Err fault) after more h = refl

-- ---- where reading must stop

not_open : (octets : List ℕ) → NeverHasRequest octets → ¬ (EndsInTarget octets) → MayBecomeRequest octets → ⊥
not_open octets never target (inl may) = never may.0 may.1 [] may.2
not_open octets never target (inr ends) = target ends

-- a front without a head must be full
pub open_ends : (octets : List ℕ) → HasNoHead (front octets) 64 → MayBecomeRequest (front octets) → Ends octets → 8192 ≤ length octets
open_ends octets none waits (inl whole) = absurd (omega (arith, none whole.head whole.rest whole.reads, whole.few))
open_ends octets none waits (inr (inl bad)) = absurd (not_open (front octets) bad.never bad.target waits)
open_ends octets none waits (inr (inr long)) = long.full
