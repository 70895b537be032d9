-- Laws of reads between calls, for the proofs of callers.
use Rattle.sql_schema.specs.{Words.{option_to_list, Row, overlay, Query, IsAnswer, State, Trees, filter_all, all_of, Hall, IsHeld, IsTableRead, SpellHall, IsQueryText, hall_schema}, Asking.Asks}
use Rattle.std.proofs.Common.{◌≡◌, ℕ, List, [], map, filter, true, Option, Some, None, Ok, Err, Result, refl, ap, ◌∙◌, slice_get}

-- a text that is a query, which shows these items of a hall
pub asks_by : {X : Type 0} {values : X → Row} {sql : List ℕ} {params : Row} {right : Hall → List X} {query : Query} → IsQueryText hall_schema sql query
    → ((db : Trees) (h : Hall) → SpellHall db h → (rows : List Row) → IsAnswer query (overlay db []) params rows → rows ≡ map values (right h)) → Asks values sql params right
asks_by {query = query} is answers = record { query = query; is = is; answers = answers }

-- where every row passes, all are shown
pub shows_all : {X : Type 0} {values : X → Row} {sql : List ℕ} {params : Row} {right : Hall → List X} → Asks values sql params (λ h. filter (λ _. true) (right h)) → Asks values sql params right
shows_all {values = values} {right = right} it = asks_by it.is (λ db h spells rows a. it.answers db h spells rows a ∙ ap (map values) (filter_all (λ _. true) (right h) (all_of _ (λ _. refl) (right h))))

-- what follows from what a read answers
pub reads : {Y E : Type 0} {old new : State} {Right : Hall → Y → Type 0} (Follows : Hall → Y → Type 0) (r : Result Y E) → IsTableRead old new r Right → ((h : Hall) (y : Y) → Right h y → Follows h y) → IsTableRead old new r Follows
reads Follows (Ok y) a follows = record { answer = λ h held. follows h y (a.answer h held); same = a.same; back = tt; crash = a.crash }
reads Follows (Err e) a follows = record { answer = tt; same = tt; back = a.back; crash = a.crash }

-- the first of one item or none
pub only_item : {X : Type 0} (o : Option X) → slice_get (option_to_list o) 0 ≡ o
only_item None = refl
only_item (Some x) = refl

-- a read after one that was answered is of the same hall
pub both : {X Y E : Type 0} {old mid new : State} {Right : Hall → X → Type 0} {Reads : Hall → Y → Type 0} (x : X) (r : Result Y E) → IsTableRead old mid {E = E} (Ok x) Right → IsTableRead mid new r Reads
    → IsTableRead old new r (λ h y. IsHeld old h × Right h x × Reads h y)
both x (Ok y) one other = record {
  answer = λ h held. (held, one.answer h held, other.answer h (one.same h held));
  same = λ h held. other.same h (one.same h held);
  back = tt;
  crash = λ h held hs left. other.crash h (one.same h held) hs (one.crash h held hs left);
}
both x (Err e) one other = record {
  answer = tt;
  same = tt;
  back = λ h held. other.back h (one.same h held);
  crash = λ h held hs left. other.crash h (one.same h held) hs (one.crash h held hs left);
}
