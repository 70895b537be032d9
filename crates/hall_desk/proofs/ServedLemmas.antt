-- Known octets over several calls, and what follows once a request is decided.
use Rattle.std.{proofs.Common.{inl, inr, ◌≡◌, ◌⊎◌, ◌≤◌, ◌+◌, ℕ, List, [], ◌++◌, append-nil, length, take, Option, Some, None, sym, ◌∙◌, ap, subst, append_assoc}, specs.{Prelude.{Bool, false, IfSome}, Io.KnownBytes.{Appends, Consumes, IsAtEnd}}}
use Rattle.hall_http.specs.Decided.{IsDecided}
use Rattle.hall_desk.specs.{Prelude.{Site, Ends, Ghosts}, Attempt.IsAnswered, Octets.octets_of, Served.{IfFailed, IfNotFailed, IsReadByNeed, IsReadInTime, IsRequestOf, IsSent, IsServed, IsWritten, TakesWhole}, declared.{reading.Reading.{Reading, TheVariants.{Failed, NoMemory, Whole}}, arrival.{Answer.Answer, Input.TheVariants.Request}, serving.Served.{Served, TheVariants.{Answered, ReadFailed, WriteFailed}}}}

pub consumes_then : (a b c : Option (List ℕ)) (xs ys : List ℕ) → Consumes a b xs → Consumes b c ys → Consumes a c (xs ++ ys)
consumes_then None b c xs ys f g = tt
consumes_then (Some xa) None c xs ys f g = absurd f
consumes_then (Some xa) (Some bs) None xs ys f g = absurd g
consumes_then (Some xa) (Some bs) (Some cs) xs ys f g = f ∙ ap (λ t. xs ++ t) g ∙ sym (append_assoc xs ys cs)

pub appends_then : (a b c : Option (List ℕ)) (xs ys : List ℕ) → Appends a b xs → Appends b c ys → Appends a c (xs ++ ys)
appends_then None b c xs ys f g = tt
appends_then (Some xa) None c xs ys f g = absurd f
appends_then (Some xa) (Some bs) None xs ys f g = absurd g
appends_then (Some xa) (Some bs) (Some cs) xs ys f g = g ∙ ap (λ t. t ++ ys) f ∙ append_assoc xa xs ys

-- a last read takes its octets
pub in_time_read : (old mid new : Option (List ℕ)) (octets more : List ℕ) → Consumes old mid octets → Consumes mid new more → length more ≤ 512 → (octets ≡ []) ⊎ ¬ (Ends octets) → IsReadInTime old new
in_time_read old mid new octets more read taken short undone = record { front = octets; last = more; consumed = consumes_then old mid new octets more read taken; undecided = undone; short = short }

-- the end of the input is found by one call more
pub by_need_end : (old mid new : Option (List ℕ)) (octets more : List ℕ) (count calls takes : ℕ) → Consumes old mid octets → Consumes mid new (take count more) → count ≡ 0
    → calls ≡ takes + 1 → calls ≤ 4096 → (octets ≡ []) ⊎ ¬ (Ends octets) → IsReadByNeed old new calls takes
by_need_end old mid new octets more count calls takes read taken none one most undone = record {
  octets = octets;
  consumed =
      subst (λ its. Consumes old new its) (append-nil octets)
      (consumes_then old mid new octets [] read (subst (λ n. Consumes mid new (take n more)) none taken));
  needed = inr (one, undone);
  most = most;
}

-- and so it does where each call before it gave octets, too
pub by_need_read : (old mid new : Option (List ℕ)) (octets more : List ℕ) (calls takes : ℕ) → Consumes old mid octets → Consumes mid new more → calls ≡ takes → calls ≤ 4096 → IsReadByNeed old new calls takes
by_need_read old mid new octets more calls takes read taken same most = record { octets = octets ++ more; consumed = consumes_then old mid new octets more read taken; needed = inl same; most = most }

pub reads_whole : (r : Reading) (octets : List ℕ) (old new : Option (List ℕ)) → IsRequestOf octets r → Consumes old new octets → (IsAtEnd new ⊎ IsDecided octets) → TakesWhole r old new
reads_whole (Whole request) octets old new is consumed ends = subst (λ its. TakesWhole (Whole its) old new) (sym is) (consumed, ends)
reads_whole NoMemory octets old new is consumed ends = tt
reads_whole Failed octets old new is consumed ends = absurd is

pub whole_unfailed : (r : Reading) (octets : List ℕ) (failed : Bool) → IsRequestOf octets r → failed ≡ false → IfNotFailed r failed
whole_unfailed (Whole request) octets failed is unfailed = unfailed
whole_unfailed NoMemory octets failed is unfailed = unfailed
whole_unfailed Failed octets failed is unfailed = tt

pub whole_isnt_failed : (r : Reading) (octets : List ℕ) (failed : Bool) (takes : ℕ) → IsRequestOf octets r → IfFailed r failed takes
whole_isnt_failed (Whole request) octets failed takes is = tt
whole_isnt_failed NoMemory octets failed takes is = tt
whole_isnt_failed Failed octets failed takes is = absurd is

module _ {S : Type 0} (g : Ghosts S) (old new : S) (site : Site) (moment : ℕ) (fresh : List ℕ) where
  -- what was written of an answer serves the input
  pub served_from : (input held after : Option (List ℕ)) (a : Answer) (result : Served) → IsWritten result
      → IfSome input (λ all. IsAnswered g old new site (Request all) moment fresh a) → IfSome held (λ before. IsSent (octets_of a) before result after)
      → IfSome input (λ all. IfSome held (λ before. IsServed g old new site moment fresh all before result after))
  served_from (Some all) (Some before) after a Answered w s t = (a, s, t)
  served_from (Some all) (Some before) after a ReadFailed w s t = absurd w
  served_from (Some all) (Some before) after a (WriteFailed n) w s t = (a, s, t.0, t.1)
  served_from input held after a result w s t = tt
