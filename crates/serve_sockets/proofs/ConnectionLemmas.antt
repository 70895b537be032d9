-- What a connection reads and writes.
use Rattle.std.{proofs.{Common.{◌≡◌, ◌≢◌, ◌<◌, ◌≤◌, ◌+◌, ◌-◌, ◌++◌, ◌∙◌, ℕ, Fits, w64, List, [], Option, Result, Ok, drop, length, min, take, ap, append-nil, arith, length-append, subst, sym}, lemmas.List.{drop-drop, drop_all, length-drop, length-take, take-append-drop, take-append-le, take_all}, KnownBytes.{append_known-kept, append_known-moved}}, specs.Io.KnownBytes.{Appends, Consumes, Keeps, WriteAppends, append_known}}
use Rattle.serve_sockets.specs.Connection.{Moves}

-- ---- reads

-- the smaller of two numbers
pub smaller_within : (n a b : ℕ) → n ≡ min a b → n ≤ b
smaller_within n a b is = omega (arith, is)

-- what is within a list is within it and another one after it
pub within_more : (n : ℕ) (a b : List ℕ) → n ≤ length a → n ≤ length (a ++ b)
within_more n a b within = omega (arith, within, length-append a b)

-- there is room to read into
pub has_room : (n a : ℕ) (got buffer : List ℕ) → n ≡ min a (length buffer) → length got ≡ length (take n buffer) → n ≢ 0 → 0 < length got
has_room n a got buffer is size some = omega (arith, is, size, some, length-take n buffer)

module _ (old new : Option (List ℕ)) (before : List ℕ) where
  -- no octet came
  pub moved_none : (count : ℕ) (got : List ℕ) → Consumes old new (take count got) → count ≡ 0 → Moves old new before before
  moved_none count got consumed none = record {
    octets = [];
    consumed = subst (λ (n : ℕ). Consumes old new (take n got)) none consumed;
    kept = sym (append-nil before);
  }

  -- the octets that came stand at the end of the input
  pub moved : (after got rest : List ℕ) (count : ℕ) → count ≤ length got → Consumes old new (take count got) → after ≡ before ++ take count (got ++ rest) → Moves old new before after
  moved after got rest count within consumed kept = record {
    octets = take count got;
    consumed = consumed;
    kept = kept ∙ ap (λ (octets : List ℕ). before ++ octets) (take-append-le count got rest within);
  }

-- ---- writes

-- what was taken and what was written before stay within an answer's octets
pub written_within : (w n : ℕ) (all octets : List ℕ) → all ≡ octets → w < length all → n ≤ length (take (length all - w) (drop w all)) → w + n ≤ length octets
written_within w n all octets same left taken =
    subst (λ (list : List ℕ). w + n ≤ length list) same (omega (arith, left, taken, length-take (length all - w) (drop w all)))

-- a count of an answer's octets fits
pub written_fits : (n m : ℕ) → n ≤ m → m < 18446744073709551616 → Fits w64 n
written_fits n m within few = omega (arith, within, few)

-- all is written
pub written_all : (w : ℕ) (all octets : List ℕ) → all ≡ octets → length all ≤ w → drop w octets ≡ []
written_all w all octets same past = drop_all w octets (subst (λ (list : List ℕ). length list ≤ w) same past)

module _ (old new : Option (List ℕ)) where
  -- nothing was written
  pub written_same : (left rest : List ℕ) → Keeps old new → left ≡ rest → Keeps (append_known old left) (append_known new rest)
  written_same left rest kept same = subst (λ (list : List ℕ). Keeps (append_known old left) (append_known new list)) same (append_known-kept old new left kept)

  -- so many octets were written
  pub written_more : (left all octets : List ℕ) (w n : ℕ) → left ≡ drop w octets → all ≡ octets → Appends old new (take n (take (length all - w) (drop w all)))
      → Keeps (append_known old left) (append_known new (drop (w + n) octets))
  written_more left all octets w n at same taken =
      let whole : take (length all - w) (drop w all) ≡ drop w all = take_all (length all - w) (drop w all) (omega (arith, length-drop w all)) in
      let front : take n (take (length all - w) (drop w all)) ≡ take n (drop w octets) =
      ap (take n) whole ∙ ap (λ (list : List ℕ). take n (drop w list)) same in
      let parts : drop w octets ≡ take n (drop w octets) ++ drop (w + n) octets =
      sym (take-append-drop n (drop w octets)) ∙ ap (λ (list : List ℕ). take n (drop w octets) ++ list) (drop-drop n w octets) in
      append_known-moved old new (take n (drop w octets)) (drop (w + n) octets) left (subst (Appends old new) front taken) (at ∙ parts)

  -- no octet was written
  pub written_none : {E : Type 0} (left rest buffer : List ℕ) (n : ℕ) (made : Result ℕ E) → WriteAppends old new made buffer → made ≡ Ok n → n ≡ 0 → left ≡ rest
      → Keeps (append_known old left) (append_known new rest)
  written_none {E} left rest buffer n made wrote is none at =
      let taken : Appends old new (take n buffer) = subst (λ (r : Result ℕ E). WriteAppends old new r buffer) is wrote in
      append_known-moved old new [] rest left (subst (λ (k : ℕ). Appends old new (take k buffer)) none taken) at
