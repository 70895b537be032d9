-- Which connection goes for another one where there is no room.
use Rattle.std.specs.Prelude.{◌≡◌, ◌<◌, ◌≤◌, ℕ, List, Bool, false, ◌==◌, Option, None, Some, count_by, length, slice_get, slice_index}
use Rattle.serve_sockets.specs.{Connection.undecided_bucket, Table.number_at, declared.connection.Connection.Connection}

-- whether a bucket is this one
abbrev pub is_bucket : ℕ → Option ℕ → Bool
is_bucket bucket None = false
is_bucket bucket (Some other) = other == bucket

module _ {T : Type 0} where
  -- the bucket of a slot's connection, if that is undecided
  abbrev pub bucket_in : Option (Connection T) → Option ℕ
  bucket_in None = None
  bucket_in (Some connection) = undecided_bucket connection

  -- how many undecided connections a bucket has
  abbrev pub crowd_of : List (Option (Connection T)) → ℕ → ℕ
  crowd_of slots bucket = count_by (λ held. is_bucket bucket (bucket_in held)) slots

  -- likewise, and 0 where there is no bucket
  abbrev pub crowd_by : List (Option (Connection T)) → Option ℕ → ℕ
  crowd_by slots None = 0
  crowd_by slots (Some bucket) = crowd_of slots bucket

  -- how many undecided connections the bucket of what a slot holds has, if that is undecided itself, and else 0
  abbrev pub crowd_in : List (Option (Connection T)) → Option (Option (Connection T)) → ℕ
  crowd_in slots None = 0
  crowd_in slots (Some held) = crowd_by slots (bucket_in held)

  -- likewise of a slot
  abbrev pub crowd_at : List (Option (Connection T)) → ℕ → ℕ
  crowd_at slots slot = crowd_in slots (slice_get slots slot)

  -- the connection of a slot goes no later than that of another one: its crowd is greater, or as great and it was accepted before
  abbrev pub IsAhead : List (Option (Connection T)) → ℕ → ℕ → Type 0
  IsAhead slots slot other = (crowd_at slots other ≤ crowd_at slots slot)
      × (crowd_at slots slot ≡ crowd_at slots other → number_at slots slot ≤ number_at slots other)

  -- The connection of the slot goes: an undecided one, if there is one, of the bucket with the most of them, and of these the one that was
  -- accepted before the others. Where none is undecided, it is the one that was accepted before all others.
  abbrev pub Goes : List (Option (Connection T)) → ℕ → Type 0
  Goes slots slot = (k : ℕ) → k < length slots → IsAhead slots slot k

  -- how many undecided connections each bucket has
  abbrev pub IsTally : List ℕ → List (Option (Connection T)) → Type 0
  IsTally crowds slots = (bucket : ℕ) → bucket < 1024 → slice_index crowds bucket ≡ crowd_of slots bucket
