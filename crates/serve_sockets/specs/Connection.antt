-- What a connection sent, and what of its answer it has taken.
use Rattle.std.specs.{Prelude.{◌≡◌, ℕ, ◌-◌, List, [], ◌++◌, Bool, true, false, Option, None, Some, drop, is_some, nat_lt, not, option_map, ◌&&◌, if◌then◌else◌}, Io.KnownBytes.{Consumes, IsAtEnd, Keeps}}
use Rattle.serve_sockets.specs.{Prelude.{Answer, IsDecided, octets_of}, Bucket.bucket_of, Sent.octets_sent, declared.{connection.{Connection.Connection, Sending.Sending, Wait.Wait}, reading.Taken.Taken, writing.Put.Put}}

-- the octets of an answer that are to be written yet
abbrev pub unwritten : Sending → List ℕ
unwritten sending = drop sending.written (octets_of sending.answer)

abbrev pub rest_of : Option Sending → List ℕ
rest_of None = []
rest_of (Some sending) = unwritten sending

-- whether something was longer than a minute ago, if it was
abbrev pub is_long_ago : ℕ → Option ℕ → Bool
is_long_ago now None = false
is_long_ago now (Some moment) = nat_lt 60000 (now - moment)

-- whether something waits, and for this
abbrev pub is_of_call : Option Wait → Bool
is_of_call (Some Wait.Call) = true
is_of_call other = false

abbrev pub is_of_group : Option Wait → Bool
is_of_group (Some Wait.Group) = true
is_of_group other = false

module _ {T : Type 0} where
  -- what it is a connection over
  abbrev pub stream_of : Connection T → T
  stream_of connection = connection.stream

  -- the how-manieth connection it was
  abbrev pub number_of : Connection T → ℕ
  number_of connection = connection.number

  -- when, in served time, it was accepted or answered, or last took something of its answer
  abbrev pub since_of : Connection T → ℕ
  since_of connection = connection.since

  -- what of its request was read
  abbrev pub input_of : Connection T → List ℕ
  input_of connection = octets_sent connection.sent

  -- the answer that waits until the client has taken it
  abbrev pub answer_of : Connection T → Option Answer
  answer_of connection = option_map (λ sending. sending.answer) connection.sending

  -- whether it has an answer
  abbrev pub is_answered : Connection T → Bool
  is_answered connection = is_some connection.sending

  -- whether its request waits
  abbrev pub is_waiting : Connection T → Bool
  is_waiting connection = is_some connection.waits

  -- whether its request for a list waits until that is called
  abbrev pub is_put_off : Connection T → Bool
  is_put_off connection = is_of_call connection.waits

  -- whether its request waits to be answered with others
  abbrev pub is_whole : Connection T → Bool
  is_whole connection = is_of_group connection.waits

  -- whether its request for a list, which had waited, was called: the list is open until the client has taken it
  abbrev pub is_called : Connection T → Bool
  is_called connection = is_some connection.called

  -- whether its list was called longer than a minute of served time ago
  abbrev pub is_slow : ℕ → Connection T → Bool
  is_slow now connection = is_long_ago now connection.called

  -- whether it has no answer, and its request doesn't wait
  abbrev pub is_undecided : Connection T → Bool
  is_undecided connection = not (is_answered connection) && not (is_waiting connection)

  -- the bucket of the client's address, if the connection is undecided
  abbrev pub undecided_bucket : Connection T → Option ℕ
  undecided_bucket connection = if is_undecided connection then Some (bucket_of connection.from) else None

  -- the octets of its answer that are to be written yet
  abbrev pub left_of : Connection T → List ℕ
  left_of connection = rest_of connection.sending

-- no octets are left of the answer, or the client took some and has its time anew, or its time goes on
abbrev pub IsPut : ℕ → Put → ℕ → ℕ → List ℕ → Type 0
IsPut now Put.Waits since since' left = since' ≡ since
IsPut now Put.More since since' left = since' ≡ now
IsPut now Put.Done since since' left = left ≡ []
IsPut now Put.Failed since since' left = Unit {0}

-- octets left the stream, and stand at the end of the input in order
pub record Moves (old new : Option (List ℕ)) (before after : List ℕ) : Type 0 where
  pub octets : List ℕ
  pub consumed : Consumes old new octets
  pub kept : after ≡ before ++ octets

-- what a read made of what the stream has left, and of the input
abbrev pub IsTaken : Taken → Option (List ℕ) → Option (List ℕ) → List ℕ → List ℕ → Type 0
IsTaken Taken.Waits old new before after = Keeps old new × (after ≡ before)
IsTaken Taken.More old new before after = Moves old new before after
IsTaken Taken.Whole old new before after = Moves old new before after × IsDecided after
IsTaken Taken.Ended old new before after = Moves old new before after × IsAtEnd new
IsTaken other old new before after = Unit {0}

-- where a read came to a decided request, the octets decide one
abbrev pub IsDecidedIf : Taken → List ℕ → Type 0
IsDecidedIf Taken.Whole octets = IsDecided octets
IsDecidedIf other octets = Unit {0}

-- what came was made into a request, whose octets are the same, unless that failed
abbrev pub IsFinished : Taken → Taken → List ℕ → List ℕ → Type 0
IsFinished taken Taken.NoMemory before after = Unit {0}
IsFinished taken Taken.Failed before after = Unit {0}
IsFinished taken result before after = (result ≡ taken) × (after ≡ before)

module _ {T : Type 0} where
  -- It has this answer to a request of these octets, and all of the answer is to be written yet.
  pub record Waits (connection : Connection T) (octets : List ℕ) (a : Answer) : Type 0 where
    pub asked : input_of connection ≡ octets
    pub answered : answer_of connection ≡ Some a
    pub left : left_of connection ≡ octets_of a

  -- it is the same client's
  abbrev pub IsSameClient : Connection T → Connection T → Type 0
  IsSameClient old new = (number_of new ≡ number_of old) × (stream_of new ≡ stream_of old)

  -- the client was given this answer to what it sent
  abbrev pub IsAnsweredBy : Connection T → Connection T → Answer → Type 0
  IsAnsweredBy old new a = IsSameClient old new × Waits new (input_of old) a

  -- an answer that it has is the one that it had, to the same request
  abbrev pub KeepsAnswer : Connection T → Connection T → Type 0
  KeepsAnswer old new = (a : Answer) → answer_of new ≡ Some a → (answer_of old ≡ Some a) × (input_of new ≡ input_of old)
