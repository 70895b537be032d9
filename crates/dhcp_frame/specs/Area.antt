-- Option areas (RFC 2132 section 2): the options that a list of octets holds.
use Rattle.std.specs.{Prelude.{◌≡◌, ◌≢◌, ℕ, zero, suc, List, [], ◌∷◌, ◌++◌, length, take, drop, Option, Some, None, unwrap_or, nat_lt, ◌==◌, if◌then◌else◌}, Option.option_map}
use Rattle.dhcp_frame.specs.declared.option_codes.TheConstants.{PAD, END}

-- an option: its code and its value
abbrev pub Entry : Type 0
Entry = ℕ × List ℕ

-- The octets of an option area hold these options. An area that holds no list of options is cut.
pub data Reads : List ℕ → List Entry → Type 0 where
  -- an area may lack its end octet
  nothing : Reads [] []
  padding : (rest : List ℕ) (es : List Entry) → Reads rest es → Reads (PAD ∷ rest) es
  -- the octets after the end octet are ignored
  end : (rest : List ℕ) → Reads (END ∷ rest) []
  -- a code, the value's length in one octet, the value, and then the other options
  option : (octets : List ℕ) (code : ℕ) (value rest : List ℕ) (es : List Entry) → code ≢ PAD → code ≢ END
      → octets ≡ code ∷ length value ∷ value ++ rest → Reads rest es → Reads octets ((code, value) ∷ es)

-- an option with this code, from its length on, and then the options of the other octets
abbrev pub option_then : ℕ → List ℕ → (List ℕ → Option (List Entry)) → Option (List Entry)
option_then code [] rest_holds = None
option_then code (n ∷ octets) rest_holds =
    if nat_lt (length octets) n then None else option_map (λ es. (code, take n octets) ∷ es) (rest_holds (drop n octets))

-- the options of an area, read in at most this many steps
abbrev pub reading_within : ℕ → List ℕ → Option (List Entry)
reading_within k [] = Some []
reading_within zero (code ∷ octets) = None
reading_within (suc k) (code ∷ octets) =
    if code == PAD then reading_within k octets
    else if code == END then Some []
    else option_then code octets (reading_within k)

-- the options that an area holds, or nothing where it is cut: the program for `Reads`
unfoldable pub reading : List ℕ → Option (List Entry)
reading octets = reading_within (length octets) octets

-- the options of an area that isn't cut
abbrev pub entries_of : List ℕ → List Entry
entries_of octets = unwrap_or (reading octets) []

-- the values of the options with this code, joined in order (RFC 3396 section 5), or nothing where no option has it
abbrev pub value_of : ℕ → List Entry → Option (List ℕ)
value_of code [] = None
value_of code (e ∷ es) =
    if e.0 == code then Some (e.1 ++ unwrap_or (value_of code es) []) else value_of code es

-- an area isn't cut
abbrev pub IsWhole : List ℕ → Type 0
IsWhole octets = reading octets ≡ Some (entries_of octets)

-- none of three areas is cut
pub record AreWhole (a b c : List ℕ) : Type 0 where
  pub first : IsWhole a
  pub second : IsWhole b
  pub third : IsWhole c
