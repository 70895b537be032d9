-- What an import does to a hall, and what it writes.
use Rattle.std.specs.{Prelude.{◌≡◌, ◌≢◌, ◌⊎◌, ◌≤◌, ◌==◌, ⊤, ℕ, Bool, true, false, List, [], ◌∷◌, ◌++◌, Option, Some, length, map, replicate, if◌then◌else◌}, Fmt.decimal, Io.KnownBytes.Appends, List.{AllByRecursion, enumerate_from, flat_map, fold, list_all, scan}}
use Rattle.hall_types.specs.declared.refusal.Refusal.TheVariants as cause
use Rattle.desk_operations.specs.{Prelude.{Site, IsSound, Hall, applied, second, refused, reply_of, AddMachine, Event, Command, Reply, Http, Decided, decision_of, HasHistory, IsSettled, Item, LeavesMore, Origin, came_unreplied, carried_out, ImportRow, Fault, Io, Ghosts}, declared.imports.Imported.{Imported, TheVariants.{All, NotAll}}}

-- ---- lines

-- a row's number, the status and the body of the response, one space apart, and a line feed
abbrev pub row_line : ℕ → ℕ → List ℕ → List ℕ
row_line number status body = decimal number ++ 32 ∷ decimal status ++ 32 ∷ body ++ 10 ∷ []

-- the line of a reply; the reply to a command is a response
abbrev pub line_of : ℕ → Reply → List ℕ
line_of number (Http status kind body) = row_line number status body
line_of number other = []

-- the reply to a row that counts as not having come
abbrev pub unavailable : Reply
unavailable = reply_of second (refused cause.Unavailable)

-- the lines of replies, numbered from 1 on
abbrev pub lines_of : List Reply → List ℕ
lines_of replies = flat_map (λ numbered. line_of numbered.0 numbered.1) (enumerate_from 1 replies)

-- the status is 200
abbrev pub is_ok : Reply → Bool
is_ok (Http status kind body) = status == 200
is_ok other = false

-- how an import with these replies ends
abbrev pub end_of : List Reply → Imported
end_of replies = if list_all is_ok replies then All else NotAll

-- ---- rows

-- the command that adds a row's machine, with the row's key, from the operator whose token has the digest
abbrev pub event_of : List ℕ → ImportRow → Event
event_of bearer row = Command (Some bearer) row.key (AddMachine row.mac row.arch row.pool row.uuid)

module _ (site : Site) (bearer : List ℕ) (moment : ℕ) where
  -- what the hall makes of a row; a command issues no boot, so its fresh octets are of no use
  abbrev pub decided : Hall → ImportRow → Decided
  decided h row = decision_of site h (event_of bearer row) moment (replicate 16 0)

  -- A row with `true` came; one with `false` counts as not having come, as the store couldn't answer.

  -- the hall that a row leads to
  abbrev pub after_row : Hall → ImportRow × Bool → Hall
  after_row h (row, true) = applied (decided h row).rows h
  after_row h (row, false) = h

  -- the reply to a row
  abbrev pub reply_to : Hall → ImportRow × Bool → Reply
  reply_to h (row, true) = reply_of second (decided h row).content
  reply_to h (row, false) = unavailable

  -- the hall that the rows lead to, one after the other
  abbrev pub after_rows : Hall → List (ImportRow × Bool) → Hall
  after_rows h asked = fold after_row h asked

  -- and the replies to them
  abbrev pub replies_to : Hall → List (ImportRow × Bool) → List Reply
  replies_to h asked = scan after_row reply_to h asked

-- `holds` says which hall a store has
module _ {S : Type 0} (g : Ghosts S) (store : S) (site : Site) (bearer : List ℕ) (moment : ℕ) (h : Hall) where
  -- a row came or not, and is answered so
  pub record IsRowAnswered (row : ImportRow) (reply : Reply) : Type 0 where
    pub came : Bool
    pub held : g.holds store (after_row site bearer moment h (row, came))
    pub sound : IsSound (after_row site bearer moment h (row, came))
    pub is : reply ≡ reply_to site bearer moment h (row, came)

  -- a row came or not, and its line is written
  pub record IsRowDone (number : ℕ) (row : ImportRow) (was_ok : Bool) (before after : Option (List ℕ)) : Type 0 where
    pub came : Bool
    pub held : g.holds store (after_row site bearer moment h (row, came))
    pub sound : IsSound (after_row site bearer moment h (row, came))
    pub written : Appends before after (line_of number (reply_to site bearer moment h (row, came)))
    pub ok : was_ok ≡ is_ok (reply_to site bearer moment h (row, came))

  -- all rows came or not in turn, and their lines are written
  pub record IsImported (rows : List ImportRow) (end : Imported) (before after : Option (List ℕ)) : Type 0 where
    pub asked : List (ImportRow × Bool)
    pub all : map (λ row. row.0) asked ≡ rows
    pub held : g.holds store (after_rows site bearer moment h asked)
    pub sound : IsSound (after_rows site bearer moment h asked)
    pub written : Appends before after (lines_of (replies_to site bearer moment h asked))
    pub ended : end ≡ end_of (replies_to site bearer moment h asked)

  -- a row came or not, and its line isn't written; a write that failed may have written anything
  pub record IsRowStopped (row : ImportRow) (fault : Fault) (before after : Option (List ℕ)) : Type 0 where
    pub came : Bool
    pub held : g.holds store (after_row site bearer moment h (row, came))
    pub sound : IsSound (after_row site bearer moment h (row, came))
    pub written : fault ≢ Io → Appends before after []

  -- the lines of the first rows are written, the next row may have come, and no others; a write that failed may have written
  -- anything
  pub record IsStopped (rows : List ImportRow) (fault : Fault) (before after : Option (List ℕ)) : Type 0 where
    pub asked : List (ImportRow × Bool)
    pub last : List (ImportRow × Bool)
    pub others : List ImportRow
    pub one : length last ≤ 1
    pub all : map (λ row. row.0) (asked ++ last) ++ others ≡ rows
    pub held : g.holds store (after_rows site bearer moment h (asked ++ last))
    pub sound : IsSound (after_rows site bearer moment h (asked ++ last))
    pub written : fault ≢ Io → Appends before after (lines_of (replies_to site bearer moment h asked))

-- ---- histories

-- a row that came, as an event that was carried out
abbrev pub IsRowItem : Site → List ℕ → ℕ → Item → Type 0
IsRowItem site bearer moment item = (row : ImportRow) × (reply : Reply) × (item ≡ carried_out site (event_of bearer row) moment (replicate 16 0) reply)

-- the rows that came go on from the hall's history
abbrev pub GoOn : {S : Type 0} → Ghosts S → S → S → Site → List ℕ → ℕ → Type 0
GoOn g old new site bearer moment =
    (origin : Origin) (past : List Item) → HasHistory g old origin past
    → (items : List Item) × AllByRecursion (IsRowItem site bearer moment) items × HasHistory g new origin (past ++ items)

module _ (site : Site) (bearer : List ℕ) (moment : ℕ) where
  -- a row that came, with its reply
  abbrev pub IsReplied : ImportRow → Item → Type 0
  IsReplied row item = (reply : Reply) × (item ≡ carried_out site (event_of bearer row) moment (replicate 16 0) reply)

  -- a row that came at a desk that stopped before it gave the reply
  abbrev pub row_unreplied : ImportRow → Item
  row_unreplied row = came_unreplied site (event_of bearer row) moment (replicate 16 0)

  -- some of the rows came in turn, each with its reply
  abbrev pub AreReplied : List ImportRow → List Item → Type 0
  AreReplied rows [] = ⊤
  AreReplied [] (item ∷ items) = ⊥
  AreReplied (row ∷ rows) (item ∷ items) = (IsReplied row item × AreReplied rows items) ⊎ AreReplied rows (item ∷ items)

  -- each of the rows came in turn, with a reply of the status 200
  abbrev pub AreAccepted : List ImportRow → List Item → Type 0
  AreAccepted [] items = items ≡ []
  AreAccepted (row ∷ rows) [] = ⊥
  AreAccepted (row ∷ rows) (item ∷ items) =
      (reply : Reply) × (is_ok reply ≡ true) × (item ≡ carried_out site (event_of bearer row) moment (replicate 16 0) reply) × AreAccepted rows items

  -- what came of the rows at a desk that stopped: some in turn, each with its reply, and then perhaps one without
  abbrev pub IsCutImport : List ImportRow → List Item → Type 0
  IsCutImport rows [] = ⊤
  IsCutImport [] (item ∷ items) = ⊥
  IsCutImport (row ∷ rows) (item ∷ items) =
      ((item ≡ row_unreplied row) × (items ≡ [])) ⊎ ((IsReplied row item × IsCutImport rows items) ⊎ IsCutImport rows (item ∷ items))

-- what came before, and then what came of the rows at a desk that stopped
abbrev pub AndCutImport : List Item → Site → List ℕ → ℕ → List ImportRow → List Item → Type 0
AndCutImport past site bearer moment rows items = (cut : List Item) × IsCutImport site bearer moment rows cut × (items ≡ past ++ cut)

-- some of the rows go on from the hall's history in turn, and whatever a stop left before, it leaves that, or a hall on the way
abbrev pub GoOnBy : {S : Type 0} → Ghosts S → S → S → Site → List ℕ → ℕ → List ImportRow → Type 0
GoOnBy g old new site bearer moment rows =
    (origin : Origin) (past : List Item) → HasHistory g old origin past
    → (items : List Item) × AreReplied site bearer moment rows items × HasHistory g new origin (past ++ items)
    × LeavesMore g old new origin (AndCutImport past site bearer moment rows)

-- a settled store is settled again with all of the rows
abbrev pub SettlesByAll : {S : Type 0} → Ghosts S → S → S → Site → List ℕ → ℕ → List ImportRow → Type 0
SettlesByAll g old new site bearer moment rows =
    (origin : Origin) (past : List Item) → IsSettled g old origin past
    → (items : List Item) × AreAccepted site bearer moment rows items × IsSettled g new origin (past ++ items)
