-- Laws of the table of live images: what its statements ask and write.
use Rattle.sqlite.specs.Listing.{understood}
use Rattle.sqlite_tied.specs.Compute.{everything}
use Rattle.sql_schema.specs.{Queries.first_from, Words.{lives, parameters_from, equal_keys, rises, lists_kept, sets, list_any, option_to_list, bytes_eq, Null, Int, Text, lit, Error, Row, State, HasCleanDisk, Survives, Shown, FailsToQuery, CommitsShowing, Hall, arch_number, key-same, at, listed, numbers, Live, number, live_columns, live_values, IsTableRead, asked, and_true, parameter, equals, cell, rising, of_lives, Values, IsQueryText, IsReturningText, hall_schema, add_is, find_is, arch_by_number, same_kind}, TableStatements.{IsTable, set_command, with_item}, TableStatementLaws.{finds, puts}, Asking.Asks, Writing.Puts, declared.creating.TheConstants.{FIND_LIVE, ADD_LIVE}}
use Rattle.std.proofs.Common.{◌≡◌, ◌||◌, ◌==◌, not, ℕ, pos, Bool, true, false, cond, List, [], ◌∷◌, map, filter, take, length, Result, IfOk, IfErr, refl, ap, ◌∙◌, drop, codes}
use Rattle.sql_schema.specs.ValueLaws as value
use Rattle.sql_items.specs.declared.lives.TheConstants.{FIND_LIVE_WITH_IMAGE, SET_LIVE}

-- the first architecture that has a live image
find_live_with_image_is : IsQueryText hall_schema FIND_LIVE_WITH_IMAGE.now (first_from 10 (equals 2 0 ∷ []) (cell 0 ∷ []) (rising 0 ∷ []))
unfolding understood everything
find_live_with_image_is = record { names = _; is = refl; plain = (refl, refl); unlisted = refl }

-- the live image of an architecture, changed if it has one
set_live_is : IsReturningText hall_schema SET_LIVE.now (set_command lives (cell 0 ∷ lit Null ∷ parameters_from 1 1)) (record { names = codes "arch" ∷ []; row = Values (parameter 4 ∷ []) 1 })
unfolding understood everything
set_live_is = record { is = refl; returning = refl; untimed = refl }

is : IsTable lives
is = record {
  there = refl;
  spelt = λ db c tables. tables.each of_lives;
  sets = sets of_lives;
  same = λ c. refl;
  seen = λ db. refl;
  tests = λ n others l. equal_keys (arch_number l.arch) n;
  shows = λ params l. refl;
  stores = λ l. refl;
  becomes = λ stored l. rw (value.cast-Int, value.cast-Null) refl;
}

pub finds_live : (n : ℕ) → Asks live_values FIND_LIVE.now (number n ∷ []) (λ h. option_to_list (at h.lives n))
finds_live = finds lives is (λ h. h.lives) (λ c. refl) FIND_LIVE.now (find_is of_lives)

-- ---- whether an image is live

-- a query shows a row of an image that is live
abbrev pub ShowsLive : List ℕ → Hall → List Row → Type 0
ShowsLive image h rows = not (length rows == 0) ≡ list_any (λ (l : Live). bytes_eq l.image image) (listed h.lives)

-- the first row of those that pass is there if any passes
some_first : {X Y : Type 0} (p : X → Bool) (f : X → Y) (xs : List X) → not (length (take 1 (map f (filter p xs))) == 0) ≡ list_any p xs
some_first p f [] = refl
some_first p f (x ∷ xs) = by (p x) (some_first p f xs)
  where
    by : (b : Bool) → not (length (take 1 (map f (filter p xs))) == 0) ≡ list_any p xs → not (length (take 1 (map f (cond b (x ∷ filter p xs) (filter p xs)))) == 0) ≡ (b || list_any p xs)
    by true rest = refl
    by false rest = rest

pub finds_with_image : (image : List ℕ) (old new : State) → HasCleanDisk new → Survives old new (CommitsShowing FIND_LIVE_WITH_IMAGE.now (Text image ∷ []) old) → (r : Result (List Row) Error)
    → IfOk r (Shown FIND_LIVE_WITH_IMAGE.now (Text image ∷ []) old new) → IfErr r (FailsToQuery FIND_LIVE_WITH_IMAGE.now (Text image ∷ []) old new) → IsTableRead old new r (ShowsLive image)
finds_with_image image old new clean survives r ok err =
    asked FIND_LIVE_WITH_IMAGE.now (Text image ∷ []) find_live_with_image_is old new (λ rows. rows) (ShowsLive image) r ok err survives clean (λ h rows got spells.
    ap (λ (l : List Row). not (length l == 0))
    (lists_kept numbers lives.rowid lives.item lives.key_of live_columns (old.now.trees 10) spells.hall_rows.hall.lives (spells.tables.each of_lives) (lit (Int (pos 1))) 10
    (equals 2 0 ∷ []) (cell 0 ∷ []) (rising 0 ∷ []) (Text image ∷ []) old.now.trees refl refl rows got
    (λ l. bytes_eq l.image image) (λ l. and_true _ ∙ value.same_text l.image image) (λ l. (number (arch_number l.arch) ∷ [], number (arch_number l.arch) ∷ [])) (λ l. refl)
    (λ one other low. rises (arch_number one.arch) (arch_number other.arch) low))
    ∙ some_first _ _ (listed spells.hall_rows.hall.lives) ∙ ap (λ (x : Hall). list_any (λ (l : Live). bytes_eq l.image image) (listed x.lives)) spells.agrees.hall)

-- ---- writes

pub puts_live : {C : Type 0} (state_of : C → State) (l : Live) → Puts state_of SET_LIVE.now ADD_LIVE.now (live_values l) (λ c. with_item lives c l)
puts_live state_of l =
    puts lives is state_of SET_LIVE.now ADD_LIVE.now (cell 0 ∷ lit Null ∷ parameter 1 ∷ []) _ _ 1 refl set_live_is (add_is of_lives) l (drop 1 (live_columns l)) refl
    (λ was. record l { arch = was.arch }) (λ was. refl) (λ was same. ap (λ a. record l { arch = a }) (same_kind arch_by_number was.arch l.arch (key-same numbers (arch_number was.arch) (arch_number l.arch) same)))
    (λ was. rw (value.cast-Int, value.cast-Null) refl)
