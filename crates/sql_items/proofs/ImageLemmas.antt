-- What the statements on images answer and write.
use Rattle.sqlite.specs.Listing.{understood}
use Rattle.sqlite_tied.specs.Compute.{everything}
use Rattle.sql_schema.specs.{Words.{finds_kept, adds_kept, removes_kept, images, HallRows, next_rowid, texts, at, of_images, option_to_list, Error, Null, Text, Row, column, lit, State, HasCleanDisk, Survives, Shown, FailsToQuery, CommitsShowing, Hall, BootImage, arch_number, same_text, put_cases, gone_found, goes_alone, HasWords, number, image_columns, joined, words_in, IsTableRead, asked, within, and_true, parameter, equals, cell, rising, sets, hall_schema, images_table, Delete, from_one, only, IsCommandText, add_is, find_is, arch_by_number, same_kind}, Writing.Makes, declared.creating.TheConstants.{FIND_IMAGE, ADD_IMAGE}, TableStatements.{with_item, without_item}}
use Rattle.std.proofs.Common.{◌≡◌, inl, inr, ℕ, List, [], ◌∷◌, map, slice_get, Option, None, Some, Result, IfOk, IfErr, refl, sym, ap, subst, ◌∙◌}
use Rattle.sql_schema.specs.ValueLaws as value
use Rattle.sql_items.specs.declared.images.TheConstants.{REMOVE_IMAGE}

-- the image with a name goes
remove_image_is : IsCommandText hall_schema REMOVE_IMAGE.now (Delete 4 (only (from_one 8 (equals 1 0 ∷ []) (cell 0 ∷ []) [])))
unfolding understood everything
remove_image_is = record { is = refl; plain = (refl, refl) }

-- the rows of the image with this name in a hall, whose arguments are found again in their text
abbrev pub ShowsImage : List ℕ → Hall → List Row → Type 0
ShowsImage name h rows = (rows ≡ map image_columns (option_to_list (at h.images name))) × ((i : BootImage) → at h.images name ≡ Some i → HasWords i)

pub finds_image : (name : List ℕ) (old new : State) → HasCleanDisk new → Survives old new (CommitsShowing FIND_IMAGE.now (Text name ∷ []) old) → (r : Result (List Row) Error)
    → IfOk r (Shown FIND_IMAGE.now (Text name ∷ []) old new) → IfErr r (FailsToQuery FIND_IMAGE.now (Text name ∷ []) old new) → IsTableRead old new r (ShowsImage name)
finds_image name old new clean survives r ok err =
    asked FIND_IMAGE.now (Text name ∷ []) (find_is of_images) old new (λ rows. rows) (ShowsImage name) r ok err survives clean (λ h rows got spells.
    subst (λ (x : Hall). ShowsImage name x rows) spells.agrees.hall (
      finds_kept texts images.rowid images.item images.key_of image_columns (old.now.trees 8) spells.hall_rows.hall.images (spells.tables.each of_images).named _ 8
          (equals 1 0 ∷ []) (cell 1 ∷ cell 2 ∷ cell 3 ∷ cell 4 ∷ cell 5 ∷ []) (rising 1 ∷ []) (Text name ∷ []) old.now.trees refl refl rows got name
          (λ e. and_true _ ∙ value.same_text e.item.name name ∙ sym (same_text e.item.name name)) image_columns (λ e. refl),
      (spells.tables.each of_images).words name,
    ))

-- what the columns of an image's row are read as is that image
pub same_image : (row : Row) (i image : BootImage) → HasWords i → row ≡ image_columns i → column row 0 ≡ Text image.name → column row 1 ≡ number (arch_number image.arch) → column row 2 ≡ Text image.kernel → column row 3 ≡ Text image.initrd
    → ((text : List ℕ) → column row 4 ≡ Text text → image.args ≡ words_in text) → image ≡ i
same_image row i image words is name arch kernel initrd args =
    let one : image.name ≡ i.name = let e = sym name ∙ ap (λ r. column r 0) is in cc in
    let two : arch_number image.arch ≡ arch_number i.arch = let e = sym arch ∙ ap (λ r. column r 1) is in cc in
    let three : image.kernel ≡ i.kernel = let e = sym kernel ∙ ap (λ r. column r 2) is in cc in
    let four : image.initrd ≡ i.initrd = let e = sym initrd ∙ ap (λ r. column r 3) is in cc in
    let five : image.args ≡ i.args = args (joined i.args) (ap (λ r. column r 4) is) ∙ words in
    ap (λ x. record image { name = x }) one ∙ ap (λ x. record image { name = i.name; arch = x }) (same_kind arch_by_number image.arch i.arch two)
    ∙ ap (λ x. record i { kernel = x; initrd = image.initrd; args = image.args }) three ∙ ap (λ x. record i { initrd = x; args = image.args }) four ∙ ap (λ x. record i { args = x }) five

-- the image in the first row is the one that is looked for
pub first_image_is : (rows : List Row) (row : Row) (image : BootImage) → slice_get rows 0 ≡ Some row → ((i : BootImage) → HasWords i → row ≡ image_columns i → image ≡ i)
    → (o : Option BootImage) → ((i : BootImage) → o ≡ Some i → HasWords i) → rows ≡ map image_columns (option_to_list o) → Some image ≡ o
first_image_is rows row image first reads None words none = absurd (let e = sym (ap (λ l. slice_get l 0) none) ∙ first in cc)
first_image_is rows row image first reads (Some i) words one =
    let e : Some (image_columns i) ≡ Some row = sym (ap (λ l. slice_get l 0) one) ∙ first in
    let here : row ≡ image_columns i = cc in
    ap (λ x. Some x) (reads i (words i refl) here)

-- ---- writes

module _ {C : Type 0} (state_of : C → State) where
  pub adds_image : (i : BootImage) → HasWords i → (before : Hall) (c : HallRows) → at c.hall.images i.name ≡ None → Makes state_of ADD_IMAGE.now (image_columns i) before c (with_item images c i)
  adds_image i words before c free one other held count ran =
      let old = state_of one in
      let new = state_of other in
      let it = adds_kept texts images.rowid images.item images.key_of image_columns (old.now.trees 8) c.hall.images (held.spelt.tables.each of_images).named hall_schema 4 images_table refl old new held.spelt.schema refl ADD_IMAGE.now (image_columns i) count ran.0
      (lit Null ∷ parameter 0 ∷ parameter 1 ∷ parameter 2 ∷ parameter 3 ∷ parameter 4 ∷ []) 6 (add_is of_images) (record { rowid = next_rowid (old.now.trees 8); item = i }) (λ _. free) (Null ∷ image_columns i) refl (rw (value.cast-Null, value.cast-Int) refl) in
      within ADD_IMAGE.now (image_columns i) old new before c _ count held ran (sets of_images old.now new.now c held.spelt it.0.0 _ it.0.1 (record {
        named = it.0.2;
        words = λ name j is. elim (put_cases c.hall.images i.name i name j is) [
          | inl this ↦ subst HasWords (sym this.1) words
          | inr other ↦ (held.spelt.tables.each of_images).words name j other.1
        ];
      }))

  pub removes_image : (name : List ℕ) (before : Hall) (c : HallRows) → Makes state_of REMOVE_IMAGE.now (Text name ∷ []) before c (without_item images c name)
  removes_image name before c one other held count ran =
      let old = state_of one in
      let new = state_of other in
      let it = removes_kept texts images.rowid images.item images.key_of image_columns (old.now.trees 8) c.hall.images (held.spelt.tables.each of_images).named hall_schema 4 images_table refl old new held.spelt.schema refl REMOVE_IMAGE.now (Text name ∷ [])
      (equals 1 0 ∷ []) refl remove_image_is count ran.0 (goes_alone of_images (λ is. cc)) name (λ e. and_true _ ∙ value.same_text e.item.name name ∙ sym (same_text e.item.name name)) in
      within REMOVE_IMAGE.now (Text name ∷ []) old new before c _ count held ran (sets of_images old.now new.now c held.spelt it.0 _ it.1 (record {
        named = it.2;
        words = λ other j is. (held.spelt.tables.each of_images).words other j (gone_found c.hall.images name other j is).1;
      }))
