-- The images of a hall after a step.
use Rattle.std.{proofs.{Common.{◌≡◌, ℕ, List, [], ◌∷◌, refl, sym, ap, subst, ◌∙◌}, lemmas.Option.none-some}, specs.Prelude.{Option, Some, None, false}}
use Rattle.hall_types.specs.Rows.{at, put}
use Rattle.hall_types.specs.declared.change.RowWrite.TheVariants as write
use Rattle.hall_events.specs.declared.event.Event.TheVariants as event
use Rattle.hall_laws.specs.{Prelude.{applied_append, Hall, applied, BootImage, is_image_used, image_unused, gone, at-gone-other, at-put-other, gone_found, RowWrite, Machine, Keeps, Content, AddImage, OnMachine, MachineCommand, Event, receipt_of}, Decision.Decided, HallLaws.{applied_entry, edited_hall}, Writes.{IsOfNoMachine, Writes, WritesAll, edits_machine, ends_waiting, enters_status, issues_boot, machine_goes, makes_machine, notes_report, with_receipt, withdrawn_at, without_receipt, writes_aside, writes_nothing}}

-- the images are as before, but for one that a command brings, or one that goes
pub data ImagesMove (h : Hall) (e : Event) (g : Hall) : Type 0 where
  same_images : g.images ≡ h.images → ImagesMove h e g
  new_image : (bearer : Option (List ℕ)) (key : List ℕ) (i : BootImage) → e ≡ event.Command bearer key (AddImage i) → at h.images i.name ≡ None → g.images ≡ put i.name i h.images → ImagesMove h e g
  image_goes : (name : List ℕ) → is_image_used h name ≡ false → g.images ≡ gone name h.images → ImagesMove h e g

module _ (h : Hall) (e : Event) (moment : ℕ) (fresh : List ℕ) where
  move_on : (g g' : Hall) → g'.images ≡ g.images → ImagesMove h e g → ImagesMove h e g'
  move_on g g' same (same_images is) = same_images (same ∙ is)
  move_on g g' same (new_image bearer key i event_is new is) = new_image bearer key i event_is new (same ∙ is)
  move_on g g' same (image_goes name used is) = image_goes name used (same ∙ is)

  rows_images : (rows : List RowWrite) (content : Content) → Writes h e moment fresh rows content → ImagesMove h e (applied rows h)
  rows_images rows content w = by w
    where
      as_rows : (ws : List RowWrite) → rows ≡ ws → ImagesMove h e (applied ws h) → ImagesMove h e (applied rows h)
      as_rows ws is move = subst (λ x. ImagesMove h e (applied x h)) (sym is) move

      by_aside : (row : RowWrite) → IsOfNoMachine row h e → Keeps row h → ImagesMove h e (applied (row ∷ []) h)
      by_aside (write.PutOperator o) aside keeps = same_images refl
      by_aside (write.PutPool p) aside keeps = same_images refl
      by_aside (write.PutMember m) aside keeps = same_images refl
      by_aside (write.PutImage i) aside keeps = new_image aside.0 aside.1 i aside.2 keeps refl
      by_aside (write.ImageGone name) aside keeps = image_goes name keeps refl
      by_aside (write.PutLive l) aside keeps = same_images refl
      by_aside other aside keeps = absurd aside

      by : Writes h e moment fresh rows content → ImagesMove h e (applied rows h)
      by (writes_nothing quiet is) = as_rows _ is (same_images refl)
      by (makes_machine event_is x) = as_rows _ x.rows_are (same_images refl)
      by (issues_boot x) = as_rows _ x.rows_are (same_images refl)
      by (enters_status x) = as_rows _ x.rows_are (same_images (ap (λ (g : Hall). g.images) (applied_entry h x.first x.machine (withdrawn_at h x.machine x.first) x.new)))
      by (notes_report x) = as_rows _ x.rows_are (same_images refl)
      by (ends_waiting x) = as_rows _ x.rows_are (same_images refl)
      by (edits_machine command x) = as_rows _ x.rows_are (same_images (ap (λ (g : Hall). g.images) (edited_hall h x.machine x.after x.interfaces x.edits)))
      by (machine_goes id deletes is) = as_rows _ is (same_images refl)
      by (writes_aside command x) = as_rows _ x.rows_are (by_aside x.row x.aside x.keeps)

  pub images_move : (d : Decided) → WritesAll h e moment fresh d → ImagesMove h e (applied d.rows h)
  images_move d (without_receipt none w) = rows_images d.rows d.content w
  images_move d (with_receipt own w x) =
      subst (ImagesMove h e) (sym (ap (λ ws. applied ws h) x.rows_are ∙ applied_append own (write.PutReceipt (receipt_of x.operator x.key x.command d.content) ∷ []) h))
      (move_on (applied own h) (applied (write.PutReceipt (receipt_of x.operator x.key x.command d.content) ∷ []) (applied own h)) refl (rows_images own d.content w))

-- ---- an image that a machine has

-- the image of a machine is the same after a step
pub image_stays : (h : Hall) (e : Event) (g : Hall) → ImagesMove h e g → (id : ℕ) (m : Machine) (name : List ℕ) (i : BootImage) → at h.machines id ≡ Some m → m.image ≡ Some name → at h.images name ≡ Some i → at g.images name ≡ Some i
image_stays h e g (same_images same) id m name i there has is = ap (λ x. at x name) same ∙ is
image_stays h e g (new_image bearer key new event_is free same) id m name i there has is =
    ap (λ x. at x name) same ∙ (at-put-other h.images new.name new name (λ own. none-some i (sym free ∙ (ap (at h.images) (sym own) ∙ is))) ∙ is)
image_stays h e g (image_goes other used same) id m name i there has is =
    ap (λ x. at x name) same ∙ (at-gone-other h.images other name (λ own. (image_unused h other used).1 id m there (has ∙ ap (λ (x : List ℕ). Some x) own)) ∙ is)

-- a command on a machine brings no image
pub image_before : (h : Hall) (e : Event) (g : Hall) → ImagesMove h e g → (bearer : Option (List ℕ)) (key : List ℕ) (id : ℕ) (version : Option ℕ) (command : MachineCommand) → e ≡ event.Command bearer key (OnMachine id version command)
    → (name : List ℕ) (i : BootImage) → at g.images name ≡ Some i → at h.images name ≡ Some i
image_before h e g (same_images same) bearer key id version command is name i there = ap (λ x. at x name) (sym same) ∙ there
image_before h e g (new_image b k new event_is free same) bearer key id version command is name i there = let apart = sym event_is ∙ is in cc
image_before h e g (image_goes other used same) bearer key id version command is name i there = (gone_found h.images other name i (ap (λ x. at x name) (sym same) ∙ there)).1
