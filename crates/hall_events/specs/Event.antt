-- What an event brings.
use Rattle.std.specs.Prelude.{◌≡◌, ℕ, List, Option}
use Rattle.hall_types.specs.Image.{BootImage, IsImage}
use Rattle.hall_events.specs.declared.{command.HallCommand.TheVariants.AddImage, event.Event.{Event, TheVariants.Command}}

-- the image that an event brings, if it brings one, is an image
abbrev pub BringsImage : Event → Type 0
BringsImage e = (bearer : Option (List ℕ)) (key : List ℕ) (image : BootImage) → e ≡ Command bearer key (AddImage image) → IsImage image
