-- What a page says, it goes on to say.
use Rattle.std.proofs.Common.{◌≡◌, ℕ, List, ◌++◌, ◌∙◌, ap, append_assoc, All, get_or}
use Rattle.hallview_state.specs.declared.hall.Hall.{Hall}
use Rattle.hallview_pages.specs.{Markup.{escape}, Ages.{Shows, Grows, Told}}

shows_more : (page more text : List ℕ) → Grows page more → Shows page text → Shows more text
shows_more page more text grows shows = (
  shows.0,
  shows.1 ++ grows.0,
  grows.1 ∙ ap (λ octets. octets ++ grows.0) shows.2 ∙ append_assoc (shows.0 ++ escape text) shows.1 grows.0,
)

told_more : (now : ℕ) (page more : List ℕ) → Grows page more → (hall : Hall) → Told now page hall → Told now more hall
told_more now page more grows hall told is =
    let said = told is in
    (said.0, said.1, shows_more page more said.0 grows said.2)

pub all_told_more : (now : ℕ) (page more : List ℕ) → Grows page more → (halls : List Hall) → All (Told now page) halls → All (Told now more) halls
all_told_more now page more grows halls told k d within = told_more now page more grows (get_or halls k d) (told k d within)
