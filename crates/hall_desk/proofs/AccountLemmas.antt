-- What is noted of a client's frame.
use Rattle.std.{proofs.Common.{◌≡◌, ◌∙◌, ℕ, List, None, Result, Ok, Err, ap, subst, sym}, specs.Prelude.{IfOk, OnErr, OnOk}}
use Rattle.hall_desk.{specs.{Prelude.{Message, Site, Client, Hall, Port, Content, Event, Decided}, Account.{IsMoved, IsNoted, given_or, noted_of, nothing_noted}, Moved.moved_by, Octets.frame_answer, RunLaws.frame_rows, declared.{account.Notes.Notes, arrival.Answer.{Answer, TheVariants.{Frame as Sent, Silence, Unavailable}}}}, proofs.AttemptLemmas.{IsReply, is_reply}}
use Rattle.hall_events.specs.declared.event.Event.TheVariants.{Frame}
use Rattle.hall_store.specs.declared.store.Unavailable.{Unavailable as Refusing}
use Rattle.hall_laws.specs.Decision.{decision_of}

module _ (Held : Hall → Type 0) (site : Site) (message : Message) (port : Port) (client : Client) (moment : ℕ) (fresh : List ℕ) where
  abbrev made : Hall → Decided
  made h = decision_of site h (Frame port client) moment fresh

  pub frame_moved : (r : Result Answer Refusing) (old notes : Notes) → old ≡ nothing_noted
      → OnOk r ((h : Hall) → Held h → notes.moved ≡ moved_by old.machine (made h).rows) → OnErr r (notes.moved ≡ old.moved)
      → IfOk r (λ a. (h : Hall) → Held h → a ≡ frame_answer site message client (made h).content)
      → (h : Hall) → Held h → IsMoved site h port client moment fresh (given_or Silence r) notes
  frame_moved (Ok (Sent sent)) old notes none moved same is h held = moved h held ∙ ap (λ (n : Notes). moved_by n.machine (made h).rows) none
  frame_moved (Ok Silence) old notes none moved same is h held =
      moved h held ∙ ap (λ (n : Notes). moved_by n.machine (made h).rows) none
      ∙ ap (λ rows. moved_by None rows) (frame_rows site h message port client moment fresh (is h held))
  frame_moved (Ok other) old notes none moved same is h held = absurd (subst IsReply (sym (is h held)) (is_reply site message client (made h).content))
  frame_moved (Err e) old notes none moved same is h held = same ∙ ap (λ (n : Notes). n.moved) none

-- what is noted of an event that is carried out, or counts as not having come
pub event_noted : (Held : Hall → Type 0) (site : Site) (e : Event) (moment : ℕ) (fresh : List ℕ) (say : Content → Answer) → ((c : Content) → say c ≡ Unavailable → ⊥)
    → (r : Result Answer Refusing) (notes : Notes) → OnErr r (notes.moved ≡ None) → OnOk r ((h : Hall) → Held h → notes ≡ noted_of site h e moment fresh)
    → IfOk r (λ a. (h : Hall) → Held h → a ≡ say (decision_of site h e moment fresh).content)
    → (h : Hall) → Held h → IsNoted site h e moment fresh (given_or Unavailable r) notes
event_noted Held site e moment fresh say available (Ok Unavailable) notes same noted is h held = absurd (available _ (sym (is h held)))
event_noted Held site e moment fresh say available (Ok other) notes same noted is h held = noted h held
event_noted Held site e moment fresh say available (Err error) notes same noted is h held = same
