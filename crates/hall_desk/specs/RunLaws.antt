-- What follows for the hall once it was answered: silence changes nothing, and runs go on.
use Rattle.std.{proofs.Common.{◌≡◌, ◌∙◌, ℕ, List, [], ◌∷◌, ◌++◌, ap, append_assoc, inl, inr, refl, subst, sym}, specs.{Prelude.{◌⊎◌, ⊤}, List.AllByRecursion}}
use Rattle.hall_events.specs.declared.event.Event.TheVariants as event
use Rattle.hall_laws.specs.Decision.{decision_of}
use Rattle.hall_desk.specs.{Prelude.{Message, Site, Client, Hall, Port, frame_decision, frame_view, IsSound, Decision, Silent, Ghosts, framed}, Attempt.{IsAnswered, IsKept, IsOnlyRead, IsTorn}, History.{AllLead, AreUnanswered, IsCutRun, Item, ItemLeads, came_unanswered, exchanges}, Octets.{HasMissed, IsArrivalRun, IsArrivalStep, IsGiven, IsIdle, IsSilent, answered, asks, frame_answer}, Stops.{AreGiven, HasRun, IsCutEnd}, declared.arrival.{Answer.{Answer, TheVariants.Silence}, Arrival.Arrival, Input.Input}}
use Rattle.hall_desk.specs.declared.arrival.Input.TheVariants as input

-- ---- silence changes nothing

silent_rows : (site : Site) (h : Hall) (message : Message) (client : Client) (d : Decision) → Silence ≡ frame_answer site message client (framed d site h client).content → (framed d site h client).rows ≡ []
silent_rows site h message client (Silent silence) is = refl
silent_rows site h message client other is = cc

pub frame_rows : (site : Site) (h : Hall) (message : Message) (port : Port) (client : Client) (moment : ℕ) (fresh : List ℕ)
    → Silence ≡ frame_answer site message client (decision_of site h (event.Frame port client) moment fresh).content → (decision_of site h (event.Frame port client) moment fresh).rows ≡ []
unfolding decision_of
frame_rows site h message port client moment fresh is = silent_rows site h message client (frame_decision (frame_view h client) port client) is

pub silent_idle : (site : Site) (h : Hall) (what : Input) (moment : ℕ) (fresh : List ℕ) → IsSilent site h what moment fresh → IsIdle site h what moment fresh
silent_idle site h (input.Datagram port octets) moment fresh silent (answered a) means = tt
silent_idle site h (input.Datagram port octets) moment fresh silent (asks e say) means =
    let led = silent (asks e say) means in
    subst (λ its. (decision_of site h its moment fresh).rows ≡ []) (sym means.event)
    (frame_rows site h means.message port means.client moment fresh
    (led.1.0 ∙ (ap (λ say. say (decision_of site h e moment fresh).content) means.sends ∙ ap (λ its. frame_answer site means.message means.client (decision_of site h its moment fresh).content) means.event)))
silent_idle site h other moment fresh silent m means = absurd silent

-- ---- histories

pub of_run : (site : Site) (h : Hall) (arrivals : List Arrival) (answers : List Answer) (end : Hall) → IsArrivalRun site h arrivals answers end → AllLead h (exchanges site arrivals answers) end
of_run site h [] [] end run = run
of_run site h (x ∷ arrivals) (a ∷ answers) end run = (run.0, run.1, of_run site run.0 arrivals answers end run.2)
of_run site h arrivals answers end run = absurd run

pub all_on : (h : Hall) (past : List Item) (now : Hall) → AllLead h past now → (items : List Item) (end : Hall) → AllLead now items end → AllLead h (past ++ items) end
all_on h [] now led items end more = subst (λ from. AllLead from items end) led more
all_on h (x ∷ past) now led items end more = (led.0, led.1, all_on led.0 past now led.2 items end more)

pub goes_on : (h : Hall) (past : List Item) (now : Hall) → AllLead h past now
    → (site : Site) (arrivals : List Arrival) (answers : List Answer) (end : Hall) → IsArrivalRun site now arrivals answers end
    → AllLead h (past ++ exchanges site arrivals answers) end
goes_on h past now led site arrivals answers end run = all_on h past now led (exchanges site arrivals answers) end (of_run site now arrivals answers end run)

pub item_on : (h : Hall) (past : List Item) (now : Hall) → AllLead h past now → (item : Item) (end : Hall) → ItemLeads now item end → AllLead h (past ++ item ∷ []) end
item_on h past now led item end leads = all_on h past now led (item ∷ []) end (end, leads, refl)

pub all_weaker : (P Q : Hall → Type 0) → ((h : Hall) → P h → Q h) → (xs : List Hall) → AllByRecursion P xs → AllByRecursion Q xs
all_weaker P Q by [] all = tt
all_weaker P Q by (x ∷ xs) all = (by x all.0, all_weaker P Q by xs all.1)

pub all_append : (P : Hall → Type 0) (xs ys : List Hall) → AllByRecursion P xs → AllByRecursion P ys → AllByRecursion P (xs ++ ys)
all_append P [] ys a b = b
all_append P (x ∷ xs) ys a b = (a.0, all_append P xs ys a.1 b)

-- ---- two runs

pub run_then : (site : Site) (xs ys : List Arrival) (is bs : List Answer) (h mid end : Hall)
    → IsArrivalRun site h xs is mid → IsArrivalRun site mid ys bs end → IsArrivalRun site h (xs ++ ys) (is ++ bs) end
run_then site [] ys [] bs h mid end first then = subst (λ (from : Hall). IsArrivalRun site from ys bs end) first then
run_then site (x ∷ xs) ys (a ∷ is) bs h mid end first then =
    (first.0, first.1, run_then site xs ys is bs first.0 mid end first.2 then)
run_then site xs ys is bs h mid end first then = absurd first

-- what came of the first one without answers is what came of both
unanswered_first : (site : Site) (xs ys : List Arrival) (items : List Item) → AreUnanswered site xs items → AreUnanswered site (xs ++ ys) items
unanswered_first site xs ys [] it = tt
unanswered_first site [] ys (item ∷ items) it = absurd it
unanswered_first site (x ∷ xs) ys (item ∷ items) (inl it) = inl (it.0, unanswered_first site xs ys items it.1)
unanswered_first site (x ∷ xs) ys (item ∷ items) (inr it) = inr (it.0, unanswered_first site xs ys (item ∷ items) it.1)

-- what a stop cut of the first one is cut of both
cut_first : (site : Site) (xs ys : List Arrival) (is bs : List Answer) (cut : List Item) → IsCutRun site xs is cut → IsCutRun site (xs ++ ys) (is ++ bs) cut
cut_first site xs ys is bs [] it = tt
cut_first site (x ∷ xs) ys (a ∷ is) bs (item ∷ cut) (inl it) = inl (unanswered_first site (x ∷ xs) ys (item ∷ cut) it)
cut_first site (x ∷ xs) ys (a ∷ is) bs (item ∷ cut) (inr it) = inr (it.0, cut_first site xs ys is bs cut it.1)
cut_first site xs ys is bs cut it = absurd it

-- and so is the whole first one with what is cut of the second
cut_then : (site : Site) (h mid : Hall) (xs ys : List Arrival) (is bs : List Answer) → IsArrivalRun site h xs is mid → (cut : List Item) → IsCutRun site ys bs cut
    → IsCutRun site (xs ++ ys) (is ++ bs) (exchanges site xs is ++ cut)
cut_then site h mid [] ys [] bs run cut it = it
cut_then site h mid (x ∷ xs) ys (a ∷ is) bs run cut it = inr (refl, cut_then site run.0 mid xs ys is bs run.2 cut it)
cut_then site h mid xs ys is bs run cut it = absurd run

-- as many answers as arrivals
abbrev AreSame : List Arrival → List Answer → Type 0
AreSame [] [] = ⊤
AreSame (x ∷ xs) (a ∷ is) = AreSame xs is
AreSame xs is = ⊥

same_run : (site : Site) (h : Hall) (xs : List Arrival) (is : List Answer) (end : Hall) → IsArrivalRun site h xs is end → AreSame xs is
same_run site h [] [] end run = tt
same_run site h (x ∷ xs) (a ∷ is) end run = same_run site run.0 xs is end run.2
same_run site h xs is end run = absurd run

given_first : (site : Site) (h : Hall) (xs ys : List Arrival) (is bs : List Answer) → AreGiven site h (xs ++ ys) (is ++ bs) → AreSame xs is → AreGiven site h xs is
given_first site h [] ys [] bs all same = refl
given_first site h (x ∷ xs) ys (a ∷ is) bs all same = (all.0, λ next step. given_first site next xs ys is bs (all.1 next step) same)
given_first site h xs ys is bs all same = absurd same

given_then : (site : Site) (h mid : Hall) (xs ys : List Arrival) (is bs : List Answer) → IsArrivalRun site h xs is mid → AreGiven site h (xs ++ ys) (is ++ bs)
    → AreGiven site mid ys bs
given_then site h mid [] ys [] bs run all = subst (λ (from : Hall). AreGiven site from ys bs) (sym run) all
given_then site h mid (x ∷ xs) ys (a ∷ is) bs run all = given_then site run.0 mid xs ys is bs run.2 (all.1 run.0 run.1)
given_then site h mid xs ys is bs run all = absurd run

module _ {S : Type 0} (g : Ghosts S) (site : Site) (h : Hall) where
  module _ (old mid new : S) (xs ys : List Arrival) (is bs : List Answer) (first : HasRun g old mid site h xs is)
      (then : HasRun g mid new site first.ran.end ys bs) where
    abbrev IsCut : Hall → Type 0
    IsCut = IsCutEnd site h (xs ++ ys) (is ++ bs)

    end_first : (x : Hall) → IsCutEnd site h xs is x → IsCut x
    end_first x all = (all.0, cut_first site xs ys is bs all.0 all.1, all.2)

    end_then : (x : Hall) → IsCutEnd site first.ran.end ys bs x → IsCut x
    end_then x all = (
      exchanges site xs is ++ all.0,
      cut_then site h first.ran.end xs ys is bs first.ran.run all.0 all.1,
      all_on h (exchanges site xs is) first.ran.end (of_run site h xs is first.ran.end first.ran.run) all.0 x all.2,
    )

    stop_then : (hs : List Hall) → g.leaves old hs → (more : List Hall) × g.leaves new (more ++ hs) × AllByRecursion IsCut more
    stop_then hs left =
        let one = first.stop hs left in
        let two = then.stop (one.0 ++ hs) one.1 in (
          two.0 ++ one.0,
          subst (g.leaves new) (sym (append_assoc two.0 one.0 hs)) two.1,
          all_append IsCut two.0 one.0
              (all_weaker (IsCutEnd site first.ran.end ys bs) IsCut end_then two.0 two.2) (all_weaker (IsCutEnd site h xs is) IsCut end_first one.0 one.2),
        )

    pub has_run_then : HasRun g old new site h (xs ++ ys) (is ++ bs)
    has_run_then = record {
      ran = record {
        end = then.ran.end;
        run = run_then site xs ys is bs h first.ran.end then.ran.end first.ran.run then.ran.run;
        held = then.ran.held;
        sound = then.ran.sound;
      };
      settled = λ left all.
          then.settled (first.settled left (given_first site h xs ys is bs all (same_run site h xs is first.ran.end first.ran.run)))
          (given_then site h first.ran.end xs ys is bs first.ran.run all);
      stop = stop_then;
    }

  -- nothing came, and the store was only read
  pub has_run_none : (old new : S) → IsOnlyRead g old new → g.holds old h → IsSound h → HasRun g old new site h [] []
  has_run_none old new only held sound = record {
    ran = record { end = h; run = refl; held = only.same h held; sound = sound };
    settled = λ left all. only.stop h held (h ∷ []) left;
    stop = λ hs left. ([], only.stop h held hs left, tt);
  }

  module _ (old new : S) (arrival : Arrival) (a : Answer) (it : IsAnswered g old new site arrival.input arrival.moment arrival.fresh a) (held : g.holds old h)
      (sound : IsSound h) where
    stop_one : (hs : List Hall) → g.leaves old hs → (more : List Hall) × g.leaves new (more ++ hs) × AllByRecursion (IsCutEnd site h (arrival ∷ []) (a ∷ [])) more
    stop_one hs left = (torn.next ∷ [], torn.left, (by torn.step, tt))
      where
        torn : IsTorn g old new site arrival.input arrival.moment arrival.fresh h hs
        torn = it.crash h held sound hs left

        by : IsArrivalStep site h arrival.input arrival.moment arrival.fresh torn.answer torn.next → IsCutEnd site h (arrival ∷ []) (a ∷ []) torn.next
        by (inl come) = (came_unanswered site arrival ∷ [], inl (inl (refl, tt)), (torn.next, (torn.answer, come), refl))
        by (inr missed) = ([], tt, missed.same)

    -- what counts as not having come, and was given its answer, is a silence that leaves all as it was
    still : HasMissed h arrival.input a h → IsGiven site h arrival.input arrival.moment arrival.fresh a → g.leaves old (h ∷ []) → g.leaves new (h ∷ [])
    still missed (inl given) left = absurd (given missed.answer)
    still missed (inr silent) left = it.still h held (silent_idle site h arrival.input arrival.moment arrival.fresh silent) (h ∷ []) left

    -- one arrival came
    pub has_run_one : HasRun g old new site h (arrival ∷ []) (a ∷ [])
    has_run_one = by (it.step h held sound)
      where
        by : IsKept g old new site arrival.input arrival.moment arrival.fresh h a ⊎ (HasMissed h arrival.input a h × g.holds new h)
            → HasRun g old new site h (arrival ∷ []) (a ∷ [])
        by (inl kept) = record {
          ran = record { end = kept.next; run = (kept.next, inl kept.come, refl); held = kept.held; sound = kept.sound };
          settled = λ left all. kept.settled left;
          stop = stop_one;
        }
        by (inr missed) = record {
          ran = record { end = h; run = (h, inr missed.0, refl); held = missed.1; sound = sound };
          settled = λ left all. still missed.0 all.0 left;
          stop = stop_one;
        }
