-- What serving makes of the stores within one another.
use Rattle.std.proofs.Common.{◌≡◌, ℕ, Option, Result, List, [], ◌++◌, false, subst, sym, ap, ◌∙◌}
use Rattle.hall_desk.specs.{Attempt.IsOnlyRead, AttemptLaws.read_same, HistoryLaws.{AreHistoryLaws, after_run, run_given, run_stop}, Prelude.{Ghosts, Hall, Site}, RunLaws.{has_run_none, has_run_then}}
use Rattle.hall_store.specs.Store.{IsRead, ReadsBy}
use Rattle.hall_types.specs.Hall.{applied}
use Rattle.serve_sockets.specs.{Prelude.TcpStream, Turn.WentOn, declared.{connection.Connection.Connection, turn.Tick.Tick}}
use Rattle.store_group.specs.Group.{LeadsTo, is_open, store_of}
use Rattle.store_group.specs.declared.group.Group.{Group}
use Rattle.hallboot_tasks.specs.Served.{GoesOn, WasServed}

module _ {S : Type 0} (g : Ghosts S) (site : Site) where
  pub goes_reading : (old new : S) → IsOnlyRead g old new → GoesOn g old new site
  goes_reading old new only = record { arrivals = []; answers = []; run = λ h held sound. has_run_none g site h old new only held sound }

  pub goes_none : (s : S) → GoesOn g s s site
  goes_none s = goes_reading s s (read_same g s)

  -- what turns made of the hall
  pub goes_of : {C : Type 0} {gives : C → Option Tick → C → Type 0} {source source' : C} {most : ℕ} {slots slots' : List (Option (Connection TcpStream))} (old new : S)
      → WentOn g gives old new source source' site most slots slots' → GoesOn g old new site
  goes_of old new it = record { arrivals = it.served.arrivals; answers = it.served.answers; run = it.served.run }

  pub goes_then : (old mid new : S) (from : Site) → from ≡ site → GoesOn g old mid site → GoesOn g mid new from → GoesOn g old new site
  goes_then old mid new from same one other =
      let more : GoesOn g mid new site = subst (λ (at : Site). GoesOn g mid new at) same other in
      record {
        arrivals = one.arrivals ++ more.arrivals;
        answers = one.answers ++ more.answers;
        run = λ h held sound.
            let before = one.run h held sound in
            has_run_then g site h old mid new one.arrivals more.arrivals one.answers more.answers before (more.run before.ran.end before.ran.held before.ran.sound);
      }

-- two reads of a store
module _ {S : Type 0} (g : Ghosts S) where
  only_read : (old new : S) {Y E : Type 0} (r : Result Y E) (Right : Hall → Y → Type 0) → IsRead g.holds g.leaves g.over old new r Right → IsOnlyRead g old new
  only_read old new r Right it = record { same = it.same; stop = it.crash; base = it.base }

  pub reads_then : (old mid new : S) {Y E Y' E' : Type 0} (r : Result Y E) (r' : Result Y' E') (Right : Hall → Y → Type 0) (Right' : Hall → Y' → Type 0)
      → ReadsBy g.is_clean g.holds g.leaves g.over old mid r Right → ReadsBy g.is_clean g.holds g.leaves g.over mid new r' Right'
      → g.is_clean new → g.is_clean old × IsOnlyRead g old new
  reads_then old mid new r r' Right Right' one other = λ clean.
      let second = other clean in
      let begin = one second.0 in
      let a = only_read old mid r Right begin.1 in
      let b = only_read mid new r' Right' second.1 in (
        begin.0,
        record {
          same = λ h held. b.same h (a.same h held);
          stop = λ h held hs left. b.stop h (a.same h held) hs (a.stop h held hs left);
          base = λ base over. b.base base (a.base base over);
        },
      )

-- what comes to a store comes to the one within it
pub goes_within : {O I : Type 0} (outer : Ghosts O) (inner : Ghosts I) (old new : O) (old' new' : I) (site : Site)
    → ((h : Hall) → inner.holds old' h → outer.holds old h) → ((h : Hall) → outer.holds new h → inner.holds new' h)
    → ((hs : List Hall) → inner.leaves old' hs → outer.leaves old hs) → ((hs : List Hall) → outer.leaves new hs → inner.leaves new' hs)
    → GoesOn outer old new site → GoesOn inner old' new' site
goes_within outer inner old new old' new' site into out left_in left_out it = record {
  arrivals = it.arrivals;
  answers = it.answers;
  run = λ h held sound.
      let r = it.run h (into h held) sound in
      record {
        ran = record { end = r.ran.end; run = r.ran.run; held = out r.ran.end r.ran.held; sound = r.ran.sound };
        settled = λ left all. left_out _ (r.settled (left_in _ left) all);
        stop = λ hs left. let more = r.stop hs (left_in hs left) in (more.0, left_out _ more.1, more.2);
      };
}

-- a group that isn't open has the hall of the store within
pub led_within : {S : Type 0} (g : Ghosts S) (group : Group S) (h : Hall) → is_open group ≡ false → LeadsTo g group h → g.holds (store_of group) h
led_within g group h closed it =
    subst (g.holds (store_of group)) (sym (it.led ∙ ap (λ writes. applied writes it.from) (it.alone closed))) it.held

-- what all laws make of it
pub was_served : AreHistoryLaws → {S : Type 0} (g : Ghosts S) (old new : S) (site : Site) → GoesOn g old new site → WasServed g old new
was_served its g old new site it = record {
  site = site;
  arrivals = it.arrivals;
  answers = it.answers;
  history = λ origin past was. after_run its g old new site origin past was it.arrivals it.answers (λ h held sound. (it.run h held sound).ran);
  settled = λ origin past was. run_given its g old new site origin past was it.arrivals it.answers it.run;
  stop = λ origin past was. run_stop its g old new site origin past was it.arrivals it.answers it.run;
}
