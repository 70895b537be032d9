-- From a call of the connection to one of the store.
use Rattle.sql_schema.specs.Words.{Error, Held, state, HasCleanDisk, Hall, applied, next_expired, if_due, RowWrite, Machine, IsHeld, IsTableRead, back_held, leaves_more, leaves_on, AllByRecursion, settles}
use Rattle.std.proofs.Common.{◌≡◌, ◌≤◌, ◌<◌, None, Option, List, ◌∷◌, false, Bool, true, not, ℕ, Ok, Err, Result, IsTrue, refl, sym, ap, subst, ◌∙◌, arith}
use Rattle.sqlite_trees.specs.declared.store.Store as trees
use Rattle.hall_types.specs.ChangeLaws.{applied_schema}
use Rattle.hall_store.specs.{Expiry.IsEarliest, ExpiryLaws.{first_due, lower_earliest, none_due}, Store.{IsWrite, ReadsBy, over_none}, declared.store.Unavailable.Unavailable}
use Rattle.hall_sql.specs.Applying.{IsTold}
use Rattle.hall_sql.{specs.{Expiring.{PutsNoEarlier, earliest_of}, Store.{HasHall, LeavesCommitted, Passes, StopLeaves}, declared.store.SqlStore.SqlStore}, proofs.ExpiryLemmas.{applied_earliest, first_earliest, machines_under}}

module _ {S : Type 0} (g : trees.Ghosts S) where
  -- a call that is refused leaves the store the hall, if the connection has it or had it at its last commit
  kept : (Y : Type 0) (mid new : SqlStore S) (e : Error) (u : Unavailable) → Passes g {Y = Y} mid new (Err e) (Err u) → (old : SqlStore S) → mid.earliest ≤ old.earliest → (h : Hall)
      → (IsHeld (state g old.conn) h → IsTrue (state g mid.conn).is_open → IsHeld (state g mid.conn) h) → old.stopped ≡ false → HasHall g old h → HasHall g new h
  kept Y mid new e u passed old lower h back up has = record {
    schema = has.schema;
    running = passed.1;
    held = back_held (state g mid.conn) (state g new.conn) h passed.2 (back (has.held (has.running up)));
    earliest = subst (λ n. IsEarliest n h.machines) (sym passed.4) (lower_earliest old.earliest h.machines has.earliest mid.earliest lower);
  }

  -- ---- reads

  -- a read of the connection, passed on
  pub asks : {Y : Type 0} {old new : SqlStore S} (mid : Held S) (r : Result Y Error) (out : Result Y Unavailable) {Right : Hall → Y → Type 0} → old.stopped ≡ false
      → (HasCleanDisk (state g mid) → HasCleanDisk (state g old.conn)) → (HasCleanDisk (state g mid) → IsTableRead (state g old.conn) (state g mid) r Right)
      → (HasCleanDisk (state g new.conn) → HasCleanDisk (state g mid)) → (HasCleanDisk (state g new.conn) → Passes g (record old { conn = mid }) new r out) → LeavesCommitted (state g new.conn)
      → ReadsBy (λ s. HasCleanDisk (state g s.conn)) (HasHall g) (StopLeaves g) over_none old new out Right
  asks mid (Ok y) out up was_clean read mid_clean passed settled clean =
      let it = passed clean in
      let a = read (mid_clean clean) in (
        was_clean (mid_clean clean),
        rw (it.0, it.1) (record {
          answer = λ h has. a.answer h (has.held (has.running up));
          same = λ h has. let held = a.same h (has.held (has.running up)) in record { schema = has.schema; running = λ _. held.running; held = λ _. held; earliest = has.earliest };
          crash = λ h has hs left. a.crash h (has.held (has.running up)) hs left;
          settled = λ h has. settles (state g mid) h (rw it.1 at settled) (a.same h (has.held (has.running up)));
          base = λ base none. none;
        }),
      )
  asks mid (Err e) (Ok y) up was_clean read mid_clean passed settled clean = let it = (passed clean).0 in absurd cc
  asks {Y = Y} {old = old} {new = new} mid (Err e) (Err u) up was_clean read mid_clean passed settled clean =
      let a = read (mid_clean clean) in (
        was_clean (mid_clean clean),
        record {
          answer = tt;
          same = λ h has. kept Y (record old { conn = mid }) new e u (passed clean) old (omega arith) h (a.back h) up has;
          crash = λ h has hs left. leaves_on (state g mid) (state g new.conn) hs (passed clean).3 clean (a.crash h (has.held (has.running up)) hs left);
          settled = tt;
          base = λ base none. none;
        },
      )

  -- ---- the next machine to expire

  -- a read of the machine that expires next
  abbrev FindsNext : SqlStore S → SqlStore S → Result (Option Machine) Unavailable → ℕ → Type 0
  FindsNext old new out moment = ReadsBy (λ s. HasCleanDisk (state g s.conn)) (HasHall g) (StopLeaves g) over_none old new out (λ h answer. answer ≡ next_expired h moment)

  -- before the moment that the store keeps none expires
  pub none_known : (s : SqlStore S) (seconds moment : ℕ) → seconds ≡ moment → s.stopped ≡ false → LeavesCommitted (state g s.conn) → seconds < s.earliest → FindsNext s s (Ok None) moment
  none_known s seconds moment is up settled early clean = (
    clean,
    record {
      answer = λ h has. none_due h s.earliest moment (machines_under (state g s.conn) h (has.held (has.running up))) has.earliest (rw is at early);
      same = λ h has. has;
      crash = λ h has hs left. left;
      settled = λ h has. settles (state g s.conn) h settled (has.held (has.running up));
      base = λ base none. none;
    },
  )

  -- where the store knows the first machine to expire of all, it knows the one that expires next, and keeps its deadline
  pub first_known : (old new : SqlStore S) (first : Option Machine) (moment : ℕ) → moment ≤ 1000000000000 → FindsNext old new (Ok first) 1000000000000 → FindsNext old (record new { earliest = earliest_of first }) (Ok (if_due moment first)) moment
  first_known old new first moment before read clean =
      let r = (read clean).1 in (
        (read clean).0,
        record {
          answer = λ h has. ap (if_due moment) (r.answer h has) ∙ first_due h moment 1000000000000 before;
          same = λ h has. let it = r.same h has in record { schema = it.schema; running = it.running; held = it.held; earliest = first_earliest h first (sym (r.answer h has)) };
          crash = r.crash;
          settled = r.settled;
          base = λ base none. none;
        },
      )

  -- a read that was refused is refused at any moment
  pub none_found : (old new : SqlStore S) (u : Unavailable) (moment late : ℕ) → FindsNext old new (Err u) late → FindsNext old new (Err u) moment
  none_found old new u moment late read clean = let r = (read clean).1 in ((read clean).0, record { answer = tt; same = r.same; crash = r.crash; settled = tt; base = λ base none. none })

  -- ---- writes

  -- a refusal that writes nothing
  pub none_written : {Y : Type 0} (s : SqlStore S) (e : Unavailable) (writes : List RowWrite) → IsWrite (HasHall g) (StopLeaves g) over_none s s {Y = Y} (Err e) (λ _. writes)
  none_written s e writes = record { made = tt; versions = tt; same = λ h has. has; crash = λ h has keep hs left. leaves_more (state g s.conn) (applied writes h) hs left; settled = tt; base = λ base none. none }

  module _ (old : SqlStore S) (earliest : ℕ) (mid : Held S) (up : old.stopped ≡ false) {Y : Type 0} (writes : List RowWrite) (lower : earliest ≤ old.earliest) (put : AllByRecursion (PutsNoEarlier earliest) writes) where
    -- what is passed on of a write is the write's answer
    pub write_by : (r : Result Y Error) (new : SqlStore S) (out : Result Y Unavailable) → IsTold (state g old.conn) (state g mid) r writes → Passes g (record old { conn = mid; earliest = earliest }) new r out
        → HasCleanDisk (state g new.conn) → LeavesCommitted (state g new.conn) → IsWrite (HasHall g) (StopLeaves g) over_none old new out (λ _. writes)
    write_by (Ok y) new out a passed clean settled = rw (passed.0, passed.1) (record {
      made = λ h has keep. let held = a.made h (has.held (has.running up)) keep in record {
        schema = applied_schema writes h ∙ has.schema;
        running = λ _. held.running;
        held = λ _. held;
        earliest = applied_earliest earliest writes h (lower_earliest old.earliest h.machines has.earliest earliest lower) put;
      };
      versions = λ h has keep. a.versions h (has.held (has.running up)) keep;
      same = tt;
      crash = λ h has keep hs left. a.crash h (has.held (has.running up)) keep hs left;
      settled = λ h has keep. settles (state g mid) (applied writes h) (rw passed.1 at settled) (a.made h (has.held (has.running up)) keep);
      base = λ base none. none;
    })
    write_by (Err e) new (Ok y) a passed clean settled = absurd cc
    write_by (Err e) new (Err u) a passed clean settled = record {
      made = tt;
      versions = tt;
      same = λ h has. kept Y (record old { conn = mid; earliest = earliest }) new e u passed old lower h (a.back h) up has;
      crash = λ h has keep hs left. leaves_on (state g mid) (state g new.conn) (applied writes h ∷ hs) passed.3 clean (a.crash h (has.held (has.running up)) keep hs left);
      settled = tt;
      base = λ base none. none;
    }
