use Rattle.std.proofs.Common.{◌∷◌, [], refl}
use Rattle.hall_desk.{specs.Desk.{site_of, store_of}, proofs.GroupLemmas.{given_up, group_back, group_run, group_settled, group_stop, may_leave, none_begun, none_opened, none_stop, on_err, over_hall, over_left, together}}
use Rattle.hall_desk.proofs.desk.Desk.answer_group.Goals as goal

-- ---- none was begun

pub returns-in_err-begin-clause-closed : goal.returns-in_err-begin-clause-closed
returns-in_err-begin-clause-closed g c = λ clean. none_opened g.S.HallStore (store_of c.args.self.now) c.begin.new.self c.begin.result (c.begin.ensures clean).1 _ c.in_err-begin.was

pub returns-in_err-begin-clause-missed : goal.returns-in_err-begin-clause-missed
returns-in_err-begin-clause-missed g c = λ clean.
    on_err c.from_residual.result _ (λ h held sound.
    none_begun g.S.HallStore g.S.HallStore.wider (store_of c.args.self.now) c.begin.new.self c.begin.result (c.begin.ensures clean).1 _ c.in_err-begin.was
    (site_of c.args.self.now) h c.args.arrivals.now held)

pub returns-in_err-begin-clause-stop : goal.returns-in_err-begin-clause-stop
returns-in_err-begin-clause-stop g c = λ clean origin past was.
    none_stop (record { laws = c.histories_keep_the_laws.ensures }) g.S.HallStore (store_of c.args.self.now) c.begin.new.self (site_of c.args.self.now) origin past was c.args.arrivals.now
    (none_begun g.S.HallStore g.S.HallStore.wider (store_of c.args.self.now) c.begin.new.self c.begin.result (c.begin.ensures clean).1 _ c.in_err-begin.was
    (site_of c.args.self.now) was.history.end c.args.arrivals.now was.history.held)

-- ---- there was no memory for the answers

pub returns-in_default-clause-closed : goal.returns-in_default-clause-closed
returns-in_default-clause-closed g c = λ clean closed. (c.roll_back.ensures clean).1.closed

pub returns-in_default-clause-missed : goal.returns-in_default-clause-missed
returns-in_default-clause-missed g c = λ clean h held sound.
    let back = c.roll_back.ensures clean in
    let ran = c.answer_first.ensures.clean back.0 in
    let base = c.answer_first.ensures.base back.0 in
    let begun = (c.begin.ensures ran).1 in
    given_up g.S.HallStore g.S.HallStore.wider (store_of c.args.self.now) (store_of c.answer_first.new.self) c.roll_back.new.self h
    (λ hs left. base _ (over_left g.S.HallStore g.S.HallStore.wider (store_of c.args.self.now) c.begin.new.self c.begin.result begun _ c.in_ok-begin.was h held hs left))
    (site_of c.args.self.now) c.args.arrivals.now
    (base _ (over_hall g.S.HallStore g.S.HallStore.wider (store_of c.args.self.now) c.begin.new.self c.begin.result begun _ c.in_ok-begin.was h held)) back.1

pub returns-in_default-clause-stop : goal.returns-in_default-clause-stop
returns-in_default-clause-stop g c = λ clean origin past was.
    none_stop (record { laws = c.histories_keep_the_laws.ensures }) g.S.HallStore (store_of c.args.self.now) c.roll_back.new.self (site_of c.args.self.now) origin past was
    c.args.arrivals.now (returns-in_default-clause-missed g c clean was.history.end was.history.held was.history.headline.laws.sound)

-- ---- the commit failed

pub returns-in_err-commit-clause-closed : goal.returns-in_err-commit-clause-closed
returns-in_err-commit-clause-closed g c = λ clean closed. (c.commit.ensures clean).1.closed

pub returns-in_err-commit-clause-missed : goal.returns-in_err-commit-clause-missed
returns-in_err-commit-clause-missed g c = λ clean.
    let commit = c.commit.ensures clean in
    let base = c.answer_first.ensures.base commit.0 in
    let begun = (c.begin.ensures (c.answer_first.ensures.clean commit.0)).1 in
    on_err c.from_residual-in_err-commit.result _ (λ h held sound.
    group_back g.S.HallStore g.S.HallStore.wider (store_of c.args.self.now) (store_of c.answer_first.new.self) c.commit.new.self h
    (λ hs left. base _ (over_left g.S.HallStore g.S.HallStore.wider (store_of c.args.self.now) c.begin.new.self c.begin.result begun _ c.in_ok-begin.was h held hs left))
    c.commit.result commit.1 (site_of c.args.self.now) _ refl c.args.arrivals.now c.in-Ok.answered.answers.items (c.in-Ok.ensures.ran commit.0 h (begun.same h held) sound)
    _ c.in_err-commit.was c.in-Ok.ensures.answered
    (base _ (over_hall g.S.HallStore g.S.HallStore.wider (store_of c.args.self.now) c.begin.new.self c.begin.result begun _ c.in_ok-begin.was h held)))

pub returns-in_err-commit-clause-stop : goal.returns-in_err-commit-clause-stop
returns-in_err-commit-clause-stop g c = λ clean origin past was.
    let commit = c.commit.ensures clean in
    let base = c.answer_first.ensures.base commit.0 in
    let begun = (c.begin.ensures (c.answer_first.ensures.clean commit.0)).1 in
    let end = was.history.end in
    let held = was.history.held in
    let answers = c.in-Ok.answered.answers.items in
    let ran = c.in-Ok.ensures.ran commit.0 end (begun.same end held) was.history.headline.laws.sound in
    group_stop (record { laws = c.histories_keep_the_laws.ensures }) g.S.HallStore (store_of c.args.self.now) c.commit.new.self (site_of c.args.self.now) origin past was
    c.args.arrivals.now ran.end (together (site_of c.args.self.now) end c.args.arrivals.now answers ran.end ran.run c.in-Ok.ensures.answered)
    (may_leave g.S.HallStore g.S.HallStore.wider (store_of c.args.self.now) (store_of c.answer_first.new.self) c.commit.new.self end
    (λ hs left. base _ (over_left g.S.HallStore g.S.HallStore.wider (store_of c.args.self.now) c.begin.new.self c.begin.result begun _ c.in_ok-begin.was end held hs left))
    c.commit.result commit.1 ran.end ran.held (end ∷ []) was.settled)

-- ---- the commit was made

pub returns-clause-closed : goal.returns-clause-closed
returns-clause-closed g c = λ clean closed. (c.commit.ensures clean).1.closed

pub returns-clause-run : goal.returns-clause-run
returns-clause-run g c = λ clean h held sound.
    let commit = c.commit.ensures clean in
    let base = c.answer_first.ensures.base commit.0 in
    let begun = (c.begin.ensures (c.answer_first.ensures.clean commit.0)).1 in
    group_run g.S.HallStore g.S.HallStore.wider (store_of c.args.self.now) (store_of c.answer_first.new.self) c.commit.new.self h
    (λ hs left. base _ (over_left g.S.HallStore g.S.HallStore.wider (store_of c.args.self.now) c.begin.new.self c.begin.result begun _ c.in_ok-begin.was h held hs left))
    c.commit.result commit.1 (site_of c.args.self.now) _ refl c.args.arrivals.now c.in-Ok.answered.answers.items (c.in-Ok.ensures.ran commit.0 h (begun.same h held) sound)
    _ c.in_ok-commit.was

pub returns-clause-history : goal.returns-clause-history
returns-clause-history g c = λ clean origin past was.
    (group_settled (record { laws = c.histories_keep_the_laws.ensures }) g.S.HallStore (store_of c.args.self.now) c.commit.new.self (site_of c.args.self.now) origin past
    _ c.in-Ok.answered.answers.items (returns-clause-run g c clean) was).history

pub returns-clause-settled : goal.returns-clause-settled
returns-clause-settled g c = λ clean origin past was.
    group_settled (record { laws = c.histories_keep_the_laws.ensures }) g.S.HallStore (store_of c.args.self.now) c.commit.new.self (site_of c.args.self.now) origin past
    _ c.in-Ok.answered.answers.items (returns-clause-run g c clean) was

pub returns-clause-stop : goal.returns-clause-stop
returns-clause-stop g c = λ clean origin past was.
    let commit = c.commit.ensures clean in
    let base = c.answer_first.ensures.base commit.0 in
    let begun = (c.begin.ensures (c.answer_first.ensures.clean commit.0)).1 in
    let end = was.history.end in
    let held = was.history.held in
    let answers = c.in-Ok.answered.answers.items in
    let ran = c.in-Ok.ensures.ran commit.0 end (begun.same end held) was.history.headline.laws.sound in
    group_stop (record { laws = c.histories_keep_the_laws.ensures }) g.S.HallStore (store_of c.args.self.now) c.commit.new.self (site_of c.args.self.now) origin past was
    c.args.arrivals.now ran.end (together (site_of c.args.self.now) end c.args.arrivals.now answers ran.end ran.run c.in-Ok.ensures.answered)
    (may_leave g.S.HallStore g.S.HallStore.wider (store_of c.args.self.now) (store_of c.answer_first.new.self) c.commit.new.self end
    (λ hs left. base _ (over_left g.S.HallStore g.S.HallStore.wider (store_of c.args.self.now) c.begin.new.self c.begin.result begun _ c.in_ok-begin.was end held hs left))
    c.commit.result commit.1 ran.end ran.held (end ∷ []) was.settled)
