-- An import goes on by one row.
use Rattle.std.{proofs.{Common.{◌≡◌, ◌≢◌, ◌+◌, ◌<◌, ◌==◌, ◌&&◌, ℕ, Bool, true, false, List, [], ◌∷◌, ◌++◌, Option, Result, Ok, Err, IfErr, IfOk, IsErrAnd, if◌then◌else◌, length, drop, map, take, get_or, refl, sym, ap, subst, inl, inr, ◌∙◌, suc, append-nil, append_assoc, add-zero, arith}, KnownBytes.{Appends-nil, Appends-trans}, lemmas.List.{length-map, map-append, take-append-drop, take_more, Folds.list_all-append, Sums.fold-append}}, specs.{Prelude.replicate, Io.KnownBytes.Appends, List.{AllByRecursion, enumerate_from, flat_map, fold, list_all, scan}}}
use Rattle.hall_types.specs.Refusal.{refusal_row}
use Rattle.hall_events.specs.Reply.{reply_of}
use Rattle.hall_desk.specs.{HistoryLaws.left_more, RunLaws.all_weaker}
use Rattle.desk_operations.specs.{Prelude.{Site, IsSound, Hall, applied, second, Event, BodyKind, Reply, Http, AllKeep, Ghosts, Unavailable, decision_of, ImportRow, Fault, Io, HasHistory, IsEnd, IsLeft, IsSettled, Item, LeavesMore, OrUnreplied, Origin, came_unreplied, carried_out, IsCarriedOut}, Import.{AndCutImport, AreAccepted, AreReplied, GoOn, GoOnBy, IsCutImport, IsImported, IsRowAnswered, IsRowDone, IsRowItem, IsRowStopped, IsStopped, SettlesByAll, after_row, after_rows, end_of, event_of, is_ok, line_of, lines_of, replies_to, reply_to, row_line, unavailable}, declared.imports.Imported.{Imported, TheVariants.{All, NotAll}}}

-- ---- lists with one more element

scan-more : {A X Y : Type 0} (next : A → X → A) (out : A → X → Y) (a : A) (xs : List X) (x : X)
    → scan next out a (xs ++ x ∷ []) ≡ scan next out a xs ++ out (fold next a xs) x ∷ []
scan-more next out a [] x = refl
scan-more next out a (y ∷ xs) x = ap (λ ys. out a y ∷ ys) (scan-more next out (next a y) xs x)

length-scan : {A X Y : Type 0} (next : A → X → A) (out : A → X → Y) (a : A) (xs : List X) → length (scan next out a xs) ≡ length xs
length-scan next out a [] = refl
length-scan next out a (y ∷ xs) = ap suc (length-scan next out (next a y) xs)

numbered-more : {Y : Type 0} (f : ℕ × Y → List ℕ) (n m : ℕ) (ys : List Y) (y : Y) → m ≡ n + length ys
    → flat_map f (enumerate_from n (ys ++ y ∷ [])) ≡ flat_map f (enumerate_from n ys) ++ f (m, y)
numbered-more f n m [] y e = append-nil (f (n, y)) ∙ ap (λ k. f (k, y)) (sym (e ∙ add-zero n))
numbered-more f n m (x ∷ ys) y e =
    ap (λ text. f (n, x) ++ text) (numbered-more f (n + 1) m ys y (e ∙ omega arith))
    ∙ sym (append_assoc (f (n, x)) (flat_map f (enumerate_from (n + 1) ys)) (f (m, y)))

-- ---- an import's end

end-more : (all ok : Bool) (end : Imported) → end ≡ (if all then All else NotAll) → (if ok then end else NotAll) ≡ (if all && (ok && true) then All else NotAll)
end-more true true end is = is
end-more false true end is = is
end-more all ok end is = refl

end_of-more : (replies : List Reply) (reply : Reply) (end : Imported) → end ≡ end_of replies
    → (if is_ok reply then end else NotAll) ≡ end_of (replies ++ reply ∷ [])
end_of-more replies reply end is =
    end-more (list_all is_ok replies) (is_ok reply) end is
    ∙ ap (λ (all : Bool). if all then All else NotAll) (sym (list_all-append is_ok replies (reply ∷ [])))

-- ---- rows

-- what holds of a fault holds of a result that it ends
pub if_err_of : {A : Type 0} (r : Result A Fault) (fault : Fault) (P : Fault → Type 0) → IsErrAnd r (λ given. given ≡ fault) → P fault → IfErr r P
if_err_of (Ok a) fault P is it = tt
if_err_of (Err given) fault P is it = subst P (sym is) it

module _ {S : Type 0} (g : Ghosts S) (site : Site) (bearer : List ℕ) (moment : ℕ) where
  -- the desk carried a row's command out
  pub row_carried : ((site : Site) (h : Hall) (e : Event) (moment : ℕ) (fresh : List ℕ) → IsSound h → h.schema ≡ second → AllKeep (decision_of site h e moment fresh).rows h)
      → ((site : Site) (h : Hall) (e : Event) (moment : ℕ) (fresh : List ℕ) → IsSound h → h.schema ≡ second → IsSound (applied (decision_of site h e moment fresh).rows h))
      → ((store : S) (h : Hall) → g.holds store h → h.schema ≡ second)
      → (old new : S) (row : ImportRow) (e : Event) (fresh : List ℕ) → e ≡ event_of bearer row → fresh ≡ replicate 16 0 → (reply : Reply)
      → IsCarriedOut g old new {E = Unavailable} (Ok reply) (λ h. (decision_of site h e moment fresh).rows) (λ h reply. reply ≡ reply_of second (decision_of site h e moment fresh).content)
      → (h : Hall) → g.holds old h → IsSound h → IsRowAnswered g new site bearer moment h row reply
  row_carried keeps stays schema old new row e fresh e_is fresh_is reply carried h held sound =
      let made = carried.made h held (keeps site h e moment fresh sound (schema old h held)) in
      let stayed = stays site h e moment fresh sound (schema old h held) in
      let Held : Event → List ℕ → Type 0 = λ e fresh. g.holds new (applied (decision_of site h e moment fresh).rows h) in
      let Sound : Event → List ℕ → Type 0 = λ e fresh. IsSound (applied (decision_of site h e moment fresh).rows h) in
      let reply_for : Event → List ℕ → Reply = λ e fresh. reply_of second (decision_of site h e moment fresh).content in
      record {
        came = true;
        held = subst (Held (event_of bearer row)) fresh_is (subst (λ (e : Event). Held e fresh) e_is made);
        sound = subst (Sound (event_of bearer row)) fresh_is (subst (λ (e : Event). Sound e fresh) e_is stayed);
        is = carried.answer h held ∙ ap (λ (e : Event). reply_for e fresh) e_is ∙ ap (reply_for (event_of bearer row)) fresh_is;
      }

  -- the row's line was written
  pub row_done : (new : S) (row : ImportRow) (reply : Reply) (status : ℕ) (kind : BodyKind) (body : List ℕ) → reply ≡ Http status kind body
      → (number : ℕ) (before after : Option (List ℕ)) (text : List ℕ) → text ≡ row_line number status body → Appends before after text
      → (h : Hall) → IsRowAnswered g new site bearer moment h row reply → IsRowDone g new site bearer moment h number row (status == 200) before after
  row_done new row reply status kind body reply_is number before after text text_is written h it =
      let same : Http status kind body ≡ reply_to site bearer moment h (row, it.came) = sym reply_is ∙ it.is in
      record {
        came = it.came;
        held = it.held;
        sound = it.sound;
        written = subst (λ (reply : Reply). Appends before after (line_of number reply)) same (subst (Appends before after) text_is written);
        ok = ap is_ok same;
      }

  -- or it wasn't
  pub row_stopped : (new : S) (row : ImportRow) (reply : Reply) (fault : Fault) (before after : Option (List ℕ)) → (fault ≢ Io → Appends before after [])
      → (h : Hall) → IsRowAnswered g new site bearer moment h row reply → IsRowStopped g new site bearer moment h row fault before after
  row_stopped new row reply fault before after written h it = record { came = it.came; held = it.held; sound = it.sound; written = written }

  -- a row that wasn't answered
  pub row_refused : (store : S) (h : Hall) (row : ImportRow) (fault : Fault) (contents : Option (List ℕ)) → g.holds store h → IsSound h
      → IsRowStopped g store site bearer moment h row fault contents contents
  row_refused store h row fault contents held sound = record { came = false; held = held; sound = sound; written = λ other. Appends-nil contents }

  -- ---- one row after the other

  abbrev row_of : ImportRow × Bool → ImportRow
  row_of asked = asked.0

  after_more : (h : Hall) (asked : List (ImportRow × Bool)) (one : ImportRow × Bool)
      → after_rows site bearer moment h (asked ++ one ∷ []) ≡ after_row site bearer moment (after_rows site bearer moment h asked) one
  after_more h asked one = fold-append (after_row site bearer moment) h asked (one ∷ [])

  rows_more : (asked : List (ImportRow × Bool)) (one : ImportRow × Bool) (rows : List ImportRow) → map row_of asked ≡ rows → map row_of (asked ++ one ∷ []) ≡ rows ++ one.0 ∷ []
  rows_more asked one rows all = map-append row_of asked (one ∷ []) ∙ ap (λ some. some ++ one.0 ∷ []) all

  -- no row yet
  pub imported_none : (store : S) (h : Hall) (contents : Option (List ℕ)) → g.holds store h → IsSound h
      → IsImported g store site bearer moment h [] All contents contents
  imported_none store h contents held sound = record { asked = []; all = refl; held = held; sound = sound; written = Appends-nil contents; ended = refl }

  -- one more row
  imported_more : (old new : S) (h : Hall) (rows : List ImportRow) (row : ImportRow) (number : ℕ) (was_ok : Bool) (end next : Imported) (before mid after : Option (List ℕ))
      → number ≡ 1 + length rows → next ≡ (if was_ok then end else NotAll)
      → (so_far : IsImported g old site bearer moment h rows end before mid)
      → IsRowDone g new site bearer moment (after_rows site bearer moment h so_far.asked) number row was_ok mid after
      → IsImported g new site bearer moment h (rows ++ row ∷ []) next before after
  imported_more old new h rows row number was_ok end next before mid after counted is so_far done =
      let asked = so_far.asked in
      let one : ImportRow × Bool = (row, done.came) in
      let here = after_rows site bearer moment h asked in
      let replies = replies_to site bearer moment h asked in
      let reply = reply_to site bearer moment here one in
      let reached = after_more h asked one in
      let replied : replies_to site bearer moment h (asked ++ one ∷ []) ≡ replies ++ reply ∷ [] = scan-more (after_row site bearer moment) (reply_to site bearer moment) h asked one in
      let many : length rows ≡ length asked = ap length (sym so_far.all) ∙ length-map asked row_of in
      let place : number ≡ 1 + length replies = counted ∙ ap (λ (n : ℕ). 1 + n) (many ∙ sym (length-scan (after_row site bearer moment) (reply_to site bearer moment) h asked)) in
      let lines : lines_of (replies ++ reply ∷ []) ≡ lines_of replies ++ line_of number reply = numbered-more (λ numbered. line_of numbered.0 numbered.1) 1 number replies reply place in
      let chosen : (if was_ok then end else NotAll) ≡ (if is_ok reply then end else NotAll) = ap (λ (ok : Bool). if ok then end else NotAll) done.ok in
      record {
        asked = asked ++ one ∷ [];
        all = rows_more asked one rows so_far.all;
        held = subst (g.holds new) (sym reached) done.held;
        sound = subst IsSound (sym reached) done.sound;
        written = subst (Appends before after) (sym (ap lines_of replied ∙ lines)) (Appends-trans before mid after (lines_of replies) (line_of number reply) so_far.written done.written);
        ended = is ∙ chosen ∙ end_of-more replies reply end so_far.ended ∙ ap end_of (sym replied);
      }

  -- one more row, from the hall that the rows before led to
  pub imported_next : (from : Site) → from ≡ site
      → (old new : S) (h : Hall) (rows : List ImportRow) (row : ImportRow) (number : ℕ) (was_ok : Bool) (end next : Imported) (before mid after : Option (List ℕ))
      → number ≡ 1 + length rows → next ≡ (if was_ok then end else NotAll)
      → IsImported g old site bearer moment h rows end before mid
      → ((h : Hall) → g.holds old h → IsSound h → IsRowDone g new from bearer moment h number row was_ok mid after)
      → IsImported g new site bearer moment h (rows ++ row ∷ []) next before after
  imported_next from same old new h rows row number was_ok end next before mid after counted is so_far done =
      let here = after_rows site bearer moment h so_far.asked in
      imported_more old new h rows row number was_ok end next before mid after counted is so_far
      (subst (λ (at : Site). IsRowDone g new at bearer moment here number row was_ok mid after) same (done here so_far.held so_far.sound))

  -- ---- an import that stops

  pub stopped_none : (store : S) (h : Hall) (rows : List ImportRow) (fault : Fault) (contents : Option (List ℕ)) → g.holds store h → IsSound h
      → IsStopped g store site bearer moment h rows fault contents contents
  stopped_none store h rows fault contents held sound =
      record { asked = []; last = []; others = rows; one = grind (arith); all = refl; held = held; sound = sound; written = λ other. Appends-nil contents }

  pub stopped_next : (from : Site) → from ≡ site
      → (old new : S) (h : Hall) (rows : List ImportRow) (place : ℕ) (row : ImportRow) (end : Imported) (fault : Fault) (before mid after : Option (List ℕ)) → place < length rows → row ≡ get_or rows place row
      → IsImported g old site bearer moment h (take place rows) end before mid
      → ((h : Hall) → g.holds old h → IsSound h → IsRowStopped g new from bearer moment h row fault mid after)
      → IsStopped g new site bearer moment h rows fault before after
  stopped_next from same old new h rows place row end fault before mid after here at so_far tried =
      let asked = so_far.asked in
      let first = after_rows site bearer moment h asked in
      let lines = lines_of (replies_to site bearer moment h asked) in
      let stop = subst (λ (at : Site). IsRowStopped g new at bearer moment first row fault mid after) same (tried first so_far.held so_far.sound) in
      let one : ImportRow × Bool = (row, stop.came) in
      let reached = after_more h asked one in
      let front : map row_of (asked ++ one ∷ []) ≡ take (place + 1) rows =
      rows_more asked one (take place rows) so_far.all ∙ ap (λ (it : ImportRow). take place rows ++ it ∷ []) at ∙ sym (take_more rows place row here) in
      record {
        asked = asked;
        last = one ∷ [];
        others = drop (place + 1) rows;
        one = grind (arith);
        all = ap (λ some. some ++ drop (place + 1) rows) front ∙ take-append-drop (place + 1) rows;
        held = subst (g.holds new) (sym reached) stop.held;
        sound = subst IsSound (sym reached) stop.sound;
        written = λ other. subst (Appends before after) (append-nil lines) (Appends-trans before mid after lines [] so_far.written (stop.written other));
      }

-- ---- histories

all_more : {X : Type 0} (P : X → Type 0) (xs ys : List X) → AllByRecursion P xs → AllByRecursion P ys → AllByRecursion P (xs ++ ys)
all_more P [] ys a b = b
all_more P (x ∷ xs) ys a b = (a.0, all_more P xs ys a.1 b)

module _ {S : Type 0} (g : Ghosts S) (site : Site) (bearer : List ℕ) (moment : ℕ) where
  -- what keeps a hall goes on
  pub kept_on : (old new : S) → ((h : Hall) → g.holds old h → g.holds new h) → GoOn g old new site bearer moment
  kept_on old new same origin past was = (
    [],
    tt,
    subst (HasHistory g new origin) (sym (append-nil past)) (record { end = was.end; held = same was.end was.held; headline = was.headline }),
  )

  pub more_on : (from : Site) → from ≡ site → (a b c : S) → GoOn g a b site bearer moment → GoOn g b c from bearer moment → GoOn g a c site bearer moment
  more_on from same a b c one two origin past was =
      let first = one origin past was in
      let next = subst (λ at. GoOn g b c at bearer moment) same two origin (past ++ first.0) first.2 in (
        first.0 ++ next.0,
        all_more (IsRowItem site bearer moment) first.0 next.0 first.1 next.1,
        subst (HasHistory g c origin) (append_assoc past first.0 next.0) next.2,
      )

  -- a row's command is carried out
  pub carried_on : (old new : S) (row : ImportRow) (e : Event) (fresh : List ℕ) (reply : Reply) → e ≡ event_of bearer row → fresh ≡ replicate 16 0
      → ((origin : Origin) (past : List Item) → HasHistory g old origin past → HasHistory g new origin (past ++ carried_out site e moment fresh reply ∷ []))
      → GoOn g old new site bearer moment
  carried_on old new row e fresh reply e_is fresh_is history origin past was = (
    carried_out site e moment fresh reply ∷ [],
    ((row, reply, ap (λ e. carried_out site e moment fresh reply) e_is ∙ ap (λ f. carried_out site (event_of bearer row) moment f reply) fresh_is), tt),
    history origin past was,
  )

-- ---- rows in turn, and stops

module _ (site : Site) (bearer : List ℕ) (moment : ℕ) where
  abbrev Replied : List ImportRow → List Item → Type 0
  Replied = AreReplied site bearer moment

  abbrev Cut : List ImportRow → List Item → Type 0
  Cut = IsCutImport site bearer moment

  -- what came of rows is what came of them and more
  replied_first : (xs ys : List ImportRow) (items : List Item) → Replied xs items → Replied (xs ++ ys) items
  replied_first xs ys [] it = tt
  replied_first [] ys (item ∷ items) it = absurd it
  replied_first (x ∷ xs) ys (item ∷ items) (inl it) = inl (it.0, replied_first xs ys items it.1)
  replied_first (x ∷ xs) ys (item ∷ items) (inr it) = inr (replied_first xs ys (item ∷ items) it)

  cut_first : (xs ys : List ImportRow) (cut : List Item) → Cut xs cut → Cut (xs ++ ys) cut
  cut_first xs ys [] it = tt
  cut_first [] ys (item ∷ cut) it = absurd it
  cut_first (x ∷ xs) ys (item ∷ cut) (inl it) = inl it
  cut_first (x ∷ xs) ys (item ∷ cut) (inr (inl it)) = inr (inl (it.0, cut_first xs ys cut it.1))
  cut_first (x ∷ xs) ys (item ∷ cut) (inr (inr it)) = inr (inr (cut_first xs ys (item ∷ cut) it))

  -- likewise of rows before them
  replied_later : (xs ys : List ImportRow) (items : List Item) → Replied ys items → Replied (xs ++ ys) items
  replied_later xs ys [] it = tt
  replied_later [] ys (item ∷ items) it = it
  replied_later (x ∷ xs) ys (item ∷ items) it = inr (replied_later xs ys (item ∷ items) it)

  cut_later : (xs ys : List ImportRow) (cut : List Item) → Cut ys cut → Cut (xs ++ ys) cut
  cut_later xs ys [] it = tt
  cut_later [] ys (item ∷ cut) it = it
  cut_later (x ∷ xs) ys (item ∷ cut) it = inr (inr (cut_later xs ys (item ∷ cut) it))

  -- and of rows after those that came
  replied_then : (xs ys : List ImportRow) (items more : List Item) → Replied xs items → Replied ys more → Replied (xs ++ ys) (items ++ more)
  replied_then xs ys [] more it after = replied_later xs ys more after
  replied_then [] ys (item ∷ items) more it after = absurd it
  replied_then (x ∷ xs) ys (item ∷ items) more (inl it) after = inl (it.0, replied_then xs ys items more it.1 after)
  replied_then (x ∷ xs) ys (item ∷ items) more (inr it) after = inr (replied_then xs ys (item ∷ items) more it after)

  cut_then : (xs ys : List ImportRow) (items cut : List Item) → Replied xs items → Cut ys cut → Cut (xs ++ ys) (items ++ cut)
  cut_then xs ys [] cut it after = cut_later xs ys cut after
  cut_then [] ys (item ∷ items) cut it after = absurd it
  cut_then (x ∷ xs) ys (item ∷ items) cut (inl it) after = inr (inl (it.0, cut_then xs ys items cut it.1 after))
  cut_then (x ∷ xs) ys (item ∷ items) cut (inr it) after = inr (inr (cut_then xs ys (item ∷ items) cut it after))

  module _ {S : Type 0} (g : Ghosts S) where
    abbrev Ends : Origin → List Item → List ImportRow → Hall → Type 0
    Ends origin past rows = IsEnd origin (AndCutImport past site bearer moment rows)

    -- no row came
    pub in_turn_none : (store : S) (rows : List ImportRow) → GoOnBy g store store site bearer moment rows
    in_turn_none store rows origin past was = ([], tt, subst (HasHistory g store origin) (sym (append-nil past)) was, λ hs left. ([], left, tt))

    -- one row, which a stop may leave
    leaves_row : (old new : S) (row : ImportRow) (e : Event) (fresh : List ℕ) → e ≡ event_of bearer row → fresh ≡ replicate 16 0 → (origin : Origin) (past : List Item)
        → LeavesMore g old new origin (OrUnreplied past site e moment fresh) → LeavesMore g old new origin (AndCutImport past site bearer moment (row ∷ []))
    leaves_row old new row e fresh e_is fresh_is origin past crash hs left =
        let found = crash hs left in
        (found.0, found.1, all_weaker (IsEnd origin (OrUnreplied past site e moment fresh)) (Ends origin past (row ∷ [])) (λ x at. (at.0, one at.0 at.1, at.2)) found.0 found.2)
      where
        one : (items : List Item) → OrUnreplied past site e moment fresh items → AndCutImport past site bearer moment (row ∷ []) items
        one items (inl is) = ([], tt, is ∙ sym (append-nil past))
        one items (inr is) = (
          came_unreplied site e moment fresh ∷ [],
          inl (ap (λ e. came_unreplied site e moment fresh) e_is ∙ ap (λ f. came_unreplied site (event_of bearer row) moment f) fresh_is, refl),
          is,
        )

    pub in_turn_one : (old new : S) (row : ImportRow) (e : Event) (fresh : List ℕ) (reply : Reply) → e ≡ event_of bearer row → fresh ≡ replicate 16 0
        → ((origin : Origin) (past : List Item) → HasHistory g old origin past → HasHistory g new origin (past ++ carried_out site e moment fresh reply ∷ []))
        → ((origin : Origin) (past : List Item) → HasHistory g old origin past → LeavesMore g old new origin (OrUnreplied past site e moment fresh))
        → GoOnBy g old new site bearer moment (row ∷ [])
    in_turn_one old new row e fresh reply e_is fresh_is history crash origin past was = (
      carried_out site e moment fresh reply ∷ [],
      inl ((reply, ap (λ e. carried_out site e moment fresh reply) e_is ∙ ap (λ f. carried_out site (event_of bearer row) moment f reply) fresh_is), tt),
      history origin past was,
      leaves_row old new row e fresh e_is fresh_is origin past (crash origin past was),
    )

    -- one that the store couldn't answer
    pub in_turn_refused : (old new : S) (row : ImportRow) (e : Event) (fresh : List ℕ) → e ≡ event_of bearer row → fresh ≡ replicate 16 0
        → ((h : Hall) → g.holds old h → g.holds new h)
        → ((origin : Origin) (past : List Item) → HasHistory g old origin past → LeavesMore g old new origin (OrUnreplied past site e moment fresh))
        → GoOnBy g old new site bearer moment (row ∷ [])
    in_turn_refused old new row e fresh e_is fresh_is same crash origin past was = (
      [],
      tt,
      subst (HasHistory g new origin) (sym (append-nil past)) (record { end = was.end; held = same was.end was.held; headline = was.headline }),
      leaves_row old new row e fresh e_is fresh_is origin past (crash origin past was),
    )

    -- rows, and then more
    leaves_then : (a b c : S) (xs ys : List ImportRow) (origin : Origin) (past items : List Item) → Replied xs items
        → LeavesMore g a b origin (AndCutImport past site bearer moment xs) → LeavesMore g b c origin (AndCutImport (past ++ items) site bearer moment ys)
        → LeavesMore g a c origin (AndCutImport past site bearer moment (xs ++ ys))
    leaves_then a b c xs ys origin past items are one two hs left =
        let first = one hs left in
        let next = two (first.0 ++ hs) first.1 in (
          next.0 ++ first.0,
          subst (g.leaves c) (sym (append_assoc next.0 first.0 hs)) next.1,
          all_more (Ends origin past (xs ++ ys)) next.0 first.0
              (all_weaker (Ends origin (past ++ items) ys) (Ends origin past (xs ++ ys)) (λ x at. (at.0, after at.0 at.1, at.2)) next.0 next.2)
              (all_weaker (Ends origin past xs) (Ends origin past (xs ++ ys)) (λ x at. (at.0, (at.1.0, cut_first xs ys at.1.0 at.1.1, at.1.2), at.2)) first.0 first.2),
        )
      where
        after : (all : List Item) → AndCutImport (past ++ items) site bearer moment ys all → AndCutImport past site bearer moment (xs ++ ys) all
        after all it = (items ++ it.0, cut_then xs ys items it.0 are it.1, it.2 ∙ append_assoc past items it.0)

    pub in_turn_then : (from : Site) → from ≡ site → (a b c : S) (xs ys : List ImportRow) → GoOnBy g a b site bearer moment xs → GoOnBy g b c from bearer moment ys
        → GoOnBy g a c site bearer moment (xs ++ ys)
    in_turn_then from same a b c xs ys one two origin past was =
        let first = one origin past was in
        let next = subst (λ (at : Site). GoOnBy g b c at bearer moment ys) same two origin (past ++ first.0) first.2 in (
          first.0 ++ next.0,
          replied_then xs ys first.0 next.0 first.1 next.1,
          subst (HasHistory g c origin) (append_assoc past first.0 next.0) next.2,
          leaves_then a b c xs ys origin past first.0 first.1 first.3 next.3,
        )

    -- the first rows of more
    in_turn_first : (a b : S) (xs ys : List ImportRow) → GoOnBy g a b site bearer moment xs → GoOnBy g a b site bearer moment (xs ++ ys)
    in_turn_first a b xs ys by = in_turn_then site refl a b b xs ys by (in_turn_none b ys)

    -- one more row
    pub in_turn_next : (from : Site) → from ≡ site → (a b c : S) (rows : List ImportRow) (place : ℕ) (row : ImportRow) → place < length rows → row ≡ get_or rows place row
        → GoOnBy g a b site bearer moment (take place rows) → GoOnBy g b c from bearer moment (row ∷ []) → GoOnBy g a c site bearer moment (take (place + 1) rows)
    in_turn_next from same a b c rows place row here at one two =
        subst (GoOnBy g a c site bearer moment) (ap (λ (it : ImportRow). take place rows ++ it ∷ []) at ∙ sym (take_more rows place row here))
        (in_turn_then from same a b c (take place rows) (row ∷ []) one two)

    -- the first rows of all
    pub in_turn_taken : (a b : S) (rows : List ImportRow) (count : ℕ) → GoOnBy g a b site bearer moment (take count rows) → GoOnBy g a b site bearer moment rows
    in_turn_taken a b rows count by =
        subst (GoOnBy g a b site bearer moment) (take-append-drop count rows) (in_turn_first a b (take count rows) (drop count rows) by)

    -- of a store that was settled
    pub rows_left : (old new : S) (rows : List ImportRow) → GoOnBy g old new site bearer moment rows → (origin : Origin) (past : List Item) → IsSettled g old origin past
        → IsLeft g new origin (AndCutImport past site bearer moment rows)
    rows_left old new rows by origin past was =
        left_more g old new origin (AndCutImport past site bearer moment rows) (by origin past was.history).3 past was ([], tt, sym (append-nil past))

-- the rows of a file are what it is read as
pub read_rows : {F : Type 0} (stated : Result (List ImportRow) F) (its rows : List ImportRow) → stated ≡ Ok its → stated ≡ Ok rows → its ≡ rows
read_rows stated its rows one two = cc

-- ---- rows that were accepted

unavailable_not_ok : is_ok unavailable ≡ false
unfolding refusal_row reply_of
unavailable_not_ok = refl

-- the reply Unavailable hasn't the status 200
pub refused_not_ok : {E : Type 0} (r : Result Reply E) (X : Type 0) → IfOk r (λ reply. reply ≡ unavailable) → IfOk r (λ reply. is_ok reply ≡ true → X)
refused_not_ok (Ok reply) X is = λ ok. let no : false ≡ true = sym unavailable_not_ok ∙ ap is_ok (sym is) ∙ ok in cc
refused_not_ok (Err error) X is = tt

all_ok : (was_ok : Bool) (end next : Imported) → next ≡ (if was_ok then end else NotAll) → next ≡ All → (was_ok ≡ true) × (end ≡ All)
all_ok true end next is all = (refl, sym is ∙ all)
all_ok false end next is all = cc

module _ (site : Site) (bearer : List ℕ) (moment : ℕ) where
  accepted_then : (xs ys : List ImportRow) (items more : List Item) → AreAccepted site bearer moment xs items → AreAccepted site bearer moment ys more
      → AreAccepted site bearer moment (xs ++ ys) (items ++ more)
  accepted_then [] ys [] more it after = after
  accepted_then [] ys (item ∷ items) more it after = cc
  accepted_then (x ∷ xs) ys [] more it after = absurd it
  accepted_then (x ∷ xs) ys (item ∷ items) more it after = (it.0, it.1, it.2, accepted_then xs ys items more it.3 after)

  module _ {S : Type 0} (g : Ghosts S) where
    -- no row came
    pub settled_none : (store : S) → SettlesByAll g store store site bearer moment []
    settled_none store origin past was = ([], refl, subst (IsSettled g store origin) (sym (append-nil past)) was)

    pub settled_one : (old new : S) (row : ImportRow) (e : Event) (fresh : List ℕ) (reply : Reply) → e ≡ event_of bearer row → fresh ≡ replicate 16 0
        → ((origin : Origin) (past : List Item) → IsSettled g old origin past → IsSettled g new origin (past ++ carried_out site e moment fresh reply ∷ []))
        → is_ok reply ≡ true → SettlesByAll g old new site bearer moment (row ∷ [])
    settled_one old new row e fresh reply e_is fresh_is settled ok origin past was = (
      carried_out site e moment fresh reply ∷ [],
      (reply, ok, ap (λ e. carried_out site e moment fresh reply) e_is ∙ ap (λ f. carried_out site (event_of bearer row) moment f reply) fresh_is, refl),
      settled origin past was,
    )

    settled_then : (from : Site) → from ≡ site → (a b c : S) (xs ys : List ImportRow) → SettlesByAll g a b site bearer moment xs → SettlesByAll g b c from bearer moment ys
        → SettlesByAll g a c site bearer moment (xs ++ ys)
    settled_then from same a b c xs ys one two origin past was =
        let first = one origin past was in
        let next = subst (λ (at : Site). SettlesByAll g b c at bearer moment ys) same two origin (past ++ first.0) first.2 in (
          first.0 ++ next.0,
          accepted_then xs ys first.0 next.0 first.1 next.1,
          subst (IsSettled g c origin) (append_assoc past first.0 next.0) next.2,
        )

    -- one more row
    pub settled_next : (from : Site) → from ≡ site → (a b c : S) (rows : List ImportRow) (place : ℕ) (row : ImportRow) → place < length rows → row ≡ get_or rows place row
        → (was_ok : Bool) (end next : Imported) → next ≡ (if was_ok then end else NotAll)
        → (end ≡ All → SettlesByAll g a b site bearer moment (take place rows)) → (was_ok ≡ true → SettlesByAll g b c from bearer moment (row ∷ []))
        → next ≡ All → SettlesByAll g a c site bearer moment (take (place + 1) rows)
    settled_next from same a b c rows place row here at was_ok end next is one two all =
        let ok = all_ok was_ok end next is all in
        subst (SettlesByAll g a c site bearer moment) (ap (λ (it : ImportRow). take place rows ++ it ∷ []) at ∙ sym (take_more rows place row here))
        (settled_then from same a b c (take place rows) (row ∷ []) (one ok.1) (two ok.0))

-- the rows of a file that is read so
pub ok_rows : {E F : Type 0} (r : Result Imported E) (stated : Result (List ImportRow) F) (its read : List ImportRow) → its ≡ read → stated ≡ Ok read
    → (P : List ImportRow → Type 0) → IfOk r (λ end. end ≡ All → P its) → IfOk r (λ end. end ≡ All → (rows : List ImportRow) → stated ≡ Ok rows → P rows)
ok_rows (Ok end) stated its read are is P it = λ all rows same. subst P (are ∙ read_rows stated read rows is same) (it all)
ok_rows (Err error) stated its read are is P it = tt
