-- Why each law of the past holds once a hall was carried over, with the steps of the first schema in the past.
use Rattle.std.proofs.Common.{ℕ, List, [], ◌∷◌, ◌++◌, ap, sym, ◌∙◌, append_assoc}
use Rattle.hall_laws.{specs.{Prelude.Boot, Step.Step, Laws.{AcceptsKey, AcceptsOnce, AnswersAccepted, CountsAnswerOnce, CountsAny, CountsOwnBoot, CountsSome, CountsStartedFirst, CountsVerdict, CountsVerdictOnce, DeploysRightly, ErasesRightly, IsDeploy, IsReleaseErasing, MakesBoot, MakesMachine, MakesOrder, NumbersOnce, RepeatsFirst, Withdraws}, Past.{AtEachStep, IsAccepted, IsEntry, IsIssue, IsOtherEntry, IsOwnBoot, IssuesFor}, Later.After}, proofs.{PlainSteps.{accepted_back, accepted_to, any_back, boot_back, deploy_to, entry_back, entry_to, issue_to, issues_back, issues_to, machine_back, order_back, other_entry_back, release_to, some_back as some_answer_back, verdict_back, withdraws_back}, Twins.{AreLike, AreTwins, last_like, like_append, like_to, none_like, some_back, some_to, twins_like}}}

-- ---- each law, from a past to one that is like it

module _ (whole past : List Step) (like : AreLike whole past) (s : Step) where
  pub erases : ErasesRightly whole s → ErasesRightly past s
  erases law mac commands gives erasing =
      let r = law mac commands gives erasing in
      let id = r.machine.id in
      let l = last_like (IsEntry id) (λ w s t. entry_to w s t id) (λ w s t. entry_back w s t id) whole past like r.entry in
      record {
        machine = r.machine;
        asks = r.asks;
        status = r.status;
        entry = l.last;
        kind = r.kind;
        release = like_to (IsReleaseErasing id r.kind) (λ w s t. release_to w s t id r.kind) r.entry.step l.last.step l.like r.release;
        named = r.named;
        only = r.only;
      }

  pub deploys : DeploysRightly whole s → DeploysRightly past s
  deploys law mac commands gives deploying =
      let r = law mac commands gives deploying in
      let id = r.machine.id in
      let l = last_like (IsEntry id) (λ w s t. entry_to w s t id) (λ w s t. entry_back w s t id) whole past like r.entry in
      record {
        machine = r.machine;
        asks = r.asks;
        status = r.status;
        entry = l.last;
        name = r.name;
        image = r.image;
        deploy = like_to (IsDeploy id r.name r.image) (λ w s t. deploy_to w s t id r.name r.image) r.entry.step l.last.step l.like r.deploy;
        boot = r.boot;
        boots = r.boots;
      }

  own_boot : (id : ℕ) (b : Boot) → IsOwnBoot id b whole → IsOwnBoot id b past
  own_boot id b own =
      let l = last_like (IssuesFor id) (λ w s t. issues_to w s t id) (λ w s t. issues_back w s t id) whole past like own.issue in
      record {
        issue = l.last;
        is = like_to (IsIssue id b) (λ w s t. issue_to w s t id b) own.issue.step l.last.step l.like own.is;
        since = none_like (IsOtherEntry id) (λ w s t. other_entry_back w s t id) own.issue.later l.last.later l.later_like own.since;
      }

  pub counts_own_boot : CountsOwnBoot whole s → CountsOwnBoot past s
  counts_own_boot law number token progress counts =
      let its = law number token progress counts in
      (its.0, its.1, its.2, own_boot its.0.machine its.0 its.3)

  pub started_first : CountsStartedFirst whole s → CountsStartedFirst past s
  started_first law number counts = none_like (CountsAny number) (λ w s t. any_back w s t number) whole past like (law number counts)

  pub verdict_once : CountsVerdictOnce whole s → CountsVerdictOnce past s
  verdict_once law number counts = none_like (CountsVerdict number) (λ w s t. verdict_back w s t number) whole past like (law number counts)

  pub numbers_once : NumbersOnce whole s → NumbersOnce past s
  numbers_once law = record {
    machines = λ id makes. none_like (MakesMachine id) (λ w s t. machine_back w s t id) whole past like (law.machines id makes);
    boots = λ number makes. none_like (MakesBoot number) (λ w s t. boot_back w s t number) whole past like (law.boots number makes);
    orders = λ number makes. none_like (MakesOrder number) (λ w s t. order_back w s t number) whole past like (law.orders number makes);
  }

  pub accepts_once : AcceptsOnce whole s → AcceptsOnce past s
  accepts_once law operator key accepts =
      none_like (AcceptsKey operator key) (λ w s t its. (its.0, its.1, accepted_back w s t operator key its.0 its.1 its.2)) whole past like (law operator key accepts)

  pub repeats_first : RepeatsFirst whole s → RepeatsFirst past s
  repeats_first law operator key request later =
      law operator key (record {
        command = request.command;
        content = request.content;
        accepted = some_back (IsAccepted operator key request.command request.content) (λ w s t. accepted_back w s t operator key request.command request.content) whole past like request.accepted;
      }) later

  pub answers_accepted : AnswersAccepted whole s → AnswersAccepted past s
  answers_accepted law operator key its ok =
      let was = law operator key its ok in
      record {
        first = record {
          command = was.first.command;
          content = was.first.content;
          accepted = some_to (IsAccepted operator key was.first.command was.first.content) (λ w s t. accepted_to w s t operator key was.first.command was.first.content)
              (whole ++ s ∷ []) (past ++ s ∷ []) (like_append whole past (s ∷ []) like) was.first.accepted;
        };
        command = was.command;
        answer = was.answer;
      }

  pub answers_once : CountsAnswerOnce whole s → CountsAnswerOnce past s
  answers_once law number counts =
      let its = law number counts in (
        none_like (CountsSome number) (λ w s t. some_answer_back w s t number) whole past like its.0,
        none_like (Withdraws number) (λ w s t. withdraws_back w s t number) whole past like its.1,
      )

-- ---- at each step after the hall was carried over

pub at_later : (P : List Step → Step → Type 0) → ((whole past : List Step) → AreLike whole past → (s : Step) → P whole s → P past s)
    → (whole steps more : List Step) → AreTwins whole steps → AtEachStep P (whole ++ more) → AtEachStep (After steps P) more
at_later P from whole steps more twins law past s later are =
    from (whole ++ past) (steps ++ past) (like_append whole steps past (twins_like whole steps twins)) s
    (law (whole ++ past) s later (ap (λ (xs : List Step). whole ++ xs) are ∙ sym (append_assoc whole past (s ∷ later))))
