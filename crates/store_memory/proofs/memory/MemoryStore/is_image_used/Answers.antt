use Rattle.std.{proofs.Common.{◌≡◌, true, false, sym, ◌∙◌}, specs.{List.list_any, Str.bytes_eq}}
use Rattle.hall_types.specs.Rows.{listed}
use Rattle.store_memory.{specs.Prelude.Live, proofs.TableLemmas.numbers_listed}
use Rattle.store_memory.proofs.memory.MemoryStore.is_image_used.Goals as goal

pub returns-then-live : goal.returns-then-live
returns-then-live c = λ h held.
    let lives = numbers_listed c.args.self.now.lives h.lives c.is_live_in-live.ensures.ordered held.lives in
    let live : list_any (λ (l : Live). bytes_eq l.image c.args.name.now) (listed h.lives) ≡ true = rw lives at (sym c.is_live_in-live.ensures.found ∙ c.if-live.true) in
    rw live c.if-live.true

pub returns-else-live : goal.returns-else-live
returns-else-live c = λ h held.
    let lives = numbers_listed c.args.self.now.lives h.lives c.is_live_in-live.ensures.ordered held.lives in
    let machines = numbers_listed c.args.self.now.machines h.machines c.is_image_in-deployed.ensures.ordered held.machines in
    let live : list_any (λ (l : Live). bytes_eq l.image c.args.name.now) (listed h.lives) ≡ false = rw lives at (sym c.is_live_in-live.ensures.found ∙ c.if-live.false) in
    rw live (rw machines at c.is_image_in-deployed.ensures.found)
