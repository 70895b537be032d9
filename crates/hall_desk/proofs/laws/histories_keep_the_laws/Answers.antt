use Rattle.hall_desk.proofs.HistoryLemmas.{are_typed}
use Rattle.hall_desk.proofs.laws.histories_keep_the_laws.Goals as goal

pub returns : goal.returns
returns c = λ origin begin items end begins led.
    let found = c.items_are_steps.ensures begin items end led in record {
      begin = begin;
      begins = begins;
      led = led;
      steps = found.0;
      run = found.1;
      are = found.2;
      laws = c.laws_hold_from_origins.ensures origin begin end found.0 begins (are_typed items found.0 found.2) found.1;
    }
