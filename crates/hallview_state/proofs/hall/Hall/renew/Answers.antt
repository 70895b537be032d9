use Rattle.std.proofs.Common.{refl, rules}
use Rattle.hallview_state.proofs.ListLemmas.{comes_again}
use Rattle.hallview_state.proofs.hall.Hall.renew.Goals as goal

pub returns-clause-renews : goal.returns-clause-renews
returns-clause-renews c =
    record {
      hall = record { name = refl; desk = refl; every = refl };
      list = comes_again c.args.self.now.list c.in-Some.list _ (search rules) refl;
      up = refl;
      moves = refl;
      ways = refl;
      orders = refl;
    }
