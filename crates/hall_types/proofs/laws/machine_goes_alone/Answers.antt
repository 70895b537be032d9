use Rattle.hall_types.proofs.{HallLemmas.others, WriteLemmas.is_gone}
use Rattle.hall_types.proofs.laws.machine_goes_alone.Goals as goal

pub returns : goal.returns
returns c = record {
  machine = λ id h. is_gone h.machines id;
  interfaces = λ id h mac i. others (λ row. row.machine) id h.interfaces mac i;
  boots = λ id h number b. others (λ row. row.machine) id h.boots number b;
  orders = λ id h number o. others (λ row. row.machine) id h.orders number o;
}
