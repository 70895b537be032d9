-- A client's frame is planned as the whole hall has it planned.
use Rattle.std.{specs.Prelude.{◌≡◌, List, [], false}, proofs.Common.{refl, sym, ap, ◌∙◌}}
use Rattle.hall_desk.specs.{Prelude.{Site, Client, Hall, RowWrite, Numbers, Port, enlisted, frame_decision, Decision, Enlist, FrameView, framed, IsEnough}, Account.is_unlisted, Plan.{IsFramePlan, rows_for}}

-- a view that is enough leads to the decision on the hall, and to its rows
pub enough_plans : (h : Hall) (client : Client) (port : Port) (v : FrameView) → IsEnough h client v
    → (d : Decision) → d ≡ frame_decision v port client → (rows : List RowWrite) → rows ≡ rows_for d client v.numbers
    → IsFramePlan h port client (rows, d)
enough_plans h client port v enough d is rows are = record {
  decision = is ∙ enough.decides port;
  rows = λ site. are ∙ same site d is ∙ ap (λ (its : Decision). (framed its site h client).rows) (is ∙ enough.decides port);
}
  where
    same : (site : Site) (its : Decision) → its ≡ frame_decision v port client → rows_for its client v.numbers ≡ (framed its site h client).rows
    same site Enlist is = ap (λ numbers. enlisted client numbers) (enough.numbers port (sym is))
    same site other is = refl

-- a frame whose client isn't to be enlisted writes nothing
pub no_rows : (d : Decision) → is_unlisted false d ≡ false → (site : Site) (h : Hall) (client : Client) → (framed d site h client).rows ≡ []
no_rows Enlist off site h client = cc
no_rows other off site h client = refl

-- and so none are planned for it
pub no_rows_for : (rows : List RowWrite) (d : Decision) (client : Client) (numbers : Numbers) → rows ≡ rows_for d client numbers → is_unlisted false d ≡ false → rows ≡ []
no_rows_for rows Enlist client numbers are off = cc
no_rows_for rows other client numbers are off = are
