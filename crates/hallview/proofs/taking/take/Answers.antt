use Rattle.std.proofs.{Common.{◌≡◌, ◌∙◌, ◌++◌, ◌-◌, ℕ, List, Ok, ap, arith, inl, length, rules, subst, sym}, lemmas.List.length-append, Math.Seq.drop-append_seam}
use Rattle.std.specs.Prelude.{drop}
use Rattle.hallctl_requests.specs.Response.{IsReading}
use Rattle.hallview_state.specs.Taken.{IsTaken}
use Rattle.hallview.proofs.taking.take.Goals as goal

-- the length of what stands before the last octets
before : (octets front body : List ℕ) → octets ≡ front ++ body → length octets - length body ≡ length front
before octets front body is = ap (λ (all : List ℕ). length all - length body) is ∙ ap (λ (all : ℕ). all - length body) (length-append front body) ∙ omega arith

-- the last octets
last : (octets front body : List ℕ) → octets ≡ front ++ body → drop (length octets - length body) octets ≡ body
last octets front body is =
    ap (λ (count : ℕ). drop count octets) (before octets front body is)
    ∙ ap (drop (length front)) is
    ∙ drop-append_seam front body

pub returns : goal.returns
returns c =
    let octets : List ℕ = c.args.octets.items in
    let body : List ℕ = c.in-Ok.response.body.now in
    let rest = c.in-Ok.ensures.rest in
    let is : octets ≡ rest.0 ++ body = sym c.as_slice.ensures.value ∙ rest.1 in
    inl (
      c.in-Ok.response.status,
      body,
      subst (λ (all : List ℕ). IsReading all (Ok (c.in-Ok.response.status, body))) c.as_slice.ensures.value c.in-Ok.ensures.exact,
      subst (λ (taken : List ℕ). IsTaken c.args.hall.now c.take.new.self c.in-Ok.response.status taken c.args.now c.args.took)
          (ap (λ (start : ℕ). drop start octets) (search rules) ∙ last octets rest.0 body is) c.take.ensures,
    )
