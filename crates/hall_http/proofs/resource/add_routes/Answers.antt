use Rattle.hall_http.proofs.resource.add_routes.Goals as goal

pub returns : goal.returns
returns c =
    rw (
      c.in_ok-add_route-6.ensures,
      c.in_ok-add_route-5.ensures,
      c.in_ok-add_route-4.ensures,
      c.in_ok-add_route-3.ensures,
      c.in_ok-add_route-2.ensures,
      c.in_ok-add_route.ensures,
    ) at c.add_route-7.ensures
