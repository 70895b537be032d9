-- Histories that go on, and machines that are adopted.
use Rattle.std.{specs.{List.{All, Contains}}, proofs.{Common.{◌≡◌, ℕ, List, [], ◌∷◌, ◌++◌, Option, Some, None, refl, sym, subst, ap, ◌∙◌, append_assoc, append-nil, get_or, length, ◌<◌}, lemmas.{List.Elements.{All-append, All-cons, All-contains, All-nil, All-weaker, Contains-get_or, Contains-push}}}}
use Rattle.boot_desk.specs.Class.{class_in}
use Rattle.hall_store.specs.declared.store.Unavailable.{Unavailable}
use Rattle.std.specs.Prelude.{Result, Ok, Err, IfOk, OnErr}
use Rattle.desk_adoption.specs.{Next.{IsAdoptionItem, IsOfAdoption}, declared.server.{Adopters.{Adopters}, Server.{Server}}}
use Rattle.desk_adoption.specs.{Prelude.{Event, Ghosts, at, Deployed, HasHistory, Hall, Item, Local, Machine, Origin, Reply, Site, Status, carried_out}, Adoption.{AreAdopted, GoesOn, IsAdopted, IsCarriedItem, IsDeployedFor, Keeps}}

-- ---- places

abbrev place_with : List ℕ → List ℕ → List ℕ → Site
place_with server next host = record { server = server; next = next; host = host }

-- a place of these parts of another one is that place
pub same_place : (place : Site) (server next host : List ℕ) → server ≡ place.server → next ≡ place.next → host ≡ place.host
    → place_with server next host ≡ place
same_place place server next host is_server is_next is_host =
    ap (λ (it : List ℕ). place_with it next host) is_server
    ∙ ap (λ (it : List ℕ). place_with place.server it host) is_next
    ∙ ap (λ (it : List ℕ). place_with place.server place.next it) is_host

-- ---- histories

-- what follows in each case follows where there is a result
pub if_ok_then : {X E : Type 0} (P : X → Type 0) (A B : Type 0) → (r : Result X E) → (A → B) → IfOk r (λ x. P x → A) → IfOk r (λ x. P x → B)
if_ok_then P A B (Ok x) follows is = λ p. follows (is p)
if_ok_then P A B (Err e) follows is = tt

-- the one element of a list
only : {X : Type 0} (x y : X) → Contains (x ∷ []) y → x ≡ y
only x y there = All-contains (λ it. x ≡ it) (x ∷ []) y (All-cons (λ it. x ≡ it) x [] refl (All-nil (λ it. x ≡ it))) there

module _ {S : Type 0} (g : Ghosts S) where
  -- what keeps a hall goes on
  pub kept_on : (Is : Item → Type 0) (old new : S) → ((h : Hall) → g.holds old h → g.holds new h) → GoesOn g old new Is
  kept_on Is old new same origin past was = (
    [],
    All-nil Is,
    subst (HasHistory g new origin) (sym (append-nil past)) (record { end = was.end; held = same was.end was.held; headline = was.headline }),
  )

  pub more_on : (Is : Item → Type 0) (a b c : S) → GoesOn g a b Is → GoesOn g b c Is → GoesOn g a c Is
  more_on Is a b c one two origin past was =
      let first = one origin past was in
      let next = two origin (past ++ first.0) first.2 in (
        first.0 ++ next.0,
        All-append Is first.0 next.0 first.1 next.1,
        subst (HasHistory g c origin) (append_assoc past first.0 next.0) next.2,
      )

  -- items of one kind are of a wider one
  pub wider_on : (Is Js : Item → Type 0) → ((item : Item) → Is item → Js item) → (old new : S) → GoesOn g old new Is → GoesOn g old new Js
  wider_on Is Js wider old new goes origin past was =
      let its = goes origin past was in
      (its.0, All-weaker Is Js wider its.0 its.1, its.2)

  stepped_on : (place site : Site) → site ≡ place → (e : Event) (moment : ℕ) (fresh : List ℕ) (old new : S) (r : Result Reply Unavailable)
      → IfOk r (λ reply. (origin : Origin) (past : List Item) → HasHistory g old origin past
      → HasHistory g new origin (past ++ carried_out site e moment fresh reply ∷ []))
      → OnErr r ((h : Hall) → g.holds old h → g.holds new h)
      → GoesOn g old new (IsCarriedItem place e moment fresh)
  stepped_on place site same e moment fresh old new (Ok reply) history kept =
      let Is = IsCarriedItem place e moment fresh in
      λ origin past was. (
        carried_out site e moment fresh reply ∷ [],
        All-cons Is (carried_out site e moment fresh reply) [] (reply, ap (λ (at : Site). carried_out at e moment fresh reply) same) (All-nil Is),
        history origin past was,
      )
  stepped_on place site same e moment fresh old new (Err fault) history kept = kept_on (IsCarriedItem place e moment fresh) old new kept

  -- an event that a desk over a store carried out, or didn't
  pub carried_on : (place site : Site) → site ≡ place → (e : Event) (moment : ℕ) (fresh : List ℕ) (store old new after : S) → old ≡ store → after ≡ new
      → (r : Result Reply Unavailable)
      → (g.is_clean new → IfOk r (λ reply. (origin : Origin) (past : List Item) → HasHistory g old origin past
      → HasHistory g new origin (past ++ carried_out site e moment fresh reply ∷ [])))
      → (g.is_clean new → OnErr r ((h : Hall) → g.holds old h → g.holds new h))
      → g.is_clean after → GoesOn g store after (IsCarriedItem place e moment fresh)
  carried_on place site same e moment fresh store old new after is_old is_new r history kept clean =
      let its = subst g.is_clean is_new clean in
      subst (λ (from : S). GoesOn g from after (IsCarriedItem place e moment fresh)) is_old
      (subst (λ (to : S). GoesOn g old to (IsCarriedItem place e moment fresh)) (sym is_new)
      (stepped_on place site same e moment fresh old new r (history its) (kept its)))

  -- what is read, and then an event of the adoption of a server
  pub event_on : (place : Site) (adopters : Adopters) (server : Server) (moment : ℕ) (fresh : List ℕ) (e : Event) → IsOfAdoption adopters server e
      → (store mid after : S) → Keeps g store mid → (g.is_clean after → g.is_clean mid)
      → (g.is_clean after → GoesOn g mid after (IsCarriedItem place e moment fresh))
      → g.is_clean after → GoesOn g store after (IsAdoptionItem place adopters (server ∷ []) moment)
  event_on place adopters server moment fresh e of store mid after keeps did goes clean =
      let Is = IsAdoptionItem place adopters (server ∷ []) moment in
      more_on Is store mid after (kept_on Is store mid (keeps (did clean)).1)
      (wider_on (IsCarriedItem place e moment fresh) Is
      (λ item is. record { server = server; among = Contains-push [] server; event = e; of = of; fresh = fresh; is = is }) mid after (goes clean))

  -- the items of one of the servers are among those of all
  pub among_all : (place : Site) (adopters : Adopters) (servers : List Server) (server : Server) (moment : ℕ) → Contains servers server → (old new : S)
      → GoesOn g old new (IsAdoptionItem place adopters (server ∷ []) moment) → GoesOn g old new (IsAdoptionItem place adopters servers moment)
  among_all place adopters servers server moment there =
      wider_on (IsAdoptionItem place adopters (server ∷ []) moment) (IsAdoptionItem place adopters servers moment)
      (λ item its. record {
        server = its.server;
        among = subst (Contains servers) (only server its.server its.among) there;
        event = its.event;
        of = its.of;
        fresh = its.fresh;
        is = its.is;
      })

  -- one server more
  pub each_on : (place : Site) (adopters : Adopters) (servers : List Server) (moment index : ℕ) (server : Server) → index < length servers
      → server ≡ get_or servers index server → (a b c : S) → GoesOn g a b (IsAdoptionItem place adopters servers moment)
      → GoesOn g b c (IsAdoptionItem place adopters (server ∷ []) moment) → GoesOn g a c (IsAdoptionItem place adopters servers moment)
  each_on place adopters servers moment index server here is a b c one two =
      more_on (IsAdoptionItem place adopters servers moment) a b c one
      (among_all place adopters servers server moment (subst (Contains servers) (sym is) (Contains-get_or servers index server here)) b c two)

  -- where all are adopted in each hall that the store has, they are in the one to which the history leads
  pub all_on : (Is : Item → Type 0) (digest : List ℕ) (servers : List Server) (old mid new : S) → GoesOn g old mid Is
      → ((h : Hall) → g.holds mid h → g.holds new h) → ((h : Hall) → g.holds mid h → AreAdopted digest servers h)
      → (origin : Origin) (past : List Item) → HasHistory g old origin past
      → (items : List Item) × All Is items × ((its : HasHistory g new origin (past ++ items)) × AreAdopted digest servers its.end)
  all_on Is digest servers old mid new goes same are origin past was =
      let its = goes origin past was in
      let end = its.2 in
      (its.0, its.1, (record { end = end.end; held = same end.end end.held; headline = end.headline }, are end.end end.held))

-- ---- machines

-- a Deployed machine is told to boot its own disk
local : (status : Status) (back : Option Status) → status ≡ Deployed → class_in status back ≡ Local
unfolding class_in
local status back is = subst (λ (it : Status). class_in it back ≡ Local) (sym is) refl

pub deployed_for : (owner image : List ℕ) (m : Machine) → m.status ≡ Deployed → m.owner ≡ Some owner → m.image ≡ Some image → m.waiting ≡ None → IsDeployedFor owner image m
deployed_for owner image m status its_owner its_image order =
    record { status = status; owner = its_owner; image = its_image; order = order; script = local m.status m.back status }

pub adopted : (owner : List ℕ) (h : Hall) (server : Server) (m : Machine) → at h.machines server.machine ≡ Some m → IsDeployedFor owner server.image m
    → IsAdopted owner h server
adopted owner h server m there is = record { machine = m; there = there; is = is }
