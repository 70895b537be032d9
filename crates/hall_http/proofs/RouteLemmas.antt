-- Targets that are asked for most, and the routes that the router takes.
use Rattle.std.{proofs.{Common.{◌≡◌, ◌+◌, ◌++◌, Bor, ℕ, Bool, true, false, List, [], ◌∷◌, length, Option, Some, None, refl, ap, ◌∙◌}, lemmas.{Bool.Decides.Decides-eqb, Slice.Eq.{bytes_eq-Decides, strip_prefix_is}}}, specs.{Prelude.{codes, cond, drop, nat_eq, take, IfSome, MatchOption, OnOk, Result, Ok, Err, ◌==◌, ◌||◌}, List.list_any, Cmp.Lexicographic.pointwise, Str.bytes_eq}}
use Rattle.hall_http.specs.{Prelude.{RowsOf, has_slash, Scan, InsertsRead, RouteOf, InsertError}, declared.resource.Resource.{Resource, TheVariants.Commands}, Resource.{resource_of, with_scan}, ResourceLaws.commands}

pub commands_is : (target : List ℕ) → bytes_eq target (codes "/commands") ≡ true → resource_of target ≡ Some Commands
commands_is target same = ap resource_of ((bytes_eq-Decides target (codes "/commands")).0 same) ∙ commands

pub stripped : (target prefix : List ℕ) (r : Option (Bor (List ℕ)))
    → MatchOption r (pointwise nat_eq (take (length prefix) target) prefix ≡ false)
    (λ x. (pointwise nat_eq (take (length prefix) target) prefix ≡ true) × (x.now ≡ drop (length prefix) target) × (length x.now + length prefix ≡ length target))
    → IfSome r (λ rest. target ≡ prefix ++ rest.now)
stripped target prefix (Some rest) is = strip_prefix_is Decides-eqb target prefix (Some rest) is
stripped target prefix None is = tt

pub slash_is : (text : List ℕ) → list_any (λ octet. octet == 47) text ≡ has_slash text
slash_is [] = refl
slash_is (b ∷ text) = by (b == 47) (slash_is text)
  where
    by : (is : Bool) → list_any (λ octet. octet == 47) text ≡ has_slash text → (is || list_any (λ octet. octet == 47) text) ≡ cond is true (has_slash text)
    by true e = refl
    by false e = e

pub route_inserted : (s : Result Scan InsertError) (value : Resource) (old new : RowsOf (RouteOf Resource)) (r : Result (Unit {0}) InsertError) → InsertsRead s value old new r → OnOk r (new ≡ with_scan s value old)
route_inserted (Ok s) value old new (Ok u) is = is.1
route_inserted (Err e) value old new (Ok u) is = is.0
route_inserted s value old new (Err e) is = tt
