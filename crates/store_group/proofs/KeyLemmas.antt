-- What stands under a key after a row is put or goes.
use Rattle.std.{specs.{Prelude.{◌≡◌, ◌≢◌, ◌==◌, ℕ, true, false, not, List, Option, Some, None, if◌then◌else◌}, Str.bytes_eq}, proofs.{Common.{sym, ap, ◌∙◌, arith}, lemmas.{Bool.{eqb-true, Decides.nat_tests}, Slice.Eq.bytes_eq-Decides}}}
use Rattle.hall_types.specs.{Hall.pair, Rows.{Keys, Rows, numbers, texts, at, put, gone, rows_where, passes}, RowLaws.{at-put-same, at-put-other, at-gone-same, at-gone-other, at-rows_where}}

text_same : (n q : List ℕ) → true ≡ bytes_eq n q → n ≡ q
text_same n q is = (bytes_eq-Decides n q).0 (sym is)

text_apart : (n q : List ℕ) → false ≡ bytes_eq n q → q ≢ n
text_apart n q is same = let t = (bytes_eq-Decides n q).1 (sym same) in cc

number_apart : (n q : ℕ) → false ≡ (n == q) → q ≢ n
number_apart n q is same = grind (arith, nat_tests)

module _ {K X : Type 0} {keys : Keys K} (rows : Rows keys X) (n q : K) where
  pub put_here : n ≡ q → (x : X) → Some x ≡ at (put n x rows) q
  put_here same x = sym (ap (λ k. at (put n x rows) k) (sym same) ∙ at-put-same rows n x)

  pub put_apart : q ≢ n → (x : X) → at rows q ≡ at (put n x rows) q
  put_apart apart x = sym (at-put-other rows n x q apart)

  pub gone_here : n ≡ q → None ≡ at (gone n rows) q
  gone_here same = sym (ap (λ k. at (gone n rows) k) (sym same) ∙ at-gone-same rows n)

  pub gone_apart : q ≢ n → at rows q ≡ at (gone n rows) q
  gone_apart apart = sym (at-gone-other rows n q apart)

module _ {X : Type 0} (rows : Rows texts X) (n q : List ℕ) where
  pub text_put : true ≡ bytes_eq n q → (x : X) → Some x ≡ at (put n x rows) q
  text_put is = put_here rows n q (text_same n q is)

  pub text_put_other : false ≡ bytes_eq n q → (x : X) → at rows q ≡ at (put n x rows) q
  text_put_other is = put_apart rows n q (text_apart n q is)

  pub text_gone : true ≡ bytes_eq n q → None ≡ at (gone n rows) q
  text_gone is = gone_here rows n q (text_same n q is)

  pub text_gone_other : false ≡ bytes_eq n q → at rows q ≡ at (gone n rows) q
  text_gone_other is = gone_apart rows n q (text_apart n q is)

module _ {X : Type 0} (rows : Rows numbers X) (n q : ℕ) where
  pub number_put : true ≡ (n == q) → (x : X) → Some x ≡ at (put n x rows) q
  number_put is = put_here rows n q (eqb-true n q (sym is))

  pub number_put_other : false ≡ (n == q) → (x : X) → at rows q ≡ at (put n x rows) q
  number_put_other is = put_apart rows n q (number_apart n q is)

  pub number_gone : true ≡ (n == q) → None ≡ at (gone n rows) q
  number_gone is = gone_here rows n q (eqb-true n q (sym is))

  pub number_gone_other : false ≡ (n == q) → at rows q ≡ at (gone n rows) q
  number_gone_other is = gone_apart rows n q (number_apart n q is)

-- two pairs are the same if their parts are
pub pair_same : (a b c d : List ℕ) → true ≡ bytes_eq a c → true ≡ bytes_eq b d → pair a b ≡ pair c d
pair_same a b c d one other = ap (λ x. pair x b) (text_same a c one) ∙ ap (λ x. pair c x) (text_same b d other)

pub pair_apart_first : (a b c d : List ℕ) → false ≡ bytes_eq a c → pair c d ≢ pair a b
pair_apart_first a b c d is same = let first : c ≡ a = cc in text_apart a c is first

pub pair_apart_second : (a b c d : List ℕ) → false ≡ bytes_eq b d → pair c d ≢ pair a b
pair_apart_second a b c d is same = let second : d ≡ b = cc in text_apart b d is second

-- ---- rows that go with a machine

module _ {X : Type 0} {K : Type 0} {keys : Keys K} (owner : X → ℕ) (id : ℕ) (rows : Rows keys X) (q : K) where
  -- the row was the machine's
  pub goes_with : (row : Option X) → row ≡ at rows q → passes (λ y. owner y == id) row ≡ true → None ≡ at (rows_where (λ y. not (owner y == id)) rows) q
  goes_with None is its = cc
  goes_with (Some x) is its =
      sym (at-rows_where (λ y. not (owner y == id)) rows q ∙ (ap (λ o. if passes (λ y. not (owner y == id)) o then o else None) (sym is) ∙ ap (λ b. if not b then Some x else None) its))

  -- it wasn't, or there was none
  pub stays_without : (row : Option X) → row ≡ at rows q → passes (λ y. owner y == id) row ≡ false → row ≡ at (rows_where (λ y. not (owner y == id)) rows) q
  stays_without None is other = sym (at-rows_where (λ y. not (owner y == id)) rows q ∙ ap (λ o. if passes (λ y. not (owner y == id)) o then o else None) (sym is))
  stays_without (Some x) is other =
      sym (at-rows_where (λ y. not (owner y == id)) rows q ∙ (ap (λ o. if passes (λ y. not (owner y == id)) o then o else None) (sym is) ∙ ap (λ b. if not b then Some x else None) other))
