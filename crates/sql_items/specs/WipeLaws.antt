-- Laws of how the disks of machines are erased, for the proofs of callers: what a machine that is put or goes makes of them.
use Rattle.sql_schema.specs.Words.{Keys, Rows, numbers, at, put, gone, same_key, same_rows, at-put, at-gone, Erase, Machine, Wipe, wipe_of}
use Rattle.std.{specs.Prelude.option_and_then, proofs.Common.{refl, sym, ap, ◌∙◌, cond, ◌≡◌, ℕ, Option, Some, None, Bool, true, false, option_map}}
use Rattle.sql_items.specs.Wipes.{wipe_set}

-- a row that is put where one went is put
pub put-gone : {K X : Type 0} {keys : Keys K} (rows : Rows keys X) (n : K) (x : X) → put n x (gone n rows) ≡ put n x rows
put-gone {keys = keys} rows n x = same_rows _ _ (λ q. at-put (gone n rows) n x q ∙ by q (same_key keys q n) refl ∙ sym (at-put rows n x q))
  where
    by : (q : _) (b : Bool) → same_key keys q n ≡ b → cond b (Some x) (at (gone n rows) q) ≡ cond b (Some x) (at rows q)
    by q true t = refl
    by q false t = at-gone rows n q ∙ ap (λ b. cond b None (at rows q)) t

at-wipe_set : (wipes : Rows numbers Wipe) (id : ℕ) (erase : Option Erase) (q : ℕ) → at (wipe_set id erase wipes) q ≡ cond (same_key numbers q id) (option_map (λ e. record { machine = id; erase = e }) erase) (at wipes q)
at-wipe_set wipes id None q = at-gone wipes id q
at-wipe_set wipes id (Some e) q = at-put wipes id _ q

module _ (wipes : Rows numbers Wipe) (machines : Rows numbers Machine) (agree : (id : ℕ) → at wipes id ≡ option_and_then wipe_of (at machines id)) where
  -- the kinds of erasing are those of the machines after one was put
  pub wipes_put : (m : Machine) (q : ℕ) → at (wipe_set m.id m.erase wipes) q ≡ option_and_then wipe_of (at (put m.id m machines) q)
  wipes_put m q = at-wipe_set wipes m.id m.erase q ∙ by (same_key numbers q m.id) ∙ sym (ap (option_and_then wipe_of) (at-put machines m.id m q))
    where
      by : (b : Bool) → cond b (wipe_of m) (at wipes q) ≡ option_and_then wipe_of (cond b (Some m) (at machines q))
      by true = refl
      by false = agree q

  -- and after one went
  pub wipes_gone : (id : ℕ) (q : ℕ) → at (wipe_set id None wipes) q ≡ option_and_then wipe_of (at (gone id machines) q)
  wipes_gone id q = at-gone wipes id q ∙ by (same_key numbers q id) ∙ sym (ap (option_and_then wipe_of) (at-gone machines id q))
    where
      by : (b : Bool) → cond b None (at wipes q) ≡ option_and_then wipe_of (cond b None (at machines q))
      by true = refl
      by false = agree q
