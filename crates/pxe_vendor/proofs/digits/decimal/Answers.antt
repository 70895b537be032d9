use Rattle.std.proofs.{Common.{◌≤◌, ◌^◌, arith, lit<}, Math.Nat.pow-le-pow_right}
use Rattle.pxe_vendor.proofs.digits.decimal.Goals as goal

pub overflow_mul-n : goal.overflow_mul-n
overflow_mul-n c =
    let h : 10 ^ c.loop-digit.digit-index ≤ 10 ^ 17 = pow-le-pow_right {n = 10} (lit< tt) {i = c.loop-digit.digit-index} {j = 17} (omega arith) in
    omega (arith, c.loop-digit.invariant.0)

pub overflow_add-n : goal.overflow_add-n
overflow_add-n c =
    let h : 10 ^ c.loop-digit.digit-index ≤ 10 ^ 17 = pow-le-pow_right {n = 10} (lit< tt) {i = c.loop-digit.digit-index} {j = 17} (omega arith) in
    omega (arith, c.loop-digit.invariant.0)
