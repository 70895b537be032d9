use Rattle.std.proofs.Common.{◌≡◌, ◌<◌, ◌^◌, drop}
use Rattle.pxe_vendor.specs.Digits.{decimal_after, decimal_value}
use Rattle.pxe_vendor.proofs.digits.decimal.Given as goal

abbrev pub invariant-loop-digit : goal.invariant-loop-digit
invariant-loop-digit l = (l.n < 10 ^ l.digit-index) × (decimal_after l.n (drop l.digit-index l.text) ≡ decimal_value l.text)
