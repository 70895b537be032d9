use Rattle.std.{proofs.Common.arith, specs.Prelude.string_bytes}
use Rattle.pxe_vendor.proofs.MacLemmas.{octet_pushed}
use Rattle.pxe_vendor.proofs.address.push_octet.Goals as goal

pub returns : goal.returns
returns c =
    octet_pushed c.args.octet c.from.result c.from-2.result c.encode_to_slice.new.output _ _ (string_bytes c.args.text.now) (string_bytes c.push.new.self) (string_bytes c.push-2.new.self)
    (omega arith) c.in-Ok.ensures.written
    c.from.ensures c.from-2.ensures
    c.push.ensures.ascii c.push-2.ensures.ascii
    c.in_ok-push.ensures.bytes c.in_ok-push-2.ensures.bytes
