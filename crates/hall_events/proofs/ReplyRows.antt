-- Worked answers, written out by hand.
use Rattle.std.{proofs.Common.{◌≡◌, ℕ, true, List, [], ◌∷◌, Some, None, refl}, specs.{Prelude.{⊤, codes}, Fmt.digits}}
use Rattle.hex.proofs.OnLiterals.{hex_on_literals}
use Rattle.uuid.proofs.OnLiterals.{uuid_on_literals}
use Rattle.json.specs.Print.{escape_byte}
use Rattle.pxe_vendor.specs.{Arch.arch_text, declared.arch.Arch.TheVariants.Uefi64}
use Rattle.ipxe_script.specs.declared.command.Command.TheVariants.{Kernel, Initrd, Boot}
use Rattle.hall_types.specs.{Kinds.{order_kind_text, erase_text}, Refusal.refusal_row, Status.status_text, Hall.{first, second}, declared.{kinds.{Erase.TheVariants.Quick, OrderKind.TheVariants.Cycle, OrderStage.TheVariants.Waiting}, machine.Machine.Machine, refusal.Refusal.TheVariants.{Unavailable, Locked}, status.Status.TheVariants.{New, Ready, FailedDiskErasing}}, Machine.blank_machine}
use Rattle.hall_events.specs.{Reply.{reply_of, machine_data, script, refused, counted, repeated, machine_is, machine_gone, done, waiting_orders, machine_list, one_machine, stored, boot_file, nothing}, declared.reply.{Reply.TheVariants.{Http, File, Nothing}, BodyKind.TheVariants.{Text, Json}}}

unfoldable texts_on_literals : ⊤
unfolding reply_of machine_data escape_byte digits hex_on_literals uuid_on_literals arch_text order_kind_text erase_text refusal_row status_text
texts_on_literals = tt

-- a machine that was released
released : Machine
released = record (blank_machine 1 Uefi64 (codes "lab") None) { status = Ready; version = 14 }

-- one whose erasing was aborted
aborted : Machine
aborted = record released {
  uuid = Some (0 ∷ 17 ∷ 34 ∷ 51 ∷ 68 ∷ 85 ∷ 102 ∷ 119 ∷ 136 ∷ 153 ∷ 170 ∷ 187 ∷ 204 ∷ 221 ∷ 238 ∷ 255 ∷ []);
  status = FailedDiskErasing;
  owner = Some (codes "olga");
  image = Some (codes "jammy");
  erase = Some Quick;
  locked = true;
  version = 13;
  deadline = Some 4700;
  boot = Some 4;
  waiting = Some 5;
}

mac : List ℕ
mac = 82 ∷ 84 ∷ 0 ∷ 18 ∷ 52 ∷ 86 ∷ []

listed_at_first :
    reply_of first (one_machine (record { machine = released; macs = mac ∷ [] })) ≡
    Http 200 Json (codes "{\"arch\":\"uefi64\",\"boot\":null,\"deadline\":null,\"id\":1,\"image\":null,\"interfaces\":[\"52:54:00:12:34:56\"],\"locked\":false,\"order\":null,\"owner\":null,\"pool\":\"lab\",\"status\":\"Ready\",\"uuid\":null,\"version\":14}")
unfolding texts_on_literals released mac
listed_at_first = refl

listed_at_second :
    reply_of second (one_machine (record { machine = released; macs = mac ∷ [] })) ≡
    Http 200 Json (codes "{\"arch\":\"uefi64\",\"boot\":null,\"deadline\":null,\"erase\":null,\"id\":1,\"image\":null,\"interfaces\":[\"52:54:00:12:34:56\"],\"locked\":false,\"order\":null,\"owner\":null,\"pool\":\"lab\",\"status\":\"Ready\",\"uuid\":null,\"version\":14}")
unfolding texts_on_literals released mac
listed_at_second = refl

aborted_is_listed :
    reply_of second (one_machine (record { machine = aborted; macs = [] })) ≡
    Http 200 Json (codes "{\"arch\":\"uefi64\",\"boot\":4,\"deadline\":4700,\"erase\":\"quick\",\"id\":1,\"image\":\"jammy\",\"interfaces\":[],\"locked\":true,\"order\":5,\"owner\":\"olga\",\"pool\":\"lab\",\"status\":\"Failed disk erasing\",\"uuid\":\"00112233-4455-6677-8899-aabbccddeeff\",\"version\":13}")
unfolding texts_on_literals aborted released
aborted_is_listed = refl

none_is_listed :
    reply_of second (machine_list []) ≡
    Http 200 Json (codes "{\"machines\":[]}")
unfolding texts_on_literals
none_is_listed = refl

two_are_listed :
    reply_of second (machine_list ((record { machine = released; macs = mac ∷ [] }) ∷ (record { machine = aborted; macs = [] }) ∷ [])) ≡
    Http 200 Json (codes "{\"machines\":[{\"arch\":\"uefi64\",\"boot\":null,\"deadline\":null,\"erase\":null,\"id\":1,\"image\":null,\"interfaces\":[\"52:54:00:12:34:56\"],\"locked\":false,\"order\":null,\"owner\":null,\"pool\":\"lab\",\"status\":\"Ready\",\"uuid\":null,\"version\":14},{\"arch\":\"uefi64\",\"boot\":4,\"deadline\":4700,\"erase\":\"quick\",\"id\":1,\"image\":\"jammy\",\"interfaces\":[],\"locked\":true,\"order\":5,\"owner\":\"olga\",\"pool\":\"lab\",\"status\":\"Failed disk erasing\",\"uuid\":\"00112233-4455-6677-8899-aabbccddeeff\",\"version\":13}]}")
unfolding texts_on_literals aborted released mac
two_are_listed = refl

orders_are_listed :
    reply_of second (waiting_orders ((record { number = 1; machine = 1; kind = Cycle; stage = Waiting }) ∷ [])) ≡
    Http 200 Json (codes "{\"orders\":[{\"kind\":\"cycle\",\"machine\":1,\"number\":1}]}")
unfolding texts_on_literals
orders_are_listed = refl

report_counts :
    reply_of second counted ≡
    Http 200 Json (codes "{\"result\":\"counted\"}")
unfolding texts_on_literals
report_counts = refl

report_is_repeated :
    reply_of second repeated ≡
    Http 200 Json (codes "{\"result\":\"repeat\"}")
unfolding texts_on_literals
report_is_repeated = refl

machine_is_added :
    reply_of second (machine_is 2 New 1) ≡
    Http 200 Json (codes "{\"id\":2,\"status\":\"New\",\"version\":1}")
unfolding texts_on_literals
machine_is_added = refl

machine_is_deleted :
    reply_of second (machine_gone 1) ≡
    Http 200 Json (codes "{\"id\":1}")
unfolding texts_on_literals
machine_is_deleted = refl

pool_is_added :
    reply_of second done ≡
    Http 200 Json (codes "{}")
unfolding texts_on_literals
pool_is_added = refl

desk_is_unavailable :
    reply_of second (refused Unavailable) ≡
    Http 503 Json (codes "{\"refusal\":\"Unavailable\"}")
unfolding texts_on_literals
desk_is_unavailable = refl

machine_is_locked :
    reply_of second (refused Locked) ≡
    Http 423 Json (codes "{\"refusal\":\"Locked\"}")
unfolding texts_on_literals
machine_is_locked = refl

script_is_printed :
    reply_of second (script (Kernel (codes "http://a/k") (codes "quiet" ∷ []) ∷ Initrd (codes "http://a/i") ∷ Boot ∷ [])) ≡
    Http 200 Text (codes "#!ipxe\nkernel http://a/k quiet\ninitrd http://a/i\nboot\n")
unfolding texts_on_literals
script_is_printed = refl

receipt_is_answered :
    reply_of second (stored 409 (codes "{\"refusal\":\"Taken\"}")) ≡
    Http 409 Json (codes "{\"refusal\":\"Taken\"}")
unfolding texts_on_literals
receipt_is_answered = refl

boot_file_is_named : reply_of second (boot_file (codes "ipxe.efi")) ≡ File (codes "ipxe.efi")
unfolding texts_on_literals
boot_file_is_named = refl

nothing_is_answered : reply_of second nothing ≡ Nothing
unfolding texts_on_literals
nothing_is_answered = refl
