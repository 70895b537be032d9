use Rattle.std.{proofs.Common.{◌≡◌, ap, rules, ◌∙◌}, specs.{Prelude.option_map, Str.bytes_eq}}
use Rattle.store_memory.specs.{Prelude.Interface, Hashed.entry_at}
use Rattle.store_memory.proofs.memory.MemoryStore.machine_at_mac.Goals as goal

pub returns : goal.returns
returns c =
    let machine : c.map.result ≡ option_map (λ (i : Interface). i.machine) c.row.result = search rules in
    λ h held. machine ∙ ap (option_map (λ (i : Interface). i.machine)) (c.row.ensures ∙ (ap (entry_at bytes_eq c.args.self.now.addresses) c.octets.ensures.octets ∙ held.addresses c.args.mac))
