use Rattle.std.proofs.{Common.{arith, ◌≡◌, ◌≤◌, ℕ, List, length, drop, subst, sym, ap, ◌∙◌}, lemmas.Grind.common_steps}
use Rattle.dhcp_frame.{specs.{Area.Reads, Reply.{reply_of, reply_octets, file_name}}, proofs.ReplyLemmas.{Reads-reply_octets, length-header_octets, file_name-reply_octets}}
use Rattle.dhcp_frame.proofs.reply.write_inner.Goals as goal

pub returns-clause-options : goal.returns-clause-options
unfolding reply_octets
returns-clause-options c =
    let r = reply_of c.args.fields.now c.args.options.now in
    let room : length c.args.fields.now.file.now ≤ 128 = omega arith in
    let long = length-header_octets r c.in_ok-push_addresses.ensures.length room in
    let octets : c.push_zeros.new.out.items ≡ reply_octets r = grind (arith, common_steps) in
    subst (λ (x : List ℕ). Reads (drop 240 x) r.options) (sym octets) (Reads-reply_octets r long c.requires.codes)

pub returns-clause-file : goal.returns-clause-file
unfolding reply_octets
returns-clause-file c =
    let r = reply_of c.args.fields.now c.args.options.now in
    let octets : c.push_zeros.new.out.items ≡ reply_octets r = grind (arith, common_steps) in
    ap (λ (x : List ℕ). file_name x) octets
    ∙ file_name-reply_octets r c.in_ok-push_addresses.ensures.length c.requires.room c.requires.file
