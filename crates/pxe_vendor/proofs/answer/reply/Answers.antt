use Rattle.std.{proofs.{Common.{◌≡◌, ◌∷◌, [], ap, subst, sym, ◌∙◌, List, arith, length}, lemmas.List.length-take}, specs.Prelude.{drop, IfOk, unwrap_or}}
use Rattle.dhcp_frame.specs.{Area.{Entry, Reads}, Reply.{Reply, reply_octets}}
use Rattle.pxe_vendor.{specs.Answer.answer_to, proofs.{AnswerLemmas.{reply_of-same, AreAnswers, AreShort, any_long, none_long, all_short, all_short-without, options-with_identifier, options-without_identifier}, answer.reply.Goals.After-dhcp_option-vendor}}
use Rattle.pxe_vendor.proofs.answer.reply.Goals as goal

-- the options that are made in each case, and their values
are_answers : (c : After-dhcp_option-vendor) → AreAnswers c.args.client.now c.args.place.now c.dhcp_option-kind.result c.dhcp_option-server.result c.dhcp_option-class.result c.dhcp_option-vendor.result
are_answers c = record {
  type = c.dhcp_option-kind.ensures ∙ ap (λ n. (53, n ∷ [])) c.message_type.ensures;
  address = c.dhcp_option-server.ensures ∙ ap (λ a. (54, a)) c.server-server.ensures;
  pxe = c.dhcp_option-class.ensures;
  area = c.dhcp_option-vendor.ensures ∙ ap (λ a. (43, a)) c.vendor_area-length.ensures.octets;
}

are_short : (c : After-dhcp_option-vendor) → AreShort c.dhcp_option-kind.result c.dhcp_option-server.result c.dhcp_option-class.result c.dhcp_option-vendor.result
are_short c = record {
  type = let e = ap (λ (e : Entry). length e.1) c.dhcp_option-kind.ensures in omega arith;
  address = let e = ap (λ (e : Entry). length e.1) c.dhcp_option-server.ensures in omega arith;
  pxe = let e = ap (λ (e : Entry). length e.1) c.dhcp_option-class.ensures in omega arith;
  area = let e = ap (λ (e : Entry). length e.1) c.dhcp_option-vendor.ensures in let within = c.vendor_area-length.ensures.length in omega (arith, length-take c.vendor_area-length.result.1 c.vendor_area-length.result.0);
}

pub returns-in-Some : goal.returns-in-Some
returns-in-Some c =
    let made = (goal.at.returns-in-Some c).After-dhcp_option-vendor in
    let identifier = c.dhcp_option-identifier.ensures ∙ ap (λ a. (97, a)) c.as_slice.ensures in
    let options = options-with_identifier _ _ _ _ _ c.dhcp_option-identifier.result _ _ (are_answers made) identifier c.in-Some.is in
    let whole = reply_of-same c.fields_to-fields.result (c.dhcp_option-kind.result ∷ c.dhcp_option-server.result ∷ c.dhcp_option-class.result ∷ c.dhcp_option-identifier.result ∷ c.dhcp_option-vendor.result ∷ []) (answer_to c.args.frame.now c.args.client.now c.args.place.now c.args.file.now) c.fields_to-fields.ensures options in
    let one = any_long _ _ _ c.dhcp_option-identifier.result _ (are_short made) in
    let all = all_short _ _ _ c.dhcp_option-identifier.result _ (are_short made) in
    let given = ap length (ap (λ (e : Entry). e.1) c.dhcp_option-identifier.ensures ∙ c.as_slice.ensures ∙ sym (ap (λ o. unwrap_or o []) c.in-Some.is)) in
    let name = ap (λ (r : Reply). length r.file) c.fields_to-fields.ensures in
    record {
      octets = subst (λ (r : Reply). IfOk c.write.result (λ out. out.items ≡ reply_octets r)) whole c.write.ensures.octets;
      options = subst (λ (es : List Entry). IfOk c.write.result (λ out. Reads (drop 240 out.items) es)) options c.write.ensures.options;
      boot_file = rw (ap (λ (r : Reply). r.file) c.fields_to-fields.ensures) at c.write.ensures.file;
      too_long = (λ is. let long = one.0 (c.write.ensures.too_long.0 is) in omega arith, λ long. c.write.ensures.too_long.1 (one.1 (omega arith)));
      file_too_long = (
        λ is. let found = c.write.ensures.file_too_long.0 is in let short = all.0 found.0 in (omega arith, omega arith),
        λ found. c.write.ensures.file_too_long.1 (all.1 (omega arith), omega arith),
      );
    }

pub returns-in-None : goal.returns-in-None
returns-in-None c =
    let made = (goal.at.returns-in-None c).After-dhcp_option-vendor in
    let options = options-without_identifier _ _ _ _ _ _ (are_answers made) c.in-None.is in
    let whole = reply_of-same c.fields_to-fields.result (c.dhcp_option-kind.result ∷ c.dhcp_option-server.result ∷ c.dhcp_option-class.result ∷ c.dhcp_option-vendor.result ∷ []) (answer_to c.args.frame.now c.args.client.now c.args.place.now c.args.file.now) c.fields_to-fields.ensures options in
    let nothing = ap (λ o. length (unwrap_or o [])) c.in-None.is in
    let name = ap (λ (r : Reply). length r.file) c.fields_to-fields.ensures in
    record {
      octets = subst (λ (r : Reply). IfOk c.write-in-None.result (λ out. out.items ≡ reply_octets r)) whole c.write-in-None.ensures.octets;
      options = subst (λ (es : List Entry). IfOk c.write-in-None.result (λ out. Reads (drop 240 out.items) es)) options c.write-in-None.ensures.options;
      boot_file = rw (ap (λ (r : Reply). r.file) c.fields_to-fields.ensures) at c.write-in-None.ensures.file;
      too_long = (λ is. absurd (none_long _ _ _ _ (are_short made) (c.write-in-None.ensures.too_long.0 is)), λ long. absurd (omega arith));
      file_too_long = (
        λ is. let found = c.write-in-None.ensures.file_too_long.0 is in (omega arith, omega arith),
        λ found. c.write-in-None.ensures.file_too_long.1 (all_short-without _ _ _ _ (are_short made), omega arith),
      );
    }
