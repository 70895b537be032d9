-- Records in turn, as a writer has written them.
use Rattle.std.{proofs.{Common.{◌≡◌, ◌≢◌, ◌<◌, ◌+◌, ℕ, false, List, [], ◌∷◌, ◌++◌, Option, Some, None, Result, Ok, Err, OnOk, length, take, get_or, refl, sym, ap, subst, ◌∙◌}, lemmas.{List.{flat_map_more, take_more}, Str.{IsUtf8-append, IsUtf8-nil}}}, specs.{List.flat_map, Result.is_err, Io.KnownBytes.Appends, declared.{alloc.Global.Global, vec.Vec.Vec}}}
use Rattle.csv.specs.Records.{AllText}
use Rattle.csv.specs.declared.writer.QuoteStyle.TheVariants as style
use Rattle.hall_report.{specs.{Prelude.{default_writer, fields_written, has_written, row_text, text_written, writer_pending, writer_setup, writer_under, Writer, Machine}, Export.{HasWritten, record_text}}, proofs.TextLemmas.record_is_text}

abbrev Octets : Type 0
Octets = Vec ℕ Global

pub no_error : {T E : Type 0} (r : Result T E) (P : Type 0) → is_err r ≡ false → OnOk r P → P
no_error (Ok value) P fine held = held
no_error (Err error) P fine held = cc

appended : (was is : Option (List ℕ)) (text more : List ℕ) → Appends was is more → was ≡ Some text → is ≡ Some (text ++ more)
appended None is text more h e = cc
appended (Some xs) None text more h e = absurd h
appended (Some xs) (Some ys) text more h e = let same : xs ≡ text = cc in ap Some (h ∙ ap (λ (before : List ℕ). before ++ more) same)

-- a writer that has written nothing
pub none_written : (w : Writer Octets) (octets : Octets) → writer_under w ≡ octets → octets.items ≡ [] → writer_pending w ≡ []
    → writer_setup w ≡ default_writer → fields_written w ≡ 0 → has_written w ≡ false → HasWritten w []
none_written w octets under none pending setup fields bare = record {
  setup = setup;
  fields = fields;
  bare = bare;
  text_is = rw (under, none, pending) refl;
  is_text = IsUtf8-nil;
}

-- one record more
pub record_written : (old new : Writer Octets) (text : List ℕ) (fields : List (List ℕ)) → HasWritten old text → AllText fields
    → (fields_written old ≡ 0 → has_written old ≡ false → (writer_setup old).style ≢ style.NonNumeric
    → Appends (text_written (λ v. Some v.items) old) (text_written (λ v. Some v.items) new) (row_text (writer_setup old) fields))
    → fields_written new ≡ 0 → has_written new ≡ false → writer_setup new ≡ writer_setup old → HasWritten new (text ++ record_text fields)
unfolding record_text
record_written old new text fields has texts bytes ended bare same =
    let plain : (writer_setup old).style ≢ style.NonNumeric = rw has.setup (λ e. cc e) in
    let more = subst (λ setup. Appends (text_written (λ v. Some v.items) old) (text_written (λ v. Some v.items) new) (row_text setup fields)) has.setup (bytes has.fields has.bare plain) in
    record {
      setup = same ∙ has.setup;
      fields = ended;
      bare = bare;
      text_is = appended (text_written (λ v. Some v.items) old) (text_written (λ v. Some v.items) new) text (row_text default_writer fields) more has.text_is;
      is_text = IsUtf8-append text (record_text fields) has.is_text (record_is_text fields texts);
    }

-- one machine more
pub machine_written : (w : Writer Octets) (f : Machine → List ℕ) (head one : List ℕ) (ms : List Machine) (i : ℕ) (m : Machine)
    → i < length ms → m ≡ get_or ms i m → one ≡ f m
    → HasWritten w ((head ++ flat_map f (take i ms)) ++ one) → HasWritten w (head ++ flat_map f (take (i + 1) ms))
machine_written w f head one ms i m inside at is has =
    subst (λ text. HasWritten w text)
    (ap (λ (last : List ℕ). (head ++ flat_map f (take i ms)) ++ last) is
    ∙ flat_map_more f head (take i ms) m
    ∙ ap (λ (all : List Machine). head ++ flat_map f all) (sym (take_more ms i m inside ∙ ap (λ (x : Machine). take i ms ++ x ∷ []) (sym at)))) has
