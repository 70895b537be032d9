-- The program `understood` finds the message that a frame carries, where the octets are one.
use Rattle.std.{proofs.{Common.{◌≡◌, ℕ, ◌≤◌, Bool, true, false, List, length, Option, Some, None, Result, Ok, Err, refl, sym, ap, arith}, lemmas.Bool.Decides.nat_tests}, specs.{Prelude.{slice_index, IfOk, ok_or}, Cmp.Lexicographic.bytes_decides}}
use Rattle.dhcp_frame.specs.{Area.{Entry, reading}, Message.{Message, HasHeader, ReadsIf, IsFrame, options_area, file_area, sname_area}, Understood.{◌>>=◌, has_cookie, header, options_in, options_if, understood}, declared.{fault.FrameFault.{FrameFault}}, AreaLaws.{reading-from_Reads, Reads-from_reading}}

-- ---- the header

tests_cookie : (octets : List ℕ) → header octets ≡ Ok tt → has_cookie octets ≡ true
unfolding header
tests_cookie octets e = grind (arith, nat_tests)

tests_ok : (octets : List ℕ) → 240 ≤ length octets → slice_index octets 0 ≡ 1 → slice_index octets 1 ≡ 1 → slice_index octets 2 ≡ 6 → has_cookie octets ≡ true → header octets ≡ Ok tt
unfolding header
tests_ok octets long request ethernet six cookie = grind (arith, nat_tests)

HasHeader-from_tests : (octets : List ℕ) → header octets ≡ Ok tt → HasHeader octets
unfolding header has_cookie
HasHeader-from_tests octets e = record {
  long = grind (arith, nat_tests);
  request = grind (arith, nat_tests);
  ethernet = grind (arith, nat_tests);
  six = grind (arith, nat_tests);
  cookie = (bytes_decides _ _).0 (tests_cookie octets e);
}

tests-from_HasHeader : (octets : List ℕ) → HasHeader octets → header octets ≡ Ok tt
unfolding has_cookie
tests-from_HasHeader octets h = tests_ok octets h.long h.request h.ethernet h.six ((bytes_decides _ _).1 h.cookie)

-- ---- areas

ok_or-ok : {A : Type 0} (o : Option A) (fault : FrameFault) (x : A) → ok_or o fault ≡ Ok x → o ≡ Some x
ok_or-ok None fault x e = absurd cc
ok_or-ok (Some y) fault x e = cc

ReadsIf-from_options_if : (used : Bool) (area : List ℕ) (es : List Entry) → options_if used area ≡ Ok es → ReadsIf used area es
ReadsIf-from_options_if true area es e = Reads-from_reading area es (ok_or-ok (reading area) _ es e)
ReadsIf-from_options_if false area es e = cc

options_if-from_ReadsIf : (used : Bool) (area : List ℕ) (es : List Entry) → ReadsIf used area es → options_if used area ≡ Ok es
options_if-from_ReadsIf true area es r = rw (reading-from_Reads r) refl
options_if-from_ReadsIf false area es r = cc

-- ---- the whole

bind_ok : {A B : Type 0} (r : Result A FrameFault) (f : A → Result B FrameFault) (y : B) → (r >>= f) ≡ Ok y → (x : A) × (r ≡ Ok x) × (f x ≡ Ok y)
bind_ok (Ok x) f y e = (x, refl, e)
bind_ok (Err fault) f y e = absurd cc

pub IsFrame-from_understood : (octets : List ℕ) (message : Message) → understood octets ≡ Ok message → IsFrame octets message
unfolding understood
IsFrame-from_understood octets message e =
    let (checked, header, e1) = bind_ok (header octets) _ message e in
    let (own, reads_own, e2) = bind_ok (options_in (options_area octets)) _ message e1 in
    let (overload, overloads, e3) = bind_ok _ _ message e2 in
    let (in_file, reads_file, e4) = bind_ok _ _ message e3 in
    let (in_sname, reads_sname, e5) = bind_ok _ _ message e4 in
    record {
      header = HasHeader-from_tests octets header;
      own = own;
      overload = overload;
      in_file = in_file;
      in_sname = in_sname;
      reads_own = Reads-from_reading (options_area octets) own (ok_or-ok _ _ own reads_own);
      overloads = ok_or-ok _ _ overload overloads;
      reads_file = ReadsIf-from_options_if overload.file (file_area octets) in_file reads_file;
      reads_sname = ReadsIf-from_options_if overload.sname (sname_area octets) in_sname reads_sname;
      whole = cc;
    }

pub understood-from_IsFrame : (octets : List ℕ) (message : Message) → IsFrame octets message → understood octets ≡ Ok message
unfolding understood
understood-from_IsFrame octets message m =
    let header = tests-from_HasHeader octets m.header in
    let own = reading-from_Reads m.reads_own in
    let in_file = options_if-from_ReadsIf m.overload.file (file_area octets) m.in_file m.reads_file in
    let in_sname = options_if-from_ReadsIf m.overload.sname (sname_area octets) m.in_sname m.reads_sname in
    rw (header, own, m.overloads, in_file, in_sname) (ap (λ (x : Message). Ok x) (sym m.whole))

pub IfOk-understood : (octets : List ℕ) (r : Result Message FrameFault) → r ≡ understood octets → IfOk r (λ message. IsFrame octets message)
IfOk-understood octets (Ok message) e = IsFrame-from_understood octets message (sym e)
IfOk-understood octets (Err fault) e = tt
