-- A boot file's name has no zero octet and fits the file field.
use Rattle.std.{proofs.{Common.{◌≡◌, ◌≢◌, ℕ, ◌≤◌, Bool, true, false, List, [], ◌∷◌, ◌++◌, length, refl, sym, ap, ◌∙◌, arith, length-append}, lemmas.{Bool.{and_parts, leb-true}, List.Elements.{All-nil, All-cons, All-append}}}, specs.{Prelude.{All, codes, nat_le, not, ◌==◌, ◌&&◌}, List.list_all, Char.is_ascii_alphanumeric}}
use Rattle.pxe_vendor.specs.{MacText.IsMacText, MacLaws.{IsMacText-high, length-IsMacText}, BootFile.loader_file, Place.{is_host, is_host_octet}, declared.arch.Arch.{Arch, TheVariants.{Bios, Uefi32, Uefi64, Arm64}}}

abbrev pub IsNamed : List ℕ → Type 0
IsNamed file = All (λ octet. octet ≢ 0) file

-- a test that 0 doesn't pass
IsNamed-from_test : (test : ℕ → Bool) (xs : List ℕ) → test 0 ≡ false → list_all test xs ≡ true → IsNamed xs
IsNamed-from_test test [] zero_fails e = All-nil (λ (octet : ℕ). octet ≢ 0)
IsNamed-from_test test (x ∷ xs) zero_fails e =
    let (here, others) = and_parts (test x) (list_all test xs) e in
    All-cons (λ (octet : ℕ). octet ≢ 0) x xs (λ is. absurd (let gone = sym here ∙ ap test is ∙ zero_fails in cc)) (IsNamed-from_test test xs zero_fails others)

-- ---- loaders

pub IsNamed-loader_file : (arch : Arch) → IsNamed (loader_file arch)
unfolding loader_file
IsNamed-loader_file Bios = IsNamed-from_test (λ (o : ℕ). not (o == 0)) (codes "undionly.kpxe") refl refl
IsNamed-loader_file Uefi32 = IsNamed-from_test (λ (o : ℕ). not (o == 0)) (codes "ipxe-i386.efi") refl refl
IsNamed-loader_file Uefi64 = IsNamed-from_test (λ (o : ℕ). not (o == 0)) (codes "ipxe-x86_64.efi") refl refl
IsNamed-loader_file Arm64 = IsNamed-from_test (λ (o : ℕ). not (o == 0)) (codes "ipxe-arm64.efi") refl refl

pub length-loader_file : (arch : Arch) → length (loader_file arch) ≤ 127
unfolding loader_file
length-loader_file Bios = omega arith
length-loader_file other = omega arith

-- ---- scripts

record IsHost (host : List ℕ) : Type 0 where
  named : IsNamed host
  short : length host ≤ 64

IsHost-from_is_host : (host : List ℕ) → is_host host ≡ true → IsHost host
unfolding is_host
IsHost-from_is_host [] e = absurd cc
IsHost-from_is_host (first ∷ others) e =
    let (front, allowed) = and_parts (is_ascii_alphanumeric first && nat_le (length (first ∷ others)) 64) (list_all is_host_octet others) e in
    let (letter, short) = and_parts (is_ascii_alphanumeric first) (nat_le (length (first ∷ others)) 64) front in
    let few = leb-true (length (first ∷ others)) 64 short in
    record {
      named = All-cons (λ (octet : ℕ). octet ≢ 0) first others (λ is. absurd (let gone = sym letter ∙ ap is_ascii_alphanumeric is in cc)) (IsNamed-from_test is_host_octet others refl allowed);
      short = omega arith;
    }

pub IsNamed-script_url : (host mac text : List ℕ) → is_host host ≡ true → IsMacText text mac → IsNamed (codes "http://" ++ host ++ codes "/ipxe/" ++ text)
IsNamed-script_url host mac text good is =
    let P = λ (octet : ℕ). octet ≢ 0 in
    let scheme = IsNamed-from_test (λ (o : ℕ). not (o == 0)) (codes "http://") refl refl in
    let path = IsNamed-from_test (λ (o : ℕ). not (o == 0)) (codes "/ipxe/") refl refl in
    let address : IsNamed text = λ k d below e. absurd (let high = IsMacText-high text mac is k d below in omega arith) in
    let h = IsHost-from_is_host host good in
    All-append P (codes "http://" ++ host ++ codes "/ipxe/") text (All-append P (codes "http://" ++ host) (codes "/ipxe/") (All-append P (codes "http://") host scheme h.named) path) address

pub length-script_url : (host mac text : List ℕ) → is_host host ≡ true → IsMacText text mac → length (codes "http://" ++ host ++ codes "/ipxe/" ++ text) ≤ 127
length-script_url host mac text good is =
    let h = IsHost-from_is_host host good in
    let short = h.short in
    let a = length-append (codes "http://" ++ host ++ codes "/ipxe/") text in
    let b = length-append (codes "http://" ++ host) (codes "/ipxe/") in
    let d = length-append (codes "http://") host in
    let e = length-IsMacText text mac is in
    omega arith
