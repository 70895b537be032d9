-- A file without a log.
use Rattle.std.{proofs.Common.{◌≡◌, ℕ, zero, suc, Bool, true, false, List, [], ◌∷◌, length, take, refl, sym, subst, ◌∙◌}, specs.Prelude.{Result, Ok, Err, OnOk, IsTrue, ◌&&◌}}
use Rattle.sqlite_disk.specs.{Memory.memory_bytes, declared.memory.Memory.Memory}
use Rattle.sqlite_wal.{specs.Recovery.{Pages, Recovers, pages_after}, proofs.RecoveryLemmas.same_pages}
use Rattle.sql_file.specs.OneFile.{StandsFor}

-- none of a log's frames count: the file stands alone
alone : (page_size : ℕ) (log db : List ℕ) → pages_after page_size [] db 0 ≡ pages_after page_size log db 0
alone page_size log db = same_pages page_size log db [] db 0 0 refl (λ n least most. refl)

abbrev no_octets : List ℕ
no_octets = []

none_taken : (k : ℕ) → length (take k no_octets) ≡ 0
none_taken zero = refl
none_taken (suc k) = refl

emptied : (page_size k : ℕ) (index log db : List ℕ) → length index ≡ 0 → pages_after page_size [] db 0 ≡ pages_after page_size log db (length (take k index))
emptied page_size k [] log db e = subst (λ (n : ℕ). pages_after page_size [] db 0 ≡ pages_after page_size log db n) (sym (none_taken k)) (alone page_size log db)
emptied page_size k (x ∷ index) log db e = absurd cc

-- a log that has no frames any more leaves its pages to the file
pub pages_left : (page_size now k : ℕ) (index log db : List ℕ) (committed pages : Pages) → length index ≡ 0 → now ≡ page_size
    → pages_after now log db (length (take k index)) ≡ committed → committed ≡ pages → pages_after page_size [] db 0 ≡ pages
pages_left page_size now k index log db committed pages empty size same is =
    subst (λ (n : ℕ). pages_after n [] db 0 ≡ pages) size (emptied now k index log db empty ∙ same ∙ is)

-- what holds of a call that went well, by two facts of it
pub on_both : {T E A B C : Type 0} (r : Result T E) → OnOk r A → OnOk r B → (A → B → C) → OnOk r C
on_both (Ok x) a b f = f a b
on_both (Err e) a b f = tt

pub and_true : (b : Bool) → IsTrue b → IsTrue (b && true)
and_true true h = h
and_true false h = absurd cc

-- the file of a pair stands for the pages for which a log and a file stood
abbrev pub Stands : ℕ → Memory × Memory → Memory × Memory → Type 0
Stands page_size before after =
    (pages : Pages) → Recovers page_size (record { log = memory_bytes before.0; db = memory_bytes before.1 }) pages → pages_after page_size [] (memory_bytes after.1) 0 ≡ pages

-- the same of equal sizes and pairs
pub stands : (page_size now : ℕ) (before held left after : Memory × Memory) → now ≡ page_size → held ≡ before → after ≡ left → Stands now held left → Stands page_size before after
stands page_size now before held left after size same end h =
    subst (λ (n : ℕ). Stands n before after) size (subst (λ (pair : Memory × Memory). Stands now pair after) same (subst (λ (pair : Memory × Memory). Stands now held pair) (sym end) h))

-- what stands for a file and a log stands for equal ones
pub equal_ones : (file log one other_file other_log : List ℕ) → other_file ≡ file → other_log ≡ log → StandsFor other_file other_log one → StandsFor file log one
equal_ones file log one other_file other_log same_file same_log h =
    subst (λ (xs : List ℕ). StandsFor xs log one) same_file (subst (λ (xs : List ℕ). StandsFor other_file xs one) same_log h)
