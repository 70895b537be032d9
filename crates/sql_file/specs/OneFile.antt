-- A database file and its log as one file (the file format of SQLite, section 4).
use Rattle.std.specs.Prelude.{◌≡◌, ℕ, List, []}
use Rattle.sqlite_wal.specs.{Format.be32, PageSize.size_in_file, Recovery.{Pages, IsIgnored, Recovers, pages_after}}

-- one file has the pages for which a file and its log stand together, in the page size that the log names, or the file if there is no log
pub record StandsFor (file log one : List ℕ) : Type 0 where
  pub page_size : ℕ
  pub by_log : ¬ IsIgnored log → page_size ≡ be32 log 8
  pub by_file : IsIgnored log → page_size ≡ size_in_file file
  pub same : (pages : Pages) → Recovers page_size (record { log = log; db = file }) pages → pages_after page_size [] one 0 ≡ pages
