-- Pages: a store as bytes.
use Rattle.std.specs.Prelude.{ℕ, ◌+◌, ◌*◌, cond, ◌&&◌, List, ◌++◌, length, Some, None, Option, Err, Result, is_ok}
use Rattle.wire.specs.Bytes.{Read, ◌then◌, four, four_bytes, placed, placed_at}
use Rattle.wire.specs.Judged.{ended, judged}
use Rattle.wire.specs.Several.{after, made}
use Rattle.wire.specs.declared.fault.Fault.{Fault}
use Rattle.wire.specs.declared.fault.Fault.TheVariants.{Malformed}
use Rattle.wire.specs.declared.judged.Judged.{Judged}
use Rattle.page.specs.Rows.{client_bytes, client_of, clients_in, occupied, rising_clients, rising_shelves, rows_bytes, rows_of, shelf_bytes, shelf_of, shelves_in, with_client, with_shelf}
use Rattle.page.specs.declared.rows.Client.{Client}
use Rattle.page.specs.declared.rows.Shelf.{Shelf}
use Rattle.store.specs.Store.{Store, cleared, whole}

-- a page as it stands in bytes, in range or not: how many entries stand before it, and the rows
pub record RawPage : Type 0 where
  pub before : ℕ
  pub shelves : List Shelf
  pub clients : List Client

abbrev pub raw_page_of : List ℕ → Read RawPage
raw_page_of bs =
    four bs then λ before bs. rows_of shelf_of 1024 bs then λ shelves bs. rows_of client_of 256 bs then λ clients bs.
    Some (record { before = before; shelves = shelves; clients = clients }, bs)

abbrev pub raw_page_bytes : RawPage → List ℕ
raw_page_bytes p = four_bytes p.before ++ (rows_bytes shelf_bytes p.shelves ++ rows_bytes client_bytes p.clients)

-- whether all of it is in range: keys and clients that rise, keys up to 1,023, and no number or last of 0
abbrev pub judged_in : RawPage → Judged ℕ
judged_in p = judged p.before (rising_shelves 0 p.shelves && rising_clients 0 p.clients)

abbrev pub page_of : List ℕ → Read (Judged ℕ)
page_of bs = made judged_in (raw_page_of bs)

-- how many entries stand before the page that some bytes are, or why they are refused: slices that are no store,
-- no page at the front, or bytes behind it; and then, something out of range
abbrev pub outcome : Store → Read (Judged ℕ) → Result ℕ Fault
outcome s read = cond (whole s) (ended read) (Err Malformed)

-- the rows of a page put into the tables of a store
abbrev pub with_rows : Store → RawPage → Store
with_rows s p = after with_client (after with_shelf s p.shelves) p.clients

-- the store that a page holds: its rows, and 0 wherever it has none
abbrev pub held : Store → Read RawPage → Store
held s None = s
held s (Some q) = with_rows (cleared s) q.0

-- the store afterwards: as it was, if the bytes are refused
abbrev pub filled : Store → List ℕ → Store
filled s bs = cond (is_ok (outcome s (page_of bs))) (held s (raw_page_of bs)) s

-- the store afterwards: as it was, if it is none or there is no page
abbrev pub loaded : Store → Read RawPage → Store
loaded s read = cond (whole s) (held s read) s

-- the page of a store, and its bytes
abbrev pub page_in : ℕ → Store → RawPage
page_in before s = record { before = before; shelves = shelves_in s.shelves; clients = clients_in s.lasts s.words }

unfoldable pub page_bytes : ℕ → Store → List ℕ
page_bytes before s = raw_page_bytes (page_in before s)

-- how many these are
abbrev pub page_size : List ℕ → List ℕ → ℕ
page_size shelves lasts = 8 + 6 * occupied shelves + 9 * occupied lasts

-- where it ends, written from `at` on, and the bytes behind that: only a store has a page
abbrev pub page_end : ℕ → ℕ → ℕ → Store → Option ℕ
page_end room at before s = cond (whole s) (placed room at (length (page_bytes before s))) None

abbrev pub page_at : List ℕ → ℕ → ℕ → Store → List ℕ
page_at xs at before s = cond (whole s) (placed_at xs at (page_bytes before s)) xs
