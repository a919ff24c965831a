-- The rows of a page: read, written, and when they are in range.
use Rattle.std.specs.Prelude.{ℕ, ◌+◌, ◌*◌, Bool, true, cond, count_by, not, ◌&&◌, List, [], ◌∷◌, ◌++◌, length, Some, None, Option, ◌==◌, nat_le, nat_lt, slice_index, slice_set}
use Rattle.std.specs.Borrow.{Bor}
use Rattle.wire.specs.Bytes.{Read, ◌then◌, four, four_bytes, one, one_byte, some, two, two_bytes}
use Rattle.wire.specs.Several.{joined, several}
use Rattle.page.specs.declared.rows.Client.{Client}
use Rattle.page.specs.declared.rows.Shelf.{Shelf}
use Rattle.store.specs.Store.{Store, tables}

-- a shelf: its key, and the number that it holds
abbrev pub shelf_of : List ℕ → Read Shelf
shelf_of bs = two bs then λ key bs. four bs then λ number bs. Some (record { key = key; number = number }, bs)

-- a client: its last and its word
abbrev pub client_of : List ℕ → Read Client
client_of bs =
    one bs then λ client bs. four bs then λ last bs. four bs then λ word bs.
    Some (record { client = client; last = last; word = word }, bs)

-- how many there are, up to a limit, and then each
abbrev pub count_of : ℕ → List ℕ → Read ℕ
count_of limit bs = two bs then λ n bs. cond (nat_lt limit n) None (Some (n, bs))

abbrev pub rows_of : {A : Type 0} → (List ℕ → Read A) → ℕ → List ℕ → Read (List A)
rows_of reads limit bs = count_of limit bs then λ n bs. several reads n bs

-- how many there are, up to a limit, and the bytes of so many, each of which takes w
abbrev pub skip_of : ℕ → ℕ → List ℕ → Read (List ℕ)
skip_of limit w bs = count_of limit bs then λ n bs. some (w * n) bs

-- whether a row can stand where `next` is the lowest key, or client, that is left
abbrev pub is_next_shelf : ℕ → Shelf → Bool
is_next_shelf next row = nat_le next row.key && (nat_lt row.key 1024 && not (row.number == 0))

abbrev pub is_next_client : ℕ → Client → Bool
is_next_client next row = nat_le next row.client && (nat_lt row.client 256 && not (row.last == 0))

-- rows that rise from `next` on, each in range; `place` gives a row's key or client
unfoldable pub rising : {A : Type 0} → (ℕ → A → Bool) → (A → ℕ) → ℕ → List A → Bool
rising is_next place next [] = true
rising is_next place next (row ∷ rows) = is_next next row && rising is_next place (place row + 1) rows

abbrev pub key : Shelf → ℕ
key row = row.key

abbrev pub client : Client → ℕ
client row = row.client

abbrev pub rising_shelves : ℕ → List Shelf → Bool
rising_shelves next rows = rising is_next_shelf key next rows

abbrev pub rising_clients : ℕ → List Client → Bool
rising_clients next rows = rising is_next_client client next rows

-- the bytes that a function gives back, with what it has made
abbrev pub left_with : {S : Type 0} → Option (Bor (List ℕ)) → S → Read S
left_with None s = None
left_with (Some rest) s = Some (s, rest.now)

-- a row put into its table, or its two tables
abbrev pub with_shelf : Store → Shelf → Store
with_shelf s row = tables (slice_set s.shelves row.key row.number) s.lasts s.words

abbrev pub with_client : Store → Client → Store
with_client s row = tables s.shelves (slice_set s.lasts row.client row.last) (slice_set s.words row.client row.word)

-- a row as bytes
abbrev pub shelf_bytes : Shelf → List ℕ
shelf_bytes row = two_bytes row.key ++ four_bytes row.number

abbrev pub client_bytes : Client → List ℕ
client_bytes row = one_byte row.client ++ (four_bytes row.last ++ four_bytes row.word)

-- rows as bytes, each behind the one before, and their count in front
abbrev pub rows_bytes : {A : Type 0} → (A → List ℕ) → List A → List ℕ
rows_bytes bytes rows = two_bytes (length rows) ++ joined bytes rows

-- the rows of the cells that don't hold 0, from place i on; `row` makes one of a place and its cell
unfoldable pub listed : {A : Type 0} → (ℕ → ℕ → A) → ℕ → List ℕ → List A
listed row i [] = []
listed row i (x ∷ xs) = cond (x == 0) (listed row (i + 1) xs) (row i x ∷ listed row (i + 1) xs)

-- the row of a place, if its cell doesn't hold 0
abbrev pub row_in : {A : Type 0} → (ℕ → ℕ → A) → List ℕ → ℕ → Option A
row_in row cells at = cond (slice_index cells at == 0) None (Some (row at (slice_index cells at)))

-- how many cells don't hold 0
abbrev pub occupied : List ℕ → ℕ
occupied cells = count_by (λ cell. not (cell == 0)) cells

abbrev pub shelf_row : ℕ → ℕ → Shelf
shelf_row key number = record { key = key; number = number }

abbrev pub client_row : List ℕ → ℕ → ℕ → Client
client_row words client last = record { client = client; last = last; word = slice_index words client }

-- the rows of a table of shelves, and of the two tables of clients
abbrev pub shelves_in : List ℕ → List Shelf
shelves_in shelves = listed shelf_row 0 shelves

abbrev pub clients_in : List ℕ → List ℕ → List Client
clients_in lasts words = listed (client_row words) 0 lasts

-- the rows of a table as bytes
abbrev pub table_bytes : {A : Type 0} → (A → List ℕ) → (ℕ → ℕ → A) → List ℕ → List ℕ
table_bytes bytes row cells = rows_bytes bytes (listed row 0 cells)

abbrev pub shelves_bytes : List ℕ → List ℕ
shelves_bytes shelves = table_bytes shelf_bytes shelf_row shelves

abbrev pub clients_bytes : List ℕ → List ℕ → List ℕ
clients_bytes lasts words = table_bytes client_bytes (client_row words) lasts
