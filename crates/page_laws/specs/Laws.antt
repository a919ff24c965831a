-- Reading and writing pages fit each other, and every store of a register has a page.
use Rattle.std.specs.Prelude.{◌≡◌, ℕ, ◌^◌, ◌<◌, ◌≤◌, true, cond, List, length, Some, None}
use Rattle.wire.specs.Bytes.{Read, ◌then◌}
use Rattle.wire.specs.Exact.{Exact}
use Rattle.page.specs.Page.{RawPage, judged_in, loaded, page_bytes, page_of, raw_page_bytes, raw_page_of, with_rows}
use Rattle.page.specs.declared.rows.Client.{Client}
use Rattle.page.specs.declared.rows.Shelf.{Shelf}
use Rattle.std.specs.List.{AllByRecursion}
use Rattle.store.specs.Store.{Store, bare, last, played, whole, word}
use Rattle.store.specs.declared.ask.Ask.{Ask}
use Rattle.store.specs.declared.ask.Ask.TheVariants.{Put, Take, Look}
use Rattle.store.specs.declared.request.Request.{Request}

-- rows whose numbers fit their fields, in range or not
pub record ShelfFits (row : Shelf) : Type 0 where
  pub key : row.key < 65536
  pub number : row.number < 2 ^ 32

pub record ClientFits (row : Client) : Type 0 where
  pub client : row.client < 256
  pub last : row.last < 2 ^ 32
  pub word : row.word < 2 ^ 32

pub record RawPageFits (p : RawPage) : Type 0 where
  pub before : p.before < 2 ^ 32
  pub few_shelves : length p.shelves ≤ 1024
  pub shelves : AllByRecursion ShelfFits p.shelves
  pub few_clients : length p.clients ≤ 256
  pub clients : AllByRecursion ClientFits p.clients

-- Bytes that are read as a page are exactly those that begin with the bytes of one, in range or not;
-- any others are cut short, or have a count above its limit.
abbrev pub PageForms : Type 0
PageForms = Exact raw_page_of raw_page_bytes RawPageFits

-- a store, and how many entries made it
pub record Paged : Type 0 where
  pub before : ℕ
  pub store : Store

-- what is read and is in range: the store that the rows make of a bare one
abbrev pub accepted_page : List ℕ → Read Paged
accepted_page bs = raw_page_of bs then λ p bs. cond (judged_in p).sound (Some (record { before = p.before; store = with_rows bare p }, bs)) None

-- a store that a page can hold: tables of the right lengths, numbers of four bytes, and no word for a client that has done nothing
pub record StoreFits (s : Store) : Type 0 where
  pub tables : whole s ≡ true
  pub shelves : AllByRecursion (λ n. n < 2 ^ 32) s.shelves
  pub lasts : AllByRecursion (λ n. n < 2 ^ 32) s.lasts
  pub words : AllByRecursion (λ n. n < 2 ^ 32) s.words
  pub idle : (client : ℕ) → last s client ≡ 0 → word s client ≡ 0

pub record PagedFits (v : Paged) : Type 0 where
  pub before : v.before < 2 ^ 32
  pub store : StoreFits v.store

-- Every such store is read back as it was written, and a page is accepted in one form only: the bytes that are written of its store.
abbrev pub Pages : Type 0
Pages = Exact accepted_page (λ v. page_bytes v.before v.store) PagedFits

pub record Loads : Type 0 where
  -- a page leaves nothing of what the tables held before
  pub fresh : (s : Store) (p : RawPage) (rest : List ℕ) → whole s ≡ true → loaded s (Some (p, rest)) ≡ with_rows bare p
  -- so to judge a page and then, if it is sound, to load it, into whatever store, is to accept it
  pub accepted : (s : Store) (bs : List ℕ) → whole s ≡ true →
      accepted_page bs ≡ (page_of bs then λ judged rest. cond judged.sound (Some (record { before = judged.value; store = loaded s (raw_page_of bs) }, rest)) None)

-- requests whose numbers fit their fields; whether client and key are in range doesn't matter, since doing a request asks that
abbrev pub AskFits : Ask → Type 0
AskFits (Put key value) = value < 2 ^ 32
AskFits (Take key amount) = amount < 2 ^ 32
AskFits (Look key) = Unit {0}

pub record RequestFits (r : Request) : Type 0 where
  pub number : r.number < 2 ^ 32
  pub ask : AskFits r.ask

-- Every store that requests make of a bare one has a page, and so has all that they make of a store that has one.
pub record Reached : Type 0 where
  pub begun : (rs : List Request) → AllByRecursion RequestFits rs → StoreFits (played bare rs)
  pub onward : (s : Store) (rs : List Request) → StoreFits s → AllByRecursion RequestFits rs → StoreFits (played s rs)
