-- Pages that are in range, in bytes.
use Rattle.std.proofs.Common.{◌≡◌, ℕ, ◌+◌, true, cond, List, [], ◌∷◌, ◌++◌, length, get_or, set, replicate, Some, None, sym, refl, ap, ◌∙◌, subst, zero-add, arith}
use Rattle.wire.proofs.Exacts.{if_so, split}
use Rattle.wire.specs.Bytes.{Read, ◌then◌}
use Rattle.wire.specs.Exact.{Bytes}
use Rattle.wire.specs.Several.{after}
use Rattle.page.specs.Page.{RawPage, judged_in, page_bytes, page_in, raw_page_bytes, raw_page_of, with_rows}
use Rattle.page.specs.Rows.{client, client_row, clients_in, key, rising_shelves, shelf_row, shelves_in, with_client, with_shelf}
use Rattle.page.specs.declared.rows.Client.{Client}
use Rattle.page.specs.declared.rows.Shelf.{Shelf}
use Rattle.page_laws.proofs.Forms.{page_forms}
use Rattle.page_laws.proofs.Stores.{Idle, Small, all_zero, cleared_bare, idle_set, idle_zero, small_at, wholly, zeros}
use Rattle.page_laws.proofs.Tables.{Rises, agree_other, agree_own, all_listed, all_put, few_listed, found_again, length_put, listed_rises, put_in, relisted, restored, rises_parts}
use Rattle.page_laws.specs.Laws.{ClientFits, Paged, PagedFits, Pages, RawPageFits, ShelfFits, StoreFits, accepted_page}
use Rattle.std.proofs.ByRecursion.{All-weaker}
use Rattle.std.proofs.lemmas.List.{length-replicate, length-set}
use Rattle.std.proofs.lemmas.Bool.{and_from, and_parts, cond-true}
use Rattle.std.specs.List.{AllByRecursion}
use Rattle.store.proofs.Whole.{lengths}
use Rattle.store.specs.Store.{Store, bare, cleared, tables}

abbrev paged : ℕ → Store → Paged
paged before s = record { before = before; store = s }

-- a page that was read, if it is in range
abbrev pub judged : RawPage → List ℕ → Read Paged
judged p bs = cond (judged_in p).sound (Some (paged p.before (with_rows bare p), bs)) None

-- what rows of the two kinds keep
abbrev number : Shelf → ℕ
number row = row.number

abbrev last : Client → ℕ
last row = row.last

abbrev word : Client → ℕ
word row = row.word

abbrev row_of : ℕ → ℕ → ℕ → Client
row_of c l w = record { client = c; last = l; word = w }

abbrev raw_of : ℕ → List Shelf → List Client → RawPage
raw_of before shelves clients = record { before = before; shelves = shelves; clients = clients }

all_of : {A : Type 0} (P : A → Type 0) → ((a : A) → P a) → (xs : List A) → AllByRecursion P xs
all_of P h [] = tt
all_of P h (x ∷ xs) = (h x, all_of P h xs)

-- each table is filled by itself
shelves_put : (s : Store) (rows : List Shelf) → after with_shelf s rows ≡ tables (after (put_in key number) s.shelves rows) s.lasts s.words
unfolding after
shelves_put s [] = refl
shelves_put s (row ∷ rows) = shelves_put (with_shelf s row) rows

clients_put : (s : Store) (rows : List Client) → after with_client s rows ≡ tables s.shelves (after (put_in client last) s.lasts rows) (after (put_in client word) s.words rows)
unfolding after
clients_put s [] = refl
clients_put s (row ∷ rows) = clients_put (with_client s row) rows

-- what rows make of a store, table by table
abbrev put : Store → RawPage → Store
put s p = tables (after (put_in key number) s.shelves p.shelves) (after (put_in client last) s.lasts p.clients) (after (put_in client word) s.words p.clients)

rows_put : (s : Store) (p : RawPage) → with_rows s p ≡ put s p
rows_put s p = clients_put (after with_shelf s p.shelves) p.clients ∙ ap (λ (t : Store). tables t.shelves (after (put_in client last) t.lasts p.clients) (after (put_in client word) t.words p.clients)) (shelves_put s p.shelves)

-- The page of a store that fits: it fits, it is sound, and its rows make the store again.
pub page_fits : (v : Paged) → PagedFits v → RawPageFits (page_in v.before v.store)
page_fits v h =
    let s = v.store in
    let f = h.store in
    let l = lengths s f.tables in
    let a = l.shelves in
    let b = l.lasts in
    let c = l.words in
    let i = few_listed 1024 key number shelf_row 0 s.shelves in
    let j = few_listed 256 client last (client_row s.words) 0 s.lasts in
    record {
      before = h.before;
      few_shelves = omega arith;
      shelves = all_listed 1024 key number shelf_row ShelfFits Small (λ i x low small. record { key = omega arith; number = small }) 0 s.shelves (omega arith) f.shelves;
      few_clients = omega arith;
      clients = all_listed 256 client last (client_row s.words) ClientFits Small (λ i x low small. record { client = low; last = small; word = small_at s.words i f.words }) 0 s.lasts (omega arith) f.lasts;
    }

pub page_sound : (before : ℕ) (s : Store) → StoreFits s → (judged_in (page_in before s)).sound ≡ true
page_sound before s f =
    let l = lengths s f.tables in
    let a = l.shelves in
    let b = l.lasts in
    and_from (rising_shelves 0 (shelves_in s.shelves)) _ (listed_rises 1024 key number shelf_row (λ i x. refl) (λ i x. refl) 0 0 s.shelves (omega arith) (omega arith))
    (listed_rises 256 client last (client_row s.words) (λ i x. refl) (λ i x. refl) 0 0 s.lasts (omega arith) (omega arith))

same_tables : (a b c x y z : List ℕ) → a ≡ x → b ≡ y → c ≡ z → tables a b c ≡ tables x y z
same_tables a b c x y z e f g = ap (λ (l : List ℕ). tables l b c) e ∙ ap (λ (l : List ℕ). tables x l c) f ∙ ap (λ (l : List ℕ). tables x y l) g

pub store_again : (before : ℕ) (s : Store) → StoreFits s → with_rows bare (page_in before s) ≡ s
store_again before s f =
    let l = lengths s f.tables in
    let long : length s.words ≡ length s.lasts = l.words ∙ sym l.lasts in
    let make = client_row s.words in
    let rows = clients_in s.lasts s.words in
    ap (λ (t : Store). with_rows t (page_in before s)) (sym (cleared_bare s f.tables)) ∙ rows_put (cleared s) (page_in before s) ∙
    same_tables _ _ _ s.shelves s.lasts s.words
    (restored key number shelf_row (λ i x. refl) 0 s.shelves s.shelves [] refl (agree_own key number shelf_row (λ i x. refl) 0 s.shelves))
    (restored client last make (λ i x. refl) 0 s.lasts s.lasts [] refl (agree_own client last make (λ i x. refl) 0 s.lasts))
    (ap (λ (n : ℕ). after (put_in client word) (replicate n 0) rows) long ∙
    restored client word make (λ i x. refl) 0 s.lasts s.words [] refl
    (agree_other client word make s.words (λ i x. refl) 0 s.lasts (zero-add (length s.lasts) ∙ sym long) (λ k e. ap (λ (j : ℕ). get_or s.words j 0) (zero-add k) ∙ f.idle k e)))

page_back : (v : Paged) (rest : List ℕ) → PagedFits v → accepted_page (page_bytes v.before v.store ++ rest) ≡ Some (v, rest)
unfolding page_bytes
page_back v rest h =
    let p = page_in v.before v.store in
    ap (λ (o : Read RawPage). o then judged) (page_forms.back p rest (page_fits v h)) ∙
    cond-true (judged_in p).sound _ None (page_sound v.before v.store h.store) ∙
    ap (λ (t : Store). Some (paged v.before t, rest)) (store_again v.before v.store h.store)

-- The store of a page that fits and is sound: it fits, and its page is that page.
idle_put : (n next : ℕ) (lasts words : List ℕ) (rows : List Client) → length lasts ≡ length words → Rises n client last next rows → Idle lasts words → Idle (after (put_in client last) lasts rows) (after (put_in client word) words rows)
unfolding after
idle_put n next lasts words [] long h idle = idle
idle_put n next lasts words (row ∷ rows) long h idle =
    let p = rises_parts n client last next row rows h in
    idle_put n (row.client + 1) (set lasts row.client row.last) (set words row.client row.word) rows
    (length-set lasts row.client row.last ∙ long ∙ sym (length-set words row.client row.word)) p.1 (idle_set lasts words row.client row.last row.word long p.0.full idle)

module _ (n m : ℕ) (p : RawPage) (shelves-rise : Rises n key number 0 p.shelves) (clients-rise : Rises m client last 0 p.clients) where
  put_fits : n ≡ 1024 → m ≡ 256 → RawPageFits p → StoreFits (put (zeros n m) p)
  put_fits e f fits =
      record {
        tables =
            wholly (put (zeros n m) p) (record {
              shelves = length_put n key number (replicate n 0) p.shelves ∙ length-replicate n 0 ∙ e;
              lasts = length_put m client last (replicate m 0) p.clients ∙ length-replicate m 0 ∙ f;
              words = length_put m client word (replicate m 0) p.clients ∙ length-replicate m 0 ∙ f;
            });
        shelves = all_put n key number Small (replicate n 0) p.shelves (all_zero n) (All-weaker ShelfFits (λ row. Small row.number) (λ row h. h.number) p.shelves fits.shelves);
        lasts = all_put m client last Small (replicate m 0) p.clients (all_zero m) (All-weaker ClientFits (λ row. Small row.last) (λ row h. h.last) p.clients fits.clients);
        words = all_put m client word Small (replicate m 0) p.clients (all_zero m) (All-weaker ClientFits (λ row. Small row.word) (λ row h. h.word) p.clients fits.clients);
        idle = idle_put m 0 (replicate m 0) (replicate m 0) p.clients refl clients-rise (idle_zero m);
      }

  page_again : page_in p.before (put (zeros n m) p) ≡ p
  page_again =
      let words = after (put_in client word) (replicate m 0) p.clients in
      let found = found_again m client last word 0 (replicate m 0) p.clients clients-rise (length-replicate m 0) in
      let a = relisted n key number shelf_row p.shelves shelves-rise (all_of (λ (row : Shelf). shelf_row row.key row.number ≡ row) (λ row. refl) p.shelves) in
      let b = relisted m client last (client_row words) p.clients clients-rise
      (All-weaker (λ (row : Client). get_or words row.client 0 ≡ row.word) (λ row. client_row words row.client row.last ≡ row) (λ row e. ap (λ (w : ℕ). row_of row.client row.last w) e) p.clients found) in
      ap (λ (rows : List Shelf). raw_of p.before rows (clients_in (after (put_in client last) (replicate m 0) p.clients) words)) a ∙ ap (λ (rows : List Client). raw_of p.before p.shelves rows) b

pub page_store : (p : RawPage) → RawPageFits p → (judged_in p).sound ≡ true → StoreFits (with_rows bare p) × (raw_page_bytes p ≡ page_bytes p.before (with_rows bare p))
unfolding page_bytes
page_store p fits sound =
    let r = and_parts (rising_shelves 0 p.shelves) _ sound in
    subst (λ (s : Store). StoreFits s × (raw_page_bytes p ≡ raw_page_bytes (page_in p.before s))) (sym (rows_put bare p))
    (put_fits 1024 256 p r.0 r.1 refl refl fits, ap raw_page_bytes (sym (page_again 1024 256 p r.0 r.1)))

page_only : (bs : List ℕ) (v : Paged) (rest : List ℕ) → Bytes bs → accepted_page bs ≡ Some (v, rest) → PagedFits v × (bs ≡ page_bytes v.before v.store ++ rest)
page_only bs v rest h e =
    let s = split (raw_page_of bs) judged (v, rest) e in
    let p = s.value in
    let o = page_forms.only bs p s.rest h s.first in
    let d = if_so (judged_in p).sound (paged p.before (with_rows bare p), s.rest) (v, rest) s.second in
    let t = page_store p o.0 d.0 in
    subst (λ (w : Paged × List ℕ). PagedFits w.0 × (bs ≡ page_bytes w.0.before w.0.store ++ w.1)) d.1 (record { before = o.0.before; store = t.0 }, o.1 ∙ ap (λ (l : List ℕ). l ++ s.rest) t.1)

pub pages : Pages
pages = record { back = page_back; only = page_only }
