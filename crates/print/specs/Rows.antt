-- A store as text; 10 ends a line.
use Rattle.std.specs.Prelude.{ℕ, ◌+◌, cond, List, [], ◌∷◌, ◌++◌, codes, decimal, ◌==◌, slice_index}
use Rattle.store.specs.Store.{Store}

-- `shelf KEY NUMBER`, unless it holds 0
abbrev pub shelf_row : ℕ → ℕ → List ℕ
shelf_row key held = cond (held == 0) [] (codes "shelf " ++ (decimal key ++ (codes " " ++ (decimal held ++ (10 ∷ [])))))

-- `client CLIENT last NUMBER word W`, unless nothing of it was done
abbrev pub client_row : List ℕ → ℕ → ℕ → List ℕ
client_row words client last =
    cond (last == 0) [] (codes "client " ++ (decimal client ++ (codes " last " ++ (decimal last ++ (codes " word " ++ (decimal (slice_index words client) ++ (10 ∷ [])))))))

-- a row for each number of a table, the first of which stands at i
abbrev pub rows : (ℕ → ℕ → List ℕ) → ℕ → List ℕ → List ℕ
rows row i [] = []
rows row i (x ∷ xs) = row i x ++ rows row (i + 1) xs

abbrev pub shelves_text : List ℕ → List ℕ
shelves_text shelves = rows shelf_row 0 shelves

abbrev pub clients_text : List ℕ → List ℕ → List ℕ
clients_text lasts words = rows (client_row words) 0 lasts

-- a store: its shelves, then its clients
abbrev pub store_text : Store → List ℕ
store_text s = shelves_text s.shelves ++ clients_text s.lasts s.words
