-- What requests make of a store: its tables, one request, a list of requests.
-- Nothing here looks at the kind of a request: it is asked for its shelf, what it leaves there and its word.
use Rattle.std.specs.Prelude.{ℕ, ◌+◌, Bool, cond, not, ◌&&◌, List, [], ◌∷◌, length, replicate, is_ok, Ok, Err, Result, ◌==◌, nat_lt, slice_index, slice_set}
use Rattle.store.specs.declared.refusal.Refusal.{Refusal}
use Rattle.store.specs.declared.refusal.Refusal.TheVariants.{Tables, Key, NotNext}
use Rattle.store.specs.declared.request.Request.{Request}
use Rattle.store.specs.Ask.{key_of, leaves, says}

-- shelves: what each holds; lasts: of each client, the number of its last request that was done; words: the word that one got
pub record Store : Type 0 where
  pub shelves : List ℕ
  pub lasts : List ℕ
  pub words : List ℕ

abbrev pub tables : List ℕ → List ℕ → List ℕ → Store
tables shelves lasts words = record { shelves = shelves; lasts = lasts; words = words }

-- as a register begins
abbrev pub bare : Store
bare = tables (replicate 1024 0) (replicate 256 0) (replicate 256 0)

-- the same tables, each word 0
abbrev pub cleared : Store → Store
cleared s = tables (replicate (length s.shelves) 0) (replicate (length s.lasts) 0) (replicate (length s.words) 0)

-- the tables have a place for each of the 1,024 shelves and the 256 clients, and no more
abbrev pub whole : Store → Bool
whole s = length s.shelves == 1024 && (length s.lasts == 256 && length s.words == 256)

-- what a shelf holds; the number of a client's last request; the word that this one got
abbrev pub shelf : Store → ℕ → ℕ
shelf s k = slice_index s.shelves k

abbrev pub last : Store → ℕ → ℕ
last s c = slice_index s.lasts c

abbrev pub word : Store → ℕ → ℕ
word s c = slice_index s.words c

-- the client is one of the 256, and counts on by one
abbrev pub is_next : Request → Store → Bool
is_next r s = nat_lt r.client 256 && r.number == last s r.client + 1

-- the word that a request gets, or why it is refused
abbrev pub outcome : Request → Store → Result ℕ Refusal
outcome r s =
    cond (not (whole s)) (Err Tables)
    (cond (nat_lt 1023 (key_of r.ask)) (Err Key)
    (cond (not (is_next r s)) (Err NotNext)
    (Ok (says r.ask (shelf s (key_of r.ask))))))

-- a request is done, or changes nothing
abbrev pub done : Request → Store → Bool
done r s = is_ok (outcome r s)

abbrev pub applied : Request → Store → Store
applied r s =
    cond (done r s)
    (tables (slice_set s.shelves (key_of r.ask) (leaves r.ask (shelf s (key_of r.ask))))
    (slice_set s.lasts r.client r.number)
    (slice_set s.words r.client (says r.ask (shelf s (key_of r.ask)))))
    s

-- one after the other
abbrev pub played : Store → List Request → Store
played s [] = s
played s (r ∷ rs) = played (applied r s) rs

-- how many of them are done
abbrev pub counted : Request → Store → ℕ
counted r s = cond (done r s) 1 0

abbrev pub tally : Store → List Request → ℕ
tally s [] = 0
tally s (r ∷ rs) = counted r s + tally (applied r s) rs

-- that number, or why all are refused
abbrev pub totalled : Store → List Request → Result ℕ Refusal
totalled s rs = cond (whole s) (Ok (tally s rs)) (Err Tables)
