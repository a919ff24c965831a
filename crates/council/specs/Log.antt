-- Logs, and what the entries in them do to councils and stores.
use Rattle.std.specs.Prelude.{◌≡◌, ◌<◌, Bool, true, false, ◌||◌, ◌⊎◌, List, [], ◌∷◌, ◌++◌, length, is_some, Some, None, Option}
use Rattle.council.specs.Quorum.{Members, Sound}
use Rattle.entry.specs.declared.entry.Entry.{Entry}
use Rattle.entry.specs.declared.entry.Entry.TheVariants.{Call, Close}
use Rattle.store.specs.Store.{Store, bare, played}
use Rattle.store.specs.declared.request.Request.{Request}

-- The council that an entry closes to, if it is a close. The rules and their proofs look at entries only through this.
abbrev pub closes_to : Entry → Option Members
closes_to (Call r) = None
closes_to (Close ms) = Some ms

pub record Closes (e : Entry) (ms : Members) : Type 0 where
  pub to : closes_to e ≡ Some ms

abbrev pub is_close : Entry → Bool
is_close e = is_some (closes_to e)

-- whether a log has a close in it
unfoldable pub closed : List Entry → Bool
closed [] = false
closed (e ∷ es) = is_close e || closed es

-- an entry may follow a log that has no close; the last of 4,096 places is for a close; a close names a council
pub record Follows (l : List Entry) (e : Entry) : Type 0 where
  pub unclosed : closed l ≡ false
  pub room : (length l < 4095) ⊎ ((length l ≡ 4095) × (is_close e ≡ true))
  pub council : (ms : Members) → Closes e ms → Sound ms

-- a is a beginning of b
pub record Prefix (a b : List Entry) : Type 0 where
  pub rest : List Entry
  pub is : b ≡ a ++ rest

-- one of two is a beginning of the other
abbrev pub Line : List Entry → List Entry → Type 0
Line a b = Prefix a b ⊎ Prefix b a

-- the requests in a log, and the store that they make
unfoldable pub requests_in : List Entry → List Request
requests_in [] = []
requests_in (Call r ∷ es) = r ∷ requests_in es
requests_in (Close ms ∷ es) = requests_in es

abbrev pub made : List Entry → Store
made es = played bare (requests_in es)
