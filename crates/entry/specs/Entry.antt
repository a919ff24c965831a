-- Entries of a log as bytes.
use Rattle.std.specs.Prelude.{ℕ, cond, List, ◌∷◌, ◌++◌, Some, None, ◌==◌, nat_lt}
use Rattle.wire.specs.Bytes.{Read, ◌then◌, four, four_bytes, one, two, two_bytes}
use Rattle.entry.specs.Members.{list_bytes, list_of, listed, members_in}
use Rattle.entry.specs.declared.entry.Entry.{Entry}
use Rattle.entry.specs.declared.entry.Entry.TheVariants.{Call, Close}
use Rattle.wire.specs.Judged.{judged}
use Rattle.wire.specs.declared.judged.Judged.{Judged}
use Rattle.store.specs.Ask.{key_of}
use Rattle.store.specs.declared.ask.Ask.{Ask}
use Rattle.store.specs.declared.ask.Ask.TheVariants.{Put, Take, Look}
use Rattle.store.specs.declared.request.Request.{Request}

-- what is asked: put 1, take 2, look 3; the key; and, but for look, the value or amount
abbrev pub ask_of : List ℕ → Read Ask
ask_of bs =
    one bs then λ kind bs. two bs then λ key bs.
    cond (kind == 1) (four bs then λ value bs. Some (Put key value, bs))
    (cond (kind == 2) (four bs then λ amount bs. Some (Take key amount, bs))
    (cond (kind == 3) (Some (Look key, bs)) None))

-- a request: client, number, what is asked
abbrev pub request_of : List ℕ → Read Request
request_of bs =
    one bs then λ client bs. four bs then λ number bs. ask_of bs then λ ask bs.
    Some (record { client = client; number = number; ask = ask }, bs)

-- an entry as it stands in bytes: 1 and a request, or 2 and a list of members, which need be no council
pub data Raw : Type 0 where
  Asks : Request → Raw
  Names : List ℕ → Raw

abbrev pub raw_of : List ℕ → Read Raw
raw_of bs =
    one bs then λ kind bs.
    cond (kind == 1) (request_of bs then λ r bs. Some (Asks r, bs))
    (cond (kind == 2) (list_of bs then λ ms bs. Some (Names ms, bs)) None)

-- the entry that it is, and whether all of it is in range: a key up to 1,023, members that are a council
abbrev pub found_in : Raw → Judged Entry
found_in (Asks r) = judged (Call r) (nat_lt (key_of r.ask) 1024)
found_in (Names ms) = judged (Close (members_in ms).value) (members_in ms).sound

abbrev pub entry_of : List ℕ → Read (Judged Entry)
entry_of bs = raw_of bs then λ raw bs. Some (found_in raw, bs)

-- the bytes of what is asked, of a request, of an entry
abbrev pub ask_bytes : Ask → List ℕ
ask_bytes (Put key value) = 1 ∷ (two_bytes key ++ four_bytes value)
ask_bytes (Take key amount) = 2 ∷ (two_bytes key ++ four_bytes amount)
ask_bytes (Look key) = 3 ∷ two_bytes key

abbrev pub request_bytes : Request → List ℕ
request_bytes r = r.client ∷ (four_bytes r.number ++ ask_bytes r.ask)

abbrev pub call_bytes : Request → List ℕ
call_bytes r = 1 ∷ request_bytes r

abbrev pub close_bytes : ℕ → List ℕ
close_bytes s = 2 ∷ list_bytes (listed s)

abbrev pub entry_bytes : Entry → List ℕ
entry_bytes (Call r) = call_bytes r
entry_bytes (Close s) = close_bytes s

abbrev pub raw_bytes : Raw → List ℕ
raw_bytes (Asks r) = call_bytes r
raw_bytes (Names ms) = 2 ∷ list_bytes ms
