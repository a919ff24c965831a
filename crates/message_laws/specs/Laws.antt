-- Reading and writing messages fit each other.
use Rattle.std.specs.Prelude.{◌≡◌, ℕ, ◌+◌, ◌^◌, ◌<◌, ◌≤◌, true, List, ◌∷◌, ◌++◌, length, Ok, Err, Result}
use Rattle.wire.specs.Bytes.{four_bytes, two_bytes}
use Rattle.wire.specs.Exact.{Bytes}
use Rattle.wire.specs.Several.{front, joined}
use Rattle.wire.specs.declared.fault.Fault.{Fault}
use Rattle.wire.specs.declared.fault.Fault.TheVariants.{Malformed, OutOfRange}
use Rattle.entries.specs.Entries.{entries_in, laid}
use Rattle.entry.specs.Entry.{Raw, entry_of, raw_bytes}
use Rattle.entry.specs.Members.{list_bytes}
use Rattle.entry.specs.declared.entry.Entry.{Entry}
use Rattle.entry_laws.specs.Laws.{EntryFits, RawFits}
use Rattle.message.specs.Letter.{Asks, Begins, Letter, Parts, Promises, Takes, head_of_letter, letter_bytes}
use Rattle.message.specs.Loading.{has_room, log_after, read_in, store_after}
use Rattle.message.specs.Message.{judged_in, opened_in}
use Rattle.message.specs.declared.head.Message.{Message}
use Rattle.message.specs.declared.head.Message.TheVariants.{Ask, Begin, Part, Promise, Took}
use Rattle.message.specs.declared.loading.Unread.{Unread}
use Rattle.page.specs.Page.{RawPage, loaded, raw_page_bytes, raw_page_of}
use Rattle.page_laws.specs.Laws.{PagedFits, RawPageFits}
use Rattle.std.specs.List.{AllByRecursion}
use Rattle.store.specs.Store.{Store, bare}

-- Numbers that fit their fields and are in range: a ballot above 0, but in a promise any; a sender that is a station;
-- entries that fit, none of them behind the 4,096 places of a log; a council of one member at least; a store that a page can hold.
abbrev pub LetterFits : Letter → Type 0
LetterFits (Asks term ballot) = (term < 65536) × (ballot < 2 ^ 32) × (0 < ballot)
LetterFits (Promises term ballot from had log) = (term < 65536) × (ballot < 2 ^ 32) × (from < 16) × (had < 2 ^ 32) × (length log ≤ 4096) × AllByRecursion EntryFits log
LetterFits (Parts term ballot place es) = (term < 65536) × (ballot < 2 ^ 32) × (0 < ballot) × (place + length es ≤ 4096) × AllByRecursion EntryFits es
LetterFits (Takes term ballot from count) = (term < 65536) × (ballot < 2 ^ 32) × (0 < ballot) × (from < 16) × (count ≤ 4096)
LetterFits (Begins term members before s) = (term < 65536) × (0 < members) × (members < 65536) × PagedFits (record { before = before; store = s })

-- the store that a page holds
unfoldable pub store_in : List ℕ → Store
store_in bs = loaded bare (raw_page_of bs)

-- a message with what its body brings
abbrev pub letter_with : Message → List ℕ → Letter
letter_with (Ask term ballot) body = Asks term ballot
letter_with (Promise term ballot from had count) body = Promises term ballot from had (entries_in (front entry_of count body))
letter_with (Part term ballot place count) body = Parts term ballot place (entries_in (front entry_of count body))
letter_with (Took term ballot from count) body = Takes term ballot from count
letter_with (Begin term members before) body = Begins term members before (store_in body)

-- the letter that bytes are, read to their end, or what is wrong with them
abbrev pub letter_to : Result (Message × List ℕ) Fault → Result Letter Fault
letter_to (Err f) = Err f
letter_to (Ok p) = Ok (letter_with p.0 p.1)

abbrev pub letter_in : List ℕ → Result Letter Fault
letter_in bs = letter_to (opened_in bs)

-- Every letter is read back as it was written, and is accepted in one form only: the bytes that are written of it.
-- A message is read to its last byte, so nothing stands behind it.
pub record Letters : Type 0 where
  pub back : (l : Letter) → LetterFits l → letter_in (letter_bytes l) ≡ Ok l
  pub only : (bs : List ℕ) (l : Letter) → Bytes bs → letter_in bs ≡ Ok l → LetterFits l × (bs ≡ letter_bytes l)

-- what a letter makes of a log and of a store: its entries laid in, its store in place of the other
abbrev pub log_from : Letter → List Entry → List Entry
log_from (Asks term ballot) log = log
log_from (Promises term ballot from had es) log = laid 0 es log
log_from (Parts term ballot place es) log = laid place es log
log_from (Takes term ballot from count) log = log
log_from (Begins term members before held) log = log

abbrev pub store_from : Letter → Store → Store
store_from (Asks term ballot) s = s
store_from (Promises term ballot from had es) s = s
store_from (Parts term ballot place es) s = s
store_from (Takes term ballot from count) s = s
store_from (Begins term members before held) s = held

-- The bytes of a letter, read into a log and a store that have room for what it brings, give its head, and leave there what it brings.
-- Bytes that are refused, or find no room, leave the log and the store as they were.
pub record Reads : Type 0 where
  pub head : (l : Letter) (log : List Entry) (s : Store) → LetterFits l → has_room (head_of_letter l) log s ≡ true → read_in (letter_bytes l) log s ≡ Ok (head_of_letter l)
  pub log : (l : Letter) (log : List Entry) (s : Store) → LetterFits l → has_room (head_of_letter l) log s ≡ true → log_after (letter_bytes l) log s ≡ log_from l log
  pub store : (l : Letter) (log : List Entry) (s : Store) → LetterFits l → has_room (head_of_letter l) log s ≡ true → store_after (letter_bytes l) log s ≡ store_from l s
  pub kept : (bs : List ℕ) (log : List Entry) (s : Store) (why : Unread) → read_in bs log s ≡ Err why → (log_after bs log s ≡ log) × (store_after bs log s ≡ s)

-- a letter as it stands in bytes, in range or not: entries and pages as they stand there, and a list of members, which need be no council
pub data RawLetter : Type 0 where
  RawAsks : (term ballot : ℕ) → RawLetter
  RawPromises : (term ballot from had : ℕ) (log : List Raw) → RawLetter
  RawParts : (term ballot place : ℕ) (entries : List Raw) → RawLetter
  RawTakes : (term ballot from count : ℕ) → RawLetter
  RawBegins : (term : ℕ) (members : List ℕ) (page : RawPage) → RawLetter

abbrev pub raw_letter_bytes : RawLetter → List ℕ
raw_letter_bytes (RawAsks term ballot) = 3 ∷ (two_bytes term ++ four_bytes ballot)
raw_letter_bytes (RawPromises term ballot from had log) =
    (4 ∷ (two_bytes term ++ (four_bytes ballot ++ (from ∷ (four_bytes had ++ two_bytes (length log)))))) ++ joined raw_bytes log
raw_letter_bytes (RawParts term ballot place es) = (5 ∷ (two_bytes term ++ (four_bytes ballot ++ (two_bytes place ++ two_bytes (length es))))) ++ joined raw_bytes es
raw_letter_bytes (RawTakes term ballot from count) = 6 ∷ (two_bytes term ++ (four_bytes ballot ++ (from ∷ two_bytes count)))
raw_letter_bytes (RawBegins term members page) = (7 ∷ (two_bytes term ++ list_bytes members)) ++ raw_page_bytes page

-- numbers that fit their fields, and counts up to their limits
abbrev pub RawLetterFits : RawLetter → Type 0
RawLetterFits (RawAsks term ballot) = (term < 65536) × (ballot < 2 ^ 32)
RawLetterFits (RawPromises term ballot from had log) = (term < 65536) × (ballot < 2 ^ 32) × (from < 256) × (had < 2 ^ 32) × (length log ≤ 4096) × AllByRecursion RawFits log
RawLetterFits (RawParts term ballot place es) = (term < 65536) × (ballot < 2 ^ 32) × (place + length es ≤ 4096) × AllByRecursion RawFits es
RawLetterFits (RawTakes term ballot from count) = (term < 65536) × (ballot < 2 ^ 32) × (from < 256) × (count ≤ 4096)
RawLetterFits (RawBegins term members page) = (term < 65536) × (length members ≤ 16) × Bytes members × RawPageFits page

-- the bytes of a message, in range or not; the bytes of one that is in range
abbrev pub HasForm : List ℕ → Type 0
HasForm bs = (w : RawLetter) × RawLetterFits w × (bs ≡ raw_letter_bytes w)

abbrev pub IsLetter : List ℕ → Type 0
IsLetter bs = (l : Letter) × LetterFits l × (bs ≡ letter_bytes l)

-- Malformed are just those bytes that no message has, in range or not; out of range just those that have the form of a message
-- and are none that is in range; all others are the bytes of a letter, with the head that was found.
pub record Refusals : Type 0 where
  pub malformed : (bs : List ℕ) → Bytes bs → judged_in bs ≡ Err Malformed → HasForm bs → ⊥
  pub out_of_range : (bs : List ℕ) → Bytes bs → judged_in bs ≡ Err OutOfRange → HasForm bs × (IsLetter bs → ⊥)
  pub accepted : (bs : List ℕ) (m : Message) → Bytes bs → judged_in bs ≡ Ok m → (l : Letter) × LetterFits l × (head_of_letter l ≡ m) × (bs ≡ letter_bytes l)
  -- a letter has the form as well, so the three exclude each other
  pub formed : (bs : List ℕ) → IsLetter bs → HasForm bs
