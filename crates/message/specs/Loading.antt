-- A message read: its entries into a log, its page into the tables of a store.
use Rattle.std.specs.Prelude.{ℕ, ◌+◌, Bool, true, cond, List, length, Ok, Err, Result, nat_le}
use Rattle.wire.specs.Several.{front}
use Rattle.wire.specs.declared.fault.Fault.{Fault}
use Rattle.entries.specs.Entries.{entries_in, laid}
use Rattle.entry.specs.Entry.{entry_of}
use Rattle.entry.specs.declared.entry.Entry.{Entry}
use Rattle.message.specs.Message.{opened_in}
use Rattle.message.specs.declared.head.Message.{Message}
use Rattle.message.specs.declared.head.Message.TheVariants.{Ask, Begin, Part, Promise, Took}
use Rattle.message.specs.declared.loading.Unread.{Unread}
use Rattle.message.specs.declared.loading.Unread.TheVariants.{NoRoom, Refused}
use Rattle.page.specs.Page.{loaded, raw_page_of}
use Rattle.store.specs.Store.{Store, whole}

-- whether a log and a store have room for what a message brings
abbrev pub has_room : Message → List Entry → Store → Bool
has_room (Ask t b) log s = true
has_room (Promise t b from had count) log s = nat_le count (length log)
has_room (Part t b place count) log s = nat_le (place + count) (length log)
has_room (Took t b from count) log s = true
has_room (Begin t ms before) log s = whole s

-- the log with the entries of a body: a promise's from its first place on, a part's from that part's place on
abbrev pub log_with : Message → List ℕ → List Entry → List Entry
log_with (Ask t b) body log = log
log_with (Promise t b from had count) body log = laid 0 (entries_in (front entry_of count body)) log
log_with (Part t b place count) body log = laid place (entries_in (front entry_of count body)) log
log_with (Took t b from count) body log = log
log_with (Begin t ms before) body log = log

-- the store that a begin's page holds
abbrev pub store_with : Message → List ℕ → Store → Store
store_with (Ask t b) body s = s
store_with (Promise t b from had count) body s = s
store_with (Part t b place count) body s = s
store_with (Took t b from count) body s = s
store_with (Begin t ms before) body s = loaded s (raw_page_of body)

-- the head, or why the message was not read: what is wrong with it, or no room for it
abbrev pub read_to : Result (Message × List ℕ) Fault → List Entry → Store → Result Message Unread
read_to (Err f) log s = Err (Refused f)
read_to (Ok p) log s = cond (has_room p.0 log s) (Ok p.0) (Err NoRoom)

-- the log and the store afterwards: as they were, if it was not read
abbrev pub log_to : Result (Message × List ℕ) Fault → List Entry → Store → List Entry
log_to (Err f) log s = log
log_to (Ok p) log s = cond (has_room p.0 log s) (log_with p.0 p.1 log) log

abbrev pub store_to : Result (Message × List ℕ) Fault → List Entry → Store → Store
store_to (Err f) log s = s
store_to (Ok p) log s = cond (has_room p.0 log s) (store_with p.0 p.1 s) s

abbrev pub read_in : List ℕ → List Entry → Store → Result Message Unread
read_in bs log s = read_to (opened_in bs) log s

abbrev pub log_after : List ℕ → List Entry → Store → List Entry
log_after bs log s = log_to (opened_in bs) log s

abbrev pub store_after : List ℕ → List Entry → Store → Store
store_after bs log s = store_to (opened_in bs) log s
