-- Messages in bytes: whole, and as a head with nothing, entries or a page behind it.
use Rattle.std.specs.Prelude.{ℕ, ◌+◌, Bool, true, cond, ◌&&◌, List, ◌∷◌, ◌++◌, length, Some, None, Ok, Err, Result, ◌==◌, nat_lt}
use Rattle.std.specs.Borrow.{Bor}
use Rattle.wire.specs.Bytes.{Read, ◌then◌, four, four_bytes, one, two, two_bytes}
use Rattle.wire.specs.Several.{made}
use Rattle.wire.specs.Judged.{accepted, ended, judged}
use Rattle.wire.specs.declared.fault.Fault.{Fault}
use Rattle.wire.specs.declared.fault.Fault.TheVariants.{Malformed}
use Rattle.wire.specs.declared.judged.Judged.{Judged}
use Rattle.entries.specs.Entries.{entries_bytes, judged_of}
use Rattle.entry.specs.Members.{list_bytes, listed, members_of}
use Rattle.entry.specs.declared.entry.Entry.{Entry}
use Rattle.page.specs.Page.{page_bytes, page_of}
use Rattle.message.specs.declared.head.Message.{Message}
use Rattle.message.specs.declared.head.Message.TheVariants.{Ask, Begin, Part, Promise, Took}
use Rattle.store.specs.Store.{Store}

-- A MESSAGE WHOLE

-- term, ballot; a ballot above 0
abbrev pub ask_of : List ℕ → Read (Judged Message)
ask_of bs = two bs then λ term bs. four bs then λ ballot bs. Some (judged (Ask term ballot) (nat_lt 0 ballot), bs)

-- term, ballot, from, the log's ballot, how many entries, the entries; a station, entries in range
abbrev pub promise_of : List ℕ → Read (Judged Message)
promise_of bs =
    two bs then λ term bs. four bs then λ ballot bs. one bs then λ from bs. four bs then λ had bs. two bs then λ count bs.
    cond (nat_lt 4096 count) None
    (judged_of count bs then λ sound bs. Some (judged (Promise term ballot from had count) (sound && nat_lt from 16), bs))

-- term, ballot, place, how many entries, the entries; a ballot above 0, entries in range
abbrev pub part_of : List ℕ → Read (Judged Message)
part_of bs =
    two bs then λ term bs. four bs then λ ballot bs. two bs then λ place bs. two bs then λ count bs.
    cond (nat_lt 4096 (place + count)) None
    (judged_of count bs then λ sound bs. Some (judged (Part term ballot place count) (sound && nat_lt 0 ballot), bs))

-- term, ballot, from, how many were taken; a ballot above 0, a station
abbrev pub took_of : List ℕ → Read (Judged Message)
took_of bs =
    two bs then λ term bs. four bs then λ ballot bs. one bs then λ from bs. two bs then λ count bs.
    cond (nat_lt 4096 count) None (Some (judged (Took term ballot from count) (nat_lt 0 ballot && nat_lt from 16), bs))

-- term, members as in a close, page; a council, and a page in range
abbrev pub begin_of : List ℕ → Read (Judged Message)
begin_of bs =
    two bs then λ term bs. members_of bs then λ ms bs. page_of bs then λ p bs.
    Some (judged (Begin term ms.value p.value) (ms.sound && p.sound), bs)

-- by the kind: ask 3, promise 4, log part 5, took 6, begin 7
abbrev pub kind_of : ℕ → List ℕ → Read (Judged Message)
kind_of kind bs =
    cond (kind == 3) (ask_of bs) (cond (kind == 4) (promise_of bs) (cond (kind == 5) (part_of bs) (cond (kind == 6) (took_of bs) (cond (kind == 7) (begin_of bs) None))))

abbrev pub message_of : List ℕ → Read (Judged Message)
message_of bs = one bs then λ kind bs. kind_of kind bs

-- read to its end: its form first, then its range
abbrev pub judged_in : List ℕ → Result Message Fault
judged_in bs = ended (message_of bs)

-- THE SAME IN TWO PARTS, A HEAD AND ITS BODY: what is read goes into lent memory by the one, from the other

-- promise: term, ballot, from, the log's ballot, how many entries; a station
abbrev pub head_of_promise : List ℕ → Read (Judged Message)
head_of_promise bs =
    two bs then λ term bs. four bs then λ ballot bs. one bs then λ from bs. four bs then λ had bs. two bs then λ count bs.
    cond (nat_lt 4096 count) None (Some (judged (Promise term ballot from had count) (nat_lt from 16), bs))

-- log part: term, ballot, place, how many entries; a ballot above 0
abbrev pub head_of_part : List ℕ → Read (Judged Message)
head_of_part bs =
    two bs then λ term bs. four bs then λ ballot bs. two bs then λ place bs. two bs then λ count bs.
    cond (nat_lt 4096 (place + count)) None (Some (judged (Part term ballot place count) (nat_lt 0 ballot), bs))

-- begin: term, members as in a close; a council. Its page, the body, says first how many entries stand before
abbrev pub head_of_begin : List ℕ → Read (Judged Message)
head_of_begin bs =
    two bs then λ term bs. members_of bs then λ ms bs. four bs then λ before _.
    Some (judged (Begin term ms.value before) ms.sound, bs)

-- by the kind: ask 3, promise 4, log part 5, took 6, begin 7
abbrev pub head_of_kind : ℕ → List ℕ → Read (Judged Message)
head_of_kind kind bs =
    cond (kind == 3) (ask_of bs) (cond (kind == 4) (head_of_promise bs) (cond (kind == 5) (head_of_part bs) (cond (kind == 6) (took_of bs) (cond (kind == 7) (head_of_begin bs) None))))

abbrev pub head_of : List ℕ → Read (Judged Message)
head_of bs = one bs then λ kind bs. head_of_kind kind bs

-- the body behind a head, whether it is in range, and the bytes behind it
abbrev pub body_of : Message → List ℕ → Read Bool
body_of (Ask t b) bs = Some (true, bs)
body_of (Promise t b from had count) bs = judged_of count bs
body_of (Part t b place count) bs = judged_of count bs
body_of (Took t b from count) bs = Some (true, bs)
body_of (Begin t ms before) bs = made (λ page. page.sound) (page_of bs)

-- read to its end, its form first and then its range: the head and the body
abbrev pub ended_to : Judged Message → List ℕ → Read Bool → Result (Message × List ℕ) Fault
ended_to h body None = Err Malformed
ended_to h body (Some p) = cond (length p.1 == 0) (accepted (judged (h.value, body) (h.sound && p.0))) (Err Malformed)

abbrev pub opened_to : Read (Judged Message) → Result (Message × List ℕ) Fault
opened_to None = Err Malformed
opened_to (Some p) = ended_to p.0 p.1 (body_of p.0.value p.1)

abbrev pub opened_in : List ℕ → Result (Message × List ℕ) Fault
opened_in bs = opened_to (head_of bs)

abbrev pub seen_opened : Result (Message × Bor (List ℕ)) Fault → Result (Message × List ℕ) Fault
seen_opened (Err f) = Err f
seen_opened (Ok p) = Ok (p.0, p.1.now)

-- the head, or what is wrong with the message
abbrev pub head_in : Result (Message × List ℕ) Fault → Result Message Fault
head_in (Err f) = Err f
head_in (Ok p) = Ok p.0

-- the bytes of each
abbrev pub ask_bytes : ℕ → ℕ → List ℕ
ask_bytes term ballot = 3 ∷ (two_bytes term ++ four_bytes ballot)

abbrev pub promise_bytes : ℕ → ℕ → ℕ → ℕ → List Entry → List ℕ
promise_bytes term ballot from had es =
    (4 ∷ (two_bytes term ++ (four_bytes ballot ++ (from ∷ (four_bytes had ++ two_bytes (length es)))))) ++ entries_bytes es

abbrev pub part_bytes : ℕ → ℕ → ℕ → List Entry → List ℕ
part_bytes term ballot place es = (5 ∷ (two_bytes term ++ (four_bytes ballot ++ (two_bytes place ++ two_bytes (length es))))) ++ entries_bytes es

abbrev pub took_bytes : ℕ → ℕ → ℕ → ℕ → List ℕ
took_bytes term ballot from count = 6 ∷ (two_bytes term ++ (four_bytes ballot ++ (from ∷ two_bytes count)))

abbrev pub begin_bytes : ℕ → ℕ → ℕ → Store → List ℕ
begin_bytes term members before s = (7 ∷ (two_bytes term ++ list_bytes (listed members))) ++ page_bytes before s
