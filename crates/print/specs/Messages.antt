-- Entries and messages as text; 10 ends a line.
use Rattle.std.specs.Prelude.{ℕ, cond, List, [], ◌∷◌, ◌++◌, take, drop, codes, decimal, ◌==◌}
use Rattle.wire.specs.Several.{joined}
use Rattle.entry.specs.Members.{listed}
use Rattle.entry.specs.declared.entry.Entry.{Entry}
use Rattle.entry.specs.declared.entry.Entry.TheVariants.{Call, Close}
use Rattle.message.specs.declared.head.Message.{Message}
use Rattle.message.specs.declared.head.Message.TheVariants.{Ask, Begin, Part, Promise, Took}
use Rattle.print.specs.Rows.{rows, store_text}
use Rattle.store.specs.Store.{Store}
use Rattle.store.specs.declared.ask.Ask.{Ask as Asked}
use Rattle.store.specs.declared.ask.Ask.TheVariants.{Look, Put, Take}

-- a word in front of a number
abbrev pub field : List ℕ → ℕ → List ℕ
field name n = name ++ decimal n

-- members, with commas between them
abbrev pub member_text : ℕ → ℕ → List ℕ
member_text i m = cond (i == 0) [] (codes ",") ++ decimal m

abbrev pub members_text : ℕ → List ℕ
members_text set = rows member_text 0 (listed set)

-- what is asked
abbrev pub ask_text : Asked → List ℕ
ask_text (Put key value) = field (codes "put ") key ++ field (codes " ") value
ask_text (Take key amount) = field (codes "take ") key ++ field (codes " ") amount
ask_text (Look key) = field (codes "look ") key

-- `entry CLIENT NUMBER ..` or `entry close M,M,..`
abbrev pub entry_text : Entry → List ℕ
entry_text (Call r) = field (codes "entry ") r.client ++ (field (codes " ") r.number ++ (codes " " ++ (ask_text r.ask ++ (10 ∷ []))))
entry_text (Close ms) = codes "entry close " ++ (members_text ms ++ (10 ∷ []))

-- a message's head
abbrev pub begin_text : ℕ → ℕ → ℕ → List ℕ
begin_text t ms before = field (codes "begin term ") t ++ (codes " members " ++ (members_text ms ++ (field (codes " before ") before ++ (10 ∷ []))))

abbrev pub head_text : Message → List ℕ
head_text (Ask t b) = field (codes "ask term ") t ++ (field (codes " ballot ") b ++ (10 ∷ []))
head_text (Promise t b from had count) =
    field (codes "promise term ") t ++ (field (codes " ballot ") b ++ (field (codes " from ") from ++ (field (codes " had ") had ++ (field (codes " entries ") count ++ (10 ∷ [])))))
head_text (Part t b place count) =
    field (codes "part term ") t ++ (field (codes " ballot ") b ++ (field (codes " place ") place ++ (field (codes " entries ") count ++ (10 ∷ []))))
head_text (Took t b from count) =
    field (codes "took term ") t ++ (field (codes " ballot ") b ++ (field (codes " from ") from ++ (field (codes " entries ") count ++ (10 ∷ []))))
head_text (Begin t ms before) = begin_text t ms before

-- what stands under it: the entries that it brought into a log, or the store that it brought
abbrev pub body_text : Message → List Entry → Store → List ℕ
body_text (Ask t b) log s = []
body_text (Promise t b from had count) log s = joined entry_text (take count log)
body_text (Part t b place count) log s = joined entry_text (take count (drop place log))
body_text (Took t b from count) log s = []
body_text (Begin t ms before) log s = store_text s

-- `LINE MESSAGE`, and what stands under it
abbrev pub message_text : ℕ → Message → List Entry → Store → List ℕ
message_text line m log s = decimal line ++ (codes " " ++ (head_text m ++ body_text m log s))
