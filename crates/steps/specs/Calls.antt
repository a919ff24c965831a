-- Taking, deciding and councils on lent memory: what has to fit, and what stands in it afterwards.
use Rattle.std.specs.Prelude.{ℕ, ◌+◌, Bool, cond, ◌&&◌, ◌||◌, List, length, Ok, Err, Result, nat_le}
use Rattle.council.specs.Log.{requests_in}
use Rattle.entry.specs.declared.entry.Entry.{Entry}
use Rattle.entry.specs.declared.entry.Entry.TheVariants.{Call, Close}
use Rattle.steps.specs.Heads.{begin_head, close_head, decide_head, take_head}
use Rattle.steps.specs.Memory.{fits_log, fitting}
use Rattle.steps.specs.Steps.{answers, fresh}
use Rattle.steps.specs.declared.head.Head.{Head}
use Rattle.steps.specs.declared.refusal.Refusal.{Refusal}
use Rattle.steps.specs.declared.refusal.Refusal.TheVariants.{Memory}
use Rattle.store.specs.Store.{Store, applied, played, whole}

-- a log of `places` has room for n entries from place p on, and so has the longest log
abbrev pub fits_part : ℕ → ℕ → ℕ → Head → Bool
fits_part p n places h = fits_log h places && (nat_le (p + n) 4096 && nat_le (p + n) places)

abbrev pub taken_in : ℕ → ℕ → ℕ → List Entry → List Entry → Head → Result Head Refusal
taken_in t b p es log h = fitting (fits_part p (length es) (length log) h) (take_head t b p es log h)

-- one entry done on a store: a close does nothing
abbrev pub acted : Entry → Store → Store
acted (Call r) s = applied r s
acted (Close ms) s = s

abbrev pub decided_in : ℕ → List Entry → Store → Head → Result Head Refusal
decided_in k log live h = fitting (fits_log h (length log) && whole live) (decide_head k h)

-- the store after a decision, or as it was
abbrev pub live_after : Result Head Refusal → List Entry → Head → Store → Store
live_after (Ok u) log h live = played live (requests_in (fresh h u log))
live_after (Err x) log h live = live

-- the word for a client's last request, from tables that have a place for the client
abbrev pub answered : ℕ → ℕ → Store → Result ℕ Refusal
answered c n s = cond (nat_le (length s.lasts) c || nat_le (length s.words) c) (Err Memory) (answers c n s)

abbrev pub closed_in : List Entry → Store → Store → Head → Result Head Refusal
closed_in log base live h = fitting (fits_log h (length log) && (whole base && whole live)) (close_head log h)

abbrev pub begun_in : ℕ → ℕ → ℕ → Store → Store → Store → Head → Result Head Refusal
begun_in t members before page base live h = fitting (whole page && (whole base && whole live)) (begin_head t members before h)

-- another store if the step is done, or as it was
abbrev pub store_after : Result Head Refusal → Store → Store → Store
store_after (Ok u) next was = next
store_after (Err x) next was = was
