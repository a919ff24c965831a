-- Lent memory: what fits it, and what stands in it after a step.
use Rattle.std.specs.Prelude.{ℕ, Bool, cond, not, ◌&&◌, List, length, take, Ok, Err, Result, nat_le}
use Rattle.entries.specs.Entries.{laid}
use Rattle.entry.specs.declared.entry.Entry.{Entry}
use Rattle.steps.specs.Heads.{counts_from, counts_itself, give_head, hear_head, is_better, lead_head, propose_head}
use Rattle.steps.specs.declared.head.Head.{Head}
use Rattle.steps.specs.declared.refusal.Refusal.{Refusal}
use Rattle.steps.specs.declared.refusal.Refusal.TheVariants.{Memory}

-- a log of n places has the station's entries
abbrev pub fits_log : Head → ℕ → Bool
fits_log h n = nat_le h.sure h.len && nat_le h.len n

-- and another of m places has room for them
abbrev pub fits_copy : Head → ℕ → ℕ → Bool
fits_copy h n m = fits_log h n && nat_le h.len m

-- a best log of m places has the entries that were promised, and the log has room for them
abbrev pub fits_best : Head → ℕ → ℕ → Bool
fits_best h n m = fits_log h n && (nat_le h.best m && nat_le h.best n)

-- a log of n places has room for all that a log can have
abbrev pub fits_more : Head → ℕ → Bool
fits_more h n = fits_log h n && nat_le 4096 n

-- k entries that come fit a best log of m places, and a head
abbrev pub fits_heard : ℕ → ℕ → Bool
fits_heard k m = nat_le k m && nat_le k 65535

-- a step that is refused where the lent memory doesn't fit
abbrev pub fitting : Bool → Result Head Refusal → Result Head Refusal
fitting fits r = cond (not fits) (Err Memory) r

-- lent memory after a step: as it was, if the step is refused
abbrev pub only_done : Result Head Refusal → List Entry → List Entry → List Entry
only_done (Ok u) next was = next
only_done (Err r) next was = was

-- the first n entries of a log copied over another
abbrev pub copied : ℕ → List Entry → List Entry → List Entry
copied n from to = laid 0 (take n from) to

-- promising, and the best log then: the station's own, if its promise counts and its log is better
abbrev pub given_in : ℕ → ℕ → List Entry → List Entry → Head → Result Head Refusal
given_in t b log best h = fitting (fits_copy h (length log) (length best)) (give_head t b h)

abbrev pub best_given : ℕ → List Entry → List Entry → Head → List Entry
best_given b log best h = cond (counts_itself b h && is_better h.ballot h.len h) (copied h.len log best) best

-- hearing a promise, and the best log then: the one promised, if it counts and is better
abbrev pub heard_in : ℕ → ℕ → ℕ → ℕ → List Entry → List Entry → Head → Result Head Refusal
heard_in t b from had es best h = fitting (fits_heard (length es) (length best)) (hear_head t b from had (length es) h)

abbrev pub best_heard : ℕ → ℕ → List Entry → List Entry → Head → List Entry
best_heard from had es best h = cond (counts_from from h && is_better had (length es) h) (laid 0 es best) best

-- leading
abbrev pub led_in : List Entry → List Entry → Head → Result Head Refusal
led_in best log h = fitting (fits_best h (length log) (length best)) (lead_head (take h.best best) log h)

-- proposing
abbrev pub proposed_in : Entry → List Entry → Head → Result Head Refusal
proposed_in e log h = fitting (fits_more h (length log)) (propose_head e log h)
