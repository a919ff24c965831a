-- Entries one behind the other, in bytes and in a log.
use Rattle.std.specs.Prelude.{ℕ, ◌+◌, Bool, true, cond, ◌&&◌, List, ◌++◌, map, length, take, drop, Some, None, Option, nat_lt}
use Rattle.wire.specs.Bytes.{Read}
use Rattle.wire.specs.Several.{after, front, joined, made, rest_of, several}
use Rattle.wire.specs.declared.judged.Judged.{Judged}
use Rattle.entry.specs.Entry.{entry_bytes, entry_of}
use Rattle.entry.specs.declared.entry.Entry.{Entry}

-- n entries as they are found, in range or not
abbrev pub found_of : ℕ → List ℕ → Read (List (Judged Entry))
found_of n bs = several entry_of n bs

abbrev pub entries_in : List (Judged Entry) → List Entry
entries_in fs = map (λ f. f.value) fs

-- whether one more is in range too
abbrev pub sound_too : Bool → Judged Entry → Bool
sound_too ok f = ok && f.sound

-- n entries: whether all are in range
abbrev pub judged_of : ℕ → List ℕ → Read Bool
judged_of n bs = made (after sound_too true) (found_of n bs)

-- a log with entries laid into it from a place on: the first ones stay, and so do those behind the last
abbrev pub laid : ℕ → List Entry → List Entry → List Entry
laid place es log = take place log ++ (es ++ drop (place + length es) log)

-- something of a log that has room for n entries, else another
abbrev pub roomy : {A : Type 0} → ℕ → List Entry → A → A → A
roomy n log fits other = cond (nat_lt (length log) n) other fits

-- a log with n entries read into it from its first place on: as it was, if it is too short or they aren't there
abbrev pub log_of : Read (List (Judged Entry)) → List Entry → List Entry
log_of None log = log
log_of (Some p) log = laid 0 (entries_in p.0) log

abbrev pub read_into : ℕ → List Entry → List ℕ → List Entry
read_into n log bs = roomy n log (log_of (found_of n bs) log) log

-- the same, with those that there are where they aren't all there
abbrev pub loaded_into : ℕ → List Entry → List ℕ → List Entry
loaded_into n log bs = roomy n log (laid 0 (entries_in (front entry_of n bs)) log) log

-- the bytes behind them, if the log has room and all are there
abbrev pub read_rest : ℕ → List Entry → List ℕ → Option (List ℕ)
read_rest n log bs = roomy n log (rest_of (found_of n bs)) None

-- the bytes of some entries
abbrev pub entries_bytes : List Entry → List ℕ
entries_bytes es = joined entry_bytes es

-- something where n entries fit into a log, else another
abbrev pub fitting : {A : Type 0} → ℕ → A → A → A
fitting n fits other = cond (nat_lt 4096 n) other fits
