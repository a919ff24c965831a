-- `read HEX`: what it prints of a message.
use Rattle.std.specs.Prelude.{ℕ, Bool, cond, List, replicate, Some, None, Ok, Err, codes, Option, Result}
use Rattle.wire.specs.Fault.{number_of}
use Rattle.wire.specs.declared.fault.Fault.{Fault}
use Rattle.wire.specs.declared.fault.Fault.TheVariants.{Malformed}
use Rattle.command.specs.Command.{ended}
use Rattle.entry.specs.declared.entry.Entry.{Entry}
use Rattle.entry.specs.declared.entry.Entry.TheVariants.{Close}
use Rattle.hexes.specs.Hex.{hex_of}
use Rattle.message.specs.Loading.{log_with, store_with}
use Rattle.message.specs.Message.{opened_in}
use Rattle.message.specs.declared.head.Message.{Message}
use Rattle.print.specs.Answer.{line_text}
use Rattle.print.specs.Messages.{message_text}
use Rattle.print.specs.declared.answer.Answer.TheVariants.{Refused}
use Rattle.std.specs.Str.{bytes_eq}
use Rattle.store.specs.Store.{bare}
use Rattle.text.specs.Text.{after_word, first_word}

-- a log with nothing in it yet
unfoldable pub blank : List Entry
blank = replicate 4096 (Close 0)

-- a fault's number
abbrev pub fault_text : ℕ → Fault → List ℕ
fault_text n f = line_text n (Refused (number_of f))

-- the message with what it brings, or what is wrong with it
abbrev pub opened_text : ℕ → Result (Message × List ℕ) Fault → List ℕ
opened_text n (Err f) = fault_text n f
opened_text n (Ok p) = message_text n p.0 (log_with p.0 p.1 blank) (store_with p.0 p.1 bare)

abbrev pub read_text : ℕ → List ℕ → List ℕ
read_text n bs = opened_text n (opened_in bs)

-- bytes, if the word writes some
abbrev pub hex_text : ℕ → Option (List ℕ) → List ℕ
hex_text n None = fault_text n Malformed
hex_text n (Some bs) = read_text n bs

-- the words behind `read`: one, and no other
abbrev pub read_line : ℕ → List ℕ → List ℕ
read_line n text = cond (ended (after_word text)) (hex_text n (hex_of (first_word text))) (fault_text n Malformed)

-- whether a line's first word is `read`
abbrev pub is_read : List ℕ → Bool
is_read line = bytes_eq (first_word line) (codes "read")
