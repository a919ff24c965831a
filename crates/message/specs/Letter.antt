-- Messages as they are meant.
use Rattle.std.specs.Prelude.{ℕ, List, length}
use Rattle.entry.specs.declared.entry.Entry.{Entry}
use Rattle.message.specs.Message.{ask_bytes, begin_bytes, part_bytes, promise_bytes, took_bytes}
use Rattle.message.specs.declared.head.Message.{Message}
use Rattle.message.specs.declared.head.Message.TheVariants.{Ask, Begin, Part, Promise, Took}
use Rattle.store.specs.Store.{Store}

-- a message with what it brings: a promise its station's log, a log part its entries, a begin the store before it
pub data Letter : Type 0 where
  Asks : (term ballot : ℕ) → Letter
  Promises : (term ballot from had : ℕ) (log : List Entry) → Letter
  Parts : (term ballot place : ℕ) (entries : List Entry) → Letter
  Takes : (term ballot from count : ℕ) → Letter
  Begins : (term members before : ℕ) (store : Store) → Letter

-- its head: what stands in it besides its entries and its store
abbrev pub head_of_letter : Letter → Message
head_of_letter (Asks term ballot) = Ask term ballot
head_of_letter (Promises term ballot from had log) = Promise term ballot from had (length log)
head_of_letter (Parts term ballot place es) = Part term ballot place (length es)
head_of_letter (Takes term ballot from count) = Took term ballot from count
head_of_letter (Begins term members before s) = Begin term members before

-- its bytes, as they are written
abbrev pub letter_bytes : Letter → List ℕ
letter_bytes (Asks term ballot) = ask_bytes term ballot
letter_bytes (Promises term ballot from had log) = promise_bytes term ballot from had log
letter_bytes (Parts term ballot place es) = part_bytes term ballot place es
letter_bytes (Takes term ballot from count) = took_bytes term ballot from count
letter_bytes (Begins term members before s) = begin_bytes term members before s
