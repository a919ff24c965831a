-- What reading a message gave, and what is printed of it.
use Rattle.std.proofs.Common.{◌≡◌, ℕ, Bool, true, false, cond, List, length, Ok, Err, Result, sym, refl, ap, ◌∙◌}
use Rattle.wire.specs.declared.fault.Fault.{Fault}
use Rattle.entry.specs.declared.entry.Entry.{Entry}
use Rattle.message.proofs.Limits.{always_room}
use Rattle.message.specs.Loading.{has_room, log_after, log_to, log_with, read_in, read_to, store_after, store_to, store_with}
use Rattle.message.specs.Message.{opened_in}
use Rattle.message.specs.declared.head.Message.{Message}
use Rattle.message.specs.declared.loading.Unread.TheVariants.{NoRoom, Refused}
use Rattle.print.specs.Messages.{message_text}
use Rattle.script.specs.Reading.{fault_text}
use Rattle.store.specs.Store.{Store, whole}

-- what is printed, whatever memory was lent
abbrev pub shown_with : ℕ → List Entry → Store → Result (Message × List ℕ) Fault → List ℕ
shown_with n log s (Err f) = fault_text n f
shown_with n log s (Ok p) = message_text n p.0 (log_with p.0 p.1 log) (store_with p.0 p.1 s)

at_ok : (n : ℕ) (b : Bool) (m k : Message) (l was : List Entry) (t s : Store) → cond b (Ok m) (Err NoRoom) ≡ Ok k → message_text n k (cond b l was) (cond b t s) ≡ message_text n m l t
at_ok n true m k l was t s e = cc
at_ok n false m k l was t s e = cc

read_ok : (n : ℕ) (o : Result (Message × List ℕ) Fault) (log : List Entry) (s : Store) (k : Message) → read_to o log s ≡ Ok k → message_text n k (log_to o log s) (store_to o log s) ≡ shown_with n log s o
read_ok n (Err f) log s k e = cc
read_ok n (Ok p) log s k e = at_ok n (has_room p.0 log s) p.0 k (log_with p.0 p.1 log) log (store_with p.0 p.1 s) s e

pub shown_ok : (n : ℕ) (bs : List ℕ) (log last : List Entry) (s t : Store) (k : Message) → Ok k ≡ read_in bs log s → last ≡ log_after bs log s → t ≡ store_after bs log s → message_text n k last t ≡ shown_with n log s (opened_in bs)
shown_ok n bs log last s t k e f g = ap (λ (l : List Entry). message_text n k l t) f ∙ ap (message_text n k (log_after bs log s)) g ∙ read_ok n (opened_in bs) log s k (sym e)

at_refused : (n : ℕ) (b : Bool) (m : Message) (f : Fault) (text : List ℕ) → cond b (Ok m) (Err NoRoom) ≡ Err (Refused f) → fault_text n f ≡ text
at_refused n true m f text e = cc
at_refused n false m f text e = cc

refused_is : (n : ℕ) (o : Result (Message × List ℕ) Fault) (log : List Entry) (s : Store) (f : Fault) → read_to o log s ≡ Err (Refused f) → fault_text n f ≡ shown_with n log s o
refused_is n (Err g) log s f e = cc
refused_is n (Ok p) log s f e = at_refused n (has_room p.0 log s) p.0 f _ e

pub shown_refused : (n : ℕ) (bs : List ℕ) (log : List Entry) (s : Store) (f : Fault) → Err (Refused f) ≡ read_in bs log s → fault_text n f ≡ shown_with n log s (opened_in bs)
shown_refused n bs log s f e = refused_is n (opened_in bs) log s f (sym e)

no_room_at : (o : Result (Message × List ℕ) Fault) (log : List Entry) (s : Store) → ((m : Message) (body : List ℕ) → o ≡ Ok (m, body) → has_room m log s ≡ true) → Err NoRoom ≡ read_to o log s → ⊥
no_room_at (Err f) log s h e = cc
no_room_at (Ok p) log s h e = cc (h p.0 p.1 refl)

pub never : (bs : List ℕ) (log : List Entry) (s : Store) → length log ≡ 4096 → whole s ≡ true → Err NoRoom ≡ read_in bs log s → ⊥
never bs log s long is e = no_room_at (opened_in bs) log s (λ m body o. always_room bs m body log s o long is) e
