-- A letter read into a log and a store.
use Rattle.std.proofs.Common.{◌≡◌, ℕ, Bool, true, false, cond, ◌&&◌, eqb, List, length, Some, None, Ok, Err, Result, sym, refl, ap, ◌∙◌, subst}
use Rattle.wire.proofs.Exacts.{split}
use Rattle.wire.specs.Bytes.{Read}
use Rattle.wire.specs.declared.fault.Fault.{Fault}
use Rattle.wire.specs.declared.fault.Fault.TheVariants.{Malformed, OutOfRange}
use Rattle.entry.specs.declared.entry.Entry.{Entry}
use Rattle.message.specs.Loading.{has_room, log_to, log_with, read_to, store_to, store_with}
use Rattle.message.specs.Message.{body_of, ended_to, head_of, opened_in, opened_to}
use Rattle.wire.specs.declared.judged.Judged.{Judged}
use Rattle.message.specs.declared.head.Message.{Message}
use Rattle.message.specs.declared.head.Message.TheVariants.{Ask, Begin, Part, Promise, Took}
use Rattle.message.specs.declared.loading.Unread.{Unread}
use Rattle.message.specs.declared.loading.Unread.TheVariants.{NoRoom}
use Rattle.message_laws.proofs.Letters.{letter_read}
use Rattle.message_laws.proofs.Opening.{store_is, with_letter}
use Rattle.message.specs.Letter.{Letter, head_of_letter, letter_bytes}
use Rattle.message_laws.specs.Laws.{LetterFits, Reads, letter_with, log_from, store_from}
use Rattle.page.specs.Page.{RawPage, loaded, page_of, raw_page_of}
use Rattle.page_laws.proofs.Loading.{loads}
use Rattle.std.proofs.lemmas.Bool.{cond-true}
use Rattle.store.specs.Store.{Store}

-- a message that is accepted has a body that was read
pub record BodyRead (m : Message) (body : List ℕ) : Type 0 where
  pub read : Bool × List ℕ
  pub is : body_of m body ≡ Some read

ended_as : (e ok : Bool) (p q : Message × List ℕ) → cond {A = Result (Message × List ℕ) Fault} e (cond ok (Ok p) (Err OutOfRange)) (Err Malformed) ≡ Ok q → p ≡ q
ended_as true true p q e = cc
ended_as true false p q e = cc
ended_as false ok p q e = cc

ended_read : (j : Judged Message) (body : List ℕ) (o : Read Bool) (q : Message × List ℕ) → body_of j.value body ≡ o → ended_to j body o ≡ Ok q → BodyRead q.0 q.1
ended_read j body None q i e = cc
ended_read j body (Some p) q i e =
    subst (λ (r : Message × List ℕ). BodyRead r.0 r.1) (ended_as (eqb (length p.1) 0) (j.sound && p.0) (j.value, body) q e) (record { read = p; is = i })

body_read : (o : Read (Judged Message)) (q : Message × List ℕ) → opened_to o ≡ Ok q → BodyRead q.0 q.1
body_read None q e = cc
body_read (Some p) q e = ended_read p.0 p.1 (body_of p.0.value p.1) q refl e

-- the log and the store that a message with its body leaves are those of its letter
log_is : (m : Message) (body : List ℕ) (log : List Entry) → log_with m body log ≡ log_from (letter_with m body) log
log_is (Ask t b) body log = refl
log_is (Promise t b from had count) body log = refl
log_is (Part t b place count) body log = refl
log_is (Took t b from count) body log = refl
log_is (Begin t ms before) body log = refl

store_from_lem : (m : Message) (body : List ℕ) (log : List Entry) (s : Store) → BodyRead m body → has_room m log s ≡ true → store_with m body s ≡ store_from (letter_with m body) s
store_from_lem (Ask t b) body log s r h = refl
store_from_lem (Promise t b from had count) body log s r h = refl
store_from_lem (Part t b place count) body log s r h = refl
store_from_lem (Took t b from count) body log s r h = refl
store_from_lem (Begin t ms before) body log s r h =
    let a = split (page_of body) _ r.read r.is in
    let b = split (raw_page_of body) _ (a.value, a.rest) a.first in
    ap (λ (o : Read RawPage). loaded s o) b.first ∙ loads.fresh s b.value b.rest h ∙ sym (store_is body b.value b.rest b.first)

-- whatever is read to be a letter leaves what that letter leaves
pub record Left (o : Result (Message × List ℕ) Fault) (l : Letter) (es : List Entry) (s : Store) : Type 0 where
  pub head : read_to o es s ≡ Ok (head_of_letter l)
  pub log : log_to o es s ≡ log_from l es
  pub store : store_to o es s ≡ store_from l s

left_at : (o : Result (Message × List ℕ) Fault) (l : Letter) (log : List Entry) (s : Store) → ((q : Message × List ℕ) → o ≡ Ok q → BodyRead q.0 q.1) → with_letter o ≡ Ok (head_of_letter l, l) → has_room (head_of_letter l) log s ≡ true → Left o l log s
left_at (Err f) l log s r e h = cc
left_at (Ok p) l log s r e h =
    let both : ◌≡◌ {A = Message × Letter} (p.0, letter_with p.0 p.1) (head_of_letter l, l) = cc in
    let m : p.0 ≡ head_of_letter l = ap (λ (q : Message × Letter). q.0) both in
    let is : letter_with p.0 p.1 ≡ l = ap (λ (q : Message × Letter). q.1) both in
    let room : has_room p.0 log s ≡ true = ap (λ (n : Message). has_room n log s) m ∙ h in
    record {
      head = cond-true (has_room p.0 log s) (Ok p.0) (Err NoRoom) room ∙ ap Ok m;
      log = cond-true (has_room p.0 log s) (log_with p.0 p.1 log) log room ∙ log_is p.0 p.1 log ∙ ap (λ (k : Letter). log_from k log) is;
      store = cond-true (has_room p.0 log s) (store_with p.0 p.1 s) s room ∙ store_from_lem p.0 p.1 log s (r p refl) room ∙ ap (λ (k : Letter). store_from k s) is;
    }

left : (l : Letter) (log : List Entry) (s : Store) → LetterFits l → has_room (head_of_letter l) log s ≡ true → Left (opened_in (letter_bytes l)) l log s
left l log s fits h = left_at (opened_in (letter_bytes l)) l log s (body_read (head_of (letter_bytes l))) (letter_read l fits) h

-- what is not read changes nothing
kept_if : (room : Bool) (m : Message) (log more : List Entry) (s other : Store) (why : Unread) → cond {A = Result Message Unread} room (Ok m) (Err NoRoom) ≡ Err why → (cond room more log ≡ log) × (cond room other s ≡ s)
kept_if true m log more s other why e = cc
kept_if false m log more s other why e = (refl, refl)

kept : (o : Result (Message × List ℕ) Fault) (log : List Entry) (s : Store) (why : Unread) → read_to o log s ≡ Err why → (log_to o log s ≡ log) × (store_to o log s ≡ s)
kept (Err f) log s why e = (refl, refl)
kept (Ok p) log s why e = kept_if (has_room p.0 log s) p.0 log (log_with p.0 p.1 log) s (store_with p.0 p.1 s) why e

pub reads : Reads
reads = record {
  head = λ l log s fits h. (left l log s fits h).head;
  log = λ l log s fits h. (left l log s fits h).log;
  store = λ l log s fits h. (left l log s fits h).store;
  kept = λ bs log s why e. kept (opened_in bs) log s why e;
}
