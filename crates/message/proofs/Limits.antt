-- What a message that is of the right form brings has room in a log of 4,096 places and in a whole store.
use Rattle.std.proofs.Common.{◌≡◌, ℕ, ◌+◌, ◌≤◌, Bool, true, cond, ◌&&◌, eqb, ltb, List, length, Some, None, Ok, Err, sym, refl, ap, ◌∙◌, subst, ⊎_elim, arith}
use Rattle.wire.proofs.Exacts.{same_value, split, within}
use Rattle.wire.specs.Bytes.{Read, four, one, two}
use Rattle.wire.specs.declared.fault.Fault.TheVariants.{Malformed, OutOfRange}
use Rattle.entry.specs.Members.{members_of}
use Rattle.entry.specs.declared.entry.Entry.{Entry}
use Rattle.message.specs.Loading.{has_room}
use Rattle.message.specs.Message.{ask_of, head_of_begin, body_of, ended_to, head_of, opened_in, opened_to, head_of_part, head_of_promise, took_of}
use Rattle.wire.specs.declared.judged.Judged.{Judged}
use Rattle.message.specs.declared.head.Message.{Message}
use Rattle.message.specs.declared.head.Message.TheVariants.{Ask, Begin, Part, Promise, Took}
use Rattle.std.proofs.lemmas.Bool.{cases_cond, le-leb}
use Rattle.store.specs.Store.{Store, whole}

-- the counts of a message are within a log
abbrev pub Within : Message → Type 0
Within (Ask t b) = Unit {0}
Within (Promise t b from had count) = count ≤ 4096
Within (Part t b place count) = place + count ≤ 4096
Within (Took t b from count) = count ≤ 4096
Within (Begin t ms before) = Unit {0}

-- a limit that was kept
kept : {A : Type 0} (n : ℕ) (read : Read A) (y : A × List ℕ) → cond (ltb 4096 n) None read ≡ Some y → (n ≤ 4096) × (read ≡ Some y)
kept n read y e = within ((n ≤ 4096) × (read ≡ Some y)) 4096 n read y e (λ few e. (few, e))

abbrev Fine : Judged Message → Type 0
Fine j = Within j.value

ask_within : (bs : List ℕ) (j : Judged Message) (body : List ℕ) → ask_of bs ≡ Some (j, body) → Fine j
ask_within bs j body e =
    let s = split (two bs) _ (j, body) e in
    let t = split (four s.rest) _ (j, body) s.second in
    subst Fine (same_value t.second) tt

promise_within : (bs : List ℕ) (j : Judged Message) (body : List ℕ) → head_of_promise bs ≡ Some (j, body) → Fine j
promise_within bs j body e =
    let s = split (two bs) _ (j, body) e in
    let t = split (four s.rest) _ (j, body) s.second in
    let u = split (one t.rest) _ (j, body) t.second in
    let v = split (four u.rest) _ (j, body) u.second in
    let w = split (two v.rest) _ (j, body) v.second in
    let k = kept w.value _ (j, body) w.second in
    subst Fine (same_value k.1) k.0

part_within : (bs : List ℕ) (j : Judged Message) (body : List ℕ) → head_of_part bs ≡ Some (j, body) → Fine j
part_within bs j body e =
    let s = split (two bs) _ (j, body) e in
    let t = split (four s.rest) _ (j, body) s.second in
    let u = split (two t.rest) _ (j, body) t.second in
    let v = split (two u.rest) _ (j, body) u.second in
    let k = kept (u.value + v.value) _ (j, body) v.second in
    subst Fine (same_value k.1) k.0

took_within : (bs : List ℕ) (j : Judged Message) (body : List ℕ) → took_of bs ≡ Some (j, body) → Fine j
took_within bs j body e =
    let s = split (two bs) _ (j, body) e in
    let t = split (four s.rest) _ (j, body) s.second in
    let u = split (one t.rest) _ (j, body) t.second in
    let v = split (two u.rest) _ (j, body) u.second in
    let k = kept v.value _ (j, body) v.second in
    subst Fine (same_value k.1) k.0

begin_within : (bs : List ℕ) (j : Judged Message) (body : List ℕ) → head_of_begin bs ≡ Some (j, body) → Fine j
begin_within bs j body e =
    let s = split (two bs) _ (j, body) e in
    let t = split (members_of s.rest) _ (j, body) s.second in
    let u = split (four t.rest) _ (j, body) t.second in
    subst Fine (same_value u.second) tt

head_within : (bs : List ℕ) (j : Judged Message) (body : List ℕ) → head_of bs ≡ Some (j, body) → Fine j
head_within bs j body e =
    let s = split (one bs) _ (j, body) e in
    let k = s.value in
    ⊎_elim (λ e. ask_within s.rest j body (sym e))
    (λ f. ⊎_elim (λ e. promise_within s.rest j body (sym e))
    (λ g. ⊎_elim (λ e. part_within s.rest j body (sym e))
    (λ h. ⊎_elim (λ e. took_within s.rest j body (sym e))
    (λ i. ⊎_elim (λ e. begin_within s.rest j body (sym e)) (λ n. cc) (cases_cond (eqb k 7) (head_of_begin s.rest) None (Some (j, body)) i))
    (cases_cond (eqb k 6) (took_of s.rest) _ (Some (j, body)) h))
    (cases_cond (eqb k 5) (head_of_part s.rest) _ (Some (j, body)) g))
    (cases_cond (eqb k 4) (head_of_promise s.rest) _ (Some (j, body)) f))
    (cases_cond (eqb k 3) (ask_of s.rest) _ (Some (j, body)) (sym s.second))

-- the head of a message that was opened
pub record Opened (bs : List ℕ) (m : Message) (body : List ℕ) : Type 0 where
  pub head : Judged Message
  pub read : head_of bs ≡ Some (head, body)
  pub is : head.value ≡ m

opened_at : (bs : List ℕ) (j : Judged Message) (rest : List ℕ) (read : Read Bool) (m : Message) (body : List ℕ) → head_of bs ≡ Some (j, rest) → ended_to j rest read ≡ Ok (m, body) → Opened bs m body
opened_at bs j rest None m body h e = cc
opened_at bs j rest (Some p) m body h e =
    ⊎_elim
    (λ f. ⊎_elim
    (λ g. let same : (j.value, rest) ≡ (m, body) = cc in record { head = j; read = h ∙ ap (λ (l : List ℕ). Some (j, l)) (ap (λ (q : Message × List ℕ). q.1) same); is = ap (λ (q : Message × List ℕ). q.0) same })
    (λ g. cc)
    (cases_cond (j.sound && p.0) (Ok (j.value, rest)) (Err OutOfRange) (Ok (m, body)) f))
    (λ f. cc)
    (cases_cond (eqb (length p.1) 0) (cond (j.sound && p.0) (Ok (j.value, rest)) (Err OutOfRange)) (Err Malformed) (Ok (m, body)) (sym e))

opened_from : (bs : List ℕ) (read : Read (Judged Message)) (m : Message) (body : List ℕ) → head_of bs ≡ read → opened_to read ≡ Ok (m, body) → Opened bs m body
opened_from bs None m body h e = cc
opened_from bs (Some p) m body h e = opened_at bs p.0 p.1 (body_of p.0.value p.1) m body h e

pub opened : (bs : List ℕ) (m : Message) (body : List ℕ) → opened_in bs ≡ Ok (m, body) → Opened bs m body
opened bs m body e = opened_from bs (head_of bs) m body refl e

room_within : (m : Message) (log : List Entry) (s : Store) → Within m → length log ≡ 4096 → whole s ≡ true → has_room m log s ≡ true
room_within (Ask t b) log s h long is = refl
room_within (Promise t b from had count) log s h long is = le-leb count (length log) (omega arith)
room_within (Part t b place count) log s h long is = le-leb (place + count) (length log) (omega arith)
room_within (Took t b from count) log s h long is = refl
room_within (Begin t ms before) log s h long is = is

pub always_room : (bs : List ℕ) (m : Message) (body : List ℕ) (log : List Entry) (s : Store) → opened_in bs ≡ Ok (m, body) → length log ≡ 4096 → whole s ≡ true → has_room m log s ≡ true
always_room bs m body log s e long is =
    let o = opened bs m body e in
    room_within m log s (subst Within o.is (head_within bs o.head body o.read)) long is
