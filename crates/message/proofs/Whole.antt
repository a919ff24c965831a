-- A head and its body, judged one after the other, are judged as the whole message is.
use Rattle.std.proofs.Common.{◌≡◌, ℕ, ◌+◌, Bool, true, false, cond, ◌&&◌, eqb, ltb, List, length, Some, None, Err, Result, sym, refl, ap, ◌∙◌}
use Rattle.wire.proofs.Exacts.{same_value, split}
use Rattle.wire.specs.Bytes.{Read, ◌then◌, four, one, two}
use Rattle.wire.specs.Several.{made}
use Rattle.wire.specs.declared.fault.Fault.{Fault}
use Rattle.wire.specs.declared.fault.Fault.TheVariants.{Malformed}
use Rattle.entries.specs.Entries.{judged_of}
use Rattle.entry.specs.Members.{members_of}
use Rattle.wire.specs.Judged.{accepted, ended, judged}
use Rattle.wire.specs.declared.judged.Judged.{Judged}
use Rattle.message.specs.Message.{ask_of, begin_of, ended_to, head_in, head_of_begin, head_of_part, head_of_promise, judged_in, opened_in, opened_to, part_of, promise_of, took_of}
use Rattle.message.specs.declared.head.Message.{Message}
use Rattle.message.specs.declared.head.Message.TheVariants.{Ask, Begin, Part, Promise, Took}
use Rattle.page.specs.Page.{RawPage, raw_page_of}
use Rattle.page.specs.Page.{judged_in as judged_page}
use Rattle.page.specs.Rows.{client_of, rows_of, shelf_of}

-- a page's first number is how many entries stand before it
pub before_is : (bs : List ℕ) (p : RawPage × List ℕ) (q : ℕ × List ℕ) → raw_page_of bs ≡ Some p → four bs ≡ Some q → q.0 ≡ p.0.before
before_is bs p q e f =
    let s = split (four bs) _ p e in
    let t = split (rows_of shelf_of 1024 s.rest) _ p s.second in
    let u = split (rows_of client_of 256 t.rest) _ p t.second in
    same_value (sym f ∙ s.first) ∙ ap (λ (page : RawPage). page.before) (same_value u.second)

abbrev headed : Read (Judged Message) → Result Message Fault
headed read = head_in (opened_to read)

-- what follows a field, and what follows a test
next : {C : Type 0} (o : Read C) (k l : C → List ℕ → Read (Judged Message)) → ((c : C) (bs : List ℕ) → headed (k c bs) ≡ ended (l c bs)) → headed (o then k) ≡ ended (o then l)
next None k l h = refl
next (Some p) k l h = h p.0 p.1

either : (b : Bool) (x y v w : Read (Judged Message)) → headed x ≡ ended v → headed y ≡ ended w → headed (cond b x y) ≡ ended (cond b v w)
either true x y v w h i = h
either false x y v w h i = i

-- a body read to its end, whether head and body are in range, in either order
read_out : (m : Message) (body : List ℕ) (e s t : Bool) →
    head_in (cond e (accepted (judged (m, body) (s && t))) (Err Malformed)) ≡ cond e (accepted (judged m (t && s))) (Err Malformed)
read_out m body false s t = refl
read_out m body true false false = refl
read_out m body true false true = refl
read_out m body true true false = refl
read_out m body true true true = refl

swapped : (s t : Bool) → (s && t) ≡ (t && s)
swapped true true = refl
swapped true false = refl
swapped false true = refl
swapped false false = refl

-- nothing behind a head
no_body : (m : Message) (s : Bool) (bs : List ℕ) → head_in (ended_to (judged m s) bs (Some (true, bs))) ≡ ended (Some (judged (m) (s), bs))
no_body m s bs = read_out m bs (eqb (length bs) 0) s true

-- entries behind it
some_entries : (m : Message) (s : Bool) (bs : List ℕ) (o : Read Bool) → head_in (ended_to (judged m s) bs o) ≡ ended (o then λ t bs. Some (judged (m) (t && s), bs))
some_entries m s bs None = refl
some_entries m s bs (Some p) = read_out m bs (eqb (length p.1) 0) s p.0

ask_whole : (bs : List ℕ) → headed (ask_of bs) ≡ ended (ask_of bs)
ask_whole bs = next (two bs) _ _ (λ term bs. next (four bs) _ _ (λ ballot bs. no_body (Ask term ballot) (ltb 0 ballot) bs))

took_whole : (bs : List ℕ) → headed (took_of bs) ≡ ended (took_of bs)
took_whole bs =
    next (two bs) _ _ (λ term bs. next (four bs) _ _ (λ ballot bs. next (one bs) _ _ (λ from bs. next (two bs) _ _ (λ count bs.
    either (ltb 4096 count) _ _ _ _ refl (no_body (Took term ballot from count) (ltb 0 ballot && ltb from 16) bs)))))

promise_whole : (bs : List ℕ) → headed (head_of_promise bs) ≡ ended (promise_of bs)
promise_whole bs =
    next (two bs) _ _ (λ term bs. next (four bs) _ _ (λ ballot bs. next (one bs) _ _ (λ from bs. next (four bs) _ _ (λ had bs. next (two bs) _ _ (λ count bs.
    either (ltb 4096 count) _ _ _ _ refl (some_entries (Promise term ballot from had count) (ltb from 16) bs (judged_of count bs)))))))

part_whole : (bs : List ℕ) → headed (head_of_part bs) ≡ ended (part_of bs)
part_whole bs =
    next (two bs) _ _ (λ term bs. next (four bs) _ _ (λ ballot bs. next (two bs) _ _ (λ place bs. next (two bs) _ _ (λ count bs.
    either (ltb 4096 (place + count)) _ _ _ _ refl (some_entries (Part term ballot place count) (ltb 0 ballot) bs (judged_of count bs))))))

-- a page behind it, by what its first number and the whole page are
page_whole : (term : ℕ) (ms : Judged ℕ) (bs : List ℕ) (f : Read ℕ) (o : Read RawPage) → four bs ≡ f → raw_page_of bs ≡ o →
    headed (f then λ before _. Some (judged (Begin term ms.value before) ms.sound, bs)) ≡
    ended (made judged_page o then λ p bs. Some (judged (Begin term ms.value p.value) (ms.sound && p.sound), bs))
page_whole term ms bs None None e i = refl
page_whole term ms bs None (Some p) e i = let s = split (four bs) _ p i in cc
page_whole term ms bs (Some q) None e i = ap (λ (o : Read RawPage). head_in (ended_to (judged (Begin term ms.value q.0) ms.sound) bs (made (λ page. page.sound) (made judged_page o)))) i
page_whole term ms bs (Some q) (Some p) e i =
    let sound = (judged_page p.0).sound in
    ap (λ (o : Read RawPage). head_in (ended_to (judged (Begin term ms.value q.0) ms.sound) bs (made (λ page. page.sound) (made judged_page o)))) i ∙
    read_out (Begin term ms.value q.0) bs (eqb (length p.1) 0) ms.sound sound ∙
    ap (λ (n : ℕ). cond (eqb (length p.1) 0) (accepted (judged (Begin term ms.value n) (sound && ms.sound))) (Err Malformed)) (before_is bs p q i e) ∙
    ap (λ (b : Bool). cond (eqb (length p.1) 0) (accepted (judged (Begin term ms.value p.0.before) b)) (Err Malformed)) (swapped sound ms.sound)

begin_whole : (bs : List ℕ) → headed (head_of_begin bs) ≡ ended (begin_of bs)
begin_whole bs = next (two bs) _ _ (λ term bs. next (members_of bs) _ _ (λ ms bs. page_whole term ms bs (four bs) (raw_page_of bs) refl refl))

pub whole_is : (bs : List ℕ) → head_in (opened_in bs) ≡ judged_in bs
whole_is bs =
    next (one bs) _ _ (λ kind bs.
    either (eqb kind 3) _ _ _ _ (ask_whole bs) (either (eqb kind 4) _ _ _ _ (promise_whole bs) (either (eqb kind 5) _ _ _ _ (part_whole bs) (either (eqb kind 6) _ _ _ _ (took_whole bs) (either (eqb kind 7) _ _ _ _ (begin_whole bs) refl)))))
