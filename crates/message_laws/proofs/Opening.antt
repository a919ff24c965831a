-- What is read of bytes is what the form that they have makes of them.
use Rattle.std.proofs.Common.{◌≡◌, ℕ, zero, suc, ◌+◌, Bool, true, false, cond, ◌&&◌, eqb, ltb, List, ◌∷◌, map, length, Some, None, Ok, Err, Result, sym, refl, ap, ◌∙◌}
use Rattle.wire.proofs.Exacts.{split}
use Rattle.wire.proofs.Turns.{front_all, several_length}
use Rattle.wire.specs.Bytes.{Read, ◌then◌, four, one, two}
use Rattle.wire.specs.Several.{after, front, made, several}
use Rattle.wire.specs.declared.fault.Fault.{Fault}
use Rattle.wire.specs.declared.fault.Fault.TheVariants.{Malformed, OutOfRange}
use Rattle.entries.specs.Entries.{entries_in, judged_of, sound_too}
use Rattle.entry.specs.Entry.{Raw, entry_of, found_in, raw_of}
use Rattle.entry.specs.Members.{list_of, members_in}
use Rattle.entry.specs.declared.entry.Entry.{Entry}
use Rattle.message.specs.Message.{ask_of, head_of_begin, ended_to, opened_in, opened_to, head_of_part, head_of_promise, took_of}
use Rattle.wire.specs.Judged.{judged}
use Rattle.wire.specs.declared.judged.Judged.{Judged}
use Rattle.message.specs.declared.head.Message.{Message}
use Rattle.message.specs.declared.head.Message.TheVariants.{Ask, Begin, Part, Promise, Took}
use Rattle.message_laws.proofs.Shapes.{raw_ask_of, raw_begin_of, raw_letter_of, raw_part_of, raw_promise_of, raw_took_of}
use Rattle.message.specs.Letter.{Asks, Begins, Letter, Parts, Promises, Takes, head_of_letter}
use Rattle.message_laws.specs.Laws.{RawAsks, RawBegins, RawLetter, RawParts, RawPromises, RawTakes, letter_with, store_in}
use Rattle.page.specs.Page.{RawPage, loaded, raw_page_of, with_rows}
use Rattle.page.specs.Page.{judged_in as judged_page}
use Rattle.message.proofs.Whole.{before_is}
use Rattle.page_laws.proofs.Loading.{loads}
use Rattle.store.specs.Store.{bare}
use lib.ListN.{length-map}

-- whether a form is in range, and the letter that it is
abbrev pub in_range : RawLetter → Bool
in_range (RawAsks t b) = ltb 0 b && true
in_range (RawPromises t b from had log) = ltb from 16 && after sound_too true (map found_in log)
in_range (RawParts t b place es) = ltb 0 b && after sound_too true (map found_in es)
in_range (RawTakes t b from c) = (ltb 0 b && ltb from 16) && true
in_range (RawBegins t ms p) = (members_in ms).sound && (judged_page p).sound

abbrev pub letter_from : RawLetter → Letter
letter_from (RawAsks t b) = Asks t b
letter_from (RawPromises t b from had log) = Promises t b from had (entries_in (map found_in log))
letter_from (RawParts t b place es) = Parts t b place (entries_in (map found_in es))
letter_from (RawTakes t b from c) = Takes t b from c
letter_from (RawBegins t ms p) = Begins t (members_in ms).value p.before (with_rows bare p)

-- a head with the letter that its body makes it
abbrev pub with_letter : Result (Message × List ℕ) Fault → Result (Message × Letter) Fault
with_letter (Err f) = Err f
with_letter (Ok p) = Ok (p.0, letter_with p.0 p.1)

abbrev opened : Read (Judged Message) → Result (Message × Letter) Fault
opened read = with_letter (opened_to read)

-- the same of a form: read to its end, and then in range or not
abbrev pub ranged : Bool → Letter → Result (Message × Letter) Fault
ranged ok l = cond ok (Ok (head_of_letter l, l)) (Err OutOfRange)

abbrev pub formed : Read RawLetter → Result (Message × Letter) Fault
formed None = Err Malformed
formed (Some p) = cond (eqb (length p.1) 0) (ranged (in_range p.0) (letter_from p.0)) (Err Malformed)

-- what follows a field, and what follows a test
next : {C : Type 0} (o : Read C) (k : C → List ℕ → Read (Judged Message)) (l : C → List ℕ → Read RawLetter) → ((c : C) (bs : List ℕ) → opened (k c bs) ≡ formed (l c bs)) → opened (o then k) ≡ formed (o then l)
next None k l h = refl
next (Some p) k l h = h p.0 p.1

either : (b : Bool) (x y : Read (Judged Message)) (v w : Read RawLetter) → opened x ≡ formed v → opened y ≡ formed w → opened (cond b x y) ≡ formed (cond b v w)
either true x y v w h i = h
either false x y v w h i = i

-- a body read to its end
ended : (m : Message) (body : List ℕ) (e ok : Bool) → with_letter (cond e (cond ok (Ok (m, body)) (Err OutOfRange)) (Err Malformed)) ≡ cond e (cond ok (Ok (m, letter_with m body)) (Err OutOfRange)) (Err Malformed)
ended m body true true = refl
ended m body true false = refl
ended m body false ok = refl

-- a head and a body that are those of a form
is_form : (m : Message) (body rest : List ℕ) (w : RawLetter) → m ≡ head_of_letter (letter_from w) → letter_with m body ≡ letter_from w →
    with_letter (cond (eqb (length rest) 0) (cond (in_range w) (Ok (m, body)) (Err OutOfRange)) (Err Malformed)) ≡ formed (Some (w, rest))
is_form m body rest w e f =
    ended m body (eqb (length rest) 0) (in_range w) ∙ ap (λ (n : Message). cond (eqb (length rest) 0) (cond (in_range w) (Ok (n, letter_with m body)) (Err OutOfRange)) (Err Malformed)) e ∙
    ap (λ (l : Letter). cond (eqb (length rest) 0) (cond (in_range w) (Ok (head_of_letter (letter_from w), l)) (Err OutOfRange)) (Err Malformed)) f

ask_opened : (bs : List ℕ) → opened (ask_of bs) ≡ formed (raw_ask_of bs)
ask_opened bs = next (two bs) _ _ (λ term bs. next (four bs) _ _ (λ ballot bs. is_form (Ask term ballot) bs bs (RawAsks term ballot) refl refl))

took_opened : (bs : List ℕ) → opened (took_of bs) ≡ formed (raw_took_of bs)
took_opened bs =
    next (two bs) _ _ (λ term bs. next (four bs) _ _ (λ ballot bs. next (one bs) _ _ (λ from bs. next (two bs) _ _ (λ count bs.
    either (ltb 4096 count) _ _ _ _ refl (is_form (Took term ballot from count) bs bs (RawTakes term ballot from count) refl refl)))))

-- entries, found one behind the other
found_more : (x : Raw) (o : Read (List Raw)) → (made (map found_in) o then λ xs bs. Some (found_in x ∷ xs, bs)) ≡ made (map found_in) (o then λ xs bs. Some (x ∷ xs, bs))
found_more x None = refl
found_more x (Some p) = refl

found_next : (n : ℕ) → ((bs : List ℕ) → several entry_of n bs ≡ made (map found_in) (several raw_of n bs)) → (o : Read Raw) →
    ((o then λ raw bs. Some (found_in raw, bs)) then λ x bs. several entry_of n bs then λ xs bs. Some (x ∷ xs, bs)) ≡ made (map found_in) (o then λ x bs. several raw_of n bs then λ xs bs. Some (x ∷ xs, bs))
found_next n h None = refl
found_next n h (Some p) = ap (λ (o : Read (List (Judged Entry))). o then λ xs bs. Some (found_in p.0 ∷ xs, bs)) (h p.1) ∙ found_more p.0 (several raw_of n p.1)

found_several : (n : ℕ) (bs : List ℕ) → several entry_of n bs ≡ made (map found_in) (several raw_of n bs)
unfolding several
found_several zero bs = refl
found_several (suc n) bs = found_next n (found_several n) (raw_of bs)

-- a head with entries behind it: a promise, or a log part
module _ (m : Message) (ok : Bool) (count : ℕ) (bs : List ℕ) (make : List Raw → RawLetter)
    (head : (log : List Raw) → length log ≡ count → m ≡ head_of_letter (letter_from (make log)))
    (letter : (log : List Raw) → front entry_of count bs ≡ map found_in log → letter_with m bs ≡ letter_from (make log))
    (sound : (log : List Raw) → (ok && after sound_too true (map found_in log)) ≡ in_range (make log)) where
  entries_at : (o : Read (List Raw)) → several raw_of count bs ≡ o → with_letter (ended_to (judged m ok) bs (made (after sound_too true) (made (map found_in) o))) ≡ formed (o then λ log bs. Some (make log, bs))
  entries_at None e = refl
  entries_at (Some p) e =
      let found = found_several count bs ∙ ap (made (map found_in)) e in
      let all = front_all entry_of count bs (map found_in p.0) p.1 found in
      let long = several_length raw_of count bs p.0 p.1 e in
      ap (λ (b : Bool). with_letter (cond (eqb (length p.1) 0) (cond b (Ok (m, bs)) (Err OutOfRange)) (Err Malformed))) (sound p.0) ∙ is_form m bs p.1 (make p.0) (head p.0 long) (letter p.0 all)

  entries_opened : with_letter (ended_to (judged m ok) bs (judged_of count bs)) ≡ formed (several raw_of count bs then λ log bs. Some (make log, bs))
  entries_opened =
      ap (λ (o : Read (List (Judged Entry))). with_letter (ended_to (judged m ok) bs (made (after sound_too true) o))) (found_several count bs) ∙ entries_at (several raw_of count bs) refl

long_as : (count : ℕ) (log : List Raw) → length log ≡ count → count ≡ length (entries_in (map found_in log))
long_as count log e = sym (length-map (map found_in log) (λ f. f.value) ∙ length-map log found_in ∙ e)

promise_opened : (bs : List ℕ) → opened (head_of_promise bs) ≡ formed (raw_promise_of bs)
promise_opened bs =
    next (two bs) _ _ (λ term bs. next (four bs) _ _ (λ ballot bs. next (one bs) _ _ (λ from bs. next (four bs) _ _ (λ had bs. next (two bs) _ _ (λ count bs.
    either (ltb 4096 count) _ _ _ _ refl
    (entries_opened (Promise term ballot from had count) (ltb from 16) count bs (RawPromises term ballot from had) (λ log e. ap (Promise term ballot from had) (long_as count log e))
    (λ log e. ap (λ (fs : List (Judged Entry)). Promises term ballot from had (entries_in fs)) e) (λ log. refl)))))))

part_opened : (bs : List ℕ) → opened (head_of_part bs) ≡ formed (raw_part_of bs)
part_opened bs =
    next (two bs) _ _ (λ term bs. next (four bs) _ _ (λ ballot bs. next (two bs) _ _ (λ place bs. next (two bs) _ _ (λ count bs.
    either (ltb 4096 (place + count)) _ _ _ _ refl
    (entries_opened (Part term ballot place count) (ltb 0 ballot) count bs (RawParts term ballot place) (λ log e. ap (Part term ballot place) (long_as count log e))
    (λ log e. ap (λ (fs : List (Judged Entry)). Parts term ballot place (entries_in fs)) e) (λ log. refl))))))

-- the store that a page holds
pub store_is : (bs : List ℕ) (p : RawPage) (rest : List ℕ) → raw_page_of bs ≡ Some (p, rest) → store_in bs ≡ with_rows bare p
unfolding store_in
store_is bs p rest e = ap (λ (o : Read RawPage). loaded bare o) e ∙ loads.fresh bare p rest refl

page_opened : (term : ℕ) (ms : List ℕ) (bs : List ℕ) (f : Read ℕ) (o : Read RawPage) → four bs ≡ f → raw_page_of bs ≡ o →
    opened (f then λ before _. Some (judged (Begin term (members_in ms).value before) (members_in ms).sound, bs)) ≡ formed (o then λ page bs. Some (RawBegins term ms page, bs))
page_opened term ms bs None None e i = refl
page_opened term ms bs None (Some p) e i = let s = split (four bs) _ p i in cc s.first
page_opened term ms bs (Some q) None e i = ap (λ (o : Read RawPage). with_letter (ended_to (judged (Begin term (members_in ms).value q.0) (members_in ms).sound) bs (made (λ page. page.sound) (made judged_page o)))) i
page_opened term ms bs (Some q) (Some p) e i =
    let before = before_is bs p q i e in
    ap (λ (o : Read RawPage). with_letter (ended_to (judged (Begin term (members_in ms).value q.0) (members_in ms).sound) bs (made (λ page. page.sound) (made judged_page o)))) i ∙
    is_form (Begin term (members_in ms).value q.0) bs p.1 (RawBegins term ms p.0) (ap (Begin term (members_in ms).value) before)
    (ap (λ (n : ℕ). Begins term (members_in ms).value n (store_in bs)) before ∙ ap (Begins term (members_in ms).value p.0.before) (store_is bs p.0 p.1 i))

members_next : (o : Read (List ℕ)) (k : Judged ℕ → List ℕ → Read (Judged Message)) (l : List ℕ → List ℕ → Read RawLetter) → ((ms bs : List ℕ) → opened (k (members_in ms) bs) ≡ formed (l ms bs)) → opened ((o then λ ms bs. Some (members_in ms, bs)) then k) ≡ formed (o then l)
members_next None k l h = refl
members_next (Some p) k l h = h p.0 p.1

begin_opened : (bs : List ℕ) → opened (head_of_begin bs) ≡ formed (raw_begin_of bs)
begin_opened bs = next (two bs) _ _ (λ term bs. members_next (list_of bs) _ _ (λ ms bs. page_opened term ms bs (four bs) (raw_page_of bs) refl refl))

pub opened_is : (bs : List ℕ) → with_letter (opened_in bs) ≡ formed (raw_letter_of bs)
opened_is bs =
    next (one bs) _ _ (λ kind bs.
    either (eqb kind 3) _ _ _ _ (ask_opened bs) (either (eqb kind 4) _ _ _ _ (promise_opened bs) (either (eqb kind 5) _ _ _ _ (part_opened bs) (either (eqb kind 6) _ _ _ _ (took_opened bs) (either (eqb kind 7) _ _ _ _ (begin_opened bs) refl)))))
