-- Letters and their bytes.
use Rattle.std.proofs.Common.{◌≡◌, ℕ, Bool, true, false, ◌&&◌, eqb, ltb, List, [], ◌∷◌, ◌++◌, map, length, Some, None, Ok, Err, Result, sym, refl, ap, ◌∙◌, subst, arith}
use Rattle.wire.proofs.Exacts.{same_rest}
use Rattle.wire.specs.Bytes.{Read, four_bytes, two_bytes}
use Rattle.wire.specs.Exact.{Bytes}
use Rattle.wire.specs.Several.{after, joined}
use Rattle.wire.specs.declared.fault.Fault.{Fault}
use Rattle.wire.specs.declared.fault.Fault.TheVariants.{Malformed, OutOfRange}
use Rattle.entries.specs.Entries.{sound_too}
use Rattle.entry.specs.Entry.{found_in, raw_bytes}
use Rattle.entry.specs.Members.{list_bytes, listed, members_in}
use Rattle.message.specs.Message.{opened_in}
use Rattle.message.specs.declared.head.Message.{Message}
use Rattle.entry_laws.proofs.Entries.{members_only}
use Rattle.message_laws.proofs.Opening.{formed, in_range, letter_from, opened_is, ranged, with_letter}
use Rattle.message_laws.proofs.Ranges.{council, entry_forms, raw_entries}
use Rattle.message_laws.proofs.Shapes.{raw_exact, raw_letter_of}
use Rattle.message.specs.Letter.{Asks, Begins, Letter, Parts, Promises, Takes, head_of_letter, letter_bytes}
use Rattle.message_laws.specs.Laws.{HasForm, LetterFits, Letters, RawAsks, RawBegins, RawLetter, RawLetterFits, RawParts, RawPromises, RawTakes, letter_to, raw_letter_bytes}
use Rattle.page.specs.Page.{page_bytes, page_in, raw_page_bytes, with_rows}
use Rattle.page.specs.Page.{judged_in as judged_page}
use Rattle.page_laws.proofs.Pages.{page_fits, page_sound, page_store, store_again}
use Rattle.std.proofs.lemmas.List.{append-nil, length-map}
use Rattle.std.proofs.lemmas.Bool.{and_from, and_parts, cond-false, cond-true, lt-ltb, ltb-true, ne_eqb}
use Rattle.store.specs.Store.{bare}

-- a letter that fits has a form
pub record LetterForm (l : Letter) : Type 0 where
  pub raw : RawLetter
  pub fits : RawLetterFits raw
  pub sound : in_range raw ≡ true
  pub letter : letter_from raw ≡ l
  pub bytes : raw_letter_bytes raw ≡ letter_bytes l

-- the bytes in front of the entries of a promise and of a log part
abbrev promise_head : ℕ → ℕ → ℕ → ℕ → ℕ → List ℕ
promise_head t b from had n = 4 ∷ (two_bytes t ++ (four_bytes b ++ (from ∷ (four_bytes had ++ two_bytes n))))

abbrev part_head : ℕ → ℕ → ℕ → ℕ → List ℕ
part_head t b place n = 5 ∷ (two_bytes t ++ (four_bytes b ++ (two_bytes place ++ two_bytes n)))

pub letter_form : (l : Letter) → LetterFits l → LetterForm l
unfolding page_bytes
letter_form (Asks t b) h = let above = h.2 in record { raw = RawAsks t b; fits = (h.0, h.1); sound = and_from (ltb 0 b) true (lt-ltb 0 b (omega arith)) refl; letter = refl; bytes = refl }
letter_form (Promises t b from had log) h =
    let f = entry_forms log h.5 in
    let long = f.long in
    let low = h.2 in
    let few = h.4 in
    record {
      raw = RawPromises t b from had f.raws;
      fits = (h.0, h.1, (omega arith), h.3, (omega arith), f.fits);
      sound = and_from (ltb from 16) (after sound_too true (map found_in f.raws)) (lt-ltb from 16 low) f.sound;
      letter = ap (Promises t b from had) f.entries;
      bytes = ap (λ (n : ℕ). promise_head t b from had n ++ joined raw_bytes f.raws) long ∙ ap (λ (x : List ℕ). promise_head t b from had (length log) ++ x) f.bytes;
    }
letter_form (Parts t b place es) h =
    let f = entry_forms es h.4 in
    let long = f.long in
    let few = h.3 in
    record {
      raw = RawParts t b place f.raws;
      fits = (h.0, h.1, (omega arith), f.fits);
      sound = and_from (ltb 0 b) (after sound_too true (map found_in f.raws)) (lt-ltb 0 b h.2) f.sound;
      letter = ap (Parts t b place) f.entries;
      bytes = ap (λ (n : ℕ). part_head t b place n ++ joined raw_bytes f.raws) long ∙ ap (λ (x : List ℕ). part_head t b place (length es) ++ x) f.bytes;
    }
letter_form (Takes t b from c) h =
    let low = h.3 in
    let few = h.4 in
    record {
      raw = RawTakes t b from c;
      fits = (h.0, h.1, (omega arith), (omega arith));
      sound = and_from (ltb 0 b && ltb from 16) true (and_from (ltb 0 b) (ltb from 16) (lt-ltb 0 b h.2) (lt-ltb from 16 low)) refl;
      letter = refl;
      bytes = refl;
    }
letter_form (Begins t ms before s) h =
    let c = council ms h.1 h.2 in
    record {
      raw = RawBegins t (listed ms) (page_in before s);
      fits = (h.0, c.few, c.bytes, page_fits (record { before = before; store = s }) h.3);
      sound = and_from (members_in (listed ms)).sound (judged_page (page_in before s)).sound c.sound (page_sound before s h.3.store);
      letter = ap (λ (m : ℕ). Begins t m before (with_rows bare (page_in before s))) c.set ∙ ap (Begins t ms before) (store_again before s h.3.store);
      bytes = refl;
    }

-- a form that is in range is that of a letter that fits
pub record InForm (w : RawLetter) : Type 0 where
  pub fits : LetterFits (letter_from w)
  pub bytes : raw_letter_bytes w ≡ letter_bytes (letter_from w)

pub in_form : (w : RawLetter) → RawLetterFits w → in_range w ≡ true → InForm w
in_form (RawAsks t b) h e = let above = ltb-true 0 b (and_parts (ltb 0 b) true e).0 in record { fits = (h.0, h.1, (omega arith)); bytes = refl }
in_form (RawPromises t b from had log) h e =
    let p = and_parts (ltb from 16) (after sound_too true (map found_in log)) e in
    let r = raw_entries log true h.5 p.1 in
    let es = map (λ f. f.value) (map found_in log) in
    let long : length es ≡ length log = length-map (map found_in log) (λ f. f.value) ∙ length-map log found_in in
    let few = h.4 in
    record {
      fits = (h.0, h.1, ltb-true from 16 p.0, h.3, (omega arith), r.fits);
      bytes = ap (λ (n : ℕ). promise_head t b from had n ++ joined raw_bytes log) (sym long) ∙ ap (λ (x : List ℕ). promise_head t b from had (length es) ++ x) r.bytes;
    }
in_form (RawParts t b place ws) h e =
    let p = and_parts (ltb 0 b) (after sound_too true (map found_in ws)) e in
    let r = raw_entries ws true h.3 p.1 in
    let es = map (λ f. f.value) (map found_in ws) in
    let long : length es ≡ length ws = length-map (map found_in ws) (λ f. f.value) ∙ length-map ws found_in in
    let few = h.2 in
    record {
      fits = (h.0, h.1, ltb-true 0 b p.0, (omega arith), r.fits);
      bytes = ap (λ (n : ℕ). part_head t b place n ++ joined raw_bytes ws) (sym long) ∙ ap (λ (x : List ℕ). part_head t b place (length es) ++ x) r.bytes;
    }
in_form (RawTakes t b from c) h e =
    let p = and_parts (ltb 0 b) (ltb from 16) (and_parts (ltb 0 b && ltb from 16) true e).0 in
    record { fits = (h.0, h.1, ltb-true 0 b p.0, ltb-true from 16 p.1, h.3); bytes = refl }
in_form (RawBegins t ms p) h e =
    let d = and_parts (members_in ms).sound (judged_page p).sound e in
    let c = members_only ms d.0 in
    let o = page_store p h.3 d.1 in
    record {
      fits = (h.0, c.0.0, c.0.1, record { before = h.3.before; store = o.0 });
      bytes = ap (λ (l : List ℕ). (7 ∷ (two_bytes t ++ list_bytes l)) ++ raw_page_bytes p) (sym c.1) ∙ ap (λ (l : List ℕ). (7 ∷ (two_bytes t ++ list_bytes (listed (members_in ms).value))) ++ l) o.1;
    }

-- the bytes of a form are read as that form, to their end
raw_whole : (w : RawLetter) → RawLetterFits w → raw_letter_of (raw_letter_bytes w) ≡ Some (w, [])
raw_whole w h = ap raw_letter_of (sym (append-nil (raw_letter_bytes w))) ∙ raw_exact.back w [] h

pub form_read : (bs : List ℕ) (w : RawLetter) → RawLetterFits w → bs ≡ raw_letter_bytes w → with_letter (opened_in bs) ≡ ranged (in_range w) (letter_from w)
form_read bs w h is = ap (λ (l : List ℕ). with_letter (opened_in l)) is ∙ opened_is (raw_letter_bytes w) ∙ ap formed (raw_whole w h)

pub letter_read : (l : Letter) → LetterFits l → with_letter (opened_in (letter_bytes l)) ≡ Ok (head_of_letter l, l)
letter_read l h =
    let f = letter_form l h in
    form_read (letter_bytes l) f.raw f.fits (sym f.bytes) ∙ cond-true (in_range f.raw) (Ok (head_of_letter (letter_from f.raw), letter_from f.raw)) (Err OutOfRange) f.sound ∙ ap (λ (m : Letter). Ok (head_of_letter m, m)) f.letter

-- any bytes have no form, and are malformed, or have one
pub data Formed (bs : List ℕ) : Type 0 where
  Formless : with_letter (opened_in bs) ≡ Err Malformed → (HasForm bs → ⊥) → Formed bs
  Forms : (w : RawLetter) → RawLetterFits w → bs ≡ raw_letter_bytes w → Formed bs

unread : (bs : List ℕ) (o : Read RawLetter) → raw_letter_of bs ≡ o → ((w : RawLetter) → o ≡ Some (w, []) → ⊥) → HasForm bs → ⊥
unread bs o e none form = none form.0 (sym e ∙ ap raw_letter_of form.2 ∙ raw_whole form.0 form.1)

formed_at : (bs : List ℕ) → Bytes bs → (o : Read RawLetter) → raw_letter_of bs ≡ o → Formed bs
formed_at bs h None e = Formless (opened_is bs ∙ ap formed e) (unread bs None e (λ w z. cc))
formed_at bs h (Some (w, [])) e = let o = raw_exact.only bs w [] h e in Forms w o.0 (o.1 ∙ append-nil (raw_letter_bytes w))
formed_at bs h (Some (w, (x ∷ rest))) e =
    Formless (opened_is bs ∙ ap formed e ∙ cond-false (eqb (length (x ∷ rest)) 0) (ranged (in_range w) (letter_from w)) (Err Malformed) (ne_eqb (length (x ∷ rest)) 0 (λ z. omega arith)))
    (unread bs (Some (w, x ∷ rest)) e (λ v z. cc (same_rest z)))

pub formed_or_not : (bs : List ℕ) → Bytes bs → Formed bs
formed_or_not bs h = formed_at bs h (raw_letter_of bs) refl

-- the letter alone of what is read
abbrev letter_only : Result (Message × Letter) Fault → Result Letter Fault
letter_only (Err f) = Err f
letter_only (Ok p) = Ok p.1

letter_only_lem : (o : Result (Message × List ℕ) Fault) → letter_to o ≡ letter_only (with_letter o)
letter_only_lem (Err f) = refl
letter_only_lem (Ok p) = refl

ranged_only : (ok : Bool) (k l : Letter) → letter_only (ranged ok k) ≡ Ok l → (ok ≡ true) × (k ≡ l)
ranged_only true k l e = (refl, cc)
ranged_only false k l e = cc

letters_only : (bs : List ℕ) (l : Letter) → letter_only (with_letter (opened_in bs)) ≡ Ok l → Formed bs → LetterFits l × (bs ≡ letter_bytes l)
letters_only bs l e (Formless f none) = cc
letters_only bs l e (Forms w fits is) =
    let r = ranged_only (in_range w) (letter_from w) l (sym (ap letter_only (form_read bs w fits is)) ∙ e) in
    let i = in_form w fits r.0 in
    (subst LetterFits r.1 i.fits, is ∙ i.bytes ∙ ap letter_bytes r.1)

pub letters : Letters
letters = record {
  back = λ l h. letter_only_lem (opened_in (letter_bytes l)) ∙ ap letter_only (letter_read l h);
  only = λ bs l h e. letters_only bs l (sym (letter_only_lem (opened_in bs)) ∙ e) (formed_or_not bs h);
}
