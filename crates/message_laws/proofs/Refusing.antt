-- What is refused, and why.
use Rattle.std.proofs.Common.{◌≡◌, ℕ, Bool, true, false, List, Ok, Err, Result, sym, refl, ap, ◌∙◌}
use Rattle.wire.specs.Exact.{Bytes}
use Rattle.wire.specs.declared.fault.Fault.{Fault}
use Rattle.wire.specs.declared.fault.Fault.TheVariants.{Malformed, OutOfRange}
use Rattle.message.proofs.Whole.{whole_is}
use Rattle.message.specs.Message.{head_in, judged_in, opened_in}
use Rattle.message.specs.declared.head.Message.{Message}
use Rattle.message_laws.proofs.Letters.{Formed, Formless, Forms, form_read, formed_or_not, in_form, letter_form, letter_read}
use Rattle.message_laws.proofs.Opening.{in_range, letter_from, ranged, with_letter}
use Rattle.message.specs.Letter.{Letter, head_of_letter, letter_bytes}
use Rattle.message_laws.specs.Laws.{HasForm, IsLetter, LetterFits, Refusals}

-- the head alone of what is read
abbrev head_only : Result (Message × Letter) Fault → Result Message Fault
head_only (Err f) = Err f
head_only (Ok p) = Ok p.0

head_only_lem : (o : Result (Message × List ℕ) Fault) → head_in o ≡ head_only (with_letter o)
head_only_lem (Err f) = refl
head_only_lem (Ok p) = refl

-- a form is in range or not
ranged_ok : (ok : Bool) (l : Letter) (m : Message) → head_only (ranged ok l) ≡ Ok m → (ok ≡ true) × (head_of_letter l ≡ m)
ranged_ok true l m e = (refl, cc)
ranged_ok false l m e = cc

ranged_formed : (ok : Bool) (l : Letter) → head_only (ranged ok l) ≡ Err Malformed → ⊥
ranged_formed true l e = cc
ranged_formed false l e = cc

module _ (bs : List ℕ) (h : Bytes bs) where
  judged : judged_in bs ≡ head_only (with_letter (opened_in bs))
  judged = sym (whole_is bs) ∙ head_only_lem (opened_in bs)

  malformed : judged_in bs ≡ Err Malformed → HasForm bs → ⊥
  malformed e form = ranged_formed (in_range form.0) (letter_from form.0) (sym (ap head_only (form_read bs form.0 form.1 form.2)) ∙ sym judged ∙ e)

  no_letter : judged_in bs ≡ Err OutOfRange → IsLetter bs → ⊥
  no_letter e l = cc (sym e ∙ judged ∙ ap (λ (x : List ℕ). head_only (with_letter (opened_in x))) l.2 ∙ ap head_only (letter_read l.0 l.1))

  out_of_range : judged_in bs ≡ Err OutOfRange → Formed bs → HasForm bs × (IsLetter bs → ⊥)
  out_of_range e (Formless f none) = cc (judged ∙ ap head_only f)
  out_of_range e (Forms w fits is) = ((w, fits, is), no_letter e)

  accepted : (m : Message) → judged_in bs ≡ Ok m → Formed bs → (l : Letter) × LetterFits l × (head_of_letter l ≡ m) × (bs ≡ letter_bytes l)
  accepted m e (Formless f none) = cc (judged ∙ ap head_only f)
  accepted m e (Forms w fits is) =
      let r = ranged_ok (in_range w) (letter_from w) m (sym (ap head_only (form_read bs w fits is)) ∙ sym judged ∙ e) in
      let i = in_form w fits r.0 in
      (letter_from w, i.fits, r.1, is ∙ i.bytes)

has_form : (bs : List ℕ) → IsLetter bs → HasForm bs
has_form bs l = let f = letter_form l.0 l.1 in (f.raw, f.fits, l.2 ∙ sym f.bytes)

pub refusals : Refusals
refusals = record {
  malformed = malformed;
  out_of_range = λ bs h e. out_of_range bs h e (formed_or_not bs h);
  accepted = λ bs m h e. accepted bs h m e (formed_or_not bs h);
  formed = has_form;
}
