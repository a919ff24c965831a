-- Messages in bytes, in range or not.
use Rattle.std.proofs.Common.{◌≡◌, ℕ, ◌+◌, cond, eqb, ltb, List, [], ◌∷◌, ◌++◌, length, Some, None, sym, refl, ap, ◌∙◌, subst, arith}
use Rattle.wire.proofs.Exacts.{by_kind, four_exact, one_exact, same_rest, same_value, split, two_exact, within}
use Rattle.wire.proofs.Runs.{several_exact, took}
use Rattle.wire.specs.Bytes.{Read, ◌then◌, four, four_bytes, one, two, two_bytes}
use Rattle.wire.specs.Exact.{Bytes, Exact}
use Rattle.wire.specs.Several.{joined, several}
use Rattle.entry.specs.Entry.{Raw, raw_bytes, raw_of}
use Rattle.entry.specs.Members.{list_bytes, list_of}
use Rattle.entry_laws.proofs.Shapes.{forms, list_exact}
use Rattle.message_laws.specs.Laws.{RawAsks, RawBegins, RawLetter, RawLetterFits, RawParts, RawPromises, RawTakes, raw_letter_bytes}
use Rattle.page.specs.Page.{RawPage, raw_page_bytes, raw_page_of}
use Rattle.page_laws.proofs.Forms.{page_forms}
use Rattle.std.proofs.lemmas.List.{append_assoc}
use Rattle.std.proofs.lemmas.Nat.{div-add-mod'}
use Rattle.std.proofs.lemmas.Bool.{cond-false, le-ltb}

-- each kind as it stands in bytes, behind the byte for its kind
abbrev pub raw_ask_of : List ℕ → Read RawLetter
raw_ask_of bs = two bs then λ term bs. four bs then λ ballot bs. Some (RawAsks term ballot, bs)

abbrev pub raw_promise_of : List ℕ → Read RawLetter
raw_promise_of bs =
    two bs then λ term bs. four bs then λ ballot bs. one bs then λ from bs. four bs then λ had bs. two bs then λ count bs.
    cond (ltb 4096 count) None (several raw_of count bs then λ log bs. Some (RawPromises term ballot from had log, bs))

abbrev pub raw_part_of : List ℕ → Read RawLetter
raw_part_of bs =
    two bs then λ term bs. four bs then λ ballot bs. two bs then λ place bs. two bs then λ count bs.
    cond (ltb 4096 (place + count)) None (several raw_of count bs then λ es bs. Some (RawParts term ballot place es, bs))

abbrev pub raw_took_of : List ℕ → Read RawLetter
raw_took_of bs =
    two bs then λ term bs. four bs then λ ballot bs. one bs then λ from bs. two bs then λ count bs.
    cond (ltb 4096 count) None (Some (RawTakes term ballot from count, bs))

abbrev pub raw_begin_of : List ℕ → Read RawLetter
raw_begin_of bs = two bs then λ term bs. list_of bs then λ members bs. raw_page_of bs then λ page bs. Some (RawBegins term members page, bs)

abbrev pub raw_kind_of : ℕ → List ℕ → Read RawLetter
raw_kind_of kind bs =
    cond (eqb kind 3) (raw_ask_of bs) (cond (eqb kind 4) (raw_promise_of bs) (cond (eqb kind 5) (raw_part_of bs) (cond (eqb kind 6) (raw_took_of bs) (cond (eqb kind 7) (raw_begin_of bs) None))))

abbrev pub raw_letter_of : List ℕ → Read RawLetter
raw_letter_of bs = one bs then λ kind bs. raw_kind_of kind bs

-- a field read behind those bytes that were read before it
field : {A B : Type 0} {r : List ℕ → Read A} {w : A → List ℕ} {F : A → Type 0} → Exact r w F → (Goal : List ℕ → Type 0) (before bs : List ℕ) (k : A → List ℕ → Read B) (y : B × List ℕ) → Bytes bs → (r bs then k) ≡ Some y →
    ((a : A) (more : List ℕ) → F a → Bytes more → k a more ≡ Some y → Goal ((before ++ w a) ++ more)) → Goal (before ++ bs)
field {r = r} {w = w} x Goal before bs k y h e next =
    let s = split (r bs) k y e in
    let t = took x bs s.value s.rest h s.first in
    subst Goal (append_assoc before (w s.value) s.rest ∙ ap (λ (l : List ℕ). before ++ l) (sym t.is)) (next s.value s.rest t.fits t.behind s.second)

-- the letter that was read is the one that was made
abbrev Is : RawLetter → List ℕ → List ℕ → Type 0
Is w rest bs = RawLetterFits w × (bs ≡ raw_letter_bytes w ++ rest)

made_is : (v w : RawLetter) (more rest bs : List ℕ) → ◌≡◌ {A = Read RawLetter} (Some (v, more)) (Some (w, rest)) → RawLetterFits v → bs ≡ raw_letter_bytes v ++ more → Is w rest bs
made_is v w more rest bs e h is = subst (λ (u : RawLetter). Is u rest bs) (same_value e) (h, is ∙ ap (λ (l : List ℕ). raw_letter_bytes v ++ l) (same_rest e))

ask_only : (w : RawLetter) (rest bs : List ℕ) → Bytes bs → raw_ask_of bs ≡ Some (w, rest) → Is w rest (3 ∷ bs)
ask_only w rest bs h e =
    field two_exact (Is w rest) (3 ∷ []) bs _ _ h e (λ term bs i h e.
    field four_exact (Is w rest) (3 ∷ two_bytes term) bs _ _ h e (λ ballot bs j h e.
    made_is (RawAsks term ballot) w bs rest _ e (i, j) refl))

promise_only : (w : RawLetter) (rest bs : List ℕ) → Bytes bs → raw_promise_of bs ≡ Some (w, rest) → Is w rest (4 ∷ bs)
promise_only w rest bs h e =
    field two_exact (Is w rest) (4 ∷ []) bs _ _ h e (λ term bs i h e.
    field four_exact (Is w rest) (4 ∷ two_bytes term) bs _ _ h e (λ ballot bs j h e.
    field one_exact (Is w rest) (4 ∷ (two_bytes term ++ four_bytes ballot)) bs _ _ h e (λ from bs k h e.
    field four_exact (Is w rest) (4 ∷ (two_bytes term ++ (four_bytes ballot ++ (from ∷ [])))) bs _ _ h e (λ had bs l h e.
    field two_exact (Is w rest) (4 ∷ (two_bytes term ++ (four_bytes ballot ++ (from ∷ four_bytes had)))) bs _ _ h e (λ count bs m h e.
    let head = λ (n : ℕ). 4 ∷ (two_bytes term ++ (four_bytes ballot ++ (from ∷ (four_bytes had ++ two_bytes n)))) in
    within (Is w rest (head count ++ bs)) 4096 count _ _ e (λ few e.
    field (several_exact forms count) (Is w rest) (head count) bs _ _ h e (λ log bs o h e.
    let long = o.0 in
    made_is (RawPromises term ballot from had log) w bs rest _ e (i, j, k, l, (omega arith), o.1) (ap (λ (n : ℕ). (head n ++ joined raw_bytes log) ++ bs) (sym long)))))))))

part_only : (w : RawLetter) (rest bs : List ℕ) → Bytes bs → raw_part_of bs ≡ Some (w, rest) → Is w rest (5 ∷ bs)
part_only w rest bs h e =
    field two_exact (Is w rest) (5 ∷ []) bs _ _ h e (λ term bs i h e.
    field four_exact (Is w rest) (5 ∷ two_bytes term) bs _ _ h e (λ ballot bs j h e.
    field two_exact (Is w rest) (5 ∷ (two_bytes term ++ four_bytes ballot)) bs _ _ h e (λ place bs k h e.
    field two_exact (Is w rest) (5 ∷ (two_bytes term ++ (four_bytes ballot ++ two_bytes place))) bs _ _ h e (λ count bs m h e.
    let head = λ (n : ℕ). 5 ∷ (two_bytes term ++ (four_bytes ballot ++ (two_bytes place ++ two_bytes n))) in
    within (Is w rest (head count ++ bs)) 4096 (place + count) _ _ e (λ few e.
    field (several_exact forms count) (Is w rest) (head count) bs _ _ h e (λ es bs o h e.
    let long = o.0 in
    made_is (RawParts term ballot place es) w bs rest _ e (i, j, (omega arith), o.1) (ap (λ (n : ℕ). (head n ++ joined raw_bytes es) ++ bs) (sym long))))))))

took_only : (w : RawLetter) (rest bs : List ℕ) → Bytes bs → raw_took_of bs ≡ Some (w, rest) → Is w rest (6 ∷ bs)
took_only w rest bs h e =
    field two_exact (Is w rest) (6 ∷ []) bs _ _ h e (λ term bs i h e.
    field four_exact (Is w rest) (6 ∷ two_bytes term) bs _ _ h e (λ ballot bs j h e.
    field one_exact (Is w rest) (6 ∷ (two_bytes term ++ four_bytes ballot)) bs _ _ h e (λ from bs k h e.
    field two_exact (Is w rest) (6 ∷ (two_bytes term ++ (four_bytes ballot ++ (from ∷ [])))) bs _ _ h e (λ count bs m h e.
    within (Is w rest (6 ∷ (two_bytes term ++ (four_bytes ballot ++ (from ∷ (two_bytes count ++ bs)))))) 4096 count _ _ e (λ few e.
    made_is (RawTakes term ballot from count) w bs rest _ e (i, j, k, (omega arith)) refl)))))

begin_only : (w : RawLetter) (rest bs : List ℕ) → Bytes bs → raw_begin_of bs ≡ Some (w, rest) → Is w rest (7 ∷ bs)
begin_only w rest bs h e =
    field two_exact (Is w rest) (7 ∷ []) bs _ _ h e (λ term bs i h e.
    field list_exact (Is w rest) (7 ∷ two_bytes term) bs _ _ h e (λ members bs j h e.
    field page_forms (Is w rest) (7 ∷ (two_bytes term ++ list_bytes members)) bs _ _ h e (λ page bs k h e.
    made_is (RawBegins term members page) w bs rest _ e (i, j.0, j.1, k) refl)))

kind_only : (w : RawLetter) (rest bs : List ℕ) (kind : ℕ) → Bytes bs → raw_kind_of kind bs ≡ Some (w, rest) → Is w rest (kind ∷ bs)
kind_only w rest bs kind h e =
    let Goal = λ (k : ℕ). Is w rest (k ∷ bs) in
    by_kind Goal kind 3 _ _ _ e (ask_only w rest bs h) (λ e.
    by_kind Goal kind 4 _ _ _ e (promise_only w rest bs h) (λ e.
    by_kind Goal kind 5 _ _ _ e (part_only w rest bs h) (λ e.
    by_kind Goal kind 6 _ _ _ e (took_only w rest bs h) (λ e.
    by_kind Goal kind 7 _ _ _ e (begin_only w rest bs h) (λ e. cc)))))

raw_only : (bs : List ℕ) (w : RawLetter) (rest : List ℕ) → Bytes bs → raw_letter_of bs ≡ Some (w, rest) → Is w rest bs
raw_only bs w rest h e = field one_exact (Is w rest) [] bs _ _ h e (λ kind bs i h e. kind_only w rest bs kind h e)

raw_back : (w : RawLetter) (rest : List ℕ) → RawLetterFits w → raw_letter_of (raw_letter_bytes w ++ rest) ≡ Some (w, rest)
raw_back (RawAsks t b) rest h = simp div-add-mod'
raw_back (RawPromises t b from had log) rest h =
    let c = length log in
    simp div-add-mod' (cond-false (ltb 4096 c) None _ (le-ltb 4096 c h.4) ∙ ap (λ (o : Read (List Raw)). o then λ log bs. Some (RawPromises t b from had log, bs)) ((several_exact forms c).back log rest (refl, h.5)))
raw_back (RawParts t b place es) rest h =
    let c = length es in
    simp div-add-mod' (cond-false (ltb 4096 (place + c)) None _ (le-ltb 4096 (place + c) h.2) ∙ ap (λ (o : Read (List Raw)). o then λ es bs. Some (RawParts t b place es, bs)) ((several_exact forms c).back es rest (refl, h.3)))
raw_back (RawTakes t b from c) rest h = let few = h.3 in simp div-add-mod' (cond-false (ltb 4096 c) None (Some (RawTakes t b from c, rest)) (le-ltb 4096 c (omega arith)))
raw_back (RawBegins t ms p) rest h =
    ap (λ (l : List ℕ). raw_letter_of (7 ∷ (two_bytes t ++ (length ms ∷ l)))) (append_assoc ms (raw_page_bytes p) rest) ∙ simp div-add-mod'
    (ap (λ (o : Read (List ℕ)). o then λ ms bs. raw_page_of bs then λ page bs. Some (RawBegins t ms page, bs)) (list_exact.back ms (raw_page_bytes p ++ rest) (h.1, h.2)) ∙
    ap (λ (o : Read RawPage). o then λ page bs. Some (RawBegins t ms page, bs)) (page_forms.back p rest h.3))

pub raw_exact : Exact raw_letter_of raw_letter_bytes RawLetterFits
raw_exact = record { back = raw_back; only = raw_only }
