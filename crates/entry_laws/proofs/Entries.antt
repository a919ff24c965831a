-- Entries that are in range, in bytes.
use Rattle.std.proofs.Common.{◌≡◌, ℕ, zero, suc, ◌+◌, ◌/◌, ◌%◌, ◌<◌, ◌≤◌, Bool, true, false, cond, not, ◌&&◌, eqb, ltb, List, [], ◌∷◌, ◌++◌, length, Some, None, sym, refl, ap, ◌∙◌, subst, ⊎_elim, arith}
use Rattle.wire.proofs.Exacts.{if_so, same_rest, same_value, split}
use Rattle.wire.specs.Bytes.{Read, ◌then◌}
use Rattle.wire.specs.Exact.{Bytes}
use Rattle.entry.specs.Entry.{Asks, Names, Raw, entry_bytes, entry_of, found_in, raw_bytes, raw_of}
use Rattle.entry.specs.Members.{Walk, listed, listing, members_in, walk, walked}
use Rattle.entry.specs.declared.entry.Entry.{Entry}
use Rattle.entry.specs.declared.entry.Entry.TheVariants.{Call, Close}
use Rattle.wire.specs.declared.judged.Judged.{Judged}
use Rattle.entry_laws.proofs.Sets.{refound, walks}
use Rattle.entry_laws.proofs.Shapes.{forms}
use Rattle.entry_laws.specs.Laws.{Entries, EntryFits, RawFits, accepted}
use Rattle.std.proofs.lemmas.Nat.{pow_pos}
use Rattle.std.proofs.lemmas.List.{append-nil, nil_from_length}
use Rattle.std.proofs.lemmas.Bool.{and_parts, cases_Bool, cond-false, cond-true, eqb-false, eqb-true, lt-ltb, ltb-true, ne_eqb, not-true}
use Rattle.store.specs.Ask.{key_of}

-- a listing of n stations from i on has at most n members, each a byte
pub listing_few : (n i s : ℕ) → length (listing n i s) ≤ n
unfolding listing
listing_few zero i s = omega arith
listing_few (suc n) i s =
    let few = listing_few n (i + 1) (s / 2) in
    let Goal = λ (ms : List ℕ). length ms ≤ suc n in
    ⊎_elim
    (λ (b : eqb (s % 2) 1 ≡ true). subst Goal (sym (cond-true (eqb (s % 2) 1) (i ∷ listing n (i + 1) (s / 2)) (listing n (i + 1) (s / 2)) b)) (omega arith))
    (λ (b : eqb (s % 2) 1 ≡ false). subst Goal (sym (cond-false (eqb (s % 2) 1) (i ∷ listing n (i + 1) (s / 2)) (listing n (i + 1) (s / 2)) b)) (omega arith))
    (cases_Bool (eqb (s % 2) 1))

pub listing_bytes : (n i s : ℕ) → i + n ≤ 256 → Bytes (listing n i s)
unfolding listing
listing_bytes zero i s h = tt
listing_bytes (suc n) i s h =
    let more = listing_bytes n (i + 1) (s / 2) (omega arith) in
    ⊎_elim
    (λ (b : eqb (s % 2) 1 ≡ true). subst Bytes (sym (cond-true (eqb (s % 2) 1) (i ∷ listing n (i + 1) (s / 2)) (listing n (i + 1) (s / 2)) b)) (omega arith, more))
    (λ (b : eqb (s % 2) 1 ≡ false). subst Bytes (sym (cond-false (eqb (s % 2) 1) (i ∷ listing n (i + 1) (s / 2)) (listing n (i + 1) (s / 2)) b)) more)
    (cases_Bool (eqb (s % 2) 1))

walk_none : (n i found : ℕ) → walk n i (walked found []) ≡ walked found []
unfolding walk
walk_none zero i found = refl
walk_none (suc n) i found = walk_none n (i + 1) found

listing_none : (n i : ℕ) → listing n i 0 ≡ []
unfolding listing
listing_none zero i = refl
listing_none (suc n) i = listing_none n (i + 1)

-- a council's set, listed, is that council
pub members_back : (s : ℕ) → 0 < s → s < 65536 → members_in (listed s) ≡ record { value = s; sound = true }
unfolding members_in
members_back s some small =
    let w = refound 16 0 0 s (pow_pos 0) small in
    let set_is : (walk 16 0 (walked 0 (listed s))).set ≡ s = ap (λ (x : Walk). x.set) w ∙ (omega arith) in
    let long : eqb (length (listed s)) 0 ≡ false =
    ne_eqb (length (listed s)) 0 (λ e.
    let empty = ap (λ (ms : List ℕ). (walk 16 0 (walked 0 ms)).set) (nil_from_length (listed s) e) in
    let z : s ≡ 0 = sym set_is ∙ empty ∙ ap (λ (x : Walk). x.set) (walk_none 16 0 0) in
    omega arith) in
    let used = ap (λ (x : Walk). eqb (length x.left) 0) w in
    let sound-is : (eqb (length (walk 16 0 (walked 0 (listed s))).left) 0 && not (eqb (length (listed s)) 0)) ≡ true =
    ap (λ (b : Bool). b && not (eqb (length (listed s)) 0)) used ∙ ap (λ (b : Bool). true && not b) long in
    λ i. record { value = set_is i; sound = sound-is i }

-- a list that is a council is the listing of its set
pub members_only : (ms : List ℕ) → (members_in ms).sound ≡ true → ((0 < (members_in ms).value) × ((members_in ms).value < 65536)) × (listed (members_in ms).value ≡ ms)
unfolding members_in
members_only ms h =
    let x = walk 16 0 (walked 0 ms) in
    let p = and_parts (eqb (length x.left) 0) (not (eqb (length ms) 0)) h in
    let w = walks 16 0 0 ms (pow_pos 0) in
    let v = w.bits in
    let is : x.set ≡ v = w.set ∙ (omega arith) in
    let all : ms ≡ listing 16 0 v = w.split ∙ ap (λ (l : List ℕ). listing 16 0 v ++ l) (nil_from_length x.left (eqb-true (length x.left) 0 p.0)) ∙ append-nil (listing 16 0 v) in
    let some : v ≡ 0 → ⊥ = λ z. eqb-false (length ms) 0 (not-true (eqb (length ms) 0) p.1) (ap length (all ∙ ap (listing 16 0) z ∙ listing_none 16 0)) in
    let small = w.below in
    ((subst (λ (k : ℕ). 0 < k) (sym is) (omega arith), subst (λ (k : ℕ). k < 65536) (sym is) small), ap (listing 16 0) is ∙ sym all)

-- an entry of the right form that is in range is an entry, and its bytes are those that are written of it
pub raw_entry : (w : Raw) → RawFits w → (found_in w).sound ≡ true → EntryFits (found_in w).value × (raw_bytes w ≡ entry_bytes (found_in w).value)
raw_entry (Asks r) h b = ((h, ltb-true (key_of r.ask) 1024 b), refl)
raw_entry (Names ms) h b = let m = members_only ms b in (m.0, ap (λ (l : List ℕ). 2 ∷ (length l ∷ l)) (sym m.1))

entry_only : (bs : List ℕ) (e : Entry) (rest : List ℕ) → Bytes bs → accepted bs ≡ Some (e, rest) → EntryFits e × (bs ≡ entry_bytes e ++ rest)
entry_only bs e rest h a =
    let s = split (entry_of bs) _ (e, rest) a in
    let t = split (raw_of bs) _ (s.value, s.rest) s.first in
    let o = forms.only bs t.value t.rest h t.first in
    let d = if_so s.value.sound (s.value.value, s.rest) (e, rest) s.second in
    let f = same_value t.second in
    let w = raw_entry t.value o.0 (ap (λ (x : Judged Entry). x.sound) f ∙ d.0) in
    let is = ap (λ (x : Judged Entry). x.value) f ∙ ap (λ (p : Entry × List ℕ). p.0) d.1 in
    let behind = same_rest t.second ∙ ap (λ (p : Entry × List ℕ). p.1) d.1 in
    (subst EntryFits is w.0, o.1 ∙ ap (λ (l : List ℕ). l ++ t.rest) (w.1 ∙ ap entry_bytes is) ∙ ap (λ (l : List ℕ). entry_bytes e ++ l) behind)

entry_back : (e : Entry) (rest : List ℕ) → EntryFits e → accepted (entry_bytes e ++ rest) ≡ Some (e, rest)
entry_back (Call r) rest h =
    ap (λ (o : Read Raw). (o then λ w bs. Some (found_in w, bs)) then λ f bs. cond f.sound (Some (f.value, bs)) None) (forms.back (Asks r) rest h.0) ∙
    cond-true (ltb (key_of r.ask) 1024) (Some (Call r, rest)) None (lt-ltb (key_of r.ask) 1024 h.1)
entry_back (Close s) rest h =
    ap (λ (o : Read Raw). (o then λ w bs. Some (found_in w, bs)) then λ f bs. cond f.sound (Some (f.value, bs)) None) (forms.back (Names (listed s)) rest (listing_few 16 0 s, listing_bytes 16 0 s (omega arith))) ∙
    ap (λ (m : Judged ℕ). cond m.sound (Some (Close m.value, rest)) None) (members_back s (let some = h.0 in omega arith) h.1)

pub entries : Entries
entries = record { back = entry_back; only = entry_only }
