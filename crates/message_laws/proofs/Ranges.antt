-- Forms that are in range, and the letters that they are.
use Rattle.std.proofs.Common.{◌≡◌, ℕ, ◌<◌, ◌≤◌, Bool, true, ◌&&◌, List, [], ◌∷◌, ◌++◌, map, length, refl, ap, ◌∙◌, arith}
use Rattle.wire.specs.Exact.{Bytes}
use Rattle.wire.specs.declared.judged.Judged.{Judged}
use Rattle.wire.specs.Several.{after, joined}
use Rattle.entries.specs.Entries.{entries_in, sound_too}
use Rattle.entry.specs.Entry.{Asks, Names, Raw, entry_bytes, found_in, raw_bytes}
use Rattle.entry.specs.Members.{listed, members_in}
use Rattle.entry.specs.declared.entry.Entry.{Entry}
use Rattle.entry.specs.declared.entry.Entry.TheVariants.{Call, Close}
use Rattle.entry_laws.proofs.Entries.{listing_bytes, listing_few, members_back, raw_entry}
use Rattle.entry_laws.specs.Laws.{EntryFits, RawFits}
use Rattle.std.proofs.lemmas.Bool.{and_parts, lt-ltb}
use Rattle.std.specs.List.{AllByRecursion}
use Rattle.store.specs.Ask.{key_of}

-- a council's set, listed, is that council
pub record Council (s : ℕ) : Type 0 where
  pub few : length (listed s) ≤ 16
  pub bytes : Bytes (listed s)
  pub sound : (members_in (listed s)).sound ≡ true
  pub set : (members_in (listed s)).value ≡ s

pub council : (s : ℕ) → 0 < s → s < 65536 → Council s
council s some_one small =
    let m = members_back s some_one small in
    record { few = listing_few 16 0 s; bytes = listing_bytes 16 0 s (omega arith); sound = ap (λ (j : Judged ℕ). j.sound) m; set = ap (λ (j : Judged ℕ). j.value) m }

-- an entry that fits has a form
pub record EntryForm (e : Entry) : Type 0 where
  pub raw : Raw
  pub fits : RawFits raw
  pub sound : (found_in raw).sound ≡ true
  pub entry : (found_in raw).value ≡ e
  pub bytes : raw_bytes raw ≡ entry_bytes e

entry_form : (e : Entry) → EntryFits e → EntryForm e
entry_form (Call r) h = record { raw = Asks r; fits = h.0; sound = lt-ltb (key_of r.ask) 1024 h.1; entry = refl; bytes = refl }
entry_form (Close s) h = let c = council s h.0 h.1 in record { raw = Names (listed s); fits = (c.few, c.bytes); sound = c.sound; entry = ap Close c.set; bytes = refl }

pub record EntryForms (es : List Entry) : Type 0 where
  pub raws : List Raw
  pub fits : AllByRecursion RawFits raws
  pub long : length raws ≡ length es
  pub sound : after sound_too true (map found_in raws) ≡ true
  pub entries : entries_in (map found_in raws) ≡ es
  pub bytes : joined raw_bytes raws ≡ joined entry_bytes es

pub entry_forms : (es : List Entry) → AllByRecursion EntryFits es → EntryForms es
unfolding after joined
entry_forms [] h = record { raws = []; fits = tt; long = refl; sound = refl; entries = refl; bytes = refl }
entry_forms (e ∷ es) h =
    let f = entry_form e h.0 in
    let g = entry_forms es h.1 in
    let long = g.long in
    record {
      raws = f.raw ∷ g.raws;
      fits = (f.fits, g.fits);
      long = omega arith;
      sound = ap (λ (b : Bool). after sound_too (true && b) (map found_in g.raws)) f.sound ∙ g.sound;
      entries = ap (λ (x : Entry). x ∷ entries_in (map found_in g.raws)) f.entry ∙ ap (λ (xs : List Entry). e ∷ xs) g.entries;
      bytes = ap (λ (l : List ℕ). l ++ joined raw_bytes g.raws) f.bytes ∙ ap (λ (l : List ℕ). entry_bytes e ++ l) g.bytes;
    }

-- and forms that are in range are those of entries that fit
pub record RawEntries (ws : List Raw) (ok : Bool) : Type 0 where
  pub before : ok ≡ true
  pub fits : AllByRecursion EntryFits (entries_in (map found_in ws))
  pub bytes : joined raw_bytes ws ≡ joined entry_bytes (entries_in (map found_in ws))

pub raw_entries : (ws : List Raw) (ok : Bool) → AllByRecursion RawFits ws → after sound_too ok (map found_in ws) ≡ true → RawEntries ws ok
unfolding after joined
raw_entries [] ok h e = record { before = e; fits = tt; bytes = refl }
raw_entries (w ∷ ws) ok h e =
    let i = raw_entries ws (ok && (found_in w).sound) h.1 e in
    let p = and_parts ok (found_in w).sound i.before in
    let r = raw_entry w h.0 p.1 in
    record {
      before = p.0;
      fits = (r.0, i.fits);
      bytes = ap (λ (l : List ℕ). l ++ joined raw_bytes ws) r.1 ∙ ap (λ (l : List ℕ). entry_bytes (found_in w).value ++ l) i.bytes;
    }
