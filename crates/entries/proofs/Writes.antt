-- Entries written one behind the other.
use Rattle.std.proofs.Common.{◌≡◌, ℕ, ◌+◌, ◌<◌, ◌≤◌, ltb, List, length, get_or, drop, Some, None, Option, refl, ◌∙◌, arith}
use Rattle.wire.proofs.Joined.{joined-from, length-joined-from}
use Rattle.wire.proofs.Over.{placed_next}
use Rattle.wire.specs.Bytes.{placed, placed_at}
use Rattle.entries.specs.Entries.{entries_bytes}
use Rattle.entry.specs.Entry.{entry_bytes}
use Rattle.entry.specs.declared.entry.Entry.{Entry}
use Rattle.std.proofs.lemmas.Bool.{cond-false, le-ltb}

module _ (out : List ℕ) (at : ℕ) (es : List Entry) (i : ℕ) (d : Entry) (more : i < length es) (room : at + length (entries_bytes (drop i es)) ≤ length out) where
  abbrev first : List ℕ
  first = entry_bytes (get_or es i d)

  -- there is room for the first of them
  pub first_fits : (end : Option ℕ) → end ≡ placed (length out) at (length first) → end ≡ Some (at + length first)
  first_fits end e =
      let n = length-joined-from entry_bytes es i d (length first) more refl in
      e ∙ cond-false (ltb (length out) (at + length first)) None (Some (at + length first)) (le-ltb (length out) (at + length first) (omega arith))

  -- the others behind it
  pub record Wrote (is : List ℕ) (next : ℕ) : Type 0 where
    pub bytes : placed_at is next (entries_bytes (drop (i + 1) es)) ≡ placed_at out at (entries_bytes (drop i es))
    pub end : next + length (entries_bytes (drop (i + 1) es)) ≡ at + length (entries_bytes (drop i es))

  pub wrote : (is : List ℕ) (next : ℕ) → is ≡ placed_at out at first → next ≡ at + length first → Wrote is next
  wrote is next w e =
      let n = length-joined-from entry_bytes es i d (length first) more refl in
      record { bytes = placed_next out is _ first _ at next (joined-from entry_bytes es i d first more refl) room w e; end = omega arith }
