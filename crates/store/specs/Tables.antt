-- The store that lent tables hold.
use Rattle.std.specs.Prelude.{◌≡◌}
use Rattle.store.specs.Store.{Store, tables}
use Rattle.store.specs.declared.tables.Tables.{Tables}
use Rattle.store.specs.declared.tables.TablesMut.{TablesMut}

abbrev pub held : Tables → Store
held t = tables t.shelves.now t.lasts.now t.words.now

abbrev pub held_mut : TablesMut → Store
held_mut t = tables t.shelves.now t.lasts.now t.words.now

-- they are lent the same slices as before: what is written through them is written there
pub record SameLoans (before after : TablesMut) : Type 0 where
  pub shelves : after.shelves.ghost_name ≡ before.shelves.ghost_name
  pub lasts : after.lasts.ghost_name ≡ before.lasts.ghost_name
  pub words : after.words.ghost_name ≡ before.words.ghost_name
