-- What a contract sees of a listing.
use Rattle.std.specs.Prelude.{ℕ, List}

-- the places, how many of them count, and the stations in those
pub record Listing : Type 0 where
  pub stations : List ℕ
  pub len : ℕ
  pub items : List ℕ
