-- The tables of a store against their plainer reading, functions from number to number.
use Rattle.std.specs.Prelude.{◌≡◌, ℕ, ◌+◌, Bool, true, cond, ◌&&◌, List, [], ◌∷◌, ◌==◌, nat_lt}
use Rattle.store.specs.Ask.{key_of, leaves, says}
use Rattle.store.specs.declared.request.Request.{Request}
use Rattle.store.specs.Store.{Store, bare, whole, shelf, last, word, played}

pub record Reading : Type 0 where
  pub shelf : ℕ → ℕ
  pub last : ℕ → ℕ
  pub word : ℕ → ℕ

-- a table as a function, with 0 past its end
abbrev pub reading : Store → Reading
reading s = record { shelf = shelf s; last = last s; word = word s }

-- all as it was, but y at x
abbrev pub at : ℕ → ℕ → (ℕ → ℕ) → ℕ → ℕ
at x y f n = cond (n == x) y (f n)

-- a key up to 1,023, a client up to 255, a number that counts on
abbrev pub due : Request → Reading → Bool
due r m = nat_lt (key_of r.ask) 1024 && (nat_lt r.client 256 && r.number == m.last r.client + 1)

abbrev pub act : Request → Reading → Reading
act r m =
    cond (due r m)
    (record {
      shelf = at (key_of r.ask) (leaves r.ask (m.shelf (key_of r.ask))) m.shelf;
      last = at r.client r.number m.last;
      word = at r.client (says r.ask (m.shelf (key_of r.ask))) m.word;
    })
    m

abbrev pub acted : Reading → List Request → Reading
acted m [] = m
acted m (r ∷ rs) = acted (act r m) rs

-- Tables of the right lengths keep them, and read as what the requests make of their reading; a register begins with 0 everywhere.
pub record ReadsAs : Type 0 where
  pub stays_whole : (s : Store) (rs : List Request) → whole s ≡ true → whole (played s rs) ≡ true
  pub reads : (s : Store) (rs : List Request) → whole s ≡ true → reading (played s rs) ≡ acted (reading s) rs
  pub begins : (whole bare ≡ true) × (reading bare ≡ record { shelf = λ k. 0; last = λ c. 0; word = λ c. 0 })
