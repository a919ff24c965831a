-- What holds of every store and every list of requests. No law looks at the kind of a request.
-- `last s c` is the number of client c's last request done, `word s c` the word that it got (crate store).
use Rattle.std.specs.Prelude.{◌≡◌, ℕ, zero, suc, ◌+◌, ◌-◌, ◌<◌, ◌≤◌, true, false, cond, ◌&&◌, List, [], ◌∷◌, ◌++◌, Ok, ◌==◌, ◌≢◌}
use Rattle.store.specs.declared.request.Request.{Request}
use Rattle.store.specs.Store.{Store, last, word, outcome, done, applied, played, bare}

-- A request that isn't its client's next changes nothing.
abbrev pub OnlyNext : Type 0
OnlyNext = (s : Store) (r : Request) → (r.number ≢ last s r.client + 1) → applied r s ≡ s

-- So one that was done is done once: wherever a request with its client and number, asking the same or not,
-- stands behind it, it is refused and changes nothing.
abbrev pub Once : Type 0
Once =
    (s : Store) (before after : List Request) (r again : Request) → done r (played s before) ≡ true →
    again.client ≡ r.client → again.number ≡ r.number →
    (done again (played s (before ++ (r ∷ after))) ≡ false) × (applied again (played s (before ++ (r ∷ after))) ≡ played s (before ++ (r ∷ after)))

-- A client's last never falls.
abbrev pub NeverFalls : Type 0
NeverFalls = (s : Store) (rs : List Request) (c : ℕ) → last s c ≤ last (played s rs) c

-- the numbers of a client's requests that are done, in the order in which they are
abbrev pub numbers : ℕ → Store → List Request → List ℕ
numbers c s [] = []
numbers c s (r ∷ rs) = cond (r.client == c && done r s) (r.number ∷ []) [] ++ numbers c (applied r s) rs

-- the next n numbers above a, rising
abbrev pub following : ℕ → ℕ → List ℕ
following a zero = []
following a (suc n) = (a + 1) ∷ following (a + 1) n

-- A client's requests are done in the order of their numbers, each once and none left out:
-- on from its last, and in a register from its beginning 1, 2, .., last.
abbrev pub InTurn : Type 0
InTurn =
    (rs : List Request) (c : ℕ) → ((s : Store) → numbers c s rs ≡ following (last s c) (last (played s rs) c - last s c)) ×
    (numbers c bare rs ≡ following 0 (last (played bare rs) c))

-- where client c's last request stands in a list: it was done there, and got the word that is kept
pub record Got (s : Store) (rs : List Request) (c : ℕ) : Type 0 where
  pub before : List Request
  pub request : Request
  pub after : List Request
  pub split : rs ≡ before ++ (request ∷ after)
  pub client : request.client ≡ c
  pub number : request.number ≡ last (played s rs) c
  pub got : outcome request (played s before) ≡ Ok (word (played s rs) c)

-- The word kept for a client's last request is the one that it got where it was done;
-- of a client of whom nothing was done the word stays.
abbrev pub KeepsWord : Type 0
KeepsWord =
    (s : Store) (rs : List Request) (c : ℕ) → (last s c < last (played s rs) c → Got s rs c) ×
    (last (played s rs) c ≡ last s c → word (played s rs) c ≡ word s c)
