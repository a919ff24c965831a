-- Stations and the air between them, and all that can happen.
use Rattle.std.specs.Prelude.{ℕ, zero, suc, cond, List, [], ◌∷◌, ◌++◌, Some, None, Option, ◌==◌}
use Rattle.council.specs.Quorum.{Members}
use Rattle.entry.specs.declared.entry.Entry.{Entry}
use Rattle.message.specs.Letter.{Letter}
use Rattle.steps.specs.Heads.{entered_head}
use Rattle.steps.specs.Steps.{Done, Outcome, Refused, View, asks, behind, closes, decides, gets, leads, proposes, stops, view}
use Rattle.store.specs.Store.{bare}

-- each station, and all that was ever sent, in the order in which it was
pub record World : Type 0 where
  pub view : ℕ → View
  pub air : List Letter

-- as it all begins: every station is given the first council, and the store is bare
abbrev pub opening : Members → World
opening ms = record { view = λ i. view (entered_head i 0 ms 0) [] [] bare bare; air = [] }

-- what can happen to a station. A letter may come late, twice, never or at another station: any that was sent, at any time;
-- `again`: it sends the begin of its own term again
pub data Happening : Type 0 where
  ask : (ballot : ℕ) → Happening
  get : (k : ℕ) → Happening
  lead : Happening
  propose : Entry → Happening
  decide : (k : ℕ) → Happening
  close : Happening
  stop : Happening
  again : Happening

-- the k-th letter of the air, if there is one
abbrev pub letter_at : List Letter → ℕ → Option Letter
letter_at [] k = None
letter_at (x ∷ air) zero = Some x
letter_at (x ∷ air) (suc k) = letter_at air k

abbrev pub gets_any : Option Letter → View → Outcome
gets_any None v = Done v [] []
gets_any (Some x) v = gets x v

-- what comes of it, with so much in the air
abbrev pub happens : Happening → List Letter → View → Outcome
happens (ask b) air v = asks b v
happens (get k) air v = gets_any (letter_at air k) v
happens lead air v = leads v
happens (propose e) air v = proposes e v
happens (decide k) air v = decides k v
happens close air v = closes v
happens stop air v = Done (stops v) [] []
happens again air v = Done v [] (behind 0 v)

-- the world after it: what is refused changes nothing, but the begin that it carries is sent
abbrev pub after : ℕ → Outcome → World → World
after i (Refused r begin) w = record { view = w.view; air = w.air ++ begin }
after i (Done u written sent) w = record { view = λ j. cond (j == i) u (w.view j); air = w.air ++ sent }

abbrev pub happened : ℕ → Happening → World → World
happened i x w = after i (happens x w.air (w.view i)) w

-- one happening after the other, each at a station
abbrev pub run : List (ℕ × Happening) → World → World
run [] w = w
run (x ∷ xs) w = run xs (happened x.0 x.1 w)
