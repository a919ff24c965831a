-- Worked cases: rows of a table, each what happens and what stands then.
use Rattle.std.specs.Prelude.{◌≡◌, ℕ, ◌-◌, Bool, true, false, ◌&&◌, List, [], ◌∷◌, ◌++◌, Ok, Err, Result, ◌==◌}
use Rattle.entry.specs.declared.entry.Entry.{Entry}
use Rattle.entry.specs.declared.entry.Entry.TheVariants.{Call, Close}
use Rattle.steps.specs.Refusal.{number_of}
use Rattle.steps.specs.Same.{same_entry}
use Rattle.steps.specs.Steps.{Done, Outcome, Refused, answers}
use Rattle.steps.specs.declared.refusal.Refusal.{Refusal}
use Rattle.steps_laws.specs.World.{Happening, World, after, ask, close, decide, get, happens, lead, opening, propose, stop}
use Rattle.store.specs.Store.{shelf}
use Rattle.store.specs.declared.ask.Ask.TheVariants.{Put, Take}

-- a line: something happens to a station, or a message comes to it; messages are numbered from 1 as they are sent
pub data Line : Type 0 where
  does : (station : ℕ) → Happening → Line
  deliver : (station message : ℕ) → Line

-- the number of a refusal, 0 for none
abbrev pub refused_by : Outcome → ℕ
refused_by (Refused r begin) = number_of r
refused_by (Done u written sent) = 0

-- a world, and the number that the last line got
pub record Played : Type 0 where
  pub world : World
  pub number : ℕ

abbrev pub turned : ℕ → Outcome → World → Played
turned i o w = record { world = after i o w; number = refused_by o }

abbrev pub play_line : Line → World → Played
play_line (does i x) w = turned i (happens x w.air (w.view i)) w
play_line (deliver i m) w = turned i (happens (get (m - 1)) w.air (w.view i)) w

abbrev pub play_lines : List Line → Played → Played
play_lines [] p = p
play_lines (l ∷ ls) p = play_lines ls (play_line l p.world)

-- what a row expects of a station
pub data Expect : Type 0 where
  sure : (station count : ℕ) → Expect
  log : (station ballot : ℕ) → List Entry → Expect
  word : (station client number word : ℕ) → Expect
  holds : (station key number : ℕ) → Expect
  council : (station term members : ℕ) → Expect
  asking : (station ballot : ℕ) → Expect
  leading : (station ballot : ℕ) → Expect
  refused : (number : ℕ) → Expect

abbrev pub same_entries : List Entry → List Entry → Bool
same_entries [] [] = true
same_entries [] (f ∷ fs) = false
same_entries (e ∷ es) [] = false
same_entries (e ∷ es) (f ∷ fs) = same_entry e f && same_entries es fs

abbrev pub is_word : Result ℕ Refusal → ℕ → Bool
is_word (Ok w) k = w == k
is_word (Err r) k = false

abbrev pub stands : Played → Expect → Bool
stands p (sure i k) = (p.world.view i).head.sure == k
stands p (log i b es) = (p.world.view i).head.ballot == b && same_entries (p.world.view i).log es
stands p (word i c n w) = is_word (answers c n (p.world.view i).live) w
stands p (holds i k n) = shelf (p.world.view i).live k == n
stands p (council i t ms) = (p.world.view i).head.term == t && (p.world.view i).head.members == ms
stands p (asking i b) = (p.world.view i).head.asking == b
stands p (leading i b) = (p.world.view i).head.leading == b
stands p (refused n) = p.number == n

abbrev pub all_stand : Played → List Expect → Bool
all_stand p [] = true
all_stand p (x ∷ xs) = stands p x && all_stand p xs

-- a row: the lines, from the council 0, 1, 2 on, and what stands then
pub record Row : Type 0 where
  pub lines : List Line
  pub expects : List Expect

unfoldable pub row_stands : Row → Bool
row_stands r = all_stand (play_lines r.lines (record { world = opening 7; number = 0 })) r.expects

-- the entries of the cases
abbrev pub first : Entry
first = Call (record { client = 1; number = 1; ask = Put 7 5 })

abbrev pub another : Entry
another = Call (record { client = 2; number = 1; ask = Put 8 1 })

abbrev pub twice : Entry
twice = Call (record { client = 1; number = 1; ask = Take 7 9 })

abbrev pub second : Entry
second = Call (record { client = 1; number = 2; ask = Take 7 9 })

-- station 0 asks for 16, all promise, it leads with nothing and proposes client 1's request 1
abbrev pub proposed : List Line
proposed =
    does 0 (ask 16) ∷ deliver 0 1 ∷ deliver 1 1 ∷ deliver 2 1 ∷ deliver 0 3 ∷ deliver 0 4 ∷ does 0 lead ∷ does 0 (propose first) ∷ []

-- station 1 takes it, and station 0 decides
abbrev pub taken : List Line
taken = proposed ++ (deliver 1 7 ∷ deliver 0 9 ∷ does 0 (decide 1) ∷ [])

-- A: one entry is sure at 0, and the word is 0
abbrev pub row_a : Row
row_a = record { lines = taken; expects = sure 0 1 ∷ word 0 1 1 0 ∷ log 1 16 (first ∷ []) ∷ [] }

-- B: station 0 stops; 1 asks for 17, has promises from 1 and 2, and leads with that entry
abbrev pub row_b : Row
row_b =
    record {
      lines = taken ++ (does 0 stop ∷ does 1 (ask 17) ∷ deliver 1 10 ∷ deliver 2 10 ∷ deliver 1 12 ∷ does 1 lead ∷ []);
      expects = leading 1 17 ∷ log 1 17 (first ∷ []) ∷ leading 0 0 ∷ sure 0 1 ∷ [];
    }

-- C: nobody took it; 1 asks for 17, leads with nothing and proposes another; 0 takes that log, and its own entry is gone
abbrev pub row_c : Row
row_c =
    record {
      lines = proposed ++ (does 1 (ask 17) ∷ deliver 1 9 ∷ deliver 2 9 ∷ deliver 1 11 ∷ does 1 lead ∷ does 1 (propose another) ∷ deliver 0 14 ∷ []);
      expects = log 0 17 (another ∷ []) ∷ leading 0 0 ∷ sure 0 0 ∷ [];
    }

-- D: a close with 1, 2, 3; 2 takes both entries; 0 decides, closes, and is in term 1 without being a member; 1 and 3 get its begin and ask
abbrev pub row_d : Row
row_d =
    record {
      lines =
          taken ++ (does 0 (propose (Close 14)) ∷ deliver 2 7 ∷ deliver 2 10 ∷ deliver 0 13 ∷ does 0 (decide 2) ∷ does 0 close ∷ deliver 1 14 ∷ does 1 (ask 1) ∷ deliver 3 14 ∷ does 3 (ask 3) ∷ []);
      expects = council 0 1 14 ∷ council 1 1 14 ∷ council 3 1 14 ∷ asking 1 1 ∷ asking 3 3 ∷ holds 3 7 5 ∷ word 3 1 1 0 ∷ refused 0 ∷ [];
    }

-- and 0 may not ask any more
abbrev pub row_d0 : Row
row_d0 = record { lines = row_d.lines ++ (does 0 (ask 32) ∷ []); expects = refused 4 ∷ asking 0 0 ∷ [] }

-- E: request 1 again, with another thing asked, is proposed and sure: nothing changes, the word stays
abbrev pub row_e : Row
row_e =
    record {
      lines = taken ++ (does 0 (propose twice) ∷ deliver 1 10 ∷ deliver 0 12 ∷ does 0 (decide 2) ∷ []);
      expects = sure 0 2 ∷ holds 0 7 5 ∷ word 0 1 1 0 ∷ [];
    }

-- F: its request 2, take 7 by 9: the shelf goes from 5 to 0, the word is 5
abbrev pub row_f : Row
row_f =
    record {
      lines = taken ++ (does 0 (propose second) ∷ deliver 1 10 ∷ deliver 0 12 ∷ does 0 (decide 2) ∷ []);
      expects = sure 0 2 ∷ holds 0 7 0 ∷ word 0 1 2 5 ∷ [];
    }

-- G: a log of ballot 16 reaches station 2 after it promised 17
abbrev pub row_g : Row
row_g = record { lines = proposed ++ (does 1 (ask 17) ∷ deliver 2 9 ∷ deliver 2 7 ∷ []); expects = refused 10 ∷ log 2 0 [] ∷ [] }

-- H: a part of ballot 17 from place 2 reaches a station whose log is of ballot 16 and has 2 entries, 1 sure; then one from place 1
abbrev pub before17 : List Line
before17 =
    taken ++ (does 0 (propose another) ∷ does 1 (ask 17) ∷ deliver 1 12 ∷ deliver 2 12 ∷ deliver 1 14 ∷ does 1 lead ∷ does 1 (propose second) ∷ does 1 (propose another) ∷ [])

abbrev pub row_h2 : Row
row_h2 = record { lines = before17 ++ (deliver 0 19 ∷ []); expects = refused 10 ∷ log 0 16 (first ∷ another ∷ []) ∷ sure 0 1 ∷ [] }

abbrev pub row_h1 : Row
row_h1 = record { lines = before17 ++ (deliver 0 17 ∷ []); expects = refused 0 ∷ log 0 17 (first ∷ second ∷ []) ∷ sure 0 1 ∷ [] }

abbrev pub table : List Row
table = row_a ∷ row_b ∷ row_c ∷ row_d ∷ row_d0 ∷ row_e ∷ row_f ∷ row_g ∷ row_h2 ∷ row_h1 ∷ []

abbrev pub all_rows : List Row → Bool
all_rows [] = true
all_rows (r ∷ rs) = row_stands r && all_rows rs

-- Every row of the table comes out as it says.
abbrev pub Cases : Type 0
Cases = all_rows table ≡ true
