-- What a line of a script commands.
use Rattle.std.specs.Prelude.{ℕ, zero, suc, Bool, cond, not, List, length, Ok, Err, codes, Result, ◌==◌, nat_lt}
use Rattle.std.specs.Option.{ok_or}
use Rattle.std.specs.Str.{bytes_eq}
use Rattle.command.specs.declared.parse.Command.{Command}
use Rattle.command.specs.declared.parse.Command.TheVariants.{Do, Show}
use Rattle.wire.specs.declared.fault.Fault.{Fault}
use Rattle.wire.specs.declared.fault.Fault.TheVariants.{Malformed, OutOfRange}
use Rattle.store.specs.Ask.{key_of}
use Rattle.store.specs.declared.ask.Ask.{Ask}
use Rattle.store.specs.declared.ask.Ask.TheVariants.{Put, Take, Look}
use Rattle.store.specs.declared.request.Request.{Request}
use Rattle.text.specs.Text.{first_word, after_word, number_up_to}

-- what is read next, if nothing was wrong before
infixr 1 ◌then◌
abbrev pub ◌then◌ : {A B E : Type 0} → Result A E → (A → Result B E) → Result B E
Ok x then f = f x
Err e then f = Err e

-- the words of a line, counted from 0, each empty where there is none; and what stands behind the first n
abbrev pub behind : ℕ → List ℕ → List ℕ
behind zero line = line
behind (suc n) line = behind n (after_word line)

abbrev pub word : ℕ → List ℕ → List ℕ
word n line = first_word (behind n line)

-- no word is left
abbrev pub ended : List ℕ → Bool
ended line = length (first_word line) == 0

-- a decimal number of at most max
abbrev pub field_of : ℕ → List ℕ → Result ℕ Fault
field_of max w = ok_or (number_up_to max w) Malformed

-- the number that is all a line still has
abbrev pub last_of : List ℕ → Result ℕ Fault
last_of line = field_of 4294967295 (word 0 line) then λ number. cond (ended (behind 1 line)) (Ok number) (Err Malformed)

-- `put KEY VALUE`, `take KEY AMOUNT` or `look KEY`
abbrev pub ask_of : List ℕ → Result Ask Fault
ask_of line =
    field_of 65535 (word 1 line) then λ key.
    cond (bytes_eq (word 0 line) (codes "look")) (cond (ended (behind 2 line)) (Ok (Look key)) (Err Malformed))
    (field_of 4294967295 (word 2 line) then λ number.
    cond (not (ended (behind 3 line))) (Err Malformed)
    (cond (bytes_eq (word 0 line) (codes "put")) (Ok (Put key number))
    (cond (bytes_eq (word 0 line) (codes "take")) (Ok (Take key number)) (Err Malformed))))

-- `CLIENT NUMBER`, then what is asked; a key above 1,023 names no shelf
abbrev pub request_of : List ℕ → Result Request Fault
request_of line =
    field_of 255 (word 0 line) then λ client.
    field_of 4294967295 (word 1 line) then λ number.
    ask_of (behind 2 line) then λ ask.
    cond (nat_lt 1023 (key_of ask)) (Err OutOfRange) (Ok (record { client = client; number = number; ask = ask }))

-- `do REQUEST` or `show`
abbrev pub command_of : List ℕ → Result Command Fault
command_of line =
    cond (bytes_eq (word 0 line) (codes "do")) (request_of (behind 1 line) then λ request. Ok (Do request))
    (cond (bytes_eq (word 0 line) (codes "show")) (cond (ended (behind 1 line)) (Ok Show) (Err Malformed)) (Err Malformed))
