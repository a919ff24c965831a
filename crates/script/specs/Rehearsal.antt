-- A script played from its first line to its last: what it prints.
use Rattle.std.specs.Prelude.{ℕ, ◌+◌, Bool, cond, ◌||◌, List, [], ◌∷◌, ◌++◌, Ok, Err, Result, ◌==◌, slice_index}
use Rattle.print.specs.Answer.{line_text}
use Rattle.print.specs.Rows.{store_text}
use Rattle.command.specs.Command.{command_of, ended}
use Rattle.wire.specs.Fault as faults
use Rattle.print.specs.declared.answer.Answer.{Answer}
use Rattle.print.specs.declared.answer.Answer.TheVariants as answers
use Rattle.command.specs.declared.parse.Command.{Command}
use Rattle.command.specs.declared.parse.Command.TheVariants.{Do, Show}
use Rattle.wire.specs.declared.fault.Fault.{Fault}
use Rattle.store.specs.Refusal as refusals
use Rattle.store.specs.Store.{Store, bare, outcome, applied}
use Rattle.store.specs.declared.refusal.Refusal.{Refusal}
use Rattle.text.specs.Lines.{lines}

-- its first byte is 35, a `#`
abbrev pub is_comment : List ℕ → Bool
is_comment line = slice_index line 0 == 35

-- a line that is passed over: a comment, or no word in it
abbrev pub is_passed : List ℕ → Bool
is_passed line = is_comment line || ended line

-- the answer to a request
abbrev pub worded : Result ℕ Refusal → Answer
worded (Ok w) = answers.Word w
worded (Err r) = answers.Refused (refusals.number_of r)

-- the answer to a command, and the store behind it
abbrev pub answered : Result Command Fault → Store → Answer
answered (Ok (Do r)) s = worded (outcome r s)
answered (Ok Show) s = answers.Show
answered (Err f) s = answers.Refused (faults.number_of f)

abbrev pub turned : Result Command Fault → Store → Store
turned (Ok (Do r)) s = applied r s
turned (Ok Show) s = s
turned (Err f) s = s

-- the answer as text, and under `show` the store
abbrev pub reply_text : ℕ → Answer → Store → List ℕ
reply_text n (answers.Word w) s = line_text n (answers.Word w)
reply_text n (answers.Refused r) s = line_text n (answers.Refused r)
reply_text n answers.Show s = line_text n answers.Show ++ store_text s

-- what the n-th line prints, and the store behind it
abbrev pub printed : ℕ → List ℕ → Store → List ℕ
printed n line s = cond (is_passed line) [] (reply_text n (answered (command_of line) s) (turned (command_of line) s))

abbrev pub after : List ℕ → Store → Store
after line s = cond (is_passed line) s (turned (command_of line) s)

-- the lines of a script, the first of which is the n-th
abbrev pub transcript : ℕ → Store → List (List ℕ) → List ℕ
transcript n s [] = []
transcript n s (line ∷ more) = printed n line s ++ transcript (n + 1) (after line s) more

-- a script, from a bare store on
abbrev pub rehearsed : List ℕ → List ℕ
rehearsed script = transcript 1 bare (lines script)
