-- The answer to a line of a script, as text; 10 ends a line.
use Rattle.std.specs.Prelude.{ℕ, List, [], ◌∷◌, ◌++◌, codes, decimal}
use Rattle.print.specs.declared.answer.Answer.{Answer}
use Rattle.print.specs.declared.answer.Answer.TheVariants.{Word, Refused, Show}

-- the answer to a line
abbrev pub answer_text : Answer → List ℕ
answer_text (Word w) = codes "word " ++ decimal w
answer_text (Refused r) = codes "refused " ++ decimal r
answer_text Show = codes "show"

-- `LINE ANSWER`
abbrev pub line_text : ℕ → Answer → List ℕ
line_text line answer = decimal line ++ (codes " " ++ (answer_text answer ++ (10 ∷ [])))
