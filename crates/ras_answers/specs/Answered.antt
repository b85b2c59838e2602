-- What a command answers.
use Rattle.std.specs.Prelude.{ℕ, List, string_bytes}
use Rattle.ras_answers.specs.declared.answer.Ending.{Ending}
use Rattle.ras_answers.specs.declared.answer.Ending.TheVariants as ending
use Rattle.ras_answers.specs.declared.answer.Answer.{Answer}
use Rattle.ras_answers.specs.declared.answer.Answer.TheVariants as answer

-- a text that is printed at such an ending, or the note on what is not valid
pub data Answered : Type 0 where
  Printed : Ending → List ℕ → Answered
  Invalid : List ℕ → Answered

-- an answer of the code, by its bytes
abbrev pub seen : Answer → Answered
seen (answer.Printed e text) = Printed e text.items
seen (answer.Invalid note) = Invalid (string_bytes note)

-- the status of an ending
abbrev pub code_of : Ending → ℕ
code_of ending.Done = 0
code_of ending.NotAccepted = 1
code_of ending.Fits = 1
code_of ending.Infeasible = 4
code_of ending.Limit = 5
