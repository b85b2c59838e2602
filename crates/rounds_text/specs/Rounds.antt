-- One round: the document of a case, the moves to its target over the events of the round, and the case after them.
use Rattle.std.specs.Prelude.{ℕ, ◌≡◌, List, [], ◌++◌, length, codes, decimal, Option, Some, None, Ok, Bool, is_some, IfSome}
use Rattle.plan_model.specs.declared.cases.Assignment.{Assignment}
use Rattle.plan_model.specs.declared.cases.Case.{Case}
use Rattle.plan_document.specs.declared.document.Document.{Document}
use Rattle.plan_document.specs.Documents.{document_of, seen_document}
use Rattle.plan_document.specs.Written.{document_text}
use Rattle.plan_checker.specs.Solution.{IsSolution}
use Rattle.plan_checker.specs.Target.{target_of}
use Rattle.online_mover.specs.States.{State, state_at_start}
use Rattle.move_text.specs.Texts.{IsMoveTextTo}
use Rattle.ras_rounds.specs.Rounds.{IsAfter, region_classes}
use Rattle.ras_rounds.specs.declared.entries.Entry.{Entry}
use Rattle.rounds_text.specs.declared.options.RoundOptions.{RoundOptions}
use Rattle.rounds_text.specs.Scripts.{events_of}

-- what a run of rounds is over: the names of the servers and the reservations, what is asked of each document and of the moves, and the script
pub record Agenda : Type 0 where
  pub servers : List (List ℕ)
  pub reservations : List (List ℕ)
  pub options : RoundOptions
  pub entries : List Entry

-- a round that was run: its document, its text, and the case after it, where there is one
pub record DoneRound : Type 0 where
  pub document : Document
  pub text : List ℕ
  pub after : Option Case

-- the line before a document: the number of the round, and how many classes its case has
abbrev pub round_line : ℕ → ℕ → List ℕ
round_line number classes = codes "round " ++ (decimal number ++ (codes " classes " ++ (decimal classes ++ codes "\n")))

-- the text of a document
abbrev pub text_of : Agenda → Document → List ℕ
text_of agenda document = document_text agenda.servers agenda.reservations (seen_document document)

-- the moves of a round from a case to a target, over the events of the round, and the case after them
pub record IsMoved (agenda : Agenda) (number : ℕ) (case : Case) (target : Assignment) (text : List ℕ) (after : Case) : Type 0 where
  pub end : State
  pub is_text : IsMoveTextTo agenda.servers agenda.reservations (state_at_start case target agenda.options.at_once) (events_of number agenda.entries) text end
  pub is_after : IsAfter case end after

-- the same where there is a target, and else no text and no case after it
abbrev pub GoesTo : Agenda → ℕ → Case → Option Assignment → List ℕ → Option Case → Type 0
GoesTo agenda number case None text after = (text ≡ []) × (after ≡ None)
GoesTo agenda number case (Some target) text None = ⊥
GoesTo agenda number case (Some target) text (Some after) = IsMoved agenda number case target text after

-- A round of this number from a case. Its document solves the case as was asked, and what is printed of it is read again as the same document; the text of
-- the moves to its target follows.
pub record IsRound (agenda : Agenda) (number : ℕ) (case : Case) (round : DoneRound) : Type 0 where
  pub solution : IsSolution case agenda.options.gap agenda.options.nodes agenda.options.racks round.document
  pub again : document_of agenda.servers agenda.reservations (text_of agenda round.document) ≡ Ok (seen_document round.document)
  pub moves : List ℕ
  pub text : round.text ≡ round_line number (length (region_classes case)) ++ (text_of agenda round.document ++ moves)
  pub goes : GoesTo agenda number case (target_of round.document) moves round.after

-- a text grew by the moves of a round, where there is a target; then there is a case after the round, which is the next one
pub record AddsMoves (agenda : Agenda) (number : ℕ) (case : Case) (target : Option Assignment) (before text : List ℕ) (next : Case) (goes_on : Bool) : Type 0 where
  pub moves : List ℕ
  pub left : Option Case
  pub goes : GoesTo agenda number case target moves left
  pub grown : text ≡ before ++ moves
  pub is_left : goes_on ≡ is_some left
  pub next_is : IfSome left (λ after. next ≡ after)
