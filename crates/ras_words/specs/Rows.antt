-- What a command's definition makes of its words.
use Rattle.std.specs.Prelude.{ℕ, ◌∷◌, List, [], true, Option, Some, None, Result, Ok, Err, unwrap_or, if◌then◌else◌}
use Rattle.std.specs.Option.{option_map_or}
use Rattle.std.specs.Str.Parse.{digits_value, without_leading_plus}
use Rattle.clap.specs.Words.{App, Rule, Row, Text, Kinds, new_rule, fault_of, matches_of, first_of}
use Rattle.clap.specs.ValueTests.{accepts}
use Rattle.clap.specs.declared.builder.value_parser.ValueParser.{ValueParser}
use Rattle.clap.specs.declared.builder.value_parser.ValueParser.TheVariants as vp
use Rattle.ras_words.specs.declared.command.WordsFault.{WordsFault}
use Rattle.ras_words.specs.declared.command.WordsFault.TheVariants as fault

-- why words are refused: they name no command, or the command does not take them
pub data Refusal : Type 0 where
  NoCommand : Refusal
  Refused : Refusal

-- the refusal that is told, and none for want of memory
abbrev pub told : WordsFault → Option Refusal
told fault.NoCommand = Some NoCommand
told (fault.Refused text) = Some Refused
told fault.Memory = None

-- a word that must be there
abbrev pub needed : Text → Rule
needed id = record (new_rule id) { required = true }

-- a number in a range that must be there
abbrev pub needed_number : Text → ℕ → ℕ → Rule
needed_number id least most = record (new_rule id) { required = true; parser = Some (vp.Unsigned least most) }

-- a number in a range, by the option of that name
abbrev pub numbered : Text → ℕ → ℕ → Rule
numbered id least most = record (new_rule id) { long = Some id; parser = Some (vp.Unsigned least most) }

-- refused where some step of the command's definition fails
abbrev pub unless_fault : {X : Type 0} → Kinds → X → Result X Refusal
unless_fault [] words = Ok words
unless_fault (k ∷ ks) words = Err Refused

-- the values that a command's definition reads of words, or that it refuses them
unfoldable pub rows_read : App → List Text → Result (List Row) Refusal
rows_read app words = unless_fault (fault_of app words) (matches_of app words)

-- what is made of the values that were read
abbrev pub with_rows : {X : Type 0} → (List Row → X) → Result (List Row) Refusal → Result X Refusal
with_rows made (Ok rows) = Ok (made rows)
with_rows made (Err refusal) = Err refusal

-- the value of an argument
abbrev pub value_of : Text → List Row → Text
value_of id rows = unwrap_or (first_of id rows) []

-- the number that a text spells where it lies in a range, and else the default
abbrev pub number_of : ℕ → ℕ → ℕ → Text → ℕ
number_of least most default text =
    if accepts true (vp.Unsigned least most) text then digits_value 10 (without_leading_plus text) else default

-- the number of an argument in a range, or its default where it is not given
abbrev pub number_in : Text → ℕ → ℕ → ℕ → List Row → ℕ
number_in id least most default rows = option_map_or (number_of least most default) (first_of id rows) default
