-- What `check` could not be told of a document that a run printed.
use Rattle.std.proofs.Common.{◌≡◌, ℕ, Bool, true, false, List, [], Err, subst, inr, string_bytes}
use Rattle.std.specs.declared.alloc.Global.{Global}
use Rattle.std.specs.declared.string.String.{String}
use Rattle.memory_runs.specs.Files.{are_short_with, check_words, files_in, files_with}
use Rattle.memory_runs.specs.Runs.{Ended, IsRun, IsTold, RunsTo}
use Rattle.memory_runs.specs.Solves.{SolvesTo}
use Rattle.memory_runs.specs.declared.fault.RunFault.{RunFault}
use Rattle.memory_runs.specs.declared.fault.RunFault.TheVariants as fault
use Rattle.memory_runs.specs.declared.files.Texts.{Texts}

pub check-fails : (texts : Texts) (words : List (List ℕ)) (short : Bool) (e : Ended) (document : List ℕ)
    → IsRun (files_in texts []) words e → document ≡ e.printed → (f : RunFault)
    → RunsTo (λ (t : String Global). IsTold (files_with texts document []) check_words (string_bytes t)) (are_short_with texts document []) (files_with texts document []) check_words (Err f) → SolvesTo texts words short (Err f)
check-fails texts words short e document run same fault.Long h =
    inr (e, run, subst (λ (d : List ℕ). are_short_with texts d [] ≡ false) same h)
check-fails texts words short e document run same fault.NoText h = inr (document, h)
check-fails texts words short e document run same fault.Differ h = absurd h
check-fails texts words short e document run same fault.Memory h = tt

pub not-both : (b : Bool) → b ≡ true → b ≡ false → ⊥
not-both true t f = cc
not-both false t f = cc
