-- From what a run has put and why it ended to what is said of it.
use Rattle.std.proofs.Common.{◌≡◌, ℕ, List, [], ◌++◌, Option, Some, None, refl, subst, inl, inr}
use Rattle.std.specs.Prelude.{◌≢◌, ◌⊎◌, Err}
use Rattle.lfg_io.specs.Counts.{Rose}
use Rattle.lfg_io.specs.Shelf.{Files, file_in}
use Rattle.lfg_model.specs.declared.status.Status.{Status}
use Rattle.lfg_model.specs.declared.status.Status.TheVariants.{Done, Usage, ReadFault, FileTooLong, BadGrammar, WriteFault, Memory}
use Rattle.lfg_model.specs.Output.{Command, command_of, AreAccepted, both_thin, IsOutput, IsPart, IsCutPart, IfBadGrammar, IfTooLong}
use Rattle.lfg_model.proofs.OutputLaws.{accepted_not_bad, accepted_not_long}
use Rattle.xle_run.specs.Causes.{IsRunFailure}
use Rattle.xle_run.specs.Writes.{Puts, IfRefused, IfTaken, IfUnaccepted}

pub taken_at : (s : Status) (P : Type 0) → IfTaken {T = Unit {0}} (Err s) P → s ≡ WriteFault → P
taken_at s P h e = subst (λ (u : Status). IfTaken {T = Unit {0}} (Err u) P) e h

module _ (files : Files) (c : Option Command) (before : List ℕ) (now : Option (List ℕ)) (s : Status) where
  pub puts_memory : s ≡ Memory → Puts {T = Unit {0}} files c before now (Err s) → (bytes : List ℕ) × IsPart (file_in files) c bytes × (now ≡ Some (before ++ bytes))
  puts_memory e h = subst (λ (u : Status). Puts {T = Unit {0}} files c before now (Err u)) e h

  pub puts_cut : s ≡ WriteFault → Puts {T = Unit {0}} files c before now (Err s) → (bytes : List ℕ) × IsCutPart (file_in files) c bytes × (now ≡ Some (before ++ bytes))
  puts_cut e h = subst (λ (u : Status). Puts {T = Unit {0}} files c before now (Err u)) e h

no_files : (files : List ℕ → Option (List ℕ)) (c : Option Command) → c ≡ None → AreAccepted files c → ⊥
no_files files c e (both_thin f t h u) = cc

module _ (words sure : List (List ℕ)) (before now : ℕ) (last : List ℕ) (ob on : ℕ) where
  -- where words or files were not taken, what is said of such a status holds
  pub from_refused : (P : Type 0) (s : Status) → IsRunFailure words sure before now last ob on s → IfRefused s P → s ≢ WriteFault → s ≢ Memory → P
  from_refused P Usage f h m k = h
  from_refused P (ReadFault name) f h m k = h
  from_refused P (FileTooLong name) f h m k = h
  from_refused P (BadGrammar name fault) f h m k = h
  from_refused P Done f h m k = absurd f
  from_refused P WriteFault f h m k = absurd (m refl)
  from_refused P Memory f h m k = absurd (k refl)

  -- where the files are accepted and no fault was counted, memory was wanted
  pub complete_at : (files : Files) (s : Status) → AreAccepted (file_in files) (command_of words) → ¬ Rose before now → ¬ Rose ob on → IsRunFailure words sure before now last ob on s
      → IfUnaccepted s (IsOutput (file_in files) (command_of words) [] s) → (s ≡ Done) ⊎ (s ≡ Memory)
  complete_at files Memory a n m f b = inr refl
  complete_at files Done a n m f b = inl refl
  complete_at files Usage a n m f b = absurd (no_files (file_in files) (command_of words) f a)
  complete_at files (ReadFault name) a n m f b = absurd (n f.2)
  complete_at files (FileTooLong name) a n m f b = absurd (accepted_not_long (file_in files) (command_of words) [] (FileTooLong name) a b)
  complete_at files (BadGrammar name fault) a n m f b = absurd (accepted_not_bad (file_in files) (command_of words) [] (BadGrammar name fault) a b)
  complete_at files WriteFault a n m f b = absurd (m f)

-- where a file is too long or not accepted, what holds of such a status
pub long_output : (P : Status → Type 0) (s : Status) → IfUnaccepted s (P s) → IfTooLong s (λ name. P s)
long_output P (FileTooLong name) h = h
long_output P Done h = tt
long_output P Usage h = tt
long_output P (ReadFault name) h = tt
long_output P (BadGrammar name fault) h = tt
long_output P WriteFault h = tt
long_output P Memory h = tt

pub bad_output : (P : Status → Type 0) (s : Status) → IfUnaccepted s (P s) → IfBadGrammar s (λ name fault. P s)
bad_output P (BadGrammar name fault) h = h
bad_output P Done h = tt
bad_output P Usage h = tt
bad_output P (ReadFault name) h = tt
bad_output P (FileTooLong name) h = tt
bad_output P WriteFault h = tt
bad_output P Memory h = tt
