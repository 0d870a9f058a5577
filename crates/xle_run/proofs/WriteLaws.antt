-- From the sections of sentences to the output of the command over the files.
use Rattle.std.proofs.Common.{◌≡◌, ℕ, ◌≤◌, List, [], ◌∷◌, ◌++◌, Option, Some, length, refl, sym, ap, subst, ◌∙◌}
use Rattle.std.specs.Prelude.{◌≢◌, Result, Ok, Err, IfErr}
use Rattle.lfg_io.specs.Shelf.{Files, file_in}
use Rattle.lfg_terms.specs.declared.grammar.Grammar.{Grammar}
use Rattle.lfg_model.specs.declared.status.Status.{Status}
use Rattle.lfg_model.specs.declared.status.Status.TheVariants.{Done, Usage, ReadFault, FileTooLong, BadGrammar, WriteFault, Memory}
use Rattle.lfg_model.specs.Output.{Command, readings, AreSections, AreReadings, joined, sentences_of, AreAccepted, both_thin, IsOutput, all_read, nothing, whole, cut, IfReadFault}
use Rattle.lfg_model.proofs.OutputLaws.{sections_of_output}
use Rattle.xle_run.specs.Causes.{IsRefused, IsUnwritten}
use Rattle.xle_run.specs.Loads.{GivesGrammar, GivesText}
use Rattle.xle_run.specs.Writes.{PutsSections, Puts, IfRefused, IfTaken}

nil_after : (ys : List ℕ) → ys ++ [] ≡ ys
nil_after [] = refl
nil_after (y ∷ ys) = ap (λ zs. y ∷ zs) (nil_after ys)

module _ (T : Type 0) (files : Files) (g s text : List ℕ) (grammar : Grammar) (gives : GivesGrammar files g grammar) (given : GivesText files s text) where
  -- what was put of the sentences was put of the output
  pub puts_readings : (before : List ℕ) (now : Option (List ℕ)) (r : Result T Status) → PutsSections grammar (sentences_of text) before now r → Puts files (Some (readings g s)) before now r
  puts_readings before now (Ok v) h = (h.sections, all_read gives.there gives.thin given.there given.thin h.are, h.is)
  puts_readings before now (Err WriteFault) h = (h.0, cut gives.there gives.thin given.there given.thin h.1, h.2)
  puts_readings before now (Err Memory) h = (h.0, whole gives.there gives.thin given.there given.thin h.1, h.2)
  puts_readings before now (Err Done) h = tt
  puts_readings before now (Err Usage) h = tt
  puts_readings before now (Err (ReadFault name)) h = tt
  puts_readings before now (Err (FileTooLong name)) h = tt
  puts_readings before now (Err (BadGrammar name fault)) h = tt

  -- the sections of the output are those that were to be put
  pub room_readings : (sections : List (List ℕ)) (room : ℕ) (r : Result T Status)
      → ((all : List (List ℕ)) → AreSections (AreReadings grammar) 1 (sentences_of text) all → length (joined all) ≤ room → IfErr r (λ status. status ≢ WriteFault))
      → IsOutput (file_in files) (Some (readings g s)) sections Done → length (joined sections) ≤ room → IfErr r (λ status. status ≢ WriteFault)
  room_readings sections room r f out few =
      f sections (sections_of_output (file_in files) g s gives.bytes text grammar sections Done gives.there gives.thin given.there out refl) few

  pub both_accepted : AreAccepted (file_in files) (Some (readings g s))
  both_accepted = both_thin gives.there gives.thin given.there given.thin

-- what holds in any case holds where all was written
pub taken : (T : Type 0) (P : Type 0) (r : Result T Status) → P → IfTaken r P
taken T P (Ok v) p = p
taken T P (Err WriteFault) p = p
taken T P (Err Done) p = tt
taken T P (Err Usage) p = tt
taken T P (Err (ReadFault name)) p = tt
taken T P (Err (FileTooLong name)) p = tt
taken T P (Err (BadGrammar name fault)) p = tt
taken T P (Err Memory) p = tt

-- and where the status is that of words or files that were not taken
pub at_refused : (P : Type 0) (s : Status) → P → IfRefused s P
at_refused P Usage p = p
at_refused P (ReadFault name) p = p
at_refused P (FileTooLong name) p = p
at_refused P (BadGrammar name fault) p = p
at_refused P Done p = tt
at_refused P WriteFault p = tt
at_refused P Memory p = tt

module _ (T : Type 0) (file : List ℕ) (sure : List (List ℕ)) (before now : ℕ) (last : List ℕ) where
  -- where a file was not taken, nothing was put
  pub refused_puts : (files : Files) (c : Option Command) (old : List ℕ) (new : Option (List ℕ)) (s : Status) → IsRefused file sure before now last s → new ≡ Some old
      → Puts {T = T} files c old new (Err s)
  refused_puts files c old new Memory h e = ([], nothing, e ∙ ap Some (sym (nil_after old)))
  refused_puts files c old new WriteFault h e = absurd h
  refused_puts files c old new Done h e = tt
  refused_puts files c old new Usage h e = tt
  refused_puts files c old new (ReadFault name) h e = tt
  refused_puts files c old new (FileTooLong name) h e = tt
  refused_puts files c old new (BadGrammar name fault) h e = tt

  pub refused_taken : (P : Type 0) (s : Status) → IsRefused file sure before now last s → IfTaken {T = T} (Err s) P
  refused_taken P WriteFault h = absurd h
  refused_taken P Done h = tt
  refused_taken P Usage h = tt
  refused_taken P (ReadFault name) h = tt
  refused_taken P (FileTooLong name) h = tt
  refused_taken P (BadGrammar name fault) h = tt
  refused_taken P Memory h = tt

  pub refused_not_write : (s : Status) → IsRefused file sure before now last s → s ≢ WriteFault
  refused_not_write s h e = subst (IsRefused file sure before now last) e h

  -- the command comes to the file
  pub refused_reached : (P : List ℕ → Type 0) (s : Status) → IsRefused file sure before now last s → P file → IfReadFault s P
  refused_reached P (ReadFault name) h p = subst P (sym h.0) p
  refused_reached P Done h p = tt
  refused_reached P Usage h p = tt
  refused_reached P (FileTooLong name) h p = tt
  refused_reached P (BadGrammar name fault) h p = tt
  refused_reached P WriteFault h p = tt
  refused_reached P Memory h p = tt

-- what was not written was refused neither for words nor for files
pub unwritten_refused : (T : Type 0) (P : Type 0) (ob on : ℕ) (r : Result T Status) → IfErr r (IsUnwritten ob on) → IfErr r (λ s. IfRefused s P)
unwritten_refused T P ob on (Ok v) h = tt
unwritten_refused T P ob on (Err Usage) h = absurd h
unwritten_refused T P ob on (Err (ReadFault name)) h = absurd h
unwritten_refused T P ob on (Err (FileTooLong name)) h = absurd h
unwritten_refused T P ob on (Err (BadGrammar name fault)) h = absurd h
unwritten_refused T P ob on (Err Done) h = tt
unwritten_refused T P ob on (Err WriteFault) h = tt
unwritten_refused T P ob on (Err Memory) h = tt

pub unwritten_read : (T : Type 0) (P : List ℕ → Type 0) (ob on : ℕ) (r : Result T Status) → IfErr r (IsUnwritten ob on) → IfErr r (λ s. IfReadFault s P)
unwritten_read T P ob on (Ok v) h = tt
unwritten_read T P ob on (Err (ReadFault name)) h = absurd h
unwritten_read T P ob on (Err Done) h = tt
unwritten_read T P ob on (Err Usage) h = tt
unwritten_read T P ob on (Err (FileTooLong name)) h = tt
unwritten_read T P ob on (Err (BadGrammar name fault)) h = tt
unwritten_read T P ob on (Err WriteFault) h = tt
unwritten_read T P ob on (Err Memory) h = tt
