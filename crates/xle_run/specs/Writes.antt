-- What has been put to a sink that tells its bytes.
use Rattle.std.specs.Prelude.{◌≡◌, ◌==◌, ℕ, ◌+◌, ◌≤◌, true, false, Option, Some, Result, Ok, Err, List, [], ◌∷◌, ◌++◌, length, take, codes}
use Rattle.lfg_terms.specs.declared.grammar.Grammar.{Grammar}
use Rattle.lfg_model.specs.declared.status.Status.{Status}
use Rattle.lfg_model.specs.declared.status.Status.TheVariants.{Done, Usage, ReadFault, FileTooLong, BadGrammar, WriteFault, Memory}
use Rattle.lfg_model.specs.Lists.{In}
use Rattle.lfg_model.specs.ThinText.{is_thin_line}
use Rattle.lfg_model.specs.Output.{section, AreSections, AreReadings, WholeSections, CutSections, joined, Command, IsOutput, IsPart, IsCutPart}
use Rattle.lfg_io.specs.Shelf.{Files, file_in}

-- the section of a sentence with its readings
pub record IsSectionOf (g : Grammar) (number : ℕ) (line bytes : List ℕ) : Type 0 where
  pub body : List ℕ
  pub readings : AreReadings g line body
  pub is : bytes ≡ section number line body

-- the readings of a sentence were appended
pub record AppendsReadings (g : Grammar) (line old new : List ℕ) : Type 0 where
  pub body : List ℕ
  pub readings : AreReadings g line body
  pub is : new ≡ old ++ body

-- a section was put, or the beginning of it, or nothing
abbrev pub PutsSection : {T : Type 0} → Grammar → ℕ → List ℕ → List ℕ → Option (List ℕ) → Result T Status → Type 0
PutsSection g number line before now (Ok v) = (bytes : List ℕ) × IsSectionOf g number line bytes × (now ≡ Some (before ++ bytes))
PutsSection g number line before now (Err WriteFault) = (bytes : List ℕ) × (count : ℕ) × IsSectionOf g number line bytes × (now ≡ Some (before ++ take count bytes))
PutsSection g number line before now (Err Memory) = now ≡ Some before
PutsSection g number line before now (Err Done) = ⊥
PutsSection g number line before now (Err Usage) = ⊥
PutsSection g number line before now (Err (ReadFault name)) = ⊥
PutsSection g number line before now (Err (FileTooLong name)) = ⊥
PutsSection g number line before now (Err (BadGrammar name fault)) = ⊥

-- a section was put where the room had place for it; where it was not put for a fault, it had none
abbrev pub PutsWithin : {T : Type 0} → Grammar → ℕ → List ℕ → ℕ → ℕ → Result T Status → Type 0
PutsWithin g number line before now (Ok v) = (bytes : List ℕ) × IsSectionOf g number line bytes × (length bytes ≤ before → now + length bytes ≡ before)
PutsWithin g number line before now (Err WriteFault) = (bytes : List ℕ) × IsSectionOf g number line bytes × ¬ (length bytes ≤ before)
PutsWithin g number line before now (Err Memory) = Unit {0}
PutsWithin g number line before now (Err Done) = Unit {0}
PutsWithin g number line before now (Err Usage) = Unit {0}
PutsWithin g number line before now (Err (ReadFault name)) = Unit {0}
PutsWithin g number line before now (Err (FileTooLong name)) = Unit {0}
PutsWithin g number line before now (Err (BadGrammar name fault)) = Unit {0}

-- the sections of these sentences were put
pub record HasPut (g : Grammar) (sentences : List (List ℕ)) (before : List ℕ) (now : Option (List ℕ)) : Type 0 where
  pub sections : List (List ℕ)
  pub are : AreSections (AreReadings g) 1 sentences sections
  pub is : now ≡ Some (before ++ joined sections)

-- the sections of the sentences were put, or a part of them
abbrev pub PutsSections : {T : Type 0} → Grammar → List (List ℕ) → List ℕ → Option (List ℕ) → Result T Status → Type 0
PutsSections g sentences before now (Ok v) = HasPut g sentences before now
PutsSections g sentences before now (Err WriteFault) = (bytes : List ℕ) × CutSections (AreReadings g) sentences bytes × (now ≡ Some (before ++ bytes))
PutsSections g sentences before now (Err Memory) = (bytes : List ℕ) × WholeSections (AreReadings g) sentences bytes × (now ≡ Some (before ++ bytes))
PutsSections g sentences before now (Err Done) = ⊥
PutsSections g sentences before now (Err Usage) = ⊥
PutsSections g sentences before now (Err (ReadFault name)) = ⊥
PutsSections g sentences before now (Err (FileTooLong name)) = ⊥
PutsSections g sentences before now (Err (BadGrammar name fault)) = ⊥

-- the room that is left once the sections of these sentences were put
pub record LeavesRoom (g : Grammar) (sentences : List (List ℕ)) (before now : ℕ) : Type 0 where
  pub sections : List (List ℕ)
  pub are : AreSections (AreReadings g) 1 sentences sections
  pub left : length (joined sections) ≤ before → now + length (joined sections) ≡ before

-- the line is a sentence of a thin file: it has a word, and only thin words
pub record IsSentence (line : List ℕ) : Type 0 where
  pub thin : is_thin_line line ≡ true
  pub some : (length line == 0) ≡ false

-- all of them are
pub record AreSentences (lines : List (List ℕ)) : Type 0 where
  pub each : (line : List ℕ) → In line lines → IsSentence line

-- What a run over these files has put, by how it ended.
abbrev pub Puts : {T : Type 0} → Files → Option Command → List ℕ → Option (List ℕ) → Result T Status → Type 0
Puts files c before now (Ok v) = (sections : List (List ℕ)) × IsOutput (file_in files) c sections Done × (now ≡ Some (before ++ joined sections))
Puts files c before now (Err WriteFault) = (bytes : List ℕ) × IsCutPart (file_in files) c bytes × (now ≡ Some (before ++ bytes))
Puts files c before now (Err Memory) = (bytes : List ℕ) × IsPart (file_in files) c bytes × (now ≡ Some (before ++ bytes))
Puts files c before now (Err Done) = Unit {0}
Puts files c before now (Err Usage) = Unit {0}
Puts files c before now (Err (ReadFault name)) = Unit {0}
Puts files c before now (Err (FileTooLong name)) = Unit {0}
Puts files c before now (Err (BadGrammar name fault)) = Unit {0}

-- where the status is that of words or of files that were not taken, what holds
abbrev pub IfRefused : Status → Type 0 → Type 0
IfRefused Usage P = P
IfRefused (ReadFault name) P = P
IfRefused (FileTooLong name) P = P
IfRefused (BadGrammar name fault) P = P
IfRefused Done P = Unit {0}
IfRefused WriteFault P = Unit {0}
IfRefused Memory P = Unit {0}

-- where all was written, or the output took no more, what holds
abbrev pub IfTaken : {T : Type 0} → Result T Status → Type 0 → Type 0
IfTaken (Ok v) P = P
IfTaken (Err WriteFault) P = P
IfTaken (Err Done) P = Unit {0}
IfTaken (Err Usage) P = Unit {0}
IfTaken (Err (ReadFault name)) P = Unit {0}
IfTaken (Err (FileTooLong name)) P = Unit {0}
IfTaken (Err (BadGrammar name fault)) P = Unit {0}
IfTaken (Err Memory) P = Unit {0}

-- where the status is that of a file that is too long or not accepted, what holds
abbrev pub IfUnaccepted : Status → Type 0 → Type 0
IfUnaccepted (FileTooLong name) P = P
IfUnaccepted (BadGrammar name fault) P = P
IfUnaccepted Done P = Unit {0}
IfUnaccepted Usage P = Unit {0}
IfUnaccepted (ReadFault name) P = Unit {0}
IfUnaccepted WriteFault P = Unit {0}
IfUnaccepted Memory P = Unit {0}

-- the line for a file with the fault of this name and this value
abbrev pub bad_file_line : List ℕ → List ℕ → List ℕ → List ℕ
bad_file_line name fault value = codes "xle: " ++ (name ++ codes ": " ++ fault ++ 32 ∷ value) ++ 10 ∷ []
