-- What the program writes: its command line, its exit status and the line for a fault.
use Rattle.std.specs.Prelude.{◌≡◌, ◌<◌, ◌≤◌, ℕ, suc, not, ◌==◌, if◌then◌else◌, Option, Some, None, List, [], ◌∷◌, ◌++◌, map, filter, take, length, decimal, codes}
use Rattle.std.specs.List.{flat_map}
use Rattle.std.specs.Str.Lines.{lines}
use Rattle.lfg_terms.specs.declared.grammar.Grammar.{Grammar}
use Rattle.lfg_model.specs.declared.pair.Pair.{Pair}
use Rattle.std.specs.Cmp.Lexicographic.{pointwise}
use Rattle.lfg_model.specs.declared.status.GrammarFault.{GrammarFault}
use Rattle.lfg_model.specs.declared.status.GrammarFault.TheVariants as fault
use Rattle.lfg_model.specs.declared.status.GrammarFault.TheVariants.{Entry}
use Rattle.lfg_model.specs.declared.status.Status.{Status}
use Rattle.lfg_model.specs.declared.status.Status.TheVariants.{Done, Usage, ReadFault, FileTooLong, BadGrammar, WriteFault, Memory}
use Rattle.lfg_model.specs.Lists.{In}
use Rattle.lfg_model.specs.PairTexts.{pair_text}
use Rattle.lfg_model.specs.Loads.{LoadFault, Loads}
use Rattle.lfg_model.specs.Readings.{IsReadings}
use Rattle.lfg_model.specs.ThinText.{ThinFile, ThinSentences, words, token_of}

-- the number with which the program ends
abbrev pub exit_status : Status → ℕ
exit_status Done = 0
exit_status Usage = 2
exit_status (ReadFault name) = 3
exit_status (FileTooLong name) = 4
exit_status (BadGrammar name fault) = 5
exit_status WriteFault = 11
exit_status Memory = 12

-- the name of a fault
abbrev pub fault_name : GrammarFault → List ℕ
fault_name (fault.NotUtf8 at) = codes "NotUtf8"
fault_name (fault.NoToken at) = codes "NoToken"
fault_name (fault.Section number) = codes "Section"
fault_name (fault.Entry number) = codes "Entry"
fault_name (fault.Config entry) = codes "Config"
fault_name (fault.Repeated name) = codes "Repeated"
fault_name (fault.Undefined name) = codes "Undefined"
fault_name (fault.Arity name) = codes "Arity"
fault_name (fault.TemplateCycle name) = codes "TemplateCycle"
fault_name (fault.TooMuch entry) = codes "TooMuch"
fault_name (fault.TooManyPaths entry) = codes "TooManyPaths"
fault_name (fault.NoPath entry) = codes "NoPath"
fault_name (fault.EmptyStar category) = codes "EmptyStar"
fault_name (fault.EmptyRule category) = codes "EmptyRule"
fault_name (fault.Both category) = codes "Both"
fault_name (fault.UnaryCycle category) = codes "UnaryCycle"
fault_name (fault.Unlinked category) = codes "Unlinked"
fault_name fault.Memory = codes "Memory"

-- the place, the number or the name that a fault has; want of memory has none
abbrev pub fault_value : GrammarFault → List ℕ
fault_value (fault.NotUtf8 at) = decimal at
fault_value (fault.NoToken at) = decimal at
fault_value (fault.Section number) = decimal number
fault_value (fault.Entry number) = decimal number
fault_value (fault.Config entry) = decimal entry
fault_value (fault.Repeated name) = name
fault_value (fault.Undefined name) = name
fault_value (fault.Arity name) = name
fault_value (fault.TemplateCycle name) = name
fault_value (fault.TooMuch entry) = decimal entry
fault_value (fault.TooManyPaths entry) = decimal entry
fault_value (fault.NoPath entry) = decimal entry
fault_value (fault.EmptyStar category) = category
fault_value (fault.EmptyRule category) = category
fault_value (fault.Both category) = category
fault_value (fault.UnaryCycle category) = category
fault_value (fault.Unlinked category) = category
fault_value fault.Memory = []

-- a fault by its name, and its number or name
abbrev pub fault_text : GrammarFault → List ℕ
fault_text fault = fault_name fault ++ 32 ∷ fault_value fault

-- what stands behind `xle: ` in the line for a status
abbrev pub fault_message : Status → List ℕ
fault_message Done = []
fault_message Usage = codes "usage"
fault_message (ReadFault name) = codes "cannot read " ++ name
fault_message (FileTooLong name) = codes "too long: " ++ name
fault_message (BadGrammar name fault) = name ++ codes ": " ++ fault_text fault
fault_message WriteFault = codes "cannot write"
fault_message Memory = codes "out of memory"

-- the line for a status other than `Done`, after these words of the command line
abbrev pub fault_line : List (List ℕ) → Status → List ℕ
fault_line words status = codes "xle: " ++ fault_message status ++ 10 ∷ []

-- the commands that a command line can say, with their files
pub data Command : Type 0 where
  readings : (grammar sentences : List ℕ) → Command

-- the command that the words of a command line say, if they fit one
abbrev pub command_of : List (List ℕ) → Option Command
command_of (name ∷ grammar ∷ sentences ∷ []) = if pointwise ◌==◌ name (codes "readings") then Some (readings grammar sentences) else None
command_of _ = None

-- the files of a command, in the order in which they are loaded
abbrev pub files_of : Option Command → List (List ℕ)
files_of None = []
files_of (Some (readings grammar sentences)) = grammar ∷ sentences ∷ []

-- the name is that of a file of the words
abbrev pub IsFileOf : List (List ℕ) → List ℕ → Type 0
IsFileOf words name = In name (files_of (command_of words))

-- where the status is that a file could not be read, what holds of its name
abbrev pub IfReadFault : Status → (List ℕ → Type 0) → Type 0
IfReadFault (ReadFault name) P = P name
IfReadFault _ P = Unit {0}

-- where the status is that a file is too long, what holds of its name
abbrev pub IfTooLong : Status → (List ℕ → Type 0) → Type 0
IfTooLong (FileTooLong name) P = P name
IfTooLong _ P = Unit {0}

-- where the status is that a file is not accepted, what holds of its name and the fault
abbrev pub IfBadGrammar : Status → (List ℕ → GrammarFault → Type 0) → Type 0
IfBadGrammar (BadGrammar name fault) P = P name fault
IfBadGrammar _ P = Unit {0}

-- ---- the output of a command

-- the heading of a sentence's section: its number, counted from 1, and its text
abbrev pub heading : ℕ → List ℕ → List ℕ
heading number line = codes "# " ++ decimal number ++ 32 ∷ line ++ 10 ∷ []

-- a section: a heading, what is written of the sentence, and an empty line
abbrev pub section : ℕ → List ℕ → List ℕ → List ℕ
section number line body = heading number line ++ body ++ 10 ∷ []

-- The sections of sentences, numbered from this number on, by what is written of each.
pub data AreSections (IsBody : List ℕ → List ℕ → Type 0) : ℕ → List (List ℕ) → List (List ℕ) → Type 0 where
  none : {number : ℕ} → AreSections IsBody number [] []
  more : {number : ℕ} {line body : List ℕ} {lines sections : List (List ℕ)} → IsBody line body → AreSections IsBody (suc number) lines sections
      → AreSections IsBody number (line ∷ lines) (section number line body ∷ sections)

-- the sentences of a text: its lines but the empty ones
abbrev pub sentences_of : List ℕ → List (List ℕ)
sentences_of text = filter (λ line. not (length line == 0)) (lines text)

-- what `readings` writes of a sentence: the texts of its readings, in their order
pub record AreReadings (g : Grammar) (line body : List ℕ) : Type 0 where
  pub pairs : List Pair
  pub readings : IsReadings g (map token_of (words line)) pairs
  pub is : body ≡ flat_map pair_text pairs

-- the most bytes of a file
abbrev pub file_limit : ℕ
file_limit = 4194304

-- Why a grammar file is not accepted: the fault for which it is not loaded; or, with the number 0,
-- that it is loaded and not thin.
pub data IsFaultOf (bytes : List ℕ) (fault : GrammarFault) : Type 0 where
  at_fault : LoadFault bytes fault → IsFaultOf bytes fault
  not_thin : {grammar : Grammar} → Loads bytes grammar → fault ≡ Entry 0 → IsFaultOf bytes fault

-- The files of the command are there and accepted.
pub data AreAccepted (files : List ℕ → Option (List ℕ)) : Option Command → Type 0 where
  both_thin : {g s bytes text : List ℕ} {grammar : Grammar} → files g ≡ Some bytes → ThinFile bytes grammar → files s ≡ Some text → ThinSentences text
      → AreAccepted files (Some (readings g s))

-- The command comes to the file of this name: the files before it are there and accepted.
pub data ComesTo (files : List ℕ → Option (List ℕ)) : Option Command → List ℕ → Type 0 where
  to_grammar : {g s : List ℕ} → ComesTo files (Some (readings g s)) g
  to_sentences : {g s bytes : List ℕ} {grammar : Grammar} → files g ≡ Some bytes → ThinFile bytes grammar → ComesTo files (Some (readings g s)) s

-- The output of a command line over files, which are told by their names: its sections and its
-- status. First come the words, then the files in their order, each found and then accepted, and
-- then the sentences. Want of memory and faults of devices do not occur in it.
pub data IsOutput (files : List ℕ → Option (List ℕ)) : Option Command → List (List ℕ) → Status → Type 0 where
  usage : IsOutput files None [] Usage
  no_grammar : {g s : List ℕ} → files g ≡ None → IsOutput files (Some (readings g s)) [] (ReadFault g)
  long_grammar : {g s bytes : List ℕ} → files g ≡ Some bytes → file_limit < length bytes → IsOutput files (Some (readings g s)) [] (FileTooLong g)
  bad_grammar : {g s bytes : List ℕ} {fault : GrammarFault} → files g ≡ Some bytes → length bytes ≤ file_limit → ((grammar : Grammar) → ¬ ThinFile bytes grammar)
      → IsFaultOf bytes fault → IsOutput files (Some (readings g s)) [] (BadGrammar g fault)
  no_sentences : {g s bytes : List ℕ} {grammar : Grammar} → files g ≡ Some bytes → ThinFile bytes grammar → files s ≡ None
      → IsOutput files (Some (readings g s)) [] (ReadFault s)
  long_sentences : {g s bytes text : List ℕ} {grammar : Grammar} → files g ≡ Some bytes → ThinFile bytes grammar → files s ≡ Some text → file_limit < length text
      → IsOutput files (Some (readings g s)) [] (FileTooLong s)
  bad_sentences : {g s bytes text : List ℕ} {grammar : Grammar} → files g ≡ Some bytes → ThinFile bytes grammar → files s ≡ Some text → length text ≤ file_limit → ¬ ThinSentences text
      → IsOutput files (Some (readings g s)) [] (BadGrammar s (Entry 0))
  all_read : {g s bytes text : List ℕ} {grammar : Grammar} {sections : List (List ℕ)} → files g ≡ Some bytes → ThinFile bytes grammar
      → files s ≡ Some text → ThinSentences text → AreSections (AreReadings grammar) 1 (sentences_of text) sections
      → IsOutput files (Some (readings g s)) sections Done

-- the bytes of pieces, one behind another
abbrev pub joined : List (List ℕ) → List ℕ
joined = flat_map (λ piece. piece)

-- the bytes are the whole sections of some sentences, from the first on
pub record WholeSections (IsBody : List ℕ → List ℕ → Type 0) (sentences : List (List ℕ)) (bytes : List ℕ) : Type 0 where
  pub written : List (List ℕ)
  pub left : List (List ℕ)
  pub split : sentences ≡ written ++ left
  pub sections : List (List ℕ)
  pub are : AreSections IsBody 1 written sections
  pub is : bytes ≡ joined sections

-- the same, and behind them the beginning of the next sentence's section
pub record CutSections (IsBody : List ℕ → List ℕ → Type 0) (sentences : List (List ℕ)) (bytes : List ℕ) : Type 0 where
  pub written : List (List ℕ)
  pub next : List ℕ
  pub left : List (List ℕ)
  pub split : sentences ≡ written ++ next ∷ left
  pub sections : List (List ℕ)
  pub are : AreSections IsBody 1 written sections
  pub body : List ℕ
  pub is_body : IsBody next body
  pub count : ℕ
  pub is : bytes ≡ joined sections ++ take count (section (suc (length written)) next body)

-- What a run has written that ends for want of memory: nothing, or the sections of some sentences,
-- whole and from the first on.
pub data IsPart (files : List ℕ → Option (List ℕ)) : Option Command → List ℕ → Type 0 where
  nothing : {c : Option Command} → IsPart files c []
  whole : {g s bytes text part : List ℕ} {grammar : Grammar} → files g ≡ Some bytes → ThinFile bytes grammar → files s ≡ Some text → ThinSentences text
      → WholeSections (AreReadings grammar) (sentences_of text) part → IsPart files (Some (readings g s)) part

-- What a run has written that ends with a fault of the output: the sections of some sentences,
-- whole and from the first on, and the beginning of the next one.
pub data IsCutPart (files : List ℕ → Option (List ℕ)) : Option Command → List ℕ → Type 0 where
  cut : {g s bytes text part : List ℕ} {grammar : Grammar} → files g ≡ Some bytes → ThinFile bytes grammar → files s ≡ Some text → ThinSentences text
      → CutSections (AreReadings grammar) (sentences_of text) part → IsCutPart files (Some (readings g s)) part

-- ---- laws

-- Law: a command over files has one output.
abbrev pub OneOutput : Type 0
OneOutput =
    (files : List ℕ → Option (List ℕ)) (c : Option Command) (ss us : List (List ℕ)) (s u : Status)
    → IsOutput files c ss s → IsOutput files c us u → (ss ≡ us) × (s ≡ u)
