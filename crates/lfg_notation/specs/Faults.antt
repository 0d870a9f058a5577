-- What the program answered, beside what a file says.
use Rattle.std.specs.Prelude.{◌≡◌, ℕ, Result, Ok, Err, List, Vec, map}
use Rattle.std.specs.Global.{Global}
use Rattle.lfg_terms.specs.declared.draft.Draft.{Draft}
use Rattle.lfg_model.specs.DraftForms.{DraftForm, draft_form}
use Rattle.lfg_model.specs.Drafts.{Section, Numbered, Drafts, LexemesFault, not_utf8, no_token, no_lexemes, bad_section, bad_entry, HasFault}
use Rattle.lfg_notation.specs.declared.entries.Parts.{Parts}
use Rattle.lfg_notation.specs.declared.fault.DraftFault.{DraftFault}
use Rattle.lfg_notation.specs.declared.fault.DraftFault.TheVariants as fault
use Rattle.lfg_notation.specs.declared.fault.Refusal.{Refusal}
use Rattle.lfg_notation.specs.declared.fault.Refusal.TheVariants as refusal
use Rattle.lfg_notation.specs.declared.sections.Section.{Section as Found}
use Rattle.lfg_notation.specs.Views.{numbered, parts_form, section_form}

-- an entry that was not read is told with its number, and want of memory as such
abbrev pub IsEntryFault : Refusal → ℕ → DraftFault → Type 0
IsEntryFault refusal.Form n f = f ≡ fault.Entry n
IsEntryFault refusal.Memory n f = f ≡ fault.Memory

-- the answer is a fault of this number of an entry; want of memory says nothing
abbrev pub TellsEntry : {X : Type 0} → DraftFault → Result X ℕ → Type 0
TellsEntry (fault.NotUtf8 at) said = ⊥
TellsEntry (fault.NoToken at) said = ⊥
TellsEntry (fault.Section n) said = ⊥
TellsEntry (fault.Entry n) said = said ≡ Err n
TellsEntry fault.Memory said = Unit {0}

-- the answer is a fault of this number of a section; want of memory says nothing
abbrev pub TellsSection : {X : Type 0} → DraftFault → Result X ℕ → Type 0
TellsSection (fault.NotUtf8 at) said = ⊥
TellsSection (fault.NoToken at) said = ⊥
TellsSection (fault.Section n) said = said ≡ Err n
TellsSection (fault.Entry n) said = ⊥
TellsSection fault.Memory said = Unit {0}

-- the answer is what the entries of a section say
abbrev pub ReadsEntries : Result (ℕ × Parts) DraftFault → Result Numbered ℕ → Type 0
ReadsEntries (Ok x) said = said ≡ Ok (numbered x.0 x.1)
ReadsEntries (Err f) said = TellsEntry f said

-- the answer is what the entries of all sections say
abbrev pub ReadsParts : Result Parts DraftFault → Result DraftForm ℕ → Type 0
ReadsParts (Ok x) said = said ≡ Ok (parts_form x)
ReadsParts (Err f) said = TellsEntry f said

-- the answer is the sections of a file
abbrev pub ReadsSections : Result (Vec Found Global) DraftFault → Result (List Section) ℕ → Type 0
ReadsSections (Ok v) said = said ≡ Ok (map section_form v.items)
ReadsSections (Err f) said = TellsSection f said

-- the answer is what the lexemes of a file say
abbrev pub TellsLexemes : DraftFault → Result DraftForm LexemesFault → Type 0
TellsLexemes (fault.NotUtf8 at) said = ⊥
TellsLexemes (fault.NoToken at) said = ⊥
TellsLexemes (fault.Section n) said = said ≡ Err (bad_section n)
TellsLexemes (fault.Entry n) said = said ≡ Err (bad_entry n)
TellsLexemes fault.Memory said = Unit {0}

abbrev pub ReadsLexemes : Result Draft DraftFault → Result DraftForm LexemesFault → Type 0
ReadsLexemes (Ok d) said = said ≡ Ok (draft_form d)
ReadsLexemes (Err f) said = TellsLexemes f said

-- the fault of the program as the definitions have it; want of memory is none of a file
abbrev pub Tells : List ℕ → DraftFault → Type 0
Tells bytes (fault.NotUtf8 at) = HasFault bytes (not_utf8 at)
Tells bytes (fault.NoToken at) = HasFault bytes (no_token at)
Tells bytes (fault.Section n) = HasFault bytes (no_lexemes (bad_section n))
Tells bytes (fault.Entry n) = HasFault bytes (no_lexemes (bad_entry n))
Tells bytes fault.Memory = Unit {0}

-- the answer is the draft of the file, or why it is none
abbrev pub ReadsFile : List ℕ → Result Draft DraftFault → Type 0
ReadsFile bytes (Ok d) = Drafts bytes (draft_form d)
ReadsFile bytes (Err f) = Tells bytes f
