-- Which texts are grammar files and what each of them says; and of any other text, why it is none.
use Rattle.std.specs.Prelude.{◌≡◌, ℕ, ◌+◌, Bool, true, false, cond, ◌||◌, ◌⊎◌, Option, Some, None, Result, Ok, Err, List, [], ◌∷◌, ◌++◌, map, codes}
use Rattle.std.specs.List.{list_any}
use Rattle.std.specs.Str.{IsUtf8, chars}
use Rattle.std.specs.Str.Lossy.{utf8_valid_len}
use Rattle.lfg_model.specs.declared.lexeme.Lexeme.{Lexeme}
use Rattle.lfg_model.specs.declared.lexeme.Lexeme.TheVariants.{Word, Open, Close, OpenBracket, CloseBracket, OpenBrace, CloseBrace, Less, Greater, Bar, Quote, Up, Down, Equals, Constrains, Differs, Not, Dollar, At, Star, Plus, Minus, Comma, Semicolon, Colon, DoubleColon, Stop, Percent, Arrow, DoubleArrow, OptionalArrow, Becomes, Divider}
use Rattle.lfg_model.specs.declared.notation.Separator.TheVariants as at
use Rattle.lfg_model.specs.declared.notation.SectionKind.{SectionKind}
use Rattle.lfg_model.specs.declared.notation.SectionKind.TheVariants.{Config, Rules, Templates, Lexicon}
use Rattle.lfg_model.specs.declared.token.Token.{Token}
use Rattle.lfg_model.specs.declared.token.TokenKind.{TokenKind}
use Rattle.lfg_model.specs.declared.token.TokenKind.TheVariants as kind
use Rattle.lfg_model.specs.Terms.{Name, same_name}
use Rattle.lfg_model.specs.Tokens.{Tokens, Stuck}
use Rattle.lfg_model.specs.Nests.{◌>>=◌}
use Rattle.lfg_model.specs.DraftForms.{DraftForm}
use Rattle.lfg_model.specs.EntryNotation.{Piece, cut, entry_read}

-- ---- lexemes

-- a symbol with its lexeme
pub record Sign : Type 0 where
  pub text : Name
  pub lexeme : Lexeme

abbrev sign : Name → Lexeme → Sign
sign text lexeme = record { text = text; lexeme = lexeme }

-- the symbols
abbrev pub signs : List Sign
signs =
    sign (codes "(") Open ∷ sign (codes ")") Close ∷ sign (codes "[") OpenBracket ∷ sign (codes "]") CloseBracket ∷ sign (codes "{") OpenBrace ∷ sign (codes "}") CloseBrace
    ∷ sign (codes "<") Less ∷ sign (codes ">") Greater ∷ sign (codes "|") Bar ∷ sign (codes "'") Quote ∷ sign (codes "^") Up ∷ sign (codes "!") Down
    ∷ sign (codes "=") Equals ∷ sign (codes "=c") Constrains ∷ sign (codes "~=") Differs ∷ sign (codes "~") Not ∷ sign (codes "$") Dollar ∷ sign (codes "@") At
    ∷ sign (codes "*") Star ∷ sign (codes "+") Plus ∷ sign (codes "-") Minus ∷ sign (codes ",") Comma ∷ sign (codes ";") Semicolon ∷ sign (codes ":") Colon
    ∷ sign (codes "::") DoubleColon ∷ sign (codes ".") Stop ∷ sign (codes "%") Percent ∷ sign (codes "-->") Arrow ∷ sign (codes "==>") DoubleArrow ∷ sign (codes "?=>") OptionalArrow
    ∷ sign (codes ":=") Becomes ∷ []

-- the lexeme of the symbol with this text, which is the divider where it is none of these
abbrev pub lexeme_in : List Sign → Name → Lexeme
lexeme_in [] text = Divider
lexeme_in (s ∷ ss) text = cond (same_name text s.text) s.lexeme (lexeme_in ss text)

-- the lexeme of a token of this kind
unfoldable pub lexeme_of : TokenKind → Name → Lexeme
lexeme_of kind.Name text = Word text
lexeme_of kind.Symbol text = lexeme_in signs text

-- the lexemes of the tokens
abbrev pub lexemes_of : List Token → List Lexeme
lexemes_of ts = map (λ t. lexeme_of t.kind t.text) ts

-- ---- sections

-- a section of this kind with what is behind its heading
pub record Section : Type 0 where
  pub kind : SectionKind
  pub entries : List Lexeme

-- the kind that this word names
abbrev pub kind_of : Name → Option SectionKind
kind_of word =
    cond (same_name word (codes "CONFIG")) (Some Config)
    (cond (same_name word (codes "RULES")) (Some Rules)
    (cond (same_name word (codes "TEMPLATES")) (Some Templates)
    (cond (same_name word (codes "LEXICON")) (Some Lexicon) None)))

-- behind the word of a kind: the version
abbrev pub behind_kind : SectionKind → List Lexeme → Option Section
behind_kind k (Open ∷ Word one ∷ Stop ∷ Word nought ∷ Close ∷ ls) =
    cond (same_name one (codes "1")) (cond (same_name nought (codes "0")) (Some (record { kind = k; entries = ls })) None) None
behind_kind k _ = None

-- a section with its heading `NAME NAME KIND (1.0)`
abbrev pub section_of : List Lexeme → Option Section
section_of (Word a ∷ Word b ∷ Word word ∷ ls) = kind_of word >>= λ k. behind_kind k ls
section_of _ = None

abbrev pub same_kind : SectionKind → SectionKind → Bool
same_kind Config Config = true
same_kind Rules Rules = true
same_kind Templates Templates = true
same_kind Lexicon Lexicon = true
same_kind _ _ = false

-- one of the sections is of this kind
abbrev pub has_kind : SectionKind → List Section → Bool
has_kind k ss = list_any (λ s. same_kind s.kind k) ss

-- a section of another kind than those before it
abbrev pub new_section : List Section → Section → Option Section
new_section before s = cond (has_kind s.kind before) None (Some s)

-- the section in a piece that is ended, of another kind than those before it
abbrev pub section_at : List Section → Piece → Option Section
section_at before p = cond p.is_ended (section_of p.lexemes >>= new_section before) None

-- what comes of the thing that was found, or this number
abbrev pub or_number : {A B : Type 0} → ℕ → Option A → (A → Result B ℕ) → Result B ℕ
or_number n None f = Err n
or_number n (Some x) f = f x

-- The sections behind those before, the next of which has the number n; or the number of the first
-- piece that is none. Without a section CONFIG it is the number behind the last.
abbrev pub sections_from : ℕ → List Section → List Piece → Result (List Section) ℕ
sections_from n before [] = cond (has_kind Config before) (Ok before) (Err n)
sections_from n before (p ∷ ps) = or_number n (section_at before p) (λ s. sections_from (n + 1) (before ++ (s ∷ [])) ps)

-- the sections of a file, or the number of the first that is at fault
abbrev pub sections_of : List Lexeme → Result (List Section) ℕ
sections_of ls = sections_from 1 [] (cut at.Divider ls)

-- ---- entries

-- a draft, and the number of the next entry
pub record Numbered : Type 0 where
  pub number : ℕ
  pub draft : DraftForm

-- the draft with the entry in a piece that is ended
abbrev pub piece_read : SectionKind → ℕ → Piece → DraftForm → Option DraftForm
piece_read k n p d = cond p.is_ended (entry_read k n p.lexemes d) None

-- the draft with the entries of a section, numbered from n; or the number of the first that is none
abbrev pub entries_from : SectionKind → ℕ → DraftForm → List Piece → Result Numbered ℕ
entries_from k n d [] = Ok (record { number = n; draft = d })
entries_from k n d (p ∷ ps) = or_number n (piece_read k n p d) (λ e. entries_from k (n + 1) e ps)

-- what comes of the draft so far
abbrev pub going_on : Result Numbered ℕ → (ℕ → DraftForm → Result DraftForm ℕ) → Result DraftForm ℕ
going_on (Ok x) f = f x.number x.draft
going_on (Err n) f = Err n

-- the draft with the entries of these sections, numbered on from one section to the next
abbrev pub sections_read : ℕ → DraftForm → List Section → Result DraftForm ℕ
sections_read n d [] = Ok d
sections_read n d (s ∷ ss) = going_on (entries_from s.kind n d (cut at.Stop s.entries)) (λ m e. sections_read m e ss)

-- the draft with nothing in it
abbrev pub empty_draft : DraftForm
empty_draft = record { settings = []; rules = []; templates = []; words = [] }

-- ---- files

-- why lexemes are no grammar file: a section that is at fault, or an entry
pub data LexemesFault : Type 0 where
  bad_section : ℕ → LexemesFault
  bad_entry : ℕ → LexemesFault

abbrev pub entries_said : Result DraftForm ℕ → Result DraftForm LexemesFault
entries_said (Ok d) = Ok d
entries_said (Err n) = Err (bad_entry n)

abbrev pub sections_said : Result (List Section) ℕ → Result DraftForm LexemesFault
sections_said (Ok ss) = entries_said (sections_read 1 empty_draft ss)
sections_said (Err n) = Err (bad_section n)

-- what the lexemes of a file say
unfoldable pub said : List Lexeme → Result DraftForm LexemesFault
said ls = sections_said (sections_of ls)

-- the bytes are UTF-8 with these tokens
pub record HasTokens (bytes : List ℕ) (ts : List Token) : Type 0 where
  pub utf8 : IsUtf8 bytes
  pub read : Tokens 0 (chars bytes) ts

-- The bytes are a grammar file, and this is its draft.
pub record Drafts (bytes : List ℕ) (d : DraftForm) : Type 0 where
  pub tokens : List Token
  pub has : HasTokens bytes tokens
  pub says : said (lexemes_of tokens) ≡ Ok d

-- why bytes are no grammar file
pub data FileFault : Type 0 where
  not_utf8 : ℕ → FileFault
  no_token : ℕ → FileFault
  no_lexemes : LexemesFault → FileFault

-- the bytes are UTF-8 with tokens, of which the lexemes are at fault in this way
pub record HasLexemesFault (bytes : List ℕ) (fault : LexemesFault) : Type 0 where
  pub tokens : List Token
  pub has : HasTokens bytes tokens
  pub says : said (lexemes_of tokens) ≡ Err fault

-- The bytes are no grammar file, for this reason, which is the first: they are not UTF-8 from this
-- byte on; no token begins at this byte; or this section, or this entry, is none.
abbrev pub HasFault : List ℕ → FileFault → Type 0
HasFault bytes (not_utf8 at) = (¬ IsUtf8 bytes) × (at ≡ utf8_valid_len bytes)
HasFault bytes (no_token at) = IsUtf8 bytes × Stuck 0 (chars bytes) at
HasFault bytes (no_lexemes fault) = HasLexemesFault bytes fault

-- ---- laws

-- Law: a text says a draft, or there is a reason why it says none.
abbrev pub SomeDraft : Type 0
SomeDraft = (bytes : List ℕ) → ((d : DraftForm) × Drafts bytes d) ⊎ ((f : FileFault) × HasFault bytes f)

-- Law: a text says one draft at most.
abbrev pub OneDraft : Type 0
OneDraft = (bytes : List ℕ) (d e : DraftForm) → Drafts bytes d → Drafts bytes e → d ≡ e

-- Law: a text is no grammar file for one reason at most.
abbrev pub OneFault : Type 0
OneFault = (bytes : List ℕ) (f g : FileFault) → HasFault bytes f → HasFault bytes g → f ≡ g

-- Law: a text that says a draft is a grammar file.
abbrev pub NeverBoth : Type 0
NeverBoth = (bytes : List ℕ) (d : DraftForm) (f : FileFault) → Drafts bytes d → HasFault bytes f → ⊥
