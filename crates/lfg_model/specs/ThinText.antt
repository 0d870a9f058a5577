-- Thin files (this project's own): which texts are grammar files in a small part of the notation and
-- what each of them says, and which texts are sentence files.
use Rattle.std.specs.Prelude.{◌≡◌, ◌≢◌, ℕ, ◌≤◌, ◌==◌, ◌&&◌, ◌||◌, nat_le, not, Bool, true, false, cond, IsTrue, if◌then◌else◌, Option, Some, None, List, [], ◌∷◌, length, codes}
use Rattle.std.specs.List.{list_all, list_any, slice_split}
use Rattle.std.specs.Str.{chars}
use Rattle.std.specs.Str.Lines.{lines}
use Rattle.std.specs.Cmp.Lexicographic.{pointwise}
use Rattle.lfg_terms.specs.declared.grammar.Grammar.{Grammar}
use Rattle.lfg_terms.specs.declared.tree.TokenForms.{TokenForms}
use Rattle.lfg_model.specs.declared.token.Token.{Token}
use Rattle.lfg_model.specs.declared.token.TokenKind.{TokenKind}
use Rattle.lfg_model.specs.declared.token.TokenKind.TheVariants as kind
use Rattle.lfg_model.specs.declared.lexeme.Lexeme.{Lexeme}
use Rattle.lfg_model.specs.declared.lexeme.Lexeme.TheVariants.{Word, Open, Close, Up, Down, Equals, Colon, Semicolon, Stop, Star, Arrow, Divider}
use Rattle.lfg_model.specs.Lists.{In}
use Rattle.lfg_model.specs.Terms.{Name}
use Rattle.lfg_model.specs.Tokens.{Tokens}
use Rattle.lfg_model.specs.Thin.{Daughter, Phrase, Equation, Entry, Draft, IsConsistent, Gives, IsThinGrammar}

-- the two texts are the same
abbrev pub same : Name → Name → Bool
same = pointwise ◌==◌

-- a line feed or printable ASCII, and neither a double quote nor a backquote
abbrev pub is_thin_byte : ℕ → Bool
is_thin_byte b = b == 10 || (nat_le 32 b && nat_le b 126 && not (b == 34) && not (b == 96))

-- ---- the lexemes: the tokens that a thin file may have

-- a sign with its lexeme
pub record Sign : Type 0 where
  pub text : Name
  pub lexeme : Lexeme

abbrev sign : Name → Lexeme → Sign
sign text lexeme = record { text = text; lexeme = lexeme }

-- the signs that a thin file may have; `=c` and a lone hyphen are none of them
abbrev pub signs : List Sign
signs =
    sign (codes "(") Open ∷ sign (codes ")") Close ∷ sign (codes "^") Up ∷ sign (codes "!") Down ∷ sign (codes "=") Equals ∷ sign (codes ":") Colon
    ∷ sign (codes ";") Semicolon ∷ sign (codes ".") Stop ∷ sign (codes "*") Star ∷ sign (codes "-->") Arrow ∷ sign (codes "----") Divider ∷ []

-- the lexeme of the sign with this text
abbrev pub lexeme_in : List Sign → Name → Option Lexeme
lexeme_in [] text = None
lexeme_in (s ∷ ss) text = cond (same text s.text) (Some s.lexeme) (lexeme_in ss text)

-- a name without a hyphen is a word
abbrev pub word_of : Name → Option Lexeme
word_of text = if list_any (λ b. b == 45) text then None else Some (Word text)

-- the lexeme of a token of this kind
abbrev pub lexeme_of : TokenKind → Name → Option Lexeme
lexeme_of kind.Name text = word_of text
lexeme_of kind.Symbol text = lexeme_in signs text

-- something in front of a list, where there are both
abbrev pub put : {X : Type 0} → Option X → Option (List X) → Option (List X)
put None xs = None
put (Some x) None = None
put (Some x) (Some xs) = Some (x ∷ xs)

-- the lexemes of the tokens, where each token has one
abbrev pub lexemes_of : List Token → Option (List Lexeme)
lexemes_of [] = Some []
lexemes_of (t ∷ ts) = put (lexeme_of t.kind t.text) (lexemes_of ts)

-- ---- cutting

abbrev pub is_stop : Lexeme → Bool
is_stop Stop = true
is_stop _ = false

abbrev pub is_divider : Lexeme → Bool
is_divider Divider = true
is_divider _ = false

abbrev pub nothing_before : List Lexeme → Option (List Lexeme × List Lexeme)
nothing_before ls = Some ([], ls)

abbrev pub put_before : Lexeme → Option (List Lexeme × List Lexeme) → Option (List Lexeme × List Lexeme)
put_before l None = None
put_before l (Some x) = Some (l ∷ x.0, x.1)

-- the lexemes before the first that ends them, and those behind it
abbrev pub up_to : (Lexeme → Bool) → List Lexeme → Option (List Lexeme × List Lexeme)
up_to ends [] = None
up_to ends (l ∷ ls) = cond (ends l) (nothing_before ls) (put_before l (up_to ends ls))

-- The lexemes are these things, one behind another: each stands in front of what is left, until
-- what is left is an end.
pub data Row {X : Type 0} (is_end : List Lexeme → Bool) (Stands : List Lexeme → X → List Lexeme → Type 0) : List Lexeme → List X → Type 0 where
  done : {ls : List Lexeme} → is_end ls ≡ true → Row is_end Stands ls []
  more : {ls rest : List Lexeme} {x : X} {xs : List X} → is_end ls ≡ false → Stands ls x rest → Row is_end Stands rest xs → Row is_end Stands ls (x ∷ xs)

-- nothing is left
abbrev pub is_nothing : List Lexeme → Bool
is_nothing ls = length ls == 0

-- ---- sections

-- what a section of this kind has behind its heading `NAME NAME KIND (1.0)`
abbrev pub behind_heading : Name → List Lexeme → Option (List Lexeme)
behind_heading kind (Word _ ∷ Word _ ∷ Word word ∷ Open ∷ Word one ∷ Stop ∷ Word nought ∷ Close ∷ rest) =
    if same word kind && same one (codes "1") && same nought (codes "0") then Some rest else None
behind_heading kind _ = None

-- the word `in_set`
abbrev pub in_set : Lexeme
in_set = Word (codes "in_set")

-- a section of this kind with these entries, in which the name `in_set` does not stand
pub record IsSection (kind : Name) (section entries : List Lexeme) : Type 0 where
  pub heading : behind_heading kind section ≡ Some entries
  pub plain : ¬ In in_set entries

-- a section is these things, one at least
pub record IsFilled {X : Type 0} (kind : Name) (Stands : List Lexeme → X → List Lexeme → Type 0) (section : List Lexeme) (xs : List X) : Type 0 where
  pub entries : List Lexeme
  pub is : IsSection kind section entries
  pub row : Row is_nothing Stands entries xs
  pub filled : xs ≢ []

-- the category that the entry `ROOTCAT NAME.` names
abbrev pub root_at : List Lexeme → Option Name
root_at (Word key ∷ Word root ∷ Stop ∷ []) = if same key (codes "ROOTCAT") then Some root else None
root_at _ = None

-- the CONFIG section with its one entry
pub record IsConfig (section : List Lexeme) (cat : Name) : Type 0 where
  pub entries : List Lexeme
  pub is : IsSection (codes "CONFIG") section entries
  pub root : root_at entries ≡ Some cat

-- ---- rules

-- an annotation ends with a semicolon, which may be absent behind the last item
abbrev pub behind_annotation : Daughter → List Lexeme → Option (Daughter × List Lexeme)
behind_annotation x [] = Some (x, [])
behind_annotation x (Semicolon ∷ rest) = Some (x, rest)
behind_annotation x _ = None

abbrev pub bare : Name → Daughter
bare cat = record { cat = cat; function = None }

abbrev pub with_function : Name → Name → Daughter
with_function cat function = record { cat = cat; function = Some function }

-- the item in front, `NAME`, `NAME: ^=!;` or `NAME: (^ NAME)=!;`, and what is behind it
unfoldable pub daughter_at : List Lexeme → Option (Daughter × List Lexeme)
daughter_at (Word cat ∷ Colon ∷ Up ∷ Equals ∷ Down ∷ rest) = behind_annotation (bare cat) rest
daughter_at (Word cat ∷ Colon ∷ Open ∷ Up ∷ Word function ∷ Close ∷ Equals ∷ Down ∷ rest) = behind_annotation (with_function cat function) rest
daughter_at (Word cat ∷ Colon ∷ rest) = None
daughter_at (Word cat ∷ rest) = Some (bare cat, rest)
daughter_at _ = None

abbrev pub IsDaughter : List Lexeme → Daughter → List Lexeme → Type 0
IsDaughter ls x rest = daughter_at ls ≡ Some (x, rest)

-- the category of a rule, and the items behind its arrow
abbrev pub behind_arrow : List Lexeme → Option (Name × List Lexeme)
behind_arrow (Word cat ∷ Arrow ∷ items) = Some (cat, items)
behind_arrow _ = None

-- the rule `NAME --> ITEM ..`
pub record IsPhrase (ls : List Lexeme) (p : Phrase) : Type 0 where
  pub items : List Lexeme
  pub head : behind_arrow ls ≡ Some (p.cat, items)
  pub row : Row is_nothing IsDaughter items p.daughters
  pub filled : p.daughters ≢ []

-- ---- lexicon entries

-- the names in front, and what is behind them
abbrev pub names_at : List Lexeme → List Name × List Lexeme
names_at [] = ([], [])
names_at (Word name ∷ ls) = let r = names_at ls in (name ∷ r.0, r.1)
names_at (l ∷ ls) = ([], l ∷ ls)

-- an equation of this path, with `)=NAME` behind it
abbrev pub value_at : List Name × List Lexeme → Option (Equation × List Lexeme)
value_at (name ∷ names, Close ∷ Equals ∷ Word atom ∷ rest) = Some (record { path = name ∷ names; atom = atom }, rest)
value_at _ = None

-- the equation `(^ NAME ..)=NAME` in front, and what is behind it
unfoldable pub equation_at : List Lexeme → Option (Equation × List Lexeme)
equation_at (Open ∷ Up ∷ ls) = value_at (names_at ls)
equation_at _ = None

abbrev pub IsEquation : List Lexeme → Equation → List Lexeme → Type 0
IsEquation ls x rest = equation_at ls ≡ Some (x, rest)

-- a word's equations end with the entry; a semicolon may stand behind them
abbrev pub is_entry_end : List Lexeme → Bool
is_entry_end [] = true
is_entry_end (Semicolon ∷ []) = true
is_entry_end _ = false

-- the form and the category of a word
pub record Heading : Type 0 where
  pub form : Name
  pub cat : Name

-- the form and the category of a word, and the equations behind its star
abbrev pub behind_star : List Lexeme → Option (Heading × List Lexeme)
behind_star (Word form ∷ Word cat ∷ Star ∷ equations) = Some (record { form = form; cat = cat }, equations)
behind_star _ = None

-- the word `FORM CATEGORY * EQUATION ..`
pub record IsEntry (ls : List Lexeme) (x : Entry) : Type 0 where
  pub equations : List Lexeme
  pub head : behind_star ls ≡ Some (record { form = x.form; cat = x.cat }, equations)
  pub row : Row is_entry_end IsEquation equations x.equations

-- ---- what a file says

-- in front stands something that is ended by a stop
pub record IsEnded {X : Type 0} (Is : List Lexeme → X → Type 0) (ls : List Lexeme) (x : X) (rest : List Lexeme) : Type 0 where
  pub entry : List Lexeme
  pub cut : up_to is_stop ls ≡ Some (entry, rest)
  pub is : Is entry x

-- three sections, each ended by a divider
pub record AreSections (ls config rules lexicon : List Lexeme) : Type 0 where
  pub behind_config : List Lexeme
  pub behind_rules : List Lexeme
  pub first : up_to is_divider ls ≡ Some (config, behind_config)
  pub second : up_to is_divider behind_config ≡ Some (rules, behind_rules)
  pub third : up_to is_divider behind_rules ≡ Some (lexicon, [])

-- the lexemes say the draft: its root in the section CONFIG, its rules in RULES and its words in
-- LEXICON
pub record Says (ls : List Lexeme) (d : Draft) : Type 0 where
  pub config : List Lexeme
  pub rules : List Lexeme
  pub lexicon : List Lexeme
  pub sections : AreSections ls config rules lexicon
  pub root : IsConfig config d.root
  pub phrases : IsFilled (codes "RULES") (IsEnded IsPhrase) rules d.phrases
  pub entries : IsFilled (codes "LEXICON") (IsEnded IsEntry) lexicon d.entries

-- The text is a thin grammar file, and the grammar is what it gives.
pub record ThinFile (bytes : List ℕ) (g : Grammar) : Type 0 where
  pub short : length bytes ≤ 4096
  pub plain : IsTrue (list_all is_thin_byte bytes)
  pub tokens : List Token
  pub read : Tokens 0 (chars bytes) tokens
  pub lexemes : List Lexeme
  pub spelled : lexemes_of tokens ≡ Some lexemes
  pub draft : Draft
  pub says : Says lexemes draft
  pub consistent : IsConsistent draft
  pub gives : Gives draft g

-- ---- sentence files

-- an ASCII lower-case letter
abbrev pub is_letter : ℕ → Bool
is_letter b = nat_le 97 b && nat_le b 122

-- one or more ASCII lower-case letters
abbrev pub is_word : List ℕ → Bool
is_word w = not (length w == 0) && list_all is_letter w

-- what stands between the spaces of a line
abbrev pub words : List ℕ → List (List ℕ)
words line = slice_split (λ b. b == 32) line

-- nothing, or from 1 to 64 words with one space between two
abbrev pub is_thin_line : List ℕ → Bool
is_thin_line line = length line == 0 || (list_all is_word (words line) && nat_le (length (words line)) 64)

-- a letter, a space or a line feed
abbrev pub is_sentence_byte : ℕ → Bool
is_sentence_byte b = b == 10 || b == 32 || is_letter b

-- the text is a thin sentence file
pub record ThinSentences (bytes : List ℕ) : Type 0 where
  pub short : length bytes ≤ 65536
  pub plain : IsTrue (list_all is_sentence_byte bytes)
  pub thin : IsTrue (list_all is_thin_line (lines bytes))

-- a word with itself as its only form
abbrev pub token_of : List ℕ → TokenForms
token_of word = record { text = word; forms = word ∷ [] }

-- ---- laws

-- Law: a file gives one grammar at most.
abbrev pub OneThinGrammar : Type 0
OneThinGrammar = (bytes : List ℕ) (g h : Grammar) → ThinFile bytes g → ThinFile bytes h → g ≡ h

-- Law: the grammar of a thin file is thin: each of its rules has a daughter.
abbrev pub ThinFilesAreThin : Type 0
ThinFilesAreThin = (bytes : List ℕ) (g : Grammar) → ThinFile bytes g → IsThinGrammar g
