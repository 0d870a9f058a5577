-- The order of the lexicon entries that a word's edge can take.
use Rattle.std.specs.Prelude.{ℕ, zero, suc, cond, Option, Some, None, List, [], ◌∷◌, slice_get}
use Rattle.std.specs.declared.cmp.Ordering.{Ordering}
use Rattle.std.specs.Ordering.{nat_cmp, on, then_cmp}
use Rattle.lfg_terms.specs.declared.node.Edge.{Edge}
use Rattle.lfg_terms.specs.declared.grammar.Lex.{Lex}
use Rattle.lfg_terms.specs.declared.grammar.Grammar.{Grammar}
use Rattle.lfg_terms.specs.declared.tree.TokenForms.{TokenForms}
use Rattle.lfg_model.specs.Lists.{Lists}
use Rattle.lfg_model.specs.Terms.{Name, same_name}
use Rattle.lfg_model.specs.Spots.{AWord, Stands}

-- the first place of a form in a list, counted from 0; the list's length where it is not there
abbrev pub form_place : List Name → Name → ℕ
form_place [] form = 0
form_place (f ∷ fs) form = cond (same_name f form) 0 (suc (form_place fs form))

-- the forms of a token that was looked up, and the form of an entry; none where it is not there
abbrev pub forms_of : Option TokenForms → List Name
forms_of None = []
forms_of (Some token) = token.forms

abbrev pub form_of : Option Lex → Name
form_of None = []
form_of (Some lex) = lex.form

-- the place of the entry's form among the forms of the edge's first token
abbrev pub word_place : Grammar → List TokenForms → Edge → ℕ → ℕ
word_place g s e k = form_place (forms_of (slice_get s e.from)) (form_of (slice_get g.lexicon k))

-- The entries of an edge are ordered by the first place of their form among the token's forms, then
-- as they are written (this project's own).
abbrev pub entry_cmp : Grammar → List TokenForms → Edge → ℕ → ℕ → Ordering
entry_cmp g s e = then_cmp (on (word_place g s e) nat_cmp) nat_cmp

-- the entries that whole derivations take at the edge, in order, each once
abbrev pub AreEntries : Grammar → List TokenForms → Edge → List ℕ → Type 0
AreEntries g s e ks = Lists (entry_cmp g s e) (λ k. Stands g s (AWord e k)) ks
