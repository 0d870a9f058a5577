-- The program's drafts as those of the definitions.
use Rattle.std.specs.Prelude.{ℕ, List, map}
use Rattle.xle_run.specs.declared.thin.draft.Daughter.{Daughter}
use Rattle.xle_run.specs.declared.thin.draft.Phrase.{Phrase}
use Rattle.xle_run.specs.declared.thin.draft.Equation.{Equation}
use Rattle.xle_run.specs.declared.thin.draft.Entry.{Entry}
use Rattle.xle_run.specs.declared.thin.draft.Draft.{Draft}
use Rattle.lfg_model.specs.declared.lexeme.Lexeme.{Lexeme}
use Rattle.xle_run.specs.declared.thin.lexicon.Heading.{Heading}
use Rattle.lfg_model.specs.Thin as thin
use Rattle.lfg_model.specs.ThinText as text

abbrev pub daughter_view : Daughter → thin.Daughter
daughter_view x = record { cat = x.cat; function = x.function }

abbrev pub phrase_view : Phrase → thin.Phrase
phrase_view p = record { cat = p.cat; daughters = map daughter_view p.daughters.items }

abbrev pub equation_view : Equation → thin.Equation
equation_view e = record { path = e.path.items; atom = e.atom }

abbrev pub entry_view : Entry → thin.Entry
entry_view x = record { form = x.form; cat = x.cat; equations = map equation_view x.equations.items }

abbrev pub heading_view : Heading → text.Heading
heading_view h = record { form = h.form.now; cat = h.cat.now }

abbrev pub draft_view : Draft → thin.Draft
draft_view d = record { root = d.root; phrases = map phrase_view d.phrases.items; entries = map entry_view d.entries.items }

-- names, and what is behind them
abbrev pub named : List (List ℕ) → List Lexeme → List (List ℕ) × List Lexeme
named names rest = (names, rest)
