-- The lexicon entries of an edge, in the order of their forms among those of its token, and the keys
-- by which they are put in order.
use Rattle.std.specs.Prelude.{◌≡◌, ℕ, Some, List, slice_get}
use Rattle.std.proofs.Common.{rules}
use Rattle.std.specs.declared.cmp.Ordering.{Ordering}
use Rattle.std.specs.Ordering.{nat_cmp, on, then_cmp}
use Rattle.std.specs.Cmp.{IsTotalOrder}
use Rattle.std.specs.Cmp.Rules.{comparing}
use Rattle.lfg_terms.specs.declared.node.Edge.{Edge}
use Rattle.lfg_terms.specs.declared.grammar.Lex.{Lex}
use Rattle.lfg_terms.specs.declared.grammar.Grammar.{Grammar}
use Rattle.lfg_terms.specs.declared.tree.TokenForms.{TokenForms}
use Rattle.lfg_model.specs.Lists.{In, Lists}
use Rattle.lfg_model.specs.Terms.{Name}
use Rattle.lfg_model.specs.Kept.{IsEntry}
use Rattle.lfg_packed.specs.Words.{form_place, entry_cmp}
use Rattle.lfg_instant.specs.declared.words.EntryKey.{EntryKey}

-- the list is that of all entries of the edge, in order, each once
abbrev pub AreEntriesOf : Grammar → List TokenForms → Edge → List ℕ → Type 0
AreEntriesOf g s e ks = Lists (entry_cmp g s e) (λ k. IsEntry g s e k) ks

-- keys are ordered by the place, then by the entry
abbrev pub key_cmp : EntryKey → EntryKey → Ordering
key_cmp = then_cmp (on (λ k. k.place) nat_cmp) (on (λ k. k.entry) nat_cmp)

pub key_cmp_total : IsTotalOrder key_cmp
key_cmp_total = search (comparing, rules) depth 9

-- the key is that of this entry, which has the category and a form of the token
pub record IsKeyBy (lex : Lex) (entry : ℕ) (token : TokenForms) (cat : Name) (key : EntryKey) : Type 0 where
  pub number : key.entry ≡ entry
  pub category : lex.cat ≡ cat
  pub offered : In lex.form token.forms
  pub place : key.place ≡ form_place token.forms lex.form

-- so it is that of an entry of the lexicon
pub record IsKeyAt (lexicon : List Lex) (token : TokenForms) (cat : Name) (key : EntryKey) : Type 0 where
  pub lex : Lex
  pub listed : slice_get lexicon key.entry ≡ Some lex
  pub category : lex.cat ≡ cat
  pub offered : In lex.form token.forms
  pub place : key.place ≡ form_place token.forms lex.form
