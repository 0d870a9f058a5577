use Rattle.std.proofs.Common.{◌≤◌, ◌∙◌, Some, List, length, ap, sym, subst}
use Rattle.std.proofs.lemmas.Bool.{false≢true}
use Rattle.std.specs.Str.{chars}
use Rattle.lfg_model.specs.declared.lexeme.Lexeme.{Lexeme}
use Rattle.lfg_model.specs.declared.token.Token.{Token}
use Rattle.lfg_model.specs.Tokens.{Tokens}
use Rattle.xle_run.specs.Drafts.{draft_view}
use Rattle.xle_run.proofs.AsciiBytes.{thin_utf8}
use Rattle.xle_run.proofs.FileSteps.{no_lexemes, no_draft, not_consistent, is_file}
use Rattle.xle_run.proofs.thin.file.thin_grammar.Goals as goal

pub returns-in_default : goal.returns-in_default
returns-in_default c = λ g t. c.in_default.ensures.cases.0 (thin_utf8 c.args.bytes.now t.plain)

pub returns-in_default-2 : goal.returns-in_default-2
returns-in_default-2 c =
    no_lexemes c.args.bytes.now c.in-Ok.text.now c.deref.result.now c.in-Ok.ensures.cases.0 (subst (λ (us : List Token). Tokens 0 (chars c.in-Ok.text.now) us) (sym c.deref.ensures.value) c.in-Ok-tokens_of.ensures.tokens)
    (sym (rw c.in_default-2.is at c.in_ok-lexemes.ensures))

pub returns-in_default-3 : goal.returns-in_default-3
returns-in_default-3 c =
    no_draft c.args.bytes.now c.in-Ok.text.now c.deref.result.now c.in-Ok.ensures.cases.0 (subst (λ (us : List Token). Tokens 0 (chars c.in-Ok.text.now) us) (sym c.deref.ensures.value) c.in-Ok-tokens_of.ensures.tokens)
    c.deref-2.result.now (sym (rw c.in-Some.is at c.in_ok-lexemes.ensures) ∙ ap (λ (ls : List Lexeme). Some ls) (sym c.deref-2.ensures.value))
    (rw c.in_default-3.is at c.in_ok-draft.ensures)

pub returns-then-not-branch : goal.returns-then-not-branch
returns-then-not-branch c =
    not_consistent c.args.bytes.now c.in-Ok.text.now c.deref.result.now c.in-Ok.ensures.cases.0 (subst (λ (us : List Token). Tokens 0 (chars c.in-Ok.text.now) us) (sym c.deref.ensures.value) c.in-Ok-tokens_of.ensures.tokens)
    c.deref-2.result.now (sym (rw c.in-Some.is at c.in_ok-lexemes.ensures) ∙ ap (λ (ls : List Lexeme). Some ls) (sym c.deref-2.ensures.value))
    (draft_view c.in-Some-2.draft) (rw c.in-Some-2.is at c.in_ok-draft.ensures) (λ ok. false≢true (sym c.if-not-branch.true ∙ c.in_ok-is_consistent.ensures.1 ok))

pub returns : goal.returns
returns c =
    is_file c.args.bytes.now c.in-Ok.text.now c.deref.result.now c.in-Ok.ensures.cases.0 (subst (λ (us : List Token). Tokens 0 (chars c.in-Ok.text.now) us) (sym c.deref.ensures.value) c.in-Ok-tokens_of.ensures.tokens)
    c.deref-2.result.now (sym (rw c.in-Some.is at c.in_ok-lexemes.ensures) ∙ ap (λ (ls : List Lexeme). Some ls) (sym c.deref-2.ensures.value))
    (draft_view c.in-Some-2.draft) c.in_ok-grammar_of.field-0 (let l : length c.args.bytes.now ≤ 4096 = c.if-bytes-gt-LONGEST.false in l) (sym c.if-not-has_thin_bytes.ensures)
    (rw c.in-Some-2.is at c.in_ok-draft.ensures) (c.in_ok-is_consistent.ensures.0 c.if-not-branch.false) c.in_ok-grammar_of.ensures
