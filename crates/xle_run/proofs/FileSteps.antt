-- How a thin file is refused, step by step.
use Rattle.std.proofs.Common.{◌≡◌, ◌↔◌, ℕ, ◌≤◌, Bool, true, IsTrue, Option, Some, None, Result, Ok, Err, IfOk, List, length, ap, sym, ◌∙◌, subst}
use Rattle.std.specs.List.{list_all}
use Rattle.std.specs.Str.{chars}
use Rattle.lfg_terms.specs.declared.grammar.Grammar.{Grammar}
use Rattle.lfg_model.specs.declared.lexeme.Lexeme.{Lexeme}
use Rattle.lfg_model.specs.declared.token.Token.{Token}
use Rattle.lfg_model.specs.Thin.{Draft, IsConsistent, Gives}
use Rattle.lfg_model.specs.ThinText.{is_thin_byte, lexemes_of, Says, ThinFile}
use Rattle.lfg_model.specs.Tokens.{Tokens}
use Rattle.lfg_model.proofs.OneReading.{one_row}
use Rattle.lfg_model.proofs.ThinLaws.{says_once, lexemes_once}

none_some : (z : List Lexeme) → ◌≡◌ {A = Option (List Lexeme)} None (Some z) → ⊥
none_some z s = cc

module _ (bytes text : List ℕ) (ts : List Token) (same : text ≡ bytes) (read : Tokens 0 (chars text) ts) where
  read_bytes : Tokens 0 (chars bytes) ts
  read_bytes = subst (λ (bs : List ℕ). Tokens 0 (chars bs) ts) same read

  pub no_lexemes : lexemes_of ts ≡ None → (g : Grammar) → ThinFile bytes g → ⊥
  no_lexemes e g t = none_some t.lexemes (sym e ∙ ap lexemes_of (one_row read_bytes t.read) ∙ t.spelled)

  module _ (ls : List Lexeme) (spelled : lexemes_of ts ≡ Some ls) where
    said : (g : Grammar) (t : ThinFile bytes g) → Says ls t.draft
    said g t = subst (λ (us : List Lexeme). Says us t.draft) (lexemes_once t.tokens ts t.lexemes ls (one_row t.read read_bytes) t.spelled spelled) t.says

    pub no_draft : ((d : Draft) → Says ls d → ⊥) → (g : Grammar) → ThinFile bytes g → ⊥
    no_draft never g t = never t.draft (said g t)

    pub not_consistent : (d : Draft) → Says ls d → (IsConsistent d → ⊥) → (g : Grammar) → ThinFile bytes g → ⊥
    not_consistent d s never g t = never (subst (λ (e : Draft). IsConsistent e) (says_once ls t.draft d (said g t) s) t.consistent)

    pub is_file : (d : Draft) (g : Grammar) → length bytes ≤ 4096 → list_all is_thin_byte bytes ≡ true → Says ls d → IsConsistent d → Gives d g → ThinFile bytes g
    is_file d g short plain says ok gives = record { short = short; plain = plain; tokens = ts; read = read_bytes; lexemes = ls; spelled = spelled; draft = d; says = says; consistent = ok; gives = gives }

-- the same answer to an equal question
pub ok_iff : {E : Type 0} (r : Result Bool E) (P Q : Type 0) → (P → Q) → (Q → P) → IfOk r (λ yes. IsTrue yes ↔ P) → IfOk r (λ yes. IsTrue yes ↔ Q)
ok_iff (Ok b) P Q f g h = (λ t. f (h.0 t), λ q. h.1 (g q))
ok_iff (Err e) P Q f g h = tt
