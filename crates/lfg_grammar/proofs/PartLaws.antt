-- The rules and the words of a draft together.
use Rattle.std.proofs.Common.{◌≡◌, ℕ, ◌⊎◌, inl, inr, List, [], ◌∷◌, ◌++◌, map, refl, sym, ap, ◌∙◌, subst}
use Rattle.std.specs.List.{flat_map}
use Rattle.std.proofs.lemmas.List.{map-append}
use Rattle.lfg_regpath.specs.declared.fault.PathFault.{PathFault}
use Rattle.lfg_regpath.specs.declared.fault.PathFault.TheVariants as fault
use Rattle.lfg_model.specs.DraftForms.{PlainForm}
use Rattle.lfg_model.specs.Lists.{In}
use Rattle.lfg_model.specs.Loads.{PathAt, HasTooMany, HasNone, IsBadPath, rule_paths, word_paths, draft_paths, path_limit}
use Rattle.lfg_model.specs.PathExpressions.{PathExpression, MoreThan, Strings}
use Rattle.lfg_model.specs.TemplateRules.{NoneHas}
use Rattle.lfg_model.specs.Terms.{Path}
use Rattle.lfg_model.proofs.ListLaws.{In_from_map}
use Rattle.lfg_grammar.specs.Answers.{FailsIn, SomeBad, path_of_entry}
use Rattle.lfg_grammar.specs.BadPaths.{IsFirstBad}
use Rattle.lfg_grammar.specs.Parts.{IsPathFault, too_many, no_path, memory}
use Rattle.lfg_grammar.specs.Refusals.{path_fault}
use Rattle.lfg_grammar.proofs.Fails.{fails_left, fails_right}

pub rules_fail : (depth : ℕ) (p : PlainForm) (f : PathFault) → FailsIn depth (map path_of_entry (flat_map rule_paths p.rules)) f → FailsIn depth (map path_of_entry (draft_paths p)) f
rules_fail depth p f h =
    subst (λ (ps : List PathExpression). FailsIn depth ps f) (sym (map-append path_of_entry (flat_map rule_paths p.rules) (flat_map word_paths p.words)))
    (fails_left depth (map path_of_entry (flat_map rule_paths p.rules)) (map path_of_entry (flat_map word_paths p.words)) f h)

pub words_fail : (depth : ℕ) (p : PlainForm) (f : PathFault) → FailsIn depth (map path_of_entry (flat_map word_paths p.words)) f → FailsIn depth (map path_of_entry (draft_paths p)) f
words_fail depth p f h =
    subst (λ (ps : List PathExpression). FailsIn depth ps f) (sym (map-append path_of_entry (flat_map rule_paths p.rules) (flat_map word_paths p.words)))
    (fails_right depth (map path_of_entry (flat_map rule_paths p.rules)) (map path_of_entry (flat_map word_paths p.words)) f h)

-- a path that fails is one of those that do
pub some_bad : (depth : ℕ) (xs : List PathAt) → SomeBad depth (map path_of_entry xs) → NoneHas (IsBadPath depth) xs → ⊥
some_bad depth xs b none =
    let x = In_from_map path_of_entry xs b.among in
    none x.0 x.1 (subst (λ (p : PathExpression). MoreThan path_limit (Strings p depth) ⊎ ((w : Path) → ¬ Strings p depth w)) (sym x.2) b.bad)

pub bad_fault : (depth : ℕ) (p : PlainForm) (entry : ℕ) (f : PathFault) → IsFirstBad depth (draft_paths p) entry f → IsPathFault depth p (path_fault entry f)
bad_fault depth p entry fault.TooManyPaths h = too_many (record { path = h.path; is_first = h.is_first; at = h.at; fails = h.fails })
bad_fault depth p entry fault.NoPath h = no_path (record { path = h.path; is_first = h.is_first; at = h.at; fails = h.fails })
bad_fault depth p entry fault.Memory h = absurd h.fails
