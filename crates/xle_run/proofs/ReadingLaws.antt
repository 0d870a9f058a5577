-- The readings of a sentence by a thin grammar.
use Rattle.std.proofs.Common.{◌≡◌, ℕ, ◌<◌, ◌^◌, List, [], ◌∷◌, map, length, Option, Some, None, refl, sym, subst, arith, lit<}
use Rattle.std.specs.Prelude.{Result, Ok, Err, IfOk, IfSome, IfNone}
use Rattle.std.specs.Option.{option_to_list}
use Rattle.lfg_terms.specs.declared.grammar.Grammar.{Grammar}
use Rattle.lfg_terms.specs.declared.grammar.Item.{Item}
use Rattle.lfg_terms.specs.declared.grammar.Rule.{Rule}
use Rattle.lfg_terms.specs.declared.grammar.Lex.{Lex}
use Rattle.lfg_terms.specs.declared.tree.TokenForms.{TokenForms}
use Rattle.lfg_model.specs.declared.pair.Pair.{Pair}
use Rattle.lfg_model.specs.Lists.{In}
use Rattle.lfg_model.specs.Literals.{checks}
use Rattle.lfg_model.specs.Terms.{Name, Tree, annotation_of}
use Rattle.lfg_model.specs.Places.{form_count}
use Rattle.lfg_model.specs.Trees.{literals}
use Rattle.lfg_model.specs.Derive.{Whole}
use Rattle.lfg_model.specs.Readings.{IsReadings, IsPairOf, Assigned, solution_of}
use Rattle.lfg_model.specs.Solve.{IsWellFormed}
use Rattle.lfg_model.specs.Thin.{Equation, link, item_of, rule_of_phrase, schema_of_equation, lex_of_entry, IsThinGrammar}
use Rattle.lfg_model.specs.ThinTrees.{HaveOwnForms}
use Rattle.lfg_model.proofs.AtMostOne.{no_readings, one_reading}
use Rattle.lfg_model.proofs.DeriveLaws.{Derives-width}
use Rattle.lfg_model.proofs.ListLaws.{In_from_map}
use Rattle.lfg_model.proofs.ThinTreeLaws.{one_thin_derivation}
use Rattle.lfg_solve.specs.Fits.{ItemsFit, FormsFit, Fits}

-- ---- a thin grammar has no form, and a sentence few words

link_forms : (f : Option Name) → form_count (annotation_of (link f ∷ [])) ≡ 0
link_forms None = refl
link_forms (Some a) = refl

equation_forms : (es : List Equation) → form_count (annotation_of (map schema_of_equation es)) ≡ 0
equation_forms [] = refl
equation_forms (e ∷ es) = let h = equation_forms es in omega (arith, h)

few : (n : ℕ) → n ≡ 0 → n < 2 ^ 32
few n e = subst (λ (k : ℕ). k < 2 ^ 32) (sym e) (lit< tt)

module _ (g : Grammar) (thin : IsThinGrammar g) where
  rule_fits : (rule : Rule) → In rule g.rules → ItemsFit rule.items
  rule_fits rule i item j =
      let p = In_from_map rule_of_phrase thin.draft.phrases (subst (λ (rs : List Rule). In rule rs) thin.gives.rules i) in
      let x = In_from_map item_of p.0.daughters (subst (λ (r : Rule). In item r.items) (sym p.2) j) in
      few _ (subst (λ (it : Item). form_count (annotation_of it.schemata) ≡ 0) x.2 (link_forms x.0.function))

  lex_fits : (lex : Lex) → In lex g.lexicon → form_count (annotation_of lex.schemata) < 2 ^ 32
  lex_fits lex i =
      let x = In_from_map lex_of_entry thin.draft.entries (subst (λ (ls : List Lex). In lex ls) thin.gives.lexicon i) in
      few _ (subst (λ (l : Lex). form_count (annotation_of l.schemata) ≡ 0) x.2 (equation_forms x.0.equations))

  pub forms_fit : FormsFit g
  forms_fit = record { items = rule_fits; entries = lex_fits }

  pub derivation_fits : (s : List TokenForms) (d : Tree) → length s < 2 ^ 32 → Whole g s d → Fits g d
  derivation_fits s d l w = record { tokens = let e = Derives-width g s d _ w.derives in omega (arith, e); forms = forms_fit }

  -- no derivation, or one that is not assigned, gives no reading; an assigned one gives its pair
  pub none_found : (s : List TokenForms) → ((d : Tree) → ¬ Whole g s d) → IsReadings g s []
  none_found s n = no_readings g s (λ d a. n d a.whole)

  module _ (s : List TokenForms) (own : HaveOwnForms s) (d : Tree) (whole : Whole g s d) where
    only : (e : Tree) → Whole g s e → e ≡ d
    only e w = one_thin_derivation g s thin own e d w whole

    refused : ¬ IsWellFormed (solution_of g d) g.governable (checks (literals g d 0)) → (e : Tree) → ¬ Assigned g s e
    refused n e a = n (subst (λ (t : Tree). IsWellFormed (solution_of g t) g.governable (checks (literals g t 0))) (only e a.whole) a.well_formed)

    pub found_readings : (o : Option Pair) → IfNone o (¬ IsWellFormed (solution_of g d) g.governable (checks (literals g d 0)))
        → IfSome o (λ p. IsWellFormed (solution_of g d) g.governable (checks (literals g d 0))) → IfSome o (IsPairOf g s d) → IsReadings g s (option_to_list o)
    found_readings None n w p = no_readings g s (refused n)
    found_readings (Some pair) n w p = one_reading g s d pair only (record { whole = whole; well_formed = w }) p

    pub answered_readings : (T : Type 0) (r : Result (Option Pair) T) → IfOk r (λ o. IfNone o (¬ IsWellFormed (solution_of g d) g.governable (checks (literals g d 0))))
        → IfOk r (λ o. IfSome o (λ p. IsWellFormed (solution_of g d) g.governable (checks (literals g d 0)))) → IfOk r (λ o. IfSome o (IsPairOf g s d))
        → IfOk r (λ o. IsReadings g s (option_to_list o))
    answered_readings T (Ok o) n w p = found_readings o n w p
    answered_readings T (Err e) n w p = tt
