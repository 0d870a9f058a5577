-- Where the rules and the words of a draft are loaded, no path of theirs fails.
use Rattle.std.proofs.Common.{ℕ, ◌<◌, ◌≤◌, Option, List, [], ◌∷◌, ◌++◌, length, ap, subst, arith, inl, inr}
use Rattle.std.specs.List.{flat_map}
use Rattle.lfg_terms.specs.declared.grammar.Val.{Val}
use Rattle.lfg_terms.specs.declared.grammar.Grammar.{Grammar}
use Rattle.lfg_model.specs.DraftForms.{RuleForm, WordForm, PlainForm}
use Rattle.lfg_model.specs.Lists.{In, here, later}
use Rattle.lfg_model.specs.Loads.{path_limit, HasStrings, LoadsPath, bare, strings, LoadsVal, designator, atom, form, LoadsSchema, defining, constraining, existential, membership, marked, disjunction, option, LoadsAnnotation, nothing, schema_more, LoadsBranches, no_more, branch_more, Assembles, path_of, val_paths, schema_paths, annotation_paths, branches_paths, item_paths, PathAt, path_at, rule_paths, word_paths, draft_paths, HasTooMany, HasNone, IsBadPath, items_of, IsBadSide}
use Rattle.lfg_model.specs.PathExpressions.{PathExpression, Strings}
use Rattle.lfg_model.specs.RightSides.{DraftSchema, DraftAnnotation, DraftBranches}
use Rattle.lfg_model.specs.Terms.{Path, Paths, Schema, Annotation, Branches}
use Rattle.lfg_model.specs.TemplateRules.{NoneHas}
use Rattle.lfg_model.proofs.AssemblyLaws.{each_on}
use Rattle.lfg_model.proofs.ListLaws.{In-append_cases, In_from_flat_map, In_from_map, length-le_from_Once}
-- ---- annotations

use Rattle.lfg_model.proofs.LoadedPaths.{HasSome}
use Rattle.lfg_grammar.specs.Halves.{IsHalf}
use Rattle.lfg_grammar.specs.Parts.{ArePartsOf}
use Rattle.lfg_grammar.specs.declared.parts.Parts.{Parts}

module _ (depth : ℕ) (path : PathExpression) where
  in_option : {o : Option PathExpression} {x : Option Paths} → LoadsPath depth o x → In path (path_of o) → HasSome depth path
  in_option bare i = elim i [ ]
  in_option (strings {ps} h) here = record { strings = ps; has = h }
  in_option (strings h) (later i) = elim i [ ]

  in_val : {v : Val PathExpression} {x : Val Paths} → LoadsVal depth v x → In path (val_paths v) → HasSome depth path
  in_val (designator h) i = in_option h.path i
  in_val atom i = elim i [ ]
  in_val form i = elim i [ ]

  in_two : (xs ys : List PathExpression) → (In path xs → HasSome depth path) → (In path ys → HasSome depth path) → In path (xs ++ ys) → HasSome depth path
  in_two xs ys f g i = elim (In-append_cases xs ys i) [ inl a ↦ f a | inr b ↦ g b ]

  mutual
    in_schema : {s : DraftSchema} {x : Schema} → LoadsSchema depth s x → In path (schema_paths s) → HasSome depth path
    in_schema (defining {left} {right} h v) i = in_two (path_of left.path) (val_paths right) (in_option h.path) (in_val v) i
    in_schema (constraining {left} {right} h v) i = in_two (path_of left.path) (val_paths right) (in_option h.path) (in_val v) i
    in_schema (existential h) i = in_option h.path i
    in_schema (membership {it} {set} h k) i = in_two (path_of it.path) (path_of set.path) (in_option h.path) (in_option k.path) i
    in_schema marked i = elim i [ ]
    in_schema (disjunction h) i = in_branches h i
    in_schema (option h) i = in_annotation h i

    in_annotation : {a : DraftAnnotation} {x : Annotation} → LoadsAnnotation depth a x → In path (annotation_paths a) → HasSome depth path
    in_annotation nothing i = elim i [ ]
    in_annotation (schema_more {s} {ss} h r) i = in_two (schema_paths s) (annotation_paths ss) (in_schema h) (in_annotation r) i

    in_branches : {b : DraftBranches} {x : Branches} → LoadsBranches depth b x → In path (branches_paths b) → HasSome depth path
    in_branches no_more i = elim i [ ]
    in_branches (branch_more {b} {bs} h r) i = in_two (annotation_paths b) (branches_paths bs) (in_annotation h) (in_branches r) i

-- ---- drafts

module _ (depth : ℕ) (p : PlainForm) (parts : Parts) (a : ArePartsOf depth p parts) where
  in_rule : (r : RuleForm) (x : PathAt) → In r p.rules → In x (rule_paths r) → HasSome depth x.path
  in_rule r x i j =
      let q = each_on a.rules i in
      let k = In_from_map (path_at r.entry) (flat_map item_paths (items_of r.side)) j in
      let w = In_from_flat_map item_paths (items_of r.side) k.1 in
      let t = each_on q.2.items w.1 in
      subst (HasSome depth) (ap (λ (y : PathAt). y.path) k.2) (in_annotation depth k.0 t.2.annotation w.2)

  in_word : (r : WordForm) (x : PathAt) → In r p.words → In x (word_paths r) → HasSome depth x.path
  in_word r x i j =
      let q = each_on a.words i in
      let k = In_from_map (path_at r.entry) (annotation_paths r.annotation) j in
      subst (HasSome depth) (ap (λ (y : PathAt). y.path) k.2) (in_annotation depth k.0 q.2.annotation k.1)

  in_draft : (x : PathAt) → In x (draft_paths p) → HasSome depth x.path
  in_draft x i = elim (In-append_cases (flat_map rule_paths p.rules) (flat_map word_paths p.words) i) [
    | inl j ↦ let r = In_from_flat_map rule_paths p.rules j in in_rule r.0 x r.1 r.2
    | inr j ↦ let r = In_from_flat_map word_paths p.words j in in_word r.0 x r.1 r.2
  ]

-- ---- paths that fail

not_too_many : (depth : ℕ) (x : PathAt) → HasSome depth x.path → HasTooMany depth x → ⊥
not_too_many depth x h m =
    let short = length-le_from_Once m.strings h.strings m.different (λ w i. (h.has.listed.exact w).1 (m.each w i)) in
    let few : length h.strings ≤ path_limit = h.has.few in
    let enough : path_limit < length m.strings = m.enough in
    omega arith

not_none : (depth : ℕ) (x : PathAt) (ps : Paths) → HasStrings depth x.path ps → HasNone depth x → ⊥
not_none depth x [] h n = let some : 1 ≤ length {A = Path} [] = h.some in omega arith
not_none depth x (w ∷ ws) h n = n w ((h.listed.exact w).0 here)

-- no path fails
pub good_paths : (depth : ℕ) (p : PlainForm) (parts : Parts) → ArePartsOf depth p parts → NoneHas (IsBadPath depth) (draft_paths p)
good_paths depth p parts a x i (inl m) = not_too_many depth x (in_draft depth p parts a x i) m
good_paths depth p parts a x i (inr n) = let h = in_draft depth p parts a x i in not_none depth x h.strings h.has n
