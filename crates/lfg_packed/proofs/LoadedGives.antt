-- What a loaded grammar gives of what laws on derivations ask for.
use Rattle.std.proofs.Common.{◌≡◌, ℕ, zero, suc, ◌≤◌, Some, None, List, map, sym, subst, arith}
use Rattle.std.specs.Cmp.Lexicographic.{same_text}
use Rattle.lfg_terms.specs.declared.grammar.Item.{Item}
use Rattle.lfg_terms.specs.declared.grammar.Rule.{Rule}
use Rattle.lfg_terms.specs.declared.grammar.Lex.{Lex}
use Rattle.lfg_terms.specs.declared.grammar.Grammar.{Grammar}
use Rattle.lfg_model.specs.Derive.{rule_of, item_at}
use Rattle.lfg_model.specs.Fillable.{HasBranches, SchemaHasBranches, BranchesHaveBranches}
use Rattle.lfg_model.specs.Kept.{IsFillable}
use Rattle.lfg_model.specs.Lists.{In}
use Rattle.lfg_model.specs.Loaded.{Loaded, IsSound, IsSoundSchema, AreSound, HasBranch}
use Rattle.lfg_model.specs.Picked.{IsApart}
use Rattle.lfg_model.specs.Places.{branch_count}
use Rattle.lfg_model.specs.Terms.{Name, same_name, annotation_of, Schema, define, constrain, exists, member, mark, either, maybe, call, Annotation, no_schema, and_schema, Branches, no_branch, or_branch}
use Rattle.lfg_model.proofs.FillableLaws.{fillable_without_empty_disjunctions}
use Rattle.lfg_model.proofs.ListLaws.{In-map}
use Rattle.lfg_model.proofs.ManWalksTree.{In_from_find}
use Rattle.lfg_packed.proofs.Listing.{get_In}

-- a sound annotation has branches in each disjunction
some_branch : (bs : Branches) → HasBranch bs → 1 ≤ branch_count bs
some_branch no_branch h = absurd h
some_branch (or_branch b bs) h = omega arith

mutual
  branches : (a : Annotation) → IsSound a → HasBranches a
  branches no_schema h = tt
  branches (and_schema s rest) h = (schema_branches s h.0, branches rest h.1)

  schema_branches : (s : Schema) → IsSoundSchema s → SchemaHasBranches s
  schema_branches (define left right) h = tt
  schema_branches (constrain negated left right) h = tt
  schema_branches (exists negated left) h = tt
  schema_branches (member item set) h = tt
  schema_branches (mark name) h = tt
  schema_branches (either bs) h = (some_branch bs h.0, all_branches bs h.1)
  schema_branches (maybe inside) h = branches inside h
  schema_branches (call name args) h = absurd h

  all_branches : (bs : Branches) → AreSound bs → BranchesHaveBranches bs
  all_branches no_branch h = tt
  all_branches (or_branch b bs) h = (branches b h.0, all_branches bs h.1)

item_in : (items : List Item) (k : ℕ) (i : Item) → item_at items k ≡ Some i → In i items
item_in items zero i e = let never : None ≡ Some i = e in absurd (cc)
item_in items (suc k) i e = get_In items k i e

-- the rule of a category is one of the grammar's, and heads it
pub rule_in : (g : Grammar) (cat : Name) (rule : Rule) → rule_of g cat ≡ Some rule → In rule g.rules × (rule.cat ≡ cat)
rule_in g cat rule is = let f = In_from_find (λ r. same_name r.cat cat) g.rules rule is in (f.0, same_text rule.cat cat (sym f.1))

pub fillable : (g : Grammar) → Loaded g → IsFillable g
fillable g h = fillable_without_empty_disjunctions g (record {
  items = λ cat rule occ item is at. branches (annotation_of item.schemata) (h.items rule item (rule_in g cat rule is).0 (item_in rule.items occ item at));
  entries = λ k lex at. branches (annotation_of lex.schemata) (h.words lex (get_In g.lexicon k lex at));
})

pub apart : (g : Grammar) → Loaded g → IsApart g
apart g h cat rule k lex is at same =
    let r = rule_in g cat rule is in
    let P : Name → Type 0 = λ c. In c (map (λ x. x.cat) g.lexicon) in
    h.apart rule r.0 (subst P (sym r.1) (subst P same (In-map (λ (x : Lex). x.cat) (get_In g.lexicon k lex at))))
