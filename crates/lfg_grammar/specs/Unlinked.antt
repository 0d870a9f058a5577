-- Whether an annotation can be resolved to no link, as a test.
use Rattle.std.specs.Prelude.{Bool, true, false, not, ◌&&◌, ◌||◌, is_none, is_some}
use Rattle.lfg_terms.specs.declared.grammar.Arrow.{Arrow}
use Rattle.lfg_terms.specs.declared.grammar.Arrow.TheVariants.{Up, Down}
use Rattle.lfg_terms.specs.declared.grammar.Des.{Des}
use Rattle.lfg_terms.specs.declared.grammar.Item.{Item}
use Rattle.lfg_terms.specs.declared.grammar.Val.{Val}
use Rattle.lfg_terms.specs.declared.grammar.Val.TheVariants as val
use Rattle.lfg_model.specs.Terms.{Paths, Schema, define, constrain, exists, member, mark, either, maybe, call, Annotation, no_schema, and_schema, Branches, no_branch, or_branch, annotation_of}

-- the arrow is `^`
abbrev pub is_up : Arrow → Bool
is_up Up = true
is_up Down = false

-- the designator is `^`, or a path from there
abbrev pub is_mother : Des Paths → Bool
is_mother d = is_up d.arrow

-- the designator is the bare `!`
abbrev pub is_daughter : Des Paths → Bool
is_daughter d = not (is_up d.arrow) && is_none d.path

-- one of the designators is the mother, and the other the daughter
abbrev pub joins_both : Des Paths → Des Paths → Bool
joins_both d e = (is_mother d && is_daughter e) || (is_daughter d && is_mother e)

-- a defining equation of these is a link
abbrev pub links_equation : Des Paths → Val Paths → Bool
links_equation left (val.Des right) = joins_both left right
links_equation left (val.Atom name) = false
links_equation left (val.Form form) = false

-- a membership of these is a link
abbrev pub links_member : Des Paths → Des Paths → Bool
links_member item set = is_daughter item && is_mother set

-- The annotation can be resolved to no link. An option can be left out, and a call of a template
-- cannot be resolved.
abbrev mutual
  pub schema_can_be_unlinked : Schema → Bool
  schema_can_be_unlinked (define left right) = not (links_equation left right)
  schema_can_be_unlinked (constrain negated left right) = true
  schema_can_be_unlinked (exists negated left) = true
  schema_can_be_unlinked (member item set) = not (links_member item set)
  schema_can_be_unlinked (mark name) = true
  schema_can_be_unlinked (either branches) = branch_can_be_unlinked branches
  schema_can_be_unlinked (maybe inside) = true
  schema_can_be_unlinked (call name args) = false

  -- each schema can
  pub can_be_unlinked : Annotation → Bool
  can_be_unlinked no_schema = true
  can_be_unlinked (and_schema schema annotation) = schema_can_be_unlinked schema && can_be_unlinked annotation

  -- some branch can
  pub branch_can_be_unlinked : Branches → Bool
  branch_can_be_unlinked no_branch = false
  branch_can_be_unlinked (or_branch annotation branches) = can_be_unlinked annotation || branch_can_be_unlinked branches

-- the item has a category, and its annotation can be resolved to no link
abbrev pub item_is_unlinked : Item → Bool
item_is_unlinked i = is_some i.cat && can_be_unlinked (annotation_of i.schemata)
