-- How many schemata there are once calls are replaced, counted along the calls without building
-- what they stand for.
use Rattle.std.specs.Prelude.{ℕ, zero, suc, ◌+◌, min, Option, Some, None, List, [], ◌∷◌, ◌++◌, map}
use Rattle.lfg_model.specs.Terms.{Name}
use Rattle.lfg_model.specs.RightSides.{DraftSchema, define, constrain, exists, member, mark, either, maybe, call, DraftAnnotation, no_schema, and_schema, DraftBranches, no_branch, or_branch, RightSide, RightSides, item, optional, no_side, and_side}
use Rattle.lfg_model.specs.RightSides as side
use Rattle.lfg_model.specs.DraftForms.{TemplateForm, RuleForm, WordForm, DraftForm}
use Rattle.lfg_model.specs.Templates.{template_named}
use Rattle.lfg_model.specs.TemplateRules.{Weight, schema_limit}

-- how many schemata a call of the template of this name stands for
abbrev pub Counter : Type 0
Counter = Name → ℕ

abbrev mutual
  -- how many schemata the schema becomes
  pub one_count : Counter → DraftSchema → ℕ
  one_count run (define left right) = 1
  one_count run (constrain negated left right) = 1
  one_count run (exists negated left) = 1
  one_count run (member it set) = 1
  one_count run (mark name) = 1
  one_count run (either branches) = suc (branches_count run branches)
  one_count run (maybe inside) = suc (all_count run inside)
  one_count run (call name args) = run name

  -- how many schemata the annotation becomes
  pub all_count : Counter → DraftAnnotation → ℕ
  all_count run no_schema = 0
  all_count run (and_schema schema annotation) = one_count run schema + all_count run annotation

  -- how many schemata the branches become
  pub branches_count : Counter → DraftBranches → ℕ
  branches_count run no_branch = 0
  branches_count run (or_branch annotation branches) = all_count run annotation + branches_count run branches

-- how many schemata the body of the template becomes, if there is one
abbrev pub body_count : Counter → Option TemplateForm → ℕ
body_count run None = 0
body_count run (Some t) = all_count run t.body

-- calls that go at most this deep
unfoldable pub call_count : List TemplateForm → ℕ → Counter
call_count ts zero name = 0
call_count ts (suc depth) name = body_count (call_count ts depth) (template_named ts name)

-- how many schemata the annotation becomes, if there is one
abbrev pub option_count : Counter → Option DraftAnnotation → ℕ
option_count run None = 0
option_count run (Some annotation) = all_count run annotation

abbrev mutual
  -- how many schemata the right side has then
  pub side_count : Counter → RightSide → ℕ
  side_count run (item cat annotation) = option_count run annotation
  side_count run (side.row parts) = sides_count run parts
  side_count run (side.one_of branches) = sides_count run branches
  side_count run (optional inside) = side_count run inside
  side_count run (side.star inside) = side_count run inside
  side_count run (side.plus inside) = side_count run inside

  pub sides_count : Counter → RightSides → ℕ
  sides_count run no_side = 0
  sides_count run (and_side part parts) = side_count run part + sides_count run parts

-- a number, or one more than the greatest that is allowed
abbrev pub capped : ℕ → ℕ
capped n = min n (suc schema_limit)

-- the sum of a number of each
abbrev pub summed : {X : Type 0} → (X → ℕ) → List X → ℕ
summed f [] = 0
summed f (x ∷ xs) = f x + summed f xs

-- how many schemata a rule has then
abbrev pub rule_count : Counter → RuleForm → Weight
rule_count run r = record { entry = r.entry; size = side_count run r.side }

-- how many schemata a reading has then
abbrev pub reading_count : Counter → WordForm → Weight
reading_count run r = record { entry = r.entry; size = all_count run r.annotation }

-- the rules and the readings of the lexicon with the numbers of schemata that they have then
abbrev pub draft_counts : Counter → DraftForm → List Weight
draft_counts run d = map (rule_count run) d.rules ++ map (reading_count run) d.words

-- the same entry, with a number that stops one past the greatest that is allowed
abbrev pub capped_weight : Weight → Weight
capped_weight w = record { entry = w.entry; size = capped w.size }
