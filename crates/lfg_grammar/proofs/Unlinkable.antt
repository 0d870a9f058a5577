-- The test says that an annotation can be resolved to no link exactly where it can.
use Rattle.std.proofs.Common.{◌≡◌, ◌↔◌, ◌⊎◌, ℕ, zero, suc, ◌<◌, length, get_or, drop, Vec, Global, arith, Bool, true, false, not, ◌&&◌, ◌||◌, is_none, is_some, Option, Some, None, List, [], ◌∷◌, ◌++◌, inl, inr, refl, subst}
use Rattle.lfg_terms.specs.declared.grammar.Arrow.{Arrow}
use Rattle.lfg_terms.specs.declared.grammar.Arrow.TheVariants.{Up, Down}
use Rattle.lfg_terms.specs.declared.grammar.Des.{Des}
use Rattle.lfg_terms.specs.declared.grammar.Item.{Item}
use Rattle.lfg_terms.specs.declared.grammar.Rule.{Rule}
use Rattle.lfg_terms.specs.declared.grammar.Schema as declared
use Rattle.lfg_terms.specs.declared.grammar.Val.{Val}
use Rattle.lfg_terms.specs.declared.grammar.Val.TheVariants as val
use Rattle.lfg_model.specs.Links.{IsBranch, this_branch, other_branch, Reaches, nothing, one_more, SchemaReaches, defining, constraining, existential, membership, marked, disjunction, taken, left_out, IsDaughter, IsMother, IsLink, up_first, down_first, in_set_of, HasLink, CanBeUnlinked}
use Rattle.lfg_model.specs.Lists.{In, here}
use Rattle.lfg_model.specs.Loads.{IsUnlinked}
use Rattle.lfg_model.specs.Terms.{Name, Paths, Schema, define, constrain, exists, member, mark, either, maybe, call, Annotation, no_schema, and_schema, Branches, no_branch, or_branch, annotation_of, branches_from}
use Rattle.lfg_model.specs.TemplateRules.{NoneHas}
use Rattle.lfg_model.proofs.ListLaws.{In-append_left, In-append_right, In-append_cases, In-nil, In-one}
use Rattle.lfg_grammar.specs.Unlinked.{is_up, is_mother, is_daughter, links_equation, links_member, schema_can_be_unlinked, can_be_unlinked, branch_can_be_unlinked, item_is_unlinked}

-- ---- tests

and_true : (a b : Bool) → (a && b) ≡ true → (a ≡ true) × (b ≡ true)
and_true true b e = (refl, e)
and_true false b e = cc

or_true : (a b : Bool) → (a || b) ≡ true → (a ≡ true) ⊎ (b ≡ true)
or_true true b e = inl refl
or_true false b e = inr e

not_true : (a : Bool) → not a ≡ true → a ≡ true → ⊥
not_true true e f = cc
not_true false e f = cc

true_unless : (a : Bool) → (a ≡ true → ⊥) → not a ≡ true
true_unless true n = absurd (n refl)
true_unless false n = refl

-- ---- links

up_true : (r : Arrow) → is_up r ≡ true → r ≡ Up
up_true Up e = refl
up_true Down e = cc

down_true : (r : Arrow) → not (is_up r) ≡ true → r ≡ Down
down_true Up e = cc
down_true Down e = refl

bare_true : (p : Option Paths) → is_none p ≡ true → p ≡ None
bare_true None e = refl
bare_true (Some p) e = cc

daughter : (d : Des Paths) → is_daughter d ≡ true → IsDaughter d
daughter d e = let b = and_true (not (is_up d.arrow)) (is_none d.path) e in record { arrow = down_true d.arrow b.0; bare = bare_true d.path b.1 }

daughter_test : (d : Des Paths) → IsDaughter d → is_daughter d ≡ true
daughter_test d h = rw (h.arrow, h.bare) refl

mother_test : (d : Des Paths) → IsMother d → is_mother d ≡ true
mother_test d h = rw h refl

-- a test of each schema: it is a link
abbrev links : Schema → Bool
links (define left right) = links_equation left right
links (constrain negated left right) = false
links (exists negated left) = false
links (member item set) = links_member item set
links (mark name) = false
links (either branches) = false
links (maybe inside) = false
links (call name args) = false

both_true : (a b : Bool) → a ≡ true → b ≡ true → (a && b) ≡ true
both_true a b e f = rw (e, f) refl

left_true : (a b : Bool) → a ≡ true → (a || b) ≡ true
left_true a b e = rw e refl

right_true : (a b : Bool) → b ≡ true → (a || b) ≡ true
right_true true b e = refl
right_true false b e = e

link_test : (s : Schema) → IsLink s → links s ≡ true
link_test s (up_first {up} {down} m d) = left_true (is_mother up && is_daughter down) (is_daughter up && is_mother down) (both_true (is_mother up) (is_daughter down) (mother_test up m) (daughter_test down d))
link_test s (down_first {up} {down} d m) = right_true (is_mother down && is_daughter up) (is_daughter down && is_mother up) (both_true (is_daughter down) (is_mother up) (daughter_test down d) (mother_test up m))
link_test s (in_set_of {up} {down} d m) = both_true (is_daughter down) (is_mother up) (daughter_test down d) (mother_test up m)

equation : (left : Des Paths) (right : Val Paths) → links_equation left right ≡ true → IsLink (define left right)
equation left (val.Des right) e = elim (or_true (is_mother left && is_daughter right) (is_daughter left && is_mother right) e) [
  | inl a ↦ let b = and_true (is_mother left) (is_daughter right) a in up_first (up_true left.arrow b.0) (daughter right b.1)
  | inr a ↦ let b = and_true (is_daughter left) (is_mother right) a in down_first (daughter left b.0) (up_true right.arrow b.1)
]
equation left (val.Atom name) e = cc
equation left (val.Form form) e = cc

membership_link : (it set : Des Paths) → links_member it set ≡ true → IsLink (member it set)
membership_link it set e = let b = and_true (is_daughter it) (is_mother set) e in in_set_of (daughter it b.0) (up_true set.arrow b.1)

-- ---- schemata that are reached

abbrev NoLink : List Schema → Type 0
NoLink xs = HasLink xs → ⊥

-- in some way of resolving the schema no link is reached
record SchemaCan (s : Schema) : Type 0 where
  schemata : List Schema
  reached : SchemaReaches s schemata
  unlinked : NoLink schemata

none_of_none : NoLink []
none_of_none = λ h. In-nil h.reached

-- one schema that is no link
none_of_one : (s : Schema) → (links s ≡ true → ⊥) → NoLink (s ∷ [])
none_of_one s n = λ h. n (subst (λ (t : Schema). links t ≡ true) (In-one h.reached) (link_test h.schema h.links))

none_of_both : (xs ys : List Schema) → NoLink xs → NoLink ys → NoLink (xs ++ ys)
none_of_both xs ys m n = λ h. elim (In-append_cases xs ys h.reached) [
  | inl a ↦ m (record { schema = h.schema; reached = a; links = h.links })
  | inr b ↦ n (record { schema = h.schema; reached = b; links = h.links })
]

none_of_left : (xs ys : List Schema) → NoLink (xs ++ ys) → NoLink xs
none_of_left xs ys n = λ h. n (record { schema = h.schema; reached = In-append_left ys h.reached; links = h.links })

none_of_right : (xs ys : List Schema) → NoLink (xs ++ ys) → NoLink ys
none_of_right xs ys n = λ h. n (record { schema = h.schema; reached = In-append_right xs h.reached; links = h.links })

-- a branch that can be unlinked
record SomeBranch (bs : Branches) : Type 0 where
  branch : Annotation
  among : IsBranch branch bs
  can : CanBeUnlinked branch

-- what the test says holds
mutual
  schema_can : (s : Schema) → schema_can_be_unlinked s ≡ true → SchemaCan s
  schema_can (define left right) e = record { schemata = define left right ∷ []; reached = defining; unlinked = none_of_one (define left right) (not_true (links_equation left right) e) }
  schema_can (constrain negated left right) e = record { schemata = constrain negated left right ∷ []; reached = constraining; unlinked = none_of_one (constrain negated left right) (λ f. cc) }
  schema_can (exists negated left) e = record { schemata = exists negated left ∷ []; reached = existential; unlinked = none_of_one (exists negated left) (λ f. cc) }
  schema_can (member it set) e = record { schemata = member it set ∷ []; reached = membership; unlinked = none_of_one (member it set) (not_true (links_member it set) e) }
  schema_can (mark name) e = record { schemata = mark name ∷ []; reached = marked; unlinked = none_of_one (mark name) (λ f. cc) }
  schema_can (either branches) e = let b = branch_can branches e in record { schemata = b.can.schemata; reached = disjunction b.among b.can.reached; unlinked = b.can.unlinked }
  schema_can (maybe inside) e = record { schemata = []; reached = left_out; unlinked = none_of_none }
  schema_can (call name args) e = cc

  annotation_can : (a : Annotation) → can_be_unlinked a ≡ true → CanBeUnlinked a
  annotation_can no_schema e = record { schemata = []; reached = nothing; unlinked = none_of_none }
  annotation_can (and_schema s a) e =
      let b = and_true (schema_can_be_unlinked s) (can_be_unlinked a) e in
      let x = schema_can s b.0 in
      let y = annotation_can a b.1 in
      record { schemata = x.schemata ++ y.schemata; reached = one_more x.reached y.reached; unlinked = none_of_both x.schemata y.schemata x.unlinked y.unlinked }

  branch_can : (bs : Branches) → branch_can_be_unlinked bs ≡ true → SomeBranch bs
  branch_can no_branch e = cc
  branch_can (or_branch a bs) e = elim (or_true (can_be_unlinked a) (branch_can_be_unlinked bs) e) [
    | inl f ↦ record { branch = a; among = this_branch; can = annotation_can a f }
    | inr f ↦ let b = branch_can bs f in record { branch = b.branch; among = other_branch b.among; can = b.can }
  ]

branch_test : {a : Annotation} {bs : Branches} → IsBranch a bs → can_be_unlinked a ≡ true → branch_can_be_unlinked bs ≡ true
branch_test {a} (this_branch {bs}) e = left_true (can_be_unlinked a) (branch_can_be_unlinked bs) e
branch_test {a} (other_branch {b} {bs} h) e = right_true (can_be_unlinked b) (branch_can_be_unlinked bs) (branch_test h e)

-- and the test says what holds
mutual
  schema_test : {s : Schema} {xs : List Schema} → SchemaReaches s xs → NoLink xs → schema_can_be_unlinked s ≡ true
  schema_test (defining {left} {right}) n = true_unless (links_equation left right) (λ e. n (record { schema = define left right; reached = here; links = equation left right e }))
  schema_test constraining n = refl
  schema_test existential n = refl
  schema_test (membership {item} {set}) n = true_unless (links_member item set) (λ e. n (record { schema = member item set; reached = here; links = membership_link item set e }))
  schema_test marked n = refl
  schema_test (disjunction b r) n = branch_test b (annotation_test r n)
  schema_test (taken r) n = refl
  schema_test left_out n = refl

  annotation_test : {a : Annotation} {xs : List Schema} → Reaches a xs → NoLink xs → can_be_unlinked a ≡ true
  annotation_test nothing n = refl
  annotation_test (one_more {s} {a} {xs} {ys} r q) n = both_true (schema_can_be_unlinked s) (can_be_unlinked a) (schema_test r (none_of_left xs ys n)) (annotation_test q (none_of_right xs ys n))

-- the test is true exactly where the annotation can be resolved to no link
pub unlinked_exactly : (a : Annotation) → (can_be_unlinked a ≡ true) ↔ CanBeUnlinked a
unlinked_exactly a = (annotation_can a, λ u. annotation_test u.reached u.unlinked)

-- ---- loops

pub branch_there : (bs : List (Vec (declared.Schema Paths) Global)) (i : ℕ) (b : Vec (declared.Schema Paths) Global) → i < length bs → b ≡ get_or bs i b → can_be_unlinked (annotation_of b.items) ≡ true → branch_can_be_unlinked (branches_from (drop i bs)) ≡ true
branch_there [] i b l e h = absurd (let no : ⊥ = omega arith in no)
branch_there (x ∷ xs) zero b l e h = left_true (can_be_unlinked (annotation_of x.items)) (branch_can_be_unlinked (branches_from xs)) (subst (λ (v : Vec (declared.Schema Paths) Global). can_be_unlinked (annotation_of v.items) ≡ true) e h)
branch_there (x ∷ xs) (suc i) b l e h = branch_there xs i b (omega arith) e h

-- ---- rules

some_true : (o : Option Name) → is_some o ≡ true → (cat : Name) × (o ≡ Some cat)
some_true None e = cc
some_true (Some cat) e = (cat, refl)

pub rule_is_unlinked : (r : Rule) (i : Item) → In i r.items → item_is_unlinked i ≡ true → IsUnlinked r
rule_is_unlinked r i among e =
    let b = and_true (is_some i.cat) (can_be_unlinked (annotation_of i.schemata)) e in
    let c = some_true i.cat b.0 in
    record { item = i; cat = c.0; among = among; category = c.1; unlinked = (unlinked_exactly (annotation_of i.schemata)).0 b.1 }

pub rule_is_linked : (r : Rule) → NoneHas (λ (i : Item). item_is_unlinked i ≡ true) r.items → IsUnlinked r → ⊥
rule_is_linked r n u =
    n u.item u.among (both_true (is_some u.item.cat) (can_be_unlinked (annotation_of u.item.schemata)) (rw u.category refl) ((unlinked_exactly (annotation_of u.item.schemata)).1 u.unlinked))
