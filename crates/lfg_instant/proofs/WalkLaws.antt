-- An annotation's literals as they come, schema by schema and branch by branch.
use Rattle.std.proofs.Common.{◌≡◌, ℕ, ◌+◌, ◌-◌, ◌^◌, ◌<◌, ◌&&◌, List, [], ◌∷◌, length, min, take, drop, refl, sym, ap, ◌∙◌, subst, arith}
use Rattle.lfg_terms.specs.declared.literal.Literal.{Literal}
use Rattle.lfg_model.specs.Places.{places, schema_places, branch_count, branch_places, form_count, schema_forms, branch_forms}
use Rattle.lfg_model.specs.Resolve.{Instance, resolved, schema_literals, branch_literals}
use Rattle.std.specs.declared.vec.Vec.{Vec}
use Rattle.std.specs.Global.{Global}
use Rattle.lfg_terms.specs.declared.grammar.Schema as declared
use Rattle.lfg_terms.specs.declared.grammar.Schema.{Maybe}
use Rattle.lfg_model.proofs.SchemaViews.{maybe_schema}
use Rattle.lfg_model.specs.Terms.{Paths, schema_of, annotation_of, Schema, either, maybe, Annotation, no_schema, and_schema, Branches, no_branch, or_branch}
use Rattle.lfg_context.specs.Seen.{Set}
use Rattle.lfg_context.specs.Sets.{Assignment, member}
use Rattle.std.specs.Prelude.{slice_get, Some}
use Rattle.lfg_instant.specs.Annotations.{Appends, arities}
use Rattle.lfg_packed.specs.Sizes.{literal_size, schema_size, branches_size}
use Rattle.lfg_instant.proofs.PickLaws.{arities_before, arities_behind}
use Rattle.lfg_instant.proofs.AppendLaws.{appends_none, appends_both, AppendsTaken, taken_none, taken_step, taken_done, option_done}
use Rattle.lfg_instant.proofs.BranchLaws.{branches_past}

-- ---- schemata

-- The schemata before `left` gave what stands in `now`: what `left` gives behind it, all give behind
-- `old`.
pub record AreLeft (it : Instance) (all : Annotation) (index : ℕ) (picks : List (List Set)) (c : Set) (old : List (Literal × Set))
    (left : Annotation) (rest : List (List Set)) (next : ℕ) (now : List (Literal × Set)) : Type 0 where
  pub shape : arities rest ≡ places left
  pub forms : index + form_count all < 2 ^ 32 → next + form_count left ≡ index + form_count all
  pub each : index + form_count all < 2 ^ 32 → (new : List (Literal × Set)) → Appends (places left) (λ ps. resolved it left ps next) rest c now new
      → Appends (places all) (λ ps. resolved it all ps index) picks c old new
  pub count : length now + literal_size left ≡ length old + literal_size all

pub schemata_start : (it : Instance) (all : Annotation) (index : ℕ) (picks : List (List Set)) (c : Set) (old : List (Literal × Set))
    → arities picks ≡ places all → AreLeft it all index picks c old all picks index old
schemata_start it all index picks c old e = record { shape = e; forms = (λ h. refl); each = (λ h new w. w); count = refl }

pub schemata_step : (it : Instance) (all : Annotation) (index : ℕ) (picks : List (List Set)) (c : Set) (old : List (Literal × Set))
    (left : Annotation) (rest : List (List Set)) (next : ℕ) (now : List (Literal × Set)) (s : Schema) (behind : Annotation) (first others : List (List Set)) (n : ℕ) (mid : List (Literal × Set))
    → AreLeft it all index picks c old left rest next now → left ≡ and_schema s behind → first ≡ take (length (schema_places s)) rest → others ≡ drop (length (schema_places s)) rest
    → n ≡ min (next + schema_forms s) (2 ^ 32 - 1) → length mid ≡ length now + schema_size s
    → (next + schema_forms s < 2 ^ 32 → Appends (schema_places s) (λ ps. schema_literals it s ps next) first c now mid)
    → AreLeft it all index picks c old behind others n mid
schemata_step it all index picks c old left rest next now s behind first others n mid so_far l e d is sized given = record {
  shape = arities_behind rest others (schema_places s) (places behind) (so_far.shape ∙ ap places l) d;
  forms = (λ h. let whole = so_far.forms h in let here = ap form_count l in omega (arith, whole, here, is, h));
  each = (λ h new w.
      let whole = so_far.forms h in
      let here = ap form_count l in
      let exact : n ≡ next + schema_forms s = omega (arith, whole, here, is, h) in
      let fits : next + schema_forms s < 2 ^ 32 = omega (arith, whole, here, h) in
      let behind_it = (let P : ℕ → Type 0 = λ k. Appends (places behind) (λ ps. resolved it behind ps k) others c mid new in subst P exact w) in
      let both = appends_both (schema_places s) (places behind) (λ ps. schema_literals it s ps next) (λ ps. resolved it behind ps (next + schema_forms s)) rest first others c now mid new e d (given fits) behind_it in
      so_far.each h new (let Q : Annotation → Type 0 = λ v. Appends (places v) (λ ps. resolved it v ps next) rest c now new in subst Q (sym l) both));
  count = (let kept = so_far.count in let here = ap literal_size l in omega (arith, kept, here, sized));
}

-- what the first of the schemata has of the picks
pub schemata_first : (it : Instance) (all : Annotation) (index : ℕ) (picks : List (List Set)) (c : Set) (old : List (Literal × Set))
    (left : Annotation) (rest : List (List Set)) (next : ℕ) (now : List (Literal × Set)) (s : Schema) (behind : Annotation) (first : List (List Set))
    → AreLeft it all index picks c old left rest next now → left ≡ and_schema s behind → first ≡ take (length (schema_places s)) rest → arities first ≡ schema_places s
schemata_first it all index picks c old left rest next now s behind first so_far l e =
    arities_before rest first (schema_places s) (places behind) (so_far.shape ∙ ap places l) e

pub schemata_given : (it : Instance) (all : Annotation) (index : ℕ) (picks : List (List Set)) (c : Set) (old : List (Literal × Set))
    (left : Annotation) (rest : List (List Set)) (next : ℕ) (now : List (Literal × Set))
    → AreLeft it all index picks c old left rest next now → left ≡ no_schema → index + form_count all < 2 ^ 32 → Appends (places all) (λ ps. resolved it all ps index) picks c old now
schemata_given it all index picks c old left rest next now so_far l h =
    so_far.each h now (appends_none (places left) (λ ps. resolved it left ps next) rest c now now (λ ps. ap (λ v. resolved it v ps next) l) refl)

pub schemata_counted : (it : Instance) (all : Annotation) (index : ℕ) (picks : List (List Set)) (c : Set) (old : List (Literal × Set))
    (left : Annotation) (rest : List (List Set)) (next : ℕ) (now : List (Literal × Set))
    → AreLeft it all index picks c old left rest next now → left ≡ no_schema → length now ≡ length old + literal_size all
schemata_counted it all index picks c old left rest next now so_far l = let kept = so_far.count in let none = ap literal_size l in omega (arith, kept, none)

-- ---- branches

-- The branches before `left` gave what stands in `now`.
pub record AreBranchesLeft (it : Instance) (all : Branches) (index : ℕ) (alternatives : List Set) (picks : List (List Set)) (c : Set) (old : List (Literal × Set))
    (left : Branches) (alts : List Set) (rest : List (List Set)) (next : ℕ) (now : List (Literal × Set)) : Type 0 where
  pub shape : arities rest ≡ branch_places left
  pub few : length alts ≡ branch_count left
  pub forms : index + branch_forms all < 2 ^ 32 → next + branch_forms left ≡ index + branch_forms all
  pub each : index + branch_forms all < 2 ^ 32 → (new : List (Literal × Set)) → AppendsTaken (branch_places left) (λ k ps. branch_literals it left k ps next) alts rest c now new
      → AppendsTaken (branch_places all) (λ k ps. branch_literals it all k ps index) alternatives picks c old new
  pub count : length now + branches_size left ≡ length old + branches_size all

pub branches_start : (it : Instance) (s : Schema) (all : Branches) (index : ℕ) (alternatives : List Set) (whole picks : List (List Set)) (c : Set) (old : List (Literal × Set))
    → s ≡ either all → whole ≡ alternatives ∷ picks → arities whole ≡ schema_places s → AreBranchesLeft it all index alternatives picks c old all alternatives picks index old
branches_start it s all index alternatives whole picks c old e w shape =
    let same : length alternatives ∷ arities picks ≡ branch_count all ∷ branch_places all = ap arities (sym w) ∙ shape ∙ ap schema_places e in
    record { shape = ap (drop 1) same; few = ap head same; forms = (λ h. refl); each = (λ h new v. v); count = refl }
  where
    head : List ℕ → ℕ
    head [] = 0
    head (n ∷ ns) = n

pub branches_first : (it : Instance) (all : Branches) (index : ℕ) (alternatives : List Set) (picks : List (List Set)) (c : Set) (old : List (Literal × Set))
    (left : Branches) (alts : List Set) (rest : List (List Set)) (next : ℕ) (now : List (Literal × Set)) (b : Annotation) (bs : Branches) (first : List (List Set))
    → AreBranchesLeft it all index alternatives picks c old left alts rest next now → left ≡ or_branch b bs → first ≡ take (length (places b)) rest → arities first ≡ places b
branches_first it all index alternatives picks c old left alts rest next now b bs first so_far l e =
    arities_before rest first (places b) (branch_places bs) (so_far.shape ∙ ap branch_places l) e

pub branches_step : (it : Instance) (all : Branches) (index : ℕ) (alternatives : List Set) (picks : List (List Set)) (c : Set) (old : List (Literal × Set))
    (left : Branches) (alts : List Set) (rest : List (List Set)) (next : ℕ) (now : List (Literal × Set))
    (b : Annotation) (bs : Branches) (x : Set) (xs : List Set) (first others : List (List Set)) (m : Set) (n : ℕ) (mid : List (Literal × Set))
    → AreBranchesLeft it all index alternatives picks c old left alts rest next now → left ≡ or_branch b bs → alts ≡ x ∷ xs
    → first ≡ take (length (places b)) rest → others ≡ drop (length (places b)) rest → ((a : Assignment) → member m a ≡ member c a && member x a)
    → n ≡ min (next + form_count b) (2 ^ 32 - 1) → length mid ≡ length now + literal_size b
    → (next + form_count b < 2 ^ 32 → Appends (places b) (λ ps. resolved it b ps next) first m now mid)
    → AreBranchesLeft it all index alternatives picks c old bs xs others n mid
branches_step it all index alternatives picks c old left alts rest next now b bs x xs first others m n mid so_far l v e d meets is sized given = record {
  shape = arities_behind rest others (places b) (branch_places bs) (so_far.shape ∙ ap branch_places l) d;
  few = few_left;
  forms = (λ h. let whole = so_far.forms h in let here = ap branch_forms l in omega (arith, whole, here, is, h));
  each = (λ h new w.
      let whole = so_far.forms h in
      let here = ap branch_forms l in
      let exact : n ≡ next + form_count b = omega (arith, whole, here, is, h) in
      let fits : next + form_count b < 2 ^ 32 = omega (arith, whole, here, h) in
      let behind_it = (let P : ℕ → Type 0 = λ k. AppendsTaken (branch_places bs) (λ z ps. branch_literals it bs z ps k) xs others c mid new in subst P exact w) in
      let both = taken_step (places b) (branch_places bs) (λ ps. resolved it b ps next) (λ z ps. branch_literals it bs z ps (next + form_count b)) (λ z ps. branch_literals it (or_branch b bs) z ps next)
      x xs rest first others c m now mid new e d meets (λ ps. refl) (λ z ps. refl)
      (λ ps. ap (λ z. branch_literals it bs z ps (next + form_count b)) few_left ∙ branches_past it bs ps (next + form_count b)) (given fits) behind_it in
      so_far.each h new
      (let Q : Branches → List Set → Type 0 = λ z zs. AppendsTaken (branch_places z) (λ k ps. branch_literals it z k ps next) zs rest c now new in
      let R : List Set → Type 0 = Q left in let T : Branches → Type 0 = λ z. Q z (x ∷ xs) in subst R (sym v) (subst T (sym l) both)));
  count = (let kept = so_far.count in let here = ap branches_size l in omega (arith, kept, here, sized));
}
  where
    few_left : length xs ≡ branch_count bs
    few_left = let kept = so_far.few in let here = ap branch_count l in let there = ap length v in omega (arith, kept, here, there)

pub branches_given : (it : Instance) (s : Schema) (all : Branches) (index : ℕ) (alternatives : List Set) (whole picks : List (List Set)) (c : Set) (old : List (Literal × Set))
    (left : Branches) (alts : List Set) (rest : List (List Set)) (next : ℕ) (now : List (Literal × Set))
    → s ≡ either all → whole ≡ alternatives ∷ picks → AreBranchesLeft it all index alternatives picks c old left alts rest next now → left ≡ no_branch
    → index + schema_forms s < 2 ^ 32 → Appends (schema_places s) (λ ps. schema_literals it s ps index) whole c old now
branches_given it s all index alternatives whole picks c old left alts rest next now e w so_far l h =
    let fits : index + branch_forms all < 2 ^ 32 = (let P : Schema → Type 0 = λ z. index + schema_forms z < 2 ^ 32 in subst P e h) in
    let taken = so_far.each fits now (taken_none (branch_places left) (λ k ps. branch_literals it left k ps next) alts rest c now (λ k ps. ap (λ z. branch_literals it z k ps next) l)) in
    let done = taken_done (branch_count all) (branch_places all) (λ k ps. branch_literals it all k ps index) (λ ps. schema_literals it (either all) ps index) alternatives whole picks c old now w (λ k ps. refl) taken in
    let Q : Schema → Type 0 = λ z. Appends (schema_places z) (λ ps. schema_literals it z ps index) whole c old now in subst Q (sym e) done

pub branches_counted : (it : Instance) (s : Schema) (all : Branches) (index : ℕ) (alternatives : List Set) (picks : List (List Set)) (c : Set) (old : List (Literal × Set))
    (left : Branches) (alts : List Set) (rest : List (List Set)) (next : ℕ) (now : List (Literal × Set))
    → s ≡ either all → AreBranchesLeft it all index alternatives picks c old left alts rest next now → left ≡ no_branch → length now ≡ length old + schema_size s
branches_counted it s all index alternatives picks c old left alts rest next now e so_far l =
    let kept = so_far.count in let none = ap branches_size l in let same = ap schema_size e in omega (arith, kept, none, same)

-- ---- options

pub option_places : (s : Schema) (inside : Annotation) (alternatives : List Set) (whole picks : List (List Set)) → s ≡ maybe inside → whole ≡ alternatives ∷ picks → arities whole ≡ schema_places s
    → (arities picks ≡ places inside) × (length alternatives ≡ 2)
option_places s inside alternatives whole picks e w shape =
    let same : length alternatives ∷ arities picks ≡ 2 ∷ places inside = ap arities (sym w) ∙ shape ∙ ap schema_places e in
    (ap (drop 1) same, ap head same)
  where
    head : List ℕ → ℕ
    head [] = 0
    head (n ∷ ns) = n

-- the same of the schema as the program has it
pub option_two : (s : declared.Schema Paths) (v : Vec (declared.Schema Paths) Global) (alternatives : List Set) (whole picks : List (List Set)) → s ≡ Maybe v → whole ≡ alternatives ∷ picks → arities whole ≡ schema_places (schema_of s)
    → length alternatives ≡ 2
option_two s v alternatives whole picks e w shape = (option_places (schema_of s) (annotation_of v.items) alternatives whole picks (maybe_schema s v v.items e refl) w shape).1

pub option_given : (it : Instance) (s : Schema) (inside : Annotation) (index : ℕ) (alternatives : List Set) (whole picks : List (List Set)) (c : Set) (old : List (Literal × Set)) (x m : Set) (new : List (Literal × Set))
    → s ≡ maybe inside → whole ≡ alternatives ∷ picks → slice_get alternatives 0 ≡ Some x → ((a : Assignment) → member m a ≡ member c a && member x a)
    → (index + form_count inside < 2 ^ 32 → Appends (places inside) (λ ps. resolved it inside ps index) picks m old new)
    → index + schema_forms s < 2 ^ 32 → Appends (schema_places s) (λ ps. schema_literals it s ps index) whole c old new
option_given it s inside index alternatives whole picks c old x m new e w at meets given h =
    let fits : index + form_count inside < 2 ^ 32 = (let P : Schema → Type 0 = λ z. index + schema_forms z < 2 ^ 32 in subst P e h) in
    let done = option_done (places inside) (λ ps. resolved it inside ps index) (λ ps. schema_literals it (maybe inside) ps index) x alternatives whole picks c m old new w at meets (λ ps. refl) (λ k ps. refl) (given fits) in
    let Q : Schema → Type 0 = λ z. Appends (schema_places z) (λ ps. schema_literals it z ps index) whole c old new in subst Q (sym e) done
