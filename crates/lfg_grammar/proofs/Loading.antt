-- Annotations that are loaded, as the loops make them.
use Rattle.std.proofs.Common.{◌≡◌, ℕ, ◌+◌, ◌<◌, Bool, List, [], ◌∷◌, ◌++◌, length, map, take, get_or, Vec, Global, sym, ap, ◌∙◌, subst}
use Rattle.std.proofs.lemmas.List.{take_more}
use Rattle.lfg_terms.specs.declared.grammar.Schema as declared
use Rattle.lfg_terms.specs.declared.grammar.Schema.TheVariants as written
use Rattle.lfg_terms.specs.declared.path_expr.PathExpr.{PathExpr}
use Rattle.lfg_regpath.specs.declared.fault.PathFault.{PathFault}
use Rattle.lfg_model.specs.Lists.{In, here, later}
use Rattle.lfg_model.specs.Loads.{LoadsSchema, LoadsAnnotation, nothing, schema_more, LoadsBranches, no_more, branch_more, option, disjunction, schema_paths, annotation_paths, branches_paths}
use Rattle.lfg_model.specs.PathExpressions.{PathExpression}
use Rattle.lfg_model.specs.RightSides.{DraftSchema, DraftBranches, draft_annotation_of, draft_branches_from, draft_schema_of}
use Rattle.lfg_model.specs.TemplateRules.{Call, calls, schema_calls, branches_calls}
use Rattle.lfg_model.specs.Terms.{Name, Schema, Paths, schema_of, annotation_of, branches_from, maybe, either}
use Rattle.lfg_model.proofs.ListLaws.{In-append_left, In-append_right, In-at}
use Rattle.lfg_model.proofs.RightSideViews.{view_either, view_option, view_call}
use Rattle.lfg_grammar.specs.Answers.{NoCall, FailsIn}
use Rattle.lfg_grammar.proofs.Fails.{fails_more}

-- an item that a loop takes stands in its list
pub item_in : {X : Type 0} (xs : List X) (i : ℕ) (x : X) → i < length xs → x ≡ get_or xs i x → In x xs
item_in {X} xs i x l e = subst (λ (z : X). In z xs) (sym e) (In-at xs i x l)

taken : {X : Type 0} (xs : List X) (i : ℕ) (x : X) → i < length xs → x ≡ get_or xs i x → take (i + 1) xs ≡ take i xs ++ x ∷ []
taken {X} xs i x l e = take_more xs i x l ∙ ap (λ (z : X). take i xs ++ z ∷ []) (sym e)

-- ---- one more

schemata_push : (depth : ℕ) (ss : List (declared.Schema PathExpr)) (ts : List (declared.Schema Paths)) (s : declared.Schema PathExpr) (t : declared.Schema Paths)
    → LoadsAnnotation depth (draft_annotation_of ss) (annotation_of ts) → LoadsSchema depth (draft_schema_of s) (schema_of t) → LoadsAnnotation depth (draft_annotation_of (ss ++ s ∷ [])) (annotation_of (ts ++ t ∷ []))
schemata_push depth [] [] s t h n = schema_more n nothing
schemata_push depth [] (u ∷ ts) s t h n = elim h [ ]
schemata_push depth (r ∷ ss) [] s t h n = elim h [ ]
schemata_push depth (r ∷ ss) (u ∷ ts) s t (schema_more g h) n = schema_more g (schemata_push depth ss ts s t h n)

pub schemata_more : (depth : ℕ) (ss : List (declared.Schema PathExpr)) (i : ℕ) (s : declared.Schema PathExpr) (out : List (declared.Schema Paths)) (t : declared.Schema Paths) (whole : List (declared.Schema Paths))
    → i < length ss → s ≡ get_or ss i s → whole ≡ out ++ t ∷ [] → LoadsAnnotation depth (draft_annotation_of (take i ss)) (annotation_of out) → LoadsSchema depth (draft_schema_of s) (schema_of t)
    → LoadsAnnotation depth (draft_annotation_of (take (i + 1) ss)) (annotation_of whole)
schemata_more depth ss i s out t whole l e w h n =
    subst (λ (ts : List (declared.Schema Paths)). LoadsAnnotation depth (draft_annotation_of (take (i + 1) ss)) (annotation_of ts)) (sym w)
    (subst (λ (rs : List (declared.Schema PathExpr)). LoadsAnnotation depth (draft_annotation_of rs) (annotation_of (out ++ t ∷ []))) (sym (taken ss i s l e)) (schemata_push depth (take i ss) out s t h n))

abbrev pub drafted : List (Vec (declared.Schema PathExpr) Global) → DraftBranches
drafted bs = draft_branches_from (map (λ b. draft_annotation_of b.items) bs)

branches_push : (depth : ℕ) (bs : List (Vec (declared.Schema PathExpr) Global)) (cs : List (Vec (declared.Schema Paths) Global)) (b : Vec (declared.Schema PathExpr) Global) (c : Vec (declared.Schema Paths) Global)
    → LoadsBranches depth (drafted bs) (branches_from cs) → LoadsAnnotation depth (draft_annotation_of b.items) (annotation_of c.items) → LoadsBranches depth (drafted (bs ++ b ∷ [])) (branches_from (cs ++ c ∷ []))
branches_push depth [] [] b c h n = branch_more n no_more
branches_push depth [] (d ∷ cs) b c h n = elim h [ ]
branches_push depth (a ∷ bs) [] b c h n = elim h [ ]
branches_push depth (a ∷ bs) (d ∷ cs) b c (branch_more g h) n = branch_more g (branches_push depth bs cs b c h n)

pub branches_more : (depth : ℕ) (bs : List (Vec (declared.Schema PathExpr) Global)) (i : ℕ) (b : Vec (declared.Schema PathExpr) Global) (out : List (Vec (declared.Schema Paths) Global)) (c : Vec (declared.Schema Paths) Global) (whole : List (Vec (declared.Schema Paths) Global))
    → i < length bs → b ≡ get_or bs i b → whole ≡ out ++ c ∷ [] → LoadsBranches depth (drafted (take i bs)) (branches_from out) → LoadsAnnotation depth (draft_annotation_of b.items) (annotation_of c.items)
    → LoadsBranches depth (drafted (take (i + 1) bs)) (branches_from whole)
branches_more depth bs i b out c whole l e w h n =
    subst (λ (cs : List (Vec (declared.Schema Paths) Global)). LoadsBranches depth (drafted (take (i + 1) bs)) (branches_from cs)) (sym w)
    (subst (λ (as_ : List (Vec (declared.Schema PathExpr) Global)). LoadsBranches depth (drafted as_) (branches_from (out ++ c ∷ []))) (sym (taken bs i b l e)) (branches_push depth (take i bs) out b c h n))

-- ---- a schema of the program

pub option_loads : (depth : ℕ) (s : declared.Schema PathExpr) (inside : _) (t : declared.Schema Paths) (out : List (declared.Schema Paths)) → s ≡ written.Maybe inside → schema_of t ≡ maybe (annotation_of out) → LoadsAnnotation depth (draft_annotation_of inside.items) (annotation_of out)
    → LoadsSchema depth (draft_schema_of s) (schema_of t)
option_loads depth s inside t out is m h =
    subst (λ (x : Schema). LoadsSchema depth (draft_schema_of s) x) (sym m) (subst (λ (x : DraftSchema). LoadsSchema depth x (maybe (annotation_of out))) (sym (ap draft_schema_of is ∙ view_option inside)) (option h))

pub disjunction_loads : (depth : ℕ) (s : declared.Schema PathExpr) (branches : _) (t : declared.Schema Paths) (out : List (Vec (declared.Schema Paths) Global)) → s ≡ written.Either branches → schema_of t ≡ either (branches_from out) → LoadsBranches depth (drafted branches.items) (branches_from out)
    → LoadsSchema depth (draft_schema_of s) (schema_of t)
disjunction_loads depth s branches t out is m h =
    subst (λ (x : Schema). LoadsSchema depth (draft_schema_of s) x) (sym m) (subst (λ (x : DraftSchema). LoadsSchema depth x (either (branches_from out))) (sym (ap draft_schema_of is ∙ view_either branches)) (disjunction h))

-- ---- paths of a part

item_paths : (s : declared.Schema PathExpr) (ss : List (declared.Schema PathExpr)) (p : PathExpression) → In s ss → In p (schema_paths (draft_schema_of s)) → In p (annotation_paths (draft_annotation_of ss))
item_paths s _ p (here {xs}) i = In-append_left (annotation_paths (draft_annotation_of xs)) i
item_paths s _ p (later {y} {xs} h) i = In-append_right (schema_paths (draft_schema_of y)) (item_paths s xs p h i)

branch_paths : (b : Vec (declared.Schema PathExpr) Global) (bs : List (Vec (declared.Schema PathExpr) Global)) (p : PathExpression) → In b bs → In p (annotation_paths (draft_annotation_of b.items)) → In p (branches_paths (drafted bs))
branch_paths b _ p (here {xs}) i = In-append_left (branches_paths (drafted xs)) i
branch_paths b _ p (later {y} {xs} h) i = In-append_right (annotation_paths (draft_annotation_of y.items)) (branch_paths b xs p h i)

pub item_fails : (depth : ℕ) (ss : List (declared.Schema PathExpr)) (s : declared.Schema PathExpr) (f : PathFault) → In s ss → FailsIn depth (schema_paths (draft_schema_of s)) f → FailsIn depth (annotation_paths (draft_annotation_of ss)) f
item_fails depth ss s f i b = fails_more depth (schema_paths (draft_schema_of s)) (annotation_paths (draft_annotation_of ss)) f (λ p j. item_paths s ss p i j) b

pub branch_fails : (depth : ℕ) (s : declared.Schema PathExpr) (branches : _) (b : Vec (declared.Schema PathExpr) Global) (f : PathFault) → s ≡ written.Either branches → In b branches.items → FailsIn depth (annotation_paths (draft_annotation_of b.items)) f → FailsIn depth (schema_paths (draft_schema_of s)) f
branch_fails depth s branches b f is i h =
    subst (λ (x : DraftSchema). FailsIn depth (schema_paths x) f) (sym (ap draft_schema_of is ∙ view_either branches))
    (fails_more depth (annotation_paths (draft_annotation_of b.items)) (branches_paths (drafted branches.items)) f (λ p j. branch_paths b branches.items p i j) h)

pub option_fails : (depth : ℕ) (s : declared.Schema PathExpr) (inside : _) (f : PathFault) → s ≡ written.Maybe inside → FailsIn depth (annotation_paths (draft_annotation_of inside.items)) f → FailsIn depth (schema_paths (draft_schema_of s)) f
option_fails depth s inside f is h = subst (λ (x : DraftSchema). FailsIn depth (schema_paths x) f) (sym (ap draft_schema_of is ∙ view_option inside)) h

-- ---- calls of a part

item_calls : (s : declared.Schema PathExpr) (ss : List (declared.Schema PathExpr)) (c : Call) → In s ss → In c (schema_calls (draft_schema_of s)) → In c (calls (draft_annotation_of ss))
item_calls s _ c (here {xs}) i = In-append_left (calls (draft_annotation_of xs)) i
item_calls s _ c (later {y} {xs} h) i = In-append_right (schema_calls (draft_schema_of y)) (item_calls s xs c h i)

branch_calls : (b : Vec (declared.Schema PathExpr) Global) (bs : List (Vec (declared.Schema PathExpr) Global)) (c : Call) → In b bs → In c (calls (draft_annotation_of b.items)) → In c (branches_calls (drafted bs))
branch_calls b _ c (here {xs}) i = In-append_left (branches_calls (drafted xs)) i
branch_calls b _ c (later {y} {xs} h) i = In-append_right (calls (draft_annotation_of y.items)) (branch_calls b xs c h i)

no_call_in : (s s' : DraftSchema) → s ≡ s' → NoCall (schema_calls s) → NoCall (schema_calls s')
no_call_in s s' e h = subst (λ (x : DraftSchema). NoCall (schema_calls x)) e h

pub item_without : (ss : List (declared.Schema PathExpr)) (s : declared.Schema PathExpr) → In s ss → NoCall (calls (draft_annotation_of ss)) → NoCall (schema_calls (draft_schema_of s))
item_without ss s i h = λ c k. h c (item_calls s ss c i k)

pub option_without : (s : declared.Schema PathExpr) (inside : _) → s ≡ written.Maybe inside → NoCall (schema_calls (draft_schema_of s)) → NoCall (calls (draft_annotation_of inside.items))
option_without s inside is h = no_call_in _ _ (ap draft_schema_of is ∙ view_option inside) h

pub branch_without : (s : declared.Schema PathExpr) (branches : _) (b : Vec (declared.Schema PathExpr) Global) → s ≡ written.Either branches → In b branches.items → NoCall (schema_calls (draft_schema_of s)) → NoCall (calls (draft_annotation_of b.items))
branch_without s branches b is i h = λ c k. no_call_in _ _ (ap draft_schema_of is ∙ view_either branches) h c (branch_calls b branches.items c i k)

pub no_such_call : (s : declared.Schema PathExpr) (name : Name) (args : List Name) → s ≡ written.Call name args → NoCall (schema_calls (draft_schema_of s)) → ⊥
no_such_call s name args is h = no_call_in _ _ (ap draft_schema_of is ∙ view_call name args) h (record { name = name; args = args }) here
