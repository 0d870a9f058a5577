-- What a draft becomes: there is such a thing, and its number of schemata is what was counted.
use Rattle.std.proofs.Common.{◌≡◌, ℕ, zero, suc, ◌+◌, Some, None, List, [], ◌∷◌, ◌++◌, map, refl, sym, ap, ◌∙◌, subst, arith}
use Rattle.lfg_model.specs.Lists.{In, here, later}
use Rattle.lfg_model.specs.Terms.{Name}
use Rattle.lfg_model.specs.RightSides.{DraftSchema, define, constrain, exists, member, mark, either, maybe, call, DraftAnnotation, no_schema, and_schema, DraftBranches, no_branch, or_branch, draft_annotation_from, draft_branches_from, RightSide, RightSides, item, optional, no_side, and_side}
use Rattle.lfg_model.specs.RightSides as side
use Rattle.lfg_model.specs.DraftForms.{TemplateForm, RuleForm, WordForm, DraftForm, PlainForm}
use Rattle.lfg_model.specs.Templates.{Binding, unbound, name_with, template_named, Becomes, defining, constraining, existential, membership, marked, disjunction, option, called, AllBecome, nothing, one_more, BranchesBecome, no_more, branch_more, SideBecomes, bare, annotated, in_row, in_branches, in_option, in_star, in_plus, SidesBecome, no_part, part_more, Each, end, and, RuleBecomes, ReadingBecomes, Expands}
use Rattle.lfg_model.specs.TemplateRules.{schema_calls, calls, branches_calls, side_calls, sides_calls, Weight, annotation_size, branches_size, side_size, sides_size, rule_weight, reading_weight, weights}
use Rattle.lfg_model.proofs.ListLaws.{In-append_left, In-append_right}
use Rattle.lfg_templates.specs.Counts.{one_count, all_count, branches_count, body_count, call_count, side_count, sides_count, rule_count, reading_count, draft_counts}
use Rattle.lfg_templates.specs.Depth.{Leads, into, AllLead, DraftLeads}

-- ---- sizes of lists

annotation_append : (xs ys : List DraftSchema) → annotation_size (draft_annotation_from (xs ++ ys)) ≡ annotation_size (draft_annotation_from xs) + annotation_size (draft_annotation_from ys)
annotation_append [] ys = omega arith
annotation_append (x ∷ xs) ys = let r = annotation_append xs ys in omega (arith, r)

call_into : (ts : List TemplateForm) (d : ℕ) (name : Name) (t : TemplateForm) → template_named ts name ≡ Some t → call_count ts (suc d) name ≡ all_count (call_count ts d) t.body
unfolding call_count
call_into ts d name t e = ap (body_count (call_count ts d)) e

-- ---- the count is the size

call_size : (ts : List TemplateForm) (d : ℕ) (name : Name) (args : List Name) (t : TemplateForm) {n : ℕ} → template_named ts name ≡ Some t → Leads ts d (record { name = name; args = args }) → ((k : ℕ) → AllLead ts k (calls t.body) → n ≡ all_count (call_count ts k) t.body) → n ≡ call_count ts d name
call_size ts d name args t e (into {depth} {t = u} f g) h =
    let same : u ≡ t = some_same (sym f ∙ e) in
    h depth (subst (λ (v : TemplateForm). AllLead ts depth (calls v.body)) same g) ∙ sym (call_into ts depth name t e)
  where
    some_same : {x y : TemplateForm} → Some x ≡ Some y → x ≡ y
    some_same k = cc

mutual
  one_size : (ts : List TemplateForm) {b : Binding} {s : DraftSchema} {out : List DraftSchema} (d : ℕ) → Becomes ts b s out → AllLead ts d (schema_calls s) → annotation_size (draft_annotation_from out) ≡ one_count (call_count ts d) s
  one_size ts d defining l = omega arith
  one_size ts d constraining l = omega arith
  one_size ts d existential l = omega arith
  one_size ts d membership l = omega arith
  one_size ts d marked l = omega arith
  one_size ts d (disjunction h) l = let r = rows_size ts d h l in omega (arith, r)
  one_size ts d (option h) l = let r = all_size ts d h l in omega (arith, r)
  one_size ts d (called {name = name} {args = args} {t} e h) l = call_size ts d name args t e (l (record { name = name; args = args }) here) (λ k m. all_size ts k h m)

  all_size : (ts : List TemplateForm) {b : Binding} {a : DraftAnnotation} {out : List DraftSchema} (d : ℕ) → AllBecome ts b a out → AllLead ts d (calls a) → annotation_size (draft_annotation_from out) ≡ all_count (call_count ts d) a
  all_size ts d nothing l = refl
  all_size ts d (one_more {schema = s} {annotation = a} {first} {rest} h g) l =
      let x = one_size ts d h (λ c i. l c (In-append_left (calls a) i)) in
      let y = all_size ts d g (λ c i. l c (In-append_right (schema_calls s) i)) in
      let z = annotation_append first rest in
      omega (arith, x, y, z)

  rows_size : (ts : List TemplateForm) {b : Binding} {bs : DraftBranches} {out : List DraftAnnotation} (d : ℕ) → BranchesBecome ts b bs out → AllLead ts d (branches_calls bs) → branches_size (draft_branches_from out) ≡ branches_count (call_count ts d) bs
  rows_size ts d no_more l = refl
  rows_size ts d (branch_more {annotation = a} {branches = bs} h g) l =
      let x = all_size ts d h (λ c i. l c (In-append_left (branches_calls bs) i)) in
      let y = rows_size ts d g (λ c i. l c (In-append_right (calls a) i)) in
      omega (arith, x, y)

mutual
  pub side_sized : (ts : List TemplateForm) {s r : RightSide} (d : ℕ) → SideBecomes ts s r → AllLead ts d (side_calls s) → side_size r ≡ side_count (call_count ts d) s
  side_sized ts d bare l = refl
  side_sized ts d (annotated h) l = all_size ts d h l
  side_sized ts d (in_row h) l = sides_sized ts d h l
  side_sized ts d (in_branches h) l = sides_sized ts d h l
  side_sized ts d (in_option h) l = side_sized ts d h l
  side_sized ts d (in_star h) l = side_sized ts d h l
  side_sized ts d (in_plus h) l = side_sized ts d h l

  sides_sized : (ts : List TemplateForm) {ss rs : RightSides} (d : ℕ) → SidesBecome ts ss rs → AllLead ts d (sides_calls ss) → sides_size rs ≡ sides_count (call_count ts d) ss
  sides_sized ts d no_part l = refl
  sides_sized ts d (part_more {part = p} {parts = ps} h g) l =
      let x = side_sized ts d h (λ c i. l c (In-append_left (sides_calls ps) i)) in
      let y = sides_sized ts d g (λ c i. l c (In-append_right (side_calls p) i)) in
      omega (arith, x, y)

-- ---- there is something that it becomes

record Made (ts : List TemplateForm) (b : Binding) (a : DraftAnnotation) : Type 0 where
  out : List DraftSchema
  is : AllBecome ts b a out

record MadeOne (ts : List TemplateForm) (b : Binding) (s : DraftSchema) : Type 0 where
  out : List DraftSchema
  is : Becomes ts b s out

record MadeRows (ts : List TemplateForm) (b : Binding) (bs : DraftBranches) : Type 0 where
  out : List DraftAnnotation
  is : BranchesBecome ts b bs out

mutual
  make_one : (ts : List TemplateForm) (d : ℕ) → ((b : Binding) (name : Name) (args : List Name) → Leads ts d (record { name = name; args = args }) → MadeOne ts b (call name args)) → (b : Binding) (s : DraftSchema) → AllLead ts d (schema_calls s) → MadeOne ts b s
  make_one ts d go b (define left right) l = record { out = _; is = defining }
  make_one ts d go b (constrain negated left right) l = record { out = _; is = constraining }
  make_one ts d go b (exists negated left) l = record { out = _; is = existential }
  make_one ts d go b (member it set) l = record { out = _; is = membership }
  make_one ts d go b (mark name) l = record { out = _; is = marked }
  make_one ts d go b (either branches) l = let r = make_rows ts d go b branches l in record { out = either (draft_branches_from r.out) ∷ []; is = disjunction r.is }
  make_one ts d go b (maybe inside) l = let r = make_all ts d go b inside l in record { out = maybe (draft_annotation_from r.out) ∷ []; is = option r.is }
  make_one ts d go b (call name args) l = go b name args (l (record { name = name; args = args }) here)

  make_all : (ts : List TemplateForm) (d : ℕ) → ((b : Binding) (name : Name) (args : List Name) → Leads ts d (record { name = name; args = args }) → MadeOne ts b (call name args)) → (b : Binding) (a : DraftAnnotation) → AllLead ts d (calls a) → Made ts b a
  make_all ts d go b no_schema l = record { out = []; is = nothing }
  make_all ts d go b (and_schema s a) l =
      let x = make_one ts d go b s (λ c i. l c (In-append_left (calls a) i)) in
      let y = make_all ts d go b a (λ c i. l c (In-append_right (schema_calls s) i)) in
      record { out = x.out ++ y.out; is = one_more x.is y.is }

  make_rows : (ts : List TemplateForm) (d : ℕ) → ((b : Binding) (name : Name) (args : List Name) → Leads ts d (record { name = name; args = args }) → MadeOne ts b (call name args)) → (b : Binding) (bs : DraftBranches) → AllLead ts d (branches_calls bs) → MadeRows ts b bs
  make_rows ts d go b no_branch l = record { out = []; is = no_more }
  make_rows ts d go b (or_branch a bs) l =
      let x = make_all ts d go b a (λ c i. l c (In-append_left (branches_calls bs) i)) in
      let y = make_rows ts d go b bs (λ c i. l c (In-append_right (calls a) i)) in
      record { out = draft_annotation_from x.out ∷ y.out; is = branch_more x.is y.is }

make_call : (ts : List TemplateForm) (d : ℕ) (b : Binding) (name : Name) (args : List Name) → Leads ts d (record { name = name; args = args }) → MadeOne ts b (call name args)
make_call ts zero b name args h = elim h [ ]
make_call ts (suc d) b name args (into {t = t} e f) =
    let r = make_all ts d (make_call ts d) (record { params = t.params; args = map (name_with b) args }) t.body f in
    record { out = r.out; is = called e r.is }

made : (ts : List TemplateForm) (d : ℕ) (b : Binding) (a : DraftAnnotation) → AllLead ts d (calls a) → Made ts b a
made ts d b a l = make_all ts d (make_call ts d) b a l

record MadeSide (ts : List TemplateForm) (s : RightSide) : Type 0 where
  out : RightSide
  is : SideBecomes ts s out

record MadeSides (ts : List TemplateForm) (ss : RightSides) : Type 0 where
  out : RightSides
  is : SidesBecome ts ss out

mutual
  made_side : (ts : List TemplateForm) (d : ℕ) (s : RightSide) → AllLead ts d (side_calls s) → MadeSide ts s
  made_side ts d (item cat None) l = record { out = item cat None; is = bare }
  made_side ts d (item cat (Some a)) l = let r = made ts d unbound a l in record { out = item cat (Some (draft_annotation_from r.out)); is = annotated r.is }
  made_side ts d (side.row parts) l = let r = made_sides ts d parts l in record { out = side.row r.out; is = in_row r.is }
  made_side ts d (side.one_of branches) l = let r = made_sides ts d branches l in record { out = side.one_of r.out; is = in_branches r.is }
  made_side ts d (optional inside) l = let r = made_side ts d inside l in record { out = optional r.out; is = in_option r.is }
  made_side ts d (side.star inside) l = let r = made_side ts d inside l in record { out = side.star r.out; is = in_star r.is }
  made_side ts d (side.plus inside) l = let r = made_side ts d inside l in record { out = side.plus r.out; is = in_plus r.is }

  made_sides : (ts : List TemplateForm) (d : ℕ) (ss : RightSides) → AllLead ts d (sides_calls ss) → MadeSides ts ss
  made_sides ts d no_side l = record { out = no_side; is = no_part }
  made_sides ts d (and_side p ps) l =
      let x = made_side ts d p (λ c i. l c (In-append_left (sides_calls ps) i)) in
      let y = made_sides ts d ps (λ c i. l c (In-append_right (side_calls p) i)) in
      record { out = and_side x.out y.out; is = part_more x.is y.is }

-- ---- rules and readings

record MadeRules (ts : List TemplateForm) (rs : List RuleForm) : Type 0 where
  out : List RuleForm
  is : Each (RuleBecomes ts) rs out

record MadeReadings (ts : List TemplateForm) (rs : List WordForm) : Type 0 where
  out : List WordForm
  is : Each (ReadingBecomes ts) rs out

made_rules : (ts : List TemplateForm) (d : ℕ) (rs : List RuleForm) → ((r : RuleForm) → In r rs → AllLead ts d (side_calls r.side)) → MadeRules ts rs
made_rules ts d [] l = record { out = []; is = end }
made_rules ts d (r ∷ rs) l =
    let x = made_side ts d r.side (l r here) in
    let y = made_rules ts d rs (λ q i. l q (later i)) in
    record { out = record { entry = r.entry; cat = r.cat; side = x.out } ∷ y.out; is = and (record { entry = refl; cat = refl; side = x.is }) y.is }

made_readings : (ts : List TemplateForm) (d : ℕ) (rs : List WordForm) → ((r : WordForm) → In r rs → AllLead ts d (calls r.annotation)) → MadeReadings ts rs
made_readings ts d [] l = record { out = []; is = end }
made_readings ts d (r ∷ rs) l =
    let x = made ts d unbound r.annotation (l r here) in
    let y = made_readings ts d rs (λ q i. l q (later i)) in
    record { out = record { entry = r.entry; form = r.form; cat = r.cat; annotation = draft_annotation_from x.out } ∷ y.out; is = and (record { entry = refl; form = refl; cat = refl; out = x.out; all = x.is; is = refl }) y.is }

pub record MadeDraft (d : DraftForm) : Type 0 where
  pub becomes : PlainForm
  pub is : Expands d becomes

-- each draft whose calls end becomes something
pub made_draft : (d : DraftForm) (depth : ℕ) → DraftLeads d depth → MadeDraft d
made_draft d depth l =
    let r = made_rules d.templates depth d.rules l.rules in
    let e = made_readings d.templates depth d.words l.words in
    record { becomes = record { settings = d.settings; rules = r.out; words = e.out }; is = record { settings = refl; rules = r.is; words = e.is } }

rules_weighed : (ts : List TemplateForm) (d : ℕ) {rs qs : List RuleForm} → Each (RuleBecomes ts) rs qs → ((r : RuleForm) → In r rs → AllLead ts d (side_calls r.side)) → map rule_weight qs ≡ map (rule_count (call_count ts d)) rs
rules_weighed ts d end l = refl
rules_weighed ts d (and {x = r} {y = q} {xs = rs} {ys = qs} h g) l =
    let size = side_sized ts d h.side (l r here) in
    let rest = rules_weighed ts d g (λ x i. l x (later i)) in
    ap (λ (n : ℕ). let w : List Weight = record { entry = n; size = side_size q.side } ∷ map rule_weight qs in w) h.entry
    ∙ ap (λ (n : ℕ). let w : List Weight = record { entry = r.entry; size = n } ∷ map rule_weight qs in w) size
    ∙ ap (λ (ws : List Weight). rule_count (call_count ts d) r ∷ ws) rest

readings_weighed : (ts : List TemplateForm) (d : ℕ) {rs qs : List WordForm} → Each (ReadingBecomes ts) rs qs → ((r : WordForm) → In r rs → AllLead ts d (calls r.annotation)) → map reading_weight qs ≡ map (reading_count (call_count ts d)) rs
readings_weighed ts d end l = refl
readings_weighed ts d (and {x = r} {y = q} {xs = rs} {ys = qs} h g) l =
    let size : annotation_size q.annotation ≡ all_count (call_count ts d) r.annotation = ap annotation_size h.is ∙ all_size ts d h.all (l r here) in
    let rest = readings_weighed ts d g (λ x i. l x (later i)) in
    ap (λ (n : ℕ). let w : List Weight = record { entry = n; size = annotation_size q.annotation } ∷ map reading_weight qs in w) h.entry
    ∙ ap (λ (n : ℕ). let w : List Weight = record { entry = r.entry; size = n } ∷ map reading_weight qs in w) size
    ∙ ap (λ (ws : List Weight). reading_count (call_count ts d) r ∷ ws) rest

-- what it becomes has the numbers of schemata that were counted
pub weighed : (d : DraftForm) (p : PlainForm) (depth : ℕ) → DraftLeads d depth → Expands d p → weights p ≡ draft_counts (call_count d.templates depth) d
weighed d p depth l e =
    ap (λ (ws : List Weight). ws ++ map reading_weight p.words) (rules_weighed d.templates depth e.rules l.rules)
    ∙ ap (λ (ws : List Weight). map (rule_count (call_count d.templates depth)) d.rules ++ ws) (readings_weighed d.templates depth e.words l.words)
