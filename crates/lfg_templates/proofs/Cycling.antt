-- What the graph says of the templates.
use Rattle.std.proofs.Common.{◌≡◌, ℕ, zero, suc, ◌<◌, Bool, true, false, cond, Some, List, [], ◌∷◌, length, map, get_or, refl, sym, ap, ◌∙◌, subst, arith}
use Rattle.std.proofs.lemmas.List.{length-map}
use Rattle.lfg_model.specs.Lists.{In, here, later}
use Rattle.lfg_model.specs.Terms.{Name, same_name}
use Rattle.lfg_model.specs.DraftForms.{TemplateForm}
use Rattle.lfg_model.specs.Templates.{template_named}
use Rattle.lfg_model.specs.TemplateRules.{Call, CallAt, call_at, calls, Reaches, at_once, through}
use Rattle.lfg_model.proofs.ListLaws.{In-map, In_from_map, In-nil}
use Rattle.lfg_templates.specs.declared.calls.Called.{Called}
use Rattle.lfg_templates.specs.Views.{called_of}
use Rattle.lfg_templates.proofs.SameNames.{same_from_equal, equal_from_same}
use Rattle.lfg_templates.specs.Graphs.{place_in, called_place, row_of, graph_of, row_at, Walks, step, further}

-- ---- places

named_at : (u : TemplateForm) (ts : List TemplateForm) (name : Name) (t d : TemplateForm) (b : Bool) → cond b (Some u) (template_named ts name) ≡ Some t
    → (template_named ts name ≡ Some t → (place_in ts name < length ts) × (get_or ts (place_in ts name) d ≡ t))
    → (cond b 0 (suc (place_in ts name)) < length (u ∷ ts)) × (get_or (u ∷ ts) (cond b 0 (suc (place_in ts name))) d ≡ t)
named_at u ts name t d true e go = (omega arith, let f : u ≡ t = cc in f)
named_at u ts name t d false e go = let r = go e in (let l = r.0 in omega arith, r.1)

-- a name that is found stands at its place
pub named_place : (ts : List TemplateForm) (name : Name) (t d : TemplateForm) → template_named ts name ≡ Some t → (place_in ts name < length ts) × (get_or ts (place_in ts name) d ≡ t)
named_place [] name t d e = absurd (let no : ⊥ = cc in no)
named_place (u ∷ ts) name t d e = named_at u ts name t d (same_name u.name name) e (λ f. named_place ts name t d f)

placed_at : (u : TemplateForm) (ts : List TemplateForm) (name : Name) (b : Bool) → cond b 0 (suc (place_in ts name)) < length (u ∷ ts)
    → (place_in ts name < length ts → (t : TemplateForm) × (template_named ts name ≡ Some t)) → (t : TemplateForm) × (cond b (Some u) (template_named ts name) ≡ Some t)
placed_at u ts name true l go = (u, refl)
placed_at u ts name false l go = go (omega arith)

-- what stands at a place is found
pub placed_named : (ts : List TemplateForm) (name : Name) → place_in ts name < length ts → (t : TemplateForm) × (template_named ts name ≡ Some t)
placed_named [] name l = absurd (let no : ⊥ = omega arith in no)
placed_named (u ∷ ts) name l = placed_at u ts name (same_name u.name name) l (λ m. placed_named ts name m)

one_name : (u : TemplateForm) (ts : List TemplateForm) (n m : Name) (b c : Bool) → same_name u.name n ≡ b → same_name u.name m ≡ c → cond b 0 (suc (place_in ts n)) ≡ cond c 0 (suc (place_in ts m)) → cond b 0 (suc (place_in ts n)) < length (u ∷ ts)
    → (place_in ts n ≡ place_in ts m → place_in ts n < length ts → n ≡ m) → n ≡ m
one_name u ts n m true true s r e l go = sym (equal_from_same u.name n s) ∙ equal_from_same u.name m r
one_name u ts n m true false s r e l go = absurd (let no : ⊥ = omega (arith, e) in no)
one_name u ts n m false true s r e l go = absurd (let no : ⊥ = omega (arith, e) in no)
one_name u ts n m false false s r e l go = go (omega (arith, e)) (omega arith)

-- one place has one name
pub place_name : (ts : List TemplateForm) (n m : Name) → place_in ts n ≡ place_in ts m → place_in ts n < length ts → n ≡ m
place_name [] n m e l = absurd (let no : ⊥ = omega arith in no)
place_name (u ∷ ts) n m e l = one_name u ts n m (same_name u.name n) (same_name u.name m) refl refl e l (λ f k. place_name ts n m f k)

-- ---- rows

row_named : (ts us : List TemplateForm) (k : ℕ) (d : TemplateForm) → k < length us → row_at (map (row_of ts) us) k ≡ row_of ts (get_or us k d)
row_named ts [] k d l = absurd (let no : ⊥ = omega arith in no)
row_named ts (u ∷ us) zero d l = refl
row_named ts (u ∷ us) (suc k) d l = row_named ts us k d (omega arith)

-- the row of a name is that of its template
pub row_found : (ts : List TemplateForm) (name : Name) (t : TemplateForm) → template_named ts name ≡ Some t → row_at (graph_of ts) (place_in ts name) ≡ row_of ts t
row_found ts name t e = let p = named_place ts name t t e in row_named ts ts (place_in ts name) t p.0 ∙ ap (row_of ts) p.1

has_place : (ts us : List TemplateForm) (k j : ℕ) → In j (row_at (map (row_of ts) us) k) → k < length us
has_place ts [] k j h = In-nil h
has_place ts (u ∷ us) zero j h = omega arith
has_place ts (u ∷ us) (suc k) j h = let r = has_place ts us k j h in omega arith

-- ---- the same as names

pub walks_joined : {rows : List (List ℕ)} {i j k : ℕ} → Walks rows i j → Walks rows j k → Walks rows i k
walks_joined w (step h) = further w h
walks_joined w (further v h) = further (walks_joined w v) h

pub walks_from_reaches : (ts : List TemplateForm) {n m : Name} → Reaches ts n m → Walks (graph_of ts) (place_in ts n) (place_in ts m)
walks_from_reaches ts (at_once {name} {t} {c} e h) = step (subst (λ (row : List ℕ). In (place_in ts c.name) row) (sym (row_found ts name t e)) (In-map (called_place ts) h))
walks_from_reaches ts (through a b) = walks_joined (walks_from_reaches ts a) (walks_from_reaches ts b)

record Named (ts : List TemplateForm) (n : Name) (k : ℕ) : Type 0 where
  name : Name
  at : place_in ts name ≡ k
  reached : Reaches ts n name

followed : (ts : List TemplateForm) (n : Name) (k : ℕ) → In k (row_at (graph_of ts) (place_in ts n)) → Named ts n k
followed ts n k h =
    let f = placed_named ts n (has_place ts ts (place_in ts n) k h) in
    let c = In_from_map (called_place ts) (calls (f.0).body) (subst (λ (row : List ℕ). In k row) (row_found ts n f.0 f.1) h) in
    record { name = (c.0).name; at = c.2; reached = at_once f.1 c.1 }

walked_named : (ts : List TemplateForm) (n : Name) {i k : ℕ} → Walks (graph_of ts) i k → i ≡ place_in ts n → Named ts n k
walked_named ts n {k = k} (step h) e = followed ts n k (subst (λ (x : ℕ). In k (row_at (graph_of ts) x)) e h)
walked_named ts n {k = k} (further w h) e =
    let m = walked_named ts n w e in
    let f = followed ts m.name k (subst (λ (x : ℕ). In k (row_at (graph_of ts) x)) (sym m.at) h) in
    record { name = f.name; at = f.at; reached = through m.reached f.reached }

-- a place that leads back is that of a template that calls itself
pub reaches_from_walks : (ts : List TemplateForm) (n : Name) → place_in ts n < length ts → Walks (graph_of ts) (place_in ts n) (place_in ts n) → Reaches ts n n
reaches_from_walks ts n l w =
    let m = walked_named ts n w refl in
    subst (λ (x : Name). Reaches ts n x) (sym (place_name ts n m.name (sym m.at) l)) m.reached

in_at : (u : TemplateForm) (ts : List TemplateForm) (t : TemplateForm) (b : Bool) → same_name u.name t.name ≡ b → (u ≡ t → b ≡ true) → In t (u ∷ ts) → (In t ts → place_in ts t.name < length ts) → cond b 0 (suc (place_in ts t.name)) < length (u ∷ ts)
in_at u ts t true s f h go = omega arith
in_at u ts t false s f here go = absurd (let e = f refl in let no : ⊥ = cc in no)
in_at u ts t false s f (later h) go = let l = go h in omega arith

-- the name of each template has a place
pub in_place : (ts : List TemplateForm) (t : TemplateForm) → In t ts → place_in ts t.name < length ts
in_place [] t h = In-nil h
in_place (u ∷ ts) t h = in_at u ts t (same_name u.name t.name) refl (λ e. same_from_equal u.name t.name (ap (λ (x : TemplateForm). x.name) e)) h (λ i. in_place ts t i)

-- ---- as the program holds the graph

pub graph_length : (ts : List TemplateForm) (rows : List (List ℕ)) → rows ≡ graph_of ts → length rows ≡ length ts
graph_length ts rows e = ap length e ∙ length-map ts (row_of ts)

pub walks_from_cyclic : (ts : List TemplateForm) (rows : List (List ℕ)) (t : TemplateForm) (p : ℕ) → rows ≡ graph_of ts → p ≡ place_in ts t.name → Reaches ts t.name t.name → Walks rows p p
walks_from_cyclic ts rows t p e f r = subst (λ (rs : List (List ℕ)). Walks rs p p) (sym e) (subst (λ (x : ℕ). Walks (graph_of ts) x x) (sym f) (walks_from_reaches ts r))

pub cyclic_from_walks : (ts : List TemplateForm) (rows : List (List ℕ)) (t : TemplateForm) (p : ℕ) → rows ≡ graph_of ts → p ≡ place_in ts t.name → place_in ts t.name < length ts → Walks rows p p → Reaches ts t.name t.name
cyclic_from_walks ts rows t p e f l w = reaches_from_walks ts t.name l (subst (λ (x : ℕ). Walks (graph_of ts) x x) f (subst (λ (rs : List (List ℕ)). Walks rs p p) e w))

pub row_from_calls : (ts : List TemplateForm) (t : TemplateForm) (held : List Called) → map called_of held ≡ map (call_at t.entry) (calls t.body) → map (λ c. place_in ts c.name.now) held ≡ row_of ts t
row_from_calls ts t held e = at held ∙ ap (map (λ (c : CallAt). place_in ts c.call.name)) e ∙ out (calls t.body)
  where
    at : (hs : List Called) → map (λ c. place_in ts c.name.now) hs ≡ map (λ (c : CallAt). place_in ts c.call.name) (map called_of hs)
    at [] = refl
    at (h ∷ hs) = ap (λ (ns : List ℕ). place_in ts h.name.now ∷ ns) (at hs)

    out : (cs : List Call) → map (λ (c : CallAt). place_in ts c.call.name) (map (call_at t.entry) cs) ≡ map (called_place ts) cs
    out [] = refl
    out (c ∷ cs) = ap (λ (ns : List ℕ). place_in ts c.name ∷ ns) (out cs)
