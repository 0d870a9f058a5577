-- At most one rule is the first that is broken, and none of a draft that is expanded.
use Rattle.std.proofs.Common.{◌≡◌, ℕ, suc, ◌<◌, ◌≤◌, ◌⊎◌, inl, inr, Bool, true, false, cond, nat_lt, Result, Ok, Err, List, [], ◌∷◌, ◌++◌, length, refl, sym, ap, ◌∙◌, subst, arith}
use Rattle.std.proofs.lemmas.Bool.{ltb-true, ltb-false}
use Rattle.std.specs.Prelude.{IfOk, IfErr, IsOkUnless}
use Rattle.lfg_terms.specs.declared.draft.Plain.{Plain}
use Rattle.lfg_model.specs.Lists.{In, here, later}
use Rattle.lfg_model.specs.Terms.{Name}
use Rattle.lfg_model.specs.DraftForms.{DraftForm, PlainForm, plain_form}
use Rattle.lfg_model.specs.Templates.{Expands}
use Rattle.lfg_model.specs.TemplateRules.{FirstWritten, FirstNamed, NoneHas, Weight, weights, size_before, whole_size, Passes, schema_limit, IsExpanded, FirstTooMuch}
use Rattle.lfg_model.proofs.ListLaws.{In-append_right, In-cons_cases}
use Rattle.lfg_templates.specs.declared.fault.TemplateFault.{TemplateFault}
use Rattle.lfg_templates.specs.declared.fault.TemplateFault.TheVariants.{Repeated, Undefined, Arity, TemplateCycle, TooMuch, Memory}
use Rattle.lfg_templates.specs.Counts.{summed}
use Rattle.lfg_templates.specs.Faults.{Breaks, Refuses, Fits}
use Rattle.lfg_templates.proofs.Summing.{sum_is}
use Rattle.lfg_templates.proofs.Expanding.{weighed}
use Rattle.lfg_templates.proofs.Fitting.{fits_lead}

-- ---- one first

module _ {X : Type 0} (entry : X → ℕ) (P : X → Type 0) where
  -- two ways to part a list: at the same element, or one in the front of the other
  parted : (xs f b g c : List X) (x y : X) → xs ≡ f ++ x ∷ b → xs ≡ g ++ y ∷ c → (x ≡ y) ⊎ (In x g ⊎ In y f)
  parted xs [] b [] c x y e h = inl (heads (sym e ∙ h))
    where
      heads : {u v : X} {us vs : List X} → u ∷ us ≡ v ∷ vs → u ≡ v
      heads k = cc
  parted xs [] b (z ∷ g) c x y e h = inr (inl (subst (λ (w : X). In w (z ∷ g)) (sym (heads (sym e ∙ h))) here))
    where
      heads : {u v : X} {us vs : List X} → u ∷ us ≡ v ∷ vs → u ≡ v
      heads k = cc
  parted xs (z ∷ f) b [] c x y e h = inr (inr (subst (λ (w : X). In w (z ∷ f)) (sym (heads (sym h ∙ e))) here))
    where
      heads : {u v : X} {us vs : List X} → u ∷ us ≡ v ∷ vs → u ≡ v
      heads k = cc
  parted [] (z ∷ f) b (w ∷ g) c x y e h = absurd (let no : ⊥ = cc in no)
  parted (v ∷ xs) (z ∷ f) b (w ∷ g) c x y e h = elim (parted xs f b g c x y (tails e) (tails h)) [ inl s ↦ inl s | inr r ↦ inr (elim r [ inl i ↦ inl (later i) | inr j ↦ inr (later j) ]) ]
    where
      tails : {u v : X} {us vs : List X} → u ∷ us ≡ v ∷ vs → us ≡ vs
      tails k = cc

  least : (xs : List X) (x y : X) → FirstWritten entry P xs x → In y xs → P y → entry x ≤ entry y
  least xs x y f i p = go (subst (λ (zs : List X). In y zs) f.is i)
    where
      go : In y (f.front ++ x ∷ f.back) → entry x ≤ entry y
      go k = elim (In-cases f.front k) [ inl a ↦ (let l = f.before y a p in omega arith) | inr b ↦ elim (In-cons_cases b) [ inl e ↦ (let s : entry y ≡ entry x = ap entry e in omega arith) | inr c ↦ f.behind y c p ] ]
        where
          In-cases : (zs : List X) {ws : List X} → In y (zs ++ ws) → In y zs ⊎ In y ws
          In-cases [] h = inr h
          In-cases (z ∷ zs) here = inl here
          In-cases (z ∷ zs) (later h) = elim (In-cases zs h) [ inl a ↦ inl (later a) | inr b ↦ inr b ]

  there : (xs : List X) (x : X) → FirstWritten entry P xs x → In x xs
  there xs x f = subst (λ (zs : List X). In x zs) (sym f.is) (In-append_right f.front here)

  pub one_first : (xs : List X) (x y : X) → FirstWritten entry P xs x → FirstWritten entry P xs y → x ≡ y
  one_first xs x y f g = elim (parted xs f.front f.back g.front g.back x y f.is g.is) [
    | inl e ↦ e
    | inr r ↦ elim r [
      | inl i ↦ absurd (let a = g.before x i f.has in let b = least xs x y f (there xs y g) g.has in let no : ⊥ = omega (arith, a, b) in no)
      | inr j ↦ absurd (let a = f.before y j g.has in let b = least xs y x g (there xs x f) f.has in let no : ⊥ = omega (arith, a, b) in no)
    ]
  ]

  pub one_name : (naming : X → Name) (xs : List X) (a b : Name) → FirstNamed entry naming P xs a → FirstNamed entry naming P xs b → a ≡ b
  one_name naming xs a b f g = sym f.named ∙ ap naming (one_first xs f.first g.first f.is g.is) ∙ g.named

  pub none_first : (naming : X → Name) (xs : List X) (a : Name) → FirstNamed entry naming P xs a → NoneHas P xs → ⊥
  none_first naming xs a f h = h f.first (there xs f.first f.is) f.is.has

-- ---- one entry

part_grows : (n e f s : ℕ) (b c : Bool) → nat_lt n e ≡ b → nat_lt n f ≡ c → e ≤ f → cond b s 0 ≤ cond c s 0
part_grows n e f s true true h k l = omega arith
part_grows n e f s true false h k l = absurd (let a = ltb-true n e h in let b = ltb-false n f k in let no : ⊥ = omega (arith, a, b, l) in no)
part_grows n e f s false true h k l = omega arith
part_grows n e f s false false h k l = omega arith

parts_grow : (e f : ℕ) (ws : List Weight) → e ≤ f → summed (λ w. cond (nat_lt w.entry e) w.size 0) ws ≤ summed (λ w. cond (nat_lt w.entry f) w.size 0) ws
parts_grow e f [] l = omega arith
parts_grow e f (w ∷ ws) l = let r = parts_grow e f ws l in let p = part_grows w.entry e f w.size (nat_lt w.entry e) (nat_lt w.entry f) refl refl l in omega (arith, r, p)

before_grows : (e f : ℕ) (ws : List Weight) → e ≤ f → size_before e ws ≤ size_before f ws
before_grows e f ws l =
    let a = sum_is (λ w. cond (nat_lt w.entry e) w.size 0) ws in
    let b = sum_is (λ w. cond (nat_lt w.entry f) w.size 0) ws in
    let c = parts_grow e f ws l in
    omega (arith, a, b, c)

part_within : (b : Bool) (s : ℕ) → cond b s 0 ≤ s
part_within true s = omega arith
part_within false s = omega arith

parts_within : (e : ℕ) (ws : List Weight) → summed (λ w. cond (nat_lt w.entry e) w.size 0) ws ≤ summed (λ w. w.size) ws
parts_within e [] = omega arith
parts_within e (w ∷ ws) = let r = parts_within e ws in let p = part_within (nat_lt w.entry e) w.size in omega (arith, r, p)

before_within : (e : ℕ) (ws : List Weight) → size_before e ws ≤ whole_size ws
before_within e ws =
    let a = sum_is (λ w. cond (nat_lt w.entry e) w.size 0) ws in
    let b = sum_is (λ w. w.size) ws in
    let c = parts_within e ws in
    omega (arith, a, b, c)

one_entry : (ws : List Weight) (e f : ℕ) → Passes schema_limit ws e → Passes schema_limit ws f → e ≡ f
one_entry ws e f p q =
    let a : ¬ (e < f) = λ l. (let g = before_grows (suc e) f ws (omega (arith, l)) in let x = p.over in let y = q.before in omega (arith, g, x, y)) in
    let b : ¬ (f < e) = λ l. (let g = before_grows (suc f) e ws (omega (arith, l)) in let x = q.over in let y = p.before in omega (arith, g, x, y)) in
    omega (arith, a, b)

-- two plain forms of a draft that keeps the rules on calls have the same numbers of schemata
one_weights : (d : DraftForm) (p q : PlainForm) → Fits d → Expands d p → Expands d q → weights p ≡ weights q
one_weights d p q f x y = weighed d p (length d.templates) (fits_lead d f) x ∙ sym (weighed d q (length d.templates) (fits_lead d f) y)

fits_much : {d : DraftForm} {entry : ℕ} → FirstTooMuch d entry → Fits d
fits_much f = record { once = f.once; defined = f.defined; fitting = f.fitting; acyclic = f.acyclic }

one_much : (d : DraftForm) (a b : ℕ) → FirstTooMuch d a → FirstTooMuch d b → a ≡ b
one_much d a b f g = one_entry (weights g.becomes) a b (subst (λ (ws : List Weight). Passes schema_limit ws a) (one_weights d f.becomes g.becomes (fits_much f) f.expands g.expands) f.passes) g.passes

-- ---- one fault

module _ (d : DraftForm) where
  pub one_breach : (f g : TemplateFault) → Breaks d f → Breaks d g → f ≡ g
  one_breach (Repeated a) (Repeated b) x y = ap Repeated (one_name _ _ _ _ a b x y)
  one_breach (Repeated a) (Undefined b) x y = absurd (none_first _ _ _ _ a x y.once)
  one_breach (Repeated a) (Arity b) x y = absurd (none_first _ _ _ _ a x y.once)
  one_breach (Repeated a) (TemplateCycle b) x y = absurd (none_first _ _ _ _ a x y.once)
  one_breach (Repeated a) (TooMuch b) x y = absurd (none_first _ _ _ _ a x y.once)
  one_breach (Repeated a) Memory x y = absurd y
  one_breach (Undefined a) (Repeated b) x y = absurd (none_first _ _ _ _ b y x.once)
  one_breach (Undefined a) (Undefined b) x y = ap Undefined (one_name _ _ _ _ a b x.first y.first)
  one_breach (Undefined a) (Arity b) x y = absurd (none_first _ _ _ _ a x.first y.defined)
  one_breach (Undefined a) (TemplateCycle b) x y = absurd (none_first _ _ _ _ a x.first y.defined)
  one_breach (Undefined a) (TooMuch b) x y = absurd (none_first _ _ _ _ a x.first y.defined)
  one_breach (Undefined a) Memory x y = absurd y
  one_breach (Arity a) (Repeated b) x y = absurd (none_first _ _ _ _ b y x.once)
  one_breach (Arity a) (Undefined b) x y = absurd (none_first _ _ _ _ b y.first x.defined)
  one_breach (Arity a) (Arity b) x y = ap Arity (one_name _ _ _ _ a b x.first y.first)
  one_breach (Arity a) (TemplateCycle b) x y = absurd (none_first _ _ _ _ a x.first y.fitting)
  one_breach (Arity a) (TooMuch b) x y = absurd (none_first _ _ _ _ a x.first y.fitting)
  one_breach (Arity a) Memory x y = absurd y
  one_breach (TemplateCycle a) (Repeated b) x y = absurd (none_first _ _ _ _ b y x.once)
  one_breach (TemplateCycle a) (Undefined b) x y = absurd (none_first _ _ _ _ b y.first x.defined)
  one_breach (TemplateCycle a) (Arity b) x y = absurd (none_first _ _ _ _ b y.first x.fitting)
  one_breach (TemplateCycle a) (TemplateCycle b) x y = ap TemplateCycle (one_name _ _ _ _ a b x.first y.first)
  one_breach (TemplateCycle a) (TooMuch b) x y = absurd (none_first _ _ _ _ a x.first y.acyclic)
  one_breach (TemplateCycle a) Memory x y = absurd y
  one_breach (TooMuch a) (Repeated b) x y = absurd (none_first _ _ _ _ b y x.once)
  one_breach (TooMuch a) (Undefined b) x y = absurd (none_first _ _ _ _ b y.first x.defined)
  one_breach (TooMuch a) (Arity b) x y = absurd (none_first _ _ _ _ b y.first x.fitting)
  one_breach (TooMuch a) (TemplateCycle b) x y = absurd (none_first _ _ _ _ b y.first x.acyclic)
  one_breach (TooMuch a) (TooMuch b) x y = ap TooMuch (one_much d a b x y)
  one_breach (TooMuch a) Memory x y = absurd y
  one_breach Memory g x y = absurd x

  pub not_both : (p : PlainForm) (f : TemplateFault) → IsExpanded d p → Breaks d f → ⊥
  not_both p (Repeated a) e x = none_first _ _ _ _ a x e.once
  not_both p (Undefined a) e x = none_first _ _ _ _ a x.first e.defined
  not_both p (Arity a) e x = none_first _ _ _ _ a x.first e.fitting
  not_both p (TemplateCycle a) e x = none_first _ _ _ _ a x.first e.acyclic
  not_both p (TooMuch a) e x =
      let w = subst (λ (ws : List Weight). whole_size ws ≤ schema_limit) (one_weights d p x.becomes (fits_much x) e.expands x.expands) e.few in
      let l = before_within (suc a) (weights x.becomes) in
      let o = x.passes.over in
      omega (arith, w, l, o)
  not_both p Memory e x = x

  pub accepted : (r : Result Plain TemplateFault) → IfErr r (λ f. Refuses d f) → (p : PlainForm) → IsExpanded d p → IsOkUnless r Memory
  accepted (Ok q) h p e = tt
  accepted (Err f) h p e = elim h [ inl m ↦ m | inr b ↦ absurd (not_both p f e b) ]

  pub broken : (r : Result Plain TemplateFault) → IfOk r (λ p. IsExpanded d (plain_form p)) → IfErr r (λ f. Refuses d f) → (f : TemplateFault) → Breaks d f → (r ≡ Err f) ⊎ (r ≡ Err Memory)
  broken (Ok p) e h f b = absurd (not_both (plain_form p) f e b)
  broken (Err g) e h f b = elim h [ inl m ↦ inr (ap Err m) | inr c ↦ inl (ap Err (one_breach g f c b)) ]
