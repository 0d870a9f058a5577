-- Where no name heads two entries and the entries of the rules are different, no category has two
-- rules.
use Rattle.std.proofs.Common.{◌≡◌, ℕ, List, [], ◌∷◌, ◌++◌, map, refl, ap, sym, ◌∙◌, subst, inl}
use Rattle.lfg_terms.specs.declared.grammar.Grammar.{Grammar}
use Rattle.lfg_model.specs.DraftForms.{RuleForm, DraftForm, PlainForm}
use Rattle.lfg_model.specs.Lists.{In, here, later, Once, none, more}
use Rattle.lfg_model.specs.Loads.{LoadsRule, Assembles}
use Rattle.lfg_model.specs.TemplateRules.{NoneHas, Head, Headed, headed_from, headed, rule_head, template_head, reading_head, Repeated, NoneRepeated}
use Rattle.lfg_model.specs.Templates.{Each, end, and, RuleBecomes, Expands}
use Rattle.lfg_model.specs.Terms.{Name}
use Rattle.lfg_model.proofs.ListLaws.{In-append_left, In-push, In-map, In_from_map}

-- a rule with its place among the heads of its section
record Place (earlier : List Head) (hs : List Head) (h : Head) : Type 0 where
  headed : Headed
  there : In headed (headed_from earlier hs)
  is : headed.head ≡ h
  keeps : (x : Head) → In x earlier → In x headed.earlier

place : {h : Head} (earlier : List Head) {hs : List Head} → In h hs → Place earlier hs h
place {h} earlier here = record { headed = record { head = h; earlier = earlier }; there = here; is = refl; keeps = λ x i. i }
place earlier (later {y = k} i) =
    let p = place (earlier ++ k ∷ []) i in
    record { headed = p.headed; there = later p.there; is = p.is; keeps = λ x j. p.keeps x (In-append_left (k ∷ []) j) }

cats_once : (earlier : List Head) (rs : List RuleForm) → NoneHas Repeated (headed_from earlier (map rule_head rs)) → Once (map (λ r. r.entry) rs) → Once (map (λ r. r.cat) rs)
cats_once earlier [] n o = none
cats_once earlier (r ∷ rs) n (more fresh o) = more (λ i.
    let y = In_from_map (λ (q : RuleForm). q.cat) rs i in
    let p = place (earlier ++ rule_head r ∷ []) (In-map rule_head y.1) in
    let name : y.0.cat ≡ p.headed.head.name = ap (λ (h : Head). h.name) (sym p.is) in
    let entry : p.headed.head.entry ≡ y.0.entry = ap (λ (h : Head). h.entry) p.is in
    n p.headed (later p.there) (inl (record {
      other = rule_head r;
      before = p.keeps (rule_head r) (In-push earlier (rule_head r));
      same = sym y.2 ∙ name;
      another = λ same. fresh (let P : ℕ → Type 0 = λ e. In e (map (λ q. q.entry) rs) in subst P (sym (same ∙ entry)) (In-map (λ (q : RuleForm). q.entry) y.1));
    })))
    (cats_once (earlier ++ rule_head r ∷ []) rs (λ h i. n h (later i)) o)

-- related elements that are called the same
same_names : {X Y : Type 0} (R : X → Y → Type 0) (f : X → Name) (g : Y → Name) → ((x : X) (y : Y) → R x y → g y ≡ f x) → {xs : List X} {ys : List Y} → Each R xs ys → map g ys ≡ map f xs
same_names R f g each end = refl
same_names R f g each (and {x} {y} r rest) = let a = each x y r in let b = same_names R f g each rest in λ i. a i ∷ b i

pub one_rule : (d : DraftForm) (p : PlainForm) (g : Grammar) → NoneRepeated d → Once (map (λ r. r.entry) d.rules) → Expands d p → Assembles p g → Once (map (λ r. r.cat) g.rules)
one_rule d p g n o e a =
    let here_too = λ (h : Headed) (i : In h (headed (map rule_head d.rules))). n h (In-append_left (headed (map reading_head d.words)) (In-append_left (headed (map template_head d.templates)) i)) in
    let first = same_names (RuleBecomes d.templates) (λ r. r.cat) (λ r. r.cat) (λ x y h. h.cat) e.rules in
    let second = same_names (LoadsRule a.depth) (λ r. r.cat) (λ r. r.cat) (λ x y h. h.cat) a.rules in
    let P : List Name → Type 0 = λ cats. Once cats in
    subst P (sym (second ∙ first)) (cats_once [] d.rules here_too o)
