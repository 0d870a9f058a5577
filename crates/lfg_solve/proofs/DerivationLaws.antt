-- What is written of a word, of a part and of an inner node.
use Rattle.std.proofs.Common.{◌≡◌, ℕ, ◌+◌, ◌-◌, ◌^◌, ◌<◌, ◌≤◌, min, Option, None, List, [], ◌∷◌, ◌++◌, length, get_or, drop, sym, ap, ◌∙◌, subst, append_assoc, arith}
use Rattle.std.proofs.lemmas.List.{append-nil, drop_more, at_drop_all}
use Rattle.std.specs.Prelude.{slice_get}
use Rattle.lfg_terms.specs.declared.node.Edge.{Edge}
use Rattle.lfg_terms.specs.declared.node.Fact.{Fact}
use Rattle.lfg_terms.specs.declared.literal.Site.TheVariants as site
use Rattle.lfg_terms.specs.declared.literal.Literal.{Literal}
use Rattle.lfg_terms.specs.declared.grammar.Item.{Item}
use Rattle.lfg_terms.specs.declared.grammar.Grammar.{Grammar}
use Rattle.lfg_terms.specs.declared.tree.Part.{Part}
use Rattle.lfg_terms.specs.declared.tree.TokenForms.{TokenForms}
use Rattle.lfg_model.specs.Terms.{Name, Annotation, Tree, inner, Parts, no_part}
use Rattle.lfg_model.specs.Places.{form_count}
use Rattle.lfg_model.specs.Resolve.{resolved}
use Rattle.lfg_model.specs.Derive.{edge, rule_of, item_at}
use Rattle.lfg_model.specs.Trees.{width, parts_width, items_of, item_annotation, entry_annotation, literals, parts_literals, tree_facts, parts_facts, word_facts}
use Rattle.lfg_solve.specs.Annotations.{item_literals, word_literals}
use Rattle.lfg_solve.specs.Fits.{ItemsFit, FormsFit}
use Rattle.lfg_solve.specs.Views.{parts_from}
use Rattle.lfg_solve.proofs.PartLaws.{width_one}
use Rattle.lfg_solve.proofs.FitLaws.{rule_fits, item_fits, entry_fits}

pub word_written : (g : Grammar) (own copy : Edge) (entry : ℕ) (picks : List ℕ) (a : Annotation) (old new : List Literal)
    → copy ≡ own → a ≡ entry_annotation (slice_get g.lexicon entry)
    → (0 + form_count a < 2 ^ 32 → new ≡ old ++ resolved (record { up = own; down = own; site = site.Entry copy entry }) a picks 0)
    → FormsFit g → new ≡ old ++ word_literals g own entry picks
word_written g own copy entry picks a old new e f written fits =
    let few : form_count (entry_annotation (slice_get g.lexicon entry)) < 2 ^ 32 = entry_fits g entry fits in
    let fit : 0 + form_count a < 2 ^ 32 = rw f (omega arith) in
    written fit ∙ (λ i. old ++ resolved (record { up = own; down = own; site = site.Entry (e i) entry }) (f i) picks 0)

pub item_written : (items : List Item) (mother copy down : Edge) (occ : ℕ) (given picks : List ℕ) (at to : ℕ) (a : Annotation) (old new : List Literal)
    → copy ≡ mother → a ≡ item_annotation (item_at items occ) → given ≡ picks
    → (0 + form_count a < 2 ^ 32 → new ≡ old ++ resolved (record { up = mother; down = down; site = site.Item copy occ at to }) a given 0)
    → ItemsFit items → new ≡ old ++ item_literals items mother down occ picks at to
item_written items mother copy down occ given picks at to a old new e f p written fits =
    let few : form_count (item_annotation (item_at items occ)) < 2 ^ 32 = item_fits items occ fits in
    let fit : 0 + form_count a < 2 ^ 32 = rw f (omega arith) in
    written fit ∙ (λ i. old ++ resolved (record { up = mother; down = down; site = site.Item (e i) occ at to }) (f i) (p i) 0)

-- the edge of an inner node
inner_edge : (cat : Name) (parts : Parts) (from count to : ℕ) (mother : Edge)
    → mother ≡ edge cat from to → count ≡ min (parts_width parts) (2 ^ 32 - 1) → to ≡ min (from + count) (2 ^ 32 - 1)
    → from + parts_width parts < 2 ^ 32 → mother ≡ edge cat from (from + parts_width parts)
inner_edge cat parts from count to mother e f h fits =
    let same : to ≡ from + parts_width parts = omega arith in
    e ∙ ap (edge cat from) same

pub inner_literals : (g : Grammar) (d : Tree) (cat : Name) (parts : Parts) (from count to : ℕ) (mother : Edge) (items : List Item) (old new : List Literal)
    → d ≡ inner cat parts → mother ≡ edge cat from to → count ≡ min (parts_width parts) (2 ^ 32 - 1) → to ≡ min (from + count) (2 ^ 32 - 1)
    → items ≡ items_of (rule_of g cat)
    → (FormsFit g → ItemsFit items → mother.from + parts_width parts < 2 ^ 32 → new ≡ old ++ parts_literals g items mother parts mother.from)
    → FormsFit g → from + width d < 2 ^ 32 → new ≡ old ++ literals g d from
inner_literals g d cat parts from count to mother items old new t e f h s written forms fits =
    let few : from + parts_width parts < 2 ^ 32 = subst (λ (x : Tree). from + width x < 2 ^ 32) t fits in
    let own = inner_edge cat parts from count to mother e f h few in
    let start : from ≡ mother.from = sym (ap (λ x. x.from) own) in
    let here : mother.from + parts_width parts < 2 ^ 32 = omega arith in
    let same : parts_literals g items mother parts mother.from ≡ literals g (inner cat parts) from =
    (λ i. parts_literals g (s i) (own i) parts ((own i).from)) in
    written forms (rw s (rule_fits g cat forms)) here ∙ ap (λ xs. old ++ xs) same ∙ ap (λ x. old ++ literals g x from) (sym t)

pub inner_facts : (s : List TokenForms) (d : Tree) (cat : Name) (parts : Parts) (from count to : ℕ) (mother : Edge) (old new : List Fact)
    → d ≡ inner cat parts → mother ≡ edge cat from to → count ≡ min (parts_width parts) (2 ^ 32 - 1) → to ≡ min (from + count) (2 ^ 32 - 1)
    → (mother.from + parts_width parts < 2 ^ 32 → new ≡ old ++ parts_facts s mother parts mother.from)
    → from + width d < 2 ^ 32 → new ≡ old ++ tree_facts s d from
inner_facts s d cat parts from count to mother old new t e f h written fits =
    let few : from + parts_width parts < 2 ^ 32 = subst (λ (x : Tree). from + width x < 2 ^ 32) t fits in
    let own = inner_edge cat parts from count to mother e f h few in
    let start : from ≡ mother.from = sym (ap (λ x. x.from) own) in
    let here : mother.from + parts_width parts < 2 ^ 32 = omega arith in
    let same : parts_facts s mother parts mother.from ≡ tree_facts s (inner cat parts) from = (λ i. parts_facts s (own i) parts ((own i).from)) in
    written here ∙ ap (λ xs. old ++ xs) same ∙ ap (λ x. old ++ tree_facts s x from) (sym t)

-- one turn of a loop over parts, where F gives what is written of them
pub parts_turn : {X : Type 0} (F : Parts → ℕ → List X)
    → ((part : Part) (rest : List Part) (at : ℕ) → F (parts_from (part ∷ rest)) at ≡ F (parts_from (part ∷ [])) at ++ F (parts_from rest) (at + parts_width (parts_from (part ∷ []))))
    → (parts : List Part) (i : ℕ) (part : Part) (start at next : ℕ) (old now new : List X)
    → i < length parts → part ≡ get_or parts i part → start + parts_width (parts_from parts) < 2 ^ 32
    → (at + parts_width (parts_from (drop i parts)) ≡ start + parts_width (parts_from parts)) × (now ++ F (parts_from (drop i parts)) at ≡ old ++ F (parts_from parts) start)
    → (at + parts_width (parts_from (part ∷ [])) < 2 ^ 32 → (next ≡ at + parts_width (parts_from (part ∷ []))) × (new ≡ now ++ F (parts_from (part ∷ [])) at))
    → (next + parts_width (parts_from (drop (i + 1) parts)) ≡ start + parts_width (parts_from parts)) × (new ++ F (parts_from (drop (i + 1) parts)) next ≡ old ++ F (parts_from parts) start)
parts_turn F one parts i part start at next old now new l e fits kept done =
    let rest : List Part = drop (i + 1) parts in
    let split : drop i parts ≡ part ∷ rest = drop_more parts i part l ∙ ap (λ x. x ∷ rest) (sym e) in
    let wide : parts_width (parts_from (drop i parts)) ≡ parts_width (parts_from (part ∷ [])) + parts_width (parts_from rest) =
    ap (λ xs. parts_width (parts_from xs)) split ∙ width_one part rest in
    let d = done (omega (arith, kept.0, wide)) in
    let first = F (parts_from (part ∷ [])) at in
    let behind = ap (λ n. F (parts_from rest) n) d.0 in (
      omega (arith, kept.0, wide, d.0),
      (λ i. d.1 i ++ behind i) ∙ append_assoc now first (F (parts_from rest) (at + parts_width (parts_from (part ∷ []))))
          ∙ ap (λ xs. now ++ xs) (sym (one part rest at)) ∙ ap (λ xs. now ++ F (parts_from xs) at) (sym split) ∙ kept.1,
    )

-- and its end
pub parts_end : {X : Type 0} (F : Parts → ℕ → List X) → ((at : ℕ) → F no_part at ≡ []) → (parts : List Part) (i at : ℕ) (now whole : List X)
    → length parts ≤ i → now ++ F (parts_from (drop i parts)) at ≡ whole → now ≡ whole
parts_end F nothing parts i at now whole l e =
    sym (append-nil now) ∙ ap (λ xs. now ++ xs) (sym (nothing at)) ∙ ap (λ x. now ++ F x at) (sym (at_drop_all parts_from parts i l)) ∙ e

-- a word without a token has no fact
pub no_word : (o : Option TokenForms) (own : Edge) (old : List Fact) → o ≡ None → old ≡ old ++ word_facts o own
no_word o own old e = sym (append-nil old) ∙ ap (λ x. old ++ word_facts x own) (sym e)
