use Rattle.std.proofs.Common.{◌≡◌, ◌++◌, List, subst, sym, ◌∙◌, ap}
use Rattle.std.specs.List.Sorted.{IsPermutation, IsSorted, IsBinarySearchResult}
use Rattle.lfg_terms.specs.Order.{name_cmp}
use Rattle.lfg_terms.specs.declared.grammar.Rule.{Rule}
use Rattle.lfg_model.specs.Lists.{In}
use Rattle.lfg_model.specs.Loads.{HasWords}
use Rattle.lfg_model.specs.Terms.{Name}
use Rattle.lfg_grammar.specs.Categories.{word_cats}
use Rattle.lfg_grammar.specs.Found.{IsFirstAt}
use Rattle.lfg_grammar.proofs.FirstPlaces.{first_at, none_more}
use Rattle.lfg_grammar.proofs.WordCategories.{found_word, no_word}
use Rattle.lfg_grammar.proofs.both.first_both.Goals as goal

pub returns-then-is_ok : goal.returns-then-is_ok
returns-then-is_ok c =
    let is : c.push_words.new.cats.items ≡ word_cats c.args.grammar.now.lexicon =
    c.in_ok-push_words.ensures ∙ ap (λ (us : List Name). us ++ word_cats c.list.result.now) c.new-cats.ensures.items ∙ ap word_cats c.list.ensures in
    let p : IsPermutation c.push_words.new.cats.items c.deref.result.now = subst (λ (ys : List Name). IsPermutation c.push_words.new.cats.items ys) (sym c.deref.ensures.value) c.in_ok-sort.ensures.permutation in
    let pos : IsBinarySearchResult (λ (y : Name). name_cmp y c.index-rules-i.result.cat) c.deref.result.now c.binary_search.result =
    subst (λ (r : Rule). IsBinarySearchResult (λ (y : Name). name_cmp y r.cat) c.deref.result.now c.binary_search.result) (sym c.index-rules-i.is) c.binary_search.ensures.position in
    let has : HasWords c.args.grammar.now c.index-rules-i.result =
    subst (λ (us : List Name). In c.index-rules-i.result.cat us) is
    (found_word c.push_words.new.cats.items c.deref.result.now c.index-rules-i.result.cat c.binary_search.result p c.binary_search.ensures.bound pos (sym c.is_ok.ensures.value ∙ c.if-is_ok.true)) in
    subst (λ (rs : List Rule). IsFirstAt (HasWords c.args.grammar.now) rs c.loop-i.i) c.list-rules.ensures
    (first_at (HasWords c.args.grammar.now) c.list-rules.result.now c.loop-i.i c.index-rules-i.result c.loop-i-test.true c.index-rules-i.is c.loop-i.invariant has)

pub loop-i-preserved : goal.loop-i-preserved
loop-i-preserved c =
    let is : c.push_words.new.cats.items ≡ word_cats c.args.grammar.now.lexicon =
    c.in_ok-push_words.ensures ∙ ap (λ (us : List Name). us ++ word_cats c.list.result.now) c.new-cats.ensures.items ∙ ap word_cats c.list.ensures in
    let p : IsPermutation c.push_words.new.cats.items c.deref.result.now = subst (λ (ys : List Name). IsPermutation c.push_words.new.cats.items ys) (sym c.deref.ensures.value) c.in_ok-sort.ensures.permutation in
    let s : IsSorted name_cmp c.deref.result.now = subst (λ (ys : List Name). IsSorted name_cmp ys) (sym c.deref.ensures.value) c.in_ok-sort.ensures.sorted in
    let pos : IsBinarySearchResult (λ (y : Name). name_cmp y c.index-rules-i.result.cat) c.deref.result.now c.binary_search.result =
    subst (λ (r : Rule). IsBinarySearchResult (λ (y : Name). name_cmp y r.cat) c.deref.result.now c.binary_search.result) (sym c.index-rules-i.is) c.binary_search.ensures.position in
    none_more (HasWords c.args.grammar.now) c.list-rules.result.now c.loop-i.i c.index-rules-i.result c.loop-i-test.true c.index-rules-i.is c.loop-i.invariant
    (λ h. no_word c.push_words.new.cats.items c.deref.result.now c.index-rules-i.result.cat c.binary_search.result p s pos (sym c.is_ok.ensures.value ∙ c.if-is_ok.false)
    (subst (λ (us : List Name). In c.index-rules-i.result.cat us) (sym is) h))
