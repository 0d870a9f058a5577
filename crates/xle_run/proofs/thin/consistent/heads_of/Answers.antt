use Rattle.std.proofs.Common.{◌≡◌, ◌<◌, ◌∙◌, ℕ, List, map, length, get_or, is_some, ap, sym, subst, rules, true, false}
use Rattle.std.specs.BTreeMap.{get}
use Rattle.lfg_terms.specs.Order.{name_cmp}
use Rattle.lfg_model.specs.Terms.{Name}
use Rattle.lfg_model.specs.Thin.{empty_item}
use Rattle.lfg_model.specs.ThinText.{same}
use Rattle.xle_run.specs.declared.thin.draft.Phrase.{Phrase}
use Rattle.xle_run.proofs.HeadSteps.{length-map', read_map, own_more, places_more, unplaced_head, empty_head, second_head, none_own, none_placed}
use Rattle.xle_run.proofs.thin.consistent.heads_of.Goals as goal

abbrev cat_of : Phrase → Name
cat_of p = p.cat

in_cats : (ps : List Phrase) (i : ℕ) → i < length ps → i < length (map cat_of ps)
in_cats ps i l = subst (λ (n : ℕ). i < n) (sym (length-map' cat_of ps)) l

pub loop-i-init : goal.loop-i-init
loop-i-init c = record { own = none_own (map cat_of c.args.phrases.now); places = λ q. (let e : get name_cmp c.new-heads.result q ≡ _ = search rules in e) ∙ none_placed (map cat_of c.args.phrases.now) q }

pub returns-then-is_empty_item-clause-refused : goal.returns-then-is_empty_item-clause-refused
returns-then-is_empty_item-clause-refused c =
    let p = c.index-phrases-i.result in
    empty_head (map cat_of c.args.phrases.now) c.loop-i.i p.cat (in_cats c.args.phrases.now c.loop-i.i c.loop-i-test.true) (read_map cat_of c.args.phrases.now c.loop-i.i p c.loop-i-test.true c.index-phrases-i.is)
    (let e : true ≡ same (get_or c.args.phrases.now c.loop-i.i p).cat empty_item = c.if-is_empty_item.ensures in e ∙ ap (λ (q : Phrase). same q.cat empty_item) (sym c.index-phrases-i.is))

pub loop-i-preserved : goal.loop-i-preserved
loop-i-preserved c =
    let p = c.index-phrases-i.result in
    let h : c.in_ok-head.head ≡ p.cat = (let e : c.in_ok-head.head ≡ (get_or c.args.phrases.now c.loop-i.i p).cat = c.in_ok-head.ensures.cases in e ∙ ap cat_of (sym c.index-phrases-i.is)) in
    let t : false ≡ same p.cat empty_item = (let e : false ≡ same (get_or c.args.phrases.now c.loop-i.i p).cat empty_item = c.if-is_empty_item.ensures in e ∙ ap (λ (q : Phrase). same q.cat empty_item) (sym c.index-phrases-i.is)) in
    let s : is_some c.in_ok-other.other ≡ false = sym c.if-is_some.ensures in
    let l = in_cats c.args.phrases.now c.loop-i.i c.loop-i-test.true in
    let e = read_map cat_of c.args.phrases.now c.loop-i.i p c.loop-i-test.true c.index-phrases-i.is in
    record {
      own = own_more (map cat_of c.args.phrases.now) c.loop-i.i p.cat l e c.loop-i.invariant.own t
          (unplaced_head (map cat_of c.args.phrases.now) c.loop-i.i p.cat l e (get name_cmp c.loop-i.heads) c.in_ok-other.other c.in_ok-head.head h c.loop-i.invariant.places c.in_ok-other.ensures.old s);
      places = places_more (map cat_of c.args.phrases.now) c.loop-i.i p.cat l e (get name_cmp c.loop-i.heads) (get name_cmp c.insert.new.self) c.in_ok-other.other c.in_ok-head.head h c.loop-i.invariant.places c.in_ok-other.ensures.old s
          c.in_ok-other.ensures.updates.0;
    }

pub returns-then-is_some-clause-refused : goal.returns-then-is_some-clause-refused
returns-then-is_some-clause-refused c =
    let p = c.index-phrases-i.result in
    let h : c.in_ok-head.head ≡ p.cat = (let e : c.in_ok-head.head ≡ (get_or c.args.phrases.now c.loop-i.i p).cat = c.in_ok-head.ensures.cases in e ∙ ap cat_of (sym c.index-phrases-i.is)) in
    let s : is_some c.in_ok-other.other ≡ true = sym c.if-is_some.ensures in
    λ own. second_head (map cat_of c.args.phrases.now) c.loop-i.i p.cat (in_cats c.args.phrases.now c.loop-i.i c.loop-i-test.true) (read_map cat_of c.args.phrases.now c.loop-i.i p c.loop-i-test.true c.index-phrases-i.is)
    (get name_cmp c.loop-i.heads) c.in_ok-other.other c.in_ok-head.head h c.loop-i.invariant.places c.in_ok-other.ensures.old s own.once
