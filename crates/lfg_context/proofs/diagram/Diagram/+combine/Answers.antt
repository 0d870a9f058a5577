use Rattle.std.proofs.Common.{◌∙◌, ◌∷◌, [], ℕ, List, length, ap, sym, subst, arith}
use Rattle.std.proofs.lemmas.List.{length-append}
use Rattle.lfg_context.specs.Tables.{Entry, Extends, arity_in}
use Rattle.lfg_context.specs.Ops.{AreCombined, IsCombined}
use Rattle.lfg_context.proofs.TableLaws.{extends_trans}
use Rattle.lfg_context.proofs.Combining.{top_kept, first_le_i, first_le_j, children_smaller, one_combined, are_children, combined}
use Rattle.lfg_context.proofs.Results.{combined_trivial, combined_of_result, result_of_combined, results_kept}
use Rattle.lfg_context.proofs.diagram.Diagram.+combine.Goals as goal

pub returns-in-Some-clause-ok : goal.returns-in-Some-clause-ok
returns-in-Some-clause-ok t c = combined_trivial c.args.self.now.nodes.entries _ _ c.args.op c.args.left c.args.right c.in-Some.number c.requires.left_in c.requires.right_in c.in-Some.ensures.some

pub returns-in-Some-remembered-clause-ok : goal.returns-in-Some-remembered-clause-ok
returns-in-Some-remembered-clause-ok t c = combined_of_result c.args.self.now.nodes.entries _ _ (record { op = c.args.op; left = c.args.left; right = c.args.right }) c.in-Some-remembered.number c.requires.table c.in-Some-remembered.ensures

pub child-x-requires-clause-first : goal.child-x-requires-clause-first
child-x-requires-clause-first t c = λ s top.
    first_le_i c.args.self.now.nodes.entries c.loop-alternative.self.nodes.entries _ _ c.args.left c.args.right c.first_choice-choice.result c.first_choice-choice.ensures c.loop-alternative.invariant.extends
    c.requires.left_in s top

pub child-y-requires-clause-first : goal.child-y-requires-clause-first
child-y-requires-clause-first t c = λ s top.
    first_le_j c.args.self.now.nodes.entries c.loop-alternative.self.nodes.entries _ _ c.args.left c.args.right c.first_choice-choice.result c.first_choice-choice.ensures c.loop-alternative.invariant.extends
    c.requires.right_in s top

pub combine-requires : goal.combine-requires
combine-requires t c =
    let first = c.first_choice-choice.ensures in
    let kx = c.child-x.ensures first.s (top_kept c.args.self.now.nodes.entries c.loop-alternative.self.nodes.entries c.args.left first.s c.loop-alternative.invariant.extends c.requires.left_in first.i_top) in
    let ky = c.child-y.ensures first.t (top_kept c.args.self.now.nodes.entries c.loop-alternative.self.nodes.entries c.args.right first.t c.loop-alternative.invariant.extends c.requires.right_in first.j_top) in
    let less = children_smaller c.args.self.now.nodes.entries c.loop-alternative.self.nodes.entries _ _ c.first_choice-choice.result c.loop-alternative.alternative first.s first.t c.args.left c.args.right c.child-x.result c.child-y.result first.first kx ky in
    (omega arith, (c.loop-alternative.invariant.table, (c.loop-alternative.invariant.results, (c.requires.room, (kx.number, ky.number)))))

pub returns-in_err-combine-clause-extends : goal.returns-in_err-combine-clause-extends
returns-in_err-combine-clause-extends t c = extends_trans c.loop-alternative.invariant.extends c.combine.ensures.extends

pub returns-in_err-push-clause-extends : goal.returns-in_err-push-clause-extends
returns-in_err-push-clause-extends t c = extends_trans c.loop-alternative.invariant.extends c.combine.ensures.extends

pub loop-alternative-preserved : goal.loop-alternative-preserved
loop-alternative-preserved t c =
    let first = c.first_choice-choice.ensures in
    let kx = c.child-x.ensures first.s (top_kept c.args.self.now.nodes.entries c.loop-alternative.self.nodes.entries c.args.left first.s c.loop-alternative.invariant.extends c.requires.left_in first.i_top) in
    let ky = c.child-y.ensures first.t (top_kept c.args.self.now.nodes.entries c.loop-alternative.self.nodes.entries c.args.right first.t c.loop-alternative.invariant.extends c.requires.right_in first.j_top) in
    let P : List ℕ → Type 0 = λ v. AreCombined c.args.self.now.nodes.entries c.combine.new.self.nodes.entries (arity_in c.args.arities.now) (length c.args.arities.now) c.first_choice-choice.result c.args.op c.args.left c.args.right v in
    record {
      table = c.combine.ensures.table;
      results = c.combine.ensures.results;
      extends = extends_trans c.loop-alternative.invariant.extends c.combine.ensures.extends;
      children = subst P (sym c.in_ok-push.ensures.items) (one_combined c.args.self.now.nodes.entries c.loop-alternative.self.nodes.entries c.combine.new.self.nodes.entries _ _ c.first_choice-choice.result first.s first.t c.args.op c.args.left c.args.right
          c.child-x.result c.child-y.result c.in_ok-combine.field-0 c.loop-alternative.alternative c.loop-alternative.children.items c.loop-alternative.invariant.len c.loop-alternative.invariant.extends c.in_ok-combine.ensures.extends c.requires.left_in c.requires.right_in first.within
          kx ky c.in_ok-combine.ensures.ok c.loop-alternative.invariant.children);
      len = ap length c.in_ok-push.ensures.items ∙ omega (arith, length-append c.loop-alternative.children.items (c.in_ok-combine.field-0 ∷ []), c.loop-alternative.invariant.len);
    }

pub make-requires-clause-children : goal.make-requires-clause-children
make-requires-clause-children t c =
    let first = c.first_choice-choice.ensures in
    are_children c.args.self.now.nodes.entries c.loop-alternative.self.nodes.entries _ _ c.first_choice-choice.result c.args.op c.args.left c.args.right c.loop-alternative.children.items first.tests (omega arith) c.loop-alternative.invariant.children

pub returns-in_err-number-clause-extends : goal.returns-in_err-number-clause-extends
returns-in_err-number-clause-extends t c = extends_trans c.loop-alternative.invariant.extends c.make.ensures.extends

pub returns-in_err-number-clause-results : goal.returns-in_err-number-clause-results
returns-in_err-number-clause-results t c = results_kept c.make.ensures.extends (ap (λ v. v.entries) c.make.ensures.results) c.loop-alternative.invariant.results

pub remember-requires-clause-results : goal.remember-requires-clause-results
remember-requires-clause-results t c = results_kept c.make.ensures.extends (ap (λ v. v.entries) c.make.ensures.results) c.loop-alternative.invariant.results

pub remember-requires-clause-right : goal.remember-requires-clause-right
remember-requires-clause-right t c =
    let first = c.first_choice-choice.ensures in
    result_of_combined c.args.self.now.nodes.entries c.make.new.self.nodes.entries (arity_in c.args.arities.now) (length c.args.arities.now) (record { op = c.args.op; left = c.args.left; right = c.args.right }) c.in_ok-number.number
    (extends_trans c.loop-alternative.invariant.extends c.make.ensures.extends) c.requires.left_in c.requires.right_in (combined c.args.self.now.nodes.entries c.loop-alternative.self.nodes.entries c.make.new.self.nodes.entries _ _ c.first_choice-choice.result c.args.op c.args.left c.args.right c.in_ok-number.number c.loop-alternative.children.items first.tests (omega arith)
    c.loop-alternative.invariant.children c.in_ok-number.ensures.ok)

pub returns-in_err-remember-clause-extends : goal.returns-in_err-remember-clause-extends
returns-in_err-remember-clause-extends t c =
    let P : List Entry → Type 0 = λ v. Extends c.args.self.now.nodes.entries v in
    subst P (sym (ap (λ v. v.entries) c.remember.ensures.nodes)) (extends_trans c.loop-alternative.invariant.extends c.make.ensures.extends)

pub returns-clause-extends : goal.returns-clause-extends
returns-clause-extends t c =
    let P : List Entry → Type 0 = λ v. Extends c.args.self.now.nodes.entries v in
    subst P (sym (ap (λ v. v.entries) c.remember.ensures.nodes)) (extends_trans c.loop-alternative.invariant.extends c.make.ensures.extends)

pub returns-clause-ok : goal.returns-clause-ok
returns-clause-ok t c =
    let first = c.first_choice-choice.ensures in
    let P : List Entry → Type 0 = λ v. IsCombined c.args.self.now.nodes.entries v (arity_in c.args.arities.now) (length c.args.arities.now) c.args.op c.args.left c.args.right c.in_ok-number.number in
    subst P (sym (ap (λ v. v.entries) c.remember.ensures.nodes)) (combined c.args.self.now.nodes.entries c.loop-alternative.self.nodes.entries c.make.new.self.nodes.entries _ _ c.first_choice-choice.result c.args.op c.args.left c.args.right c.in_ok-number.number c.loop-alternative.children.items first.tests (omega arith)
    c.loop-alternative.invariant.children c.in_ok-number.ensures.ok)
