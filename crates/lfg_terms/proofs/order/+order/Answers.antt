use Rattle.std.proofs.Common.{rules, ◌≡◌, ℕ, ◌≤◌, ap, sym, ◌∙◌, arith, true, false}
use Rattle.std.proofs.lemmas.Grind.{common_steps}
use Rattle.lfg_terms.specs.Order.{node_depth, arg_cmp}
use Rattle.lfg_terms.proofs.Layers.{node_cmp-deeper, node_cmp-shallower, node_cmp-At, node_cmp-New}
use Rattle.std.specs.declared.cmp.Ordering.{Ordering}
use Rattle.std.specs.declared.cmp.Ordering.TheVariants.{Less, Equal, Greater}
use Rattle.std.specs.Ordering.{ordering_then, is_eq}
use Rattle.std.specs.Cmp.Lexicographic.{slice_cmp}
use Rattle.std.proofs.Common.{refl, zero, suc, min, length, drop, List, [], ◌∷◌}
use Rattle.std.specs.Ordering.{nat_cmp}
use Rattle.lfg_terms.specs.declared.node.Arg.{Arg}
use Rattle.lfg_terms.specs.declared.node.Node.TheVariants as node
use Rattle.lfg_terms.proofs.order.+order.Goals as goal

then_rest : (o p : Ordering) → is_eq o ≡ true → ordering_then o p ≡ p
then_rest Less p h = cc
then_rest Equal p h = refl
then_rest Greater p h = cc

then_first : (o p : Ordering) → is_eq o ≡ false → ordering_then o p ≡ o
then_first Less p h = refl
then_first Equal p h = cc
then_first Greater p h = refl

pub compare_nodes-returns-then-is_deeper : goal.compare_nodes-returns-then-is_deeper
compare_nodes-returns-then-is_deeper t c = sym (node_cmp-deeper c.args.a.now c.args.b.now (search rules))

pub compare_nodes-returns-then-is_deeper-2 : goal.compare_nodes-returns-then-is_deeper-2
compare_nodes-returns-then-is_deeper-2 t c = sym (node_cmp-shallower c.args.a.now c.args.b.now (search rules))

pub compare_nodes-returns-in-At-b : goal.compare_nodes-returns-in-At-b
compare_nodes-returns-in-At-b t c =
    let e = node_cmp-At c.in-At.edge c.in-At-b.other_edge c.in-At.path c.in-At-b.other_path in cc

pub compare_nodes-returns-then-is_eq : goal.compare_nodes-returns-then-is_eq
compare_nodes-returns-then-is_eq t c =
    let a = c.args.a.now in
    let b = c.args.b.now in
    let d : node_depth a ≡ node_depth b = grind (arith, common_steps) in
    let f : node_depth (node.New c.in-New.rule c.in-New.var c.in-New.binding) ≡ node_depth (node.New c.in-New-b-2.other_rule c.in-New-b-2.other_var c.in-New-b-2.other_binding) = ap node_depth (sym c.in-New.is) ∙ d ∙ ap node_depth c.in-New-b-2.is in
    let e = node_cmp-New c.in-New.rule c.in-New-b-2.other_rule c.in-New.var c.in-New-b-2.other_var c.in-New.binding c.in-New-b-2.other_binding f in
    let g = then_rest c.then-first.result c.compare_lists.result (sym c.is_eq.ensures ∙ c.if-is_eq.true) in
    cc

pub compare_nodes-returns-else-is_eq : goal.compare_nodes-returns-else-is_eq
compare_nodes-returns-else-is_eq t c =
    let a = c.args.a.now in
    let b = c.args.b.now in
    let d : node_depth a ≡ node_depth b = grind (arith, common_steps) in
    let f : node_depth (node.New c.in-New.rule c.in-New.var c.in-New.binding) ≡ node_depth (node.New c.in-New-b-2.other_rule c.in-New-b-2.other_var c.in-New-b-2.other_binding) = ap node_depth (sym c.in-New.is) ∙ d ∙ ap node_depth c.in-New-b-2.is in
    let e = node_cmp-New c.in-New.rule c.in-New-b-2.other_rule c.in-New.var c.in-New-b-2.other_var c.in-New.binding c.in-New-b-2.other_binding f in
    let g = then_first c.then-first.result (slice_cmp arg_cmp c.in-New.binding c.in-New-b-2.other_binding) (sym c.is_eq.ensures ∙ c.if-is_eq.false) in
    cc

nat_cmp-suc : (m n : ℕ) → nat_cmp (suc m) (suc n) ≡ nat_cmp m n
nat_cmp-suc m n = grind arith

ends : (i : ℕ) (xs ys : List Arg) → i ≤ length xs → i ≤ length ys → min (length xs) (length ys) ≤ i →
    nat_cmp (length xs) (length ys) ≡ slice_cmp arg_cmp (drop i xs) (drop i ys)
ends zero [] [] p q r = refl
ends zero [] (y ∷ ys) p q r = grind arith
ends zero (x ∷ xs) [] p q r = grind arith
ends zero (x ∷ xs) (y ∷ ys) p q r = let no : ⊥ = omega arith in absurd no
ends (suc i) [] ys p q r = let no : ⊥ = omega arith in absurd no
ends (suc i) (x ∷ xs) [] p q r = let no : ⊥ = omega arith in absurd no
ends (suc i) (x ∷ xs) (y ∷ ys) p q r = nat_cmp-suc (length xs) (length ys) ∙ ends i xs ys (omega arith) (omega arith) (omega arith)

pub compare_lists-returns : goal.compare_lists-returns
compare_lists-returns t c =
    let e = ends c.loop-i.i c.args.xs.now c.args.ys.now (omega arith) (omega arith) (omega arith) in cc
