use Rattle.std.proofs.Common.{◌+◌, ◌<◌, ℕ, List, length, ap, sym, subst, arith}
use Rattle.lfg_context.specs.Cubes.{set_at}
use Rattle.lfg_context.specs.Seen.{Known}
use Rattle.lfg_context.specs.Sets.{member, IsFirstChoice, IsSetOf}
use Rattle.lfg_context.specs.Tables.{arity_in, IsChild}
use Rattle.lfg_context.proofs.Combining.{top_unique}
use Rattle.lfg_context.proofs.Depending.{one_first}
use Rattle.lfg_context.proofs.SeenLaws.{made_in, arity_is}
use Rattle.lfg_context.proofs.FirstLaws.{constant_in, first_in, child_in, tests_seen}
use Rattle.lfg_context.proofs.contexts.Contexts.child.Goals.{After-top-choice, In_ok-ctx}
use Rattle.lfg_context.proofs.contexts.Contexts.child.Goals as goal

pub returns-then-number-lt2 : goal.returns-then-number-lt2
returns-then-number-lt2 c = let x = made_in c.args.self.now c.self.inside.diagram.nodes.entries c.self.inside.arities.items c.args.a.now c.self.view_is c.requires.made in absurd (c.requires.some (constant_in c.self.inside.diagram.nodes.entries c.args.a.now x.1 (omega (arith, c.number-number.ensures))))

pub top-choice-requires : goal.top-choice-requires
top-choice-requires c = let x = made_in c.args.self.now c.self.inside.diagram.nodes.entries c.self.inside.arities.items c.args.a.now c.self.view_is c.requires.made in omega (arith, x.0, c.number-number.ensures)

pub child-child-requires-clause-within : goal.child-child-requires-clause-within
child-child-requires-clause-within c = let x = made_in c.args.self.now c.self.inside.diagram.nodes.entries c.self.inside.arities.items c.args.a.now c.self.view_is c.requires.made in omega (arith, x.0, c.number-number.ensures)

pub child-child-requires-clause-choice_in : goal.child-child-requires-clause-choice_in
child-child-requires-clause-choice_in c =
    let x = made_in c.args.self.now c.self.inside.diagram.nodes.entries c.self.inside.arities.items c.args.a.now c.self.view_is c.requires.made in
    let at = tests_seen c.self.inside.diagram.nodes.entries (arity_in c.self.inside.arities.items) (length c.self.inside.arities.items) c.top-choice.result c.number-number.result c.args.a.now c.self.invariant.0 c.number-number.ensures (omega arith) x.0 c.top-choice.ensures in
    let b = at.within in
    omega (arith, b, ap length c.as_slice-arities.ensures.value)

less : (c : After-top-choice) → c.args.alt < arity_in c.self.inside.arities.items c.top-choice.result
less c =
    let x = made_in c.args.self.now c.self.inside.diagram.nodes.entries c.self.inside.arities.items c.args.a.now c.self.view_is c.requires.made in
    let at = tests_seen c.self.inside.diagram.nodes.entries (arity_in c.self.inside.arities.items) (length c.self.inside.arities.items) c.top-choice.result c.number-number.result c.args.a.now c.self.invariant.0 c.number-number.ensures (omega arith) x.0 c.top-choice.ensures in
    let P : ℕ → Type 0 = λ v. c.args.alt < v in
    subst P (arity_is c.args.self.now c.self.inside.diagram.nodes.entries c.self.inside.arities.items c.top-choice.result c.self.view_is) (c.requires.alternative_in c.top-choice.result (first_in c.self.inside.diagram.nodes.entries _ _ c.top-choice.result c.args.a.now x.1 at))

pub child-child-requires-clause-alternative : goal.child-child-requires-clause-alternative
child-child-requires-clause-alternative c =
    let P : List ℕ → Type 0 = λ v. c.args.alt < arity_in v c.top-choice.result in
    subst P (sym c.as_slice-arities.ensures.value) (less c)

pub child-child-requires-clause-first : goal.child-child-requires-clause-first
child-child-requires-clause-first c = λ t top.
    let x = made_in c.args.self.now c.self.inside.diagram.nodes.entries c.self.inside.arities.items c.args.a.now c.self.view_is c.requires.made in
    let h : c.number-number.result < length c.self.inside.diagram.nodes.entries + 2 = omega (arith, x.0, c.number-number.ensures) in
    let e = top_unique c.self.inside.diagram.nodes.entries c.number-number.result c.top-choice.result t h c.top-choice.ensures top in
    omega arith

set_of_child : (c : In_ok-ctx) → (k : ℕ) → IsFirstChoice c.args.a.now k → IsSetOf c.args.self.now c.in_ok-ctx.ctx (λ b. member c.args.a.now (set_at b k c.args.alt))
set_of_child c = λ k first.
    let x = made_in c.args.self.now c.self.inside.diagram.nodes.entries c.self.inside.arities.items c.args.a.now c.self.view_is c.requires.made in
    let at = tests_seen c.self.inside.diagram.nodes.entries (arity_in c.self.inside.arities.items) (length c.self.inside.arities.items) c.top-choice.result c.number-number.result c.args.a.now c.self.invariant.0 c.number-number.ensures (omega arith) x.0 c.top-choice.ensures in
    let eq = one_first first (first_in c.self.inside.diagram.nodes.entries _ _ c.top-choice.result c.args.a.now x.1 at) in
    let P : Known → Type 0 = λ v. IsSetOf v c.in_ok-ctx.ctx (λ a. member c.args.a.now (set_at a k c.args.alt)) in
    let Q : List ℕ → Type 0 = λ v. IsChild c.self.inside.diagram.nodes.entries (arity_in v) (length v) c.top-choice.result c.args.alt c.top-choice.result c.number-number.result c.child-child.result in
    let R : ℕ → Type 0 = λ v. IsChild c.self.inside.diagram.nodes.entries (arity_in c.self.inside.arities.items) (length c.self.inside.arities.items) c.top-choice.result c.args.alt c.top-choice.result v c.child-child.result in
    let S : ℕ → Type 0 = λ v. c.args.alt < v in
    let child = subst R c.number-number.ensures (subst Q c.as_slice-arities.ensures.value (c.child-child.ensures c.top-choice.result c.top-choice.ensures)) in
    subst P c.self.view_is (child_in c.self.inside.diagram.nodes.entries c.self.inside.arities.items c.top-choice.result c.args.alt c.child-child.result k c.args.a.now c.in_ok-ctx.ctx c.self.invariant.0 x.1 at.within (subst S (arity_is c.args.self.now c.self.inside.diagram.nodes.entries c.self.inside.arities.items c.top-choice.result c.self.view_is) (c.requires.alternative_in c.top-choice.result (first_in c.self.inside.diagram.nodes.entries _ _ c.top-choice.result c.args.a.now x.1 at))) child eq c.in_ok-ctx.ensures)

pub returns-clause-made : goal.returns-clause-made
returns-clause-made c =
    let x = made_in c.args.self.now c.self.inside.diagram.nodes.entries c.self.inside.arities.items c.args.a.now c.self.view_is c.requires.made in
    let at = tests_seen c.self.inside.diagram.nodes.entries (arity_in c.self.inside.arities.items) (length c.self.inside.arities.items) c.top-choice.result c.number-number.result c.args.a.now c.self.invariant.0 c.number-number.ensures (omega arith) x.0 c.top-choice.ensures in
    (set_of_child c c.top-choice.result (first_in c.self.inside.diagram.nodes.entries _ _ c.top-choice.result c.args.a.now x.1 at)).made

pub returns-clause-members : goal.returns-clause-members
returns-clause-members c = λ k first. (set_of_child c k first).members
