use Rattle.std.proofs.Common.{◌≡◌, ◌∙◌, ◌<◌, ◌+◌, ℕ, List, length, get_or, ap, sym, subst, refl, arith, All, map}
use Rattle.std.specs.Prelude.{IsTrue}
use Rattle.lfg_context.specs.Tables.{Entry, cubes_at, IsTable, Extends, IsChoice, arity_in}
use Rattle.lfg_context.proofs.TableLaws.{extends_push}
use Rattle.lfg_context.proofs.Making.{one_number, found, made, entry_at}
use Rattle.lfg_context.proofs.diagram.Diagram.make.Goals as goal
use Rattle.lfg_context.proofs.diagram.Diagram.make.Goals.{In_ok-add}

pub returns-then-is_one_number-clause-ok : goal.returns-then-is_one_number-clause-ok
returns-then-is_one_number-clause-ok c =
    let P : List ℕ → Type 0 = λ v. IsTrue c.is_one_number.result → All (λ k. k ≡ get_or v 0 0) v in
    let all = subst P c.as_slice.ensures.value c.is_one_number.ensures.0 c.if-is_one_number.true in
    let here : 0 < length c.args.children.items = (let two = c.requires.children.two in let len = c.requires.children.len in omega arith) in
    let first : c.index.result.now ≡ get_or c.args.children.items 0 0 = c.index.ensures ∙ all 0 c.index.result.now here in
    let Q : ℕ → Type 0 = λ v. IsChoice c.args.self.now.nodes.entries c.args.self.now.nodes.entries (arity_in c.args.arities.now) (length c.args.arities.now) c.args.choice c.args.children.items v in
    subst Q (sym first) (one_number c.args.self.now.nodes.entries _ _ c.args.choice _ c.args.children.items c.requires.children all)

pub overflow_add-result : goal.overflow_add-result
overflow_add-result c = let h = c.in-Some.ensures.found.0 in omega (arith, c.len-number.ensures.small, c.len-number.ensures.len)

pub returns-in-Some-clause-ok : goal.returns-in-Some-clause-ok
returns-in-Some-clause-ok c =
    let f = c.in-Some.ensures.found in
    let e = entry_at c.args.self.now.nodes.entries c.in-Some.place f.0 in
    let g = f.1 e.0 e.1 in
    found c.args.self.now.nodes.entries _ _ c.args.choice c.in-Some.place e.0 c.args.children.items c.requires.table c.requires.children f.0 e.1 g.0 g.1

both : (c : In_ok-add) → IsTable c.add.new.self.nodes.entries (arity_in c.args.arities.now) (length c.args.arities.now)
    × IsChoice c.args.self.now.nodes.entries c.add.new.self.nodes.entries (arity_in c.args.arities.now) (length c.args.arities.now) c.args.choice c.args.children.items (c.len-number.result + 2)
both c =
    let P : List ℕ → Type 0 = λ v. All (λ k. k ≡ get_or v 0 0) v → IsTrue c.is_one_number.result in
    let many = subst P c.as_slice.ensures.value c.is_one_number.ensures.1 in
    made c.args.self.now.nodes.entries c.add.new.self.nodes.entries (arity_in c.args.arities.now) (length c.args.arities.now) c.args.choice (c.len-number.result + 2) _ c.in_ok-sets.sets.items
    c.requires.table c.requires.children (λ all. let t = many all in let n = c.if-is_one_number.false in absurd (cc))
    (c.in_ok-sets.ensures.cubes ∙ ap (map (cubes_at c.args.self.now.nodes.entries)) c.as_slice-2.ensures.value)
    refl (omega (arith, c.len-number.ensures.len)) c.in_ok-ctx.ensures c.in_default.ensures.fresh c.in_ok-add.ensures.added

pub returns-clause-table : goal.returns-clause-table
returns-clause-table c = (both c).0

pub returns-clause-extends : goal.returns-clause-extends
returns-clause-extends c = let P : List Entry → Type 0 = λ v. Extends c.args.self.now.nodes.entries v in subst P (sym c.in_ok-add.ensures.added) (extends_push c.args.self.now.nodes.entries _)

pub returns-clause-ok : goal.returns-clause-ok
returns-clause-ok c = (both c).1
