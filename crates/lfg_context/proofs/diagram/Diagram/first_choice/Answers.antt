use Rattle.std.proofs.Common.{◌≡◌, inl, inr, min, length, sym, subst, ℕ, arith}
use Rattle.lfg_context.specs.Tables.{arity_in}
use Rattle.lfg_context.specs.Ops.{TestsAt}
use Rattle.lfg_context.proofs.Combining.{tests_first}
use Rattle.lfg_context.proofs.diagram.Diagram.first_choice.Goals as goal

pub returns : goal.returns
returns c =
    let some = tests_first c.args.self.now.nodes.entries _ _ c.top-left_top.result c.top-right_top.result c.args.left c.args.right c.requires.table c.requires.room c.requires.left_in c.requires.right_in c.top-left_top.ensures c.top-right_top.ensures c.requires.some in
    let e : c.min.result ≡ min c.top-left_top.result c.top-right_top.result = omega arith in
    record {
      s = c.top-left_top.result;
      t = c.top-right_top.result;
      i_top = c.top-left_top.ensures;
      j_top = c.top-right_top.ensures;
      first = e;
      tests = elim some [
        | inl at ↦ inl (let P : ℕ → Type 0 = λ v. TestsAt c.args.self.now.nodes.entries (arity_in c.args.arities.now) (length c.args.arities.now) v c.args.left in subst P (sym e) at)
        | inr at ↦ inr (let P : ℕ → Type 0 = λ v. TestsAt c.args.self.now.nodes.entries (arity_in c.args.arities.now) (length c.args.arities.now) v c.args.right in subst P (sym e) at)
      ];
      within = elim some [ inl at ↦ (let b = at.within in omega arith) | inr at ↦ (let b = at.within in omega arith) ];
    }
