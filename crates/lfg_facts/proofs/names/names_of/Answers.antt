use Rattle.std.proofs.Common.{◌≡◌, ◌∙◌, ℕ, ◌+◌, length, sym, subst, ap, arith}
use Rattle.std.proofs.lemmas.List.{length_push}
use Rattle.lfg_context.specs.Sets.{AreMade}
use Rattle.lfg_context.proofs.Growing.{grown_trans, same_picks_trans}
use Rattle.lfg_facts.specs.Naming.{Names, AreNamesAt}
use Rattle.lfg_facts.proofs.Classes.{table_grown}
use Rattle.lfg_facts.proofs.NameLaws.{table_more, table_all, table_made_push}
use Rattle.lfg_facts.proofs.names.names_of.Goals as goal

pub loop-place-preserved : goal.loop-place-preserved
loop-place-preserved c =
    let inv = c.loop-place.invariant in
    let names = c.in_ok-new.field-0 in
    let M : Names → Type 0 = λ ns. AreMade c.names_at.new.contexts (λ n. n.1) ns in
    let A : Names → Type 0 = λ ns. AreNamesAt c.args.closure.now c.loop-place.place ns in
    let P : ℕ → Type 0 = λ p. AreNamesAt c.args.closure.now p names in
    record {
      grown = grown_trans inv.grown c.in_ok-names.ensures.grown;
      picks = same_picks_trans inv.picks c.in_ok-names.ensures.picks;
      made = table_made_push names c.in_ok-push.ensures.items (table_grown c.in_ok-names.ensures.grown inv.made) (subst M (sym c.in_ok-new.ensures) c.in_ok-names.ensures.made);
      place = (let e = ap length c.nodes-place-end.ensures in omega (arith, e));
      len = ap length c.in_ok-push.ensures.items ∙ length_push c.loop-place.table.items names ∙ ap (λ n. n + 1) inv.len;
      called = table_more c.args.closure.now c.loop-place.table.items c.push.new.self.items names c.in_ok-push.ensures.items inv.called
          (subst P (sym inv.len) (subst A (sym c.in_ok-new.ensures) c.in_ok-names.ensures.called));
    }

pub returns-clause-called : goal.returns-clause-called
returns-clause-called c =
    let inv = c.loop-place.invariant in
    let within : length c.args.closure.now.nodes ≡ c.loop-place.place = (let e = ap length c.nodes-place-end.ensures in let p = inv.place in omega (arith, e, p)) in
    table_all c.args.closure.now c.loop-place.table.items c.requires.closure (inv.len ∙ sym within) inv.called
