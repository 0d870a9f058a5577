use Rattle.std.proofs.Common.{All, ◌≡◌, ◌<◌, ◌∷◌, ℕ, List, suc, length, take, ◌≤◌, sym, subst, arith, get_or}
use Rattle.lfg_terms.specs.FactTexts.{IsListedArg, IsPlacedArg}
use Rattle.std.proofs.lemmas.List.{take_all}
use Rattle.std.proofs.lemmas.List.Elements.{All-cons, All-more}
use Rattle.std.proofs.lemmas.Grind.{common_steps}
use Rattle.lfg_terms.proofs.TextSteps.{args_text-written}
use Rattle.lfg_terms.proofs.fact_texts.push_args.Goals as goal

-- what holds of each element of a list that begins with x holds of each element of the rest
behind : {X : Type 0} (P : X → Type 0) (all xs : List X) (x : X) → all ≡ x ∷ xs →
    ((k : ℕ) (d : X) → k < length all → P (get_or all k d)) → (i : ℕ) (d : X) → i < length xs → P (get_or xs i d)
behind P all xs x e h i d l =
    let h' = subst (λ ys. (k : ℕ) (d : _) → k < length ys → P (get_or ys k d)) e h in
    h' (suc i) d (omega arith)

-- what holds of each of the first k elements holds of each, where there are no more
all_taken : {X : Type 0} (P : X → Type 0) (k : ℕ) (xs : List X) → length xs ≤ k → All P (take k xs) → All P xs
all_taken P k xs l h = subst (All P) (take_all k xs l) h

pub push_other_arg-requires : goal.push_other_arg-requires
push_other_arg-requires c =
    let h = behind (IsListedArg c.args.table.now) c.args.args.now c.in-Some.others.now c.in-Some.first.now c.in-Some.ensures.cases.0 c.requires c.loop-arg.arg-index c.arg-item.result c.loop-arg-test.true in
    subst (IsListedArg c.args.table.now) (sym c.arg-item.is) h

pub loop-arg-preserved : goal.loop-arg-preserved
loop-arg-preserved c = record {
  written = grind (arith, common_steps);
  placed = All-more IsPlacedArg c.in-Some.others.now c.loop-arg.arg-index c.arg-item.result c.loop-arg-test.true c.loop-arg.invariant.placed (subst IsPlacedArg c.arg-item.is c.in_ok-push_other_arg.ensures.placed);
  kept = grind (arith, common_steps);
}

pub returns-after-loop-arg-clause-ok : goal.returns-after-loop-arg-clause-ok
returns-after-loop-arg-clause-ok c =
    args_text-written c.args.table.now c.args.text.now.items c.push_arg.new.text.items c.loop-arg.text.items c.args.args.now c.in-Some.first.now c.in-Some.others.now c.loop-arg.arg-index
    c.in-Some.ensures.cases.0 c.in_ok-push_arg.ensures.ok c.loop-arg.invariant.written c.loop-arg-test.false

pub returns-after-loop-arg-clause-placed : goal.returns-after-loop-arg-clause-placed
returns-after-loop-arg-clause-placed c =
    let rest : All IsPlacedArg c.in-Some.others.now = all_taken IsPlacedArg c.loop-arg.arg-index c.in-Some.others.now c.loop-arg-test.false c.loop-arg.invariant.placed in
    let whole : All IsPlacedArg (c.in-Some.first.now ∷ c.in-Some.others.now) = All-cons IsPlacedArg c.in-Some.first.now c.in-Some.others.now c.in_ok-push_arg.ensures.placed rest in
    subst (All IsPlacedArg) (sym c.in-Some.ensures.cases.0) whole
