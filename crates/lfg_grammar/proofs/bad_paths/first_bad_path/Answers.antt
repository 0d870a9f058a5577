use Rattle.std.proofs.Common.{◌≡◌, Option, MatchOption, List, ◌++◌, [], ◌∷◌, map, take, subst, sym, refl, ◌∙◌, ap, arith}
use Rattle.std.proofs.lemmas.List.{take_all}
use Rattle.lfg_model.specs.DraftForms.{plain_form}
use Rattle.lfg_model.specs.Loads.{PathAt, IsBadPath, draft_paths}
use Rattle.lfg_regpath.specs.declared.fault.PathFault.{PathFault}
use Rattle.lfg_grammar.specs.declared.bad_paths.BadPath.{BadPath}
use Rattle.lfg_grammar.specs.BadPaths.{FailsSo, FoundBadPath, written_at}
use Rattle.lfg_grammar.proofs.FirstBad.{good_behind, one_more}
use Rattle.lfg_grammar.proofs.bad_paths.first_bad_path.Goals.{in-Some, in_default}
use Rattle.lfg_grammar.proofs.bad_paths.first_bad_path.Goals as goal

pub loop-written-preserved : goal.loop-written-preserved
loop-written-preserved c =
    let ws = c.deref-written-items.result.now in
    let x = written_at c.written-item.result in
    let xs = map written_at (take c.loop-written.written-index ws) in
    let more = one_more ws c.loop-written.written-index c.written-item.result c.loop-written-test.true c.written-item.is in
    subst (λ (ps : List PathAt). FoundBadPath c.args.depth ps c.match-branch-3.first) (sym more)
    (elim c.match-branch-3.branch [
      | in-Some w ↦
          let so : FailsSo c.args.depth x w.in-Some.fault =
          subst (λ (o : Option PathFault). MatchOption o (IsBadPath c.args.depth x → ⊥) (FailsSo c.args.depth x)) w.in-Some.is c.in_ok-fault.ensures in
          subst (λ (o : Option BadPath). FoundBadPath c.args.depth (xs ++ x ∷ []) o) (sym w.first-is) (w.earlier.ensures c.args.depth xs x c.loop-written.invariant refl so)
      | in_default w ↦
          let not : IsBadPath c.args.depth x → ⊥ =
          subst (λ (o : Option PathFault). MatchOption o (IsBadPath c.args.depth x → ⊥) (FailsSo c.args.depth x)) w.in_default.is c.in_ok-fault.ensures in
          subst (λ (o : Option BadPath). FoundBadPath c.args.depth (xs ++ x ∷ []) o) (sym w.first-is) (good_behind c.args.depth xs x c.loop-written.first c.loop-written.invariant not)
    ])

pub returns : goal.returns
returns c =
    let all : map written_at (take c.loop-written.written-index c.deref-written-items.result.now) ≡ draft_paths (plain_form c.args.plain.now) =
    ap (map written_at) (take_all c.loop-written.written-index c.deref-written-items.result.now (omega arith) ∙ c.deref-written-items.ensures.value) ∙ c.in_ok-paths.ensures in
    subst (λ (ps : List PathAt). FoundBadPath c.args.depth ps c.loop-written.first) all c.loop-written.invariant
