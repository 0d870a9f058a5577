use Rattle.std.proofs.Common.{◌≡◌, ◌++◌, ◌∷◌, [], List, ap, sym, ◌∙◌, subst, append_assoc, append-nil}
use Rattle.std.proofs.lemmas.Result.{err_from_is_err_and}
use Rattle.lfg_grammar.specs.declared.rules.Half.{Half}
use Rattle.lfg_grammar.proofs.HalfLaws.{AreDone, done_none, done_more, done_fails, nothing_left}
use Rattle.lfg_grammar.proofs.rules.with_graphs.Goals as goal

pub loop-half-init : goal.loop-half-init
loop-half-init c = record { done = done_none c.new-rules.ensures.items; rest = c.into_iter-half-iterator.ensures.into_iter_gives.0 }

pub returns-in_err-with_graph-clause-fault : goal.returns-in_err-with_graph-clause-fault
returns-in_err-with_graph-clause-fault c = λ depth rs x.
    let p = err_from_is_err_and c.from_residual.result c.from_residual.ensures.1 in
    let split : c.loop-half.yielded ++ (c.in-Some.half ∷ c.next.new.self.rest.items) ≡ c.args.halves.items = ap (λ (us : List Half). c.loop-half.yielded ++ us) (sym c.in-Some.ensures.steps.0) ∙ c.loop-half.invariant.rest in
    rw (p.1, p.2) (done_fails c.next.new.self.rest.items c.in_err-with_graph.field-0.0 c.loop-half.invariant.done split c.in_err-with_graph.ensures.fault depth rs x)

pub loop-half-preserved : goal.loop-half-preserved
loop-half-preserved c = record {
  done = done_more c.in_ok-with_graph.field-0 c.loop-half.invariant.done c.in_ok-push.ensures.items c.in_ok-with_graph.ensures.rule;
  rest = append_assoc c.loop-half.yielded (c.in-Some.half ∷ []) c.next.new.self.rest.items ∙ ap (λ (us : List Half). c.loop-half.yielded ++ us) (sym c.in-Some.ensures.steps.0) ∙ c.loop-half.invariant.rest;
}

pub returns-clause-rules : goal.returns-clause-rules
returns-clause-rules c =
    let none = nothing_left c.loop-half.half-iterator.rest.items (sym c.loop-half.half-iterator.rest.ok.0 ∙ c.in-None.ensures.steps.0) in
    let all : c.loop-half.yielded ≡ c.args.halves.items = sym (append-nil c.loop-half.yielded) ∙ ap (λ (us : List Half). c.loop-half.yielded ++ us) (sym none) ∙ c.loop-half.invariant.rest in
    λ depth rs x. let d = c.loop-half.invariant.done in (d.each depth rs (rw all x)).loaded
