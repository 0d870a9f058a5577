use Rattle.std.proofs.Common.{arith, ◌++◌, map, ap, sym, ◌∙◌, List}
use Rattle.std.proofs.lemmas.List.{map-append}
use Rattle.lfg_terms.specs.declared.grammar.Schema.TheVariants as written
use Rattle.lfg_model.specs.Terms.{Name}
use Rattle.lfg_model.specs.RightSides.{draft_schema_of, draft_annotation_of}
use Rattle.lfg_model.specs.TemplateRules.{CallAt, call_at, schema_calls, calls}
use Rattle.lfg_templates.specs.Views.{called_of}
use Rattle.lfg_templates.proofs.Gathering.{gathered, calls_flat, either_flat, call_alone}
use Rattle.lfg_templates.proofs.calls.+calls.Goals as goal

pub push_calls-returns : goal.push_calls-returns
push_calls-returns t c = gathered (λ s. map (call_at c.args.entry) (schema_calls (draft_schema_of s))) c.args.schemata.now c.loop-schema.schema-index (map called_of c.args.out.now.items) (map called_of c.loop-schema.out.items) _ (omega arith) (calls_flat c.args.entry c.args.schemata.now) c.loop-schema.invariant

pub push_schema_calls-returns-after-loop-branch : goal.push_schema_calls-returns-after-loop-branch
push_schema_calls-returns-after-loop-branch t c =
    gathered (λ b. map (call_at c.args.entry) (calls (draft_annotation_of b.items))) c.deref-branch-items.result.now c.loop-branch.branch-index (map called_of c.args.out.now.items) (map called_of c.loop-branch.out.items) _ (omega arith)
    (either_flat c.args.entry c.args.schema.now c.in-Either.branches c.deref-branch-items.result.now c.in-Either.is c.deref-branch-items.ensures.value) c.loop-branch.invariant

pub push_schema_calls-returns-in_ok-push-in-Call : goal.push_schema_calls-returns-in_ok-push-in-Call
push_schema_calls-returns-in_ok-push-in-Call t c =
    ap (map called_of) c.in_ok-push-in-Call.ensures.items ∙ map-append called_of c.args.out.now.items _
    ∙ ap (λ (xs : List CallAt). map called_of c.args.out.now.items ++ xs) (sym (call_alone c.args.entry c.args.schema.now c.in-Call.name _ (c.in-Call.is ∙ ap (λ (xs : List Name). written.Call c.in-Call.name xs) (sym c.list.ensures))))
