use Rattle.std.proofs.Common.{◌≡◌, ◌+◌, ◌-◌, ◌^◌, ◌∷◌, [], List, min, length, drop, refl, sym, ap, ◌∙◌, rules, arith}
use Rattle.std.proofs.lemmas.List.{at_drop_all}
use Rattle.std.proofs.lemmas.Option.{slice_get_read}
use Rattle.std.proofs.lemmas.Result.{on_ok_weaker}
use Rattle.lfg_terms.specs.declared.grammar.Schema as declared
use Rattle.lfg_terms.specs.declared.grammar.Schema.TheViews.{the_lemmas}
use Rattle.lfg_terms.specs.declared.literal.Literal.TheVariants as literal
use Rattle.lfg_model.specs.Places.{places, schema_places, form_count}
use Rattle.lfg_model.specs.Resolve.{schema_literals}
use Rattle.lfg_model.specs.Terms.{Paths, annotation_of, schema_of, branches_from, or_branch}
use Rattle.lfg_model.proofs.SchemaViews.{either_schema, maybe_schema}
use Rattle.lfg_context.proofs.Growing.{are_made_grown, made_grown, grown_refl, grown_trans, same_picks_refl, same_picks_trans, set_made_at}
use Rattle.lfg_instant.specs.Annotations.{instance_of}
use Rattle.lfg_packed.specs.Sizes.{schema_size}
use Rattle.lfg_instant.proofs.AppendLaws.{appends_one, drop_next}
use Rattle.lfg_instant.proofs.BranchLaws.{alternative_there}
use Rattle.lfg_instant.proofs.MadeLaws.{picks_made_grown, picks_made_before, picks_made_behind, picks_made_first, picks_made_others}
use Rattle.lfg_instant.proofs.WalkLaws.{schemata_step, schemata_first, schemata_given, branches_start, branches_first, branches_step, branches_given, branches_counted, option_places, option_two, option_given}
use Rattle.lfg_instant.proofs.annotation.Instance.+instances.Goals as goal

pub push_instances-push_schema-requires : goal.push_instances-push_schema-requires
push_instances-push_schema-requires t c = (
  search (rules, the_lemmas),
  (
    schemata_first (instance_of c.args.self.now) (annotation_of c.args.schemata.now) c.args.index c.args.picks.now c.args.ctx.now c.args.literals.now.items
        (annotation_of (drop c.loop-schema.schema-index c.args.schemata.now)) c.loop-schema.rest.now c.loop-schema.next c.loop-schema.literals.items (schema_of c.schema-item.result) (annotation_of (drop (c.loop-schema.schema-index + 1) c.args.schemata.now)) c.cut.result.0.now c.loop-schema.invariant.way
        (ap annotation_of (drop_next c.args.schemata.now c.loop-schema.schema-index c.schema-item.result c.loop-schema-test.true c.schema-item.is)) (c.cut.ensures.own (length (schema_places (schema_of c.schema-item.result))) c.schema_places.ensures),
    (
      c.loop-schema.invariant.made,
      (
        c.loop-schema.invariant.ctx_made,
        picks_made_before (length (schema_places (schema_of c.schema-item.result))) c.loop-schema.rest.now c.cut.result.0.now (c.cut.ensures.own (length (schema_places (schema_of c.schema-item.result))) c.schema_places.ensures) c.loop-schema.invariant.rest_made,
      ),
    ),
  ),
)

pub push_instances-loop-schema-preserved : goal.push_instances-loop-schema-preserved
push_instances-loop-schema-preserved t c =
    let added = c.saturating_add-next.ensures in
    let forms = c.schema_forms.ensures in
    record {
      way = schemata_step (instance_of c.args.self.now) (annotation_of c.args.schemata.now) c.args.index c.args.picks.now c.args.ctx.now c.args.literals.now.items
          (annotation_of (drop c.loop-schema.schema-index c.args.schemata.now)) c.loop-schema.rest.now c.loop-schema.next c.loop-schema.literals.items (schema_of c.schema-item.result) (annotation_of (drop (c.loop-schema.schema-index + 1) c.args.schemata.now)) c.cut.result.0.now c.cut.result.1.now c.saturating_add-next.result c.push_schema.new.literals.items
          c.loop-schema.invariant.way (ap annotation_of (drop_next c.args.schemata.now c.loop-schema.schema-index c.schema-item.result c.loop-schema-test.true c.schema-item.is)) (c.cut.ensures.own (length (schema_places (schema_of c.schema-item.result))) c.schema_places.ensures) (c.cut.ensures.others (length (schema_places (schema_of c.schema-item.result))) c.schema_places.ensures) (omega (arith, added, forms)) c.in_ok-push_schema.ensures.count c.in_ok-push_schema.ensures.each;
      made = c.push_schema.ensures.made;
      ctx_made = made_grown c.push_schema.ensures.grown c.loop-schema.invariant.ctx_made;
      rest_made = picks_made_grown c.push_schema.ensures.grown (picks_made_behind (length (schema_places (schema_of c.schema-item.result))) c.loop-schema.rest.now c.cut.result.1.now (c.cut.ensures.others (length (schema_places (schema_of c.schema-item.result))) c.schema_places.ensures) c.loop-schema.invariant.rest_made);
      grown = grown_trans c.loop-schema.invariant.grown c.push_schema.ensures.grown;
      same_picks = same_picks_trans c.loop-schema.invariant.same_picks c.push_schema.ensures.same_picks;
    }

pub push_instances-returns-clause-each : goal.push_instances-returns-clause-each
push_instances-returns-clause-each t c = λ h. schemata_given (instance_of c.args.self.now) (annotation_of c.args.schemata.now) c.args.index c.args.picks.now c.args.ctx.now c.args.literals.now.items
    (annotation_of (drop c.loop-schema.schema-index c.args.schemata.now)) c.loop-schema.rest.now c.loop-schema.next c.loop-schema.literals.items c.loop-schema.invariant.way (at_drop_all annotation_of c.args.schemata.now c.loop-schema.schema-index (omega arith)) h

pub push_schema-loop-number-init : goal.push_schema-loop-number-init
push_schema-loop-number-init t c = record {
  way = branches_start (instance_of c.args.self.now) (schema_of c.args.schema.now) (branches_from c.deref-branch-items.result.now) c.args.index c.in-Some.alternatives.now c.args.picks.now c.in-Some.others.now c.args.ctx.now c.args.literals.now.items
      (either_schema c.args.schema.now c.in-Either.branches c.deref-branch-items.result.now c.in-Either.is c.deref-branch-items.ensures.value) c.in-Some.ensures c.requires.places;
  made = c.requires.literals_made;
  ctx_made = c.requires.ctx_made;
  alternatives_made = picks_made_first c.args.picks.now c.in-Some.others.now c.in-Some.alternatives.now c.in-Some.ensures c.requires.picks_made;
  rest_made = picks_made_others c.args.picks.now c.in-Some.others.now c.in-Some.alternatives.now c.in-Some.ensures c.requires.picks_made;
  grown = grown_refl _;
  same_picks = same_picks_refl _;
}

pub push_schema-and-requires-clause-b_made : goal.push_schema-and-requires-clause-b_made
push_schema-and-requires-clause-b_made t c = set_made_at c.loop-number.number c.index-alternatives-number.result c.loop-number.invariant.alternatives_made
    (alternative_there c.deref-branch-items.result.now c.in-Some.alternatives.now c.loop-number.number c.loop-number.invariant.way.few c.loop-number-test.true) c.index-alternatives-number.is

pub push_schema-push_instances-requires : goal.push_schema-push_instances-requires
push_schema-push_instances-requires t c = (
  search (rules, the_lemmas),
  (
    branches_first (instance_of c.args.self.now) (branches_from c.deref-branch-items.result.now) c.args.index c.in-Some.alternatives.now c.in-Some.others.now c.args.ctx.now c.args.literals.now.items
        (branches_from (drop c.loop-number.number c.deref-branch-items.result.now)) (drop c.loop-number.number c.in-Some.alternatives.now) c.loop-number.rest.now c.loop-number.next c.loop-number.literals.items (annotation_of c.deref-in-loop-number.result.now) (branches_from (drop (c.loop-number.number + 1) c.deref-branch-items.result.now)) c.cut.result.0.now c.loop-number.invariant.way
        (ap branches_from (drop_next c.deref-branch-items.result.now c.loop-number.number c.branch-item.result c.loop-number-test.true c.branch-item.is) ∙ ap (λ (xs : List (declared.Schema Paths)). or_branch (annotation_of xs) (branches_from (drop (c.loop-number.number + 1) c.deref-branch-items.result.now))) (sym c.deref-in-loop-number.ensures.value))
        (c.cut.ensures.own (length (places (annotation_of c.deref-in-loop-number.result.now))) (c.places.ensures ∙ ap (λ (xs : List (declared.Schema Paths)). min (length (places (annotation_of xs))) (2 ^ 64 - 1)) (c.deref.ensures.value ∙ sym c.deref-in-loop-number.ensures.value))),
    (
      are_made_grown c.and.ensures.grown c.loop-number.invariant.made,
      (
        c.in_ok-met-in-Either.ensures.ok.made,
        picks_made_grown c.and.ensures.grown (picks_made_before (length (places (annotation_of c.deref-in-loop-number.result.now))) c.loop-number.rest.now c.cut.result.0.now
            (c.cut.ensures.own (length (places (annotation_of c.deref-in-loop-number.result.now))) (c.places.ensures ∙ ap (λ (xs : List (declared.Schema Paths)). min (length (places (annotation_of xs))) (2 ^ 64 - 1)) (c.deref.ensures.value ∙ sym c.deref-in-loop-number.ensures.value))) c.loop-number.invariant.rest_made),
      ),
    ),
  ),
)

pub push_schema-loop-number-preserved : goal.push_schema-loop-number-preserved
push_schema-loop-number-preserved t c =
    let added = c.saturating_add-next.ensures in
    let forms = c.forms.ensures ∙ ap (λ (xs : List (declared.Schema Paths)). min (form_count (annotation_of xs)) (2 ^ 32 - 1)) (c.deref-in-loop-number-2.ensures.value ∙ sym c.deref-in-loop-number.ensures.value) in
    record {
      way = branches_step (instance_of c.args.self.now) (branches_from c.deref-branch-items.result.now) c.args.index c.in-Some.alternatives.now c.in-Some.others.now c.args.ctx.now c.args.literals.now.items
          (branches_from (drop c.loop-number.number c.deref-branch-items.result.now)) (drop c.loop-number.number c.in-Some.alternatives.now) c.loop-number.rest.now c.loop-number.next c.loop-number.literals.items (annotation_of c.deref-in-loop-number.result.now) (branches_from (drop (c.loop-number.number + 1) c.deref-branch-items.result.now)) c.index-alternatives-number.result (drop (c.loop-number.number + 1) c.in-Some.alternatives.now) c.cut.result.0.now c.cut.result.1.now c.in_ok-met-in-Either.met c.saturating_add-next.result c.push_instances.new.literals.items
          c.loop-number.invariant.way
          (ap branches_from (drop_next c.deref-branch-items.result.now c.loop-number.number c.branch-item.result c.loop-number-test.true c.branch-item.is) ∙ ap (λ (xs : List (declared.Schema Paths)). or_branch (annotation_of xs) (branches_from (drop (c.loop-number.number + 1) c.deref-branch-items.result.now))) (sym c.deref-in-loop-number.ensures.value))
          (drop_next c.in-Some.alternatives.now c.loop-number.number c.index-alternatives-number.result (alternative_there c.deref-branch-items.result.now c.in-Some.alternatives.now c.loop-number.number c.loop-number.invariant.way.few c.loop-number-test.true) c.index-alternatives-number.is)
          (c.cut.ensures.own (length (places (annotation_of c.deref-in-loop-number.result.now))) (c.places.ensures ∙ ap (λ (xs : List (declared.Schema Paths)). min (length (places (annotation_of xs))) (2 ^ 64 - 1)) (c.deref.ensures.value ∙ sym c.deref-in-loop-number.ensures.value)))
          (c.cut.ensures.others (length (places (annotation_of c.deref-in-loop-number.result.now))) (c.places.ensures ∙ ap (λ (xs : List (declared.Schema Paths)). min (length (places (annotation_of xs))) (2 ^ 64 - 1)) (c.deref.ensures.value ∙ sym c.deref-in-loop-number.ensures.value)))
          c.in_ok-met-in-Either.ensures.ok.members (omega (arith, added, forms)) c.in_ok-push_instances-in-Either.ensures.count c.in_ok-push_instances-in-Either.ensures.each;
      made = c.push_instances.ensures.made;
      ctx_made = made_grown c.push_instances.ensures.grown (made_grown c.and.ensures.grown c.loop-number.invariant.ctx_made);
      alternatives_made = are_made_grown c.push_instances.ensures.grown (are_made_grown c.and.ensures.grown c.loop-number.invariant.alternatives_made);
      rest_made = picks_made_grown c.push_instances.ensures.grown (picks_made_grown c.and.ensures.grown (picks_made_behind (length (places (annotation_of c.deref-in-loop-number.result.now))) c.loop-number.rest.now c.cut.result.1.now
          (c.cut.ensures.others (length (places (annotation_of c.deref-in-loop-number.result.now))) (c.places.ensures ∙ ap (λ (xs : List (declared.Schema Paths)). min (length (places (annotation_of xs))) (2 ^ 64 - 1)) (c.deref.ensures.value ∙ sym c.deref-in-loop-number.ensures.value))) c.loop-number.invariant.rest_made));
      grown = grown_trans c.loop-number.invariant.grown (grown_trans c.and.ensures.grown c.push_instances.ensures.grown);
      same_picks = same_picks_trans c.loop-number.invariant.same_picks (same_picks_trans c.and.ensures.picks c.push_instances.ensures.same_picks);
    }

pub push_schema-and-requires-in-Maybe-clause-b_made : goal.push_schema-and-requires-in-Maybe-clause-b_made
push_schema-and-requires-in-Maybe-clause-b_made t c =
    let two = option_two c.args.schema.now c.in-Maybe.inside c.in-Some-first_place.alternatives.now c.args.picks.now c.in-Some-first_place.others.now c.in-Maybe.is c.in-Some-first_place.ensures c.requires.places in
    set_made_at 0 c.index-alternatives-0.result (picks_made_first c.args.picks.now c.in-Some-first_place.others.now c.in-Some-first_place.alternatives.now c.in-Some-first_place.ensures c.requires.picks_made) (omega (arith, two)) c.index-alternatives-0.is

pub push_schema-push_instances-requires-in-Maybe : goal.push_schema-push_instances-requires-in-Maybe
push_schema-push_instances-requires-in-Maybe t c =
    let kept = (option_places (schema_of c.args.schema.now) (annotation_of c.deref-in-Maybe.result.now) c.in-Some-first_place.alternatives.now c.args.picks.now c.in-Some-first_place.others.now (maybe_schema c.args.schema.now c.in-Maybe.inside c.deref-in-Maybe.result.now c.in-Maybe.is c.deref-in-Maybe.ensures.value) c.in-Some-first_place.ensures c.requires.places) in (
      search (rules, the_lemmas),
      (
        kept.0,
        (
          are_made_grown c.and-in-Maybe.ensures.grown c.requires.literals_made,
          (
            c.in_ok-met-in-Maybe.ensures.ok.made,
            picks_made_grown c.and-in-Maybe.ensures.grown (picks_made_others c.args.picks.now c.in-Some-first_place.others.now c.in-Some-first_place.alternatives.now c.in-Some-first_place.ensures c.requires.picks_made),
          ),
        ),
      ),
    )

pub push_schema-returns-in_ok-comparison-in-Constrain-clause-each : goal.push_schema-returns-in_ok-comparison-in-Constrain-clause-each
push_schema-returns-in_ok-comparison-in-Constrain-clause-each t c = on_ok_weaker c.push_literal.result
    (λ pushed h. appends_one (schema_places (schema_of c.args.schema.now)) (λ ps. schema_literals (instance_of c.args.self.now) (schema_of c.args.schema.now) ps c.args.index) c.args.picks.now c.args.ctx.now
    c.args.literals.now.items c.push_literal.new.literals.items c.in_ok-comparison-in-Constrain.field-0
    (λ ps. c.in_ok-comparison-in-Constrain.ensures ∙ ap (λ s. schema_literals (instance_of c.args.self.now) s ps c.args.index) (sym (ap schema_of c.in-Constrain.is))) pushed)
    c.push_literal.ensures.pushed

pub push_schema-returns-in_ok-existence-in-Exists-clause-each : goal.push_schema-returns-in_ok-existence-in-Exists-clause-each
push_schema-returns-in_ok-existence-in-Exists-clause-each t c = on_ok_weaker c.push_literal-in-Exists.result
    (λ pushed h. appends_one (schema_places (schema_of c.args.schema.now)) (λ ps. schema_literals (instance_of c.args.self.now) (schema_of c.args.schema.now) ps c.args.index) c.args.picks.now c.args.ctx.now
    c.args.literals.now.items c.push_literal-in-Exists.new.literals.items c.in_ok-existence-in-Exists.field-0
    (λ ps. c.in_ok-existence-in-Exists.ensures ∙ ap (λ s. schema_literals (instance_of c.args.self.now) s ps c.args.index) (sym (ap schema_of c.in-Exists.is))) pushed)
    c.push_literal-in-Exists.ensures.pushed

pub push_schema-returns-in_ok-clone-in-Mark-clause-each : goal.push_schema-returns-in_ok-clone-in-Mark-clause-each
push_schema-returns-in_ok-clone-in-Mark-clause-each t c =
    let same : c.in_ok-clone-in-Mark.field-0 ≡ c.in-Mark.name = search rules in
    on_ok_weaker c.push_literal-in-Mark.result
    (λ pushed h. appends_one (schema_places (schema_of c.args.schema.now)) (λ ps. schema_literals (instance_of c.args.self.now) (schema_of c.args.schema.now) ps c.args.index) c.args.picks.now c.args.ctx.now
    c.args.literals.now.items c.push_literal-in-Mark.new.literals.items (literal.Mark c.in_ok-clone-in-Mark.field-0)
    (λ ps. ap (λ n. literal.Mark n ∷ []) same ∙ ap (λ s. schema_literals (instance_of c.args.self.now) s ps c.args.index) (sym (ap schema_of c.in-Mark.is))) pushed)
    c.push_literal-in-Mark.ensures.pushed

pub push_schema-returns-after-loop-number-clause-each : goal.push_schema-returns-after-loop-number-clause-each
push_schema-returns-after-loop-number-clause-each t c = λ h. branches_given (instance_of c.args.self.now) (schema_of c.args.schema.now) (branches_from c.deref-branch-items.result.now) c.args.index c.in-Some.alternatives.now c.args.picks.now c.in-Some.others.now c.args.ctx.now c.args.literals.now.items
    (branches_from (drop c.loop-number.number c.deref-branch-items.result.now)) (drop c.loop-number.number c.in-Some.alternatives.now) c.loop-number.rest.now c.loop-number.next c.loop-number.literals.items (either_schema c.args.schema.now c.in-Either.branches c.deref-branch-items.result.now c.in-Either.is c.deref-branch-items.ensures.value) c.in-Some.ensures c.loop-number.invariant.way
    (at_drop_all branches_from c.deref-branch-items.result.now c.loop-number.number (omega arith)) h

pub push_schema-returns-after-loop-number-clause-count : goal.push_schema-returns-after-loop-number-clause-count
push_schema-returns-after-loop-number-clause-count t c = branches_counted (instance_of c.args.self.now) (schema_of c.args.schema.now) (branches_from c.deref-branch-items.result.now) c.args.index c.in-Some.alternatives.now c.in-Some.others.now c.args.ctx.now c.args.literals.now.items
    (branches_from (drop c.loop-number.number c.deref-branch-items.result.now)) (drop c.loop-number.number c.in-Some.alternatives.now) c.loop-number.rest.now c.loop-number.next c.loop-number.literals.items (either_schema c.args.schema.now c.in-Either.branches c.deref-branch-items.result.now c.in-Either.is c.deref-branch-items.ensures.value) c.loop-number.invariant.way
    (at_drop_all branches_from c.deref-branch-items.result.now c.loop-number.number (omega arith))

pub push_schema-returns-in_ok-met-in-Maybe-clause-each : goal.push_schema-returns-in_ok-met-in-Maybe-clause-each
push_schema-returns-in_ok-met-in-Maybe-clause-each t c =
    let kept = (option_places (schema_of c.args.schema.now) (annotation_of c.deref-in-Maybe.result.now) c.in-Some-first_place.alternatives.now c.args.picks.now c.in-Some-first_place.others.now (maybe_schema c.args.schema.now c.in-Maybe.inside c.deref-in-Maybe.result.now c.in-Maybe.is c.deref-in-Maybe.ensures.value) c.in-Some-first_place.ensures c.requires.places) in
    let two = kept.1 in
    on_ok_weaker c.push_instances-in-Maybe.result
    (option_given (instance_of c.args.self.now) (schema_of c.args.schema.now) (annotation_of c.deref-in-Maybe.result.now) c.args.index c.in-Some-first_place.alternatives.now c.args.picks.now c.in-Some-first_place.others.now c.args.ctx.now c.args.literals.now.items
    c.index-alternatives-0.result c.in_ok-met-in-Maybe.met c.push_instances-in-Maybe.new.literals.items (maybe_schema c.args.schema.now c.in-Maybe.inside c.deref-in-Maybe.result.now c.in-Maybe.is c.deref-in-Maybe.ensures.value) c.in-Some-first_place.ensures
    (slice_get_read c.in-Some-first_place.alternatives.now _ 0 c.index-alternatives-0.result refl (omega (arith, two)) c.index-alternatives-0.is) c.in_ok-met-in-Maybe.ensures.ok.members)
    c.push_instances-in-Maybe.ensures.each

pub push_schema-returns-in_ok-met-in-Maybe-clause-count : goal.push_schema-returns-in_ok-met-in-Maybe-clause-count
push_schema-returns-in_ok-met-in-Maybe-clause-count t c = on_ok_weaker c.push_instances-in-Maybe.result
    (λ e. e ∙ ap (λ n. length c.args.literals.now.items + n) (sym (ap schema_size (maybe_schema c.args.schema.now c.in-Maybe.inside c.deref-in-Maybe.result.now c.in-Maybe.is c.deref-in-Maybe.ensures.value))))
    c.push_instances-in-Maybe.ensures.count
