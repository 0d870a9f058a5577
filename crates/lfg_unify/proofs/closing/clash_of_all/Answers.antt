use Rattle.std.proofs.Common.{◌≡◌, ◌<◌, ℕ, List, length, map, refl, sym, ◌∙◌, ap, subst, arith}
use Rattle.lfg_model.proofs.ListLaws.{In_from_map}
use Rattle.lfg_model.specs.Lists.{In}
use Rattle.lfg_context.specs.Seen.{Set}
use Rattle.lfg_context.specs.Sets.{AreMade}
use Rattle.lfg_context.specs.Telling.{Tells, InSome}
use Rattle.lfg_unify.specs.Closures.{place_in}
use Rattle.lfg_unify.specs.Clashes.{Placed, Clashes}
use Rattle.lfg_unify.specs.Collected.{placed_in, source_in, set_in}
use Rattle.lfg_unify.proofs.ClosureLaws.{map_made}
use Rattle.lfg_unify.proofs.closing.clash_of_all.Goals as goal

pub clash-requires-clause-places : goal.clash-requires-clause-places
clash-requires-clause-places c = λ v i.
    let ns = c.args.nodes.now in
    let e : c.as_slice.result.now ≡ map (placed_in ns) c.args.values.now = c.as_slice.ensures.value ∙ c.in_ok-placed.ensures in
    let p = In_from_map (placed_in ns) c.args.values.now (subst (λ (xs : List Placed). In v xs) e i) in
    let h = subst (λ (n : ℕ). n < length ns) (ap (λ w. w.0.0) p.2) (c.requires.places p.0 p.1) in
    omega (arith, h, c.requires.count)

pub clash-requires-clause-made : goal.clash-requires-clause-made
clash-requires-clause-made c =
    subst (λ (xs : List Placed). AreMade c.args.contexts.now (λ v. v.1) xs) (sym (c.as_slice.ensures.value ∙ c.in_ok-placed.ensures))
    (map_made (placed_in c.args.nodes.now) (λ v. v.2) (λ v. v.1) c.args.values.now (λ x. refl) c.requires.values)

pub clash-requires-clause-sources : goal.clash-requires-clause-sources
clash-requires-clause-sources c =
    subst (λ (xs : List (ℕ × Set)). AreMade c.args.contexts.now (λ v. v.1) xs) (sym (c.as_slice-2.ensures.value ∙ c.in_ok-sources.ensures))
    (map_made (source_in c.args.nodes.now) (λ r. r.3) (λ v. v.1) c.args.arcs.now (λ x. refl) c.requires.arcs)

pub clash-requires-clause-sets : goal.clash-requires-clause-sets
clash-requires-clause-sets c =
    subst (λ (xs : List (ℕ × Set)). AreMade c.args.contexts.now (λ v. v.1) xs) (sym (c.as_slice-3.ensures.value ∙ c.in_ok-sets.ensures))
    (map_made (set_in c.args.nodes.now) (λ m. m.2) (λ v. v.1) c.args.members.now (λ x. refl) c.requires.members)

pub returns-clause-tells : goal.returns-clause-tells
returns-clause-tells c =
    let ns = c.args.nodes.now in
    let t = c.args.table.now in
    let z = c.in_ok-found.found in
    let e : c.as_slice.result.now ≡ map (placed_in ns) c.args.values.now = c.as_slice.ensures.value ∙ c.in_ok-placed.ensures in
    let f : c.as_slice-2.result.now ≡ map (source_in ns) c.args.arcs.now = c.as_slice-2.ensures.value ∙ c.in_ok-sources.ensures in
    let g : c.as_slice-3.result.now ≡ map (set_in ns) c.args.members.now = c.as_slice-3.ensures.value ∙ c.in_ok-sets.ensures in
    subst (λ (vs : List Placed). Tells z (InSome vs (Clashes t vs (map (source_in ns) c.args.arcs.now) (map (set_in ns) c.args.members.now)))) e
    (subst (λ (xs : List (ℕ × Set)). Tells z (InSome c.as_slice.result.now (Clashes t c.as_slice.result.now xs (map (set_in ns) c.args.members.now)))) f
    (subst (λ (xs : List (ℕ × Set)). Tells z (InSome c.as_slice.result.now (Clashes t c.as_slice.result.now c.as_slice-2.result.now xs))) g c.in_ok-found.ensures.tells))
