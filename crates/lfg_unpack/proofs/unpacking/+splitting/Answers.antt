use Rattle.std.proofs.Common.{◌≡◌, List, [], ◌∷◌, length, refl, sym, ◌∙◌, ap, subst, arith, rules}
use Rattle.lfg_context.specs.Seen.{Set}
use Rattle.lfg_context.specs.Sets.{assigned}
use Rattle.lfg_context.proofs.Growing.{growing, are_made_grown}
use Rattle.lfg_context.proofs.Depending.{depends_and, depends_without}
use Rattle.lfg_store.specs.Unpacking.{pair_of}
use Rattle.lfg_unpack.specs.Pieces.{AllMade, AllDepend, TellsPairs}
use Rattle.lfg_unpack.proofs.Over.{included_made, included_depend, first_made, first_depends, rest_made, rest_depend, nil_from_length}
use Rattle.lfg_unpack.proofs.Splitting.{tells_left, tells_inside, tells_outside}
use Rattle.lfg_unpack.proofs.Covering.{covers_one, covers_both}
use Rattle.lfg_unpack.proofs.unpacking.+splitting.Goals as goal

pub add_parts-add_pairs-requires : goal.add_parts-add_pairs-requires
add_parts-add_pairs-requires t c = (
  omega (arith, c.decreases),
  (
    c.requires.plain,
    (
      search (rules, growing),
      (
        search (rules, growing),
        (
          c.in_ok-inside.ensures.ok.made,
          (
            depends_and c.requires.piece_depends c.requires.by_depends c.in_ok-inside.ensures.ok,
            (
              search (rules, growing),
              (
                c.requires.others_depend,
                (
                  search (rules, growing),
                  tells_inside c.args.tree.now c.args.facts.now c.args.piece.now c.in_ok-inside.inside c.args.by.now c.args.others.now c.requires.tells c.in_ok-inside.ensures.ok.members,
                ),
              ),
            ),
          ),
        ),
      ),
    ),
  ),
)

pub add_parts-add_pairs-requires-2 : goal.add_parts-add_pairs-requires-2
add_parts-add_pairs-requires-2 t c = (
  omega (arith, c.decreases),
  (
    c.requires.plain,
    (
      search (rules, growing),
      (
        search (rules, growing),
        (
          c.in_ok-outside.ensures.ok.made,
          (
            depends_without c.requires.piece_depends c.requires.by_depends c.in_ok-outside.ensures.ok,
            (
              search (rules, growing),
              (
                c.requires.others_depend,
                (
                  search (rules, growing),
                  tells_outside c.args.tree.now c.args.facts.now c.args.piece.now c.in_ok-outside.outside c.args.by.now c.args.others.now c.requires.tells c.in_ok-outside.ensures.ok.members,
                ),
              ),
            ),
          ),
        ),
      ),
    ),
  ),
)

pub add_parts-returns-clause-covers : goal.add_parts-returns-clause-covers
add_parts-returns-clause-covers t c =
    covers_both c.args.tree.now c.args.facts.now c.args.piece.now c.args.by.now c.in_ok-inside.inside c.in_ok-outside.outside _ _ _
    c.in_ok-inside.ensures.ok.members c.in_ok-outside.ensures.ok.members c.in_ok-add_pairs.ensures.covers c.in_ok-add_pairs-2.ensures.covers

pub add_pairs_from-add_parts-requires : goal.add_pairs_from-add_parts-requires
add_pairs_from-add_parts-requires t c =
    let is : c.in_ok-left.left.items ≡ c.in-Some.by.now ∷ c.in-Some.others.now = sym c.deref.ensures.value ∙ c.in-Some.ensures.cases.0 in
    let M : List Set → Type 0 = λ v. AllMade c.unsettled.new.contexts v in
    let D : List Set → Type 0 = λ v. AllDepend (length c.args.space.now) v in
    let T : List Set → Type 0 = λ v. TellsPairs c.args.tree.now c.args.facts.now c.args.piece.now v in
    let made : M (c.in-Some.by.now ∷ c.in-Some.others.now) = subst M is (included_made c.in_ok-left.ensures.among (are_made_grown c.in_ok-left.ensures.grown c.requires.sets_made)) in
    let depend : D (c.in-Some.by.now ∷ c.in-Some.others.now) = subst D is (included_depend c.in_ok-left.ensures.among c.requires.sets_depend) in
    let tells : T (c.in-Some.by.now ∷ c.in-Some.others.now) = subst T is (tells_left c.args.tree.now c.args.facts.now c.args.piece.now c.args.sets.now c.in_ok-left.left.items c.requires.tells c.in_ok-left.ensures.settles) in (
      omega (arith, c.decreases, ap length is, c.in_ok-left.ensures.fewer),
      (
        c.requires.plain,
        (
          search (rules, growing),
          (
            search (rules, growing),
            (
              search (rules, growing),
              (c.requires.piece_depends, (first_made made, (first_depends depend, (rest_made made, (rest_depend depend, (search (rules, growing), tells)))))),
            ),
          ),
        ),
      ),
    )

pub add_pairs_from-returns-clause-covers : goal.add_pairs_from-returns-clause-covers
add_pairs_from-returns-clause-covers t c =
    let none : c.in_ok-left.left.items ≡ [] = nil_from_length c.in_ok-left.left.items (ap length (sym c.deref.ensures.value) ∙ c.in-None.ensures.cases) in
    let T : List Set → Type 0 = λ v. TellsPairs c.args.tree.now c.args.facts.now c.args.piece.now v in
    let tells : T [] = subst T none (tells_left c.args.tree.now c.args.facts.now c.args.piece.now c.args.sets.now c.in_ok-left.left.items c.requires.tells c.in_ok-left.ensures.settles) in
    covers_one c.args.tree.now c.args.facts.now c.args.piece.now c.args.pairs.now.items c.add_pair.new.pairs.items (assigned c.args.sample.now)
    (pair_of c.args.tree.now c.args.facts.now (assigned c.args.sample.now)) tells c.requires.sampled refl c.in_ok-add_pair-in-None.ensures
