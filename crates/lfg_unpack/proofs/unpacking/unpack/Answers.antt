use Rattle.std.proofs.Common.{refl, [], List}
use Rattle.lfg_context.specs.Seen.{Set}
use Rattle.lfg_unpack.specs.Pieces.{Gathers, Covers}
use Rattle.lfg_unpack.proofs.Over.{none_depend, gathered_depend}
use Rattle.lfg_unpack.proofs.Splitting.{tells_first}
use Rattle.lfg_unpack.proofs.Covering.{all_unpacked}
use Rattle.lfg_unpack.proofs.unpacking.unpack.Goals as goal

pub add_pairs-requires-clause-sets_depend : goal.add_pairs-requires-clause-sets_depend
add_pairs-requires-clause-sets_depend c =
    let first = rw (c.entries.ensures.same, c.new-sets.ensures.items) at c.in_ok-add_contexts.ensures.gathers in
    let second = rw c.entries-2.ensures.same at c.in_ok-add_contexts-2.ensures.gathers in
    let packed = c.args.packed.now.is_packed in
    rw c.deref.ensures.value (gathered_depend second (gathered_depend first (none_depend _) packed.tree_packed.depend) packed.facts_packed.depend)

pub add_pairs-requires-clause-tells : goal.add_pairs-requires-clause-tells
add_pairs-requires-clause-tells c =
    let first = rw (c.entries.ensures.same, c.new-sets.ensures.items) at c.in_ok-add_contexts.ensures.gathers in
    let second = rw c.entries-2.ensures.same at c.in_ok-add_contexts-2.ensures.gathers in
    rw c.deref.ensures.value (tells_first c.args.packed.now.tree c.args.packed.now.facts c.args.packed.now.good [] c.add_contexts.new.sets.items c.add_contexts-2.new.sets.items first second)

pub returns-clause-pairs : goal.returns-clause-pairs
returns-clause-pairs c =
    all_unpacked c.args.packed.now c.add_pairs.new.pairs.items c.in_ok-pairs.pairs.items (rw c.new-written.ensures.items at c.in_ok-add_pairs.ensures.covers) c.in_ok-pairs.ensures
