use Rattle.std.proofs.Common.{◌≡◌, ◌+◌, length, ap, ◌∙◌, arith}
use Rattle.xle_run.specs.Search.{list_parts}
use Rattle.xle_run.proofs.PartRows.{list_parts-push, same_daughter}
use Rattle.xle_run.proofs.search.push_part.Goals as goal

pub returns-clause-pushed : goal.returns-clause-pushed
returns-clause-pushed c =
    let number : c.in-Some.occ ≡ length c.args.parts.now.items + 1 = omega (arith, c.in-Some.ensures, c.in-Ok.ensures) in
    ap list_parts c.in_ok-push.ensures.items ∙ list_parts-push c.args.parts.now.items _ ∙ same_daughter (list_parts c.args.parts.now.items) number c.new.ensures.items c.in_ok-new.ensures.ok
