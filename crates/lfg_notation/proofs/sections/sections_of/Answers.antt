use Rattle.std.proofs.Common.{◌∙◌, ap, sym, arith, List, map, length}
use Rattle.lfg_model.specs.declared.notation.Separator.TheVariants.{Divider}
use Rattle.lfg_model.specs.Drafts.{section_at}
use Rattle.lfg_model.specs.EntryNotation.{cut}
use Rattle.lfg_model.proofs.NestTurns.{pushed}
use Rattle.lfg_notation.specs.declared.sections.Section.{Section as Found}
use Rattle.lfg_notation.specs.Views.{piece_of, section_form}
use Rattle.lfg_notation.proofs.SectionLaws.{section_on, size_more}
use Rattle.lfg_notation.proofs.sections.sections_of.Goals as goal

pub loop-rest-preserved : goal.loop-rest-preserved
loop-rest-preserved c = record {
  few = omega (arith, c.first_piece-piece.ensures.shorter);
  size = omega (arith, size_more c.loop-rest.sections.items c.push.new.self.items c.in-Some.section c.in_ok-push.ensures.items, c.in-Some.ensures.shorter, c.first_piece-piece.ensures.within);
  read = section_on c.loop-rest.number (map section_form c.loop-rest.sections.items) (map section_form c.push.new.self.items) (section_form c.in-Some.section) (piece_of c.first_piece-piece.result)
      (cut Divider c.first_piece-piece.result.rest.now) (cut Divider c.loop-rest.rest.now) c.first_piece-piece.ensures.cut
      (ap (λ (ss : List Found). section_at (map section_form ss) (piece_of c.first_piece-piece.result)) (sym c.deref.ensures.value) ∙ c.in-Some.ensures.read)
      (pushed section_form c.loop-rest.sections.items c.push.new.self.items c.in-Some.section c.in_ok-push.ensures.items) ∙ c.loop-rest.invariant.read;
}
