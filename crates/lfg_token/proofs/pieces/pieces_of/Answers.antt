use Rattle.std.proofs.Common.{rules, tests, not, sym}
use Rattle.std.proofs.lemmas.Iterator.Consumers.{map_from_collect, YieldsList-from_filter, YieldsList-at}
use Rattle.unicode_segmentation.proofs.SegmentsLemmas.{YieldsList-from_gives}
use Rattle.lfg_token.specs.Words.{is_white}
use Rattle.lfg_token.proofs.pieces.pieces_of.Goals as goal

pub returns : goal.returns
returns c =
    rw (sym c.split_word_bounds.ensures.left)
    (map_from_collect _ c.collect.ensures.ran
    (YieldsList-from_filter _ (λ piece. not (is_white piece)) (YieldsList-at c.filter.ensures.source (YieldsList-from_gives _ _ c.split_word_bounds.result)) c.filter.ensures.closure (λ x b q k. search (rules, tests))))
