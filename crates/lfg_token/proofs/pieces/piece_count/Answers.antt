use Rattle.std.proofs.Common.{rules, tests, not, ◌∙◌, ap, length, filter}
use Rattle.std.proofs.lemmas.Iterator.Consumers.{count_from_yields_List, YieldsList-from_filter, YieldsList-at}
use Rattle.unicode_segmentation.proofs.SegmentsLemmas.{YieldsList-from_gives}
use Rattle.lfg_token.specs.Words.{is_white}
use Rattle.lfg_token.proofs.pieces.piece_count.Goals as goal

pub returns-clause-count : goal.returns-clause-count
returns-clause-count c =
    count_from_yields_List _ _ c.count.ensures.ran
    (YieldsList-from_filter _ (λ piece. not (is_white piece)) (YieldsList-at c.filter.ensures.source (YieldsList-from_gives _ _ c.split_word_bounds.result)) c.filter.ensures.closure (λ x b q k. search (rules, tests)))
    ∙ ap (λ ps. length (filter (λ piece. not (is_white piece)) ps)) c.split_word_bounds.ensures.left
