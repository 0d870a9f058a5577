use Rattle.std.proofs.Common.{refl}
use Rattle.std.proofs.lemmas.Option.{slice_get_read}
use Rattle.xle_run.proofs.SearchWords.{finds_word, lacks_entry}
use Rattle.xle_run.proofs.search.word_at.Goals as goal

pub returns-in_default-entry_place-clause-none : goal.returns-in_default-entry_place-clause-none
returns-in_default-entry_place-clause-none c =
    let l = c.in-Some.ensures.lookup in
    lacks_entry c.args.grammar.now c.args.tokens.now c.requires.thin c.args.cat.now c.args.at c.in-Some.token.now c.list.result.now
    (slice_get_read c.args.tokens.now _ c.args.at c.in-Some.token.now refl l.3.0 l.1) c.list.ensures c.in_default-entry_place.ensures.none

pub returns-clause-found : goal.returns-clause-found
returns-clause-found c =
    let l = c.in-Some.ensures.lookup in
    finds_word c.args.grammar.now c.args.tokens.now c.requires.thin c.args.cat.now _ c.args.at c.in-Some.token.now c.list.result.now c.in-Some-entry_place.place _ _
    (slice_get_read c.args.tokens.now _ c.args.at c.in-Some.token.now refl l.3.0 l.1) c.in-Some-entry_place.ensures.found c.list.ensures c.in_ok-clone.ensures.cases c.in-Ok.ensures.1 c.new.ensures.items
