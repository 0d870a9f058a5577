use Rattle.std.proofs.Common.{arith}
use Rattle.lfg_instant.specs.Sites.{IsWordKeyOf, entry_of, site_key}
use Rattle.lfg_instant.proofs.CollectLaws.{MadeBy, counted_none, collects_along, made_all, place_is}
use Rattle.lfg_instant.proofs.SiteLaws.{one_key}
use Rattle.lfg_instant.proofs.sites.add_entry_keys.Goals as goal

pub loop-word-init : goal.loop-word-init
loop-word-init c = counted_none c.args.keys.now.items (MadeBy (λ word. site_key c.args.grammar.now c.args.tokens.now (entry_of word)) c.args.words.now)

pub loop-word-preserved : goal.loop-word-preserved
loop-word-preserved c =
    one_key (λ word. site_key c.args.grammar.now c.args.tokens.now (entry_of word)) c.args.words.now c.loop-word.word-index c.word-item.result c.in_ok-entry_key.field-0 c.args.keys.now.items c.loop-word.keys.items c.push.new.self.items
    (place_is c.args.words.now c.loop-word.word-index c.word-item.result c.loop-word-test.true c.word-item.is) c.in_ok-entry_key.ensures c.loop-word.invariant c.in_ok-push.ensures.items

pub returns : goal.returns
returns c = collects_along c.args.keys.now.items c.loop-word.keys.items _ (IsWordKeyOf c.args.grammar.now c.args.tokens.now c.args.words.now)
    (λ key. made_all (λ word. site_key c.args.grammar.now c.args.tokens.now (entry_of word)) c.args.words.now c.loop-word.word-index (omega (arith, c.loop-word-test.false)) key) c.loop-word.invariant
