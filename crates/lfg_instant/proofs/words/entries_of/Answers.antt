use Rattle.std.proofs.Common.{◌≡◌, ◌∙◌, ap, arith, map}
use Rattle.std.specs.Prelude.{◌↔◌}
use Rattle.lfg_model.specs.Lists.{In}
use Rattle.lfg_instant.specs.declared.words.EntryKey.{EntryKey}
use Rattle.lfg_instant.specs.Words.{IsKeyAt}
use Rattle.lfg_instant.proofs.WordLaws.{no_entries, no_token, get_is, are_entries}
use Rattle.lfg_instant.proofs.words.entries_of.Goals as goal

pub returns-then-at-tokens : goal.returns-then-at-tokens
returns-then-at-tokens c =
    let g = c.args.grammar.now in
    let s = c.args.tokens.now in
    let e = c.args.edge.now in
    rw c.new.ensures.items (no_entries g s e (no_token g s e (omega arith)))

pub returns-then-edge-at : goal.returns-then-edge-at
returns-then-edge-at c =
    let g = c.args.grammar.now in
    let s = c.args.tokens.now in
    let e = c.args.edge.now in
    rw c.new-then-edge-at.ensures.items (no_entries g s e (λ k h. (let one = h.one_token in let not = c.if-edge-at.true in absurd (omega arith))))

pub returns : goal.returns
returns c =
    let g = c.args.grammar.now in
    let s = c.args.tokens.now in
    let e = c.args.edge.now in
    let token = c.index-tokens-at.result in
    let read = get_is s e.from token (omega arith) c.index-tokens-at.is in
    let keys : (key : EntryKey) → In key c.in_ok-keys.keys.items ↔ IsKeyAt g.lexicon token e.cat key = rw c.list.ensures at c.in_ok-keys.ensures in
    let is : c.in_ok-found.found.items ≡ map (λ key. key.entry) c.in_ok-keys-2.keys.items = c.in_ok-found.ensures ∙ ap (map (λ key. key.entry)) c.deref.ensures.value in
    rw is (are_entries g s e token read (omega arith) c.in_ok-keys.keys.items c.in_ok-keys-2.keys.items keys c.in_ok-keys-2.ensures)
