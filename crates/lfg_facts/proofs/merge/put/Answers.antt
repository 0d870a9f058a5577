use Rattle.std.proofs.Common.{◌≡◌, ◌+◌, ◌-◌, ◌∙◌, length, sym, arith, rules}
use Rattle.std.proofs.lemmas.Bool.{false≢true}
use Rattle.lfg_facts.proofs.Classes.{entry_at, entries_grown}
use Rattle.lfg_facts.proofs.MergeLaws.{other_none, other_last, puts_pushed, puts_wider, wider_entries}
use Rattle.lfg_facts.proofs.merge.put.Goals as goal
use Rattle.lfg_facts.proofs.merge.put.Goals.{then-count-gt0+else-eq, else-count-gt0}

pub or-requires-clause-a_made : goal.or-requires-clause-a_made
or-requires-clause-a_made c =
    let len : length c.args.facts.now.items ≡ c.len-count.result - 1 + 1 = search rules in
    (entry_at (c.len-count.result - 1) c.index-then-eq.result.now c.requires.facts (omega (arith, len)) c.index-then-eq.ensures).made

pub returns-then-eq-clause-facts : goal.returns-then-eq-clause-facts
returns-then-eq-clause-facts c =
    let len : length c.args.facts.now.items ≡ c.len-count.result - 1 + 1 = search rules in
    wider_entries c.args.facts.now.items c.args.entry.now (c.len-count.result - 1) c.index_mut.result.now.0 c.index-then-eq.result.now.1 c.in_ok-wider.wider len
    (entries_grown c.in_ok-wider.ensures.grown c.requires.facts) c.in_ok-wider.ensures.ok.made c.requires.entry.some c.in_ok-wider.ensures.ok.members

pub returns-then-eq-clause-puts : goal.returns-then-eq-clause-puts
returns-then-eq-clause-puts c =
    let len : length c.args.facts.now.items ≡ c.len-count.result - 1 + 1 = search rules in
    puts_wider c.args.facts.now.items c.args.entry.now (c.len-count.result - 1) c.index.result.now c.index-then-eq.result.now c.index_mut.result.now c.in_ok-wider.wider len c.index.ensures c.index-then-eq.ensures
    c.index_mut.ensures.value (c.eq.ensures.same.0 c.if-eq.true) c.in_ok-wider.ensures.ok.members

pub returns-clause-puts : goal.returns-clause-puts
returns-clause-puts c =
    puts_pushed c.args.facts.now.items c.args.entry.now c.in_ok-clone.field-0 c.in_ok-share.field-0 c.push.new.self.items
    (elim c.if-count-gt0.branch [
      | then-count-gt0+else-eq w ↦
          let len : length c.args.facts.now.items ≡ c.len-count.result - 1 + 1 = search rules in
          other_last c.args.facts.now.items c.args.entry.now (c.len-count.result - 1) w.index.result.now len w.index.ensures (λ e. false≢true (sym w.if-eq.false ∙ w.eq.ensures.same.1 e))
      | else-count-gt0 w ↦ (let len : length c.args.facts.now.items ≡ 0 = search rules in other_none c.args.facts.now.items c.args.entry.now len)
    ])
    c.in_ok-clone.ensures.cases c.in_ok-share.ensures c.in_ok-push.ensures.items
