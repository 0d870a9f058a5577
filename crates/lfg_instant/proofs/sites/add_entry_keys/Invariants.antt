use Rattle.std.proofs.Common.{ℕ, ◌<◌}
use Rattle.lfg_instant.specs.Collects.{Collects}
use Rattle.lfg_instant.specs.Sites.{entry_of, site_key}
use Rattle.lfg_instant.proofs.CollectLaws.{MadeBy}
use Rattle.lfg_instant.proofs.sites.add_entry_keys.Given as goal

abbrev pub invariant-loop-word : goal.invariant-loop-word
invariant-loop-word l = Collects l.fn.keys.items l.keys.items (λ key. (m : ℕ) × (m < l.word-index) × MadeBy (λ word. site_key l.fn.grammar l.fn.tokens (entry_of word)) l.words m key)
