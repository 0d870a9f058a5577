use Rattle.std.proofs.Common.{false, sym, subst, refl, arith}
use Rattle.lfg_context.specs.Sets.{member, IsInTable, IsSetOf}
use Rattle.lfg_context.specs.Seen.{Set}
use Rattle.lfg_context.proofs.contexts.Contexts.no.Goals as goal

pub returns : goal.returns
unfolding IsInTable member
returns c = let P : Set → Type 0 = λ v. IsSetOf c.args.self.now v (λ _. false) in subst P (sym c.terminal.ensures) (record { made = record { in_table = (omega arith, refl, λ a b alike. refl) }; members = λ a. refl })
