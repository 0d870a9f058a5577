-- Since a text has one reading at most, what is answered is exact.
use Rattle.std.proofs.Common.{◌≡◌, ℕ, List, Result, Ok, Err, IfOk, IfErr, IsErr, IsOkUnless, refl, subst}
use Rattle.lfg_model.specs.declared.token.Token.{Token}
use Rattle.lfg_model.specs.Tokens.{Tokens, Stuck}
use Rattle.lfg_model.proofs.OneReading.{not_both}
use Rattle.lfg_lexer.specs.declared.fault.LexFault.{LexFault}
use Rattle.lfg_lexer.specs.declared.fault.LexFault.TheVariants.{NoToken, Memory}
use Rattle.lfg_lexer.specs.Faults.{StopsAt}

no_fault : {X : Type 0} (cs : List ℕ) (r : Result X LexFault) → IfErr r (λ fault. StopsAt cs fault) → (ts : List Token) → Tokens 0 cs ts → IsOkUnless r Memory
no_fault cs (Ok v) s ts t = tt
no_fault cs (Err (NoToken at)) s ts t = absurd (not_both t s)
no_fault cs (Err Memory) s ts t = refl

pub accepted : {X : Type 0} (cs ds : List ℕ) (r : Result X LexFault) → ds ≡ cs → IfErr r (λ fault. StopsAt ds fault) → (ts : List Token) → Tokens 0 cs ts → IsOkUnless r Memory
accepted cs ds r e s ts t = no_fault cs r (subst (λ (xs : List ℕ). IfErr r (λ fault. StopsAt xs fault)) e s) ts t

no_tokens : {X : Type 0} (items : X → List Token) (cs : List ℕ) (r : Result X LexFault) → IfOk r (λ v. Tokens 0 cs (items v)) → (stop : ℕ) → Stuck 0 cs stop → IsErr r
no_tokens items cs (Ok v) t stop s = absurd (not_both t s)
no_tokens items cs (Err fault) t stop s = refl

pub refused : {X : Type 0} (items : X → List Token) (cs ds : List ℕ) (r : Result X LexFault) → ds ≡ cs → IfOk r (λ v. Tokens 0 ds (items v)) → (stop : ℕ) → Stuck 0 cs stop → IsErr r
refused items cs ds r e t stop s = no_tokens items cs r (subst (λ (xs : List ℕ). IfOk r (λ v. Tokens 0 xs (items v))) e t) stop s
