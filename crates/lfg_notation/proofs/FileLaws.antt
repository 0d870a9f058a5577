-- Since a text has one draft or one fault, what is answered is exact.
use Rattle.std.proofs.Common.{◌≡◌, ℕ, ◌≤◌, List, Result, Ok, Err, IsErr, IsOkUnless, length, refl, ap, subst, arith}
use Rattle.std.specs.Str.{IsUtf8, chars}
use Rattle.lfg_terms.specs.declared.draft.Draft.{Draft}
use Rattle.lfg_model.specs.declared.token.Token.{Token}
use Rattle.lfg_model.specs.DraftForms.{DraftForm, draft_form}
use Rattle.lfg_model.specs.Drafts.{Drafts, FileFault, not_utf8, no_token, no_lexemes, bad_section, bad_entry, HasFault}
use Rattle.lfg_model.specs.Tokens.{Tokens}
use Rattle.lfg_model.proofs.DraftLaws.{never_both, tokens_few, chars_few}
use Rattle.lfg_notation.specs.declared.fault.DraftFault.{DraftFault}
use Rattle.lfg_notation.specs.declared.fault.DraftFault.TheVariants.{NotUtf8, NoToken, Section, Entry, Memory}
use Rattle.lfg_notation.specs.Faults.{ReadsFile}

pub accepted : (bytes : List ℕ) (r : Result Draft DraftFault) → ReadsFile bytes r → (d : DraftForm) → Drafts bytes d → IsOkUnless r Memory
accepted bytes (Ok e) h d p = tt
accepted bytes (Err (NotUtf8 at)) h d p = absurd (never_both bytes d (not_utf8 at) p h)
accepted bytes (Err (NoToken at)) h d p = absurd (never_both bytes d (no_token at) p h)
accepted bytes (Err (Section n)) h d p = absurd (never_both bytes d (no_lexemes (bad_section n)) p h)
accepted bytes (Err (Entry n)) h d p = absurd (never_both bytes d (no_lexemes (bad_entry n)) p h)
accepted bytes (Err Memory) h d p = refl

pub refused : (bytes : List ℕ) (r : Result Draft DraftFault) → ReadsFile bytes r → (f : FileFault) → HasFault bytes f → IsErr r
refused bytes (Ok e) h f p = absurd (never_both bytes (draft_form e) f h p)
refused bytes (Err g) h f p = refl

-- there are no more tokens than bytes
pub few : (bytes text : List ℕ) (ts us : List Token) → text ≡ bytes → IsUtf8 bytes → us ≡ ts → Tokens 0 (chars text) ts → length us ≤ length bytes
few bytes text ts us e u q t =
    let h = tokens_few (subst (λ (bs : List ℕ). Tokens 0 (chars bs) ts) e t) in
    let k = chars_few bytes u in
    let l : length us ≡ length ts = ap length q in
    omega arith
