-- Sections one by one.
use Rattle.std.proofs.Common.{◌≡◌, ℕ, ◌+◌, Option, Some, Result, List, [], ◌∷◌, ◌++◌, length, map, refl, ap, sym, ◌∙◌, arith}
use Rattle.lfg_model.specs.Drafts.{Section, or_number, section_at, sections_from}
use Rattle.lfg_model.specs.EntryNotation.{Piece}
use Rattle.lfg_notation.specs.declared.sections.Section.{Section as Found}
use Rattle.lfg_notation.specs.Views.{sections_size}

-- a turn of the loop over sections
pub section_on : (n : ℕ) (before after : List Section) (s : Section) (p : Piece) (ps qs : List Piece) → qs ≡ p ∷ ps → section_at before p ≡ Some s → after ≡ before ++ (s ∷ [])
    → sections_from (n + 1) after ps ≡ sections_from n before qs
section_on n before after s p ps qs c e q = ap (λ (ss : List Section). sections_from (n + 1) ss ps) q
    ∙ sym (ap (sections_from n before) c ∙ ap (λ (o : Option Section). or_number n o (λ x. sections_from (n + 1) (before ++ (x ∷ [])) ps)) e)

pub size_more : (xs ys : List Found) (x : Found) → ys ≡ xs ++ (x ∷ []) → sections_size ys ≡ sections_size xs + length x.entries.now
size_more xs ys x e = ap sections_size e ∙ sized xs x
  where
    sized : (xs : List Found) (x : Found) → sections_size (xs ++ (x ∷ [])) ≡ sections_size xs + length x.entries.now
    sized [] x = omega arith
    sized (y ∷ xs) x = let h = sized xs x in omega arith
