-- Where values clash.
use Rattle.std.proofs.Common.{◌≡◌, ◌≢◌, ℕ, Bool, true, false, ◌&&◌, ◌||◌, ◌⊎◌, inl, inr, List, length, sym, refl, ◌∙◌, ap, subst}
use Rattle.std.specs.Prelude.{◌↔◌}
use Rattle.lfg_context.specs.Seen.{Set}
use Rattle.lfg_context.specs.Sets.{Assignment, member}
use Rattle.lfg_context.specs.Telling.{Tells, InSome}
use Rattle.lfg_context.proofs.Growing.{made_grown, grown_refl, grown_trans, same_picks_refl, same_picks_trans, are_made_grown, are_made_nil, are_made_push}
use Rattle.lfg_context.proofs.Telling.{and_true, and_from, true_not_false, tells_or}
use Rattle.lfg_unify.specs.Closures.{Row}
use Rattle.lfg_unify.specs.Rows.{Has}
use Rattle.lfg_unify.specs.Clashes.{Placed, Differs, IsBeside, Clashes}
use Rattle.lfg_unify.proofs.RowLaws.{row_grown, rows_grown}

pub together_tells : (rows : List Row) (first : Placed) (second : ℕ × Set) (z all : Set) → ((a : Assignment) → member z a ≡ true → Has rows a first.0.0 second.0)
    → ((a : Assignment) → Has rows a first.0.0 second.0 → member z a ≡ true) → ((a : Assignment) → member all a ≡ ((member z a && member first.1 a) && member second.1 a)) → Tells all (IsBeside rows first second)
together_tells rows first second z all forth back m = record {
  each = λ a. (
    (λ h.
        let b = and_true (member z a && member first.1 a) (member second.1 a) (sym (m a) ∙ h) in
        let c = and_true (member z a) (member first.1 a) b.0 in
        record { first_holds = c.1; second_holds = b.1; same = forth a c.0 }),
    (λ s. m a ∙ and_from (member z a && member first.1 a) (member second.1 a) (and_from (member z a) (member first.1 a) (back a s.same) s.first_holds) s.second_holds),
  );
}

pub no_differs : (rows : List Row) (first second : Placed) (z : Set) → first.0.1 ≡ second.0.1 → ((a : Assignment) → member z a ≡ false) → Tells z (Differs rows first second)
no_differs rows first second z e n = record { each = λ a. ((λ h. absurd (true_not_false h (n a))), (λ d. absurd (d.apart e))) }

pub differs_tells : (rows : List Row) (first second : Placed) (z : Set) → first.0.1 ≢ second.0.1 → Tells z (IsBeside rows first (second.0.0, second.1)) → Tells z (Differs rows first second)
differs_tells rows first second z apart t = record {
  each = λ a. (
    (λ h. let b = (t.each a).0 h in record { apart = apart; first_holds = b.first_holds; second_holds = b.second_holds; same = b.same }),
    (λ d. (t.each a).1 (record { first_holds = d.first_holds; second_holds = d.second_holds; same = d.same })),
  );
}

pub clashes_tells : (rows : List Row) (all : List Placed) (sources sets : List (ℕ × Set)) (first : Placed) (v x y xy z : Set)
    → Tells v (InSome all (Differs rows first)) → Tells x (InSome sources (IsBeside rows first)) → Tells y (InSome sets (IsBeside rows first))
    → ((a : Assignment) → member xy a ≡ (member x a || member y a)) → ((a : Assignment) → member z a ≡ (member v a || member xy a)) → Tells z (Clashes rows all sources sets first)
clashes_tells rows all sources sets first v x y xy z t u w e f =
    let p = tells_or t (tells_or u w e) f in
    record { each = λ a. ((λ h. record { meets = (p.each a).0 h }), (λ c. (p.each a).1 c.meets)) }

pub ruleset clashing = (made_grown, grown_refl, grown_trans, same_picks_refl, same_picks_trans, row_grown, rows_grown, are_made_grown, are_made_nil, are_made_push)
