-- What the output says of a sentence is the same by grammars that are the same as plain data, and is
-- one.
use Rattle.std.proofs.Common.{◌≡◌, ℕ, suc, ◌<◌, ◌≤◌, List, refl, sym, ap, ◌∙◌, subst, arith}
use Rattle.std.specs.List.{flat_map}
use Rattle.lfg_terms.specs.declared.grammar.Grammar.{Grammar}
use Rattle.lfg_model.specs.Loads.{AreAlike}
use Rattle.lfg_model.specs.PairTexts.{pair_text}
use Rattle.lfg_model.proofs.ReadingLaws.{readings_are_one}
use Rattle.lfg_packed.specs.ParseCounts.{IsParseAbove}
use Rattle.lfg_token.specs.Words.{tokens}
use Rattle.lfg_output.specs.declared.status.StageName.TheVariants.{Parse}
use Rattle.lfg_output.specs.declared.status.Status.{Status}
use Rattle.lfg_output.specs.declared.status.Status.TheVariants.{TooLarge}
use Rattle.lfg_output.specs.Sentences.{IsWithin, AreReadings, IsRefused, too_long, too_large}
pub use Rattle.lfg_output.proofs.LikeLookups.{alike_itself, alike_turned}
pub use Rattle.lfg_output.proofs.LikeReadings.{derives_alike, whole_alike, literals_alike, facts_alike, assigned_alike, readings_alike}
pub use Rattle.lfg_output.proofs.LikeCounts.{stands_alike, instance_count_alike, parse_count_alike, parse_above_alike, not_above, one_parse_count}

-- ---- one grammar

-- a sentence that keeps to the limits is not refused
pub not_both : (g : Grammar) (n : ℕ) (line : List ℕ) (s : Status) → IsWithin g line → IsRefused g n line s → ⊥
not_both g n line s w (too_long l) = let few = w.few in omega (arith, l, few)
not_both g n line s w (too_large f c) = not_above g (tokens line) g.maxfacts w.count w.counted w.not_above c

-- a sentence is refused in one way
pub one_refusal : (g : Grammar) (n : ℕ) (line : List ℕ) (s u : Status) → IsRefused g n line s → IsRefused g n line u → s ≡ u
one_refusal g n line s u (too_long l) (too_long m) = refl
one_refusal g n line s u (too_long l) (too_large f c) = absurd (let no : ⊥ = omega (arith, l, f) in no)
one_refusal g n line s u (too_large f c) (too_long m) = absurd (let no : ⊥ = omega (arith, m, f) in no)
one_refusal g n line s u (too_large f c) (too_large e d) = refl

-- ---- two grammars

module _ (g h : Grammar) (a : AreAlike g h) where
  pub within_alike : (line : List ℕ) → IsWithin g line → IsWithin h line
  within_alike line w = record {
    few = w.few;
    count = w.count;
    counted = parse_count_alike g h a (tokens line) w.count w.counted;
    not_above = subst (λ (limit : ℕ). w.count ≤ limit) a.maxfacts w.not_above;
  }

  pub refused_alike : (n : ℕ) (line : List ℕ) (s : Status) → IsRefused g n line s → IsRefused h n line s
  refused_alike n line s (too_long l) = too_long l
  refused_alike n line s (too_large f c) =
      let moved = parse_above_alike g h a (tokens line) g.maxfacts c in
      subst (λ (limit : ℕ). IsRefused h n line (TooLarge n Parse (suc limit))) (sym a.maxfacts)
      (too_large f (subst (λ (limit : ℕ). IsParseAbove h (tokens line) limit) a.maxfacts moved))

  pub bodies_alike : (line body : List ℕ) → AreReadings g line body → AreReadings h line body
  bodies_alike line body r = record {
    within = within_alike line r.within;
    pairs = r.pairs;
    readings = readings_alike g h a (tokens line) r.pairs r.readings;
    is = r.is;
  }

  -- what is written of a sentence is one text
  pub one_body : (line b c : List ℕ) → AreReadings g line b → AreReadings h line c → b ≡ c
  one_body line b c p q =
      let same : p.pairs ≡ q.pairs = readings_are_one h (tokens line) p.pairs q.pairs (readings_alike g h a (tokens line) p.pairs p.readings) q.readings in
      p.is ∙ ap (flat_map pair_text) same ∙ sym q.is
