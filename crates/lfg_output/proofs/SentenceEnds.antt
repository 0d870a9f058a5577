-- A run ends at one sentence, or behind the last one, and what is written until then is one list of
-- sections.
use Rattle.std.proofs.Common.{◌≡◌, ℕ, suc, List, [], ◌∷◌, ◌++◌, length, refl, sym, ◌∙◌, subst}
use Rattle.lfg_terms.specs.declared.grammar.Grammar.{Grammar}
use Rattle.lfg_model.specs.Lists.{In, here, later}
use Rattle.lfg_model.specs.Loads.{AreAlike}
use Rattle.lfg_model.proofs.OneTree.{same_cons}
use Rattle.lfg_output.specs.declared.status.Status.{Status}
use Rattle.lfg_output.specs.declared.status.Status.TheVariants.{Done}
use Rattle.lfg_output.specs.Sections.{section, AreSections, none, more, SectionsBefore}
use Rattle.lfg_output.specs.Sentences.{IsWithin, AreReadings, IsRefused, too_long, too_large}
use Rattle.lfg_output.proofs.Alike.{alike_itself, not_both, one_refusal, one_body, bodies_alike, refused_alike}

-- the run ends at a sentence, or behind the last one
pub data EndsAtSentences (g : Grammar) (lines sections : List (List ℕ)) : Status → Type 0 where
  at_one : {next : List ℕ} {st : Status} (before : SectionsBefore (AreReadings g) lines next sections) → IsRefused g (suc (length before.written)) next st → EndsAtSentences g lines sections st
  at_end : AreSections (AreReadings g) 1 lines sections → EndsAtSentences g lines sections Done

in_middle : (ws : List (List ℕ)) (x : List ℕ) (rest : List (List ℕ)) → In x (ws ++ x ∷ rest)
in_middle [] x rest = here
in_middle (w ∷ ws) x rest = later (in_middle ws x rest)

pub sections_by : {P Q : List ℕ → List ℕ → Type 0} (n : ℕ) (lines ss : List (List ℕ)) → ((line body : List ℕ) → P line body → Q line body) → AreSections P n lines ss → AreSections Q n lines ss
sections_by n lines ss f none = none
sections_by n lines ss f (more {line} {body} {lines = ls} {sections = us} p rest) = more (f line body p) (sections_by (suc n) ls us f rest)

module _ (g : Grammar) where
  body_one : (x y b c : List ℕ) → x ≡ y → AreReadings g x b → AreReadings g y c → b ≡ c
  body_one x y b c e p q = one_body g g (alike_itself g) y b c (subst (λ (line : List ℕ). AreReadings g line b) e p) q

  -- each sentence with a section keeps to the limits
  pub sections_within : (n : ℕ) (lines ss : List (List ℕ)) (x : List ℕ) → AreSections (AreReadings g) n lines ss → In x lines → IsWithin g x
  sections_within n [] ss x p i = elim i [ ]
  sections_within n (l ∷ ls) ss x (more {sections = us} p rest) here = p.within
  sections_within n (l ∷ ls) ss x (more {sections = us} p rest) (later i) = sections_within (suc n) ls us x rest i

  -- sections are one list
  pub one_sections : (n : ℕ) (lines ss us : List (List ℕ)) → AreSections (AreReadings g) n lines ss → AreSections (AreReadings g) n lines us → ss ≡ us
  one_sections n [] ss us none none = refl
  one_sections n (l ∷ ls) ss us (more {body = b} {sections = ts} p rest) (more {body = c} {sections = vs} q tail) =
      let same = one_body g g (alike_itself g) l b c p q in
      let behind = one_sections (suc n) ls ts vs rest tail in
      λ i. section n l (same i) ∷ behind i

  -- the first sentence that is refused is one, and so are the sections before it
  record SameStop (w v : List (List ℕ)) (x y : List ℕ) (ss us : List (List ℕ)) : Type 0 where
    before : w ≡ v
    next : x ≡ y
    sections : ss ≡ us

  one_stop : (n : ℕ) (w v : List (List ℕ)) (x y : List ℕ) (l m ss us : List (List ℕ)) → w ++ x ∷ l ≡ v ++ y ∷ m → AreSections (AreReadings g) n w ss → AreSections (AreReadings g) n v us
      → ¬ IsWithin g x → ¬ IsWithin g y → SameStop w v x y ss us
  one_stop n [] [] x y l m ss us e none none p q = record { before = refl; next = (same_cons x y l m e).0; sections = refl }
  one_stop n [] (b ∷ v) x y l m ss us e none (more r rest) p q = absurd (p (subst (IsWithin g) (sym ((same_cons x b l (v ++ y ∷ m) e).0)) r.within))
  one_stop n (c ∷ w) [] x y l m ss us e (more r rest) none p q = absurd (q (subst (IsWithin g) ((same_cons c y (w ++ x ∷ l) m e).0) r.within))
  one_stop n (c ∷ w) (b ∷ v) x y l m ss us e (more {body = i} {sections = ts} r rest) (more {body = j} {sections = vs} t tail) p q =
      let first = (same_cons c b (w ++ x ∷ l) (v ++ y ∷ m) e).0 in
      let behind = one_stop (suc n) w v x y l m ts vs (same_cons c b (w ++ x ∷ l) (v ++ y ∷ m) e).1 rest tail p q in
      let body = body_one c b i j first r t in
      let before = behind.before in
      let sections = behind.sections in
      record { before = λ k. first k ∷ before k; next = behind.next; sections = λ k. section n (first k) (body k) ∷ sections k }

  pub one_sentences_end : (lines ss us : List (List ℕ)) (st u : Status) → EndsAtSentences g lines ss st → EndsAtSentences g lines us u → (ss ≡ us) × (st ≡ u)
  one_sentences_end lines ss us st u (at_one {next = x} p r) (at_one {next = y} q t) =
      let stop = one_stop 1 p.written q.written x y p.left q.left ss us (sym p.split ∙ q.split) p.are q.are
      (λ w. not_both g (suc (length p.written)) x st w r) (λ w. not_both g (suc (length q.written)) y u w t) in
      let before = stop.before in
      let next = stop.next in
      let moved = subst (λ (z : ℕ × List ℕ). IsRefused g z.0 z.1 st) (λ i. (suc (length (before i)), next i)) r in
      (stop.sections, one_refusal g (suc (length q.written)) y st u moved t)
  one_sentences_end lines ss us st u (at_one {next = x} p r) (at_end are) =
      let within = sections_within 1 lines us x are (subst (In x) (sym p.split) (in_middle p.written x p.left)) in
      absurd (not_both g (suc (length p.written)) x st within r)
  one_sentences_end lines ss us st u (at_end are) (at_one {next = y} q t) =
      let within = sections_within 1 lines ss y are (subst (In y) (sym q.split) (in_middle q.written y q.left)) in
      absurd (not_both g (suc (length q.written)) y u within t)
  one_sentences_end lines ss us st u (at_end are) (at_end be) = (one_sections 1 lines ss us are be, refl)

-- what is written of sentences by the one grammar is written by the other, and is one list
pub sections_alike : (g h : Grammar) → AreAlike g h → (n : ℕ) (lines ss : List (List ℕ)) → AreSections (AreReadings g) n lines ss → AreSections (AreReadings h) n lines ss
sections_alike g h a n lines ss are = sections_by n lines ss (bodies_alike g h a) are

pub one_sections_alike : (g h : Grammar) → AreAlike g h → (n : ℕ) (lines ss us : List (List ℕ)) → AreSections (AreReadings g) n lines ss → AreSections (AreReadings h) n lines us → ss ≡ us
one_sections_alike g h a n lines ss us are be = one_sections h n lines ss us (sections_alike g h a n lines ss are) be

-- what ends by the one grammar so ends by the other
pub sentences_end_alike : (g h : Grammar) → AreAlike g h → (lines ss : List (List ℕ)) (st : Status) → EndsAtSentences g lines ss st → EndsAtSentences h lines ss st
sentences_end_alike g h a lines ss st (at_one {next} p r) =
    at_one (record { written = p.written; left = p.left; split = p.split; are = sections_alike g h a 1 p.written ss p.are })
    (refused_alike g h a (suc (length p.written)) next st r)
sentences_end_alike g h a lines ss st (at_end are) = at_end (sections_alike g h a 1 lines ss are)

-- ---- a run that ends behind the last sentence, and one whose sentences all keep to the limits

pub sections_at_end : (g : Grammar) (lines ss : List (List ℕ)) (st : Status) → st ≡ Done → EndsAtSentences g lines ss st → AreSections (AreReadings g) 1 lines ss
sections_at_end g lines ss st e (at_end are) = are
sections_at_end g lines ss st e (at_one {next} p r) = absurd (not_done g (suc (length p.written)) next st r e)
  where
    not_done : (g : Grammar) (n : ℕ) (line : List ℕ) (st : Status) → IsRefused g n line st → st ≡ Done → ⊥
    not_done g n line st (too_long l) e = cc
    not_done g n line st (too_large f c) e = cc

pub within_is_done : (g : Grammar) (lines ss : List (List ℕ)) (st : Status) → ((line : List ℕ) → In line lines → IsWithin g line) → EndsAtSentences g lines ss st → st ≡ Done
within_is_done g lines ss st all (at_end are) = refl
within_is_done g lines ss st all (at_one {next} p r) =
    absurd (not_both g (suc (length p.written)) next st (all next (subst (In next) (sym p.split) (in_middle p.written next p.left))) r)
