-- A command over files has one output.
use Rattle.std.proofs.Common.{◌≡◌, ℕ, suc, ◌<◌, ◌≤◌, List, [], ◌∷◌, Option, Some, None, refl, sym, ap, subst, ◌∙◌, arith, length}
use Rattle.std.specs.List.{flat_map}
use Rattle.lfg_terms.specs.declared.grammar.Grammar.{Grammar}
use Rattle.lfg_model.specs.declared.status.GrammarFault.{GrammarFault}
use Rattle.lfg_model.specs.declared.status.Status.{Status}
use Rattle.lfg_model.specs.declared.status.Status.TheVariants.{Done, BadGrammar}
use Rattle.lfg_model.specs.PairTexts.{pair_text}
use Rattle.lfg_model.specs.ThinText.{ThinFile, ThinSentences}
use Rattle.lfg_model.specs.Output.{Command, readings, section, AreSections, none, more, AreReadings, file_limit, IsFaultOf, at_fault, not_thin, IsOutput, usage, no_grammar, long_grammar, bad_grammar, no_sentences, long_sentences, bad_sentences, all_read, sentences_of, AreAccepted, both_thin, IfBadGrammar, IfTooLong, OneOutput}
use Rattle.lfg_model.proofs.LoadLaws.{one_load_fault, loaded_has_no_fault}
use Rattle.lfg_model.proofs.OneTree.{same_some}
use Rattle.lfg_model.proofs.ReadingLaws.{readings_are_one}
use Rattle.lfg_model.proofs.ThinLaws.{one_thin_grammar}

-- what is written of a sentence is one text
pub AreReadings-one : (g : Grammar) (line a b : List ℕ) → AreReadings g line a → AreReadings g line b → a ≡ b
AreReadings-one g line a b p q =
    let same : p.pairs ≡ q.pairs = readings_are_one g _ p.pairs q.pairs p.readings q.readings in
    p.is ∙ ap (flat_map pair_text) same ∙ sym q.is

-- sections are one list
pub AreSections-one : (g : Grammar) (n : ℕ) (lines ss us : List (List ℕ)) → AreSections (AreReadings g) n lines ss → AreSections (AreReadings g) n lines us → ss ≡ us
AreSections-one g n [] [] [] none none = refl
AreSections-one g n [] [] (u ∷ us) p q = elim q [ ]
AreSections-one g n [] (s ∷ ss) us p q = elim p [ ]
AreSections-one g n (l ∷ ls) [] us p q = elim p [ ]
AreSections-one g n (l ∷ ls) (s ∷ ss) [] p q = elim q [ ]
AreSections-one g n (l ∷ ls) (s ∷ ss) (u ∷ us) (more {body = a} h p) (more {body = b} k q) =
    let same : a ≡ b = AreReadings-one g l a b h k in
    let rest : ss ≡ us = AreSections-one g (suc n) ls ss us p q in
    λ i. section n l (same i) ∷ rest i

some_none : {X : Type 0} {o : Option X} {x : X} → o ≡ None → o ≡ Some x → ⊥
some_none e f = cc

-- ---- why a file is not accepted

pub one_fault_of : (bytes : List ℕ) (e f : GrammarFault) → IsFaultOf bytes e → IsFaultOf bytes f → e ≡ f
one_fault_of bytes e f (at_fault x) (at_fault y) = one_load_fault bytes e f x y
one_fault_of bytes e f (at_fault x) (not_thin {grammar} l q) = absurd (loaded_has_no_fault bytes grammar e l x)
one_fault_of bytes e f (not_thin {grammar} l p) (at_fault y) = absurd (loaded_has_no_fault bytes grammar f l y)
one_fault_of bytes e f (not_thin l p) (not_thin m q) = p ∙ sym q

-- ---- one output

module _ (files : List ℕ → Option (List ℕ)) where
  same_bytes : (name a b : List ℕ) → files name ≡ Some a → files name ≡ Some b → a ≡ b
  same_bytes name a b e f = same_some a b (sym e ∙ f)

  same_grammar : (name a b : List ℕ) (g h : Grammar) → files name ≡ Some a → ThinFile a g → files name ≡ Some b → ThinFile b h → g ≡ h
  same_grammar name a b g h e t f u =
      one_thin_grammar a g h t (subst (λ (bs : List ℕ). ThinFile bs h) (same_bytes name b a f e) u)

  thin_not : (name a b : List ℕ) (g : Grammar) → files name ≡ Some a → ((h : Grammar) → ¬ ThinFile a h) → files name ≡ Some b → ThinFile b g → ⊥
  thin_not name a b g e n f t = n g (subst (λ (bs : List ℕ). ThinFile bs g) (same_bytes name b a f e) t)

  text_not : (name a b : List ℕ) → files name ≡ Some a → ¬ ThinSentences a → files name ≡ Some b → ThinSentences b → ⊥
  text_not name a b e n f t = n (subst ThinSentences (same_bytes name b a f e) t)

  -- a file is not longer than the limit and shorter
  long_not : (name a b : List ℕ) → files name ≡ Some a → file_limit < length a → files name ≡ Some b → length b ≤ file_limit → ⊥
  long_not name a b e l f m = let h : length a ≡ length b = ap length (same_bytes name a b e f) in omega (arith, l, m, h)

  thin_short : (bytes : List ℕ) (g : Grammar) → ThinFile bytes g → length bytes ≤ file_limit
  thin_short bytes g t = let h = t.short in omega (arith, h)

  text_short : (bytes : List ℕ) → ThinSentences bytes → length bytes ≤ file_limit
  text_short bytes t = let h = t.short in omega (arith, h)

  same_fault : (name a b : List ℕ) (e f : GrammarFault) → files name ≡ Some a → IsFaultOf a e → files name ≡ Some b → IsFaultOf b f → e ≡ f
  same_fault name a b e f p h q k = one_fault_of a e f h (subst (λ (bs : List ℕ). IsFaultOf bs f) (same_bytes name b a q p) k)

  same_sections : (g h : Grammar) (a b : List ℕ) (ss us : List (List ℕ)) → g ≡ h → a ≡ b → AreSections (AreReadings g) 1 (sentences_of a) ss
      → AreSections (AreReadings h) 1 (sentences_of b) us → ss ≡ us
  same_sections g h a b ss us e f p q =
      AreSections-one h 1 (sentences_of b) ss us (subst (λ (x : Grammar × List ℕ). AreSections (AreReadings x.0) 1 (sentences_of x.1) ss) (λ i. (e i, f i)) p) q

  -- the sections of the output are those of the sentences
  pub sections_of_output : (g s a t : List ℕ) (grammar : Grammar) (ss : List (List ℕ)) (st : Status) → files g ≡ Some a → ThinFile a grammar → files s ≡ Some t
      → IsOutput files (Some (readings g s)) ss st → st ≡ Done → AreSections (AreReadings grammar) 1 (sentences_of t) ss
  sections_of_output g s a t grammar ss st e thin f (no_grammar h) d = cc
  sections_of_output g s a t grammar ss st e thin f (long_grammar h l) d = cc
  sections_of_output g s a t grammar ss st e thin f (bad_grammar h l n w) d = cc
  sections_of_output g s a t grammar ss st e thin f (no_sentences h u n) d = cc
  sections_of_output g s a t grammar ss st e thin f (long_sentences h u n l) d = cc
  sections_of_output g s a t grammar ss st e thin f (bad_sentences h u n l v) d = cc
  sections_of_output g s a t grammar ss st e thin f (all_read {bytes = b} {text = text} {grammar = other} h u n v are) d =
      let same : other ≡ grammar = same_grammar g b a other grammar h u e thin in
      let one : text ≡ t = same_bytes s text t n f in
      subst (λ (x : Grammar × List ℕ). AreSections (AreReadings x.0) 1 (sentences_of x.1) ss) (λ i. (same i, one i)) are

  -- no file of an accepted command is refused
  pub accepted_not_bad : (c : Option Command) (ss : List (List ℕ)) (st : Status) → AreAccepted files c → IsOutput files c ss st → IfBadGrammar st (λ name fault. ⊥)
  accepted_not_bad c ss st (both_thin e t f u) (no_grammar h) = tt
  accepted_not_bad c ss st (both_thin e t f u) (long_grammar h l) = tt
  accepted_not_bad c ss st (both_thin e t f u) (bad_grammar h l n w) = thin_not _ _ _ _ h n e t
  accepted_not_bad c ss st (both_thin e t f u) (no_sentences h v n) = tt
  accepted_not_bad c ss st (both_thin e t f u) (long_sentences h v n l) = tt
  accepted_not_bad c ss st (both_thin e t f u) (bad_sentences h v n l m) = text_not _ _ _ n m f u
  accepted_not_bad c ss st (both_thin e t f u) (all_read h v n w are) = tt

  -- or too long
  pub accepted_not_long : (c : Option Command) (ss : List (List ℕ)) (st : Status) → AreAccepted files c → IsOutput files c ss st → IfTooLong st (λ name. ⊥)
  accepted_not_long c ss st (both_thin e t f u) (no_grammar h) = tt
  accepted_not_long c ss st (both_thin e t f u) (long_grammar h l) = long_not _ _ _ h l e (thin_short _ _ t)
  accepted_not_long c ss st (both_thin e t f u) (bad_grammar h l n w) = tt
  accepted_not_long c ss st (both_thin e t f u) (no_sentences h v n) = tt
  accepted_not_long c ss st (both_thin e t f u) (long_sentences h v n l) = long_not _ _ _ n l f (text_short _ u)
  accepted_not_long c ss st (both_thin e t f u) (bad_sentences h v n l m) = tt
  accepted_not_long c ss st (both_thin e t f u) (all_read h v n w are) = tt

pub one_output : OneOutput
one_output files c ss us s u usage usage = (refl, refl)
one_output files c ss us s u (no_grammar e1) (no_grammar e2) = (refl, refl)
one_output files c ss us s u (no_grammar e1) (long_grammar e2 l2) = absurd (some_none e1 e2)
one_output files c ss us s u (no_grammar e1) (bad_grammar e2 l2 n2 w2) = absurd (some_none e1 e2)
one_output files c ss us s u (no_grammar e1) (no_sentences e2 t2 n2) = absurd (some_none e1 e2)
one_output files c ss us s u (no_grammar e1) (long_sentences e2 t2 n2 l2) = absurd (some_none e1 e2)
one_output files c ss us s u (no_grammar e1) (bad_sentences e2 t2 n2 l2 m2) = absurd (some_none e1 e2)
one_output files c ss us s u (no_grammar e1) (all_read e2 t2 n2 v2 are2) = absurd (some_none e1 e2)
one_output files c ss us s u (long_grammar e1 l1) (no_grammar e2) = absurd (some_none e2 e1)
one_output files c ss us s u (long_grammar e1 l1) (long_grammar e2 l2) = (refl, refl)
one_output files c ss us s u (long_grammar e1 l1) (bad_grammar e2 l2 n2 w2) = absurd (long_not files _ _ _ e1 l1 e2 l2)
one_output files c ss us s u (long_grammar e1 l1) (no_sentences e2 t2 n2) = absurd (long_not files _ _ _ e1 l1 e2 (thin_short files _ _ t2))
one_output files c ss us s u (long_grammar e1 l1) (long_sentences e2 t2 n2 l2) = absurd (long_not files _ _ _ e1 l1 e2 (thin_short files _ _ t2))
one_output files c ss us s u (long_grammar e1 l1) (bad_sentences e2 t2 n2 l2 m2) = absurd (long_not files _ _ _ e1 l1 e2 (thin_short files _ _ t2))
one_output files c ss us s u (long_grammar e1 l1) (all_read e2 t2 n2 v2 are2) = absurd (long_not files _ _ _ e1 l1 e2 (thin_short files _ _ t2))
one_output files c ss us s u (bad_grammar e1 l1 n1 w1) (no_grammar e2) = absurd (some_none e2 e1)
one_output files c ss us s u (bad_grammar e1 l1 n1 w1) (long_grammar e2 l2) = absurd (long_not files _ _ _ e2 l2 e1 l1)
one_output files c ss us s u (bad_grammar {g = g} e1 l1 n1 w1) (bad_grammar e2 l2 n2 w2) = (refl, ap (λ (f : GrammarFault). BadGrammar g f) (same_fault files _ _ _ _ _ e1 w1 e2 w2))
one_output files c ss us s u (bad_grammar e1 l1 n1 w1) (no_sentences e2 t2 n2) = absurd (thin_not files _ _ _ _ e1 n1 e2 t2)
one_output files c ss us s u (bad_grammar e1 l1 n1 w1) (long_sentences e2 t2 n2 l2) = absurd (thin_not files _ _ _ _ e1 n1 e2 t2)
one_output files c ss us s u (bad_grammar e1 l1 n1 w1) (bad_sentences e2 t2 n2 l2 m2) = absurd (thin_not files _ _ _ _ e1 n1 e2 t2)
one_output files c ss us s u (bad_grammar e1 l1 n1 w1) (all_read e2 t2 n2 v2 are2) = absurd (thin_not files _ _ _ _ e1 n1 e2 t2)
one_output files c ss us s u (no_sentences e1 t1 n1) (no_grammar e2) = absurd (some_none e2 e1)
one_output files c ss us s u (no_sentences e1 t1 n1) (long_grammar e2 l2) = absurd (long_not files _ _ _ e2 l2 e1 (thin_short files _ _ t1))
one_output files c ss us s u (no_sentences e1 t1 n1) (bad_grammar e2 l2 n2 w2) = absurd (thin_not files _ _ _ _ e2 n2 e1 t1)
one_output files c ss us s u (no_sentences e1 t1 n1) (no_sentences e2 t2 n2) = (refl, refl)
one_output files c ss us s u (no_sentences e1 t1 n1) (long_sentences e2 t2 n2 l2) = absurd (some_none n1 n2)
one_output files c ss us s u (no_sentences e1 t1 n1) (bad_sentences e2 t2 n2 l2 m2) = absurd (some_none n1 n2)
one_output files c ss us s u (no_sentences e1 t1 n1) (all_read e2 t2 n2 v2 are2) = absurd (some_none n1 n2)
one_output files c ss us s u (long_sentences e1 t1 n1 l1) (no_grammar e2) = absurd (some_none e2 e1)
one_output files c ss us s u (long_sentences e1 t1 n1 l1) (long_grammar e2 l2) = absurd (long_not files _ _ _ e2 l2 e1 (thin_short files _ _ t1))
one_output files c ss us s u (long_sentences e1 t1 n1 l1) (bad_grammar e2 l2 n2 w2) = absurd (thin_not files _ _ _ _ e2 n2 e1 t1)
one_output files c ss us s u (long_sentences e1 t1 n1 l1) (no_sentences e2 t2 n2) = absurd (some_none n2 n1)
one_output files c ss us s u (long_sentences e1 t1 n1 l1) (long_sentences e2 t2 n2 l2) = (refl, refl)
one_output files c ss us s u (long_sentences e1 t1 n1 l1) (bad_sentences e2 t2 n2 l2 m2) = absurd (long_not files _ _ _ n1 l1 n2 l2)
one_output files c ss us s u (long_sentences e1 t1 n1 l1) (all_read e2 t2 n2 v2 are2) = absurd (long_not files _ _ _ n1 l1 n2 (text_short files _ v2))
one_output files c ss us s u (bad_sentences e1 t1 n1 l1 m1) (no_grammar e2) = absurd (some_none e2 e1)
one_output files c ss us s u (bad_sentences e1 t1 n1 l1 m1) (long_grammar e2 l2) = absurd (long_not files _ _ _ e2 l2 e1 (thin_short files _ _ t1))
one_output files c ss us s u (bad_sentences e1 t1 n1 l1 m1) (bad_grammar e2 l2 n2 w2) = absurd (thin_not files _ _ _ _ e2 n2 e1 t1)
one_output files c ss us s u (bad_sentences e1 t1 n1 l1 m1) (no_sentences e2 t2 n2) = absurd (some_none n2 n1)
one_output files c ss us s u (bad_sentences e1 t1 n1 l1 m1) (long_sentences e2 t2 n2 l2) = absurd (long_not files _ _ _ n2 l2 n1 l1)
one_output files c ss us s u (bad_sentences e1 t1 n1 l1 m1) (bad_sentences e2 t2 n2 l2 m2) = (refl, refl)
one_output files c ss us s u (bad_sentences e1 t1 n1 l1 m1) (all_read e2 t2 n2 v2 are2) = absurd (text_not files _ _ _ n1 m1 n2 v2)
one_output files c ss us s u (all_read e1 t1 n1 v1 are1) (no_grammar e2) = absurd (some_none e2 e1)
one_output files c ss us s u (all_read e1 t1 n1 v1 are1) (long_grammar e2 l2) = absurd (long_not files _ _ _ e2 l2 e1 (thin_short files _ _ t1))
one_output files c ss us s u (all_read e1 t1 n1 v1 are1) (bad_grammar e2 l2 n2 w2) = absurd (thin_not files _ _ _ _ e2 n2 e1 t1)
one_output files c ss us s u (all_read e1 t1 n1 v1 are1) (no_sentences e2 t2 n2) = absurd (some_none n2 n1)
one_output files c ss us s u (all_read e1 t1 n1 v1 are1) (long_sentences e2 t2 n2 l2) = absurd (long_not files _ _ _ n2 l2 n1 (text_short files _ v1))
one_output files c ss us s u (all_read e1 t1 n1 v1 are1) (bad_sentences e2 t2 n2 l2 m2) = absurd (text_not files _ _ _ n2 m2 n1 v1)
one_output files c ss us s u (all_read e1 t1 n1 v1 are1) (all_read e2 t2 n2 v2 are2) = (same_sections files _ _ _ _ ss us (same_grammar files _ _ _ _ _ e1 t1 e2 t2) (same_bytes files _ _ _ n1 n2) are1 are2, refl)
