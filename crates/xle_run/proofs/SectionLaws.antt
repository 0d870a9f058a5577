-- Sections that are put one after another.
use Rattle.std.proofs.Common.{◌≡◌, ℕ, zero, suc, ◌+◌, ◌<◌, ◌≤◌, List, [], ◌∷◌, ◌++◌, length, take, drop, get_or, Some, Option, refl, sym, subst, ap, ◌∙◌, arith, append_assoc}
use Rattle.std.specs.Prelude.{◌≢◌, Ok, Err, Bool, map, not, ◌==◌, true, false}
use Rattle.std.specs.Str.Lines.{lines}
use Rattle.std.proofs.lemmas.List.{length-append, take_more, take-append-drop, length-take-le, get_or-map, length-map}
use Rattle.std.proofs.lemmas.Grind.{flat_map-append}
use Rattle.std.proofs.Math.Seq.{drop-cons}
use Rattle.lfg_terms.specs.declared.grammar.Grammar.{Grammar}
use Rattle.lfg_model.specs.declared.status.Status.{Status}
use Rattle.lfg_model.specs.declared.status.Status.TheVariants.{Done, Usage, ReadFault, FileTooLong, BadGrammar, WriteFault, Memory}
use Rattle.lfg_model.specs.ThinText.{is_thin_line, ThinSentences}
use Rattle.lfg_model.proofs.Classing.{all_pass}
use Rattle.lfg_model.proofs.Filters.{In_filter}
use Rattle.lfg_model.specs.Output.{section, AreSections, none, more, AreReadings, joined, sentences_of}
use Rattle.lfg_model.proofs.OutputLaws.{AreReadings-one, AreSections-one}
use Rattle.xle_run.specs.Writes.{IsSectionOf, HasPut, LeavesRoom, PutsSection, PutsSections, PutsWithin, AreSentences}

-- one section more
AreSections-push : (P : List ℕ → List ℕ → Type 0) (k : ℕ) (ls ss : List (List ℕ)) (line body : List ℕ) → AreSections P k ls ss → P line body
    → AreSections P k (ls ++ line ∷ []) (ss ++ section (k + length ls) line body ∷ [])
AreSections-push P k [] [] line body none p =
    let e : k ≡ k + 0 = omega arith in
    subst (λ (n : ℕ). AreSections P k (line ∷ []) (section n line body ∷ [])) e (more p none)
AreSections-push P k [] (s ∷ ss) line body h p = elim h [ ]
AreSections-push P k (l ∷ ls) [] line body h p = elim h [ ]
AreSections-push P k (l ∷ ls) (s ∷ ss) line body (more q rest) p =
    let e : suc k + length ls ≡ k + suc (length ls) = omega arith in
    more q (subst (λ (n : ℕ). AreSections P (suc k) (ls ++ line ∷ []) (ss ++ section n line body ∷ [])) e (AreSections-push P (suc k) ls ss line body rest p))

joined-push : (ss : List (List ℕ)) (s : List ℕ) → joined (ss ++ s ∷ []) ≡ joined ss ++ s
joined-push ss s = flat_map-append (λ piece. piece) ss (s ∷ []) ∙ ap (λ t. joined ss ++ t) (append_nil s)
  where
    append_nil : (xs : List ℕ) → xs ++ [] ≡ xs
    append_nil [] = refl
    append_nil (x ∷ xs) = ap (λ ys. x ∷ ys) (append_nil xs)

same_some : {X : Type 0} {x y : X} → Some x ≡ Some y → x ≡ y
same_some q = cc

module _ (g : Grammar) (xs : List (List ℕ)) (before : List ℕ) where
  -- nothing is put at the beginning
  pub put_none : (now : Option (List ℕ)) → now ≡ Some before → HasPut g (take 0 xs) before now
  put_none now e = record { sections = []; are = none; is = e ∙ ap Some (sym (append_nil before)) }
    where
      append_nil : (ys : List ℕ) → ys ++ [] ≡ ys
      append_nil [] = refl
      append_nil (y ∷ ys) = ap (λ zs. y ∷ zs) (append_nil ys)

  -- the bytes that stand once the first i sentences are put
  pub bytes_put : (i : ℕ) (now : Option (List ℕ)) → HasPut g (take i xs) before now → (mid : List ℕ) × (now ≡ Some mid)
  bytes_put i now h = (before ++ joined h.sections, h.is)

  -- one section more
  pub put_more : (i : ℕ) (d mid bytes : List ℕ) (midway now : Option (List ℕ)) → i < length xs → HasPut g (take i xs) before midway → midway ≡ Some mid
      → IsSectionOf g (i + 1) (get_or xs i d) bytes → now ≡ Some (mid ++ bytes) → HasPut g (take (i + 1) xs) before now
  put_more i d mid bytes midway now l h e p f =
      let line = get_or xs i d in
      let body = p.body in
      let n : 1 + length (take i xs) ≡ i + 1 = omega (arith, length-take-le i xs) in
      let are = AreSections-push (AreReadings g) 1 (take i xs) h.sections line body h.are p.readings in
      let are' = subst (λ (k : ℕ). AreSections (AreReadings g) 1 (take i xs ++ line ∷ []) (h.sections ++ section k line body ∷ [])) n are in
      let at : mid ≡ before ++ joined h.sections = same_some (sym e ∙ h.is) in
      record {
        sections = h.sections ++ section (i + 1) line body ∷ [];
        are = subst (λ ls. AreSections (AreReadings g) 1 ls (h.sections ++ section (i + 1) line body ∷ [])) (sym (take_more xs i d l)) are';
        is = f ∙ ap Some (ap (λ bs. mid ++ bs) p.is ∙ ap (λ m. m ++ section (i + 1) line body) at ∙ append_assoc before (joined h.sections) (section (i + 1) line body)
            ∙ ap (λ bs. before ++ bs) (sym (joined-push h.sections (section (i + 1) line body))));
      }

  split_at : (i : ℕ) (d : List ℕ) → i < length xs → xs ≡ take i xs ++ get_or xs i d ∷ drop (suc i) xs
  split_at i d l = sym (take-append-drop i xs) ∙ ap (λ ys. take i xs ++ ys) (drop-cons xs i d l)

  -- where the next section is cut, or memory is wanted for it
  pub put_failed : (T U : Type 0) (i : ℕ) (d mid : List ℕ) (midway now : Option (List ℕ)) (s : Status) → i < length xs → HasPut g (take i xs) before midway → midway ≡ Some mid
      → PutsSection {T = T} g (i + 1) (get_or xs i d) mid now (Err s) → PutsSections {T = U} g xs before now (Err s)
  put_failed T U i d mid midway now Memory l h e p =
      let at : mid ≡ before ++ joined h.sections = same_some (sym e ∙ h.is) in
      (joined h.sections, record { written = take i xs; left = drop i xs; split = sym (take-append-drop i xs); sections = h.sections; are = h.are; is = refl }, p ∙ ap Some at)
  put_failed T U i d mid midway now WriteFault l h e p =
      let at : mid ≡ before ++ joined h.sections = same_some (sym e ∙ h.is) in
      let n : i + 1 ≡ suc (length (take i xs)) = omega (arith, length-take-le i xs) in
      let line = get_or xs i d in
      let cut = take p.1 (section (suc (length (take i xs))) line p.2.body) in
      let here : take p.1 p.0 ≡ cut = ap (take p.1) (p.2.is ∙ ap (λ k. section k line p.2.body) n) in (
        joined h.sections ++ cut,
        record {
          written = take i xs;
          next = line;
          left = drop (suc i) xs;
          split = split_at i d l;
          sections = h.sections;
          are = h.are;
          body = p.2.body;
          is_body = p.2.readings;
          count = p.1;
          is = refl;
        },
        p.3 ∙ ap Some (ap (λ bs. mid ++ bs) here ∙ ap (λ m. m ++ cut) at ∙ append_assoc before (joined h.sections) cut),
      )
  put_failed T U i d mid midway now Done l h e p = p
  put_failed T U i d mid midway now Usage l h e p = p
  put_failed T U i d mid midway now (ReadFault name) l h e p = p
  put_failed T U i d mid midway now (FileTooLong name) l h e p = p
  put_failed T U i d mid midway now (BadGrammar name fault) l h e p = p

  -- at the end all sentences have their sections
  pub put_all : (i : ℕ) (now : Option (List ℕ)) → length xs ≤ i → HasPut g (take i xs) before now → HasPut g xs before now
  put_all i now l h = subst (λ ys. HasPut g ys before now) (take_all i xs l) h
    where
      take_all : (k : ℕ) (ys : List (List ℕ)) → length ys ≤ k → take k ys ≡ ys
      take_all k [] q = take_nil k
        where
          take_nil : (k : ℕ) → take {A = List ℕ} k [] ≡ []
          take_nil zero = refl
          take_nil (suc k) = refl
      take_all zero (y ∷ ys) q = let no : ⊥ = omega arith in absurd no
      take_all (suc k) (y ∷ ys) q = ap (λ zs. y ∷ zs) (take_all k ys (omega arith))

-- the same, for sentences that are seen through references
module _ {A : Type 0} (f : A → List ℕ) (items : List A) (g : Grammar) (before : List ℕ) where
  pub put_failed_at : (T U : Type 0) (i : ℕ) (d : A) (midway now : Option (List ℕ)) (s : Status) → i < length items → HasPut g (take i (map f items)) before midway
      → ((mid : List ℕ) → midway ≡ Some mid → PutsSection {T = T} g (i + 1) (f (get_or items i d)) mid now (Err s)) → PutsSections {T = U} g (map f items) before now (Err s)
  put_failed_at T U i d midway now s l h p =
      let m = bytes_put g (map f items) before i midway h in
      let l' : i < length (map f items) = simp length-map l in
      put_failed g (map f items) before T U i [] m.0 midway now s l' h m.1
      (subst (λ line. PutsSection {T = T} g (i + 1) line m.0 now (Err s)) (sym (get_or-map f items i d [] l)) (p m.0 m.1))

  pub put_more_at : (i : ℕ) (d : A) (midway now : Option (List ℕ)) → i < length items → HasPut g (take i (map f items)) before midway
      → ((mid : List ℕ) → midway ≡ Some mid → (bytes : List ℕ) × IsSectionOf g (i + 1) (f (get_or items i d)) bytes × (now ≡ Some (mid ++ bytes))) → HasPut g (take (i + 1) (map f items)) before now
  put_more_at i d midway now l h p =
      let m = bytes_put g (map f items) before i midway h in
      let q = p m.0 m.1 in
      let l' : i < length (map f items) = simp length-map l in
      put_more g (map f items) before i [] m.0 q.0 midway now l' h m.1 (subst (λ line. IsSectionOf g (i + 1) line q.0) (sym (get_or-map f items i d [] l)) q.1) q.2

  pub put_all_at : (i : ℕ) (now : Option (List ℕ)) → length items ≤ i → HasPut g (take i (map f items)) before now → HasPut g (map f items) before now
  put_all_at i now l h = let l' : length (map f items) ≤ i = simp length-map l in put_all g (map f items) before i now l' h

-- ---- the room

-- the section behind some others
pub record Split (P : List ℕ → List ℕ → Type 0) (n : ℕ) (ls : List (List ℕ)) (line : List ℕ) (all : List (List ℕ)) : Type 0 where
  pub fronts : List (List ℕ)
  pub body : List ℕ
  pub backs : List (List ℕ)
  pub is : all ≡ fronts ++ section (n + length ls) line body ∷ backs
  pub are : AreSections P n ls fronts
  pub readings : P line body

AreSections-split : (P : List ℕ → List ℕ → Type 0) (n : ℕ) (ls : List (List ℕ)) (line : List ℕ) (rest all : List (List ℕ)) → AreSections P n (ls ++ line ∷ rest) all → Split P n ls line all
AreSections-split P n [] line rest [] h = elim h [ ]
AreSections-split P n [] line rest (s ∷ ss) (more {body = b} p q) =
    let e : n ≡ n + 0 = omega arith in
    record { fronts = []; body = b; backs = ss; is = ap (λ (k : ℕ). section k line b ∷ ss) e; are = none; readings = p }
AreSections-split P n (l ∷ ls) line rest [] h = elim h [ ]
AreSections-split P n (l ∷ ls) line rest (s ∷ ss) (more {body = b} p q) =
    let r = AreSections-split P (suc n) ls line rest ss q in
    let e : suc n + length ls ≡ n + suc (length ls) = omega arith in
    record {
      fronts = section n l b ∷ r.fronts;
      body = r.body;
      backs = r.backs;
      is = ap (λ (us : List (List ℕ)). section n l b ∷ us) (r.is ∙ ap (λ (k : ℕ). r.fronts ++ section k line r.body ∷ r.backs) e);
      are = more p r.are;
      readings = r.readings;
    }

joined-length : (ss : List (List ℕ)) (s : List ℕ) (us : List (List ℕ)) → length (joined (ss ++ s ∷ us)) ≡ length (joined ss) + (length s + length (joined us))
joined-length ss s us = ap length (flat_map-append (λ piece. piece) ss (s ∷ us)) ∙ length-append (joined ss) (s ++ joined us) ∙ ap (λ (k : ℕ). length (joined ss) + k) (length-append s (joined us))

module _ {A : Type 0} (f : A → List ℕ) (items : List A) (g : Grammar) where
  pub room_none : (r : ℕ) → LeavesRoom g (take 0 (map f items)) r r
  room_none r = record { sections = []; are = none; left = λ l. omega arith }

  pub room_more : (T : Type 0) (v : T) (i : ℕ) (d : A) (before midway now : ℕ) → i < length items → LeavesRoom g (take i (map f items)) before midway
      → PutsWithin g (i + 1) (f (get_or items i d)) midway now (Ok v) → LeavesRoom g (take (i + 1) (map f items)) before now
  room_more T v i d before midway now l h p =
      let xs = map f items in
      let l' : i < length xs = simp length-map l in
      let line = get_or xs i [] in
      let same : line ≡ f (get_or items i d) = get_or-map f items i d [] l in
      let s = section (i + 1) line p.1.body in
      let n : 1 + length (take i xs) ≡ i + 1 = omega (arith, length-take-le i xs) in
      let are = AreSections-push (AreReadings g) 1 (take i xs) h.sections line p.1.body h.are (subst (λ (w : List ℕ). AreReadings g w p.1.body) (sym same) p.1.readings) in
      let are' = subst (λ (k : ℕ). AreSections (AreReadings g) 1 (take i xs ++ line ∷ []) (h.sections ++ section k line p.1.body ∷ [])) n are in
      let here : p.0 ≡ s = p.1.is ∙ ap (λ (w : List ℕ). section (i + 1) w p.1.body) (sym same) in
      let size : length p.0 ≡ length s = ap length here in
      let all : length (joined (h.sections ++ s ∷ [])) ≡ length (joined h.sections) + length s = ap length (joined-push h.sections s) ∙ length-append (joined h.sections) s in
      record {
        sections = h.sections ++ s ∷ [];
        are = subst (λ (ls : List (List ℕ)). AreSections (AreReadings g) 1 ls (h.sections ++ s ∷ [])) (sym (take_more xs i [] l')) are';
        left = λ few.
            let a : length (joined h.sections) ≤ before = omega (arith, few, all) in
            let b = h.left a in
            let c : length p.0 ≤ midway = omega (arith, few, all, b, size) in
            let e = p.2 c in
            omega (arith, b, e, all, size);
      }

  pub room_failed : (T : Type 0) (i : ℕ) (d : A) (before midway now : ℕ) (s : Status) → i < length items → LeavesRoom g (take i (map f items)) before midway
      → PutsWithin {T = T} g (i + 1) (f (get_or items i d)) midway now (Err s) → (all : List (List ℕ)) → AreSections (AreReadings g) 1 (map f items) all
      → length (joined all) ≤ before → s ≢ WriteFault
  room_failed T i d before midway now s l h p all are few e =
      let q = subst (λ (u : Status). PutsWithin {T = T} g (i + 1) (f (get_or items i d)) midway now (Err u)) e p in
      let xs = map f items in
      let l' : i < length xs = simp length-map l in
      let line = get_or xs i [] in
      let same : line ≡ f (get_or items i d) = get_or-map f items i d [] l in
      let cut : xs ≡ take i xs ++ line ∷ drop (suc i) xs = split_at g xs [] i [] l' in
      let r = AreSections-split (AreReadings g) 1 (take i xs) line (drop (suc i) xs) all (subst (λ (ls : List (List ℕ)). AreSections (AreReadings g) 1 ls all) cut are) in
      let n : 1 + length (take i xs) ≡ i + 1 = omega (arith, length-take-le i xs) in
      let front : r.fronts ≡ h.sections = AreSections-one g 1 (take i xs) r.fronts h.sections r.are h.are in
      let body : r.body ≡ q.1.body = AreReadings-one g line r.body q.1.body r.readings (subst (λ (w : List ℕ). AreReadings g w q.1.body) (sym same) q.1.readings) in
      let here : section (1 + length (take i xs)) line r.body ≡ q.0 =
      ap (λ (k : ℕ). section k line r.body) n ∙ ap (λ (w : List ℕ). section (i + 1) w r.body) same ∙ ap (λ (b : List ℕ). section (i + 1) (f (get_or items i d)) b) body ∙ sym q.1.is in
      let total : length (joined all) ≡ length (joined r.fronts) + (length (section (1 + length (take i xs)) line r.body) + length (joined r.backs)) =
      ap (λ (us : List (List ℕ)). length (joined us)) r.is ∙ joined-length r.fronts _ r.backs in
      let x : length (joined r.fronts) ≡ length (joined h.sections) = ap (λ (us : List (List ℕ)). length (joined us)) front in
      let y : length (section (1 + length (take i xs)) line r.body) ≡ length q.0 = ap length here in
      let a : length (joined h.sections) ≤ before = omega (arith, few, total, x) in
      let b = h.left a in
      q.2 (omega (arith, few, total, x, y, b))

-- ---- the sentences of a text

-- nothing was put where there was no memory for the sentences
pub puts_nothing : (T : Type 0) (g : Grammar) (xs : List (List ℕ)) (before : List ℕ) (now : Option (List ℕ)) → now ≡ Some before → PutsSections {T = T} g xs before now (Err Memory)
puts_nothing T g xs before now e =
    ([], record { written = []; left = xs; split = refl; sections = []; are = none; is = refl }, e ∙ ap Some (sym (nil_after before)))
  where
    nil_after : (ys : List ℕ) → ys ++ [] ≡ ys
    nil_after [] = refl
    nil_after (y ∷ ys) = ap (λ zs. y ∷ zs) (nil_after ys)

pub are_sentences : (text : List ℕ) → ThinSentences text → AreSentences (sentences_of text)
are_sentences text thin = record {
  each = λ line i.
      let k = In_filter (λ l. not (length l == 0)) (lines text) line i in
      record { thin = all_pass is_thin_line k.0 thin.thin; some = is_false (length line == 0) k.1 };
}
  where
    is_false : (b : Bool) → not b ≡ true → b ≡ false
    is_false true e = sym e
    is_false false e = refl
