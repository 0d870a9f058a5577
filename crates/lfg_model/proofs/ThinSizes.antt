-- A thin file has fewer schemata than a grammar may have: no more than it has tokens.
use Rattle.std.proofs.Common.{◌≡◌, ℕ, suc, ◌+◌, ◌<◌, ◌≤◌, Bool, true, false, cond, ◌&&◌, Option, Some, None, List, [], ◌∷◌, length, map, codes, refl, ap, arith}
use Rattle.std.proofs.lemmas.List.{length-map}
use Rattle.std.proofs.lemmas.List.Sums.{sum_by-cons, sum_by-append}
use Rattle.lfg_terms.specs.declared.grammar.Grammar.{Grammar}
use Rattle.lfg_model.specs.declared.lexeme.Lexeme.{Lexeme}
use Rattle.lfg_model.specs.declared.lexeme.Lexeme.TheVariants.{Word, Open, Close, Up, Down, Equals, Colon, Semicolon, Stop, Star, Arrow}
use Rattle.lfg_model.specs.declared.token.Token.{Token}
use Rattle.lfg_model.specs.Drafts as notation
use Rattle.lfg_model.specs.DraftForms.{RuleForm, WordForm, DraftForm}
use Rattle.lfg_model.specs.RightSides.{and_schema, no_schema, draft_annotation_from, RightSide, right_sides_from}
use Rattle.lfg_model.specs.Terms.{Name}
use Rattle.lfg_model.specs.TemplateRules.{annotation_size, side_size, sides_size, Weight, rule_weight, reading_weight, weights, whole_size, schema_limit}
use Rattle.lfg_model.specs.Thin.{Daughter, Phrase, Equation, Entry, Draft}
use Rattle.lfg_model.specs.ThinDrafts.{link_schema, IsItem, unannotated, linked, AreItems, IsRule, AreRules, equation_schema, entry_word, entry_words, IsThinForm}
use Rattle.lfg_model.specs.ThinDrafts as draft
use Rattle.lfg_model.specs.ThinText.{Row, done, more, is_nothing, is_entry_end, is_stop, is_divider, up_to, nothing_before, put_before, behind_annotation, bare, with_function, daughter_at, IsDaughter, names_at, value_at, equation_at, IsEquation, behind_arrow, IsPhrase, behind_star, Heading, IsEntry, IsEnded, behind_heading, IsSection, Says, ThinFile}
use Rattle.lfg_model.specs.ThinText as thin
use Rattle.lfg_model.proofs.DraftLaws.{tokens_few, chars_few}
use Rattle.lfg_model.proofs.OneTree.{same_some}
use Rattle.lfg_model.proofs.ThinExpansion.{plain_of}
use Rattle.lfg_model.proofs.ThinTokens.{same_lexemes, thin_utf8}

none_is : {X Y : Type 0} {x : X} → ◌≡◌ {A = Option X} None (Some x) → Y
none_is e = absurd (let no : ⊥ = cc in no)

-- ---- what is cut off is shorter

-- both lists of a cut are shorter together
cut_shorter : (ends : Lexeme → Bool) (ls front rest : List Lexeme) → up_to ends ls ≡ Some (front, rest) → suc (length front + length rest) ≤ length ls
cut_shorter ends [] front rest e = none_is e
cut_shorter ends (l ∷ ls) front rest e = go (ends l) (up_to ends ls) (λ f r h. cut_shorter ends ls f r h) e
  where
    go : (b : Bool) (o : Option (List Lexeme × List Lexeme)) → ((f r : List Lexeme) → o ≡ Some (f, r) → suc (length f + length r) ≤ length ls) → cond b (nothing_before ls) (put_before l o) ≡ Some (front, rest) → suc (length front + length rest) ≤ suc (length ls)
    go true o h g =
        let p = same_some ([], ls) (front, rest) g in
        let a : 0 ≡ length front = ap (λ (q : List Lexeme × List Lexeme). length q.0) p in
        let b : length ls ≡ length rest = ap (λ (q : List Lexeme × List Lexeme). length q.1) p in
        omega (arith, a, b)
    go false None h g = none_is g
    go false (Some x) h g =
        let p = same_some (l ∷ x.0, x.1) (front, rest) g in
        let a : suc (length x.0) ≡ length front = ap (λ (q : List Lexeme × List Lexeme). length q.0) p in
        let b : length x.1 ≡ length rest = ap (λ (q : List Lexeme × List Lexeme). length q.1) p in
        let c = h x.0 x.1 refl in
        omega (arith, a, b, c)

behind_shorter : (x y : Daughter) (ls rest : List Lexeme) → behind_annotation x ls ≡ Some (y, rest) → length rest ≤ length ls
behind_shorter x y [] rest e = let p : 0 ≡ length rest = ap (λ (q : Daughter × List Lexeme). length q.1) (same_some (x, []) (y, rest) e) in omega arith
behind_shorter x y (Semicolon ∷ ls) rest e = let p : length ls ≡ length rest = ap (λ (q : Daughter × List Lexeme). length q.1) (same_some (x, ls) (y, rest) e) in omega arith
behind_shorter x y _ rest e = none_is e

daughter_shorter : (ls : List Lexeme) (x : Daughter) (rest : List Lexeme) → daughter_at ls ≡ Some (x, rest) → length rest < length ls
unfolding daughter_at
daughter_shorter (Word cat ∷ Colon ∷ Up ∷ Equals ∷ Down ∷ ls) x rest e = let h = behind_shorter (bare cat) x ls rest e in omega arith
daughter_shorter (Word cat ∷ Colon ∷ Open ∷ Up ∷ Word a ∷ Close ∷ Equals ∷ Down ∷ ls) x rest e = let h = behind_shorter (with_function cat a) x ls rest e in omega arith
daughter_shorter (Word cat ∷ Colon ∷ _) x rest e = none_is e
daughter_shorter (Word cat ∷ ls) x rest e = let p : length ls ≡ length rest = ap (λ (q : Daughter × List Lexeme). length q.1) (same_some (bare cat, ls) (x, rest) e) in omega arith
daughter_shorter _ x rest e = none_is e

names_shorter : (ls : List Lexeme) → (let r = names_at ls in length r.1) ≤ length ls
names_shorter [] = omega arith
names_shorter (Word a ∷ ls) = let h = names_shorter ls in omega arith
names_shorter (_ ∷ ls) = omega arith

value_shorter : (names : List Name) (ls : List Lexeme) (x : Equation) (rest : List Lexeme) → value_at (names, ls) ≡ Some (x, rest) → length rest ≤ length ls
value_shorter (a ∷ names) (Close ∷ Equals ∷ Word atom ∷ ls) x rest e =
    let p : length ls ≡ length rest = ap (λ (q : Equation × List Lexeme). length q.1) (same_some (record { path = a ∷ names; atom = atom }, ls) (x, rest) e) in omega arith
value_shorter _ _ x rest e = none_is e

equation_shorter : (ls : List Lexeme) (x : Equation) (rest : List Lexeme) → equation_at ls ≡ Some (x, rest) → length rest < length ls
unfolding equation_at
equation_shorter (Open ∷ Up ∷ ls) x rest e =
    let h = value_shorter (names_at ls).0 (names_at ls).1 x rest e in
    let k = names_shorter ls in
    omega (arith, h, k)
equation_shorter _ x rest e = none_is e

-- ---- rows

-- things that each take a lexeme are no more than the lexemes
row_few : {X : Type 0} (is_end : List Lexeme → Bool) (Stands : List Lexeme → X → List Lexeme → Type 0) → ((ls : List Lexeme) (x : X) (rest : List Lexeme) → Stands ls x rest → length rest < length ls)
    → (ls : List Lexeme) (xs : List X) → Row is_end Stands ls xs → length xs ≤ length ls
row_few is_end Stands shorter ls [] r = omega arith
row_few is_end Stands shorter ls (x ∷ xs) (more {rest = rest} e s r) = let h = shorter ls x rest s in let k = row_few is_end Stands shorter rest xs r in omega arith

-- how many daughters there are, and how many equations
abbrev daughter_count : List Phrase → ℕ
daughter_count [] = 0
daughter_count (p ∷ ps) = length p.daughters + daughter_count ps

abbrev equation_count : List Entry → ℕ
equation_count [] = 0
equation_count (x ∷ xs) = length x.equations + equation_count xs

arrow_shorter : (ls : List Lexeme) (cat : Name) (items : List Lexeme) → behind_arrow ls ≡ Some (cat, items) → length items ≤ length ls
arrow_shorter (Word c ∷ Arrow ∷ ls) cat items e = let p : length ls ≡ length items = ap (λ (q : Name × List Lexeme). length q.1) (same_some (c, ls) (cat, items) e) in omega arith
arrow_shorter _ cat items e = none_is e

star_shorter : (ls : List Lexeme) (h : Heading) (equations : List Lexeme) → behind_star ls ≡ Some (h, equations) → length equations ≤ length ls
star_shorter (Word f ∷ Word c ∷ Star ∷ ls) h equations e = let p : length ls ≡ length equations = ap (λ (q : Heading × List Lexeme). length q.1) (same_some (record { form = f; cat = c }, ls) (h, equations) e) in omega arith
star_shorter _ h equations e = none_is e

phrases_few : (ls : List Lexeme) (ps : List Phrase) → Row is_nothing (IsEnded IsPhrase) ls ps → daughter_count ps ≤ length ls
phrases_few ls [] r = omega arith
phrases_few ls (p ∷ ps) (more {rest = rest} e x r) =
    let i = x.is in
    let a = row_few is_nothing IsDaughter daughter_shorter i.items p.daughters i.row in
    let b = arrow_shorter x.entry p.cat i.items i.head in
    let c = cut_shorter is_stop ls x.entry rest x.cut in
    let d = phrases_few rest ps r in
    omega (arith, a, b, c, d)

entries_few : (ls : List Lexeme) (xs : List Entry) → Row is_nothing (IsEnded IsEntry) ls xs → equation_count xs ≤ length ls
entries_few ls [] r = omega arith
entries_few ls (y ∷ ys) (more {rest = rest} e x r) =
    let i = x.is in
    let a = row_few is_entry_end IsEquation equation_shorter i.equations y.equations i.row in
    let b = star_shorter x.entry (record { form = y.form; cat = y.cat }) i.equations i.head in
    let c = cut_shorter is_stop ls x.entry rest x.cut in
    let d = entries_few rest ys r in
    omega (arith, a, b, c, d)

-- ---- sections

heading_shorter : (kind : Name) (section entries : List Lexeme) → behind_heading kind section ≡ Some entries → length entries ≤ length section
heading_shorter kind (Word _ ∷ Word _ ∷ Word word ∷ Open ∷ Word one ∷ Stop ∷ Word nought ∷ Close ∷ ls) entries e =
    let h = go (thin.same word kind && thin.same one (codes "1") && thin.same nought (codes "0")) e in omega arith
  where
    go : (b : Bool) → cond b (Some ls) None ≡ Some entries → length entries ≤ length ls
    go true f = let p : length ls ≡ length entries = ap length (same_some ls entries f) in omega arith
    go false f = none_is f
heading_shorter kind _ entries e = none_is e

says_few : (ls : List Lexeme) (d : Draft) → Says ls d → daughter_count d.phrases + equation_count d.entries ≤ length ls
says_few ls d s =
    let c = s.sections in
    let a = cut_shorter is_divider ls s.config c.behind_config c.first in
    let b = cut_shorter is_divider c.behind_config s.rules c.behind_rules c.second in
    let e = cut_shorter is_divider c.behind_rules s.lexicon [] c.third in
    let f = phrases_few s.phrases.entries d.phrases s.phrases.row in
    let g = entries_few s.entries.entries d.entries s.entries.row in
    let h = heading_shorter (codes "RULES") s.rules s.phrases.entries s.phrases.is.heading in
    let k = heading_shorter (codes "LEXICON") s.lexicon s.entries.entries s.entries.is.heading in
    omega (arith, a, b, e, f, g, h, k)

-- ---- schemata

item_few : {x : Daughter} {s : RightSide} → IsItem x s → side_size s ≤ 1
item_few (unannotated e) = omega arith
item_few {x} linked = by x.function
  where
    by : (f : Option Name) → annotation_size (and_schema (link_schema f) no_schema) ≤ 1
    by None = omega arith
    by (Some a) = omega arith

items_few : {xs : List Daughter} {ss : List RightSide} → AreItems xs ss → sides_size (right_sides_from ss) ≤ length xs
items_few draft.none = omega arith
items_few (draft.next i r) = let a = item_few i in let b = items_few r in omega (arith, a, b)

rules_few : {n : ℕ} {ps : List Phrase} {rs : List RuleForm} → AreRules n ps rs → whole_size (map rule_weight rs) ≤ daughter_count ps
rules_few draft.none = omega arith
rules_few (draft.next {r} {rs} i t) =
    let a = sum_by-cons (λ (w : Weight). w.size) (rule_weight r) (map rule_weight rs) in
    let b : side_size r.side ≡ sides_size (right_sides_from i.sides) = ap side_size i.side in
    let c = items_few i.items in
    let d = rules_few t in
    omega (arith, a, b, c, d)

equations_size : (es : List Equation) → annotation_size (draft_annotation_from (map equation_schema es)) ≡ length es
equations_size [] = refl
equations_size (e ∷ es) = let h = equations_size es in omega (arith, h)

words_few : (n : ℕ) (xs : List Entry) → whole_size (map reading_weight (entry_words n xs)) ≤ equation_count xs
words_few n [] = omega arith
words_few n (x ∷ xs) =
    let a = sum_by-cons (λ (w : Weight). w.size) (reading_weight (entry_word n x)) (map reading_weight (entry_words (n + 1) xs)) in
    let b = equations_size x.equations in
    let c = words_few (n + 1) xs in
    omega (arith, a, b, c)

form_few : (d : Draft) (form : DraftForm) → IsThinForm d form → whole_size (weights (plain_of form)) ≤ daughter_count d.phrases + equation_count d.entries
form_few d form t =
    let a = sum_by-append (λ (w : Weight). w.size) (map rule_weight form.rules) (map reading_weight form.words) in
    let b = rules_few t.rules in
    let c = words_few (2 + length d.phrases) d.entries in
    let e : whole_size (map reading_weight form.words) ≡ whole_size (map reading_weight (entry_words (2 + length d.phrases) d.entries)) = ap (λ (ws : List WordForm). whole_size (map reading_weight ws)) t.words in
    omega (arith, a, b, c, e)

-- a thin file has few schemata
pub thin_few : (bytes : List ℕ) (g : Grammar) (t : ThinFile bytes g) (form : DraftForm) → IsThinForm t.draft form → whole_size (weights (plain_of form)) ≤ schema_limit
thin_few bytes g t form i =
    let a = form_few t.draft form i in
    let b = says_few t.lexemes t.draft t.says in
    let c = ap length (same_lexemes t.tokens t.lexemes t.spelled) in
    let d = tokens_few t.read in
    let e = chars_few bytes (thin_utf8 bytes t.plain) in
    let f = t.short in
    let k : length (notation.lexemes_of t.tokens) ≡ length t.tokens = length-map t.tokens (λ (u : Token). notation.lexeme_of u.kind u.text) in
    omega (arith, a, b, c, d, e, f, k)
