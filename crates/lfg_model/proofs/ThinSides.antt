-- The items of a thin rule and the equations of a thin word, as the readers of the notation read them.
use Rattle.std.proofs.Common.{◌≡◌, ◌≢◌, ℕ, Bool, true, false, cond, ◌==◌, suc, length, arith, Option, Some, None, List, [], ◌∷◌, map, refl, ap, sym, ◌∙◌, subst}
use Rattle.std.proofs.lemmas.Bool.{eqb-true}
use Rattle.lfg_terms.specs.declared.grammar.Arrow.TheVariants as arrow
use Rattle.lfg_terms.specs.declared.grammar.Val.TheVariants as val
use Rattle.lfg_model.specs.declared.lexeme.Lexeme.{Lexeme}
use Rattle.lfg_model.specs.declared.lexeme.Lexeme.TheVariants.{Word, Open, Close, Up, Down, Equals, Colon, Semicolon}
use Rattle.lfg_model.specs.Nests.{◌>>=◌, Nest, readers, put, alone}
use Rattle.lfg_model.specs.PathExpressions.{PathExpression, attribute}
use Rattle.lfg_model.specs.PathNotation.{paths}
use Rattle.lfg_model.specs.RightSideNotation.{term_by, terms, begins_term, annotated_term, annotated}
use Rattle.lfg_model.specs.RightSides.{DraftSchema, define, no_schema, and_schema, RightSide, item}
use Rattle.lfg_model.specs.SchemaNotation.{schema_by, schemata, begins_schema, long_des, closed_left, behind_left}
use Rattle.lfg_model.specs.Terms.{Name}
use Rattle.lfg_model.specs.Thin.{Daughter, Equation}
use Rattle.lfg_model.specs.ThinDrafts.{link_schema, IsItem, unannotated, linked, AreItems, none, next, equation_schema}
use Rattle.lfg_model.specs.ThinText.{Row, done, more, is_nothing, is_entry_end, IsDaughter, daughter_at, bare, with_function, names_at, value_at, equation_at, IsEquation}
use Rattle.lfg_model.proofs.NestLaws.{GoesDown, row_is}
use Rattle.lfg_model.proofs.PathNotationLaws.{paths_down}
use Rattle.lfg_model.proofs.RightSideNotationLaws.{terms_down}
use Rattle.lfg_model.proofs.SchemaNotationLaws.{schemata_down}

-- ---- rows

-- an item is read, and no other begins behind it
row_last : {A B : Type 0} (nest : Nest A B) → GoesDown nest → (ls rest : List Lexeme) (x : A) → nest.item (readers nest) ls ≡ Some (x, rest) → nest.begins rest ≡ false
    → (readers nest).row ls ≡ Some (x ∷ [], rest)
row_last {A} nest d ls rest x e f =
    row_is nest d ls ∙ ap (λ (o : Option (A × List Lexeme)). o >>= λ y. cond (nest.begins y.1) (put y.0 ((readers nest).row y.1)) (alone y.0 y.1)) e
    ∙ ap (λ (b : Bool). cond b (put x ((readers nest).row rest)) (alone x rest)) f

-- an item is read, and others behind it
row_next : {A B : Type 0} (nest : Nest A B) → GoesDown nest → (ls rest end : List Lexeme) (x : A) (xs : List A) → nest.item (readers nest) ls ≡ Some (x, rest) → nest.begins rest ≡ true
    → (readers nest).row rest ≡ Some (xs, end) → (readers nest).row ls ≡ Some (x ∷ xs, end)
row_next {A} nest d ls rest end x xs e f g =
    row_is nest d ls ∙ ap (λ (o : Option (A × List Lexeme)). o >>= λ y. cond (nest.begins y.1) (put y.0 ((readers nest).row y.1)) (alone y.0 y.1)) e
    ∙ ap (λ (b : Bool). cond b (put x ((readers nest).row rest)) (alone x rest)) f ∙ ap (put x) g

-- ---- paths

-- the names, as lexemes before others
abbrev pub words_before : List Name → List Lexeme → List Lexeme
words_before [] ls = ls
words_before (a ∷ names) ls = Word a ∷ words_before names ls

path_read : (a : Name) (names : List Name) (rest : List Lexeme) → (readers paths).row (words_before (a ∷ names) (Close ∷ rest)) ≡ Some (map attribute (a ∷ names), Close ∷ rest)
path_read a [] rest = row_last paths paths_down (Word a ∷ Close ∷ rest) (Close ∷ rest) (attribute a) refl refl
path_read a (b ∷ names) rest =
    row_next paths paths_down (words_before (a ∷ b ∷ names) (Close ∷ rest)) (words_before (b ∷ names) (Close ∷ rest)) (Close ∷ rest) (attribute a) (map attribute (b ∷ names)) refl refl (path_read b names rest)

-- ---- what is left

none_is : {X Y : Type 0} {x : X} → ◌≡◌ {A = Option X} None (Some x) → Y
none_is e = absurd (let no : ⊥ = cc in no)

same_some : {X : Type 0} (x y : X) → Some x ≡ Some y → x ≡ y
same_some x y e = cc

not_nothing : {Y : Type 0} (n : ℕ) → (suc n == 0) ≡ true → Y
not_nothing n e = let h : suc n ≡ 0 = eqb-true (suc n) 0 e in absurd (let no : ⊥ = omega arith in no)

pub nothing_left : (ls : List Lexeme) → is_nothing ls ≡ true → ls ≡ []
nothing_left [] e = refl
nothing_left (l ∷ ls) e = not_nothing (length ls) e

-- ---- daughters

-- an item begins, or nothing is left
data ItemFront : List Lexeme → Type 0 where
  nothing : ItemFront []
  category : {cat : Name} {ls : List Lexeme} → ItemFront (Word cat ∷ ls)

item_front : (ls : List Lexeme) (xs : List Daughter) → Row is_nothing IsDaughter ls xs → ItemFront ls
unfolding daughter_at
item_front [] xs r = nothing
item_front (Word cat ∷ ls) xs r = category
item_front (_ ∷ ls) [] (done e) = not_nothing (length ls) e
item_front (_ ∷ ls) (x ∷ xs) (more e s r) = none_is s

-- the link of a daughter, as lexemes before others
abbrev link_before : Option Name → List Lexeme → List Lexeme
link_before None rest = Up ∷ Equals ∷ Down ∷ rest
link_before (Some a) rest = Open ∷ Up ∷ Word a ∷ Close ∷ Equals ∷ Down ∷ rest

-- what a designator with a path comes to
abbrev by_path : Option (List PathExpression × List Lexeme) → Option (DraftSchema × List Lexeme)
by_path o = (o >>= λ p. closed_left arrow.Up p.0 p.1) >>= λ l. behind_left l.0 l.1

link_read : (function : Option Name) (rest : List Lexeme) → begins_schema rest ≡ false → (readers schemata).row (link_before function rest) ≡ Some (link_schema function ∷ [], rest)
link_read None rest e = row_last schemata schemata_down (link_before None rest) rest (link_schema None) refl e
link_read (Some a) rest e = row_last schemata schemata_down (link_before (Some a) rest) rest (link_schema (Some a)) (ap by_path (path_read a [] (Equals ∷ Down ∷ rest))) e

-- the item in front is read
record ItemRead (ls : List Lexeme) (x : Daughter) (rest : List Lexeme) : Type 0 where
  side : RightSide
  is : IsItem x side
  read : term_by (readers terms) ls ≡ Some (side, rest)

-- the same for the item and the rest that were given
given : (ls ms : List Lexeme) (y x : Daughter) (rest : List Lexeme) → ItemRead ls y ms → ◌≡◌ {A = Option (Daughter × List Lexeme)} (Some (y, ms)) (Some (x, rest)) → ItemRead ls x rest
given ls ms y x rest r e = subst (λ (p : Daughter × List Lexeme). ItemRead ls p.0 p.1) (same_some (y, ms) (x, rest) e) r

-- an annotated item at the end, and one with a semicolon behind it
linked_read : (x : Daughter) → ItemRead (Word x.cat ∷ Colon ∷ link_before x.function []) x []
linked_read x = record {
  side = item x.cat (Some (and_schema (link_schema x.function) no_schema));
  is = linked;
  read = ap (λ (o : Option (List DraftSchema × List Lexeme)). o >>= λ a. annotated_term (annotated x.cat a.0) a.1) (link_read x.function [] refl);
}

ended_read : (x : Daughter) (rest : List Lexeme) → ItemRead (Word x.cat ∷ Colon ∷ link_before x.function (Semicolon ∷ rest)) x rest
ended_read x rest = record {
  side = item x.cat (Some (and_schema (link_schema x.function) no_schema));
  is = linked;
  read = ap (λ (o : Option (List DraftSchema × List Lexeme)). o >>= λ a. annotated_term (annotated x.cat a.0) a.1) (link_read x.function (Semicolon ∷ rest) refl);
}

daughter_read : (ls : List Lexeme) (x : Daughter) (rest : List Lexeme) → daughter_at ls ≡ Some (x, rest) → ItemFront rest → ItemRead ls x rest
unfolding daughter_at
daughter_read (Word cat ∷ []) x rest e f = given _ [] (bare cat) x rest (record { side = item cat None; is = unannotated refl; read = refl }) e
daughter_read (Word cat ∷ Word w ∷ ls) x rest e f = given _ (Word w ∷ ls) (bare cat) x rest (record { side = item cat None; is = unannotated refl; read = refl }) e
daughter_read (Word cat ∷ Colon ∷ Up ∷ Equals ∷ Down ∷ []) x rest e f = given _ [] (bare cat) x rest (linked_read (bare cat)) e
daughter_read (Word cat ∷ Colon ∷ Up ∷ Equals ∷ Down ∷ Semicolon ∷ ls) x rest e f = given _ ls (bare cat) x rest (ended_read (bare cat) ls) e
daughter_read (Word cat ∷ Colon ∷ Open ∷ Up ∷ Word a ∷ Close ∷ Equals ∷ Down ∷ []) x rest e f = given _ [] (with_function cat a) x rest (linked_read (with_function cat a)) e
daughter_read (Word cat ∷ Colon ∷ Open ∷ Up ∷ Word a ∷ Close ∷ Equals ∷ Down ∷ Semicolon ∷ ls) x rest e f = given _ ls (with_function cat a) x rest (ended_read (with_function cat a) ls) e
daughter_read (Word cat ∷ Colon ∷ _) x rest e f = none_is e
daughter_read (Word cat ∷ l ∷ ls) x rest e f =
    let g : ItemFront (l ∷ ls) = subst ItemFront (sym (ap (λ (p : Daughter × List Lexeme). p.1) (same_some (bare cat, l ∷ ls) (x, rest) e))) f in
    elim g [ ]
daughter_read _ x rest e f = none_is e

-- the items of a rule are read
pub record ItemsRead (ls : List Lexeme) (xs : List Daughter) : Type 0 where
  pub sides : List RightSide
  pub are : AreItems xs sides
  pub read : (readers terms).row ls ≡ Some (sides, [])

front_begins : (ls : List Lexeme) → ItemFront ls → is_nothing ls ≡ false → begins_term ls ≡ true
front_begins [] nothing e = sym e
front_begins (Word cat ∷ ls) category e = refl
front_begins (_ ∷ ls) front e = elim front [ ]

pub items_read : (ls : List Lexeme) (xs : List Daughter) → Row is_nothing IsDaughter ls xs → xs ≢ [] → ItemsRead ls xs
items_read ls [] r n = absurd (n refl)
items_read ls (x ∷ []) (more {rest = rest} e s (done f)) n =
    let h = daughter_read ls x rest s (item_front rest [] (done f)) in
    record {
      sides = h.side ∷ [];
      are = next h.is none;
      read = row_last terms terms_down ls rest h.side h.read (ap begins_term (nothing_left rest f)) ∙ ap (λ (us : List Lexeme). some (h.side ∷ []) us) (nothing_left rest f);
    }
  where
    some : List RightSide → List Lexeme → Option (List RightSide × List Lexeme)
    some xs us = Some (xs, us)
items_read ls (x ∷ y ∷ ys) (more {rest = rest} e s (more f t r)) n =
    let front = item_front rest (y ∷ ys) (more f t r) in
    let h = daughter_read ls x rest s front in
    let k = items_read rest (y ∷ ys) (more f t r) (λ z. no_list z) in
    record { sides = h.side ∷ k.sides; are = next h.is k.are; read = row_next terms terms_down ls rest [] h.side k.sides h.read (front_begins rest front f) k.read }
  where
    no_list : {z : Daughter} {zs : List Daughter} → z ∷ zs ≡ [] → ⊥
    no_list e = cc

-- ---- equations

-- an equation has a path of one attribute at least
pub record IsFull (x : Equation) : Type 0 where
  pub first : Name
  pub others : List Name
  pub is : x.path ≡ first ∷ others

abbrev pub AreFull : List Equation → Type 0
AreFull [] = Unit {0}
AreFull (x ∷ xs) = IsFull x × AreFull xs

-- an equation, and equations, as lexemes before others
abbrev pub equation_before : Equation → List Lexeme → List Lexeme
equation_before x rest = Open ∷ Up ∷ words_before x.path (Close ∷ Equals ∷ Word x.atom ∷ rest)

abbrev pub equations_before : List Equation → List Lexeme → List Lexeme
equations_before [] rest = rest
equations_before (x ∷ xs) rest = equation_before x (equations_before xs rest)

path_schema : (path : List Name) (first : Name) (others : List Name) (atom : Name) (rest : List Lexeme) → path ≡ first ∷ others
    → schema_by (readers schemata) (Open ∷ Up ∷ words_before path (Close ∷ Equals ∷ Word atom ∷ rest)) ≡ Some (define (long_des arrow.Up (map attribute path)) (val.Atom atom), rest)
path_schema path first others atom rest e =
    subst (λ (p : List Name). schema_by (readers schemata) (Open ∷ Up ∷ words_before p (Close ∷ Equals ∷ Word atom ∷ rest)) ≡ Some (define (long_des arrow.Up (map attribute p)) (val.Atom atom), rest)) (sym e)
    (ap by_path (path_read first others (Equals ∷ Word atom ∷ rest)))

equation_read : (x : Equation) → IsFull x → (rest : List Lexeme) → schema_by (readers schemata) (equation_before x rest) ≡ Some (equation_schema x, rest)
equation_read x f rest = path_schema x.path f.first f.others x.atom rest f.is

pub equations_read : (x : Equation) (xs : List Equation) → AreFull (x ∷ xs) → (readers schemata).row (equations_before (x ∷ xs) []) ≡ Some (map equation_schema (x ∷ xs), [])
equations_read x [] f = row_last schemata schemata_down (equation_before x []) [] (equation_schema x) (equation_read x f.0 []) refl
equations_read x (y ∷ ys) f =
    row_next schemata schemata_down (equations_before (x ∷ y ∷ ys) []) (equations_before (y ∷ ys) []) [] (equation_schema x) (map equation_schema (y ∷ ys)) (equation_read x f.0 (equations_before (y ∷ ys) [])) refl
    (equations_read y ys f.1)

-- the names in front and what is behind them are all
names_view : (ls : List Lexeme) → ls ≡ words_before (names_at ls).0 (names_at ls).1
names_view [] = refl
names_view (Word a ∷ ls) = ap (λ (us : List Lexeme). Word a ∷ us) (names_view ls)
names_view (_ ∷ ls) = refl

record IsWritten (ls : List Lexeme) (x : Equation) (rest : List Lexeme) : Type 0 where
  full : IsFull x
  is : ls ≡ equation_before x rest

record IsValue (names : List Name) (ls : List Lexeme) (x : Equation) (rest : List Lexeme) : Type 0 where
  full : IsFull x
  path : names ≡ x.path
  is : ls ≡ Close ∷ Equals ∷ Word x.atom ∷ rest

value_view : (names : List Name) (ls : List Lexeme) (x : Equation) (rest : List Lexeme) → value_at (names, ls) ≡ Some (x, rest) → IsValue names ls x rest
value_view (a ∷ names) (Close ∷ Equals ∷ Word atom ∷ ls) x rest e =
    subst (λ (p : Equation × List Lexeme). IsValue (a ∷ names) (Close ∷ Equals ∷ Word atom ∷ ls) p.0 p.1) (same_some (record { path = a ∷ names; atom = atom }, ls) (x, rest) e)
    (record { full = record { first = a; others = names; is = refl }; path = refl; is = refl })
value_view _ _ x rest e = none_is e

equation_view : (ls : List Lexeme) (x : Equation) (rest : List Lexeme) → equation_at ls ≡ Some (x, rest) → IsWritten ls x rest
unfolding equation_at
equation_view (Open ∷ Up ∷ ls) x rest e =
    let v = value_view (names_at ls).0 (names_at ls).1 x rest e in
    record { full = v.full; is = ap (λ (us : List Lexeme). Open ∷ Up ∷ us) (names_view ls ∙ (λ i. words_before (v.path i) (v.is i))) }
equation_view _ x rest e = none_is e

-- the lexemes are these equations and an end
pub record EquationsWritten (ls : List Lexeme) (xs : List Equation) : Type 0 where
  pub full : AreFull xs
  pub end : List Lexeme
  pub ends : is_entry_end end ≡ true
  pub are : ls ≡ equations_before xs end

pub equations_view : (ls : List Lexeme) (xs : List Equation) → Row is_entry_end IsEquation ls xs → EquationsWritten ls xs
equations_view ls [] (done e) = record { full = tt; end = ls; ends = e; are = refl }
equations_view ls (x ∷ xs) (more {rest = rest} e s r) =
    let v = equation_view ls x rest s in
    let k = equations_view rest xs r in
    record { full = (v.full, k.full); end = k.end; ends = k.ends; are = v.is ∙ ap (equation_before x) k.are }
