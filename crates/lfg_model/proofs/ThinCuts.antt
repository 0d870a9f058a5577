-- The lexemes of a thin file, cut as the notation cuts them: sections at dividers, entries at stops
-- and readings at semicolons.
use Rattle.std.proofs.Common.{◌≡◌, Bool, true, false, cond, ◌&&◌, ◌||◌, Option, Some, None, List, [], ◌∷◌, codes, refl, ap, sym, ◌∙◌, subst}
use Rattle.std.specs.List.{list_any}
use Rattle.std.proofs.lemmas.Bool.{false≢true}
use Rattle.lfg_model.specs.declared.lexeme.Lexeme.{Lexeme}
use Rattle.lfg_model.specs.declared.lexeme.Lexeme.TheVariants.{Word, Open, Close, Up, Equals, Stop, Divider, Semicolon, Star}
use Rattle.lfg_model.specs.declared.notation.SectionKind.{SectionKind}
use Rattle.lfg_model.specs.declared.notation.Separator.{Separator}
use Rattle.lfg_model.specs.declared.notation.Separator.TheVariants as at
use Rattle.lfg_model.specs.Drafts.{Section, kind_of, behind_kind, section_of}
use Rattle.lfg_model.specs.EntryNotation.{separates, Piece, onto, cut, is_in_set}
use Rattle.lfg_model.specs.Lists.{In, here, later}
use Rattle.lfg_model.specs.Nests.{◌>>=◌}
use Rattle.lfg_model.specs.Terms.{Name, same_name}
use Rattle.lfg_model.specs.Thin.{Equation}
use Rattle.lfg_model.specs.ThinText.{up_to, put_before, is_stop, is_divider, is_entry_end, behind_heading, in_set}
use Rattle.lfg_model.proofs.ListLaws.{In-nil}
use Rattle.lfg_model.proofs.ThinSides.{words_before, equations_before}
use Rattle.lfg_model.proofs.ThinTreeLaws.{same_from_test}

none_is : {X Y : Type 0} {x : X} → ◌≡◌ {A = Option X} None (Some x) → Y
none_is e = absurd (let no : ⊥ = cc in no)

same_some : {X : Type 0} (x y : X) → Some x ≡ Some y → x ≡ y
same_some x y e = cc

-- a piece that is ended
abbrev pub ended : List Lexeme → Piece
ended ls = record { lexemes = ls; is_ended = true }

-- ---- cutting

pub stops : (l : Lexeme) → separates at.Stop l ≡ is_stop l
stops Stop = refl
stops _ = refl

pub divides : (l : Lexeme) → separates at.Divider l ≡ is_divider l
divides Divider = refl
divides _ = refl

-- what is taken up to a separator is the first piece; all that is taken or left stands in the whole
pub record FirstCut (at : Separator) (ls front rest : List Lexeme) : Type 0 where
  pub cut : cut at ls ≡ ended front ∷ cut at rest
  pub in_front : (l : Lexeme) → In l front → In l ls
  pub in_rest : (l : Lexeme) → In l rest → In l ls

cut_taken : (at : Separator) (l : Lexeme) (ls : List Lexeme) → separates at l ≡ true → FirstCut at (l ∷ ls) [] ls
cut_taken at l ls b = record {
  cut = ap (λ (x : Bool). cond x (ended [] ∷ cut at ls) (onto l (cut at ls))) b;
  in_front = λ m i. In-nil i;
  in_rest = λ m i. later i;
}

cut_passed : (at : Separator) (l : Lexeme) (ls front rest : List Lexeme) → separates at l ≡ false → FirstCut at ls front rest → FirstCut at (l ∷ ls) (l ∷ front) rest
cut_passed at l ls front rest b f = record {
  cut = ap (λ (x : Bool). cond x (ended [] ∷ cut at ls) (onto l (cut at ls))) b ∙ ap (onto l) f.cut;
  in_front = λ m i. passed m i;
  in_rest = λ m i. later (f.in_rest m i);
}
  where
    passed : (m : Lexeme) → In m (l ∷ front) → In m (l ∷ ls)
    passed m here = here
    passed m (later i) = later (f.in_front m i)

-- what is put before the pieces
record PutBefore (l : Lexeme) (o : Option (List Lexeme × List Lexeme)) (front rest : List Lexeme) : Type 0 where
  others : List Lexeme
  was : o ≡ Some (others, rest)
  is : front ≡ l ∷ others

put_view : (l : Lexeme) (o : Option (List Lexeme × List Lexeme)) (front rest : List Lexeme) → put_before l o ≡ Some (front, rest) → PutBefore l o front rest
put_view l None front rest e = none_is e
put_view l (Some x) front rest e =
    subst (λ (p : List Lexeme × List Lexeme). PutBefore l (Some x) p.0 p.1) (same_some (l ∷ x.0, x.1) (front, rest) e) (record { others = x.0; was = refl; is = refl })

pub first_cut : (at : Separator) (ends : Lexeme → Bool) → ((l : Lexeme) → separates at l ≡ ends l) → (ls front rest : List Lexeme) → up_to ends ls ≡ Some (front, rest) → FirstCut at ls front rest
first_cut at ends same [] front rest e = none_is e
first_cut at ends same (l ∷ ls) front rest e = go (ends l) (same l) e (λ others f. first_cut at ends same ls others rest f)
  where
    go : (b : Bool) → separates at l ≡ b → cond b (Some ([], ls)) (put_before l (up_to ends ls)) ≡ Some (front, rest)
        → ((others : List Lexeme) → up_to ends ls ≡ Some (others, rest) → FirstCut at ls others rest) → FirstCut at (l ∷ ls) front rest
    go true b f r = subst (λ (p : List Lexeme × List Lexeme). FirstCut at (l ∷ ls) p.0 p.1) (same_some ([], ls) (front, rest) f) (cut_taken at l ls b)
    go false b f r =
        let v = put_view l (up_to ends ls) front rest f in
        subst (λ (us : List Lexeme). FirstCut at (l ∷ ls) us rest) (sym v.is) (cut_passed at l ls v.others rest b (r v.others v.was))

-- ---- readings

-- the lexemes behind any other are one piece, ended or not
record IsOnePiece (ls body : List Lexeme) : Type 0 where
  is_ended : Bool
  cut : (l : Lexeme) → onto l (cut at.Semicolon ls) ≡ record { lexemes = l ∷ body; is_ended = is_ended } ∷ []

piece_more : (l : Lexeme) (ls body : List Lexeme) → separates at.Semicolon l ≡ false → IsOnePiece ls body → IsOnePiece (l ∷ ls) (l ∷ body)
piece_more l ls body e p = record { is_ended = p.is_ended; cut = λ m. ap (λ (x : Bool). onto m (cond x (ended [] ∷ cut at.Semicolon ls) (onto l (cut at.Semicolon ls)))) e ∙ ap (onto m) (p.cut l) }

piece_words : (names : List Name) (ls body : List Lexeme) → IsOnePiece ls body → IsOnePiece (words_before names ls) (words_before names body)
piece_words [] ls body p = p
piece_words (a ∷ names) ls body p = piece_more (Word a) (words_before names ls) (words_before names body) refl (piece_words names ls body p)

piece_end : (end : List Lexeme) → is_entry_end end ≡ true → IsOnePiece end []
piece_end [] e = record { is_ended = false; cut = λ l. refl }
piece_end (Semicolon ∷ []) e = record { is_ended = true; cut = λ l. refl }
piece_end _ e = absurd (false≢true e)

piece_equations : (xs : List Equation) (end : List Lexeme) → is_entry_end end ≡ true → IsOnePiece (equations_before xs end) (equations_before xs [])
piece_equations [] end e = piece_end end e
piece_equations (x ∷ xs) end e =
    piece_more Open _ _ refl (piece_more Up _ _ refl (piece_words x.path _ _ (piece_more Close _ _ refl (piece_more Equals _ _ refl (piece_more (Word x.atom) _ _ refl (piece_equations xs end e))))))

-- the category, the star and the equations of a word are one piece
pub record IsReading (cat : Name) (ls body : List Lexeme) : Type 0 where
  pub is_ended : Bool
  pub cut : cut at.Semicolon (Word cat ∷ Star ∷ ls) ≡ record { lexemes = Word cat ∷ Star ∷ body; is_ended = is_ended } ∷ []

pub reading_cut : (cat : Name) (xs : List Equation) (end : List Lexeme) → is_entry_end end ≡ true → IsReading cat (equations_before xs end) (equations_before xs [])
reading_cut cat xs end e = let p = piece_more Star _ _ refl (piece_equations xs end e) in record { is_ended = p.is_ended; cut = p.cut (Word cat) }

-- ---- the name in_set

is_the_name : (l : Lexeme) → is_in_set l ≡ true → in_set ≡ l
is_the_name (Word name) e = ap Word (sym (same_from_test name (codes "in_set") e))
is_the_name _ e = absurd (false≢true e)

pub no_in_set : (ls : List Lexeme) → ¬ In in_set ls → list_any is_in_set ls ≡ false
no_in_set [] n = refl
no_in_set (l ∷ ls) n = go (is_in_set l) refl (no_in_set ls (λ i. n (later i)))
  where
    go : (b : Bool) → is_in_set l ≡ b → list_any is_in_set ls ≡ false → (is_in_set l || list_any is_in_set ls) ≡ false
    go true e r = absurd (n (subst (λ (m : Lexeme). In m (l ∷ ls)) (sym (is_the_name l e)) here))
    go false e r = ap (λ (b : Bool). b || list_any is_in_set ls) e ∙ r

-- ---- sections

both : (a b : Bool) → (a && b) ≡ true → (a ≡ true) × (b ≡ true)
both true b e = (refl, e)
both false b e = absurd (false≢true e)

tested : (b : Bool) (ls entries : List Lexeme) → cond b (Some ls) None ≡ Some entries → (b ≡ true) × (ls ≡ entries)
tested true ls entries e = (refl, same_some ls entries e)
tested false ls entries e = none_is e

pub section_view : (kind : Name) (section entries : List Lexeme) (k : SectionKind) → kind_of kind ≡ Some k → behind_heading kind section ≡ Some entries → section_of section ≡ Some (record { kind = k; entries = entries })
section_view kind (Word a ∷ Word b ∷ Word word ∷ Open ∷ Word one ∷ Stop ∷ Word nought ∷ Close ∷ rest) entries k e f =
    let t = tested ((same_name word kind && same_name one (codes "1")) && same_name nought (codes "0")) rest entries f in
    let h = both (same_name word kind && same_name one (codes "1")) (same_name nought (codes "0")) t.0 in
    let v = both (same_name word kind) (same_name one (codes "1")) h.0 in
    let w : kind_of word ≡ Some k = ap kind_of (same_from_test word kind v.0) ∙ e in
    ap (λ (o : Option SectionKind). o >>= λ x. behind_kind x (Open ∷ Word one ∷ Stop ∷ Word nought ∷ Close ∷ rest)) w
    ∙ ap (λ (x : Bool). cond x (cond (same_name nought (codes "0")) (section rest) None) None) v.1 ∙ ap (λ (x : Bool). cond x (section rest) None) h.1 ∙ ap section t.1
  where
    section : List Lexeme → Option Section
    section ls = Some (record { kind = k; entries = ls })
section_view kind _ entries k e f = none_is f

-- what stands behind the heading of a section stands in the section
pub in_section : (kind : Name) (section entries : List Lexeme) → behind_heading kind section ≡ Some entries → (l : Lexeme) → In l entries → In l section
in_section kind (Word a ∷ Word b ∷ Word word ∷ Open ∷ Word one ∷ Stop ∷ Word nought ∷ Close ∷ rest) entries f l i =
    let t = tested ((same_name word kind && same_name one (codes "1")) && same_name nought (codes "0")) rest entries f in
    later (later (later (later (later (later (later (later (subst (λ (us : List Lexeme). In l us) (sym t.1) i))))))))
in_section kind _ entries f l i = none_is f
