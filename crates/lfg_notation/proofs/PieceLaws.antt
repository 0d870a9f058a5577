-- Pieces one by one.
use Rattle.std.proofs.Common.{◌≡◌, ℕ, ◌<◌, Bool, true, false, cond, Option, Some, None, List, [], ◌∷◌, ◌++◌, length, refl, ap, sym, ◌∙◌, append_assoc, append-nil, arith}
use Rattle.std.proofs.Common.{◌+◌, ◌-◌, ◌≤◌, take, drop, get_or}
use Rattle.std.proofs.lemmas.List.{take_more, drop_more, take_rest, take_all}
use Rattle.std.proofs.Math.ListN.{drop_of_length-le}
use Rattle.lfg_model.specs.declared.lexeme.Lexeme.{Lexeme}
use Rattle.lfg_model.specs.declared.notation.Separator.{Separator}
use Rattle.lfg_model.specs.Nests.{◌>>=◌}
use Rattle.lfg_model.specs.Terms.{Name}
use Rattle.lfg_model.specs.DraftForms.{WordForm}
use Rattle.lfg_model.specs.EntryNotation.{Piece, onto, cut, separates, reading_of, readings_of, some_readings}

-- what was read, behind what had been read before
abbrev pub after : {X : Type 0} → List X → Option (List X) → Option (List X)
after xs o = o >>= λ ys. Some (xs ++ ys)

-- lexemes in front of the first piece
abbrev pub in_piece : List Lexeme → List Piece → List Piece
in_piece [] ps = ps
in_piece (l ∷ ls) ps = onto l (in_piece ls ps)

pub piece_more : (front : List Lexeme) (l : Lexeme) (ps : List Piece) → in_piece (front ++ (l ∷ [])) ps ≡ in_piece front (onto l ps)
piece_more [] l ps = refl
piece_more (k ∷ front) l ps = ap (onto k) (piece_more front l ps)

-- a piece that is ended, and one that is not
pub piece_ended : (front : List Lexeme) (ps : List Piece) → in_piece front (record { lexemes = []; is_ended = true } ∷ ps) ≡ record { lexemes = front; is_ended = true } ∷ ps
piece_ended [] ps = refl
piece_ended (k ∷ front) ps = ap (onto k) (piece_ended front ps)

pub piece_open : (l : Lexeme) (front : List Lexeme) → in_piece (l ∷ front) [] ≡ record { lexemes = l ∷ front; is_ended = false } ∷ []
piece_open l [] = refl
piece_open l (k ∷ front) = ap (onto l) (piece_open k front)

pub whole_open : (ls : List Lexeme) → 0 < length ls → in_piece ls [] ≡ record { lexemes = ls; is_ended = false } ∷ []
whole_open [] h = absurd (let no : ⊥ = omega arith in no)
whole_open (l ∷ ls) h = piece_open l ls

-- the first lexeme is the separator, or is not
pub cut_here : (at : Separator) (l : Lexeme) (ls : List Lexeme) → separates at l ≡ true → cut at (l ∷ ls) ≡ record { lexemes = []; is_ended = true } ∷ cut at ls
cut_here at l ls e = ap (λ (b : Bool). cond b (record { lexemes = []; is_ended = true } ∷ cut at ls) (onto l (cut at ls))) e

pub cut_later : (at : Separator) (l : Lexeme) (ls : List Lexeme) → separates at l ≡ false → cut at (l ∷ ls) ≡ onto l (cut at ls)
cut_later at l ls e = ap (λ (b : Bool). cond b (record { lexemes = []; is_ended = true } ∷ cut at ls) (onto l (cut at ls))) e

-- the separator is found, or looked for further on
pub found : (at : Separator) (ls : List Lexeme) (i : ℕ) (d : Lexeme) → i < length ls → cut at ls ≡ in_piece (take i ls) (cut at (drop i ls)) → separates at (get_or ls i d) ≡ true
    → cut at ls ≡ record { lexemes = take i ls; is_ended = true } ∷ cut at (take (length ls - (i + 1)) (drop (i + 1) ls))
found at ls i d h e s = e ∙ ap (λ (us : List Lexeme). in_piece (take i ls) (cut at us)) (drop_more ls i d h)
    ∙ ap (in_piece (take i ls)) (cut_here at (get_or ls i d) (drop (i + 1) ls) s) ∙ piece_ended (take i ls) (cut at (drop (i + 1) ls))
    ∙ ap (λ (us : List Lexeme). record { lexemes = take i ls; is_ended = true } ∷ cut at us) (sym (take_rest ls (i + 1)))

pub further : (at : Separator) (ls : List Lexeme) (i : ℕ) (d : Lexeme) → i < length ls → cut at ls ≡ in_piece (take i ls) (cut at (drop i ls)) → separates at (get_or ls i d) ≡ false
    → cut at ls ≡ in_piece (take (i + 1) ls) (cut at (drop (i + 1) ls))
further at ls i d h e s = e ∙ ap (λ (us : List Lexeme). in_piece (take i ls) (cut at us)) (drop_more ls i d h)
    ∙ ap (in_piece (take i ls)) (cut_later at (get_or ls i d) (drop (i + 1) ls) s) ∙ sym (piece_more (take i ls) (get_or ls i d) (cut at (drop (i + 1) ls)))
    ∙ ap (λ (us : List Lexeme). in_piece us (cut at (drop (i + 1) ls))) (sym (take_more ls i d h))

-- no separator is found
pub all_open : (at : Separator) (ls : List Lexeme) (i : ℕ) → 0 < length ls → length ls ≤ i → cut at ls ≡ in_piece (take i ls) (cut at (drop i ls)) → cut at ls ≡ record { lexemes = ls; is_ended = false } ∷ []
all_open at ls i h l e = e ∙ ap (λ (us : List Lexeme). in_piece us (cut at (drop i ls))) (take_all i ls l) ∙ ap (λ (us : List Lexeme). in_piece ls (cut at us)) (drop_of_length-le ls l) ∙ whole_open ls h

-- lexemes that are left give a piece at least
some_cut : (n : ℕ) (form : Name) (b : Bool) (l : Lexeme) (ps : List Piece)
    → readings_of n form (cond b (record { lexemes = []; is_ended = true } ∷ ps) (onto l ps)) ≡ some_readings n form (cond b (record { lexemes = []; is_ended = true } ∷ ps) (onto l ps))
some_cut n form true l ps = refl
some_cut n form false l [] = refl
some_cut n form false l (p ∷ ps) = refl

pub some_from_cut : (n : ℕ) (form : Name) (at : Separator) (ls : List Lexeme) → 0 < length ls → readings_of n form (cut at ls) ≡ some_readings n form (cut at ls)
some_from_cut n form at [] h = absurd (let no : ⊥ = omega arith in no)
some_from_cut n form at (l ∷ ls) h = some_cut n form (separates at l) l (cut at ls)

-- a turn of the loop over readings
after_put : {X : Type 0} (xs : List X) (x : X) (o : Option (List X)) → after xs (o >>= λ ys. Some (x ∷ ys)) ≡ after (xs ++ (x ∷ [])) o
after_put xs x None = refl
after_put {X} xs x (Some ys) = ap (λ (zs : List X). let o : Option (List X) = Some zs in o) (sym (append_assoc xs (x ∷ []) ys))

pub reading_on : (n : ℕ) (form : Name) (xs ys : List WordForm) (x : WordForm) (p : Piece) (ps qs : List Piece) → qs ≡ p ∷ ps → reading_of n form p.lexemes ≡ Some x → ys ≡ xs ++ (x ∷ [])
    → after ys (readings_of n form ps) ≡ after xs (readings_of n form qs)
reading_on n form xs ys x p ps qs c e q = ap (λ (zs : List WordForm). after zs (readings_of n form ps)) q
    ∙ sym (ap (λ (rs : List Piece). after xs (readings_of n form rs)) c
    ∙ ap (λ (o : Option WordForm). after xs (o >>= λ y. readings_of n form ps >>= λ zs. Some (y ∷ zs))) e ∙ after_put xs x (readings_of n form ps))

pub reading_none : (n : ℕ) (form : Name) (xs : List WordForm) (p : Piece) (ps qs : List Piece) → qs ≡ p ∷ ps → reading_of n form p.lexemes ≡ None
    → after xs (readings_of n form qs) ≡ None
reading_none n form xs p ps qs c e = ap (λ (rs : List Piece). after xs (readings_of n form rs)) c
    ∙ ap (λ (o : Option WordForm). after xs (o >>= λ y. readings_of n form ps >>= λ zs. Some (y ∷ zs))) e

pub readings_end : (n : ℕ) (form : Name) (at : Separator) (xs : List WordForm) (ls : List Lexeme) → length ls ≡ 0 → after xs (readings_of n form (cut at ls)) ≡ Some xs
readings_end n form at xs [] e = ap (λ (zs : List WordForm). let o : Option (List WordForm) = Some zs in o) (append-nil xs)
readings_end n form at xs (l ∷ ls) e = absurd (let no : ⊥ = omega arith in no)

-- a turn of the loop over pairs
pub pairs_after : (xs : List Name) (a b : Name) (o : Option (List Name)) → after xs (o >>= λ ys. Some (a ∷ b ∷ ys)) ≡ after ((xs ++ (a ∷ [])) ++ (b ∷ [])) o
pairs_after xs a b None = refl
pairs_after xs a b (Some ys) = ap (λ (zs : List Name). let o : Option (List Name) = Some zs in o) (sym (append_assoc (xs ++ (a ∷ [])) (b ∷ []) ys ∙ append_assoc xs (a ∷ []) (b ∷ ys)))
